use Rattle.std.proofs.Common.{◌≡◌, ℕ, Bool, true, false, ◌||◌, not, List, [], ◌∷◌, refl, ap, sym, ◌∙◌}
use Rattle.std.specs.List.{filter, list_any}
use Rattle.ion_model.specs.Blanks.{is_space}
use Rattle.ion_lexer.proofs.blobs.blob_bytes.Goals as goal

neither : (a b : Bool) → (a || b) ≡ false → (a ≡ false) × (b ≡ false)
neither true b h = absurd (cc)
neither false b h = (refl, h)

all_stay : (bytes : List ℕ) → list_any is_space bytes ≡ false → filter (λ b. not (is_space b)) bytes ≡ bytes
all_stay [] h = refl
all_stay (b ∷ more) h =
    let parts = neither (is_space b) (list_any is_space more) h in
    rw parts.0 (ap (λ z. b ∷ z) (all_stay more parts.1))

pub returns-then-not-has_white : goal.returns-then-not-has_white
returns-then-not-has_white c =
    rw (all_stay c.args.bytes.now (sym c.has_white.ensures ∙ c.if-not-has_white.true)) c.base64_bytes.ensures
