-- The bytes of a store after a cut and an append.
use Rattle.std.proofs.Common.{◌≡◌, ◌∙◌, ℕ, List, ◌++◌, ap, Option, Some, None}
use Rattle.std.specs.Prelude.{option_map}

-- one step behind another
pub behind : (clear : List ℕ → List ℕ) (line : List ℕ) (before cut now : Option (List ℕ)) → cut ≡ option_map clear before
    → now ≡ option_map (λ held. held ++ line) cut → now ≡ option_map (λ held. clear held ++ line) before
behind clear line None cut now e f = f ∙ ap (option_map (λ held. held ++ line)) e
behind clear line (Some x) cut now e f = f ∙ ap (option_map (λ held. held ++ line)) e
