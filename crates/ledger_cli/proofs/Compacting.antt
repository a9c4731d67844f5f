-- The line of the next block behind those of the blocks in front.
use Rattle.std.proofs.Common.{◌≡◌, ◌∙◌, ◌<◌, ◌+◌, ℕ, List, ◌∷◌, ◌++◌, append_assoc, length, get_or, drop, sym, ap}
use Rattle.std.specs.List.{flat_map}
use Rattle.std.proofs.lemmas.List.{drop_more}
use Rattle.ledger_model.specs.declared.block.Block.{Block}

pub lines_on : (f : Block → List ℕ) (blocks : List Block) (i : ℕ) (b : Block) (old new : List ℕ) → i < length blocks → b ≡ get_or blocks i b
    → new ≡ old ++ f b → old ++ flat_map f (drop i blocks) ≡ flat_map f blocks → new ++ flat_map f (drop (i + 1) blocks) ≡ flat_map f blocks
lines_on f blocks i b old new within is new_is so_far =
    let rest : List ℕ = flat_map f (drop (i + 1) blocks) in
    ap (λ (bytes : List ℕ). bytes ++ rest) new_is
    ∙ append_assoc old (f b) rest
    ∙ ap (λ (bs : List Block). old ++ flat_map f bs) (ap (λ (x : Block). x ∷ drop (i + 1) blocks) is ∙ sym (drop_more blocks i b within))
    ∙ so_far
