-- A proof by the tree of all blocks is that for the last block as the tip, and so are its refusals.
use Rattle.std.proofs.Common.{◌≡◌, ◌∙◌, ℕ, ◌+◌, ◌-◌, ◌<◌, ◌≤◌, List, [], ◌∷◌, length, Option, Some, refl, sym, ap, subst, arith}
use Rattle.std.proofs.lemmas.List.{length-map}
use Rattle.std.specs.Prelude.{IfSome, slice_get}
use Rattle.ql_types.specs.declared.Hash32.{Hash32}
use Rattle.pad_tree.specs.Paths.{path_of}
use Rattle.ledger_model.specs.declared.block.Block.{Block}
use Rattle.proof_model.specs.declared.Proof.{Proof}
use Rattle.proof_model.specs.Issued.{block_hashes, proof_for}
use Rattle.proof_model.proofs.Ends.{all_hashes}
use Rattle.proof_issue.specs.Parts.{proof_with}
use Rattle.proof_issue.specs.Refusals.{refusal, refusal_at_end}
use Rattle.proof_issue.specs.declared.NoSuch.TheVariants as none_such

pub is_for_the_end :
    (blocks : List Block) (b : Block) (sequence index : ℕ) (leaves above : List Hash32) (p : Proof) → leaves ≡ block_hashes blocks → above ≡ path_of leaves sequence
    → p ≡ proof_with b index above → p ≡ proof_for blocks b sequence index (length blocks - 1)
is_for_the_end blocks b sequence index leaves above p is path made =
    made ∙ ap (λ (xs : List Hash32). proof_with b index xs) (path ∙ ap (λ (xs : List Hash32). path_of xs sequence) (is ∙ all_hashes blocks))

pub found_for_the_end :
    (blocks : List Block) (b : Block) (sequence index : ℕ) (p : Proof) → slice_get blocks sequence ≡ Some b → p ≡ proof_for blocks b sequence index (length blocks - 1)
    → IfSome (slice_get blocks sequence) (λ b. p ≡ proof_for blocks b sequence index (length blocks - 1))
found_for_the_end blocks b sequence index p at is =
    subst (λ (found : Option Block). IfSome found (λ b. p ≡ proof_for blocks b sequence index (length blocks - 1))) (sym at) is

pub no_blocks : (blocks : List Block) (sequence index : ℕ) → length blocks < 1 → refusal_at_end blocks sequence index ≡ Some (none_such.Block sequence 0)
no_blocks [] sequence index none = refl
no_blocks (b ∷ blocks) sequence index none = absurd (omega (arith, none))

pub some_blocks : (blocks : List Block) (sequence index tip : ℕ) → tip + 1 ≡ length blocks → refusal_at_end blocks sequence index ≡ refusal blocks sequence index tip
some_blocks [] sequence index tip end = absurd (omega (arith, end))
some_blocks (b ∷ blocks) sequence index tip end = let last : length blocks ≡ tip = omega (arith, end) in ap (refusal (b ∷ blocks) sequence index) last

pub has_leaf : (blocks : List Block) (leaves : List Hash32) (sequence tip : ℕ) → leaves ≡ block_hashes blocks → sequence ≤ tip → tip < length blocks → sequence < length leaves
has_leaf blocks leaves sequence tip is within room =
    let long : length leaves ≡ length blocks = ap length is ∙ length-map blocks (λ (b : Block). b.hash) in
    omega (arith, long, within, room)
