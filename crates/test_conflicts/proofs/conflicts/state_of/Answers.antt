use Rattle.std.proofs.Common.{◌≡◌, ◌∙◌, ℕ, ◌+◌, ◌<◌, List, [], ◌∷◌, ◌++◌, length, take, get_or, refl, sym, ap}
use Rattle.std.proofs.lemmas.List.{take_more}
use Rattle.ledger_model.specs.declared.block.Block.{Block}
use Rattle.ledger_model.specs.State.{State, state, state_from, after}
use Rattle.test_conflicts.proofs.conflicts.state_of.Goals as goal

state_from-more : (s : State) (bs : List Block) (b : Block) → state_from s (bs ++ b ∷ []) ≡ after (state_from s bs) b
state_from-more s [] b = refl
state_from-more s (c ∷ cs) b = state_from-more (after s c) cs b

-- the version of one block more
version-next : (blocks : List Block) (i : ℕ) (b : Block) (version now : State) → i < length blocks → b ≡ get_or blocks i b
    → version ≡ state (take i blocks) → now ≡ after version b → now ≡ state (take (i + 1) blocks)
version-next blocks i b version now within is so_far joins =
    let more : take (i + 1) blocks ≡ take i blocks ++ b ∷ [] = take_more blocks i b within ∙ ap (λ (x : Block). take i blocks ++ x ∷ []) (sym is) in
    joins ∙ ap (λ (s : State). after s b) so_far ∙ sym (ap state more ∙ state_from-more _ (take i blocks) b)

pub followed-preserved : goal.followed-preserved
followed-preserved c =
    version-next c.args.blocks.now c.followed.block-index c.block-item.result c.followed.now c.in_ok-next.next c.followed-test.true c.block-item.is
    c.followed.invariant c.in_ok-next.ensures
