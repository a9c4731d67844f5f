use Rattle.std.proofs.Common.{arith, ◌∙◌, ap}
use Rattle.std.specs.Prelude.{slice_get}
use Rattle.pad_tree.proofs.Next.{root_over-next, root_over-one}
use Rattle.pad_tree.proofs.root.Goals as goal

pub levels-preserved : goal.levels-preserved
levels-preserved c =
    rw c.dot_full-pad.ensures
    (root_over-next _ _ _ (rw c.deref.ensures.value at c.in_ok-level-2.ensures) (omega arith) ∙ c.levels.invariant)

pub returns-in-Some-clause-tree : goal.returns-in-Some-clause-tree
returns-in-Some-clause-tree c =
    let first = c.in-Some.ensures.value ∙ ap (λ xs. slice_get xs 0) c.deref-2.ensures.value in
    root_over-one c.levels.pad c.in-Some.top.now c.levels.level.items (omega arith) first ∙ c.levels.invariant
