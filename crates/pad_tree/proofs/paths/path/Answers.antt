use Rattle.std.proofs.Common.{length, arith, ◌≡◌, ◌∙◌, ◌++◌, List, get_or, append-nil, sym, ap}
use Rattle.std.specs.Prelude.{unwrap_or}
use Rattle.pad_tree.specs.Paths.{sibling_of}
use Rattle.ql_types.specs.declared.Hash32.{Hash32}
use Rattle.pad_tree.specs.Level.{IsNextLevel}
use Rattle.pad_tree.proofs.PathLevels.{path_over-more, path_over-one, length-path_of}
use Rattle.pad_tree.proofs.paths.path.Goals as goal

pub levels-preserved : goal.levels-preserved
levels-preserved c =
    let next : IsNextLevel c.levels.pad c.levels.level.items c.in_ok-level-2.level.items = rw c.deref-in-levels.ensures.value at c.in_ok-level-2.ensures in
    let found : c.unwrap_or.result ≡ get_or c.levels.level.items (sibling_of c.levels.place) c.levels.pad =
    c.unwrap_or.ensures ∙ ap (λ found. unwrap_or found c.levels.pad) c.copied.ensures
    ∙ c.get.ensures.lookup.4 (omega arith) c.levels.pad
    ∙ ap (λ i. get_or c.deref.result.now i c.levels.pad) c.sibling.ensures
    ∙ ap (λ (xs : List Hash32). get_or xs (sibling_of c.levels.place) c.levels.pad) c.deref.ensures.value in (
      rw c.dot_full-pad.ensures (path_over-more _ _ _ _ _ _ _ next (omega arith) c.in_ok-push.ensures.items found ∙ c.levels.invariant.0),
      (let half = next.half in omega (arith, half)),
    )

pub returns-clause-siblings : goal.returns-clause-siblings
returns-clause-siblings c = c.from_vec.ensures ∙ sym (append-nil c.levels.siblings.items)
    ∙ ap (λ rest. c.levels.siblings.items ++ rest) (sym (path_over-one c.levels.pad c.levels.level.items c.levels.place (omega arith)))
    ∙ c.levels.invariant.0

pub returns-clause-long : goal.returns-clause-long
returns-clause-long c = ap length (returns-clause-siblings c) ∙ length-path_of c.args.leaves.now c.args.i
