use Rattle.std.proofs.Common.{◌∙◌, sym}
use Rattle.tree_descent.proofs.Stops.{apart, equal}
use Rattle.tree_descent.proofs.collision.stop_if_different.Goals as goal

pub returns-then-ne : goal.returns-then-ne
returns-then-ne c = record {
  differ = λ e. apart c.ne.result c.as_slice.result.now c.as_slice-2.result.now c.ne.ensures c.if-ne.true
      (c.as_slice.ensures ∙ e ∙ sym c.as_slice-2.ensures);
  same = c.requires;
}

pub returns : goal.returns
returns c =
    sym c.as_slice.ensures ∙ equal c.ne.result c.as_slice.result.now c.as_slice-2.result.now c.ne.ensures c.if-ne.false
    ∙ c.as_slice-2.ensures
