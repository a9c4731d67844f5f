use Rattle.std.proofs.Common.{◌≡◌, [], ◌-◌, ◌<◌, length, None, Some, sym, ap, ◌∙◌, arith}
use Rattle.std.specs.Prelude.{slice_get}
use Rattle.std.specs.Option.{option_copied}
use Rattle.pvec.proofs.Growth.{grown_in_leaf_by, grown_in_middle_by, grown_in_upper_by, not_empty, empty_from_none}
use Rattle.pvec.proofs.vector.grown.Goals as goal

pub unreachable-requires : goal.unreachable-requires
unreachable-requires g c =
    let middle = c.as_slice-middle.result.now in
    let found = sym c.in-Some.ensures.value ∙ ap Some (sym (c.as_slice-middle.ensures ∙ c.get.ensures)) in
    let some : 0 < length middle = not_empty c.args.upper.now middle c.requires found in
    let none : slice_get middle (length middle - 1) ≡ None = sym c.last-2.ensures.value ∙ ap option_copied c.in_default-last.is in
    let empty : middle ≡ [] = empty_from_none middle none in
    omega (arith, ap length empty)

pub returns-then-leaf-lt-FULL : goal.returns-then-leaf-lt-FULL
returns-then-leaf-lt-FULL g c =
    grown_in_leaf_by c.args.upper.now c.as_slice-middle.result.now c.as_slice-leaf.result.now c.args.item
    (sym c.in-Some.ensures.value ∙ ap Some (sym (c.as_slice-middle.ensures ∙ c.get.ensures)))
    (sym c.in-Some-last.ensures.value ∙ ap Some (sym (c.as_slice-leaf.ensures ∙ c.get-2.ensures)))
    c.requires c.in_ok-leaf.leaf c.in_ok-middle.middle c.in_ok-new-2.new (omega arith)
    (c.in_ok-leaf.ensures ∙ c.in_ok-pushed.ensures) (c.in_ok-middle.ensures ∙ c.in_ok-replaced.ensures) c.in_ok-new-2.ensures

pub returns-then-middle-lt-FULL : goal.returns-then-middle-lt-FULL
returns-then-middle-lt-FULL g c =
    grown_in_middle_by c.args.upper.now c.as_slice-middle.result.now c.as_slice-leaf.result.now c.args.item
    (sym c.in-Some.ensures.value ∙ ap Some (sym (c.as_slice-middle.ensures ∙ c.get.ensures)))
    (sym c.in-Some-last.ensures.value ∙ ap Some (sym (c.as_slice-leaf.ensures ∙ c.get-2.ensures)))
    c.requires c.in_ok-leaf-2.leaf c.in_ok-middle-2.middle c.in_ok-new-3.new (omega arith) (omega arith)
    (c.in_ok-leaf-2.ensures ∙ c.in_ok-single.ensures) (c.in_ok-middle-2.ensures ∙ c.in_ok-pushed-2.ensures) c.in_ok-new-3.ensures

pub returns : goal.returns
returns g c =
    grown_in_upper_by c.args.upper.now c.as_slice-middle.result.now c.as_slice-leaf.result.now c.args.item
    (sym c.in-Some.ensures.value ∙ ap Some (sym (c.as_slice-middle.ensures ∙ c.get.ensures)))
    (sym c.in-Some-last.ensures.value ∙ ap Some (sym (c.as_slice-leaf.ensures ∙ c.get-2.ensures)))
    c.requires c.in_ok-leaf-2.leaf c.in_ok-middle-3.middle c.in_ok-new-4.new (omega arith) (omega arith)
    (c.in_ok-leaf-2.ensures ∙ c.in_ok-single.ensures) (c.in_ok-middle-3.ensures ∙ c.in_ok-single-2.ensures) c.in_ok-new-4.ensures
