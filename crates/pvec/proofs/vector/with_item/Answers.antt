use Rattle.std.proofs.Common.{◌≡◌, ◌/◌, ◌%◌, None, Some, sym, ap, ◌∙◌}
use Rattle.std.specs.Prelude.{slice_get}
use Rattle.std.specs.Option.{option_copied}
use Rattle.std.proofs.lemmas.Option.{none-some}
use Rattle.pvec.proofs.Places.{places, middle_has, leaf_has, changed_by}
use Rattle.pvec.proofs.vector.with_item.Goals as goal

pub unreachable-requires : goal.unreachable-requires
unreachable-requires g c =
    let all = places c.args.upper.now c.args.i c.requires.levelled c.requires.within in
    none-some all.0 (sym (ap option_copied c.in_default.is) ∙ c.member.ensures ∙ all.2)

pub unreachable-requires-in_default-member : goal.unreachable-requires-in_default-member
unreachable-requires-in_default-member g c =
    let middle = sym c.in-Some.ensures ∙ ap Some (sym (c.as_slice-middle.ensures ∙ c.get.ensures)) in
    let all = middle_has c.args.upper.now c.args.i c.requires.levelled c.requires.within c.as_slice-middle.result.now middle in
    none-some all.0 (sym (ap option_copied c.in_default-member.is) ∙ c.member-2.ensures ∙ all.1)

pub replaced-requires : goal.replaced-requires
replaced-requires g c =
    let middle = sym c.in-Some.ensures ∙ ap Some (sym (c.as_slice-middle.ensures ∙ c.get.ensures)) in
    let leaf = sym c.in-Some-member.ensures ∙ ap Some (sym (c.as_slice-leaf.ensures ∙ c.get-2.ensures)) in
    (leaf_has c.args.upper.now c.args.i c.requires.levelled c.requires.within c.as_slice-middle.result.now middle c.as_slice-leaf.result.now leaf).1

pub returns : goal.returns
returns g c =
    let middle = sym c.in-Some.ensures ∙ ap Some (sym (c.as_slice-middle.ensures ∙ c.get.ensures)) in
    let leaf = sym c.in-Some-member.ensures ∙ ap Some (sym (c.as_slice-leaf.ensures ∙ c.get-2.ensures)) in
    changed_by c.args.upper.now c.args.i c.requires.levelled c.requires.within c.as_slice-middle.result.now middle c.as_slice-leaf.result.now leaf
    c.args.item c.in_ok-leaf.leaf c.in_ok-middle.middle c.in_ok-new.new (c.in_ok-leaf.ensures ∙ c.in_ok-replaced.ensures)
    (c.in_ok-middle.ensures ∙ c.in_ok-replaced-2.ensures) c.in_ok-new.ensures
