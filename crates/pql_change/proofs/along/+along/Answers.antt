use Rattle.std.proofs.Common.{◌≡◌, ◌<◌, ◌∙◌, IfOk, subst, sym, ap, length, get_or, arith, to_z-of_z}
use Rattle.pql_model.specs.Changes.{place_below, place_of}
use Rattle.pql_change.specs.Edits.{at_end, done}
use Rattle.pql_change.proofs.Lists.{element_changed, field_changed}
use Rattle.pql_change.proofs.Paths.{from_first}
use Rattle.pql_change.proofs.along.+along.Goals as goal

pub changed-returns-in-len1-up : goal.changed-returns-in-len1-up
changed-returns-in-len1-up t c =
    subst
    (λ x. IfOk c.inside.result (λ w. w ≡ x))
    (from_first (done c.args.edit) c.args.path.now c.first-item.result c.args.v c.in-len1-up.len_at_least c.first-item.is)
    c.inside.ensures

pub in_element-returns : goal.in_element-returns
in_element-returns t c =
    let items = c.into_vec-values.result.items in
    let taken = c.replace-value.ensures.value in
    let is : c.replace-value.result ≡ get_or items c.in-Some.place c.replace-value.result =
    taken ∙ c.index_mut.ensures.value ∙ ap (get_or items c.in-Some.place) (sym taken) in
    element_changed
    (at_end (done c.args.edit) c.args.path.now)
    c.args.values
    items
    c.args.place
    c.len.result
    c.in-Some.place
    c.replace-value.new.dest
    c.replace-value.result
    c.in_ok-values.field-0
    c.from_vec.result
    c.into_vec-values.ensures
    c.len.ensures
    (c.in-Some.ensures.place ∙ ap (place_below c.len.result) (to_z-of_z c.ranges.place))
    c.in-Some.ensures.within
    is
    c.in_ok-values.ensures
    c.from_vec.ensures

pub in_field-returns : goal.in_field-returns
in_field-returns t c =
    let items = c.into_vec-fields.result.items in
    let taken = c.replace-name.ensures.value in
    let is : c.replace-name.result ≡ get_or items c.in-Some.place c.replace-name.result =
    taken ∙ c.index_mut.ensures.value ∙ ap (get_or items c.in-Some.place) (sym taken) in
    let within : c.in-Some.place < length c.args.fields = omega (arith, ap length c.as_slice.ensures, c.in-Some.ensures.within) in
    field_changed
    (at_end (done c.args.edit) c.args.path.now)
    c.args.name.now
    _
    c.args.fields
    items
    c.in-Some.place
    c.replace-name.new.dest
    c.replace-name.result
    c.in_ok-value.value
    c.from_vec.result
    c.into_vec-fields.ensures
    (c.in-Some.ensures.place ∙ ap (place_of c.args.name.now) c.as_slice.ensures)
    within
    is
    (cc)
    c.in_ok-value.ensures
    c.from_vec.ensures
