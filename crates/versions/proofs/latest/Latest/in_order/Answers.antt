use Rattle.std.proofs.Common.{◌≡◌, ◌≤◌, List, length, get_or, ap, sym, ◌∙◌, arith}
use Rattle.std.specs.Option.{option_copied}
use Rattle.std.proofs.lemmas.Option.{get_or_from_slice_get, slice_get-get_or}
use Rattle.std.proofs.lemmas.List.{take_all}
use Rattle.ql_types.specs.declared.DocId.{DocId}
use Rattle.versions.specs.Filing.{places_from}
use Rattle.versions.specs.Lookups.{is_one_of}
use Rattle.versions.proofs.Among.{order_next, order_start}
use Rattle.versions.proofs.Filing.{members_at}
use Rattle.versions.proofs.Members.{found}
use Rattle.versions.proofs.Newest.{lent_values}
use Rattle.versions.proofs.latest.Latest.in_order.Goals as goal

pub ids-init : goal.ids-init
ids-init c = order_start c.args.self.now (lent_values c.new-all.result) (ap lent_values c.new-all.ensures)

pub ids-preserved : goal.ids-preserved
ids-preserved c =
    let none : DocId = record { raw = 0 } in
    let id = get_or c.args.ids.now c.ids.id-index none in
    let there : id ≡ get_or c.args.ids.now c.ids.id-index id =
    sym (get_or_from_slice_get c.args.ids.now c.ids.id-index id id (slice_get-get_or c.args.ids.now c.ids.id-index none c.ids-test.true)) in
    order_next c.args.self.now c.args.ids.now c.ids.id-index id c.place_of-place.result c.ids.last c.last_with-last.result (option_copied c.get_at.result)
    (lent_values c.ids.all) (lent_values c.push_some.new.all) c.requires c.ids-test.true there c.place_of-place.ensures (sym c.is_behind.ensures ∙ c.if-not-is_behind.false)
    c.last_with-last.ensures c.get_at.ensures c.in_ok-push_some.ensures c.ids.invariant

pub returns : goal.returns
returns c =
    let past : length c.args.ids.now ≤ c.ids.id-index = omega arith in
    c.ids.invariant.0
    ∙ ap (λ (some : List DocId). found c.args.self.now (places_from (is_one_of some) 0 c.args.self.now)) (take_all c.ids.id-index c.args.ids.now past)
    ∙ members_at (is_one_of c.args.ids.now) c.args.self.now
