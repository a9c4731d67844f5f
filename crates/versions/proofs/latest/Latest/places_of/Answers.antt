use Rattle.std.proofs.Common.{◌≡◌, ◌≤◌, List, length, get_or, ap, sym, ◌∙◌, arith}
use Rattle.std.proofs.lemmas.Option.{get_or_from_slice_get, slice_get-get_or}
use Rattle.std.proofs.lemmas.List.{take_all}
use Rattle.ql_types.specs.declared.DocId.{DocId}
use Rattle.versions.specs.Filing.{places_from}
use Rattle.versions.specs.Lookups.{is_one_of}
use Rattle.versions.proofs.Among.{place_put, places_start}
use Rattle.versions.proofs.latest.Latest.places_of.Goals as goal

pub ids-init : goal.ids-init
ids-init c = places_start c.args.self.now c.new-places.result.entries c.new-places.ensures.empty

pub ids-preserved : goal.ids-preserved
ids-preserved c =
    let none : DocId = record { raw = 0 } in
    let id = get_or c.args.ids.now c.ids.id-index none in
    let there : id ≡ get_or c.args.ids.now c.ids.id-index id =
    sym (get_or_from_slice_get c.args.ids.now c.ids.id-index id id (slice_get-get_or c.args.ids.now c.ids.id-index none c.ids-test.true)) in
    place_put c.args.self.now c.args.ids.now c.ids.id-index id c.place_of.result c.ids.places.entries c.put_place.new.places.entries c.requires
    c.ids-test.true there c.place_of.ensures c.in_ok-put_place.ensures c.ids.invariant

pub returns : goal.returns
returns c =
    let past : length c.args.ids.now ≤ c.ids.id-index = omega arith in
    c.ids.invariant ∙ ap (λ (some : List DocId). places_from (is_one_of some) 0 c.args.self.now) (take_all c.ids.id-index c.args.ids.now past)
