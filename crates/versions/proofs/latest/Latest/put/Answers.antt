use Rattle.std.proofs.Common.{◌≡◌, List, Some, None, sym, ap, subst, ◌∙◌}
use Rattle.std.specs.Prelude.{IfOk}
use Rattle.versions.specs.declared.recorded.Recorded.{Recorded}
use Rattle.versions.specs.Newest.{id_of}
use Rattle.versions.specs.Places.{ids_of, place_in}
use Rattle.versions.proofs.Places.{put-at, put-new}
use Rattle.versions.proofs.latest.Latest.put.Goals as goal

pub replace-requires : goal.replace-requires
replace-requires c = ap (λ (r : Recorded). place_in (ids_of c.args.self.now) (id_of r)) (sym c.deref.ensures) ∙ sym c.place_of.ensures ∙ c.in-Some.is

pub append-requires : goal.append-requires
append-requires c = ap (λ (r : Recorded). place_in (ids_of c.args.self.now) (id_of r)) (sym c.deref.ensures) ∙ sym c.place_of.ensures ∙ c.in-None.is

pub returns-in-Some : goal.returns-in-Some
returns-in-Some c =
    let place : place_in (ids_of c.args.self.now) (id_of c.args.item.value) ≡ Some c.in-Some.at =
    ap (λ (r : Recorded). place_in (ids_of c.args.self.now) (id_of r)) (sym c.deref.ensures) ∙ sym c.place_of.ensures ∙ c.in-Some.is in
    subst (λ (x : List Recorded). IfOk c.replace.result (λ new. new ≡ x)) (sym (put-at c.args.self.now c.args.item.value c.in-Some.at place)) c.replace.ensures

pub returns-in-None : goal.returns-in-None
returns-in-None c =
    let place : place_in (ids_of c.args.self.now) (id_of c.args.item.value) ≡ None =
    ap (λ (r : Recorded). place_in (ids_of c.args.self.now) (id_of r)) (sym c.deref.ensures) ∙ sym c.place_of.ensures ∙ c.in-None.is in
    subst (λ (x : List Recorded). IfOk c.append.result (λ new. new ≡ x)) (sym (put-new c.args.self.now c.args.item.value place)) c.append.ensures
