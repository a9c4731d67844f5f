use Rattle.std.proofs.Common.{◌≡◌, ◌∙◌, true, sym, ap, arith}
use Rattle.std.specs.List.{All}
use Rattle.sha2.specs.Sha256.{sha256}
use Rattle.ion_values.specs.Equivalent.{is_equivalent, is_equivalent_body}
use Rattle.ion_extract.specs.Laws.{AreOne}
use Rattle.ion_extract.proofs.Arms.{after_list, after_scalar, after_sexp, after_struct}
use Rattle.ion_extract.proofs.Levels.{bytes_determine_bodies, value_told}
use Rattle.ion_extract.proofs.Structs.{hashes_determine_fields}
use Rattle.ion_extract.proofs.Walks.{all_last, apart, found_for, one_field, one_form, other_hashes}
use Rattle.ion_extract.proofs.find.+find.Goals.{find_in_bodies-in_default-via-in-List+in_default, find_in_bodies-in_default-via-in-Sexp+in_default, find_in_bodies-in_default-via-in-Struct+in_default, find_in_bodies-in_default-via-in_default}
use Rattle.ion_extract.proofs.find.+find.Goals as goal

pub find-returns : goal.find-returns
find-returns t c =
    found_for (is_equivalent_body c.args.v.now.body c.args.w.now.body ≡ true) (is_equivalent c.args.v.now c.args.w.now ≡ true) (value_told c.args.v.now c.args.w.now c.requires) c.find_in_bodies.result c.find_in_bodies.ensures

pub find_in_bodies-returns-in_default : goal.find_in_bodies-returns-in_default
find_in_bodies-returns-in_default t c =
    let a = c.args.a.now in
    let b = c.args.b.now in
    let told = bytes_determine_bodies a b c.requires.1 c.requires.2 c.requires.0 in
    elim c.in_default.branch [
      | find_in_bodies-in_default-via-in-List+in_default w ↦ after_list a b _ w.in_default.is-0 w.in_default.not-List-1 told
      | find_in_bodies-in_default-via-in-Sexp+in_default w ↦ after_sexp a b _ w.in_default.is-0 w.in_default.not-Sexp-1 told
      | find_in_bodies-in_default-via-in-Struct+in_default w ↦ after_struct a b _ w.in_default.is-0 w.in_default.not-Struct-1 told
      | find_in_bodies-in_default-via-in_default w ↦
          after_scalar a b w.in_default.not-List-0 w.in_default.not-Sexp-0 w.in_default.not-Struct-0 told
    ]

pub find_in_fields-returns : goal.find_in_fields-returns
find_in_fields-returns t c =
    hashes_determine_fields c.args.fs.now c.args.gs.now c.requires
    (all_last (λ f. All (AreOne f) c.args.gs.now) c.args.fs.now c.fields.field-index (omega (arith, c.fields-test.false)) c.fields.invariant)

pub find_in_pair-returns-then-ne : goal.find_in_pair-returns-then-ne
find_in_pair-returns-then-ne t c =
    let left = c.digest.ensures ∙ ap sha256 (c.as_slice.ensures ∙ c.in_ok-first.ensures) in
    let right = c.digest-2.ensures ∙ ap sha256 (c.as_slice-2.ensures ∙ c.in_ok-second.ensures) in
    other_hashes c.args.f.now c.args.g.now
    (λ e. apart c.ne.result c.digest.result c.digest-2.result c.ne.ensures c.if-ne.true (left ∙ e ∙ sym right))

pub find_in_pair-returns : goal.find_in_pair-returns
find_in_pair-returns t c =
    found_for (is_equivalent c.args.f.now.value c.args.g.now.value ≡ true) (AreOne c.args.f.now c.args.g.now)
    (one_field c.args.f.now c.args.g.now
    (one_form c.args.f.now c.args.g.now c.in_ok-first.first c.in_ok-second.second c.as_slice-3.result.now c.as_slice-4.result.now c.ne-2.result c.in_ok-first.ensures c.in_ok-second.ensures c.as_slice-3.ensures c.as_slice-4.ensures c.ne-2.ensures c.if-ne-2.false))
    c.find.result c.find.ensures
