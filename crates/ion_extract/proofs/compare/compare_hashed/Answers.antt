use Rattle.std.proofs.Common.{◌≡◌, ◌∙◌, true, sym, ap, subst, Option}
use Rattle.sha2.specs.Sha256.{sha256}
use Rattle.ion_extract.specs.Compared.{Finds}
use Rattle.ion_extract.proofs.Cases.{collision, differ, same}
use Rattle.ion_values.specs.Equivalent.{is_equivalent}
use Rattle.ion_extract.specs.declared.find.Pair.{Pair}
use Rattle.ion_extract.proofs.Walks.{apart, equal}
use Rattle.ion_extract.proofs.compare.compare_hashed.Goals as goal

pub returns-then-ne : goal.returns-then-ne
returns-then-ne c =
    let left = c.digest.ensures ∙ ap sha256 (c.as_slice.ensures ∙ c.in_ok-first.ensures) in
    let right = c.digest-2.ensures ∙ ap sha256 (c.as_slice-2.ensures ∙ c.in_ok-second.ensures) in
    differ c.args.v.now c.args.w.now
    (λ e. apart c.ne.result c.digest.result c.digest-2.result c.ne.ensures c.if-ne.true (left ∙ e ∙ sym right))

pub returns-then-equivalent : goal.returns-then-equivalent
returns-then-equivalent c = same c.args.v.now c.args.w.now (sym c.equivalent.ensures ∙ c.if-equivalent.true)

pub returns-then-ne-2 : goal.returns-then-ne-2
returns-then-ne-2 c =
    let left = c.digest.ensures ∙ ap sha256 (c.as_slice.ensures ∙ c.in_ok-first.ensures) in
    let right = c.digest-2.ensures ∙ ap sha256 (c.as_slice-2.ensures ∙ c.in_ok-second.ensures) in
    let hashes = sym left ∙ equal c.ne.result c.digest.result c.digest-2.result c.ne.ensures c.if-ne.false ∙ right in
    collision c.args.v.now c.args.w.now c.in_ok-first.first c.in_ok-second.second hashes (sym c.equivalent.ensures ∙ c.if-equivalent.false)
    (record {
      differ = λ e. apart c.ne-2.result c.as_slice-3.result.now c.as_slice-4.result.now c.ne-2.ensures c.if-ne-2.true (c.as_slice-3.ensures ∙ e ∙ sym c.as_slice-4.ensures);
      same = ap sha256 c.in_ok-first.ensures ∙ hashes ∙ sym (ap sha256 c.in_ok-second.ensures);
    })

pub returns-in-Some : goal.returns-in-Some
returns-in-Some c =
    let v = c.args.v.now in
    let w = c.args.w.now in
    let left = c.digest.ensures ∙ ap sha256 (c.as_slice.ensures ∙ c.in_ok-first.ensures) in
    let right = c.digest-2.ensures ∙ ap sha256 (c.as_slice-2.ensures ∙ c.in_ok-second.ensures) in
    let hashes = sym left ∙ equal c.ne.result c.digest.result c.digest-2.result c.ne.ensures c.if-ne.false ∙ right in
    let found = subst (λ (x : Option Pair). Finds (is_equivalent v w ≡ true) x) c.in-Some.is c.in_ok-first-2.ensures in
    collision v w c.in-Some.field-0.first c.in-Some.field-0.second hashes (sym c.equivalent.ensures ∙ c.if-equivalent.false) found
