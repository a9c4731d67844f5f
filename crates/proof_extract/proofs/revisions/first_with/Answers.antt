use Rattle.std.proofs.Common.{get_or, arith}
use Rattle.std.specs.Prelude.{slice_get}
use Rattle.std.proofs.lemmas.Option.{slice_get-get_or}
use Rattle.proof_extract.specs.Extracts.{IsFirst}
use Rattle.proof_extract.proofs.Firsts.{none_has, none_up_to, other_bytes, same_bytes}
use Rattle.proof_extract.proofs.Found.{some_there}
use Rattle.proof_extract.proofs.revisions.first_with.Goals as goal

pub revisions-init : goal.revisions-init
revisions-init c = λ i other less is. absurd (omega (arith, less))

pub returns-then-eq : goal.returns-then-eq
returns-then-eq c =
    let revisions = c.args.revisions.now in
    let h = c.args.hash.now in
    let at = c.revisions.at in
    let own = get_or revisions at c.index-revisions-at.result in
    let there = slice_get-get_or revisions at c.index-revisions-at.result (omega arith) in
    some_there (IsFirst revisions h at) (slice_get revisions at) own there (record {
      is = there;
      hash = same_bytes own.hash h c.eq.result c.eq.ensures c.if-eq.true;
      least = c.revisions.invariant;
    })

pub revisions-preserved : goal.revisions-preserved
revisions-preserved c =
    let revisions = c.args.revisions.now in
    let at = c.revisions.at in
    let own = get_or revisions at c.index-revisions-at.result in
    none_up_to revisions c.args.hash.now at own (slice_get-get_or revisions at c.index-revisions-at.result (omega arith))
    (other_bytes own.hash c.args.hash.now c.eq.result c.eq.ensures c.if-eq.false) c.revisions.invariant

pub returns : goal.returns
returns c = none_has c.args.revisions.now c.args.hash.now c.revisions.at (omega arith) c.revisions.invariant
