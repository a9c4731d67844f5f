use Rattle.std.proofs.Common.{◌≤◌, length, sym, ◌∙◌, arith}
use Rattle.std.proofs.lemmas.List.{take_all}
use Rattle.versions.proofs.Newest.{lent_next}
use Rattle.versions.proofs.latest.all_lent.Goals as goal

pub documents-preserved : goal.documents-preserved
documents-preserved c =
    lent_next c.documents.all c.push.new.self c.in-Some.document c.args.documents.now c.documents.at (sym c.in-Some.ensures) c.in_ok-push.ensures.ok c.documents.invariant

pub returns : goal.returns
returns c =
    let past : length c.args.documents.now ≤ c.documents.at = omega (arith, c.documents-test.false, c.len-at-end.ensures) in
    c.documents.invariant ∙ take_all c.documents.at c.args.documents.now past
