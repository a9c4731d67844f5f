use Rattle.std.proofs.Common.{◌<◌, ◌≤◌, length, sym, ◌∙◌, arith}
use Rattle.versions.proofs.Trees.{index_all, index_next, index_start}
use Rattle.versions.proofs.indexes.built.Goals as goal

pub documents-init : goal.documents-init
documents-init c = index_start c.args.latest.now c.args.index.now c.new-postings.result c.new-postings.ensures

pub documents-preserved : goal.documents-preserved
documents-preserved c =
    let within : c.documents.at < length c.args.latest.now = omega (arith, c.documents-test.true, c.len-at-end.ensures) in
    index_next c.args.latest.now c.args.index.now c.documents.postings c.in_ok-postings.postings c.documents.at c.in-Some.document.now c.in_ok-key.key _
    (sym c.in-Some.ensures) within c.in_ok-key.ensures c.as_ref.ensures.value c.in_ok-postings.ensures c.documents.invariant

pub returns : goal.returns
returns c =
    let past : length c.args.latest.now ≤ c.documents.at = omega (arith, c.documents-test.false, c.len-at-end.ensures) in
    index_all c.args.latest.now c.args.index.now c.documents.postings c.documents.at past c.documents.invariant
