use Rattle.std.proofs.Common.{◌∙◌, ap, sym, nat_cmp, arith}
use Rattle.std.specs.BTreeMap.{get}
use Rattle.ledger_model.specs.State.{recorded_in}
use Rattle.journal_text.proofs.Recorded.{none_behind, then_latest, then_latest-append}
use Rattle.journal_text.proofs.registry.documents.Documents.record.Goals as goal

pub returns : goal.returns
returns c = λ before h id.
    let gone = none_behind c.args.tables.now c.args.revisions.now c.revisions.at (omega arith) in
    sym (ap (λ rs. then_latest rs id (get nat_cmp c.revisions.self.latest id)) gone)
    ∙ c.revisions.invariant id
    ∙ then_latest-append before (recorded_in c.args.tables.now c.args.revisions.now) id (get nat_cmp c.args.self.now.latest id) (h id)
