use Rattle.ledger_model.specs.Journal.{said_in}
use Rattle.ledger_model.specs.Legal.{asked_in}
use Rattle.laws_footprint.proofs.laws.meaning_is_kept.Goals as goal

pub returns : goal.returns
returns c = λ mask blocks since b m beside none. record {
  number = m.number;
  progress = m.progress;
  id = m.id;
  runs =
      c.transaction_is_framed.ensures (record { mask = mask; number = m.number }) blocks since
      (asked_in (said_in b.info.said)) m.progress m.runs beside none;
  said = m.said;
  schema = m.schema;
  revisions = m.revisions;
}
