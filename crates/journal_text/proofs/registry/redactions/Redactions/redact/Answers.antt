use Rattle.ledger_model.specs.State.{state}
use Rattle.journal_text.proofs.Taken.{refused_latest, refused_unnamed, taken_by}
use Rattle.journal_text.proofs.registry.redactions.Redactions.redact.Goals as goal

pub returns-then-is_latest : goal.returns-then-is_latest
returns-then-is_latest c = λ earlier h documents.
    refused_latest c.args.before.now earlier c.args.at.address c.args.at.table c.args.at.document c.is_latest.result c.args.self.now
    (c.is_latest.ensures (state c.args.before.now).revisions documents) c.if-is_latest.true

pub returns-then-not-is_among : goal.returns-then-not-is_among
returns-then-not-is_among c = λ earlier h documents.
    refused_unnamed c.args.before.now earlier c.args.at.address c.args.at.table c.args.at.document c.is_among.result c.args.self.now c.requires c.is_among.ensures
    c.if-not-is_among.true

pub returns : goal.returns
returns c = λ earlier h documents.
    taken_by c.args.before.now earlier c.args.at.address c.args.at.table c.args.at.document c.is_latest.result c.is_among.result c.in_ok-is_new.is_new c.args.self.now _ h c.requires
    (c.is_latest.ensures (state c.args.before.now).revisions documents) c.if-is_latest.false c.is_among.ensures c.if-not-is_among.false
    c.in_ok-is_new.ensures.added c.in_ok-is_new.ensures.updates.0
