use Rattle.std.proofs.Common.{sym, subst}
use Rattle.stream_out.specs.declared.record.Record.{Record}
use Rattle.stream_out.specs.Replays.{Keeps}
use Rattle.stream_out.proofs.Kept.{created_kept, completed_kept}
use Rattle.stream_out.proofs.replay.Replay.keep.Goals as goal

pub returns-in-Created-clause-keeps : goal.returns-in-Created-clause-keeps
returns-in-Created-clause-keeps c = λ kept h. created_kept kept c.args.told c.args.self.now c.in-Created.is h

pub returns-in-Completed-clause-keeps : goal.returns-in-Completed-clause-keeps
returns-in-Completed-clause-keeps c = λ kept h. completed_kept kept c.args.told c.args.self.now c.in-Completed.is h

pub returns-in-Summary-clause-keeps : goal.returns-in-Summary-clause-keeps
returns-in-Summary-clause-keeps c = λ kept h.
    subst (λ (r : Record). Keeps kept r c.args.self.now c.keep_summary.result c.keep_summary.new.self) (sym c.in-Summary.is)
    (c.keep_summary.ensures.keeps kept h)

pub returns-in-Details-clause-keeps : goal.returns-in-Details-clause-keeps
returns-in-Details-clause-keeps c = λ kept h.
    subst (λ (r : Record). Keeps kept r c.args.self.now c.keep_details.result c.keep_details.new.self) (sym c.in-Details.is)
    (c.keep_details.ensures.keeps kept h)
