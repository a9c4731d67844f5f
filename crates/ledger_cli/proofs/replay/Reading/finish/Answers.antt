use Rattle.std.proofs.Common.{List, Ok, ◌++◌, subst}
use Rattle.ion_values.specs.declared.value.Value.{Value}
use Rattle.ledger_cli.specs.Replaying.{CameTo}
use Rattle.ledger_cli.proofs.Replaying.{text_ends}
use Rattle.ledger_cli.proofs.replay.Reading.finish.Goals as goal

pub returns-in-Ok : goal.returns-in-Ok
returns-in-Ok c =
    let last = c.in-Ok.values in
    let course = c.in_ok-course-in-Ok.course in
    λ input reads.
    record {
      values = reads.values ++ last;
      text_of = text_ends input reads.values c.args.self.reader reads.text_of (Ok last) c.in-Ok.ensures.gives;
      came =
          subst (λ (vs : List Value). CameTo (reads.values ++ vs) course) c.as_slice.ensures
          (c.in_ok-course-in-Ok.ensures reads.values reads.came);
    }
