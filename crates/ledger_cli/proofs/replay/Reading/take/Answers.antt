use Rattle.std.proofs.Common.{List, ◌++◌, subst}
use Rattle.ion_values.specs.declared.value.Value.{Value}
use Rattle.ledger_cli.specs.Replaying.{CameTo}
use Rattle.ledger_cli.proofs.Replaying.{text_more}
use Rattle.ledger_cli.proofs.replay.Reading.take.Goals as goal

pub returns : goal.returns
returns c =
    let handed = c.in_ok-values.values in
    let course = c.in_ok-course.course in
    λ input reads.
    record {
      values = reads.values ++ handed;
      text_of =
          text_more input reads.values c.args.self.reader reads.text_of c.args.piece.now handed c.in_ok-values.reader
          c.in_ok-values.ensures.gives;
      came =
          subst (λ (vs : List Value). CameTo (reads.values ++ vs) course) c.as_slice.ensures
          (c.in_ok-course.ensures reads.values reads.came);
    }
