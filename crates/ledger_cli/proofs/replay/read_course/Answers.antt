use Rattle.std.proofs.Common.{◌≡◌, ◌≤◌, ◌++◌, ℕ, List, Result, Err, length, length-append, take, drop, refl, sym, subst, ◌∙◌, arith, rules}
use Rattle.std.proofs.KnownBytes.{Consumes-trans}
use Rattle.std.proofs.lemmas.List.{take-append-le}
use Rattle.laws_history.specs.Calls.{span}
use Rattle.laws_history.specs.Streams.{WasRead}
use Rattle.ledger_cli.specs.Replaying.{CourseOf, Reads}
use Rattle.ledger_cli.specs.declared.command_fault.CommandFault.{CommandFault}
use Rattle.ledger_cli.specs.declared.replay.Course.{Course}
use Rattle.ledger_cli.proofs.Pieces.{length-taken}
use Rattle.ledger_cli.proofs.Replaying.{ends_replays}
use Rattle.ledger_cli.proofs.replay.read_course.Goals as goal

pub returns-in_err-course-clause-came : goal.returns-in_err-course-clause-came
returns-in_err-course-clause-came g c =
    let told = g.So.Source.told in
    let source = span (told c.args.source.now) (told c.read.new.self) in
    let front = c.pieces.invariant.so_far in
    let read : WasRead source front.0 = search rules in
    let out : c.from_residual.result ≡ Err c.in_err-course.field-0.0 = search rules in
    subst (λ (r : Result Course CommandFault). CourseOf r source) (sym out)
    (ends_replays source front.0 read (omega (arith, front.2, c.pieces-test.true)) (c.in-Ok.ensures.cause.fine refl ∙ c.pieces.invariant.fine) c.in_err-course.field-0.0
    (c.in_err-course.ensures front.0 front.3))

pub returns-in_err-reading-clause-few : goal.returns-in_err-reading-clause-few
returns-in_err-reading-clause-few g c =
    let last = take c.in-Ok.count c.read.new.out in
    let front = c.pieces.invariant.so_far in
    let short : length last ≤ c.in-Ok.count = length-taken c.read.new.out c.in-Ok.count in
    let room : length (take c.min-room.result c.pieces.piece) ≤ c.min-room.result = length-taken c.pieces.piece c.min-room.result in (
      front.0 ++ last,
      record {
        consumed = Consumes-trans _ _ _ front.0 last front.1 c.in-Ok.ensures.bytes.0;
        few = omega (arith, length-append front.0 last, front.2, c.in-Ok.ensures.bound, c.read.auto.out, short, room);
      },
    )

pub pieces-preserved : goal.pieces-preserved
pieces-preserved g c =
    let last = take c.in-Ok.count c.read.new.out in
    let front = c.pieces.invariant.so_far in
    let len : length last ≡ c.in-Ok.count = sym c.in-Ok.ensures.bound.1 in
    let room : length (take c.min-room.result c.pieces.piece) ≤ c.min-room.result = length-taken c.pieces.piece c.min-room.result in
    let rest = drop c.min-room.result c.pieces.piece in
    let alone : take c.in-Ok.count (c.read.new.out ++ rest) ≡ last = take-append-le c.in-Ok.count c.read.new.out rest c.in-Ok.ensures.bound.0 in
    record {
      few = omega (arith, c.in-Ok.ensures.bound, c.read.auto.out, room);
      fine = c.in-Ok.ensures.cause.fine refl ∙ c.pieces.invariant.fine;
      so_far = (
        front.0 ++ last,
        Consumes-trans _ _ _ front.0 last front.1 c.in-Ok.ensures.bytes.0,
        omega (arith, length-append front.0 last, front.2, len),
        subst (λ (bs : List ℕ). Reads (front.0 ++ bs) c.in_ok-reading.reading) alone (c.in_ok-reading.ensures front.0 front.3),
      );
    }
