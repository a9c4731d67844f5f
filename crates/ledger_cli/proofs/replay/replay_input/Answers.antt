use Rattle.std.proofs.Common.{[], append-nil, subst}
use Rattle.laws_history.specs.Calls.{span}
use Rattle.ledger_cli.specs.Replaying.{IsUndelivered}
use Rattle.ledger_cli.proofs.Replaying.{replayed_so, undelivered_replays}
use Rattle.ledger_cli.proofs.replay.replay_input.Goals as goal

pub returns-in-Delivered-clause-replays : goal.returns-in-Delivered-clause-replays
returns-in-Delivered-clause-replays g c =
    let told = g.So.Source.told in
    let is = rw c.in-Delivered.is at c.in_ok-replay.ensures.came in
    replayed_so (span (told c.args.source.now) (told c.read_course.new.source)) is.input is.read is.short is.fine is.came.values is.came.text_of
    c.deliveries_rebuild.ensures c.in-Delivered.replay is.came.came.0 c.of_replay.result c.of_replay.ensures

pub returns-in-Stopped-clause-replays : goal.returns-in-Stopped-clause-replays
returns-in-Stopped-clause-replays g c =
    let told = g.So.Source.told in
    let is = rw c.in-Stopped.is at c.in_ok-replay.ensures.came in
    let values = is.came.values in
    undelivered_replays (span (told c.args.source.now) (told c.read_course.new.source)) is.input is.read is.short is.fine values is.came.text_of
    c.in-Stopped.why (subst (λ vs. IsUndelivered c.in-Stopped.why vs) (append-nil values) (is.came.came []))
