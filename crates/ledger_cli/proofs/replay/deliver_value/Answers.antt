use Rattle.std.proofs.Common.{Err, Option, subst}
use Rattle.stream_out.specs.Replays as stream
use Rattle.stream_out.specs.ReadRecords.{IsReadAs}
use Rattle.stream_out.specs.declared.record.Record.{Record}
use Rattle.ledger_cli.proofs.Replaying.{delivered_so, differs_so, no_record, not_below, value_of}
use Rattle.ledger_cli.proofs.replay.deliver_value.Goals as goal

pub returns-in_default : goal.returns-in_default
returns-in_default c =
    let v = c.args.value.now in
    λ before count has.
    no_record before c.args.at count v c.args.replay.now has
    (subst (λ (found : Option Record). IsReadAs v found) c.in_default.is c.in_ok-found.ensures)

pub unreachable-requires : goal.unreachable-requires
unreachable-requires c =
    let v = c.args.value.now in
    let r = c.in-Some.record in
    let front = c.requires.front in
    not_below front.values c.args.at front.count_is v c.args.replay.now c.deliver.new.self front.has r
    (value_of r v (subst (λ (found : Option Record). IsReadAs v found) c.in-Some.is c.in_ok-found.ensures) c.requires.within)
    c.in-Err-Below.field-0-0 c.in-Err-Below.field-0-1
    (subst (λ f. stream.Delivers front.has.records r c.args.replay.now (Err f) c.deliver.new.self) c.in-Err-Below.field-0-is
    (c.in-Err-Below.ensures.delivers front.has.records front.has.holds))

pub returns-in-Ok : goal.returns-in-Ok
returns-in-Ok c =
    let v = c.args.value.now in
    let r = c.in-Some.record in
    λ before count has.
    delivered_so before c.args.at count v c.args.replay.now c.deliver.new.self has r
    (value_of r v (subst (λ (found : Option Record). IsReadAs v found) c.in-Some.is c.in_ok-found.ensures) c.requires.within)
    c.in-Ok.field-0 c.in-Ok.ensures.from (c.in-Ok.ensures.delivers has.records has.holds)

pub returns-in-Err-Differs : goal.returns-in-Err-Differs
returns-in-Err-Differs c =
    let v = c.args.value.now in
    let r = c.in-Some.record in
    λ before count has.
    differs_so before c.args.at count v c.args.replay.now c.deliver.new.self has r
    (value_of r v (subst (λ (found : Option Record). IsReadAs v found) c.in-Some.is c.in_ok-found.ensures) c.requires.within)
    c.in-Err-Differs.sequence
    (subst (λ f. stream.Delivers has.records r c.args.replay.now (Err f) c.deliver.new.self) c.in-Err-Differs.field-0-is
    (c.in-Err-Differs.ensures.delivers has.records has.holds))
