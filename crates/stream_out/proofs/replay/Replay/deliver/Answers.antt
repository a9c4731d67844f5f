use Rattle.std.proofs.Common.{◌≡◌, Result, Err, sym, subst, rules}
use Rattle.stream_out.specs.declared.replay.ReplayFault.{ReplayFault}
use Rattle.stream_out.specs.declared.replay.ReplayFault.TheVariants as fault
use Rattle.stream_out.specs.Replays.{Delivers}
use Rattle.stream_out.proofs.Kept.{delivers_kept, delivers_lost, delivers_refused}
use Rattle.stream_out.proofs.replay.Replay.deliver.Goals as goal

pub returns-in_err-keep-clause-delivers : goal.returns-in_err-keep-clause-delivers
returns-in_err-keep-clause-delivers c = λ kept h.
    let out : c.from_residual.result ≡ Err c.in_err-keep.field-0.0 = search rules in
    subst (λ (o : Result (Unit {0}) ReplayFault). Delivers kept c.args.told c.args.self.now o c.keep.new.self) (sym out)
    (delivers_refused kept c.args.told c.args.self.now c.keep.new.self c.in_err-keep.field-0.0 (c.in_err-keep.ensures.keeps kept h))

pub returns-in_err-settle-clause-delivers : goal.returns-in_err-settle-clause-delivers
returns-in_err-settle-clause-delivers c = λ kept h.
    let out : c.from_residual-in_err-settle.result ≡ Err fault.OutOfMemory = search rules in
    subst (λ (o : Result (Unit {0}) ReplayFault). Delivers kept c.args.told c.args.self.now o c.settle.new.self) (sym out)
    (delivers_lost kept c.args.told c.args.self.now c.keep.new.self c.settle.new.self (c.in_ok-keep.ensures.keeps kept h)
    (λ held. c.settle.ensures.holds _ held))

pub returns-clause-delivers : goal.returns-clause-delivers
returns-clause-delivers c = λ kept h.
    delivers_kept kept c.args.told c.args.self.now c.keep.new.self c.settle.new.self (c.in_ok-keep.ensures.keeps kept h)
    (λ held. c.settle.ensures.holds _ held) (λ held. c.in_ok-settle.ensures.settled _ held)
