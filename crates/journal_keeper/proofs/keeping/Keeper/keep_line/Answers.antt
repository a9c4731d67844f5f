use Rattle.std.proofs.Common.{◌≡◌, Err, true, refl, rules}
use Rattle.journal_keeper.specs.declared.keeping.SettleFault.{SettleFault}
use Rattle.journal_keeper.specs.declared.keeping.SettleFault.TheVariants as fails
use Rattle.journal_keeper.proofs.Calls.{calls_on, no_call}
use Rattle.journal_keeper.proofs.Images.{line_kept, line_unkept, line_unmade, line_unsettled}
use Rattle.journal_keeper.specs.Keeping.{cleared}
use Rattle.journal_keeper.proofs.Kept.{behind}
use Rattle.journal_keeper.proofs.keeping.Keeper.keep_line.Goals as goal

pub returns-clause-bytes : goal.returns-clause-bytes
returns-clause-bytes g c =
    behind (cleared c.args.self.now.marked c.args.self.now.size) c.args.line.now _ _ _ c.in_ok-settle.ensures.bytes c.in_ok-put_behind.ensures.bytes

pub returns-in_err-size-clause-images : goal.returns-in_err-size-clause-images
returns-in_err-size-clause-images g c =
    let out : c.from_residual.result ≡ Err fails.OutOfMemory = search rules in
    line_unmade _ _ _ fails.OutOfMemory c.args.line.now c.args.self.now.size c.args.self.now.marked c.args.self.now.marked _ _ out refl refl

pub returns-in_err-settle-clause-images : goal.returns-in_err-settle-clause-images
returns-in_err-settle-clause-images g c =
    let out : c.from_residual-in_err-settle.result ≡ Err c.in_err-settle.field-0.0 = search rules in
    let marked : c.settle.new.self.marked ≡ true = search rules in
    line_unsettled _ _ _ c.in_err-settle.field-0.0 (Unit {0}) c.args.line.now c.args.self.now.size c.args.self.now.marked _ _ _ out marked c.in_err-settle.ensures.images

pub returns-in_err-put_behind-clause-images : goal.returns-in_err-put_behind-clause-images
returns-in_err-put_behind-clause-images g c =
    let out : c.from_residual-in_err-put_behind.result ≡ Err c.in_err-put_behind.field-0.0 = search rules in
    line_unkept _ _ _ c.in_err-put_behind.field-0.0 (Unit {0}) tt c.args.line.now c.args.self.now.size c.args.self.now.marked true _ _ _ out refl
    c.in_ok-settle.ensures.images c.in_err-put_behind.ensures.images

pub returns-clause-images : goal.returns-clause-images
returns-clause-images g c =
    line_kept (Unit {0}) SettleFault (Unit {0}) tt tt tt c.args.line.now c.args.self.now.size c.args.self.now.marked _ _ _ _ refl c.in_ok-settle.ensures.images c.in_ok-put_behind.ensures.images

pub returns-in_err-size-clause-calls : goal.returns-in_err-size-clause-calls
returns-in_err-size-clause-calls g c = no_call 4 _ _ refl

pub returns-in_err-settle-clause-calls : goal.returns-in_err-settle-clause-calls
returns-in_err-settle-clause-calls g c = calls_on 2 2 _ _ _ c.settle.ensures.calls (no_call 2 _ _ refl)

pub returns-in_err-put_behind-clause-calls : goal.returns-in_err-put_behind-clause-calls
returns-in_err-put_behind-clause-calls g c = calls_on 2 2 _ _ _ c.settle.ensures.calls c.put_behind.ensures.calls

pub returns-clause-calls : goal.returns-clause-calls
returns-clause-calls g c = calls_on 2 2 _ _ _ c.settle.ensures.calls c.put_behind.ensures.calls
