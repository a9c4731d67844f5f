use Rattle.std.proofs.Common.{◌≡◌, Err, rules}
use Rattle.txn_core.specs.Effects.{effect_of}
use Rattle.txn_core.proofs.Inserted.{none-alone, one-alone}
use Rattle.txn_core.proofs.transaction.Txn.store_one.Goals as goal

pub returns : goal.returns
returns c =
    one-alone c.args.self.now c.args.table c.args.document (effect_of c.new-effect.result) c.new-effect.ensures.nothing (effect_of c.store.new.effect) c.in_ok-store.ensures

pub returns-in_err-store : goal.returns-in_err-store
returns-in_err-store c =
    let is : c.from_residual.result ≡ Err c.in_err-store.field-0.0 = search rules in
    rw is (none-alone c.args.self.now c.args.table c.args.document (effect_of c.new-effect.result) c.new-effect.ensures.nothing
    c.in_err-store.field-0.0 (effect_of c.store.new.effect) c.in_err-store.ensures)
