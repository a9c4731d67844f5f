use Rattle.std.proofs.Common.{List, sym, subst}
use Rattle.ion_values.specs.declared.value.Value.{Value}
use Rattle.ledger_model.specs.Run.{stored}
use Rattle.txn_core.specs.Stops.{Does}
use Rattle.txn_core.proofs.Inserted.{alone_in}
use Rattle.txn_core.proofs.transaction.Txn.store_members.Goals as goal

pub returns-in_default : goal.returns-in_default
returns-in_default c =
    let t = c.args.self.now in
    subst (λ (vs : List Value). Does c.store_one.result (stored t.begun c.args.table t.done vs)) (sym (alone_in c.args.value c.in_default.not-List))
    c.store_one.ensures
