use Rattle.std.proofs.Common.{sym, ◌∙◌}
use Rattle.txn_core.specs.Effects.{effect_of}
use Rattle.txn_core.proofs.Effects.{created_done, created_refused}
use Rattle.txn_core.proofs.transaction.Txn.create.Goals as goal

pub returns-in-Some : goal.returns-in-Some
returns-in-Some c = created_refused c.args.self.now c.args.name.now _ (sym c.in_ok-cause.ensures ∙ c.in-Some.is)

pub returns : goal.returns
returns c =
    created_done c.args.self.now c.args.name.now c.in_ok-raw.raw (effect_of c.in_ok-new_table.field-0) (sym c.in_ok-cause.ensures ∙ c.in_default.is) c.in_ok-raw.ensures.id
    c.in_ok-new_table.ensures
