use Rattle.std.proofs.lemmas.Bool.{eqb-true}
use Rattle.txn_core.proofs.Planned.{table_item}
use Rattle.txn_core.proofs.candidates.is_table.Goals as goal

pub returns-in-Table : goal.returns-in-Table
returns-in-Table c = λ same. table_item c.args.item.now c.in-Table.read c.args.table c.in-Table.is (eqb-true c.in-Table.read.raw c.args.table.raw same)
