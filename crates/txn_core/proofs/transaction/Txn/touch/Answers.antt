use Rattle.std.proofs.Common.{sym, ◌∙◌}
use Rattle.txn_core.proofs.Touched.{touched_none, touched_one}
use Rattle.txn_core.proofs.transaction.Txn.touch.Goals as goal

pub returns-in_ok-add-in-Some : goal.returns-in_ok-add-in-Some
returns-in_ok-add-in-Some c =
    touched_one c.args.self.now c.args.id c.args.content c.args.touching.now c.add.new.self c.in-Some.draft c.requires (sym c.in-Some.is ∙ c.in_ok-draft.ensures)
    c.in_ok-add-in-Some.ensures.tables c.in_ok-add-in-Some.ensures.marks c.in_ok-add-in-Some.ensures.effect

pub returns-in-None : goal.returns-in-None
returns-in-None c = touched_none c.args.self.now c.args.id c.args.content c.args.touching.now c.requires (sym c.in-None.is ∙ c.in_ok-draft.ensures)
