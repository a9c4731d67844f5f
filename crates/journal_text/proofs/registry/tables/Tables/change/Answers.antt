use Rattle.std.proofs.Common.{true, subst, sym}
use Rattle.ledger_model.specs.declared.block.Schema.{Schema}
use Rattle.journal_text.specs.Stands.{Changes}
use Rattle.journal_text.proofs.TableSteps.{redacted_by}
use Rattle.journal_text.proofs.registry.tables.Tables.change.Goals as goal

pub returns-in-Drop : goal.returns-in-Drop
returns-in-Drop c = λ tables indexes h ids.
    subst (λ (x : Schema). Changes tables indexes x c.remove.result c.remove.new.self) (sym c.in-Drop.is) (c.remove.ensures tables indexes h ids)

pub returns-in-Redact : goal.returns-in-Redact
returns-in-Redact c = λ tables indexes h ids.
    subst (λ (x : Schema). Changes tables indexes x true c.args.self.now) (sym c.in-Redact.is) (redacted_by tables indexes _ _ _ c.args.self.now h)
