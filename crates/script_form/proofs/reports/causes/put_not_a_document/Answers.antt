use Rattle.std.proofs.Common.{codes}
use Rattle.ledger_model.specs.CauseText.{kind_name}
use Rattle.script_form.proofs.Grouped.{two}
use Rattle.script_form.proofs.reports.causes.put_not_a_document.Goals as goal

pub returns : goal.returns
returns c = two c.args.out.now (codes "code:10,kind:") (kind_name c.args.kind) _ _ c.in_ok-push_str.ensures.ok c.in_ok-put_kind.ensures
