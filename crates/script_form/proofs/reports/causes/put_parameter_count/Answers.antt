use Rattle.std.proofs.Common.{codes, decimal}
use Rattle.script_form.proofs.Grouped.{four}
use Rattle.script_form.proofs.reports.causes.put_parameter_count.Goals as goal

pub returns : goal.returns
returns c =
    four c.args.out.now (codes "code:11,wanted:") (decimal c.args.wanted) (codes ",given:") (decimal c.args.given) _ _
    c.in_ok-put_counted.ensures c.in_ok-put_counted-2.ensures
