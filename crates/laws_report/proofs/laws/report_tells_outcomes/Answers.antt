use Rattle.laws_report.proofs.Reports.{report_tells_outcomes}
use Rattle.laws_report.proofs.laws.report_tells_outcomes.Goals as goal

pub returns : goal.returns
returns c = report_tells_outcomes
