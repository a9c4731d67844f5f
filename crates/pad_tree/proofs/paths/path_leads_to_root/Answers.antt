use Rattle.pad_tree.proofs.Folding.{path_leads}
use Rattle.pad_tree.proofs.paths.path_leads_to_root.Goals as goal

pub returns : goal.returns
returns c = path_leads
