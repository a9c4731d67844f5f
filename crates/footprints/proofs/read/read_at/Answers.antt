use Rattle.footprints.proofs.SourcesRead.{read_there}
use Rattle.footprints.proofs.read.read_at.Goals as goal

pub returns : goal.returns
returns c = read_there c.args.earlier.now c.args.place c.get.result c.get.ensures.lookup
