use Rattle.std.proofs.Common.{length}
use Rattle.pmap.proofs.search.+find.Given as goal

abbrev pub decreases-find : goal.decreases-find
decreases-find g l = length l.row.now
