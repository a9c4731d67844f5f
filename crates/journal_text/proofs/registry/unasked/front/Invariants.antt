use Rattle.std.proofs.Common.{◌≤◌, length}
use Rattle.journal_text.proofs.Asked.{NoneBehind}
use Rattle.journal_text.proofs.registry.unasked.front.Given as goal

-- no block behind these redacts anything
abbrev pub invariant-later : goal.invariant-later
invariant-later l = record {
  within : l.end ≤ length l.blocks;
  none : NoneBehind l.blocks l.end;
}

abbrev pub decreases-later : goal.decreases-later
decreases-later l = l.end
