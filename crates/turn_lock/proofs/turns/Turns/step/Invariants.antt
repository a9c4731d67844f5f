use Rattle.turn_lock.specs.History.{last_of}
use Rattle.turn_lock.proofs.turns.Turns.step.Given as goal

abbrev pub ghosts-note : goal.ghosts-note
ghosts-note g a = record { noted = last_of (g.T.Counted.entries a.state.now) }
