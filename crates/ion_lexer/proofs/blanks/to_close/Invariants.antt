use Rattle.std.proofs.Common.{◌≡◌, ◌+◌, drop, option_map}
use Rattle.ion_model.specs.Blanks.{to_close}
use Rattle.ion_lexer.proofs.blanks.to_close.Given as goal

-- the end of the comment is not before `at`
abbrev pub invariant-loop-at : goal.invariant-loop-at
invariant-loop-at l = to_close l.bytes ≡ option_map (λ n. l.at + n) (to_close (drop l.at l.bytes))
