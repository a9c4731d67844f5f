use Rattle.std.proofs.Common.{◌≡◌, drop}
use denote.Shadow.{shadow}
use denote.Text.{Utf8}
use Rattle.pql_model.specs.Grammar.{last_name}
use Rattle.pql_model.proofs.names.last_name.Given as goal

-- what is left gives what the whole gives
abbrev pub invariant-steps : goal.invariant-steps
invariant-steps l = shadow (Utf8 l.last) × (last_name l.last (drop l.step-index l.steps) ≡ last_name l.first l.steps)
