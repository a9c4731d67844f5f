use Rattle.std.proofs.Common.{ℕ, Option, Some, None, MatchResult, MatchOption, ok_or}
use Rattle.ql_types.specs.Ids.{id_in}
use Rattle.ql_types.specs.declared.NotAnId.{NotAnId}
use Rattle.ql_types.proofs.Spelled.{id_in-exact}
use Rattle.ql_types.proofs.id_read.Goals as goal

judged : (o : Option ℕ) (fault : NotAnId) (P : Type 0) (Q : ℕ → Type 0) → MatchOption o P Q → MatchResult (ok_or o fault) Q (λ _. P)
judged None fault P Q h = h
judged (Some n) fault P Q h = h

pub returns-clause-text : goal.returns-clause-text
returns-clause-text c =
    rw (c.ok_or.ensures.value, c.id_in.ensures) (judged (id_in c.args.text.now) _ _ _ (id_in-exact c.args.text.now))
