use Rattle.std.proofs.Common.{◌≡◌, drop}
use Rattle.ql_types.proofs.Spelled.{spelled_behind}
use Rattle.ql_types.proofs.id_in.Given as goal

abbrev pub invariant-digits : goal.invariant-digits
invariant-digits l = spelled_behind l.number (drop l.digit-index l.text) ≡ spelled_behind 0 l.text
