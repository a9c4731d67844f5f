-- The statement that a text is, or the first fault: in the text's length, in its tokens and its grammar, and then in
-- the rules behind the grammar.
use Rattle.std.specs.Prelude.{ℕ, nat_lt, List, [], length, Option, Some, None, Result, Ok, Err, if◌then◌else◌}
use Rattle.pql_model.specs.declared.ParseKind.TheVariants as kind
use Rattle.pql_model.specs.declared.mark.Place.TheVariants as place
use Rattle.pql_model.specs.declared.token.Located.{Located}
use Rattle.pql_model.specs.declared.statement.Statement.{Statement}
use Rattle.pql_model.specs.Tokens.{tokens}
use Rattle.pql_model.specs.Productions.{Fault, Found, Reader}
use Rattle.pql_model.specs.Grammar.{whole_statement}
use Rattle.pql_model.specs.Rules.{broken, sources_of}

abbrev pub start : List Located → Reader
start ls = record { rest = ls; marks = []; place = place.Elsewhere }

abbrev pub unbroken : Statement → Option Fault → Result Statement Fault
unbroken s None = Ok s
unbroken s (Some fault) = Err fault

abbrev pub ruled : Result (Found Statement) Fault → Result Statement Fault
ruled (Ok found) = unbroken found.tree (broken (sources_of found.tree) found.reader.marks)
ruled (Err fault) = Err fault

abbrev pub read_statement : List ℕ → Result Statement Fault
read_statement text = ruled (whole_statement (start (tokens text)))

unfoldable pub parsed : List ℕ → Result Statement Fault
parsed text =
    if nat_lt 100_000 (length text) then Err (record { at = 100_000; kind = kind.TooLong }) else read_statement text
