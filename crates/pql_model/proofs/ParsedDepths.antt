-- What a text is read as is shallow: a SELECT by its parts, and no other statement has anything to be shallow.
use Prim.Native.String.{String}
use Rattle.std.proofs.Common.{ℕ, ◌≤◌, Bool, true, false, nat_lt, if◌then◌else◌, List, length, Result, Ok, Err, Option, Some, None, codes, arith}
use Rattle.pql_model.specs.declared.ParseKind.{ParseKind}
use Rattle.pql_model.specs.declared.ParseKind.TheVariants as kind
use Rattle.pql_model.specs.declared.statement.Statement.{Statement}
use Rattle.pql_model.specs.declared.statement.Statement.TheVariants as statement'
use Rattle.pql_model.specs.declared.token.Token.{Token}
use Rattle.pql_model.specs.Expressions.{expression}
use Rattle.pql_model.specs.Grammar.{change, const, create, delete, drop_table, ended, filter_of, from, from_clause, index, insert, is_end, of_one, redact, select, statement, table, update, whole_statement}
use Rattle.pql_model.specs.Parse.{parsed, ruled, start, unbroken}
use Rattle.pql_model.specs.Productions.{Fault, Found, Production, Reader, ◌>>=◌, choose, give, name, onward, past, refuse, symbol, token_of, word}
use Rattle.pql_model.specs.Rules.{broken, sources_of}
use Rattle.pql_model.specs.Shallow.{IsShallowStatement, ParsedIsShallow}
use Rattle.pql_model.specs.Tokens.{tokens}
use Rattle.pql_model.specs.Words.{is_symbol, is_word}
use Rattle.pql_model.proofs.Gives.{Gave, advanced_depth, tokens_depth}
use Rattle.pql_model.proofs.StatementDepths.{gives_select}
use Rattle.pql_model.proofs.TokenDepths.{tokens_are_shallow}

-- ---- statements, whatever the tokens are

abbrev Held : Result (Found Statement) Fault → Type 0
Held (Ok found) = IsShallowStatement found.tree
Held (Err fault) = Unit {0}

-- all that is given is shallow
record Holds (p : Production Statement) : Type 0 where
  at : (r : Reader) → Held (p r)

holds_give : (s : Statement) → IsShallowStatement s → Holds (give s)
holds_give s h = record { at = λ r. h }

holds_refuse : (k : ParseKind) → Holds (refuse k)
holds_refuse k = record { at = λ r. tt }

onward_held : {A : Type 0} → (f : A → Production Statement) → ((x : A) → Holds (f x)) → (result : Result (Found A) Fault) → Held (onward f result)
onward_held f h (Ok found) = (h found.tree).at found.reader
onward_held f h (Err fault) = tt

holds_then : {A : Type 0} → (p : Production A) (f : A → Production Statement) → ((x : A) → Holds (f x)) → Holds (p >>= f)
holds_then p f h = record { at = λ r. onward_held f h (p r) }

holds_past : {p : Production Statement} → Holds p → Holds (past p)
holds_past h = record { at = λ r. h.at _ }

choice_holds : (b : Bool) (p q : Production Statement) → Holds p → Holds q → Holds (if b then p else q)
choice_holds true p q f g = f
choice_holds false p q f g = g

holds_choose : {p q : Production Statement} → (test : Token → Bool) → Holds p → Holds q → Holds (choose test p q)
holds_choose {p} {q} test f g = record { at = λ r. (choice_holds (test (token_of r)) p q f g).at r }

holds_word : {p : Production Statement} → (text : String) → Holds p → Holds (word text p)
holds_word text h = holds_choose (is_word (codes text)) (holds_past h) (holds_refuse kind.Unexpected)

holds_symbol : {p : Production Statement} → (text : String) → Holds p → Holds (symbol text p)
holds_symbol text h = holds_choose (is_symbol (codes text)) (holds_past h) (holds_refuse kind.Unexpected)

insert_holds : Holds insert
insert_holds =
    holds_word "INTO"
    (holds_then name _
    (λ t. holds_choose (is_word (codes "VALUE")) (holds_past (holds_then expression _ (λ e. holds_give (statement'.Insert t e) (omega arith))))
    (holds_then expression _ (λ e. holds_give (statement'.Insert t e) (omega arith)))))

update_holds : Holds update
update_holds =
    holds_then table _ (λ s. holds_then change _ (λ c. holds_then filter_of _ (λ f. holds_give (statement'.Update (of_one s f) c) (omega arith))))

from_holds : Holds from
from_holds = holds_then from_clause _ (λ f. holds_then change _ (λ c. holds_give (statement'.From f c) (omega arith)))

delete_holds : Holds delete
delete_holds = holds_word "FROM" (holds_then table _ (λ s. holds_then filter_of _ (λ f. holds_give (statement'.Delete (of_one s f)) (omega arith))))

index_holds : Holds index
index_holds =
    holds_word "ON" (holds_then name _ (λ t. holds_symbol "(" (holds_then name _ (λ f. holds_symbol ")" (holds_give (statement'.Index t f) (omega arith))))))

create_holds : Holds create
create_holds =
    holds_choose (is_word (codes "INDEX")) (holds_past index_holds) (holds_word "TABLE" (holds_then name _ (λ t. holds_give (statement'.Create t) (omega arith))))

drop_holds : Holds drop_table
drop_holds = holds_word "TABLE" (holds_then name _ (λ t. holds_give (statement'.Drop t) (omega arith)))

redact_holds : Holds redact
redact_holds =
    holds_word "REDACT_REVISION"
    (holds_then const _ (λ a. holds_symbol ","
    (holds_then const _ (λ t. holds_symbol ","
    (holds_then const _ (λ d. holds_give (statement'.Redact a t d) (omega arith)))))))

ended_holds : (s : Statement) → IsShallowStatement s → Holds (ended s)
ended_holds s h = holds_choose is_end (holds_give s h) (holds_refuse kind.Unexpected)

-- ---- a statement from shallow tokens

gave_held : (result : Result (Found Statement) Fault) → Gave IsShallowStatement result → Held result
gave_held (Ok found) g = g.0
gave_held (Err fault) g = tt

-- SELECT is shallow where the tokens are, and all else without that
abbrev others : Production Statement
others =
    choose (is_word (codes "INSERT")) (past insert)
    (choose (is_word (codes "UPDATE")) (past update)
    (choose (is_word (codes "FROM")) (past from)
    (choose (is_word (codes "DELETE")) (past delete)
    (choose (is_word (codes "CREATE")) (past create)
    (choose (is_word (codes "EXEC")) (past redact)
    (word "DROP" drop_table))))))

others_hold : Holds others
others_hold =
    holds_choose (is_word (codes "INSERT")) (holds_past insert_holds)
    (holds_choose (is_word (codes "UPDATE")) (holds_past update_holds)
    (holds_choose (is_word (codes "FROM")) (holds_past from_holds)
    (holds_choose (is_word (codes "DELETE")) (holds_past delete_holds)
    (holds_choose (is_word (codes "CREATE")) (holds_past create_holds)
    (holds_choose (is_word (codes "EXEC")) (holds_past redact_holds)
    (holds_word "DROP" drop_holds))))))

statement_held : (r : Reader) → tokens_depth r.rest ≤ 64 → Held (statement r)
statement_held r h = first (is_word (codes "SELECT") (token_of r)) where
  first : (b : Bool) → Held ((if b then past select else others) r)
  first true = gave_held (past select r) (gives_select.at _ (advanced_depth r h))
  first false = others_hold.at r

ends_held : (result : Result (Found Statement) Fault) → Held result → Held (onward (λ s. choose (is_symbol (codes ";")) (past (ended s)) (ended s)) result)
ends_held (Ok found) h = (holds_choose (is_symbol (codes ";")) (holds_past (ended_holds found.tree h)) (ended_holds found.tree h)).at found.reader
ends_held (Err fault) h = tt

whole_held : (r : Reader) → tokens_depth r.rest ≤ 64 → Held (whole_statement r)
whole_held r h = ends_held (statement r) (statement_held r h)

-- ---- a text

abbrev Answered : Result Statement Fault → Type 0
Answered (Ok s) = IsShallowStatement s
Answered (Err fault) = Unit {0}

unbroken_answered : (s : Statement) (fault : Option Fault) → IsShallowStatement s → Answered (unbroken s fault)
unbroken_answered s None h = h
unbroken_answered s (Some fault) h = tt

ruled_answered : (result : Result (Found Statement) Fault) → Held result → Answered (ruled result)
ruled_answered (Ok found) h = unbroken_answered found.tree (broken (sources_of found.tree) found.reader.marks) h
ruled_answered (Err fault) h = tt

choice_answered : (b : Bool) (x y : Result Statement Fault) → Answered x → Answered y → Answered (if b then x else y)
choice_answered true x y f g = f
choice_answered false x y f g = g

parsed_answered : (text : List ℕ) → Answered (parsed text)
unfolding parsed
parsed_answered text =
    choice_answered (nat_lt 100_000 (length text)) _ _ tt
    (ruled_answered (whole_statement (start (tokens text))) (whole_held (start (tokens text)) (tokens_are_shallow text)))

pub parsed_is_shallow : ParsedIsShallow
parsed_is_shallow text s e = rw e at (parsed_answered text)
