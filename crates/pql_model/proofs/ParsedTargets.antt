-- What a text is read as changes documents of tables alone: FROM with a change by the marks of its paths, and UPDATE and
-- DELETE by their grammar.
use Prim.Native.String.{String}
use Rattle.std.proofs.Common.{◌≡◌, ℕ, zero, suc, Bool, true, false, nat_lt, if◌then◌else◌, List, [], ◌∷◌, length, slice_get, Result, Ok, Err, Option, Some, None, codes, refl, subst}
use Rattle.std.specs.List.{AllByRecursion}
use Rattle.std.proofs.lemmas.Bool.{false≢true}
use Rattle.pql_model.specs.declared.ParseKind.TheVariants as kind
use Rattle.pql_model.specs.declared.expr.Expr.{Expr}
use Rattle.pql_model.specs.declared.mark.Mark.{Mark}
use Rattle.pql_model.specs.declared.statement.Select.{Select}
use Rattle.pql_model.specs.declared.statement.Source.{Source}
use Rattle.pql_model.specs.declared.statement.Statement.{Statement}
use Rattle.pql_model.specs.declared.statement.Statement.TheVariants as statement'
use Rattle.pql_model.specs.Expressions.{expression}
use Rattle.pql_model.specs.Grammar.{alias, change, const, create, delete, drop_table, ended, filter_of, from, from_clause, index, insert, is_end, of_one, redact, select, selection, statement, table, update, whole_statement}
use Rattle.pql_model.specs.Parse.{parsed, ruled, start, unbroken}
use Rattle.pql_model.specs.Productions.{Fault, Found, Production, Reader, ◌>>=◌, advanced, choose, give, name, onward, optional, past, refuse, symbol, token_of, word}
use Rattle.pql_model.specs.Roots.{TablesAreChanged, is_changed, is_name}
use Rattle.pql_model.specs.Rules.{broken, earlier, sources_of}
use Rattle.pql_model.specs.Tokens.{tokens}
use Rattle.pql_model.specs.Words.{is_symbol, is_word}
use Rattle.pql_model.proofs.Targets.{AllTargets, Gave, Unfaulted, change_marked, changed_is_name, gave_choice, gave_then, gave_word}

-- ---- statements

abbrev AreNames : List Source → Type 0
AreNames ss = AllByRecursion (λ (s : Source). is_name s.from ≡ true) ss

abbrev Fits : Statement → List Mark → Type 0
Fits (statement'.Update f c) ms = AreNames f.sources
Fits (statement'.From f c) ms = AllTargets c ms
Fits (statement'.Delete f) ms = AreNames f.sources
Fits _ ms = Unit {0}

gave_any : {A : Type 0} → (result : Result (Found A) Fault) → Gave (λ x ms. Unit {0}) result
gave_any (Ok found) = tt
gave_any (Err fault) = tt

gave_behind : {A B : Type 0} → (Q : B → List Mark → Type 0) (f : A → Production B)
    (result : Result (Found A) Fault) → ((x : A) (r : Reader) → Gave Q (f x r)) → Gave Q (onward f result)
gave_behind Q f result next = gave_then (λ x ms. Unit {0}) Q f result (gave_any result) (λ x r h. next x r)

gave_symbol : {A : Type 0} → (Q : A → List Mark → Type 0) (text : String) (p : Production A) (r : Reader)
    → Gave Q (p (advanced r)) → Gave Q (symbol text p r)
gave_symbol Q text p r g =
    gave_choice Q (is_symbol (codes text) (token_of r)) (past p) (refuse kind.Unexpected) r g tt

abbrev IsName : Source → List Mark → Type 0
IsName s ms = is_name s.from ≡ true

table_gave : (r : Reader) → Gave IsName (table r)
table_gave r =
    gave_behind IsName _ (name r)
    (λ t s. gave_behind IsName _ (alias s)
    (λ v u. gave_behind IsName _ (optional (is_word (codes "BY")) (word "BY" name) u) (λ id w. refl)))

gave_if_word : (text : String) (p q : Production Statement) (r : Reader) → Gave Fits (p (advanced r))
    → Gave Fits (q r) → Gave Fits (choose (is_word (codes text)) (past p) q r)
gave_if_word text p q r f g = gave_choice Fits (is_word (codes text) (token_of r)) (past p) q r f g

abbrev selected_behind : Select → Production Statement
selected_behind s = from_clause >>= (λ f. give (statement'.Select s f))

select_gave : (r : Reader) → Gave Fits (select r)
select_gave r =
    gave_behind Fits (λ s. word "FROM" (selected_behind s)) (selection r)
    (λ s t. gave_word Fits "FROM" (selected_behind s) t
    (gave_behind Fits (λ f. give (statement'.Select s f)) (from_clause (advanced t)) (λ f u. tt)))

abbrev value_behind : List ℕ → Production Statement
value_behind t = expression >>= (λ e. give (statement'.Insert t e))

abbrev inserted_behind : List ℕ → Production Statement
inserted_behind t = choose (is_word (codes "VALUE")) (past (value_behind t)) (value_behind t)

value_gave : (t : List ℕ) (r : Reader) → Gave Fits (value_behind t r)
value_gave t r = gave_behind Fits (λ e. give (statement'.Insert t e)) (expression r) (λ e u. tt)

insert_gave : (r : Reader) → Gave Fits (insert r)
insert_gave r =
    gave_word Fits "INTO" (name >>= inserted_behind) r
    (gave_behind Fits inserted_behind (name (advanced r)) (λ t s.
    gave_if_word "VALUE" (value_behind t) (value_behind t) s (value_gave t (advanced s)) (value_gave t s)))

update_gave : (r : Reader) → Gave Fits (update r)
update_gave r =
    gave_then IsName Fits _ (table r) (table_gave r)
    (λ s t h. gave_behind Fits _ (change t) (λ c u. gave_behind Fits _ (filter_of u) (λ f v. (h, tt))))

from_gave : (r : Reader) → Gave Fits (from r)
from_gave r =
    gave_behind Fits (λ f. change >>= (λ c. give (statement'.From f c))) (from_clause r)
    (λ f t. gave_then AllTargets Fits (λ c. give (statement'.From f c)) (change t) (change_marked t) (λ c u h. h))

abbrev deleted_behind : Source → Production Statement
deleted_behind s = filter_of >>= (λ f. give (statement'.Delete (of_one s f)))

delete_gave : (r : Reader) → Gave Fits (delete r)
delete_gave r =
    gave_word Fits "FROM" (table >>= deleted_behind) r
    (gave_then IsName Fits deleted_behind (table (advanced r)) (table_gave (advanced r))
    (λ s t h. gave_behind Fits (λ f. give (statement'.Delete (of_one s f))) (filter_of t) (λ f u. (h, tt))))

abbrev field_behind : List ℕ → List ℕ → Production Statement
field_behind t f = symbol ")" (give (statement'.Index t f))

abbrev index_behind : List ℕ → Production Statement
index_behind t = symbol "(" (name >>= field_behind t)

index_gave : (r : Reader) → Gave Fits (index r)
index_gave r =
    gave_word Fits "ON" (name >>= index_behind) r
    (gave_behind Fits index_behind (name (advanced r)) (λ t s.
    gave_symbol Fits "(" (name >>= field_behind t) s
    (gave_behind Fits (field_behind t) (name (advanced s)) (λ f u.
    gave_symbol Fits ")" (give (statement'.Index t f)) u tt))))

abbrev named : (List ℕ → Statement) → Production Statement
named make = name >>= (λ t. give (make t))

named_gave : (make : List ℕ → Statement) → ((t : List ℕ) (ms : List Mark) → Fits (make t) ms) → (r : Reader)
    → Gave Fits (word "TABLE" (named make) r)
named_gave make h r =
    gave_word Fits "TABLE" (named make) r
    (gave_behind Fits (λ t. give (make t)) (name (advanced r)) (λ t s. h t s.marks))

create_gave : (r : Reader) → Gave Fits (create r)
create_gave r =
    gave_if_word "INDEX" index (word "TABLE" (named statement'.Create)) r (index_gave (advanced r))
    (named_gave statement'.Create (λ t ms. tt) r)

drop_gave : (r : Reader) → Gave Fits (drop_table r)
drop_gave r = named_gave statement'.Drop (λ t ms. tt) r

abbrev redacted_behind : Expr → Expr → Production Statement
redacted_behind a t = const >>= (λ d. give (statement'.Redact a t d))

abbrev address_behind : Expr → Production Statement
address_behind a = const >>= (λ t. symbol "," (redacted_behind a t))

redact_gave : (r : Reader) → Gave Fits (redact r)
redact_gave r =
    gave_word Fits "REDACT_REVISION" (const >>= (λ a. symbol "," (address_behind a))) r
    (gave_behind Fits (λ a. symbol "," (address_behind a)) (const (advanced r)) (λ a s.
    gave_symbol Fits "," (address_behind a) s
    (gave_behind Fits (λ t. symbol "," (redacted_behind a t)) (const (advanced s)) (λ t u.
    gave_symbol Fits "," (redacted_behind a t) u
    (gave_behind Fits (λ d. give (statement'.Redact a t d)) (const (advanced u)) (λ d v. tt))))))

-- one word after another
abbrev or_drop : Production Statement
or_drop = word "DROP" drop_table

abbrev or_redact : Production Statement
or_redact = choose (is_word (codes "EXEC")) (past redact) or_drop

abbrev or_create : Production Statement
or_create = choose (is_word (codes "CREATE")) (past create) or_redact

abbrev or_delete : Production Statement
or_delete = choose (is_word (codes "DELETE")) (past delete) or_create

abbrev or_from : Production Statement
or_from = choose (is_word (codes "FROM")) (past from) or_delete

abbrev or_update : Production Statement
or_update = choose (is_word (codes "UPDATE")) (past update) or_from

abbrev or_insert : Production Statement
or_insert = choose (is_word (codes "INSERT")) (past insert) or_update

statement_gave : (r : Reader) → Gave Fits (statement r)
statement_gave r =
    gave_if_word "SELECT" select or_insert r (select_gave (advanced r))
    (gave_if_word "INSERT" insert or_update r (insert_gave (advanced r))
    (gave_if_word "UPDATE" update or_from r (update_gave (advanced r))
    (gave_if_word "FROM" from or_delete r (from_gave (advanced r))
    (gave_if_word "DELETE" delete or_create r (delete_gave (advanced r))
    (gave_if_word "CREATE" create or_redact r (create_gave (advanced r))
    (gave_if_word "EXEC" redact or_drop r (redact_gave (advanced r))
    (gave_word Fits "DROP" drop_table r (drop_gave (advanced r)))))))))

ended_gave : (s : Statement) (r : Reader) → Fits s r.marks → Gave Fits (ended s r)
ended_gave s r h = gave_choice Fits (is_end (token_of r)) (give s) (refuse kind.Unexpected) r h tt

whole_gave : (r : Reader) → Gave Fits (whole_statement r)
whole_gave r =
    gave_then Fits Fits (λ s. choose (is_symbol (codes ";")) (past (ended s)) (ended s)) (statement r)
    (statement_gave r)
    (λ s t h. gave_choice Fits (is_symbol (codes ";") (token_of t)) (past (ended s)) (ended s) t
    (ended_gave s (advanced t) h) (ended_gave s t h))

-- ---- a text

abbrev Good : Statement → Type 0
Good st =
    (n : ℕ) (s : Source) → is_changed st n ≡ true → slice_get (sources_of st) n ≡ Some s → is_name s.from ≡ true

names_at : (ss : List Source) (n : ℕ) (s : Source) → AreNames ss → slice_get ss n ≡ Some s → is_name s.from ≡ true
names_at [] n s h at = cc at
names_at (x ∷ ss) zero s h at =
    let same : x ≡ s = cc at in subst (λ (y : Source). is_name y.from ≡ true) same h.0
names_at (x ∷ ss) (suc n) s h at = names_at ss n s h.1 at

good_if : (st : Statement) (ms : List Mark) → Fits st ms → Unfaulted (sources_of st) ms → Good st
good_if (statement'.Update f c) ms h none n s changed at = names_at f.sources n s h at
good_if (statement'.From f c) ms h none n s changed at = changed_is_name f.sources c ms none h n s changed at
good_if (statement'.Delete f) ms h none n s changed at = names_at f.sources n s h at
good_if (statement'.Select x f) ms h none n s changed at = absurd (false≢true changed)
good_if (statement'.Insert t e) ms h none n s changed at = absurd (false≢true changed)
good_if (statement'.Create t) ms h none n s changed at = absurd (false≢true changed)
good_if (statement'.Index t field) ms h none n s changed at = absurd (false≢true changed)
good_if (statement'.Drop t) ms h none n s changed at = absurd (false≢true changed)
good_if (statement'.Redact a t d) ms h none n s changed at = absurd (false≢true changed)

abbrev Answered : Result Statement Fault → Type 0
Answered (Ok st) = Good st
Answered (Err fault) = Unit {0}

earlier_by : (b : Bool) (x y : Fault) → (if b then Some x else Some y) ≡ None → ⊥
earlier_by true x y h = cc h
earlier_by false x y h = cc h

earlier_none : (a b : Option Fault) → earlier a b ≡ None → a ≡ None
earlier_none None b h = refl
earlier_none (Some x) None h = cc h
earlier_none (Some x) (Some y) h = absurd (earlier_by (nat_lt y.at x.at) y x h)

unbroken_answered : (st : Statement) (ms : List Mark) (o : Option Fault) → broken (sources_of st) ms ≡ o
    → Fits st ms → Answered (unbroken st o)
unbroken_answered st ms None e h = good_if st ms h (earlier_none _ _ e)
unbroken_answered st ms (Some fault) e h = tt

ruled_answered : (result : Result (Found Statement) Fault) → Gave Fits result → Answered (ruled result)
ruled_answered (Ok found) h =
    unbroken_answered found.tree found.reader.marks (broken (sources_of found.tree) found.reader.marks) refl h
ruled_answered (Err fault) h = tt

choice_answered : (b : Bool) (x y : Result Statement Fault) → Answered x → Answered y
    → Answered (if b then x else y)
choice_answered true x y f g = f
choice_answered false x y f g = g

parsed_answered : (text : List ℕ) → Answered (parsed text)
unfolding parsed
parsed_answered text =
    choice_answered (nat_lt 100_000 (length text)) _ _ tt
    (ruled_answered (whole_statement (start (tokens text))) (whole_gave (start (tokens text))))

pub tables_are_changed : TablesAreChanged
tables_are_changed text st n s e = rw e at (parsed_answered text) n s
