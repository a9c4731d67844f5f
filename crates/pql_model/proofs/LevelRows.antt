-- Which expressions fit into a number of levels, and at which token one is too deep.
use Rattle.std.proofs.Common.{◌≡◌, ℕ, List, Result, Ok, Err, codes, refl}
use Rattle.std.specs.Char.{encode_utf8}
use Rattle.std.specs.Str.{chars, is_utf8}
use Rattle.pql_model.specs.declared.expr.Expr.{Expr}
use Rattle.pql_model.specs.declared.ParseKind.{ParseKind}
use Rattle.pql_model.specs.declared.ParseKind.TheVariants as kind
use Rattle.pql_model.specs.Expressions.{Tall, layers}
use Rattle.pql_model.specs.Parse.{start}
use Rattle.pql_model.specs.Productions.{Fault, Found}
use Rattle.pql_model.specs.Tokens.{lex, tokens}
use Rattle.pql_model.specs.Words.{is_reserved}

abbrev height_of : Result (Found (Tall Expr)) Fault → Result ℕ Fault
height_of (Ok found) = Ok found.tree.height
height_of (Err fault) = Err fault

-- the height of the expression that a text is, within a number of levels
abbrev height : ℕ → List ℕ → Result ℕ Fault
height levels text = height_of ((layers levels).whole (start (tokens text)))

abbrev refused : ℕ → ParseKind → Result ℕ Fault
refused at k = Err (record { at = at; kind = k })

-- round brackets are a level
brackets : height 3 (codes "((1))") ≡ Ok 3
unfolding lex is_reserved layers
brackets = refl

brackets_too_deep : height 2 (codes "((1))") ≡ refused 1 kind.TooDeep
unfolding lex is_reserved layers
brackets_too_deep = refl

-- each operator of a chain is a level
chain : height 4 (codes "1+2+3+4") ≡ Ok 4
unfolding lex is_reserved layers
chain = refl

chain_too_deep : height 3 (codes "1+2+3+4") ≡ refused 5 kind.TooDeep
unfolding lex is_reserved layers
chain_too_deep = refl

-- NOT IN and IS NOT are one
predicate : height 3 (codes "1 NOT IN a IS NOT NULL") ≡ Ok 2
unfolding lex is_reserved layers
predicate = refl

predicate_too_deep : height 2 (codes "-1 NOT IN a") ≡ refused 3 kind.TooDeep
unfolding lex is_reserved layers
predicate_too_deep = refl

-- an empty list has one level, and its first member opens the next
empty : height 1 (codes "[]") ≡ Ok 1
unfolding lex is_reserved layers
empty = refl

member_too_deep : height 1 (codes "[1]") ≡ refused 1 kind.TooDeep
unfolding lex is_reserved layers
member_too_deep = refl

member_unexpected : height 1 (codes "[*") ≡ refused 1 kind.Unexpected
unfolding lex is_reserved layers
member_unexpected = refl

member_refused : height 1 (codes "[1e1") ≡ refused 1 kind.FloatRefused
unfolding lex is_reserved layers
member_refused = refl

-- the name in a struct is too deep for its value, an index's bracket for its index, SUM for its argument, but not COUNT
struct_too_deep : height 1 (codes "{'a':1}") ≡ refused 1 kind.TooDeep
unfolding lex is_reserved layers is_utf8 chars encode_utf8
struct_too_deep = refl

index_too_deep : height 1 (codes "a.b[0]") ≡ refused 3 kind.TooDeep
unfolding lex is_reserved layers
index_too_deep = refl

sum_too_deep : height 1 (codes "SUM(a)") ≡ refused 0 kind.TooDeep
unfolding lex is_reserved layers
sum_too_deep = refl

count_all : height 1 (codes "COUNT(*)") ≡ Ok 1
unfolding lex is_reserved layers
count_all = refl

count_too_deep : height 1 (codes "COUNT(a)") ≡ refused 6 kind.TooDeep
unfolding lex is_reserved layers
count_too_deep = refl
