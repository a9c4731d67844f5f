-- Texts that are no statements, with the place and the kind of the first fault.
use Rattle.std.proofs.Common.{◌≡◌, ◌<◌, ℕ, List, length, Result, Err, codes, ap, refl}
use Rattle.std.proofs.lemmas.Bool.{lt-ltb}
use Rattle.std.specs.Prelude.{cond}
use Rattle.std.specs.Char.{encode_utf8}
use Rattle.std.specs.Str.{chars, is_utf8}
use Rattle.ion_model.specs.Lex as ion_lex
use Rattle.ion_model.specs.Numbers.{is_spelled, lex_number}
use Rattle.ion_model.specs.Read.{read_text}
use Rattle.pql_model.specs.declared.expr.Expr.{out-Expr}
use Rattle.pql_model.specs.declared.ParseKind.{ParseKind}
use Rattle.pql_model.specs.declared.ParseKind.TheVariants as kind
use Rattle.pql_model.specs.declared.statement.Statement.{Statement}
use Rattle.pql_model.specs.Expressions.{expression, free_path, layers}
use Rattle.pql_model.specs.Parse.{parsed, read_statement}
use Rattle.pql_model.specs.Productions.{Fault}
use Rattle.pql_model.specs.Tokens.{lex}
use Rattle.pql_model.specs.Words.{is_reserved}

abbrev refused : ℕ → ParseKind → Result Statement Fault
refused at k = Err (record { at = at; kind = k })

-- ---- tokens and grammar

empty : parsed (codes "") ≡ refused 0 kind.TextEnds
unfolding parsed lex is_reserved layers expression free_path
empty = refl

misspelt_from : parsed (codes "SELECT * FORM t") ≡ refused 9 kind.Unexpected
unfolding parsed lex is_reserved layers expression free_path
misspelt_from = refl

float : parsed (codes "SELECT 1e3 FROM t") ≡ refused 7 kind.FloatRefused
unfolding parsed lex is_reserved layers expression free_path
float = refl

order_by : parsed (codes "SELECT * FROM t ORDER BY a") ≡ refused 16 kind.Unexpected
unfolding parsed lex is_reserved layers expression free_path
order_by = refl

leading_zero : parsed (codes "SELECT 01 FROM t") ≡ refused 8 kind.Unexpected
unfolding parsed lex is_reserved layers expression free_path
leading_zero = refl

too_wide : parsed (codes "SELECT 170141183460469231731687303715884105728 FROM t") ≡ refused 7 kind.TooWide
unfolding parsed lex is_reserved layers expression free_path
too_wide = refl

unclosed : parsed (codes "INSERT INTO t 'a''") ≡ refused 14 kind.NotAToken
unfolding parsed lex is_reserved layers expression free_path is_utf8 chars encode_utf8
unclosed = refl

two_ion_values : parsed (codes "INSERT INTO t `1 2`") ≡ refused 14 kind.IonLiteral
unfolding parsed lex is_reserved read_text is_utf8 chars encode_utf8 ion_lex.lex lex_number is_spelled layers expression free_path
two_ion_values = refl

operand_of_not : parsed (codes "SELECT a = NOT b FROM t") ≡ refused 11 kind.Unexpected
unfolding parsed lex is_reserved layers expression free_path
operand_of_not = refl

chained_comparison : parsed (codes "SELECT a < b < c FROM t") ≡ refused 13 kind.Unexpected
unfolding parsed lex is_reserved layers expression free_path
chained_comparison = refl

text_ends : parsed (codes "DELETE FROM t WHERE ") ≡ refused 20 kind.TextEnds
unfolding parsed lex is_reserved layers expression free_path
text_ends = refl

-- The length is tested before all else.
too_long : (text : List ℕ) → 100_000 < length text → parsed text ≡ refused 100_000 kind.TooLong
unfolding parsed
too_long text h = ap (λ b. cond b (refused 100_000 kind.TooLong) (read_statement text)) (lt-ltb 100_000 (length text) h)

-- ---- the rules behind the grammar

two_sources : parsed (codes "SELECT a FROM t, u") ≡ refused 7 kind.UnknownName
unfolding parsed lex is_reserved out-Expr denote.Hole.Carrier.out layers expression free_path
two_sources = refl

no_source : parsed (codes "INSERT INTO t {'b': a}") ≡ refused 20 kind.UnknownName
unfolding parsed lex is_reserved layers expression free_path is_utf8 chars encode_utf8
no_source = refl

unknown_root : parsed (codes "SELECT * FROM t, u.a, t.b[u]") ≡ refused 17 kind.UnknownName
unfolding parsed lex is_reserved layers expression free_path
unknown_root = refl

earlier_sources : parsed (codes "SELECT * FROM t, t.b[u], u") ≡ refused 21 kind.UnknownName
unfolding parsed lex is_reserved layers expression free_path
earlier_sources = refl

id_is_no_root : parsed (codes "SELECT * FROM t BY i, i.a") ≡ refused 22 kind.UnknownName
unfolding parsed lex is_reserved layers expression free_path
id_is_no_root = refl

id_is_no_target : parsed (codes "UPDATE t BY t SET t.a=1") ≡ refused 18 kind.BadTarget
unfolding parsed lex is_reserved layers expression free_path
id_is_no_target = refl

no_step : parsed (codes "FROM t, u REMOVE u") ≡ refused 17 kind.BadTarget
unfolding parsed lex is_reserved layers expression free_path
no_step = refl

committed_view : parsed (codes "UPDATE _ql_committed_t AS c SET c.a=1") ≡ refused 32 kind.BadTarget
unfolding parsed lex is_reserved layers expression free_path
committed_view = refl

id_of_path : parsed (codes "SELECT * FROM t, t.a BY i") ≡ refused 21 kind.BadTarget
unfolding parsed lex is_reserved layers expression free_path
id_of_path = refl

mixed_items : parsed (codes "SELECT a, SUM(COUNT(*)) FROM t") ≡ refused 7 kind.MixedAggregate
unfolding parsed lex is_reserved out-Expr denote.Hole.Carrier.out layers expression free_path
mixed_items = refl

no_item : parsed (codes "SELECT VALUE -SUM(a) FROM t") ≡ refused 14 kind.MixedAggregate
unfolding parsed lex is_reserved out-Expr denote.Hole.Carrier.out layers expression free_path
no_item = refl

unknown_before_mixed : parsed (codes "SELECT a, COUNT(*) FROM t, u") ≡ refused 7 kind.UnknownName
unfolding parsed lex is_reserved out-Expr denote.Hole.Carrier.out layers expression free_path
unknown_before_mixed = refl

-- ---- the levels of a whole statement

sixty_four_brackets :
    parsed (codes "INSERT INTO t ((((((((((((((((((((((((((((((((((((((((((((((((((((((((((((((((") ≡ refused 77 kind.TooDeep
unfolding parsed lex is_reserved layers expression free_path
sixty_four_brackets = refl

sixty_three_brackets :
    parsed (codes "INSERT INTO t (((((((((((((((((((((((((((((((((((((((((((((((((((((((((((((((") ≡ refused 77 kind.TextEnds
unfolding parsed lex is_reserved layers expression free_path
sixty_three_brackets = refl
