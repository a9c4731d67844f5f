-- Sources, opened by one step.
use Rattle.std.proofs.Common.{◌≡◌, ℕ, List, length, Option, Some, None, codes, refl, if◌then◌else◌}
use Rattle.pql_model.specs.declared.expr.Path.{Path}
use Rattle.pql_model.specs.declared.mark.Place.TheVariants as place
use Rattle.pql_model.specs.declared.mark.Role.TheVariants as role
use Rattle.pql_model.specs.declared.statement.Source.{Source}
use Rattle.pql_model.specs.declared.statement.SourceKind.{SourceKind}
use Rattle.pql_model.specs.declared.statement.SourceKind.TheVariants as source'
use Rattle.pql_model.specs.Words.{is_word, is_symbol, name_of}
use Rattle.pql_model.specs.Productions.{Production, Reader, advanced, by_name, choose, give, marked, onward, past, symbol, token_of, with_name, within, word, ◌>>=◌}
use Rattle.pql_model.specs.Productions as productions
use Rattle.pql_model.specs.Expressions.{constant_of, expression, free_path}
use Rattle.pql_model.specs.Grammar as spec
use Rattle.pql_model.specs.Grammar.{begins_history, conditioned, constant_or_not, source_of, table_or_path}
use Rattle.pql_parse.specs.ClosedStatements.{alias, another, bounds, conditioned_source, const, end_bound, filter_of, from_clause, history_of, id_name, inner_joined, joined, plain_id_name, rooted_path, source, source_kind, source_there, sources}
use Rattle.pql_expr_parser.specs.Closed.{name}
use Rattle.pql_expr_parser.proofs.Onward.{same_cond, optional_opens, marked_opens}

-- ---- constants and what may be left out

pub const_opens : (r : Reader) → const r ≡ constant_or_not (constant_of (token_of r)) r
unfolding const
const_opens r = refl

pub alias_opens : (r : Reader) → alias r ≡ choose (is_word (codes "AS")) (past (name >>= (λ x. give (Some x)))) (give None) r
unfolding alias name
alias_opens r = optional_opens (is_word (codes "AS")) productions.name r

pub plain_id_name_opens : (r : Reader) → plain_id_name r ≡ choose (is_word (codes "BY")) (past (name >>= (λ x. give (Some x)))) (give None) r
unfolding plain_id_name name
plain_id_name_opens r = optional_opens (is_word (codes "BY")) productions.name r

pub id_name_opens : (r : Reader) → id_name r ≡ choose (is_word (codes "BY")) (marked role.By (past (name >>= (λ x. give (Some x))))) (give None) r
unfolding id_name name
id_name_opens r = marked_opens role.By (is_word (codes "BY")) productions.name r

pub filter_of_opens : (r : Reader) → filter_of r ≡ choose (is_word (codes "WHERE")) (past (expression >>= (λ x. give (Some x)))) (give None) r
unfolding filter_of
filter_of_opens r = optional_opens (is_word (codes "WHERE")) expression r

-- ---- a source

pub end_bound_opens : (r : Reader) → end_bound r ≡ choose (is_symbol (codes ",")) (past (const >>= (λ x. give (Some x)))) (give None) r
unfolding end_bound const
end_bound_opens r = optional_opens (is_symbol (codes ",")) spec.const r

pub bounds_opens : (table : List ℕ) (r : Reader) →
    bounds table r
    ≡ choose (is_symbol (codes ","))
    (past (const >>= (λ start. end_bound >>= (λ end. symbol ")" (give (source'.History table (Some start) end))))))
    (symbol ")" (give (source'.History table None None))) r
unfolding bounds const end_bound
bounds_opens table r = refl

pub history_of_opens : (r : Reader) → history_of r ≡ symbol "(" (name >>= bounds) r
unfolding history_of name bounds
history_of_opens r = refl

pub rooted_path_opens : (r : Reader) → rooted_path r ≡ with_name (λ first. marked (role.Root first) (past (free_path first))) r
unfolding rooted_path
rooted_path_opens r = refl

rooted_by : (made : Path → SourceKind) (n : Option (List ℕ)) (r : Reader) →
    by_name (λ first. marked (role.Root first) (past (free_path first >>= (λ p. give (made p))))) n r
    ≡ onward (λ p. give (made p)) (by_name (λ first. marked (role.Root first) (past (free_path first))) n r)
rooted_by made (Some first) r = refl
rooted_by made None r = refl

rooted_is : (made : Path → SourceKind) (r : Reader) → spec.rooted made r ≡ (rooted_path >>= (λ p. give (made p))) r
unfolding rooted_path
rooted_is made r = rooted_by made (name_of (token_of r)) r

pub source_kind_opens : (earlier : List Source) (r : Reader) →
    source_kind earlier r
    ≡ (if begins_history r.rest then past history_of
    else choose (is_symbol (codes "@")) (past (rooted_path >>= (λ p. give (source'.Path p)))) (rooted_path >>= (λ p. give (table_or_path earlier p)))) r
unfolding source_kind history_of
source_kind_opens earlier r =
    let at : Production SourceKind = past (spec.rooted source'.Path) in
    let named : Production SourceKind = spec.rooted (table_or_path earlier) in
    let at' : Production SourceKind = past (rooted_path >>= (λ p. give (source'.Path p))) in
    let named' : Production SourceKind = rooted_path >>= (λ p. give (table_or_path earlier p)) in
    same_cond (begins_history r.rest) spec.history (choose (is_symbol (codes "@")) at named) (past history_of) (choose (is_symbol (codes "@")) at' named') r refl
    (same_cond (is_symbol (codes "@") (token_of r)) at named at' named' r (rooted_is source'.Path (advanced r)) (rooted_is (table_or_path earlier) r))

pub source_there_opens : (earlier : List Source) (r : Reader) →
    source_there earlier r ≡ (source_kind earlier >>= (λ from. alias >>= (λ variable. id_name >>= (λ id. give (source_of from variable id))))) r
unfolding source_there source_kind alias id_name
source_there_opens earlier r = refl

pub source_opens : (earlier : List Source) (r : Reader) → source earlier r ≡ within (place.Source (length earlier)) (source_there earlier) r
unfolding source source_there
source_opens earlier r = refl

-- ---- sources

pub conditioned_source_opens : (earlier : List Source) (r : Reader) →
    conditioned_source earlier r ≡ word "JOIN" (source earlier >>= (λ s. word "ON" (expression >>= (λ e. give (conditioned s e))))) r
unfolding conditioned_source source
conditioned_source_opens earlier r = refl

pub inner_joined_opens : (earlier : List Source) (r : Reader) →
    inner_joined earlier r
    ≡ choose (is_word (codes "INNER")) (past (conditioned_source earlier >>= (λ s. give (Some s))))
    (choose (is_word (codes "JOIN")) (conditioned_source earlier >>= (λ s. give (Some s)))
    (give None)) r
unfolding inner_joined conditioned_source
inner_joined_opens earlier r = refl

pub joined_opens : (earlier : List Source) (r : Reader) →
    joined earlier r ≡ choose (is_word (codes "CROSS")) (past (word "JOIN" (source earlier >>= (λ s. give (Some s))))) (inner_joined earlier) r
unfolding joined source inner_joined
joined_opens earlier r = refl

pub another_opens : (earlier : List Source) (r : Reader) →
    another earlier r ≡ choose (is_symbol (codes ",")) (past (source earlier >>= (λ s. give (Some s)))) (joined earlier) r
unfolding another source joined
another_opens earlier r = refl

pub from_clause_opens : (r : Reader) → from_clause r ≡ (sources >>= (λ ss. filter_of >>= (λ f. give (record { sources = ss; filter = f })))) r
unfolding from_clause sources filter_of
from_clause_opens r = refl
