-- A statement that was read is shallow.
use Rattle.std.proofs.Common.{ℕ, zero, suc, ◌≤◌, Bool, true, false, if◌then◌else◌, List, [], ◌∷◌, ◌++◌, length, map, Option, Some, None, codes, arith}
use Rattle.std.proofs.lemmas.List.{map-append}
use Rattle.ion_values.specs.Depth.{deepest}
use Rattle.pql_model.specs.declared.ParseKind.TheVariants as kind
use Rattle.pql_model.specs.declared.expr.Expr.{Expr}
use Rattle.pql_model.specs.declared.expr.Path.{Path}
use Rattle.pql_model.specs.declared.expr.PathStep.{PathStep}
use Rattle.pql_model.specs.declared.mark.Place.TheVariants as place
use Rattle.pql_model.specs.declared.mark.Role.TheVariants as role
use Rattle.pql_model.specs.declared.statement.FromClause.{FromClause}
use Rattle.pql_model.specs.declared.statement.Select.{Select}
use Rattle.pql_model.specs.declared.statement.Select.TheVariants as select'
use Rattle.pql_model.specs.declared.statement.SelectItem.{SelectItem}
use Rattle.pql_model.specs.declared.statement.Source.{Source}
use Rattle.pql_model.specs.declared.statement.SourceKind.{SourceKind}
use Rattle.pql_model.specs.declared.statement.SourceKind.TheVariants as source'
use Rattle.pql_model.specs.declared.statement.Statement.{Statement}
use Rattle.pql_model.specs.declared.statement.Statement.TheVariants as statement'
use Rattle.pql_model.specs.declared.token.Token.{Token}
use Rattle.pql_model.specs.Expressions.{constant_of, expression}
use Rattle.pql_model.specs.Grammar.{alias, begins_history, bounds, conditioned, const, constant_or_not, end_bound, filter_of, from_clause, history, id_name, is_variable, item, item_from, items, items_behind, kind_by, rooted, select, selection, source, source_kind, source_of, sources, sources_behind, table_or_path}
use Rattle.pql_model.specs.Productions.{Production, ◌>>=◌, front, give, optional, token_of, word}
use Rattle.pql_model.specs.Shallow.{IsShallow, IsShallowFrom, IsShallowPath, IsShallowSelect, IsShallowSource, IsShallowStatement, given_depth, item_depth, kind_depth, source_depth}
use Rattle.pql_model.specs.Words.{is_symbol, is_word}
use Rattle.pql_model.proofs.Depths.{deepest_append}
use Rattle.pql_model.proofs.ExpressionDepths.{ConstantFits, constant_fits}
use Rattle.pql_model.proofs.Gives.{Any, Gives, any_name, front_depth, gives_choice, gives_choose, gives_give, gives_if_symbol, gives_if_word, gives_marked, gives_past, gives_refuse, gives_symbol, gives_then, gives_with_name, gives_within, gives_word}
use Rattle.pql_model.proofs.LayerDepths.{gives_expression, gives_free_path}

-- ---- parts of statements

abbrev Given : Option Expr → Type 0
Given e = given_depth e ≤ 64

gives_optional : {A : Type 0} {P : A → Type 0} {Q : Option A → Type 0} {p : Production A} → (test : Token → Bool) → Gives A P p → ((x : A) → P x → Q (Some x)) → Q None → Gives (Option A) Q (optional test p)
gives_optional test g some none = gives_choose test (gives_then _ g (λ x h. gives_give (Some x) (some x h))) (gives_give None none)

gives_alias : Gives (Option (List ℕ)) Any alias
gives_alias = gives_optional (is_word (codes "AS")) (gives_word "AS" any_name) (λ x h. tt) tt

gives_id_name : Gives (Option (List ℕ)) Any id_name
gives_id_name = gives_optional (is_word (codes "BY")) (gives_marked role.By (gives_word "BY" any_name)) (λ x h. tt) tt

gives_filter : Gives (Option Expr) Given filter_of
gives_filter = gives_optional (is_word (codes "WHERE")) (gives_word "WHERE" gives_expression) (λ x h. h) (omega arith)

gives_constant_or_not : (found : Option Expr) → ConstantFits 1 found → Gives Expr IsShallow (constant_or_not found)
gives_constant_or_not (Some e) f = gives_past (gives_give e (omega (arith, f.nested, f.told)))
gives_constant_or_not None f = gives_refuse _ kind.Unexpected

gives_const : Gives Expr IsShallow const
gives_const = record { at = λ r h. (gives_constant_or_not (constant_of (token_of r)) (constant_fits 0 (token_of r) (omega (arith, front_depth r.rest)))).at r h }

-- ---- sources

abbrev IsShallowKind : SourceKind → Type 0
IsShallowKind k = kind_depth k ≤ 64

gives_end_bound : Gives (Option Expr) Given end_bound
gives_end_bound = gives_optional (is_symbol (codes ",")) (gives_symbol "," gives_const) (λ x h. h) (omega arith)

gives_bounds : (table : List ℕ) → Gives SourceKind IsShallowKind (bounds table)
gives_bounds table =
    gives_if_symbol ","
    (gives_past (gives_then _ gives_const (λ start h. gives_then _ gives_end_bound (λ end g. gives_symbol ")" (gives_give (source'.History table (Some start) end) (omega arith))))))
    (gives_symbol ")" (gives_give (source'.History table None None) (omega arith)))

gives_history : Gives SourceKind IsShallowKind history
gives_history = gives_past (gives_symbol "(" (gives_then bounds any_name (λ table h. gives_bounds table)))

gives_rooted : (made : Path → SourceKind) → ((p : Path) → IsShallowPath p → kind_depth (made p) ≤ 64) → Gives SourceKind IsShallowKind (rooted made)
gives_rooted made g =
    gives_with_name _ (λ first. gives_marked (role.Root first) (gives_past (gives_then _ (gives_free_path first) (λ p h. gives_give (made p) (g p h)))))

choice_depth : (b : Bool) (j k : SourceKind) → kind_depth j ≤ 64 → kind_depth k ≤ 64 → kind_depth (if b then j else k) ≤ 64
choice_depth true j k f g = f
choice_depth false j k f g = g

kind_by_depth : (earlier : List Source) (p : Path) (steps : List PathStep) → IsShallowPath p → kind_depth (kind_by earlier p steps) ≤ 64
kind_by_depth earlier p [] h = choice_depth (is_variable earlier p.first) (source'.Path p) (source'.Table p.first) h (omega arith)
kind_by_depth earlier p (s ∷ steps) h = h

gives_source_kind : (earlier : List Source) → Gives SourceKind IsShallowKind (source_kind earlier)
gives_source_kind earlier =
    record {
      at = λ r h. (gives_choice (begins_history r.rest) gives_history
          (gives_if_symbol "@" (gives_past (gives_rooted source'.Path (λ p g. g)))
          (gives_rooted (table_or_path earlier) (λ p g. kind_by_depth earlier p p.steps g)))).at r h;
    }

abbrev AreShallow : List Source → Type 0
AreShallow ss = deepest (map source_depth ss) ≤ 64

gives_source : (earlier : List Source) → Gives Source IsShallowSource (source earlier)
gives_source earlier =
    gives_within (place.Source (length earlier))
    (gives_then _ (gives_source_kind earlier) (λ from h. gives_then _ gives_alias (λ variable g. gives_then _ gives_id_name (λ id i. gives_give (source_of from variable id) (omega arith)))))

more_depth : (ss : List Source) (s : Source) → AreShallow ss → IsShallowSource s → AreShallow (ss ++ s ∷ [])
more_depth ss s h g = rw (map-append source_depth ss (s ∷ []), deepest_append) (omega arith)

conditioned_depth : (s : Source) (e : Expr) → IsShallowSource s → IsShallow e → IsShallowSource (conditioned s e)
conditioned_depth s e h g = omega arith

module _ (behind : List Source → Production (List Source)) (g : (ss : List Source) → AreShallow ss → Gives (List Source) AreShallow (behind ss)) (so_far : List Source) (h : AreShallow so_far) where
  gives_another : Gives (List Source) AreShallow (source so_far >>= (λ s. behind (so_far ++ s ∷ [])))
  gives_another = gives_then _ (gives_source so_far) (λ s i. g (so_far ++ s ∷ []) (more_depth so_far s h i))

  gives_joined : Gives (List Source) AreShallow (word "JOIN" (source so_far >>= (λ s. word "ON" (expression >>= (λ e. behind (so_far ++ conditioned s e ∷ []))))))
  gives_joined =
      gives_word "JOIN"
      (gives_then _ (gives_source so_far)
      (λ s i. gives_word "ON" (gives_then _ gives_expression (λ e j. g (so_far ++ conditioned s e ∷ []) (more_depth so_far (conditioned s e) h (conditioned_depth s e i j))))))

gives_sources_behind : (more : ℕ) (so_far : List Source) → AreShallow so_far → Gives (List Source) AreShallow (sources_behind more so_far)
gives_sources_behind zero so_far h = gives_give so_far h
gives_sources_behind (suc more) so_far h =
    gives_if_symbol "," (gives_past (gives_another (sources_behind more) (gives_sources_behind more) so_far h))
    (gives_if_word "CROSS" (gives_past (gives_word "JOIN" (gives_another (sources_behind more) (gives_sources_behind more) so_far h)))
    (gives_if_word "INNER" (gives_past (gives_joined (sources_behind more) (gives_sources_behind more) so_far h))
    (gives_if_word "JOIN" (gives_joined (sources_behind more) (gives_sources_behind more) so_far h)
    (gives_give so_far h))))

gives_sources : Gives (List Source) AreShallow sources
gives_sources =
    record {
      at = λ r h. (gives_then (λ (s : Source). sources_behind (length r.rest) (s ∷ [])) (gives_source []) (λ s g. gives_sources_behind (length r.rest) (s ∷ []) (omega arith))).at r h;
    }

gives_from : Gives FromClause IsShallowFrom from_clause
gives_from = gives_then _ gives_sources (λ ss h. gives_then _ gives_filter (λ f g. gives_give _ (omega arith)))

-- ---- items

abbrev AreShallowItems : List SelectItem → Type 0
AreShallowItems items = deepest (map item_depth items) ≤ 64

gives_item_from : (at before : ℕ) → Gives SelectItem (λ i. item_depth i ≤ 64) (item_from at before)
gives_item_from at before =
    gives_then _ (gives_within place.Item gives_expression)
    (λ e h. record { at = λ r g. (gives_then (λ (a : Option (List ℕ)). give (record { value = e; name = a })) gives_alias (λ a i. gives_give _ h)).at _ g })

gives_item : Gives SelectItem (λ i. item_depth i ≤ 64) item
gives_item = record { at = λ r h. (gives_item_from (front r).at (length r.marks)).at r h }

more_items : (is : List SelectItem) (i : SelectItem) → AreShallowItems is → item_depth i ≤ 64 → AreShallowItems (is ++ i ∷ [])
more_items is i h g = rw (map-append item_depth is (i ∷ []), deepest_append) (omega arith)

gives_items_behind : (more : ℕ) (so_far : List SelectItem) → AreShallowItems so_far → Gives (List SelectItem) AreShallowItems (items_behind more so_far)
gives_items_behind zero so_far h = gives_refuse AreShallowItems kind.Unexpected
gives_items_behind (suc more) so_far h =
    gives_then _ gives_item
    (λ i g. gives_if_symbol "," (gives_past (gives_items_behind more (so_far ++ i ∷ []) (more_items so_far i h g))) (gives_give (so_far ++ i ∷ []) (more_items so_far i h g)))

gives_items : Gives (List SelectItem) AreShallowItems items
gives_items = record { at = λ r h. (gives_items_behind (length r.rest) [] (omega arith)).at r h }

gives_selection : Gives Select IsShallowSelect selection
gives_selection =
    gives_if_symbol "*" (gives_past (gives_give select'.Star (omega arith)))
    (gives_if_word "VALUE" (gives_past (gives_then _ gives_expression (λ e h. gives_give (select'.Value e) h)))
    (gives_then _ gives_items (λ is h. gives_give (select'.Items is) h)))

pub gives_select : Gives Statement IsShallowStatement select
gives_select =
    gives_then _ gives_selection (λ s h. gives_word "FROM" (gives_then _ gives_from (λ f g. gives_give (statement'.Select s f) (omega arith))))
