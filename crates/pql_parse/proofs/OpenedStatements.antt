-- Items, changes and statements, opened by one step.
use Rattle.std.proofs.Common.{◌≡◌, ℕ, Bool, true, false, cond, List, length, Some, None, codes, refl, sym}
use Rattle.pql_model.specs.declared.ParseKind.TheVariants as kind
use Rattle.pql_model.specs.declared.mark.Place.TheVariants as place
use Rattle.pql_model.specs.declared.mark.Role.TheVariants as role
use Rattle.pql_model.specs.declared.statement.Change.TheVariants as change'
use Rattle.pql_model.specs.declared.statement.Select.TheVariants as select'
use Rattle.pql_model.specs.declared.statement.Source.{Source}
use Rattle.pql_model.specs.declared.statement.SourceKind.TheVariants as source'
use Rattle.pql_model.specs.declared.statement.Statement.{Statement}
use Rattle.pql_model.specs.declared.statement.Statement.TheVariants as statement'
use Rattle.pql_model.specs.Words.{is_word, is_symbol}
use Rattle.pql_model.specs.Productions.{Reader, advanced, choose, front, give, mark_at, marked, onward, past, refuse, symbol, token_of, with_name, within, word, ◌>>=◌}
use Rattle.pql_model.specs.Productions as productions
use Rattle.pql_model.specs.Expressions.{expression, free_path}
use Rattle.pql_model.specs.Grammar as spec
use Rattle.pql_model.specs.Grammar.{begins_step, item_role, of_one, source_of}
use Rattle.pql_parse.specs.ClosedStatements.{alias, at_place, change, change_or_table, const, create, data_or_table, delete, drop_table, ended, filter_of, filtered, from, from_clause, index, insert, inserted, insertion, item, item_value, items, plain_id_name, redact, redact_or_drop, select, selection, setting, settings, statement, table, target, update}
use Rattle.pql_expr_parser.specs.Closed.{name}
use Rattle.pql_expr_parser.proofs.Onward.{made_then, same_cond, same_onward, optional_opens}

-- ---- items

pub item_value_opens : (r : Reader) → item_value r ≡ within place.Item expression r
unfolding item_value
item_value_opens r = refl

pub item_opens : (r : Reader) →
    item r ≡ (item_value >>= (λ e s. mark_at (front r).at (item_role (length r.marks) e s.marks) (alias >>= (λ a. give (record { value = e; name = a }))) s)) r
unfolding item item_value alias
item_opens r = refl

pub selection_opens : (r : Reader) →
    selection r
    ≡ choose (is_symbol (codes "*")) (past (give select'.Star))
    (choose (is_word (codes "VALUE")) (past (expression >>= (λ e. give (select'.Value e))))
    (items >>= (λ is. give (select'.Items is)))) r
unfolding selection items
selection_opens r = refl

-- ---- changes

pub target_opens : (r : Reader) →
    target r ≡ with_name (λ first s. marked (role.Target first (begins_step (token_of (advanced s)))) (past (free_path first)) s) r
unfolding target
target_opens r = refl

pub setting_opens : (r : Reader) → setting r ≡ (target >>= (λ p. symbol "=" (expression >>= (λ e. give (record { target = p; value = e }))))) r
unfolding setting target
setting_opens r = refl

pub at_place_opens : (r : Reader) → at_place r ≡ choose (is_word (codes "AT")) (past (expression >>= (λ x. give (Some x)))) (give None) r
unfolding at_place
at_place_opens r = optional_opens (is_word (codes "AT")) expression r

pub insertion_opens : (r : Reader) →
    insertion r ≡ word "INTO" (target >>= (λ p. word "VALUE" (expression >>= (λ e. at_place >>= (λ at. give (change'.Insert p e at)))))) r
unfolding insertion target at_place
insertion_opens r = refl

pub change_opens : (r : Reader) →
    change r
    ≡ choose (is_word (codes "SET")) (past (settings >>= (λ ss. give (change'.Set ss))))
    (choose (is_word (codes "INSERT")) (past insertion)
    (word "REMOVE" (target >>= (λ p. give (change'.Remove p))))) r
unfolding change settings insertion target
change_opens r = refl

-- ---- statements

pub table_opens : (r : Reader) →
    table r ≡ (name >>= (λ t. alias >>= (λ variable. plain_id_name >>= (λ id. give (source_of (source'.Table t) variable id))))) r
unfolding table name alias plain_id_name
table_opens r = refl

pub filtered_opens : (s : Source) (r : Reader) → filtered s r ≡ (filter_of >>= (λ f. give (of_one s f))) r
unfolding filtered filter_of
filtered_opens s r = refl

pub inserted_opens : (r : Reader) → inserted r ≡ choose (is_word (codes "VALUE")) (past expression) expression r
unfolding inserted
inserted_opens r = refl

pub select_opens : (r : Reader) → select r ≡ (selection >>= (λ s. word "FROM" (from_clause >>= (λ f. give (statement'.Select s f))))) r
unfolding select selection from_clause
select_opens r = refl

inserted_then : (t : List ℕ) (b : Bool) (r : Reader) →
    cond b (past (expression >>= (λ e. give (statement'.Insert t e)))) (expression >>= (λ e. give (statement'.Insert t e))) r
    ≡ onward (λ e. give (statement'.Insert t e)) (cond b (past expression) expression r)
inserted_then t true r = refl
inserted_then t false r = refl

pub insert_opens : (r : Reader) → insert r ≡ word "INTO" (name >>= (λ t. inserted >>= (λ e. give (statement'.Insert t e)))) r
unfolding insert name inserted
insert_opens r =
    same_cond (is_word (codes "INTO") (token_of r)) _ _ _ _ r
    (same_onward _ _ (productions.name (advanced r)) (λ t s. inserted_then t (is_word (codes "VALUE") (token_of s)) s)) refl

pub update_opens : (r : Reader) → update r ≡ (table >>= (λ s. change >>= (λ c. filtered s >>= (λ f. give (statement'.Update f c))))) r
unfolding update table change filtered
update_opens r =
    same_onward _ _ (spec.table r) (λ s t. same_onward _ _ (spec.change t) (λ c u. sym (made_then (of_one s) (λ f. give (statement'.Update f c)) (spec.filter_of u))))

pub from_opens : (r : Reader) → from r ≡ (from_clause >>= (λ f. change >>= (λ c. give (statement'.From f c)))) r
unfolding from from_clause change
from_opens r = refl

pub delete_opens : (r : Reader) → delete r ≡ word "FROM" (table >>= (λ s. filtered s >>= (λ f. give (statement'.Delete f)))) r
unfolding delete table filtered
delete_opens r =
    same_cond (is_word (codes "FROM") (token_of r)) _ _ _ _ r
    (same_onward _ _ (spec.table (advanced r)) (λ s t. sym (made_then (of_one s) (λ f. give (statement'.Delete f)) (spec.filter_of t)))) refl

pub index_opens : (r : Reader) →
    index r ≡ word "ON" (name >>= (λ t. symbol "(" (name >>= (λ field. symbol ")" (give (statement'.Index t field)))))) r
unfolding index name
index_opens r = refl

pub create_opens : (r : Reader) →
    create r ≡ choose (is_word (codes "INDEX")) (past index) (word "TABLE" (name >>= (λ t. give (statement'.Create t)))) r
unfolding create index name
create_opens r = refl

pub data_or_table_opens : (r : Reader) →
    data_or_table r
    ≡ choose (is_word (codes "DELETE")) (past delete)
    (choose (is_word (codes "CREATE")) (past create) redact_or_drop) r
unfolding data_or_table delete create redact_or_drop
data_or_table_opens r = refl

pub redact_or_drop_opens : (r : Reader) →
    redact_or_drop r
    ≡ choose (is_word (codes "EXEC")) (past redact) (word "DROP" drop_table) r
unfolding redact_or_drop redact drop_table
redact_or_drop_opens r = refl

pub drop_table_opens : (r : Reader) → drop_table r ≡ word "TABLE" (name >>= (λ t. give (statement'.Drop t))) r
unfolding drop_table name
drop_table_opens r = refl

pub redact_opens : (r : Reader) →
    redact r
    ≡ word "REDACT_REVISION" (const >>= (λ a. symbol "," (const >>= (λ t. symbol "," (const >>= (λ d.
    give (statement'.Redact a t d))))))) r
unfolding redact const
redact_opens r = refl

pub change_or_table_opens : (r : Reader) →
    change_or_table r ≡ choose (is_word (codes "UPDATE")) (past update) (choose (is_word (codes "FROM")) (past from) data_or_table) r
unfolding change_or_table update from data_or_table
change_or_table_opens r = refl

pub statement_opens : (r : Reader) →
    statement r ≡ choose (is_word (codes "SELECT")) (past select) (choose (is_word (codes "INSERT")) (past insert) change_or_table) r
unfolding statement select insert change_or_table
statement_opens r = refl

pub ended_opens : (s : Statement) (r : Reader) → ended s r ≡ choose spec.is_end (give s) (refuse kind.Unexpected) r
unfolding ended
ended_opens s r = refl

pub whole_statement_opens : (r : Reader) →
    spec.whole_statement r ≡ (statement >>= (λ s. choose (is_symbol (codes ";")) (past (ended s)) (ended s))) r
unfolding statement ended
whole_statement_opens r = refl
