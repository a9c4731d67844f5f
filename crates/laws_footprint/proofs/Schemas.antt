-- Tables and indexes: blocks that don't touch a name leave its active table and the indexes of that table as they
-- are.
use Rattle.std.proofs.Common.{◌≡◌, ◌∙◌, ℕ, Bool, true, false, not, cond, ◌==◌, ◌&&◌, ◌||◌, List, [], ◌∷◌, ◌++◌, map, refl, sym, ap, Option, Some, option_map}
use Rattle.std.specs.List.{filter, list_any}
use Rattle.std.specs.Prelude.{if◌then◌else◌}
use Rattle.std.specs.Str.{bytes_eq}
use Rattle.std.proofs.lemmas.Bool.{both_ways, eq-eqb, eqb-true, false_from_ne_true, or_left, or_parts}
use Rattle.std.proofs.lemmas.List.{append-nil}
use Rattle.std.proofs.lemmas.List.Elements.{filter-append}
use Rattle.ql_types.specs.declared.TableId.{TableId}
use Rattle.ledger_model.specs.declared.block.Block.{Block}
use Rattle.ledger_model.specs.declared.block.Schema.{Schema}
use Rattle.ledger_model.specs.declared.block.Schema.TheVariants.{Create, Index, Drop, Redact}
use Rattle.ledger_model.specs.declared.outcome.Item.{Item}
use Rattle.ledger_model.specs.declared.outcome.Item.TheVariants as item
use Rattle.ledger_model.specs.Follows.{has_index}
use Rattle.ledger_model.specs.Footprints.{first_of}
use Rattle.ledger_model.specs.State.{Indexed, State, Table, active_table, after, all_changed, all_indexed, changed, dropped, indexed, state_from}
use Rattle.pql_model.proofs.Equality.{inside}
use Rattle.laws_footprint.specs.Framed.{indexes_of, is_index_of}
use Rattle.laws_footprint.specs.Touches.{change_touches_name, has_name, touched, touches_name}

-- ---- the active tables of a name

abbrev pub is_called : List ℕ → Table → Bool
is_called name t = t.active && bytes_eq t.name name

abbrev pub called : List ℕ → List Table → List Table
called name tables = filter (is_called name) tables

first_called : (t : Table) (rest : List Table) (b : Bool) (o : Option TableId)
    → o ≡ option_map (λ (x : Table). x.id) (first_of rest)
    → cond b (Some t.id) o ≡ option_map (λ (x : Table). x.id) (first_of (cond b (t ∷ rest) rest))
first_called t rest true o ih = refl
first_called t rest false o ih = ih

pub active_is : (tables : List Table) (name : List ℕ)
    → active_table tables name ≡ option_map (λ (x : Table). x.id) (first_of (called name tables))
active_is [] name = refl
active_is (t ∷ ts) name = first_called t (called name ts) (is_called name t) (active_table ts name) (active_is ts name)

-- an active table with that id
abbrev pub has_id : TableId → Table → Bool
has_id id t = t.id.raw == id.raw

has_by : (id : TableId) (t : Table) (ts : List Table) (a b : Bool) (rest : Bool) → rest ≡ list_any (has_id id) ts
    → ((a && b && has_id id t) || rest) ≡ list_any (has_id id) (cond (a && b) (t ∷ ts) ts)
has_by id t ts true true rest ih = ap (λ r. has_id id t || r) ih
has_by id t ts true false rest ih = ih
has_by id t ts false true rest ih = ih
has_by id t ts false false rest ih = ih

pub has_name_is : (tables : List Table) (name : List ℕ) (id : TableId)
    → has_name tables name id ≡ list_any (has_id id) (called name tables)
has_name_is [] name id = refl
has_name_is (t ∷ ts) name id =
    has_by id t (called name ts) t.active (bytes_eq t.name name) (has_name ts name id) (has_name_is ts name id)

-- ---- dropping

abbrev pub keeps : TableId → Table → Bool
keeps id t = not (t.id.raw == id.raw)

dropped_by : (name : List ℕ) (id : TableId) (t : Table) (ts : List Table) (a b c : Bool)
    → called name (map (dropped id) ts) ≡ filter (keeps id) (called name ts)
    → (t.id.raw == id.raw) ≡ c
    → cond ((if c then false else a) && b)
    (record t { active = if c then false else a } ∷ called name (map (dropped id) ts))
    (called name (map (dropped id) ts))
    ≡ filter (keeps id) (cond (a && b) (record t { active = a } ∷ called name ts) (called name ts))
dropped_by name id t ts true true true ih e = ih
    ∙ ap (λ c. cond (not c) (record t { active = true } ∷ filter (keeps id) (called name ts))
    (filter (keeps id) (called name ts))) (sym e)
dropped_by name id t ts true true false ih e =
    ap (λ xs. record t { active = true } ∷ xs) ih
    ∙ ap (λ c. cond (not c) (record t { active = true } ∷ filter (keeps id) (called name ts))
    (filter (keeps id) (called name ts))) (sym e)
dropped_by name id t ts true false true ih e = ih
dropped_by name id t ts true false false ih e = ih
dropped_by name id t ts false true true ih e = ih
dropped_by name id t ts false true false ih e = ih
dropped_by name id t ts false false true ih e = ih
dropped_by name id t ts false false false ih e = ih

pub called_dropped : (name : List ℕ) (id : TableId) (tables : List Table)
    → called name (map (dropped id) tables) ≡ filter (keeps id) (called name tables)
called_dropped name id [] = refl
called_dropped name id (t ∷ ts) =
    dropped_by name id t ts t.active (bytes_eq t.name name) (t.id.raw == id.raw) (called_dropped name id ts) refl

none_dropped : (id : TableId) (ts : List Table) → list_any (has_id id) ts ≡ false → filter (keeps id) ts ≡ ts
none_dropped id [] h = refl
none_dropped id (t ∷ ts) h =
    let parts = or_parts (has_id id t) (list_any (has_id id) ts) h in
    ap (λ c. cond (not c) (t ∷ filter (keeps id) ts) (filter (keeps id) ts)) parts.0
    ∙ ap (λ xs. t ∷ xs) (none_dropped id ts parts.1)

-- ---- one change

called_by_change : (name : List ℕ) (tables : List Table) (c : Schema) → change_touches_name tables name c ≡ false
    → called name (changed tables c) ≡ called name tables
called_by_change name tables (Create n id) h =
    filter-append (is_called name) tables (record { name = n; id = id; active = true } ∷ [])
    ∙ ap (λ b. called name tables ++ cond b (record { name = n; id = id; active = true } ∷ []) []) h
    ∙ append-nil (called name tables)
called_by_change name tables (Index field id) h = refl
called_by_change name tables (Drop n id) h =
    let parts = or_parts (bytes_eq n name) (has_name tables name id) h in
    called_dropped name id tables ∙ none_dropped id (called name tables) (sym (has_name_is tables name id) ∙ parts.1)
called_by_change name tables (Redact address id document) h = refl

pub called_by_changes : (name : List ℕ) (tables : List Table) (cs : List Schema) → touches_name tables name cs ≡ false
    → called name (all_changed tables cs) ≡ called name tables
called_by_changes name tables [] h = refl
called_by_changes name tables (c ∷ cs) h =
    let parts = or_parts (change_touches_name tables name c) (touches_name (changed tables c) name cs) h in
    called_by_changes name (changed tables c) cs parts.1 ∙ called_by_change name tables c parts.0

-- the same changes of two lists of tables that have the same tables of a name
same_change : (name : List ℕ) (xs ys : List Table) (c : Schema) → called name xs ≡ called name ys
    → called name (changed xs c) ≡ called name (changed ys c)
same_change name xs ys (Create n id) h =
    filter-append (is_called name) xs (record { name = n; id = id; active = true } ∷ [])
    ∙ ap (λ ts. ts ++ called name (record { name = n; id = id; active = true } ∷ [])) h
    ∙ sym (filter-append (is_called name) ys (record { name = n; id = id; active = true } ∷ []))
same_change name xs ys (Index field id) h = h
same_change name xs ys (Drop n id) h = called_dropped name id xs ∙ ap (filter (keeps id)) h
    ∙ sym (called_dropped name id ys)
same_change name xs ys (Redact address id document) h = h

pub same_changes : (name : List ℕ) (xs ys : List Table) (cs : List Schema) → called name xs ≡ called name ys
    → called name (all_changed xs cs) ≡ called name (all_changed ys cs)
same_changes name xs ys [] h = h
same_changes name xs ys (c ∷ cs) h = same_changes name (changed xs c) (changed ys c) cs (same_change name xs ys c h)

-- ---- indexes

-- an index on that field
abbrev pub is_on : List ℕ → Indexed → Bool
is_on f i = bytes_eq i.field f

other_id : (tables : List Table) (name : List ℕ) (id table : TableId) → has_name tables name table ≡ true
    → has_name tables name id ≡ false → (id.raw == table.raw) ≡ false
other_id tables name id table has not =
    false_from_ne_true (id.raw == table.raw) (λ same.
    both_ways (has_name tables name id) not
    (ap (λ n. has_name tables name (record { raw = n })) (eqb-true id.raw table.raw same) ∙ has))

pub no_index_more : (ix : List Indexed) (i : Indexed) (table : TableId) → (i.table.raw == table.raw) ≡ false
    → indexes_of table (ix ++ i ∷ []) ≡ indexes_of table ix
no_index_more ix i table other =
    filter-append (is_index_of table) ix (i ∷ [])
    ∙ ap (λ b. indexes_of table ix ++ cond b (i ∷ []) []) other
    ∙ append-nil (indexes_of table ix)

-- these tell which fields have an index
has_by_field : (i : Indexed) (ix : List Indexed) (f : List ℕ) (b v : Bool) → v ≡ list_any (is_on f) ix
    → ((b && is_on f i) || v) ≡ list_any (is_on f) (cond b (i ∷ ix) ix)
has_by_field i ix f true v ih = ap (λ x. is_on f i || x) ih
has_by_field i ix f false v ih = ih

pub has_index_is : (ix : List Indexed) (table : TableId) (f : List ℕ)
    → has_index ix table f ≡ list_any (is_on f) (indexes_of table ix)
has_index_is [] table f = refl
has_index_is (i ∷ ix) table f =
    has_by_field i (indexes_of table ix) f (i.table.raw == table.raw) (has_index ix table f) (has_index_is ix table f)

index_by_change : (name : List ℕ) (tables : List Table) (ix : List Indexed) (table : TableId) (c : Schema)
    → has_name tables name table ≡ true
    → change_touches_name tables name c ≡ false → indexes_of table (indexed ix c) ≡ indexes_of table ix
index_by_change name tables ix table (Create n id) has h = refl
index_by_change name tables ix table (Index field id) has h =
    no_index_more ix (record { table = id; field = field }) table (other_id tables name id table has h)
index_by_change name tables ix table (Drop n id) has h = refl
index_by_change name tables ix table (Redact address id document) has h = refl

still_has : (name : List ℕ) (xs ys : List Table) (table : TableId) → called name xs ≡ called name ys
    → has_name ys name table ≡ true → has_name xs name table ≡ true
still_has name xs ys table same has = has_name_is xs name table ∙ ap (list_any (has_id table)) same
    ∙ sym (has_name_is ys name table) ∙ has

index_by_changes : (name : List ℕ) (tables : List Table) (ix : List Indexed) (table : TableId) (cs : List Schema)
    → has_name tables name table ≡ true
    → touches_name tables name cs ≡ false → indexes_of table (all_indexed ix cs) ≡ indexes_of table ix
index_by_changes name tables ix table [] has h = refl
index_by_changes name tables ix table (c ∷ cs) has h =
    let parts = or_parts (change_touches_name tables name c) (touches_name (changed tables c) name cs) h in
    index_by_changes name (changed tables c) (indexed ix c) table cs
    (still_has name (changed tables c) tables table (called_by_change name tables c parts.0) has) parts.1
    ∙ index_by_change name tables ix table c has parts.0

-- ---- all blocks

-- none of the blocks behind the state touches the item
abbrev pub Untouched : State → List Block → Item → Type 0
Untouched s [] i = Unit {0}
Untouched s (b ∷ bs) i = (touched s b i ≡ false) × Untouched (after s b) bs i

pub called_still : (name : List ℕ) (s : State) (later : List Block) → Untouched s later (item.TableName name)
    → called name (state_from s later).tables ≡ called name s.tables
called_still name s [] h = refl
called_still name s (b ∷ bs) h = called_still name (after s b) bs h.1
    ∙ called_by_changes name s.tables b.info.schema h.0

pub index_still : (name : List ℕ) (s : State) (later : List Block) (table : TableId)
    → has_name s.tables name table ≡ true → Untouched s later (item.TableName name)
    → indexes_of table (state_from s later).indexes ≡ indexes_of table s.indexes
index_still name s [] table has h = refl
index_still name s (b ∷ bs) table has h =
    index_still name (after s b) bs table
    (still_has name (after s b).tables s.tables table (called_by_changes name s.tables b.info.schema h.0) has) h.1
    ∙ index_by_changes name s.tables s.indexes table b.info.schema has h.0

-- the first of some has its own id
first_has : (ts : List Table) (table : TableId) → option_map (λ (x : Table). x.id) (first_of ts) ≡ Some table
    → list_any (has_id table) ts ≡ true
first_has [] table h = cc
first_has (t ∷ ts) table h =
    or_left (has_id table t) _ (eq-eqb t.id.raw table.raw (ap (λ (x : TableId). x.raw) (inside t.id table h)))

pub active_has : (tables : List Table) (name : List ℕ) (table : TableId) → active_table tables name ≡ Some table
    → has_name tables name table ≡ true
active_has tables name table h = has_name_is tables name table
    ∙ first_has (called name tables) table (sym (active_is tables name) ∙ h)
