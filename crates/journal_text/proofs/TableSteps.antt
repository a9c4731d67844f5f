-- The look-ups of tables after a change of the schema.
use Rattle.std.proofs.Common.{◌≡◌, ◌∙◌, ℕ, suc, ◌<◌, ◌≤◌, length, drop, get_or, Bool, true, false, ◌&&◌, not, ◌==◌, cond, List, [], ◌∷◌, ◌++◌, Option, Some, None, is_none, is_some, string_bytes, refl, sym, ap, subst}
use Rattle.std.specs.Ordering.{nat_cmp}
use Rattle.std.specs.Map.{update}
use Rattle.std.specs.Option.{option_map_or}
use Rattle.std.specs.Str.{bytes_eq}
use Rattle.std.specs.Prelude.{String}
use Rattle.std.specs.String.{string_cmp}
use Rattle.std.specs.Cmp.Lexicographic.{slice_cmp}
use Rattle.std.specs.declared.alloc.Global.{Global}
use Rattle.std.proofs.lemmas.Map.Text.{btree_map_updates_text}
use Rattle.std.specs.BTreeMap as tree
use Rattle.std.specs.BTreeSet as sorted
use Rattle.std.specs.BTreeMap.{get_by_text, is_at}
use Rattle.std.specs.BTreeSet.{contains}
use Rattle.std.proofs.lemmas.Bool.{eqb-true}
use Rattle.ql_types.specs.declared.BlockAddress.{BlockAddress}
use Rattle.ql_types.specs.declared.DocId.{DocId}
use Rattle.ql_types.specs.declared.TableId.{TableId}
use Rattle.ledger_model.specs.declared.block.Schema.{Schema}
use Rattle.ledger_model.specs.declared.block.Schema.TheVariants.{Create, Index, Drop, Redact}
use Rattle.ledger_model.specs.State.{Table, Indexed, active_table, all_changed, all_indexed, changed, indexed}
use Rattle.ledger_model.specs.Follows.{all_differ, change_follows, created_ids, has_index, is_active, is_named, schema_follows}
use Rattle.journal_text.specs.declared.registry.tables.Tables.{Tables}
use Rattle.journal_text.specs.Stands.{AllChange, Changes, TablesStand, has_field, table_ids}
use Rattle.journal_text.proofs.Changed.{active_table-created, active_table-dropped, has_index-pushed, is_active-created, is_active-dropped, names_differ-created, names_differ-dropped, table_ids-changed}
use Rattle.journal_text.proofs.Distinct.{all_differ-front}
use Rattle.journal_text.proofs.Passes.{drop_end, opened}
use Rattle.journal_text.proofs.Fields.{fields-inserted, is_eq-nat_cmp, pair_cmp}

wrong : false ≡ true → ⊥
wrong h = cc

-- the answer `false` where the change can't be made
pub refused : (tables : List Table) (indexes : List Indexed) (c : Schema) (r : Tables) → change_follows tables indexes c ≡ false → Changes tables indexes c false r
refused tables indexes c r h = record { tells = sym h; made = λ never. absurd (wrong never) }

at_number : (x : Bool) (id q : ℕ) (b : Bool) → cond (is_at (nat_cmp id) q) x b ≡ cond (id == q) x b
at_number x id q b = ap (λ t. cond t x b) (is_eq-nat_cmp id q)

pub created_stands : (tables : List Table) (indexes : List Indexed) (r n : Tables) (name : List ℕ) (id : TableId) → TablesStand tables indexes r → active_table tables name ≡ None
    → ((q : List ℕ) → get_by_text n.names q ≡ update bytes_eq (get_by_text r.names) name (Some id) q)
    → ((q : ℕ) → contains nat_cmp n.active q ≡ cond (is_at (nat_cmp id.raw) q) true (contains nat_cmp r.active q))
    → n.indexes ≡ r.indexes → Changes tables indexes (Create name id) true n
created_stands tables indexes r n name id h none names active fields = record {
  tells = ap is_none (sym none);
  made = λ _. record {
    names = λ q. names q ∙ ap (λ o. cond (bytes_eq name q) (Some id) o) (h.names q) ∙ sym (active_table-created tables name id q none);
    active = λ q. active q ∙ at_number true id.raw q (contains nat_cmp r.active q) ∙ ap (λ b. cond (id.raw == q) true b) (h.active q) ∙ sym (is_active-created tables name id (record { raw = q }));
    fields = λ q f. ap (λ i. has_field (record n { indexes = i }) q f) fields ∙ h.fields q f;
    differ = names_differ-created tables name id h.differ none;
  };
}

gone : (o : Option TableId) → is_some o ≡ false → o ≡ None
gone None h = refl
gone (Some x) h = cc

-- the same from what the calls of the maps say
pub created_by : (tables : List Table) (indexes : List Indexed) (r n : Tables) (name : List ℕ) (id : TableId) (key : String Global) (text : List ℕ) (known : Bool)
    → TablesStand tables indexes r → text ≡ name → known ≡ is_some (get_by_text r.names text) → known ≡ false → string_bytes key ≡ name
    → tree.Updates string_cmp r.names n.names key (Some id) → sorted.Updates nat_cmp r.active n.active id.raw true → n.indexes ≡ r.indexes
    → Changes tables indexes (Create name id) true n
created_by tables indexes r n name id key text known h same is fails spelled names active fields =
    let none : active_table tables name ≡ None =
    gone (active_table tables name) (sym (ap is_some (h.names name)) ∙ sym (ap (λ t. is_some (get_by_text r.names t)) same) ∙ sym is ∙ fails) in
    created_stands tables indexes r n name id h none
    (λ q. subst (λ (bs : List ℕ). get_by_text n.names q ≡ update bytes_eq (get_by_text r.names) bs (Some id) q) spelled
    (btree_map_updates_text (string_bytes key) r.names n.names (Some id) names q))
    active.0 fields

-- a redaction changes no table
pub redacted_by : (tables : List Table) (indexes : List Indexed) (a : BlockAddress) (t : TableId) (d : DocId) (r : Tables) → TablesStand tables indexes r
    → Changes tables indexes (Redact a t d) true r
redacted_by tables indexes a t d r h = record { tells = refl; made = λ _. h }

pub indexed_stands : (tables : List Table) (indexes : List Indexed) (r n : Tables) (field : List ℕ) (id : TableId) (answer : Bool) → TablesStand tables indexes r
    → is_active tables id ≡ true → answer ≡ not (has_field r id.raw field)
    → n.names ≡ r.names → n.active ≡ r.active
    → ((q : ℕ) (f : List ℕ) → has_field n q f ≡ cond ((id.raw == q) && bytes_eq field f) true (has_field r q f))
    → Changes tables indexes (Index field id) answer n
indexed_stands tables indexes r n field id answer h active is_new names same fields = record {
  tells = is_new ∙ ap not (h.fields id.raw field) ∙ sym (ap (λ b. b && not (has_index indexes id field)) active);
  made = λ _. record {
    names = λ q. ap (λ m. get_by_text m q) names ∙ h.names q;
    active = λ q. ap (λ s. contains nat_cmp s q) same ∙ h.active q;
    fields = λ q f. fields q f ∙ ap (λ b. cond ((id.raw == q) && bytes_eq field f) true b) (h.fields q f) ∙ sym (has_index-pushed indexes field id (record { raw = q }) f);
    differ = h.differ;
  };
}

pub indexed_by : (tables : List Table) (indexes : List Indexed) (r n : Tables) (field : List ℕ) (id : TableId) (key : String Global) (answer active : Bool)
    → TablesStand tables indexes r → active ≡ is_active tables id → active ≡ true → string_bytes key ≡ field
    → answer ≡ not (contains pair_cmp r.indexes (id.raw, key)) → sorted.Updates pair_cmp r.indexes n.indexes (id.raw, key) true
    → n.names ≡ r.names → n.active ≡ r.active → Changes tables indexes (Index field id) answer n
indexed_by tables indexes r n field id key answer active h is holds spelled is_new fields names same =
    indexed_stands tables indexes r n field id answer h (sym is ∙ holds)
    (is_new ∙ ap (λ bs. not (has_field r id.raw bs)) spelled) names same
    (λ q f. fields-inserted r.indexes n.indexes id.raw key fields q f ∙ ap (λ bs. cond ((id.raw == q) && bytes_eq bs f) true (has_field r q f)) spelled)

-- the active table of a name whose id is this one
named_table : (o : Option TableId) (id : TableId) → option_map_or (λ t. t.raw == id.raw) o false ≡ true → (i : TableId) × (o ≡ Some i) × (i.raw ≡ id.raw)
named_table None id h = absurd (wrong h)
named_table (Some i) id h = (i, refl, eqb-true i.raw id.raw h)

pub dropped_stands : (tables : List Table) (indexes : List Indexed) (r n : Tables) (name : List ℕ) (id : TableId) → TablesStand tables indexes r → all_differ (table_ids tables) ≡ true
    → is_named tables name id ≡ true
    → ((q : List ℕ) → get_by_text n.names q ≡ update bytes_eq (get_by_text r.names) name None q)
    → ((q : ℕ) → contains nat_cmp n.active q ≡ cond (is_at (nat_cmp id.raw) q) false (contains nat_cmp r.active q))
    → n.indexes ≡ r.indexes → Changes tables indexes (Drop name id) true n
dropped_stands tables indexes r n name id h ids named names active fields =
    let found = named_table (active_table tables name) id named in
    record {
      tells = sym named;
      made = λ _. record {
        names = λ q. names q ∙ ap (λ o. cond (bytes_eq name q) None o) (h.names q) ∙ sym (active_table-dropped name id q tables found.0 h.differ ids found.1 found.2);
        active = λ q. active q ∙ at_number false id.raw q (contains nat_cmp r.active q) ∙ ap (λ b. cond (id.raw == q) false b) (h.active q) ∙ sym (is_active-dropped tables id (record { raw = q }));
        fields = λ q f. ap (λ i. has_field (record n { indexes = i }) q f) fields ∙ h.fields q f;
        differ = names_differ-dropped tables id h.differ;
      };
    }

pub dropped_by : (tables : List Table) (indexes : List Indexed) (r n : Tables) (name : List ℕ) (id : TableId) (text : List ℕ) (named : Bool)
    → TablesStand tables indexes r → all_differ (table_ids tables) ≡ true → named ≡ is_named tables name id → named ≡ true → text ≡ name
    → tree.UpdatesBy string_cmp (λ k. slice_cmp nat_cmp text (string_bytes k)) r.names n.names None
    → sorted.UpdatesBy nat_cmp (nat_cmp id.raw) r.active n.active false → n.indexes ≡ r.indexes → Changes tables indexes (Drop name id) true n
dropped_by tables indexes r n name id text named h ids is holds same names active fields =
    dropped_stands tables indexes r n name id h ids (sym is ∙ holds)
    (λ q. subst (λ (bs : List ℕ). get_by_text n.names q ≡ update bytes_eq (get_by_text r.names) bs None q) same (btree_map_updates_text text r.names n.names None names q))
    active.0 fields

-- ---- changes in order

-- the changes that are left, behind those that are made
pub record Halfway (tables : List Table) (indexes : List Indexed) (schema left : List Schema) (r : Tables) : Type 0 where
  pub tables_now : List Table
  pub indexes_now : List Indexed
  pub stands : TablesStand tables_now indexes_now r
  pub differ : all_differ (table_ids tables_now ++ created_ids left) ≡ true
  pub follows : schema_follows tables_now indexes_now left ≡ schema_follows tables indexes schema
  pub tables_end : all_changed tables_now left ≡ all_changed tables schema
  pub indexes_end : all_indexed indexes_now left ≡ all_indexed indexes schema

pub at_start : (tables : List Table) (indexes : List Indexed) (schema : List Schema) (r : Tables) → TablesStand tables indexes r
    → all_differ (table_ids tables ++ created_ids schema) ≡ true → Halfway tables indexes schema schema r
at_start tables indexes schema r h differ = record {
  tables_now = tables;
  indexes_now = indexes;
  stands = h;
  differ = differ;
  follows = refl;
  tables_end = refl;
  indexes_end = refl;
}

-- what a call that makes a change says of it
abbrev pub Makes : Tables → Schema → Bool → Tables → Type 0
Makes r c answer n = (ts : List Table) (is : List Indexed) → TablesStand ts is r → all_differ (table_ids ts) ≡ true → Changes ts is c answer n

one_more : (tables : List Table) (indexes : List Indexed) (schema : List Schema) (c : Schema) (left : List Schema) (r n : Tables) (answer : Bool)
    → Halfway tables indexes schema (c ∷ left) r → Makes r c answer n → answer ≡ true → Halfway tables indexes schema left n
one_more tables indexes schema c left r n answer h makes holds =
    let step = makes h.tables_now h.indexes_now h.stands (all_differ-front (table_ids h.tables_now) (created_ids (c ∷ left)) h.differ) in
    record {
      tables_now = changed h.tables_now c;
      indexes_now = indexed h.indexes_now c;
      stands = step.made holds;
      differ = ap all_differ (table_ids-changed h.tables_now c left) ∙ h.differ;
      follows = ap (λ b. b && schema_follows (changed h.tables_now c) (indexed h.indexes_now c) left) (sym holds ∙ step.tells) ∙ h.follows;
      tables_end = h.tables_end;
      indexes_end = h.indexes_end;
    }

refused_there : (tables : List Table) (indexes : List Indexed) (schema : List Schema) (c : Schema) (left : List Schema) (r n : Tables) (answer : Bool)
    → Halfway tables indexes schema (c ∷ left) r → Makes r c answer n → answer ≡ false → AllChange tables indexes schema false n
refused_there tables indexes schema c left r n answer h makes fails =
    let step = makes h.tables_now h.indexes_now h.stands (all_differ-front (table_ids h.tables_now) (created_ids (c ∷ left)) h.differ) in
    record {
      tells = ap (λ b. b && schema_follows (changed h.tables_now c) (indexed h.indexes_now c) left) (sym fails ∙ step.tells) ∙ h.follows;
      made = λ never. absurd (wrong never);
    }

at_end : (tables : List Table) (indexes : List Indexed) (schema : List Schema) (r : Tables) → Halfway tables indexes schema [] r → AllChange tables indexes schema true r
at_end tables indexes schema r h = record {
  tells = h.follows;
  made = λ _. subst (λ (ts : List Table). TablesStand ts (all_indexed indexes schema) r) h.tables_end
      (subst (λ (is : List Indexed). TablesStand h.tables_now is r) h.indexes_end h.stands);
}

-- ---- the tables' steps, place by place

pub one_more_at : (tables : List Table) (indexes : List Indexed) (schema : List Schema) (i j : ℕ) (c : Schema) (r n : Tables) (answer : Bool)
    → j ≡ suc i → i < length schema → c ≡ get_or schema i c → Halfway tables indexes schema (drop i schema) r → Makes r c answer n → answer ≡ true
    → Halfway tables indexes schema (drop j schema) n
one_more_at tables indexes schema i j c r n answer next within is h makes holds =
    one_more tables indexes schema c (drop j schema) r n answer (subst (λ (left : List Schema). Halfway tables indexes schema left r) (opened schema i j c c next within is) h) makes holds

pub refused_at : (tables : List Table) (indexes : List Indexed) (schema : List Schema) (i : ℕ) (c : Schema) (r n : Tables) (answer : Bool)
    → i < length schema → c ≡ get_or schema i c → Halfway tables indexes schema (drop i schema) r → Makes r c answer n → answer ≡ false
    → AllChange tables indexes schema false n
refused_at tables indexes schema i c r n answer within is h makes fails =
    refused_there tables indexes schema c (drop (suc i) schema) r n answer (subst (λ (left : List Schema). Halfway tables indexes schema left r) (opened schema i (suc i) c c refl within is) h) makes fails

pub ended_at : (tables : List Table) (indexes : List Indexed) (schema : List Schema) (i : ℕ) (r : Tables) → length schema ≤ i
    → Halfway tables indexes schema (drop i schema) r → AllChange tables indexes schema true r
ended_at tables indexes schema i r passed h =
    at_end tables indexes schema r (subst (λ (left : List Schema). Halfway tables indexes schema left r) (drop_end schema i passed) h)
