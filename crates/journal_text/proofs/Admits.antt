-- What the checks of a block come to.
use Rattle.std.proofs.Common.{◌≡◌, ◌∙◌, ℕ, Bool, true, false, ◌&&◌, ◌||◌, ◌==◌, List, [], ◌∷◌, ◌++◌, ◌<◌, ◌^◌, not, nat_le, nat_lt, refl, sym, ap, subst}
use Rattle.std.specs.List.{filter, list_all, list_any}
use Rattle.std.specs.Ordering.{eq_by_cmp, nat_cmp}
use Rattle.std.specs.Cmp.{nat_eq_equiv}
use Rattle.std.specs.BTreeSet.{BTreeSet, IsFromIterResult}
use Rattle.std.proofs.lemmas.Bool.{and_left, and_parts, ltb-true, or_left}
use Rattle.ql_types.specs.declared.TableId.{TableId}
use Rattle.ql_types.specs.Ids.{thing_in, transaction_in}
use Rattle.ledger_model.specs.declared.block.Block.{Block}
use Rattle.ledger_model.specs.declared.block.Revision.{Revision}
use Rattle.ledger_model.specs.declared.block.Schema.{Schema}
use Rattle.ledger_model.specs.State.{State, Recorded, Table, recorded_in}
use Rattle.ledger_model.specs.Damages.{has_id}
use Rattle.ledger_model.specs.Follows.{all_differ, continues, created_ids, document_ids, follows, has_table, ids_follow, is_active, is_made_by, is_new, is_of, latest_of, made_ids, revision_follows, schema_follows}
use Rattle.journal_text.specs.Stands.{HasKeys, has_transaction}
use Rattle.journal_text.proofs.Fields.{is_eq-nat_cmp}

-- ---- the parts of a check

not_ids : (s i r d : Bool) → i ≡ false → false ≡ (((s && i) && r) && d)
not_ids true false r d h = refl
not_ids false false r d h = refl
not_ids s true r d h = cc

not_revisions : (s i r d : Bool) → (r && d) ≡ false → false ≡ (((s && i) && r) && d)
not_revisions true true r d h = sym h
not_revisions true false r d h = refl
not_revisions false i r d h = refl

not_schema : (s i r d : Bool) → s ≡ false → false ≡ (((s && i) && r) && d)
not_schema false i r d h = refl
not_schema true i r d h = cc

all_there : (s i r d : Bool) → s ≡ true → i ≡ true → (r && d) ≡ true → true ≡ (((s && i) && r) && d)
all_there true true r d g h k = sym k
all_there true false r d g h k = cc
all_there false i r d g h k = cc

pub wrong : false ≡ true → ⊥
wrong h = cc

not_first : (a b c : Bool) → a ≡ false → false ≡ ((a && b) && c)
not_first false b c h = refl
not_first true b c h = cc

not_second : (a b c : Bool) → b ≡ false → false ≡ ((a && b) && c)
not_second true false c h = refl
not_second false b c h = refl
not_second true true c h = cc

third_tells : (a b c x : Bool) → a ≡ true → b ≡ true → x ≡ c → x ≡ ((a && b) && c)
third_tells true true c x h g e = e
third_tells true false c x h g e = cc
third_tells false b c x h g e = cc

second_tells : (a b x : Bool) → a ≡ false → x ≡ b → x ≡ (a || b)
second_tells false b x h e = e
second_tells true b x h e = cc

-- what the first part doesn't decide the second one does
pub told : (a b x : Bool) → a ≡ true → x ≡ b → x ≡ (a && b)
told true b x h e = e
told false b x h e = cc

pub refused_first : (a b : Bool) → a ≡ false → false ≡ (a && b)
refused_first a b h = sym (and_left a b h)

-- ---- whether a block follows

abbrev pub schema_part : State → Block → Bool
schema_part s b = schema_follows s.tables s.indexes b.info.schema

abbrev pub ids_part : ℕ → State → Block → Bool
ids_part strand s b = ids_follow strand (made_ids s b) b.header.tx.raw

abbrev pub revisions_part : State → Block → Bool
revisions_part s b = list_all (revision_follows s b) (recorded_in b.info.tables b.revisions)

abbrev pub differ_part : Block → Bool
differ_part b = all_differ (document_ids b.revisions)

module _ (strand : ℕ) (s : State) (b : Block) where
  pub ids_stop : ids_part strand s b ≡ false → false ≡ follows strand s b
  ids_stop h = not_ids (schema_part s b) (ids_part strand s b) (revisions_part s b) (differ_part b) h

  pub revisions_stop : (revisions_part s b && differ_part b) ≡ false → false ≡ follows strand s b
  revisions_stop h = not_revisions (schema_part s b) (ids_part strand s b) (revisions_part s b) (differ_part b) h

  pub schema_stops : schema_part s b ≡ false → false ≡ follows strand s b
  schema_stops h = not_schema (schema_part s b) (ids_part strand s b) (revisions_part s b) (differ_part b) h

  pub all_follow : schema_part s b ≡ true → ids_part strand s b ≡ true → (revisions_part s b && differ_part b) ≡ true → true ≡ follows strand s b
  all_follow g h k = all_there (schema_part s b) (ids_part strand s b) (revisions_part s b) (differ_part b) g h k

-- ---- whether a revision follows

module _ (s : State) (b : Block) (r : Recorded) where
  abbrev of_part : Bool
  of_part = is_of b.header r.revision

  abbrev table_part : Bool
  table_part = has_table s.tables (created_ids b.info.schema) r.table

  abbrev next_part : Bool
  next_part = continues r (latest_of s.revisions r.revision.metadata.id.raw)

  pub of_stops : of_part ≡ false → false ≡ revision_follows s b r
  of_stops h = not_first of_part table_part next_part h

  pub table_stops : table_part ≡ false → false ≡ revision_follows s b r
  table_stops h = not_second of_part table_part next_part h

  pub next_tells : (answer : Bool) → of_part ≡ true → table_part ≡ true → answer ≡ next_part → answer ≡ revision_follows s b r
  next_tells answer h g e = third_tells of_part table_part next_part answer h g e

pub table_active : (tables : List Table) (ids : List ℕ) (t : TableId) → is_active tables t ≡ true → true ≡ has_table tables ids t
table_active tables ids t h = sym (or_left (is_active tables t) (list_any (λ id. id == t.raw) ids) h)

pub table_created : (tables : List Table) (ids : List ℕ) (t : TableId) (answer : Bool) → is_active tables t ≡ false → answer ≡ list_any (λ id. id == t.raw) ids → answer ≡ has_table tables ids t
table_created tables ids t answer h e = second_tells (is_active tables t) (list_any (λ id. id == t.raw) ids) answer h e

-- ---- ids

pub ids_refused : (strand tx : ℕ) (ids made : List ℕ) (answer : Bool) → made ≡ ids
    → answer ≡ list_all (is_made_by strand (transaction_in strand tx)) made → answer ≡ false → false ≡ ids_follow strand ids tx
ids_refused strand tx ids made answer same is fails =
    refused_first (list_all (is_made_by strand (transaction_in strand tx)) ids) (all_differ ids) (sym (ap (list_all (is_made_by strand (transaction_in strand tx))) same) ∙ sym is ∙ fails)

pub ids_told : (strand tx : ℕ) (ids made : List ℕ) (answer last : Bool) → made ≡ ids
    → answer ≡ list_all (is_made_by strand (transaction_in strand tx)) made → answer ≡ true → last ≡ all_differ made → last ≡ ids_follow strand ids tx
ids_told strand tx ids made answer last same is holds differ =
    told (list_all (is_made_by strand (transaction_in strand tx)) ids) (all_differ ids) last (sym (ap (list_all (is_made_by strand (transaction_in strand tx))) same) ∙ sym is ∙ holds) (differ ∙ ap all_differ same)

turned : (a b : ℕ) → (a == b) ≡ (b == a)
turned a b = nat_eq_equiv.symm a b

-- the ids that are gathered are those that the block makes
pub made_is : (s : State) (b : Block) (schema : List Schema) (revisions : List Revision) (made whole slice : List ℕ) → schema ≡ b.info.schema → revisions ≡ b.revisions
    → made ≡ created_ids schema → whole ≡ made ++ filter (is_new s.revisions) (document_ids revisions) → slice ≡ whole → slice ≡ made_ids s b
made_is s b schema revisions made whole slice schemas rows first then same =
    same ∙ then
    ∙ ap (λ xs. xs ++ filter (is_new s.revisions) (document_ids revisions)) (first ∙ ap created_ids schemas)
    ∙ ap (λ rs. created_ids b.info.schema ++ filter (is_new s.revisions) (document_ids rs)) rows

-- the number of a good id fits 64 bits
pub small_number : (strand : ℕ) (before : List Block) (b : Block) → has_id strand before b ≡ true → transaction_in strand b.header.tx.raw < 2 ^ 64
small_number strand before b h =
    let number = transaction_in strand b.header.tx.raw in
    let own : Bool = thing_in strand b.header.tx.raw == 0 in
    let all = and_parts ((nat_le 1 number && nat_lt number (2 ^ 64)) && own) (not (has_transaction before b.header.tx.raw)) h in
    let front = and_parts (nat_le 1 number && nat_lt number (2 ^ 64)) own all.0 in
    ltb-true number (2 ^ 64) (and_parts (nat_le 1 number) (nat_lt number (2 ^ 64)) front.0).1

pub document_ids_told : (b : Block) (revisions : List Revision) (ids slice : List ℕ) (differ : Bool) → differ ≡ all_differ slice → slice ≡ ids → ids ≡ document_ids revisions
    → revisions ≡ b.revisions → differ ≡ all_differ (document_ids b.revisions)
document_ids_told b revisions ids slice differ is same spelled rows = is ∙ ap all_differ (same ∙ spelled ∙ ap document_ids rows)

same_test : (q : ℕ) (xs : List ℕ) → list_any (eq_by_cmp nat_cmp q) xs ≡ list_any (λ m. m == q) xs
same_test q [] = refl
same_test q (x ∷ xs) = ap (λ b. b || list_any (eq_by_cmp nat_cmp q) xs) (is_eq-nat_cmp q x ∙ turned q x) ∙ ap (λ b. (x == q) || b) (same_test q xs)

-- a set that was gathered from numbers has them
pub has_keys : (set : BTreeSet ℕ) (xs : List ℕ) → IsFromIterResult nat_cmp xs set → HasKeys set xs
has_keys set xs h q = h.0 q ∙ same_test q xs

pub created_keys : (b : Block) (set : BTreeSet ℕ) (slice ids : List ℕ) (schema : List Schema) → IsFromIterResult nat_cmp slice set → slice ≡ ids → ids ≡ created_ids schema
    → schema ≡ b.info.schema → HasKeys set (created_ids b.info.schema)
created_keys b set slice ids schema h same spelled schemas =
    has_keys set (created_ids b.info.schema) (subst (λ (xs : List ℕ). IsFromIterResult nat_cmp xs set) (same ∙ spelled ∙ ap created_ids schemas) h)
