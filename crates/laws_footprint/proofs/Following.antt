-- A block that follows its state leaves each document in its table.
use Rattle.std.proofs.Common.{◌≡◌, ◌∙◌, ◌+◌, Bool, true, false, ◌==◌, ◌&&◌, ◌||◌, List, [], ◌∷◌, refl, sym, ap, Option, Some, None}
use Rattle.std.specs.List.{AllByRecursion, list_all, list_any}
use Rattle.std.proofs.Math.Bool.{or-false}
use Rattle.std.proofs.lemmas.Bool.{and_parts, eqb-true}
use Rattle.ql_types.specs.declared.TableId.{TableId}
use Rattle.ledger_model.specs.declared.block.Block.{Block}
use Rattle.ledger_model.specs.declared.outcome.Item.{Item}
use Rattle.ledger_model.specs.declared.outcome.Item.TheVariants as item
use Rattle.ledger_model.specs.Follows.{all_differ, continues, created_ids, document_ids, has_table, ids_follow, is_kept, is_of as is_of_header, latest_of, made_ids, revision_follows, schema_follows}
use Rattle.ledger_model.specs.State.{Recorded, State, after}
use Rattle.laws_footprint.specs.Following.{FollowingTouches, changes_key, is_of, is_of_document, touched_by_tables}
use Rattle.laws_footprint.specs.Touches.{has_key_at, id_of, is_in, is_of_table, redacts_document, redacts_in, revisions_in, touched, touches_document, touches_key}

twice : (b : Bool) → (b || b) ≡ b
twice true = refl
twice false = refl

by_last : (table : TableId) (r : Recorded) (o : Option Recorded) → continues r o ≡ true
    → (is_of table r || is_in table o) ≡ is_of table r
by_last table r None h = or-false (is_of table r)
by_last table r (Some last) h =
    let versions =
    and_parts ((r.table.raw == last.table.raw)
    && (r.revision.metadata.version == last.revision.metadata.version + 1)) (is_kept last.revision.content) h in
    let tables =
    and_parts (r.table.raw == last.table.raw)
    (r.revision.metadata.version == last.revision.metadata.version + 1) versions.0 in
    let same : last.table.raw ≡ r.table.raw = sym (eqb-true r.table.raw last.table.raw tables.0) in
    ap (λ n. is_of table r || (n == table.raw)) same ∙ twice (is_of table r)

abbrev SameTables : State → Recorded → Type 0
SameTables s r = (table : TableId) → is_of_table s table r ≡ is_of table r

all_same : (s : State) (b : Block) (rs : List Recorded) → list_all (revision_follows s b) rs ≡ true
    → AllByRecursion (SameTables s) rs
all_same s b [] h = tt
all_same s b (r ∷ rs) h =
    let parts = and_parts (revision_follows s b r) (list_all (revision_follows s b) rs) h in
    let continued =
    (and_parts (is_of_header b.header r.revision && has_table s.tables (created_ids b.info.schema) r.table)
    (continues r (latest_of s.revisions r.revision.metadata.id.raw)) parts.0).1 in
    ((λ table. by_last table r (latest_of s.revisions r.revision.metadata.id.raw) continued), all_same s b rs parts.1)

same_any : (s : State) (p q : Recorded → Bool) (rs : List Recorded) → AllByRecursion (SameTables s) rs
    → ((r : Recorded) → SameTables s r → p r ≡ q r) → list_any p rs ≡ list_any q rs
same_any s p q [] h each = refl
same_any s p q (r ∷ rs) h each = ap (λ b. b || list_any p rs) (each r h.0)
    ∙ ap (λ b. q r || b) (same_any s p q rs h.1 each)

by_item : (s : State) (b : Block) (i : Item) → AllByRecursion (SameTables s) (revisions_in b)
    → touched s b i ≡ touched_by_tables s b i
by_item s b (item.TableName name) h = refl
by_item s b item.TableList h = refl
by_item s b (item.Table table) h =
    ap (λ v. v || list_any (redacts_in table) b.info.schema)
    (same_any s (is_of_table s table) (is_of table) (revisions_in b) h (λ r same. same table))
by_item s b (item.Doc table id) h =
    ap (λ v. v || list_any (redacts_document table id.raw) b.info.schema)
    (same_any s (touches_document s table id.raw) (is_of_document table id.raw) (revisions_in b) h
    (λ r same. ap (λ v. v && (id_of r == id.raw)) (same table)))
by_item s b (item.IndexValue table field k) h =
    same_any s (touches_key s (after s b) table field k) (changes_key s (after s b) table field k) (revisions_in b) h
    (λ r same. ap (λ v. v && (has_key_at s field k (id_of r) || has_key_at (after s b) field k (id_of r)))
    (same table))

pub following_touches : FollowingTouches
following_touches mask s b i h =
    let three = (and_parts _ (all_differ (document_ids b.revisions)) h).0 in
    by_item s b i (all_same s b (revisions_in b)
    (and_parts (schema_follows s.tables s.indexes b.info.schema && ids_follow mask (made_ids s b) b.header.tx.raw)
    _ three).1)
