-- The state after one block more, and what is known of it.
use Rattle.std.proofs.Common.{◌≡◌, ◌∙◌, ℕ, suc, ◌+◌, ◌^◌, length, arith, nat_le, nat_lt, Bool, true, false, ◌&&◌, ◌||◌, not, ◌==◌, cond, List, [], ◌∷◌, ◌++◌, append-nil, refl, sym, ap, subst}
use Rattle.std.specs.List.{filter, list_all, list_any}
use Rattle.std.specs.Option.{option_map}
use Rattle.std.specs.Ordering.{nat_cmp}
use Rattle.std.specs.BTreeMap.{is_at}
use Rattle.std.specs.BTreeSet.{contains}
use Rattle.std.proofs.lemmas.List.Folds.{list_all-append, list_any-append}
use Rattle.std.proofs.lemmas.Bool.{and_from, and_parts, eq-eqb, eqb-true, not-true, or_left, or_right}
use Rattle.ql_types.specs.Ids.{transaction_in, thing_in}
use Rattle.ql_types.specs.declared.TableId.{TableId}
use Rattle.ledger_model.specs.declared.block.Revision.{Revision}
use Rattle.ledger_model.specs.declared.block.Block.{Block}
use Rattle.ledger_model.specs.declared.block.Schema.{Schema}
use Rattle.ledger_model.specs.State.{State, Table, Indexed, Recorded, after, all_changed, all_indexed, changed, names_revision, recorded_in, revisions_after, same_address, state, state_from}
use Rattle.ledger_model.specs.Damages.{has_address, has_id}
use Rattle.ledger_model.specs.Follows.{all_differ, created_ids, document_ids, has_table, ids_follow, is_made_by, is_new, is_of, latest_of, made_ids, revision_follows}
use Rattle.ledger_model.specs.Script.{or_else}
use Rattle.ledger_model.proofs.Redactions.{latest_kept}
use Rattle.journal_text.specs.declared.registry.Registry.{Registry}
use Rattle.journal_text.specs.declared.registry.tables.Tables.{Tables}
use Rattle.journal_text.specs.declared.registry.documents.Documents.{Documents}
use Rattle.journal_text.specs.declared.registry.redactions.Redactions.{Redactions}
use Rattle.journal_text.specs.Stands.{AllChange, AreTaken, DocumentsStand, RedactionsStand, Stands, TablesStand, are_placed, has_transaction, latest_from, maker, table_ids}
use Rattle.journal_text.proofs.Distinct.{all_differ-append, all_differ-front, apart}
use Rattle.journal_text.proofs.Makers.{apart-made, maker-made, maker-own}
use Rattle.journal_text.proofs.Changed.{table_ids-changed}
use Rattle.journal_text.proofs.Fields.{is_eq-nat_cmp}
use Rattle.journal_text.proofs.Recorded.{latest_of-append}

state_from-push : (s : State) (bs : List Block) (b : Block) → state_from s (bs ++ b ∷ []) ≡ after (state_from s bs) b
state_from-push s [] b = refl
state_from-push s (c ∷ cs) b = state_from-push (after s c) cs b

state-push : (before : List Block) (b : Block) → state (before ++ b ∷ []) ≡ after (state before) b
state-push before b = state_from-push _ before b

table_ids-all_changed : (ts : List Table) (schema : List Schema) → table_ids (all_changed ts schema) ≡ table_ids ts ++ created_ids schema
table_ids-all_changed ts [] = sym (append-nil (table_ids ts))
table_ids-all_changed ts (c ∷ cs) = table_ids-all_changed (changed ts c) cs ∙ table_ids-changed ts c cs

-- the parts of a good id
pub id_parts : (strand : ℕ) (before : List Block) (b : Block) → has_id strand before b ≡ true
    → (thing_in strand b.header.tx.raw ≡ 0) × (has_transaction before b.header.tx.raw ≡ false)
id_parts strand before b h =
    let number = transaction_in strand b.header.tx.raw in
    let own : Bool = thing_in strand b.header.tx.raw == 0 in
    let all = and_parts ((nat_le 1 number && nat_lt number (2 ^ 64)) && own) (not (has_transaction before b.header.tx.raw)) h in
    let front = and_parts (nat_le 1 number && nat_lt number (2 ^ 64)) own all.0 in
    (eqb-true (thing_in strand b.header.tx.raw) 0 front.1, not-true (has_transaction before b.header.tx.raw) all.1)

three : (a b c : Bool) → a ≡ true → b ≡ true → c ≡ true → ((a && b) && c) ≡ true
three a b c h g k = cc

module _ (strand : ℕ) (before : List Block) (b : Block) (ids : List ℕ) (had : list_all (λ id. has_transaction before (maker strand id)) ids ≡ true)
    (own : has_id strand before b ≡ true) (follow : ids_follow strand (made_ids (state before) b) b.header.tx.raw ≡ true) where
  abbrev rest : List ℕ
  rest = filter (is_new (state before).revisions) (document_ids b.revisions)

  abbrev fresh : ℕ → Bool
  fresh id = is_made_by strand (transaction_in strand b.header.tx.raw) id

  parts : (list_all fresh (made_ids (state before) b) ≡ true) × (all_differ (made_ids (state before) b) ≡ true)
  parts = and_parts (list_all fresh (made_ids (state before) b)) (all_differ (made_ids (state before) b)) follow

  pub made : list_all (is_made_by strand (transaction_in strand b.header.tx.raw)) (created_ids b.info.schema) ≡ true
  made = (and_parts (list_all fresh (created_ids b.info.schema)) (list_all fresh rest) (sym (list_all-append fresh (created_ids b.info.schema) rest) ∙ parts.0)).0

  -- no id that the block gives to a table is one of those before, and no two are equal
  pub differ_after : all_differ ids ≡ true → all_differ (ids ++ created_ids b.info.schema) ≡ true
  differ_after differ =
      let of_id = id_parts strand before b own in
      all_differ-append ids (created_ids b.info.schema)
      ∙ three (all_differ ids) (apart ids (created_ids b.info.schema)) (all_differ (created_ids b.info.schema)) differ
      (apart-made before strand b.header.tx.raw (maker-own strand b.header.tx.raw of_id.0) of_id.1 ids (created_ids b.info.schema) had made)
      (all_differ-front (created_ids b.info.schema) rest parts.1)

pub had_before : (before : List Block) (b : Block) (tx : ℕ) → has_transaction (before ++ b ∷ []) tx ≡ (has_transaction before tx || ((b.header.tx.raw == tx) || false))
had_before before b tx = list_any-append (λ (earlier : Block). earlier.header.tx.raw == tx) before (b ∷ [])

-- the makers of what was made before are still there
makers-old : (strand : ℕ) (before : List Block) (b : Block) (ids : List ℕ) → list_all (λ id. has_transaction before (maker strand id)) ids ≡ true
    → list_all (λ id. has_transaction (before ++ b ∷ []) (maker strand id)) ids ≡ true
makers-old strand before b [] h = refl
makers-old strand before b (id ∷ ids) h =
    let parts = and_parts (has_transaction before (maker strand id)) (list_all (λ i. has_transaction before (maker strand i)) ids) h in
    and_from _ _ (had_before before b (maker strand id) ∙ or_left (has_transaction before (maker strand id)) ((b.header.tx.raw == maker strand id) || false) parts.0) (makers-old strand before b ids parts.1)

-- what the block made has the block
makers-new : (strand : ℕ) (before : List Block) (b : Block) (ids : List ℕ) → maker strand b.header.tx.raw ≡ b.header.tx.raw
    → list_all (is_made_by strand (transaction_in strand b.header.tx.raw)) ids ≡ true → list_all (λ id. has_transaction (before ++ b ∷ []) (maker strand id)) ids ≡ true
makers-new strand before b [] own h = refl
makers-new strand before b (id ∷ ids) own h =
    let parts = and_parts (is_made_by strand (transaction_in strand b.header.tx.raw) id) (list_all (is_made_by strand (transaction_in strand b.header.tx.raw)) ids) h in
    let by = sym (maker-made strand b.header.tx.raw id own parts.0) in
    and_from _ _ (had_before before b (maker strand id) ∙ or_right (has_transaction before (maker strand id)) ((b.header.tx.raw == maker strand id) || false) (or_left (b.header.tx.raw == maker strand id) false (eq-eqb b.header.tx.raw (maker strand id) by))) (makers-new strand before b ids own parts.1)

had_cases : (a b : Bool) → cond b true a ≡ (a || (b || false))
had_cases true true = refl
had_cases true false = refl
had_cases false true = refl
had_cases false false = refl

-- ---- redactions

-- what is known of the documents is the same after redactions
documents_after : (changes : List Schema) (rs new : List Recorded) (n : Documents) → DocumentsStand (rs ++ new) n
    → DocumentsStand (revisions_after changes rs ++ new) n
documents_after changes rs new n h = λ id.
    h id ∙ ap (option_map latest_from) (latest_of-append rs new id
    ∙ sym (latest_of-append (revisions_after changes rs) new id ∙ ap (or_else (latest_of new id)) (latest_kept changes rs id)))

ends_or : (a b : Bool) → (a || b) ≡ ((a || (b || false)) || false)
ends_or true b = refl
ends_or false true = refl
ends_or false false = refl

redactions_after : (before : List Block) (b : Block) (n : Redactions) → RedactionsStand before b.info.schema n → RedactionsStand (before ++ b ∷ []) [] n
redactions_after before b n h = λ a t d.
    let p : Block → Bool = λ x. list_any (names_revision a t d) x.info.schema in
    h a t d ∙ ends_or (list_any p before) (p b) ∙ ap (λ x. x || false) (sym (list_any-append p before (b ∷ [])))

own_placed : (s : State) (b : Block) (n : ℕ) (rs : List Recorded) → b.header.address.sequence ≡ n → list_all (revision_follows s b) rs ≡ true
    → list_all (λ (r : Recorded). r.revision.address.sequence == n) rs ≡ true
own_placed s b n [] at h = refl
own_placed s b n (r ∷ rs) at h =
    let each = and_parts (revision_follows s b r) (list_all (revision_follows s b) rs) h in
    let two = and_parts (is_of b.header r.revision && has_table s.tables (created_ids b.info.schema) r.table) _ each.0 in
    let of = (and_parts (is_of b.header r.revision) (has_table s.tables (created_ids b.info.schema) r.table) two.0).0 in
    let same = (and_parts (same_address r.revision.address b.header.address) _ (and_parts _ (r.revision.metadata.tx.raw == b.header.tx.raw) of).0).0 in
    let place = (and_parts (r.revision.address.strand.raw == b.header.address.strand.raw) (r.revision.address.sequence == b.header.address.sequence) same).1 in
    and_from (r.revision.address.sequence == n) (list_all (λ (x : Recorded). x.revision.address.sequence == n) rs)
    (subst (λ m. (r.revision.address.sequence == m) ≡ true) at place) (own_placed s b n rs at each.1)

placed_push : (n : ℕ) (before : List Block) (b : Block) → are_placed n before ≡ true
    → list_all (λ (r : Recorded). r.revision.address.sequence == n + length before) (recorded_in b.info.tables b.revisions) ≡ true
    → are_placed n (before ++ b ∷ []) ≡ true
placed_push n [] b h own =
    let here : n + 0 ≡ n = omega arith in
    and_from (list_all (λ (r : Recorded). r.revision.address.sequence == n) (recorded_in b.info.tables b.revisions)) true
    (subst (λ m. list_all (λ (r : Recorded). r.revision.address.sequence == m) (recorded_in b.info.tables b.revisions) ≡ true) here own) refl
placed_push n (x ∷ xs) b h own =
    let parts = and_parts (list_all (λ (r : Recorded). r.revision.address.sequence == n) (recorded_in x.info.tables x.revisions)) (are_placed (n + 1) xs) h in
    let there : n + suc (length xs) ≡ n + 1 + length xs = omega arith in
    and_from (list_all (λ (r : Recorded). r.revision.address.sequence == n) (recorded_in x.info.tables x.revisions)) (are_placed (n + 1) (xs ++ b ∷ [])) parts.0
    (placed_push (n + 1) xs b parts.1
    (subst (λ m. list_all (λ (r : Recorded). r.revision.address.sequence == m) (recorded_in b.info.tables b.revisions) ≡ true) there own))

-- a registry that took the block in
pub stands_after : (strand : ℕ) (before : List Block) (b : Block) (r n : Registry) → Stands strand before r → has_id strand before b ≡ true
    → ids_follow strand (made_ids (state before) b) b.header.tx.raw ≡ true
    → TablesStand (all_changed (state before).tables b.info.schema) (all_indexed (state before).indexes b.info.schema) n.tables
    → DocumentsStand ((state before).revisions ++ recorded_in b.info.tables b.revisions) n.documents
    → RedactionsStand before b.info.schema n.redactions → b.header.address.sequence ≡ length before
    → list_all (revision_follows (state before) b) (recorded_in b.info.tables b.revisions) ≡ true
    → ((q : ℕ) → contains nat_cmp n.transactions q ≡ cond (is_at (nat_cmp b.header.tx.raw) q) true (contains nat_cmp r.transactions q))
    → Stands strand (before ++ b ∷ []) n
stands_after strand before b r n h own follow tables documents redactions place each transactions =
    let parts = id_parts strand before b own in
    let there : b.header.address.sequence ≡ 0 + length before = omega (arith, place) in
    let next : after (state before) b ≡ state (before ++ b ∷ []) = sym (state-push before b) in
    let ids : table_ids (after (state before) b).tables ≡ table_ids (state before).tables ++ created_ids b.info.schema = table_ids-all_changed (state before).tables b.info.schema in
    let new = made strand before b (table_ids (state before).tables) h.makers own follow in
    let differ : all_differ (table_ids (after (state before) b).tables) ≡ true =
    ap all_differ ids ∙ differ_after strand before b (table_ids (state before).tables) h.makers own follow h.ids in
    let makers : list_all (λ id. has_transaction (before ++ b ∷ []) (maker strand id)) (table_ids (after (state before) b).tables) ≡ true =
    ap (list_all (λ id. has_transaction (before ++ b ∷ []) (maker strand id))) ids
    ∙ list_all-append (λ id. has_transaction (before ++ b ∷ []) (maker strand id)) (table_ids (state before).tables) (created_ids b.info.schema)
    ∙ and_from (list_all (λ id. has_transaction (before ++ b ∷ []) (maker strand id)) (table_ids (state before).tables)) (list_all (λ id. has_transaction (before ++ b ∷ []) (maker strand id)) (created_ids b.info.schema)) (makers-old strand before b (table_ids (state before).tables) h.makers)
    (makers-new strand before b (created_ids b.info.schema) (maker-own strand b.header.tx.raw parts.0) new) in
    record {
      transactions = λ q. transactions q ∙ ap (λ x. cond x true (contains nat_cmp r.transactions q)) (is_eq-nat_cmp b.header.tx.raw q)
          ∙ had_cases (contains nat_cmp r.transactions q) (b.header.tx.raw == q) ∙ ap (λ x. x || ((b.header.tx.raw == q) || false)) (h.transactions q) ∙ sym (had_before before b q);
      tables = subst (λ (s : State). TablesStand s.tables s.indexes n.tables) next tables;
      documents = subst (λ (s : State). DocumentsStand s.revisions n.documents) next
          (documents_after b.info.schema (state before).revisions (recorded_in b.info.tables b.revisions) n.documents documents);
      redactions = redactions_after before b n.redactions redactions;
      placed = placed_push 0 before b h.placed (own_placed (state before) b (0 + length before) (recorded_in b.info.tables b.revisions) there each);
      ids = subst (λ (s : State). all_differ (table_ids s.tables) ≡ true) next differ;
      makers = subst (λ (s : State). list_all (λ id. has_transaction (before ++ b ∷ []) (maker strand id)) (table_ids s.tables) ≡ true) next makers;
    }

-- the changes of the schema are those of the block
pub schema_taken : (strand : ℕ) (before : List Block) (b : Block) (r : Registry) (n : Tables) (slice : List Schema) (answer : Bool) → Stands strand before r → has_id strand before b ≡ true
    → ids_follow strand (made_ids (state before) b) b.header.tx.raw ≡ true → slice ≡ b.info.schema
    → ((tables : List Table) (indexes : List Indexed) → TablesStand tables indexes r.tables → all_differ (table_ids tables ++ created_ids slice) ≡ true → AllChange tables indexes slice answer n)
    → AllChange (state before).tables (state before).indexes b.info.schema answer n
schema_taken strand before b r n slice answer h own follow same change =
    let ids = table_ids (state before).tables in
    subst (λ (cs : List Schema). AllChange (state before).tables (state before).indexes cs answer n) same
    (change (state before).tables (state before).indexes h.tables (ap (λ cs. all_differ (ids ++ created_ids cs)) same ∙ differ_after strand before b ids h.makers own follow h.ids))

-- the revisions are those of the block
pub documents_taken : (before : List Recorded) (b : Block) (n : Documents) (tables : List TableId) (revisions : List Revision) → tables ≡ b.info.tables → revisions ≡ b.revisions
    → DocumentsStand (before ++ recorded_in tables revisions) n → DocumentsStand (before ++ recorded_in b.info.tables b.revisions) n
documents_taken before b n tables revisions same rows h =
    subst (λ (rs : List Revision). DocumentsStand (before ++ recorded_in b.info.tables rs) n) rows
    (subst (λ (ts : List TableId). DocumentsStand (before ++ recorded_in ts revisions) n) same h)

-- the redactions are those of the block
pub redactions_taken : (before : List Block) (b : Block) (slice : List Schema) (answer : Bool) (n : Redactions) → slice ≡ b.info.schema → AreTaken before slice answer n
    → AreTaken before b.info.schema answer n
redactions_taken before b slice answer n same h = subst (λ (cs : List Schema). AreTaken before cs answer n) same h

pub sequence_is : (strand : ℕ) (before : List Block) (b : Block) → has_address strand before b ≡ true → b.header.address.sequence ≡ length before
sequence_is strand before b h =
    let most = (and_parts _ (b.header.address.strand.raw == strand) h).0 in
    eqb-true b.header.address.sequence (length before) (and_parts (b.header.address.sequence == length before) _ most).0
