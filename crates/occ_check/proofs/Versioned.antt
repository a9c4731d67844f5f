-- Where blocks follow one another, the revisions of a document stand in the order of its versions, counted from 0. So the
-- one before a revision is that of the version before, and the one with which a block leaves a document is its own. A
-- document's latest revision has the content that its block stores.
use Rattle.std.proofs.Common.{◌≡◌, ◌∙◌, ℕ, zero, suc, ◌+◌, ◌-◌, ◌==◌, ◌&&◌, Bool, true, false, not, cond, List, [], ◌∷◌, ◌++◌, length, map, slice_get, Option, Some, None, refl, sym, ap, subst, arith, append-nil, append_assoc, length-append, eq-eqb}
use Rattle.std.specs.Prelude.{option_and_then, if◌then◌else◌}
use Rattle.std.specs.List.{AllByRecursion, find, list_all, list_any}
use Rattle.std.proofs.lemmas.Bool.{and_parts, eqb-true, ne_eqb, not-true, or_parts}
use Rattle.std.proofs.lemmas.List.{map-append}
use Rattle.std.proofs.lemmas.List.Elements.{filter-append}
use Rattle.ion_values.specs.Equivalent.{same_time}
use Rattle.ql_types.specs.declared.TableId.{TableId}
use Rattle.ledger_model.specs.declared.block.Block.{Block}
use Rattle.ledger_model.specs.declared.block.Revision.{Revision}
use Rattle.ledger_model.specs.declared.block.Schema.{Schema}
use Rattle.ledger_model.specs.Follows.{all_differ, continues, created_ids, document_ids, follows, has_table, ids_follow, is_kept, is_of, latest_of, made_ids, revision_follows, same_address, schema_follows}
use Rattle.ledger_model.specs.Script.{or_else}
use Rattle.ledger_model.specs.State.{Recorded, State, after, recorded_in, revision_after, revisions_after}
use Rattle.ledger_model.proofs.Redactions.{latest_kept}
use Rattle.laws_validity.proofs.Lists.{all_both, all_like, other_way, passing}
use Rattle.laws_footprint.specs.Touches.{content_in, id_of, kept, revisions_in}
use Rattle.laws_footprint.proofs.Documents.{latest_of-append, latest_of_after}
use Rattle.versions.specs.Histories.{revisions_of}
use Rattle.occ_check.specs.Behind.{content_of, earlier, stored}

-- ---- lists

last_get : {X : Type 0} (xs : List X) (x : X) → slice_get (xs ++ x ∷ []) (length xs) ≡ Some x
last_get [] x = refl
last_get (y ∷ ys) x = last_get ys x

at_end : {X : Type 0} (xs : List X) (x : X) (n : ℕ) → n ≡ length xs
    → (slice_get (xs ++ x ∷ []) n ≡ Some x) × (length (xs ++ x ∷ []) ≡ n + 1)
at_end xs x n e = (
  ap (slice_get (xs ++ x ∷ [])) e ∙ last_get xs x,
  length-append xs (x ∷ []) ∙ ap (λ k. k + 1) (sym e),
)

get_front : {X : Type 0} (xs ys : List X) (n : ℕ) (x : X) → slice_get xs n ≡ Some x → slice_get (xs ++ ys) n ≡ Some x
get_front [] ys n x e = cc
get_front (z ∷ xs) ys zero x e = e
get_front (z ∷ xs) ys (suc n) x e = get_front xs ys n x e

-- ---- a revision behind those of earlier blocks

next_version : (x last : Recorded) → continues x (Some last) ≡ true
    → x.revision.metadata.version ≡ last.revision.metadata.version + 1
next_version x last k =
    let most = and_parts
    ((x.table.raw == last.table.raw) && (x.revision.metadata.version == last.revision.metadata.version + 1))
    (is_kept last.revision.content) k in
    eqb-true x.revision.metadata.version (last.revision.metadata.version + 1)
    (and_parts (x.table.raw == last.table.raw)
    (x.revision.metadata.version == last.revision.metadata.version + 1) most.0).1

first_version : (x : Recorded) → continues x None ≡ true → (x.revision.metadata.version == 0) ≡ true
first_version x k = (and_parts (x.revision.metadata.version == 0) (is_kept x.revision.content) k).0

abbrev Continues : List Recorded → Recorded → Type 0
Continues old r = continues r (latest_of old (id_of r)) ≡ true

-- a revision of another document changes nothing of that
still_continue : (old : List Recorded) (x : Recorded) (ts : List TableId) (rs : List Revision)
    → list_any (λ y. id_of x == y) (document_ids rs) ≡ false → AllByRecursion (Continues old) (recorded_in ts rs)
    → AllByRecursion (Continues (old ++ x ∷ [])) (recorded_in ts rs)
still_continue old x [] [] h all = tt
still_continue old x [] (r ∷ rs) h all = tt
still_continue old x (t ∷ ts) [] h all = tt
still_continue old x (t ∷ ts) (r ∷ rs) h all =
    let parts = or_parts (id_of x == r.metadata.id.raw) (list_any (λ y. id_of x == y) (document_ids rs)) h in
    let this : Recorded = record { table = t; revision = r } in
    let same : latest_of (old ++ x ∷ []) r.metadata.id.raw ≡ latest_of old r.metadata.id.raw =
    latest_of-append old (x ∷ []) r.metadata.id.raw
    ∙ ap (λ b. or_else (cond b (Some x) None) (latest_of old r.metadata.id.raw)) parts.0 in
    (subst (λ o. continues this o ≡ true) (sym same) all.0, still_continue old x ts rs parts.1 all.1)

-- what a block that follows says of its revisions
pub record Goes (s : State) (b : Block) : Type 0 where
  pub own : AllByRecursion (λ r. is_of b.header r.revision ≡ true) (revisions_in b)
  pub continue_all : AllByRecursion (Continues s.revisions) (revisions_in b)
  pub differ : all_differ (document_ids b.revisions) ≡ true
  pub schema : schema_follows s.tables s.indexes b.info.schema ≡ true

pub goes_of : (mask : ℕ) (s : State) (b : Block) → follows mask s b ≡ true → Goes s b
goes_of mask s b f =
    let schema = schema_follows s.tables s.indexes b.info.schema in
    let ids = ids_follow mask (made_ids s b) b.header.tx.raw in
    let each = list_all (revision_follows s b) (revisions_in b) in
    let three = and_parts (schema && ids && each) (all_differ (document_ids b.revisions)) f in
    let two = and_parts (schema && ids) each three.0 in
    let all = passing (revision_follows s b) (revisions_in b) two.1 in
    let OfBlock : Recorded → Bool =
    λ r. is_of b.header r.revision && has_table s.tables (created_ids b.info.schema) r.table in
    let Next : Recorded → Bool = λ r. continues r (latest_of s.revisions (id_of r)) in
    record {
      own = all_like (λ r. revision_follows s b r ≡ true) (λ r. is_of b.header r.revision ≡ true)
          (λ r h. (and_parts (is_of b.header r.revision) (has_table s.tables (created_ids b.info.schema) r.table)
          (and_parts (OfBlock r) (Next r) h).0).0) (revisions_in b) all;
      continue_all = all_like (λ r. revision_follows s b r ≡ true) (Continues s.revisions)
          (λ r h. (and_parts (OfBlock r) (Next r) h).1) (revisions_in b) all;
      differ = three.1;
      schema = (and_parts schema ids two.0).0;
    }

-- ---- a block's revisions are found in it by their documents

abbrev pub IsFound : List Revision → Recorded → Type 0
IsFound rs x = find (λ y. y.metadata.id.raw == id_of x) rs ≡ Some x.revision

still_found : (r : Revision) (all : List Revision) (ts : List TableId) (rs : List Revision)
    → list_any (λ y. r.metadata.id.raw == y) (document_ids rs) ≡ false
    → AllByRecursion (IsFound all) (recorded_in ts rs) → AllByRecursion (IsFound (r ∷ all)) (recorded_in ts rs)
still_found r all [] [] h k = tt
still_found r all [] (x ∷ rs) h k = tt
still_found r all (t ∷ ts) [] h k = tt
still_found r all (t ∷ ts) (x ∷ rs) h k =
    let parts = or_parts (r.metadata.id.raw == x.metadata.id.raw)
    (list_any (λ y. r.metadata.id.raw == y) (document_ids rs)) h in (
      ap (λ b. cond b (Some r) (find (λ y. y.metadata.id.raw == x.metadata.id.raw) all)) parts.0 ∙ k.0,
      still_found r all ts rs parts.1 k.1,
    )

own_found : (ts : List TableId) (rs : List Revision) → all_differ (document_ids rs) ≡ true
    → AllByRecursion (IsFound rs) (recorded_in ts rs)
own_found [] [] d = tt
own_found [] (r ∷ rs) d = tt
own_found (t ∷ ts) [] d = tt
own_found (t ∷ ts) (r ∷ rs) d =
    let parts = and_parts (not (list_any (λ y. r.metadata.id.raw == y) (document_ids rs)))
    (all_differ (document_ids rs)) d in
    let apart = not-true (list_any (λ y. r.metadata.id.raw == y) (document_ids rs)) parts.0 in (
      ap (λ b. cond b (Some r) (find (λ y. y.metadata.id.raw == r.metadata.id.raw) rs))
          (eq-eqb r.metadata.id.raw r.metadata.id.raw refl),
      still_found r rs ts rs apart (own_found ts rs parts.1),
    )

-- ---- a document's revisions as these blocks store them

module _ (blocks : List Block) where
  abbrev pub stored_of : Recorded → Option Revision
  stored_of r = stored blocks r.revision

  -- its content is that which its block stores
  abbrev pub IsStored : Recorded → Type 0
  IsStored r = content_of (stored_of r) ≡ kept r.revision.content

  abbrev pub stored_all : List Recorded → ℕ → List (Option Revision)
  stored_all rs id = map stored_of (revisions_of rs id)

  -- there are as many revisions as the latest one's version says, which has the content that its block stores
  abbrev pub Counted : List (Option Revision) → Option Recorded → Type 0
  Counted os None = os ≡ []
  Counted os (Some r) =
      (slice_get os r.revision.metadata.version ≡ Some (stored_of r)) × (length os ≡ r.revision.metadata.version + 1)
      × IsStored r

  abbrev pub Numbered : List Recorded → Type 0
  Numbered rs = (id : ℕ) → Counted (stored_all rs id) (latest_of rs id)

  pub none_numbered : Numbered []
  none_numbered id = refl

  pub stored_append : (xs ys : List Recorded) (id : ℕ) → stored_all (xs ++ ys) id ≡ stored_all xs id ++ stored_all ys id
  stored_append xs ys id =
      ap (map stored_of) (filter-append (λ (r : Recorded). r.revision.metadata.id.raw == id) xs ys)
      ∙ map-append stored_of (revisions_of xs id) (revisions_of ys id)

  -- ---- one revision more

  grown : (os : List (Option Revision)) (x : Recorded) (o : Option Recorded) → Counted os o → continues x o ≡ true
      → IsStored x → Counted (os ++ stored_of x ∷ []) (Some x)
  grown os x None h k s =
      let zero_is : x.revision.metadata.version ≡ 0 = eqb-true x.revision.metadata.version 0 (first_version x k) in
      let ends = at_end os (stored_of x) x.revision.metadata.version (zero_is ∙ sym (ap length h)) in
      (ends.0, ends.1, s)
  grown os x (Some last) h k s =
      let ends = at_end os (stored_of x) x.revision.metadata.version (next_version x last k ∙ sym h.1) in
      (ends.0, ends.1, s)

  pushed : (t : Bool) (os : List (Option Revision)) (x : Recorded) (o : Option Recorded) → Counted os o
      → (t ≡ true → continues x o ≡ true) → IsStored x
      → Counted (os ++ map stored_of (cond t (x ∷ []) [])) (or_else (cond t (Some x) None) o)
  pushed true os x o h k s = grown os x o h (k refl) s
  pushed false os x o h k s = subst (λ l. Counted l o) (sym (append-nil os)) h

  push : (rs : List Recorded) (x : Recorded) → Numbered rs → continues x (latest_of rs (id_of x)) ≡ true → IsStored x
      → Numbered (rs ++ x ∷ [])
  push rs x n k s id =
      let grows = pushed (id_of x == id) (stored_all rs id) x (latest_of rs id) (n id)
      (λ t. subst (λ i. continues x (latest_of rs i) ≡ true) (eqb-true (id_of x) id t) k) s in
      let latest = subst (Counted (stored_all rs id ++ map stored_of (cond (id_of x == id) (x ∷ []) [])))
      (sym (latest_of-append rs (x ∷ []) id)) grows in
      subst (λ l. Counted l (latest_of (rs ++ x ∷ []) id)) (sym (stored_append rs (x ∷ []) id)) latest

  numbered_more : (ts : List TableId) (rs : List Revision) (old : List Recorded) → Numbered old
      → all_differ (document_ids rs) ≡ true → AllByRecursion (Continues old) (recorded_in ts rs)
      → AllByRecursion IsStored (recorded_in ts rs) → Numbered (old ++ recorded_in ts rs)
  numbered_more [] [] old n d all own = subst Numbered (sym (append-nil old)) n
  numbered_more [] (r ∷ rs) old n d all own = subst Numbered (sym (append-nil old)) n
  numbered_more (t ∷ ts) [] old n d all own = subst Numbered (sym (append-nil old)) n
  numbered_more (t ∷ ts) (r ∷ rs) old n d all own =
      let x : Recorded = record { table = t; revision = r } in
      let parts = and_parts (not (list_any (λ y. r.metadata.id.raw == y) (document_ids rs)))
      (all_differ (document_ids rs)) d in
      let apart = not-true (list_any (λ y. r.metadata.id.raw == y) (document_ids rs)) parts.0 in
      subst Numbered (append_assoc old (x ∷ []) (recorded_in ts rs))
      (numbered_more ts rs (old ++ x ∷ []) (push old x n all.0 own.0) parts.1 (still_continue old x ts rs apart all.1)
      own.1)

  -- ---- redactions, which change neither a revision's place nor a latest one

  kept_by : (b : Bool) (r x : Recorded) (rs xs : List Recorded) → stored_of r ≡ stored_of x
      → map stored_of rs ≡ map stored_of xs → map stored_of (cond b (r ∷ rs) rs) ≡ map stored_of (cond b (x ∷ xs) xs)
  kept_by true r x rs xs e ih = ap (λ o. o ∷ map stored_of rs) e ∙ ap (λ os. stored_of x ∷ os) ih
  kept_by false r x rs xs e ih = ih

  pub stored_kept : (changes : List Schema) (rs : List Recorded) (id : ℕ)
      → stored_all (revisions_after changes rs) id ≡ stored_all rs id
  stored_kept changes [] id = refl
  stored_kept changes (r ∷ rs) id =
      kept_by (id_of r == id) (revision_after changes rs r) r (revisions_of (revisions_after changes rs) id)
      (revisions_of rs id) refl (stored_kept changes rs id)

  numbered_kept : (changes : List Schema) (rs : List Recorded) → Numbered rs → Numbered (revisions_after changes rs)
  numbered_kept changes rs n id =
      subst (λ o. Counted (stored_all (revisions_after changes rs) id) o) (sym (latest_kept changes rs id))
      (subst (λ os. Counted os (latest_of rs id)) (sym (stored_kept changes rs id)) (n id))

  -- ---- a block more, which stands at its revisions' address

  own_stored : (b : Block) (x : Recorded) → slice_get blocks b.header.address.sequence ≡ Some b
      → is_of b.header x.revision ≡ true → IsFound b.revisions x → IsStored x
  own_stored b x there of found =
      let address = same_address x.revision.address b.header.address in
      let time = same_time x.revision.metadata.time b.header.time in
      let same = (and_parts address time
      (and_parts (address && time) (x.revision.metadata.tx.raw == b.header.tx.raw) of).0).0 in
      let sequence = eqb-true x.revision.address.sequence b.header.address.sequence
      (and_parts (x.revision.address.strand.raw == b.header.address.strand.raw)
      (x.revision.address.sequence == b.header.address.sequence) same).1 in
      let block : slice_get blocks x.revision.address.sequence ≡ Some b =
      ap (slice_get blocks) sequence ∙ there in
      ap (λ o. content_of (option_and_then
      (λ (c : Block). find (λ y. y.metadata.id.raw == x.revision.metadata.id.raw) c.revisions) o)) block
      ∙ ap content_of found

  pub numbered_next : (mask : ℕ) (s : State) (b : Block) → follows mask s b ≡ true
      → slice_get blocks b.header.address.sequence ≡ Some b → Numbered s.revisions → Numbered (after s b).revisions
  numbered_next mask s b f there n =
      let goes = goes_of mask s b f in
      let old : List Recorded = revisions_after b.info.schema s.revisions in
      numbered_more b.info.tables b.revisions old (numbered_kept b.info.schema s.revisions n) goes.differ
      (all_like (Continues s.revisions) (Continues old)
      (λ r h. subst (λ o. continues r o ≡ true) (sym (latest_kept b.info.schema s.revisions (id_of r))) h)
      (revisions_in b) goes.continue_all)
      (all_like (λ r. (is_of b.header r.revision ≡ true) × IsFound b.revisions r) IsStored
      (λ r h. own_stored b r there h.0 h.1) (revisions_in b)
      (all_both (λ r. is_of b.header r.revision ≡ true) (IsFound b.revisions) (revisions_in b) goes.own
      (own_found b.info.tables b.revisions goes.differ)))

  -- ---- the revision before

  at_place : (rs : List Recorded) (n : ℕ) (o : Option Revision) → slice_get (map stored_of rs) n ≡ Some o
      → option_and_then stored_of (slice_get rs n) ≡ o
  at_place [] n o e = cc
  at_place (r ∷ rs) zero o e = cc
  at_place (r ∷ rs) (suc n) o e = at_place rs n o e

  abbrev before_in : List Recorded → ℕ → Bool → Option Revision
  before_in rs version first = if first then None else option_and_then stored_of (slice_get rs (version - 1))

  before_of : (all : List Recorded) (os more : List (Option Revision)) (x : Recorded) (o : Option Recorded)
      → map stored_of all ≡ os ++ more → Counted os o → continues x o ≡ true
      → content_in o
      ≡ content_of (before_in all x.revision.metadata.version (x.revision.metadata.version == 0))
  before_of all os more x None is h k =
      sym (ap (λ b. content_of (before_in all x.revision.metadata.version b)) (first_version x k))
  before_of all os more x (Some last) is h k =
      let version : ℕ = x.revision.metadata.version in
      let next : version ≡ last.revision.metadata.version + 1 = next_version x last k in
      let later : (version == 0) ≡ false = ne_eqb version 0 (λ z. omega (arith, next, z)) in
      let less : version - 1 ≡ last.revision.metadata.version = omega (arith, next) in
      let there : slice_get (map stored_of all) (version - 1) ≡ Some (stored_of last) =
      ap (slice_get (map stored_of all)) less
      ∙ ap (λ (l : List (Option Revision)). slice_get l last.revision.metadata.version) is
      ∙ get_front os more last.revision.metadata.version (stored_of last) h.0 in
      sym (ap (λ b. content_of (before_in all version b)) later
      ∙ ap content_of (at_place all (version - 1) (stored_of last) there) ∙ h.2)

  pub before_is : (now s : State) (more : List (Option Revision)) (x : Recorded)
      → stored_all now.revisions (id_of x) ≡ stored_all s.revisions (id_of x) ++ more → Numbered s.revisions
      → Continues s.revisions x
      → content_in (latest_of s.revisions (id_of x))
      ≡ content_of (earlier blocks now (id_of x) x.revision.metadata.version)
  before_is now s more x is n k =
      before_of (revisions_of now.revisions (id_of x)) (stored_all s.revisions (id_of x)) more x
      (latest_of s.revisions (id_of x)) is (n (id_of x)) k

-- ---- the revision with which a block leaves a document

none_latest : (id : ℕ) (ts : List TableId) (rs : List Revision) → list_any (λ y. id == y) (document_ids rs) ≡ false
    → latest_of (recorded_in ts rs) id ≡ None
none_latest id [] [] h = refl
none_latest id [] (r ∷ rs) h = refl
none_latest id (t ∷ ts) [] h = refl
none_latest id (t ∷ ts) (r ∷ rs) h =
    let parts = or_parts (id == r.metadata.id.raw) (list_any (λ y. id == y) (document_ids rs)) h in
    let this : Recorded = record { table = t; revision = r } in
    ap (λ o. or_else o (cond (r.metadata.id.raw == id) (Some this) None)) (none_latest id ts rs parts.1)
    ∙ ap (λ b. cond b (Some this) None) (other_way r.metadata.id.raw id parts.0)

abbrev IsLast : List Recorded → Recorded → Type 0
IsLast rs x = latest_of rs (id_of x) ≡ Some x

still_last : (r : Recorded) (rs xs : List Recorded) → AllByRecursion (IsLast rs) xs
    → AllByRecursion (IsLast (r ∷ rs)) xs
still_last r rs xs all = all_like (IsLast rs) (IsLast (r ∷ rs))
    (λ x h. ap (λ o. or_else o (cond (id_of r == id_of x) (Some r) None)) h) xs all

own_last : (ts : List TableId) (rs : List Revision) → all_differ (document_ids rs) ≡ true
    → AllByRecursion (IsLast (recorded_in ts rs)) (recorded_in ts rs)
own_last [] [] d = tt
own_last [] (r ∷ rs) d = tt
own_last (t ∷ ts) [] d = tt
own_last (t ∷ ts) (r ∷ rs) d =
    let x : Recorded = record { table = t; revision = r } in
    let parts = and_parts (not (list_any (λ y. r.metadata.id.raw == y) (document_ids rs)))
    (all_differ (document_ids rs)) d in
    let apart = not-true (list_any (λ y. r.metadata.id.raw == y) (document_ids rs)) parts.0 in (
      ap (λ o. or_else o (cond (r.metadata.id.raw == r.metadata.id.raw) (Some x) None))
          (none_latest r.metadata.id.raw ts rs apart)
          ∙ ap (λ b. cond b (Some x) None) (eq-eqb r.metadata.id.raw r.metadata.id.raw refl),
      still_last x (recorded_in ts rs) (recorded_in ts rs) (own_last ts rs parts.1),
    )

abbrev pub LeavesOwn : State → Recorded → Type 0
LeavesOwn after_it x = content_in (latest_of after_it.revisions (id_of x)) ≡ kept x.revision.content

pub leave_own : (mask : ℕ) (s : State) (b : Block) → follows mask s b ≡ true
    → AllByRecursion (LeavesOwn (after s b)) (revisions_in b)
leave_own mask s b f =
    all_like (IsLast (revisions_in b)) (LeavesOwn (after s b))
    (λ x h. ap content_in (latest_of_after s b (id_of x)
    ∙ ap (λ o. or_else o (latest_of s.revisions (id_of x))) h))
    (revisions_in b) (own_last b.info.tables b.revisions (goes_of mask s b f).differ)
