-- What a replay holds with one record more, and with one block more.
use Rattle.std.proofs.Common.{◌≡◌, ◌≢◌, ◌∙◌, ℕ, zero, suc, ◌+◌, ◌<◌, ◌≤◌, nat_lt, ◌==◌, ◌&&◌, Bool, true, false, cond, List, [], ◌∷◌, ◌++◌, length, Option, Some, None, Result, Ok, Err, refl, sym, ap, subst, arith, ⊎_elim, ◌⊎◌, inl, inr, length-append, true≢false, if◌then◌else◌}
use Rattle.std.specs.Prelude.{slice_get, option_map}
use Rattle.std.specs.Ordering.{is_eq, nat_cmp, ordering_then}
use Rattle.std.specs.declared.cmp.Ordering.{Ordering}
use Rattle.std.specs.declared.cmp.Ordering.TheVariants.{Less, Equal, Greater}
use Rattle.std.specs.BTreeMap.{get, is_at, IsUnchanged}
use Rattle.std.specs.Map.{lookup}
use Rattle.std.proofs.lemmas.Bool.{and_parts, eqb-true, ltb-true, ne_eqb, cases_lt}
use Rattle.ledger_model.specs.declared.block.Info.{Info}
use Rattle.ledger_model.specs.declared.block.Revision.{Revision}
use Rattle.ledger_model.specs.declared.block.Block.{Block}
use Rattle.ledger_model.specs.Damages.{same_hash}
use Rattle.ledger_model.specs.Script.{and_then, or_else, each}
use Rattle.stream_out.specs.declared.record.RevisionSummary.{RevisionSummary}
use Rattle.stream_out.specs.declared.record.Summary.{Summary}
use Rattle.stream_out.specs.declared.record.Details.{Details}
use Rattle.stream_out.specs.declared.record.Record.{Record}
use Rattle.stream_out.specs.declared.record.Record.TheVariants as kind
use Rattle.stream_out.specs.declared.replay.Replay.{Replay}
use Rattle.stream_out.specs.declared.replay.ReplayFault.{ReplayFault}
use Rattle.stream_out.specs.declared.replay.ReplayFault.TheVariants as fault
use Rattle.stream_out.specs.Same.{TellsEqual}
use Rattle.stream_out.specs.Replays.{number_of, details_number, document_of, summary_at, summary_among, details_at, details_among, revision_by, block_among, block_by, kept_block, pair_cmp, AreBlocks, Holds, IsSettled, IsNotBelow, Agrees, DiffersFrom, Admits, Keeps, Delivers, kept_details}
use Rattle.stream_out.proofs.Among.{or_none, summary_among-push, details_among-push, block_among-push}

-- ---- keys

compared : (less equal : Bool) → (less ≡ true → equal ≡ false) → is_eq (cond less Less (cond equal Equal Greater)) ≡ equal
compared true equal h = sym (h refl)
compared false true h = refl
compared false false h = refl

pub is_eq-nat_cmp : (a b : ℕ) → is_eq (nat_cmp a b) ≡ (a == b)
is_eq-nat_cmp a b = compared (nat_lt a b) (a == b) (λ l. ne_eqb a b (λ e. let less = ltb-true a b l in absurd (omega (arith, e, less))))

is_eq-both : (a b : Ordering) → is_eq (ordering_then a b) ≡ (is_eq a && is_eq b)
is_eq-both Less b = refl
is_eq-both Equal b = refl
is_eq-both Greater b = refl

is_eq-pair_cmp : (n id m jd : ℕ) → is_eq (pair_cmp (n, id) (m, jd)) ≡ ((n == m) && (id == jd))
is_eq-pair_cmp n id m jd = is_eq-both (nat_cmp n m) (nat_cmp id jd) ∙ (λ i. is_eq-nat_cmp n m i && is_eq-nat_cmp id jd i)

-- ---- one record more

found_at : (blocks : List Block) (i : ℕ) → i < length blocks → (b : Block) × (slice_get blocks i ≡ Some b)
found_at [] i h = absurd (omega (arith, h))
found_at (b ∷ bs) zero h = (b, refl)
found_at (b ∷ bs) (suc i) h = found_at bs i (omega (arith, h))

stand_still : (told : List Record) (r : Record) (from : ℕ) (blocks : List Block) → AreBlocks told from blocks → AreBlocks (told ++ r ∷ []) from blocks
stand_still told r from blocks stand = λ i h.
    let b = found_at blocks i h in
    b.1 ∙ sym (block_among-push told r (from + i) b.0 (sym (stand i h) ∙ b.1))

pub with_more : (told : List Record) (r : Record) (old new : Replay) → Holds told old → new.from ≡ old.from → new.blocks.list ≡ old.blocks.list
    → ((n : ℕ) → get nat_cmp new.summaries n ≡ or_else (summary_among told n) (summary_at r n))
    → ((n id : ℕ) → get pair_cmp new.details (n, id) ≡ or_else (details_among told n id) (details_at r n id))
    → Holds (told ++ r ∷ []) new
with_more told r old new h from blocks summaries details = record {
  summaries = λ n. summaries n ∙ sym (summary_among-push told r n);
  details = λ n id. details n id ∙ sym (details_among-push told r n id);
  blocks = subst (λ bs. AreBlocks (told ++ r ∷ []) new.from bs) (sym blocks)
      (subst (λ n. AreBlocks (told ++ r ∷ []) n old.blocks.list) (sym from) (stand_still told r old.from old.blocks.list h.blocks));
}

-- nothing is kept of a control record
pub with_control : (told : List Record) (r : Record) (held : Replay) → ((n : ℕ) → summary_at r n ≡ None) → ((n id : ℕ) → details_at r n id ≡ None)
    → Holds told held → Holds (told ++ r ∷ []) held
with_control told r held none nothing h =
    with_more told r held held h refl refl
    (λ n. h.summaries n ∙ sym (or_none (summary_among told n)) ∙ ap (or_else (summary_among told n)) (sym (none n)))
    (λ n id. h.details n id ∙ sym (or_none (details_among told n id)) ∙ ap (or_else (details_among told n id)) (sym (nothing n id)))

-- ---- a summary

put_summary : (told : List Record) (s : Summary) (n : ℕ) → summary_among told (number_of s) ≡ None
    → cond (number_of s == n) (Some s) (summary_among told n) ≡ or_else (summary_among told n) (summary_at (kind.Summary s) n)
put_summary told s n none = go (number_of s == n) refl where
  go : (b : Bool) → (number_of s == n) ≡ b → cond b (Some s) (summary_among told n) ≡ or_else (summary_among told n) (if b then Some s else None)
  go true is =
      let here : summary_among told n ≡ None = subst (λ k. summary_among told k ≡ None) (eqb-true (number_of s) n is) none in
      ap (λ o. or_else o (Some s)) (sym here)
  go false is = sym (or_none (summary_among told n))

again_summary : (told : List Record) (s : Summary) (n : ℕ) → summary_among told (number_of s) ≡ Some s
    → summary_among told n ≡ or_else (summary_among told n) (summary_at (kind.Summary s) n)
again_summary told s n kept = go (number_of s == n) refl where
  go : (b : Bool) → (number_of s == n) ≡ b → summary_among told n ≡ or_else (summary_among told n) (if b then Some s else None)
  go true is =
      let here : summary_among told n ≡ Some s = subst (λ k. summary_among told k ≡ Some s) (eqb-true (number_of s) n is) kept in
      here ∙ ap (λ o. or_else o (Some s)) (sym here)
  go false is = sym (or_none (summary_among told n))

no_details : (told : List Record) (s : Summary) (n id : ℕ) → details_among told n id ≡ or_else (details_among told n id) (details_at (kind.Summary s) n id)
no_details told s n id = sym (or_none (details_among told n id))

pub with_summary : (told : List Record) (s : Summary) (old new : Replay) → Holds told old → get nat_cmp old.summaries (number_of s) ≡ None
    → new.from ≡ old.from → new.blocks.list ≡ old.blocks.list
    → ((n : ℕ) → get nat_cmp new.summaries n ≡ cond (is_at (nat_cmp (number_of s)) n) (Some s) (get nat_cmp old.summaries n))
    → ((n id : ℕ) → get pair_cmp new.details (n, id) ≡ get pair_cmp old.details (n, id))
    → Holds (told ++ kind.Summary s ∷ []) new
with_summary told s old new h none from blocks summaries details =
    let free : summary_among told (number_of s) ≡ None = sym (h.summaries (number_of s)) ∙ none in
    with_more told (kind.Summary s) old new h from blocks
    (λ n.
    summaries n ∙ ap (λ b. cond b (Some s) (get nat_cmp old.summaries n)) (is_eq-nat_cmp (number_of s) n)
    ∙ ap (λ o. cond (number_of s == n) (Some s) o) (h.summaries n) ∙ put_summary told s n free)
    (λ n id. details n id ∙ h.details n id ∙ no_details told s n id)

pub with_summary_again : (told : List Record) (s : Summary) (held : Replay) → Holds told held → get nat_cmp held.summaries (number_of s) ≡ Some s
    → Holds (told ++ kind.Summary s ∷ []) held
with_summary_again told s held h kept =
    let there : summary_among told (number_of s) ≡ Some s = sym (h.summaries (number_of s)) ∙ kept in
    with_more told (kind.Summary s) held held h refl refl
    (λ n. h.summaries n ∙ again_summary told s n there) (λ n id. h.details n id ∙ no_details told s n id)

-- ---- details

put_details : (told : List Record) (d : Details) (n id : ℕ) → details_among told (details_number d) (document_of d) ≡ None
    → cond ((details_number d == n) && (document_of d == id)) (Some d) (details_among told n id) ≡ or_else (details_among told n id) (details_at (kind.Details d) n id)
put_details told d n id none = go ((details_number d == n) && (document_of d == id)) refl where
  go : (b : Bool) → ((details_number d == n) && (document_of d == id)) ≡ b
      → cond b (Some d) (details_among told n id) ≡ or_else (details_among told n id) (if b then Some d else None)
  go true is =
      let parts = and_parts (details_number d == n) (document_of d == id) is in
      let first : details_among told n (document_of d) ≡ None = subst (λ k. details_among told k (document_of d) ≡ None) (eqb-true (details_number d) n parts.0) none in
      let here : details_among told n id ≡ None = subst (λ k. details_among told n k ≡ None) (eqb-true (document_of d) id parts.1) first in
      ap (λ o. or_else o (Some d)) (sym here)
  go false is = sym (or_none (details_among told n id))

again_details : (told : List Record) (d : Details) (n id : ℕ) → details_among told (details_number d) (document_of d) ≡ Some d
    → details_among told n id ≡ or_else (details_among told n id) (details_at (kind.Details d) n id)
again_details told d n id kept = go ((details_number d == n) && (document_of d == id)) refl where
  go : (b : Bool) → ((details_number d == n) && (document_of d == id)) ≡ b
      → details_among told n id ≡ or_else (details_among told n id) (if b then Some d else None)
  go true is =
      let parts = and_parts (details_number d == n) (document_of d == id) is in
      let first : details_among told n (document_of d) ≡ Some d = subst (λ k. details_among told k (document_of d) ≡ Some d) (eqb-true (details_number d) n parts.0) kept in
      let here : details_among told n id ≡ Some d = subst (λ k. details_among told n k ≡ Some d) (eqb-true (document_of d) id parts.1) first in
      here ∙ ap (λ o. or_else o (Some d)) (sym here)
  go false is = sym (or_none (details_among told n id))

no_summary : (told : List Record) (d : Details) (n : ℕ) → summary_among told n ≡ or_else (summary_among told n) (summary_at (kind.Details d) n)
no_summary told d n = sym (or_none (summary_among told n))

pub with_details : (told : List Record) (d : Details) (old new : Replay) → Holds told old → get pair_cmp old.details (details_number d, document_of d) ≡ None
    → new.from ≡ old.from → new.blocks.list ≡ old.blocks.list
    → ((n : ℕ) → get nat_cmp new.summaries n ≡ get nat_cmp old.summaries n)
    → ((n id : ℕ) → get pair_cmp new.details (n, id) ≡ cond (is_at (pair_cmp (details_number d, document_of d)) (n, id)) (Some d) (get pair_cmp old.details (n, id)))
    → Holds (told ++ kind.Details d ∷ []) new
with_details told d old new h none from blocks summaries details =
    let free : details_among told (details_number d) (document_of d) ≡ None = sym (h.details (details_number d) (document_of d)) ∙ none in
    with_more told (kind.Details d) old new h from blocks
    (λ n. summaries n ∙ h.summaries n ∙ no_summary told d n)
    (λ n id.
    details n id ∙ ap (λ b. cond b (Some d) (get pair_cmp old.details (n, id))) (is_eq-pair_cmp (details_number d) (document_of d) n id)
    ∙ ap (λ o. cond ((details_number d == n) && (document_of d == id)) (Some d) o) (h.details n id) ∙ put_details told d n id free)

pub with_details_again : (told : List Record) (d : Details) (held : Replay) → Holds told held
    → get pair_cmp held.details (details_number d, document_of d) ≡ Some d → Holds (told ++ kind.Details d ∷ []) held
with_details_again told d held h kept =
    let there : details_among told (details_number d) (document_of d) ≡ Some d = sym (h.details (details_number d) (document_of d)) ∙ kept in
    with_more told (kind.Details d) held held h refl refl
    (λ n. h.summaries n ∙ no_summary told d n) (λ n id. h.details n id ∙ again_details told d n id there)

-- ---- one block more

front_of : (blocks : List Block) (b : Block) (i : ℕ) → i < length blocks → slice_get (blocks ++ b ∷ []) i ≡ slice_get blocks i
front_of [] b i h = absurd (omega (arith, h))
front_of (c ∷ cs) b zero h = refl
front_of (c ∷ cs) b (suc i) h = front_of cs b i (omega (arith, h))

last_of : (blocks : List Block) (b : Block) → slice_get (blocks ++ b ∷ []) (length blocks) ≡ Some b
last_of [] b = refl
last_of (c ∷ cs) b = last_of cs b

pub with_block : (told : List Record) (from : ℕ) (blocks : List Block) (b : Block) → AreBlocks told from blocks → block_among told (from + length blocks) ≡ Some b
    → AreBlocks told from (blocks ++ b ∷ [])
with_block told from blocks b stand next = λ i h.
    ⊎_elim (λ (less : i < length blocks). front_of blocks b i less ∙ stand i less)
    (λ (last : i ≡ length blocks).
    subst (λ k. slice_get (blocks ++ b ∷ []) k ≡ block_among told (from + k)) (sym last) (last_of blocks b ∙ sym next))
    (either i h) where
      either : (i : ℕ) → i < length (blocks ++ b ∷ []) → (i < length blocks) ⊎ (i ≡ length blocks)
      either i h =
          ⊎_elim (λ (less : i < length blocks). inl less)
          (λ (past : length blocks ≤ i). inr (let long = length-append blocks (b ∷ []) in omega (arith, h, past, long))) (cases_lt i (length blocks))

-- the block that is kept of a number is that of the records
pub kept_block-is : (told : List Record) (r : Replay) → Holds told r → (n : ℕ) → kept_block r n ≡ block_among told n
kept_block-is told r h n = λ i. and_then (h.summaries n i) (block_by (λ id. h.details n id i))

pub with_one : (told : List Record) (old new : Replay) (b : Block) → Holds told old → new.from ≡ old.from
    → ((n : ℕ) → get nat_cmp new.summaries n ≡ get nat_cmp old.summaries n) → ((n id : ℕ) → get pair_cmp new.details (n, id) ≡ get pair_cmp old.details (n, id))
    → new.blocks.list ≡ old.blocks.list ++ b ∷ [] → kept_block old (old.from + length old.blocks.list) ≡ Some b → Holds told new
with_one told old new b h from summaries details blocks next =
    let stand = with_block told old.from old.blocks.list b h.blocks (sym (kept_block-is told old h (old.from + length old.blocks.list)) ∙ next) in
    record {
      summaries = λ n. summaries n ∙ h.summaries n;
      details = λ n id. details n id ∙ h.details n id;
      blocks = subst (λ (bs : List Block). AreBlocks told new.from bs) (sym blocks)
          (subst (λ (n : ℕ). AreBlocks told n (old.blocks.list ++ b ∷ [])) (sym from) stand);
    }

pub is_settled : (told : List Record) (r : Replay) → Holds told r → kept_block r (r.from + length r.blocks.list) ≡ None → IsSettled told r
is_settled told r h none = λ small. sym (kept_block-is told r h (r.from + length r.blocks.list)) ∙ none

-- ---- what is kept in a place, and a record of that place

pub agree_free : {A : Type 0} (found kept : Option A) (x : A) → kept ≡ found → kept ≡ None → (t : A) → found ≡ Some t → t ≡ x
agree_free found kept x is none t e = let bad : None ≡ Some t = sym none ∙ is ∙ e in cc

pub agree_again : {A : Type 0} (found kept : Option A) (x : A) → kept ≡ found → kept ≡ Some x → (t : A) → found ≡ Some t → t ≡ x
agree_again found kept x is some t e = let same : Some x ≡ Some t = sym some ∙ is ∙ e in cc

-- ---- records that aren't below

some_is : (a b : ℕ) → Some a ≡ Some b → a ≡ b
some_is a b e = cc

no_number : (n : ℕ) → None ≡ Some n → ⊥
no_number n e = cc

pub summary_not_below : (from : ℕ) (s : Summary) → from ≤ number_of s → IsNotBelow from (kind.Summary s)
summary_not_below from s h = λ n below.
    let same : number_of s ≡ n = some_is (number_of s) n below.0 in
    let less = below.1 in
    absurd (omega (arith, h, same, less))

pub details_not_below : (from : ℕ) (d : Details) → from ≤ details_number d → IsNotBelow from (kind.Details d)
details_not_below from d h = λ n below.
    let same : details_number d ≡ n = some_is (details_number d) n below.0 in
    let less = below.1 in
    absurd (omega (arith, h, same, less))

created_not_below : (from : ℕ) → IsNotBelow from kind.Created
created_not_below from = λ n below. no_number n below.0

completed_not_below : (from : ℕ) → IsNotBelow from kind.Completed
completed_not_below from = λ n below. no_number n below.0

-- ---- what a replay does with a record, by whether its place is free

pub keeps_summary : (told : List Record) (s : Summary) (held : Replay) → Holds told held → IsNotBelow held.from (kind.Summary s)
    → get nat_cmp held.summaries (number_of s) ≡ Some s
    → IsNotBelow held.from (kind.Summary s) × Agrees told (kind.Summary s) × Holds (told ++ kind.Summary s ∷ []) held
keeps_summary told s held h above kept = (
  above,
  agree_again (summary_among told (number_of s)) (get nat_cmp held.summaries (number_of s)) s (h.summaries (number_of s)) kept,
  with_summary_again told s held h kept,
)

pub differs_summary : (told : List Record) (s : Summary) (held : Replay) → Holds told held
    → (t : Summary) × (get nat_cmp held.summaries (number_of s) ≡ Some t) × (t ≢ s) → DiffersFrom told (kind.Summary s)
differs_summary told s held h d = (d.0, sym (h.summaries (number_of s)) ∙ d.1, d.2)

pub keeps_details : (told : List Record) (d : Details) (held : Replay) → Holds told held → IsNotBelow held.from (kind.Details d)
    → kept_details held (details_number d) (document_of d) ≡ Some d
    → IsNotBelow held.from (kind.Details d) × Agrees told (kind.Details d) × Holds (told ++ kind.Details d ∷ []) held
keeps_details told d held h above kept = (
  above,
  agree_again (details_among told (details_number d) (document_of d)) (kept_details held (details_number d) (document_of d)) d
      (h.details (details_number d) (document_of d)) kept,
  with_details_again told d held h kept,
)

pub differs_details : (told : List Record) (d : Details) (held : Replay) → Holds told held
    → (e : Details) × (kept_details held (details_number d) (document_of d) ≡ Some e) × (e ≢ d) → DiffersFrom told (kind.Details d)
differs_details told d held h e = (e.0, sym (h.details (details_number d) (document_of d)) ∙ e.1, e.2)

-- ---- what is found of a listed revision, and of a block

pub not_kept : (kept : Option Details) (l : RevisionSummary) → kept ≡ None → None ≡ revision_by kept l
not_kept kept l none = ap (λ (o : Option Details). revision_by o l) (sym none)

pub other_kept : (kept : Option Details) (d : Details) (l : RevisionSummary) → kept ≡ Some d → same_hash d.revision.hash l.hash ≡ false
    → None ≡ revision_by kept l
other_kept kept d l there other =
    ap (λ (b : Bool). if b then Some d.revision else None) (sym other) ∙ ap (λ (o : Option Details). revision_by o l) (sym there)

pub revision_kept : (kept : Option Details) (d : Details) (l : RevisionSummary) (r : Revision) → kept ≡ Some d
    → same_hash d.revision.hash l.hash ≡ true → r ≡ d.revision → Some r ≡ revision_by kept l
revision_kept kept d l r there same is =
    ap Some is ∙ ap (λ (b : Bool). if b then Some d.revision else None) (sym same) ∙ ap (λ (o : Option Details). revision_by o l) (sym there)

abbrev found_of : Replay → ℕ → List RevisionSummary → Option (List Revision)
found_of r n listed = each (λ (l : RevisionSummary). revision_by (kept_details r n l.document.raw) l) listed

abbrev made_of : Summary → Option (List Revision) → Option Block
made_of s o = option_map (λ (rs : List Revision). record s.block { revisions = rs }) o

pub no_summary_kept : (r : Replay) (n : ℕ) → get nat_cmp r.summaries n ≡ None → None ≡ kept_block r n
no_summary_kept r n none = ap (λ (o : Option Summary). and_then o (block_by (kept_details r n))) (sym none)

found_block : (r : Replay) (n : ℕ) (s : Summary) (listed : List RevisionSummary) (o : Option (List Revision)) → get nat_cmp r.summaries n ≡ Some s
    → listed ≡ s.listed → o ≡ found_of r n listed → made_of s o ≡ kept_block r n
found_block r n s listed o there all is =
    ap (made_of s) (is ∙ ap (found_of r n) all) ∙ ap (λ (x : Option Summary). and_then x (block_by (kept_details r n))) (sym there)

pub no_revisions_kept : (r : Replay) (n : ℕ) (s : Summary) (listed : List RevisionSummary) (o : Option (List Revision)) → get nat_cmp r.summaries n ≡ Some s
    → listed ≡ s.listed → o ≡ found_of r n listed → o ≡ None → None ≡ kept_block r n
no_revisions_kept r n s listed o there all is none = ap (made_of s) (sym none) ∙ found_block r n s listed o there all is

pub block_kept : (r : Replay) (n : ℕ) (s : Summary) (listed : List RevisionSummary) (o : Option (List Revision)) (rs : List Revision) (info : Info)
    → get nat_cmp r.summaries n ≡ Some s → listed ≡ s.listed → o ≡ found_of r n listed → o ≡ Some rs → info ≡ s.block.info
    → Some (record s.block { info = info; revisions = rs }) ≡ kept_block r n
block_kept r n s listed o rs info there all is some same =
    ap (λ (i : Info). Some (record s.block { info = i; revisions = rs })) same ∙ ap (made_of s) (sym some) ∙ found_block r n s listed o there all is

-- what a test that tells equal values apart lets not pass is another value
pub other_is : {A : Type 0} (test : A → A → Bool) → TellsEqual test → (a b : A) → test a b ≡ false → a ≢ b
other_is test tells a b fails same = true≢false (sym ((tells a b).1 same) ∙ fails)

-- ---- what a replay does with a record, by how it ends

pub same_frame : (told : List Record) (old new : Replay) → Holds told old → new.from ≡ old.from → new.blocks.list ≡ old.blocks.list
    → ((n : ℕ) → get nat_cmp new.summaries n ≡ get nat_cmp old.summaries n)
    → ((n id : ℕ) → get pair_cmp new.details (n, id) ≡ get pair_cmp old.details (n, id)) → Holds told new
same_frame told old new h from blocks summaries details = record {
  summaries = λ n. summaries n ∙ h.summaries n;
  details = λ n id. details n id ∙ h.details n id;
  blocks = subst (λ (bs : List Block). AreBlocks told new.from bs) (sym blocks) (subst (λ (n : ℕ). AreBlocks told n old.blocks.list) (sym from) h.blocks);
}

-- where the entries stay, so does what is found
unchanged_summaries : (old new : Replay) (n : ℕ) → IsUnchanged old.summaries new.summaries → get nat_cmp new.summaries n ≡ get nat_cmp old.summaries n
unchanged_summaries old new n same = ap (λ es. lookup (is_at (nat_cmp n)) es) same

unchanged_details : (old new : Replay) (n id : ℕ) → IsUnchanged old.details new.details → get pair_cmp new.details (n, id) ≡ get pair_cmp old.details (n, id)
unchanged_details old new n id same = ap (λ es. lookup (is_at (pair_cmp (n, id))) es) same

pub summary_refused : (told : List Record) (s : Summary) (held : Replay) (e : ReplayFault) → Holds told held
    → Admits held.from (kind.Summary s) (get nat_cmp held.summaries (number_of s)) s (Err e) → Keeps told (kind.Summary s) held (Err e) held
summary_refused told s held (fault.Below n from) h a = (a.0, a.1, refl)
summary_refused told s held (fault.Differs n) h a = (a.0, a.1, differs_summary told s held h a.2, refl)
summary_refused told s held fault.OutOfMemory h a = absurd a

pub summary_kept : (told : List Record) (s : Summary) (old new : Replay) → Holds told old
    → Admits old.from (kind.Summary s) (get nat_cmp old.summaries (number_of s)) s (Ok true) → new.from ≡ old.from → new.blocks.list ≡ old.blocks.list
    → ((n : ℕ) → get nat_cmp new.summaries n ≡ cond (is_at (nat_cmp (number_of s)) n) (Some s) (get nat_cmp old.summaries n))
    → ((n id : ℕ) → get pair_cmp new.details (n, id) ≡ get pair_cmp old.details (n, id))
    → Keeps told (kind.Summary s) old (Ok tt) new
summary_kept told s old new h a from blocks summaries details = (
  a.0,
  agree_free (summary_among told (number_of s)) (get nat_cmp old.summaries (number_of s)) s (h.summaries (number_of s)) a.1,
  with_summary told s old new h a.1 from blocks summaries details,
)

pub summary_lost : (told : List Record) (s : Summary) (old new : Replay) (out : Result (Unit {0}) ReplayFault) → out ≡ Err fault.OutOfMemory → Holds told old
    → Admits old.from (kind.Summary s) (get nat_cmp old.summaries (number_of s)) s (Ok true) → new.from ≡ old.from → new.blocks.list ≡ old.blocks.list
    → IsUnchanged old.summaries new.summaries → ((n id : ℕ) → get pair_cmp new.details (n, id) ≡ get pair_cmp old.details (n, id))
    → Keeps told (kind.Summary s) old out new
summary_lost told s old new out is h a from blocks same details = subst (λ (o : Result (Unit {0}) ReplayFault). Keeps told (kind.Summary s) old o new) (sym is) (
  a.0,
  agree_free (summary_among told (number_of s)) (get nat_cmp old.summaries (number_of s)) s (h.summaries (number_of s)) a.1,
  same_frame told old new h from blocks (λ n. unchanged_summaries old new n same) details,
)

pub details_refused : (told : List Record) (d : Details) (held : Replay) (e : ReplayFault) → Holds told held
    → Admits held.from (kind.Details d) (kept_details held (details_number d) (document_of d)) d (Err e) → Keeps told (kind.Details d) held (Err e) held
details_refused told d held (fault.Below n from) h a = (a.0, a.1, refl)
details_refused told d held (fault.Differs n) h a = (a.0, a.1, differs_details told d held h a.2, refl)
details_refused told d held fault.OutOfMemory h a = absurd a

pub details_kept : (told : List Record) (d : Details) (old new : Replay) → Holds told old
    → Admits old.from (kind.Details d) (kept_details old (details_number d) (document_of d)) d (Ok true) → new.from ≡ old.from → new.blocks.list ≡ old.blocks.list
    → ((n : ℕ) → get nat_cmp new.summaries n ≡ get nat_cmp old.summaries n)
    → ((n id : ℕ) → get pair_cmp new.details (n, id) ≡ cond (is_at (pair_cmp (details_number d, document_of d)) (n, id)) (Some d) (get pair_cmp old.details (n, id)))
    → Keeps told (kind.Details d) old (Ok tt) new
details_kept told d old new h a from blocks summaries details = (
  a.0,
  agree_free (details_among told (details_number d) (document_of d)) (kept_details old (details_number d) (document_of d)) d
      (h.details (details_number d) (document_of d)) a.1,
  with_details told d old new h a.1 from blocks summaries details,
)

pub details_lost : (told : List Record) (d : Details) (old new : Replay) (out : Result (Unit {0}) ReplayFault) → out ≡ Err fault.OutOfMemory → Holds told old
    → Admits old.from (kind.Details d) (kept_details old (details_number d) (document_of d)) d (Ok true) → new.from ≡ old.from → new.blocks.list ≡ old.blocks.list
    → ((n : ℕ) → get nat_cmp new.summaries n ≡ get nat_cmp old.summaries n) → IsUnchanged old.details new.details
    → Keeps told (kind.Details d) old out new
details_lost told d old new out is h a from blocks summaries same = subst (λ (o : Result (Unit {0}) ReplayFault). Keeps told (kind.Details d) old o new) (sym is) (
  a.0,
  agree_free (details_among told (details_number d) (document_of d)) (kept_details old (details_number d) (document_of d)) d
      (h.details (details_number d) (document_of d)) a.1,
  same_frame told old new h from blocks summaries (λ n id. unchanged_details old new n id same),
)

pub created_kept : (told : List Record) (r : Record) (held : Replay) → r ≡ kind.Created → Holds told held → Keeps told r held (Ok tt) held
created_kept told r held is h =
    subst (λ (x : Record). Keeps told x held (Ok tt) held) (sym is)
    (created_not_below held.from, tt, with_control told kind.Created held (λ n. refl) (λ n id. refl) h)

pub completed_kept : (told : List Record) (r : Record) (held : Replay) → r ≡ kind.Completed → Holds told held → Keeps told r held (Ok tt) held
completed_kept told r held is h =
    subst (λ (x : Record). Keeps told x held (Ok tt) held) (sym is)
    (completed_not_below held.from, tt, with_control told kind.Completed held (λ n. refl) (λ n id. refl) h)

-- ---- what comes of a delivery, by how keeping the record and rebuilding end

pub delivers_refused : (told : List Record) (r : Record) (old new : Replay) (e : ReplayFault) → Keeps told r old (Err e) new → Delivers told r old (Err e) new
delivers_refused told r old new (fault.Below n from) k = k
delivers_refused told r old new (fault.Differs n) k = k
delivers_refused told r old new fault.OutOfMemory k = (k.0, k.1, inl k.2)

pub delivers_lost : (told : List Record) (r : Record) (old held new : Replay) → Keeps told r old (Ok tt) held
    → (Holds (told ++ r ∷ []) held → Holds (told ++ r ∷ []) new) → Delivers told r old (Err fault.OutOfMemory) new
delivers_lost told r old held new k more = (k.0, k.1, inr (more k.2))

pub delivers_kept : (told : List Record) (r : Record) (old held new : Replay) → Keeps told r old (Ok tt) held
    → (Holds (told ++ r ∷ []) held → Holds (told ++ r ∷ []) new) → (Holds (told ++ r ∷ []) held → IsSettled (told ++ r ∷ []) new)
    → Delivers told r old (Ok tt) new
delivers_kept told r old held new k more settled = ((k.0, k.1, more k.2), settled k.2)
