-- The block and the revision that are proved, where none of the numbers is refused.
use Rattle.std.proofs.Common.{◌≡◌, ◌∙◌, ◌<◌, ℕ, zero, suc, nat_le, Bool, true, false, List, [], ◌∷◌, length, Option, Some, None, refl, sym, ap, subst, arith, inl, inr, if◌then◌else◌}
use Rattle.std.specs.Prelude.{slice_get, option_and_then}
use Rattle.std.proofs.lemmas.Bool.Decides.{leb_tells}
use Rattle.ql_types.specs.declared.TableId.{TableId}
use Rattle.ledger_model.specs.declared.block.Block.{Block}
use Rattle.ledger_model.specs.declared.block.Content.{Content}
use Rattle.ledger_model.specs.declared.block.Content.TheVariants.{Deleted, Kept, Redacted}
use Rattle.ledger_model.specs.declared.block.Metadata.{Metadata}
use Rattle.ledger_model.specs.declared.block.Revision.{Revision}
use Rattle.ledger_model.specs.Damages.{Undamaged}
use Rattle.ledger_model.specs.Compaction.{shown_revision, shown_revisions}
use Rattle.ledger_model.specs.Follows.{is_redacted_in}
use Rattle.ledger_model.specs.Seals.{revision_hash}
use Rattle.ledger_model.specs.State.{hashed}
use Rattle.proof_model.specs.declared.Digest.{Digest}
use Rattle.proof_model.specs.declared.Proof.{Proof}
use Rattle.proof_model.specs.Chained.{Chained}
use Rattle.proof_model.specs.Verified.{Verified}
use Rattle.proof_model.proofs.Chains.{linked, undamaged-chained}
use Rattle.proof_issue.specs.declared.NoSuch.{NoSuch}
use Rattle.proof_issue.specs.Refusals.{or_then, past_end, past_revisions, refusal}

-- ---- nothing is refused

both_none : (a b : Option NoSuch) → or_then a b ≡ None → (a ≡ None) × (b ≡ None)
both_none None b e = (refl, e)
both_none (Some why) b e = cc

not_so : (t : Bool) (why : NoSuch) (rest : Option NoSuch) → (if t then Some why else rest) ≡ None → rest ≡ None
not_so true why rest e = cc
not_so false why rest e = e

not_past : (n k : ℕ) (why : NoSuch) → (if nat_le n k then Some why else None) ≡ None → k < n
not_past n k why e =
    elim (leb_tells n k) [
      | inl t ↦
          let bad : Some why ≡ None = subst (λ (b : Bool). (if b then Some why else None) ≡ None) t.0 e in
          let none : ⊥ = cc in absurd none
      | inr f ↦ f.1
    ]

-- ---- what is there

at_place : {A : Type 0} (xs : List A) (k : ℕ) → k < length xs → (x : A) × (slice_get xs k ≡ Some x)
at_place [] k h = absurd (omega (arith, h))
at_place (x ∷ xs) zero h = (x, refl)
at_place (x ∷ xs) (suc k) h = at_place xs k (omega (arith, h))

-- the block of this number, its revision of this index, and the table of the revision's document
pub record Found (blocks : List Block) (sequence index : ℕ) : Type 0 where
  pub block : Block
  pub block_is : slice_get blocks sequence ≡ Some block
  pub revision : Revision
  pub revision_is : slice_get block.revisions index ≡ Some revision
  pub table : TableId
  pub table_is : slice_get block.info.tables index ≡ Some table

pub found : (blocks : List Block) → Chained blocks → (sequence index tip : ℕ) → refusal blocks sequence index tip ≡ None → Found blocks sequence index
found blocks chained sequence index tip none =
    let behind_tip = both_none (past_end blocks tip) _ none in
    let behind_end = both_none (past_end blocks sequence) _ behind_tip.1 in
    let revisions = not_so _ _ _ behind_end.1 in
    let b = at_place blocks sequence (not_past (length blocks) sequence _ behind_end.0) in
    let whole = (linked blocks chained sequence b.0 b.1).whole in
    let counted = subst (λ (o : Option Block). past_revisions o index ≡ None) b.1 revisions in
    let within = not_past b.0.header.revisions index _ counted in
    let r = at_place b.0.revisions index (omega (arith, within, whole.count)) in
    let t = at_place b.0.info.tables index (omega (arith, within, whole.count, whole.tables)) in
    record { block = b.0; block_is = b.1; revision = r.0; revision_is = r.1; table = t.0; table_is = t.1 }

-- ---- what the journal shows of it

-- the revision at this index of a block
abbrev pub shown_in : List Block → ℕ → Block → Option Revision
shown_in blocks index b = slice_get (shown_revisions blocks b.info.tables b.revisions) index

-- the revision at this index of the block of this number
abbrev pub shown_at : List Block → ℕ → ℕ → Option Revision
shown_at blocks sequence index = option_and_then (shown_in blocks index) (slice_get blocks sequence)

pub in_block : (blocks : List Block) (sequence index : ℕ) (b : Block) → slice_get blocks sequence ≡ Some b
    → shown_at blocks sequence index ≡ shown_in blocks index b
in_block blocks sequence index b is = ap (λ (o : Option Block). option_and_then (shown_in blocks index) o) is

pub shown_some : (blocks : List Block) (ts : List TableId) (rs : List Revision) (k : ℕ) (t : TableId) (r : Revision)
    → slice_get ts k ≡ Some t → slice_get rs k ≡ Some r → slice_get (shown_revisions blocks ts rs) k ≡ Some (shown_revision blocks t r)
shown_some blocks [] rs k t r table is = cc
shown_some blocks (u ∷ ts) [] k t r table is = cc
shown_some blocks (u ∷ ts) (s ∷ rs) zero t r table is =
    let same_table : u ≡ t = cc in
    let same : s ≡ r = cc in
    λ i. Some (shown_revision blocks (same_table i) (same i))
shown_some blocks (u ∷ ts) (s ∷ rs) (suc k) t r table is = shown_some blocks ts rs k t r table is

-- each revision of a block has its table
pub same_count : (blocks : List Block) → Undamaged blocks → (sequence : ℕ) (b : Block) → slice_get blocks sequence ≡ Some b
    → length b.info.tables ≡ length b.revisions
same_count blocks u sequence b is = (linked blocks (undamaged-chained blocks u) sequence b is).whole.tables

-- there is none without a revision, and none without its table
pub no_revision : (blocks : List Block) (ts : List TableId) (rs : List Revision) (k : ℕ) → slice_get rs k ≡ None
    → slice_get (shown_revisions blocks ts rs) k ≡ None
no_revision blocks [] rs k is = is
no_revision blocks (t ∷ ts) [] k is = is
no_revision blocks (t ∷ ts) (r ∷ rs) zero is = cc
no_revision blocks (t ∷ ts) (r ∷ rs) (suc k) is = no_revision blocks ts rs k is

pub no_table : (blocks : List Block) (ts : List TableId) (rs : List Revision) (k : ℕ) → length ts ≡ length rs → slice_get ts k ≡ None
    → slice_get (shown_revisions blocks ts rs) k ≡ None
no_table blocks [] [] k same is = refl
no_table blocks [] (r ∷ rs) k same is = absurd (omega (arith, same))
no_table blocks (t ∷ ts) [] k same is = absurd (omega (arith, same))
no_table blocks (t ∷ ts) (r ∷ rs) zero same is = cc
no_table blocks (t ∷ ts) (r ∷ rs) (suc k) same is = no_table blocks ts rs k (omega (arith, same)) is

-- it is what is looked up
pub found_some : (blocks : List Block) (sequence index : ℕ) (f : Found blocks sequence index)
    → shown_at blocks sequence index ≡ Some (shown_revision blocks f.table f.revision)
found_some blocks sequence index f =
    in_block blocks sequence index f.block f.block_is
    ∙ shown_some blocks f.block.info.tables f.block.revisions index f.table f.revision f.table_is f.revision_is

-- a data hash in place of the data leaves the revision's hash
hashed_stays : (c : Content) (m : Metadata) → revision_hash (hashed c) m ≡ revision_hash c m
hashed_stays Deleted m = refl
hashed_stays (Kept v) m = refl
hashed_stays (Redacted hash) m = refl

hash_stays : (hides : Bool) (c : Content) (m : Metadata) → revision_hash (if hides then hashed c else c) m ≡ revision_hash c m
hash_stays true c m = hashed_stays c m
hash_stays false c m = refl

-- so the proof is accepted for it too
pub accepted_shown : (blocks : List Block) (t : TableId) (r : Revision) (d : Digest) (p : Proof) → Verified d r p
    → Verified d (shown_revision blocks t r) p
accepted_shown blocks t r d p v = record {
  strand = v.strand;
  address = v.address;
  tip = v.tip;
  index = v.index;
  long = v.long;
  stated = v.stated ∙ sym (hash_stays (is_redacted_in blocks (record { table = t; revision = r })) r.content r.metadata);
  root = v.root;
}

pub not_none : (r : Revision) (o : Option Revision) → o ≡ Some r → o ≡ None → ⊥
not_none r o is none = cc

pub same_revision : (a b : Revision) (o : Option Revision) → Some a ≡ o → o ≡ Some b → a ≡ b
same_revision a b o is same = cc
