-- What an undamaged journal has: each block stands in its place, each of its revisions has its address, and no two of these are of
-- one document.
use Rattle.std.proofs.Common.{◌≡◌, ℕ, zero, suc, ◌+◌, ◌<◌, ◌≤◌, ◌^◌, ◌-◌, Bool, true, false, not, ◌&&◌, List, [], ◌∷◌, ◌++◌, length, drop, Option, Some, None, refl, subst, arith, length-append, if◌then◌else◌}
use Rattle.std.specs.List.{list_all}
use Rattle.std.proofs.lemmas.Bool.{and_parts, eqb-true, leb-true, not-false}
use Rattle.ql_types.specs.declared.TableId.{TableId}
use Rattle.ledger_model.specs.declared.block.Revision.{Revision}
use Rattle.ledger_model.specs.declared.block.Block.{Block}
use Rattle.ledger_model.specs.declared.damage.Damage.{Damage}
use Rattle.ledger_model.specs.State.{State, state, recorded_in}
use Rattle.ledger_model.specs.Whole.{IsWhole}
use Rattle.ledger_model.specs.Follows.{all_differ, document_ids, ids_follow, made_ids, schema_follows, follows, follows_blocks, is_of, revision_follows}
use Rattle.ledger_model.specs.Damages.{UndamagedBehind, Undamaged, damage_behind, has_address, has_id, has_time, has_previous, has_hashes, strand_of}

-- each revision is of the block of this number
abbrev pub AreOf : ℕ → List Revision → Type 0
AreOf n [] = Unit {0}
AreOf n (r ∷ rs) = (r.address.sequence ≡ n) × AreOf n rs

pub record IsNumbered (n : ℕ) (b : Block) : Type 0 where
  pub number : b.header.address.sequence ≡ n
  pub small : n < 2 ^ 64
  pub tables : length b.info.tables ≡ length b.revisions
  pub revisions : AreOf n b.revisions
  pub differ : all_differ (document_ids b.revisions) ≡ true

-- the blocks have these numbers in order
abbrev pub AreNumbered : ℕ → List Block → Type 0
AreNumbered n [] = Unit {0}
AreNumbered n (b ∷ bs) = IsNumbered n b × AreNumbered (n + 1) bs

passed : (b : Bool) (d : Damage) (o : Option Damage) → (if b then Some d else o) ≡ None → (b ≡ false) × (o ≡ None)
passed true d o h = cc
passed false d o h = (refl, h)

-- the first and the last of the checks
checks : (before : List Block) (b : Block) → damage_behind before b ≡ None
    → (has_address (strand_of before b) before b ≡ true) × (follows (strand_of before b) (state before) b ≡ true)
checks before b h =
    let strand = strand_of before b in
    let address = passed (not (has_address strand before b)) _ _ h in
    let id = passed (not (has_id strand before b)) _ _ address.1 in
    let time = passed (not (has_time before b)) _ _ id.1 in
    let previous = passed (not (has_previous strand before b)) _ _ time.1 in
    let hashes = passed (not (has_hashes b)) _ _ previous.1 in
    let state_follows = passed (not (follows_blocks strand before b)) _ _ hashes.1 in (
      not-false (has_address strand before b) address.0,
      (and_parts (follows strand (state before) b) _ (not-false (follows_blocks strand before b) state_follows.0)).0,
    )

number_is : (before : List Block) (b : Block) → has_address (strand_of before b) before b ≡ true → b.header.address.sequence ≡ length before
number_is before b h = eqb-true _ _ (and_parts _ _ (and_parts _ _ h).0).0

number_small : (before : List Block) (b : Block) → has_address (strand_of before b) before b ≡ true → length before < 2 ^ 64
number_small before b h =
    let most : length before ≤ 2 ^ 32 - 2 = leb-true _ _ (and_parts _ _ (and_parts _ _ h).0).1 in
    omega (arith, most)

all_of : (s : State) (b : Block) (ts : List TableId) (rs : List Revision) → length ts ≡ length rs
    → list_all (revision_follows s b) (recorded_in ts rs) ≡ true → AreOf b.header.address.sequence rs
all_of s b [] [] same all = tt
all_of s b [] (r ∷ rs) same all = absurd (omega (arith, same))
all_of s b (t ∷ ts) [] same all = absurd (omega (arith, same))
all_of s b (t ∷ ts) (r ∷ rs) same all =
    let first = and_parts _ _ all in
    let own : is_of b.header r ≡ true = (and_parts _ _ (and_parts _ _ first.0).0).0 in
    let address = (and_parts _ _ (and_parts _ _ own).0).0 in
    (eqb-true _ _ (and_parts _ _ address).1, all_of s b ts rs (omega (arith, same)) first.1)

is_numbered : (before : List Block) (b : Block) → IsWhole b → damage_behind before b ≡ None → IsNumbered (length before) b
is_numbered before b whole sound =
    let both = checks before b sound in
    let number = number_is before b both.0 in
    let strand = strand_of before b in
    let parts = and_parts (schema_follows (state before).tables (state before).indexes b.info.schema && ids_follow strand (made_ids (state before) b) b.header.tx.raw
    && list_all (revision_follows (state before) b) (recorded_in b.info.tables b.revisions)) (all_differ (document_ids b.revisions)) both.1 in
    let revisions = and_parts (schema_follows (state before).tables (state before).indexes b.info.schema && ids_follow strand (made_ids (state before) b) b.header.tx.raw)
    (list_all (revision_follows (state before) b) (recorded_in b.info.tables b.revisions)) parts.0 in
    record {
      number = number;
      small = number_small before b both.0;
      tables = whole.tables;
      revisions = subst (λ n. AreOf n b.revisions) number (all_of (state before) b b.info.tables b.revisions whole.tables revisions.1);
      differ = parts.1;
    }

behind : (before bs : List Block) → UndamagedBehind before bs → AreNumbered (length before) bs
behind before [] u = tt
behind before (b ∷ bs) u =
    let long : length (before ++ b ∷ []) ≡ length before + 1 = length-append before (b ∷ []) in
    (is_numbered before b u.0 u.1, subst (λ n. AreNumbered n bs) long (behind (before ++ b ∷ []) bs u.2))

dropped : (from n : ℕ) (bs : List Block) → AreNumbered n bs → AreNumbered (n + from) (drop from bs)
dropped zero n bs all = subst (λ k. AreNumbered k bs) (omega arith) all
dropped (suc from) n [] all = tt
dropped (suc from) n (b ∷ bs) all = subst (λ k. AreNumbered k (drop from bs)) (omega arith) (dropped from (n + 1) bs all.1)

-- the blocks from a number on
pub numbered_from : (journal : List Block) (from : ℕ) → Undamaged journal → AreNumbered from (drop from journal)
numbered_from journal from u = subst (λ k. AreNumbered k (drop from journal)) (omega arith) (dropped from 0 journal (behind [] journal u))
