-- The place, the id and the time of a block behind others, and the hash of the last one.
use borrow.Author.Differences.{up, down, le-false}
use Rattle.std.proofs.Common.{◌≡◌, ◌∙◌, ◌≤◌, ◌<◌, ◌+◌, ◌-◌, ◌^◌, ◌&&◌, ◌==◌, ℕ, ℤ, int_le, Bool, true, false, List, [], ◌∷◌, length, Option, Some, None, refl, ap, arith, if◌then◌else◌}
use Rattle.std.specs.List.{AllByRecursion, list_all, list_any}
use Rattle.std.specs.Option.{option_map_or}
use Rattle.std.proofs.lemmas.Bool.{and_from, and_parts, or_from, not_from_false, lt-ltb, le-leb, eq-eqb, eqb-true, ne_eqb, cond_both, true_from_ne_false}
use Rattle.ion_values.specs.Time.{instant_of, is_time}
use Rattle.ion_values.specs.declared.time.TimeParts.{TimeParts}
use Rattle.ql_types.specs.Ids.{raw_id, transaction_in, thing_in}
use Rattle.ledger_model.specs.declared.block.Block.{Block}
use Rattle.ledger_model.specs.Legal.{last_hash}
use Rattle.ledger_model.specs.Making.{later_time, time_behind}
use Rattle.ledger_model.specs.Whole.{IsWhole, hash_fits, entry_fits, header_fits, hashes_fit, info_fits, revision_fits}
use Rattle.ledger_model.specs.Damages.{last_block, has_address, has_id}
use Rattle.laws_validity.specs.Before.{IsUnused}
use Rattle.laws_validity.proofs.Lists.{all_like}
use Rattle.laws_validity.proofs.Ids.{transaction_of, thing_of}
use Rattle.laws_validity.proofs.Hashes.{IsDigest, hash_of_is}
use Rattle.laws_validity.proofs.Parts.{parts_of}
use Rattle.laws_validity.proofs.Journals.{last_is, last_hash_is}

-- ---- the place and the id

pub address_ok : (m : ℕ) (bs : List Block) (b : Block) → b.header.address.sequence ≡ length bs
    → b.header.address.strand.raw ≡ m → length bs < 2 ^ 32 - 1 → has_address m bs b ≡ true
address_ok m bs b at strand room =
    and_from _ _ (and_from _ _ (eq-eqb b.header.address.sequence (length bs) at)
    (le-leb (length bs) (2 ^ 32 - 2) (omega (arith, room)))) (eq-eqb b.header.address.strand.raw m strand)

-- no block has the id of a transaction whose number none has
others : (m n raw : ℕ) (bs : List Block) → transaction_in m raw ≡ n → IsUnused m n bs
    → list_any (λ (earlier : Block). earlier.header.tx.raw == raw) bs ≡ false
others m n raw [] e h = refl
others m n raw (b ∷ bs) e h =
    or_from _ _ (ne_eqb b.header.tx.raw raw (λ same. h.0 (ap (transaction_in m) same ∙ e))) (others m n raw bs e h.1)

pub id_ok : (m n : ℕ) (bs : List Block) (b : Block) → b.header.tx.raw ≡ raw_id m n 0 → 1 ≤ n → n < 2 ^ 64
    → IsUnused m n bs → has_id m bs b ≡ true
id_ok m n bs b tx one fits unused =
    let e : transaction_in m b.header.tx.raw ≡ n = ap (transaction_in m) tx ∙ transaction_of m n 0 (omega arith) in
    let z : thing_in m b.header.tx.raw ≡ 0 = ap (thing_in m) tx ∙ thing_of m n 0 (omega arith) in
    let low = le-leb 1 (transaction_in m b.header.tx.raw) (omega (arith, e, one)) in
    let high = lt-ltb (transaction_in m b.header.tx.raw) (2 ^ 64) (omega (arith, e, fits)) in
    and_from _ _ (and_from _ _ (and_from _ _ low high) (eq-eqb (thing_in m b.header.tx.raw) 0 z))
    (not_from_false _ (others m n b.header.tx.raw bs e unused))

-- ---- the time

le_yes : (a b : ℤ) → up a + down b ≤ up b + down a → int_le a b ≡ true
le_yes a b h = true_from_ne_false (int_le a b) (λ fails. let f = le-false a b fails in omega (arith, h, f))

le_own : (a : ℤ) → int_le a a ≡ true
le_own a = le_yes a a (omega arith)

le_other : (a b : ℤ) → int_le a b ≡ false → int_le b a ≡ true
le_other a b e = le_yes b a (let f = le-false a b e in omega (arith, f))

later_step : (last : Block) (time : TimeParts) (t : Bool) → int_le (instant_of time) (instant_of last.header.time) ≡ t
    → int_le (instant_of last.header.time) (instant_of (if t then last.header.time else time)) ≡ true
later_step last time true e = le_own (instant_of last.header.time)
later_step last time false e = le_other (instant_of time) (instant_of last.header.time) e

pub later_ok : (o : Option Block) (time : TimeParts)
    → option_map_or (λ (last : Block). int_le (instant_of last.header.time) (instant_of (later_time o time))) o
    true ≡ true
later_ok None time = refl
later_ok (Some last) time = later_step last time (int_le (instant_of time) (instant_of last.header.time)) refl

later_is : (o : Option Block) (time : TimeParts) → is_time time ≡ true
    → ((b : Block) → o ≡ Some b → is_time b.header.time ≡ true) → is_time (later_time o time) ≡ true
later_is None time h k = h
later_is (Some last) time h k =
    cond_both (int_le (instant_of time) (instant_of last.header.time)) last.header.time time (λ t. is_time t ≡ true)
    (λ _. k last refl) (λ _. h)

-- ---- the hash of the last block

whole_digest : (b : Block) → IsWhole b → IsDigest b.hash
whole_digest b w =
    let most = and_parts (header_fits b.header && hashes_fit b && info_fits b.info)
    (list_all revision_fits b.revisions) w.fits in
    let two = and_parts (header_fits b.header && hashes_fit b) (info_fits b.info) most.0 in
    let hashes = and_parts (header_fits b.header) (hashes_fit b) two.0 in
    let four = and_parts (hash_fits b.hash && hash_fits b.entries && hash_fits b.previous && (length b.list == 3))
    (list_all entry_fits b.list) hashes.1 in
    let three = and_parts (hash_fits b.hash && hash_fits b.entries && hash_fits b.previous)
    (length b.list == 3) four.0 in
    let first = and_parts (hash_fits b.hash && hash_fits b.entries) (hash_fits b.previous) three.0 in
    let hash = and_parts (hash_fits b.hash) (hash_fits b.entries) first.0 in
    record { long = eqb-true (length b.hash.bytes) 32 hash.0; ranges = (parts_of b w).hash }

pub previous_is : (m : ℕ) (bs : List Block) → AllByRecursion IsWhole bs → IsDigest (last_hash m bs)
previous_is m bs w =
    last_hash_is IsDigest m bs (hash_of_is _) (all_like IsWhole (λ b. IsDigest b.hash) whole_digest bs w)

pub behind_is : (bs : List Block) (time : TimeParts) → AllByRecursion IsWhole bs → is_time time ≡ true
    → is_time (time_behind bs time) ≡ true
behind_is bs time w h =
    later_is (last_block bs) time h (λ b e. (parts_of b (last_is IsWhole bs b w e)).time)
