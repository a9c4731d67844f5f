-- The hashes in place of data and of statements that no block asks for, found block by block.
use Rattle.std.proofs.Common.{◌≡◌, ◌∙◌, ℕ, zero, suc, ◌+◌, ◌<◌, ◌≤◌, nat_lt, Bool, true, false, ◌||◌, List, [], ◌∷◌, ◌++◌, length, drop, get_or, Option, Some, None, if◌then◌else◌, inr, refl, sym, ap, arith, ⊎_elim}
use Rattle.std.specs.List.{list_any}
use Rattle.std.proofs.lemmas.Bool.{cases_Bool, le-ltb, ltb-false, ltb-true, or_parts}
use Rattle.ion_values.specs.declared.time.Precision.TheVariants.{Year}
use Rattle.ql_types.specs.declared.Hash32.{Hash32}
use Rattle.ledger_model.specs.declared.block.Block.{Block}
use Rattle.ledger_model.specs.declared.block.Told.TheVariants as told
use Rattle.ledger_model.specs.declared.damage.Damage.TheVariants as damage
use Rattle.ledger_model.specs.Damages.{strand_of, Undamaged}
use Rattle.ledger_model.specs.HashesAsked.{is_asked, redacts_any, unasked, unasked_from}
use Rattle.ledger_model.specs.Journal.{journal_bytes}
use Rattle.ledger_model.specs.Recovered.{IsDamaged}
use Rattle.journal_text.specs.declared.registry.Registry.{Registry}
use Rattle.journal_text.specs.Reading.{StandsBehind}
use Rattle.journal_text.specs.Stands.{Stands}
use Rattle.journal_text.proofs.Feeds.{NoFeed}
use Rattle.journal_text.proofs.Passes.{drop_end, opened}

wrong : false ≡ true → ⊥
wrong h = cc

pub or_nothing : (b : Bool) → (b || false) ≡ b
or_nothing true = refl
or_nothing false = refl

-- ---- the front, up to the last block that redacts anything

abbrev pub NoneBehind : List Block → ℕ → Type 0
NoneBehind blocks end = list_any redacts_any (drop end blocks) ≡ false

pub none_at_end : (blocks : List Block) (end : ℕ) → end ≡ length blocks → NoneBehind blocks end
none_at_end blocks end is = ap (list_any redacts_any) (drop_end blocks end (omega (arith, is)))

pub none_before : (blocks : List Block) (j end : ℕ) (b : Block) → end ≡ suc j → j < length blocks → b ≡ get_or blocks j b → redacts_any b ≡ false → NoneBehind blocks end
    → NoneBehind blocks j
none_before blocks j end b next within is fails none =
    ap (list_any redacts_any) (opened blocks j end b b next within is) ∙ ap (λ x. x || list_any redacts_any (drop end blocks)) fails ∙ none

none_later : (blocks : List Block) (n : ℕ) → list_any redacts_any blocks ≡ false → NoneBehind blocks n
none_later blocks zero h = h
none_later [] (suc n) h = refl
none_later (b ∷ bs) (suc n) h = none_later bs n (or_parts (redacts_any b) (list_any redacts_any bs) h).1

none_from : (blocks : List Block) (end n : ℕ) → end ≤ n → NoneBehind blocks end → NoneBehind blocks n
none_from blocks zero n h none = none_later blocks n none
none_from [] (suc end) n h none = none_later [] n refl
none_from (b ∷ bs) (suc end) zero h none = absurd (omega arith)
none_from (b ∷ bs) (suc end) (suc n) h none = none_from bs end n (omega arith) none

or_true : (b : Bool) → (b || true) ≡ true
or_true true = refl
or_true false = refl

some_from : (blocks : List Block) (n m : ℕ) (b : Block) → n ≤ m → m < length blocks → b ≡ get_or blocks m b → redacts_any b ≡ true → list_any redacts_any (drop n blocks) ≡ true
some_from [] n m b h within is holds = absurd (omega arith)
some_from (a ∷ bs) zero zero b h within is holds =
    ap (λ x. x || list_any redacts_any bs) (sym (ap (λ (x : Block). redacts_any x) is) ∙ holds)
some_from (a ∷ bs) zero (suc m) b h within is holds = ap (λ x. redacts_any a || x) (some_from bs zero m b (omega arith) (omega arith) is holds) ∙ or_true (redacts_any a)
some_from (a ∷ bs) (suc n) zero b h within is holds = absurd (omega arith)
some_from (a ∷ bs) (suc n) (suc m) b h within is holds = some_from bs n m b (omega arith) (omega arith) is holds

-- no block is left, or the last that is left redacts a revision
pub front_none : (blocks : List Block) (end : ℕ) → end ≤ 0 → NoneBehind blocks end → (n : ℕ) → nat_lt n end ≡ list_any redacts_any (drop n blocks)
front_none blocks end h none n = le-ltb n end (omega arith) ∙ sym (none_from blocks end n (omega arith) none)

pub front_here : (blocks : List Block) (m end : ℕ) (b : Block) → end ≡ suc m → m < length blocks → b ≡ get_or blocks m b → redacts_any b ≡ true → NoneBehind blocks end
    → (n : ℕ) → nat_lt n end ≡ list_any redacts_any (drop n blocks)
front_here blocks m end b next within is holds none n =
    ⊎_elim (λ (y : nat_lt n end ≡ true). let less = ltb-true n end y in y ∙ sym (some_from blocks n m b (omega (arith, less, next)) within is holds))
    (λ (f : nat_lt n end ≡ false). f ∙ sym (none_from blocks end n (ltb-false n end f) none)) (cases_Bool (nat_lt n end))

-- ---- the blocks one by one

-- what comes of the blocks that are left comes of all
abbrev pub SameFirst : List Block → ℕ → Type 0
SameFirst blocks at = unasked_from blocks at (drop at blocks) ≡ unasked blocks

asked_opened : (blocks : List Block) (i j : ℕ) (b : Block) → j ≡ suc i → i < length blocks → b ≡ get_or blocks i b
    → unasked_from blocks i (drop i blocks) ≡ (if is_asked blocks b (drop j blocks) then unasked_from blocks j (drop j blocks) else Some i)
asked_opened blocks i j b next within is =
    let e : i + 1 ≡ j = omega (arith, next) in
    ap (unasked_from blocks i) (opened blocks i j b b next within is)
    ∙ ap (λ n. if is_asked blocks b (drop j blocks) then unasked_from blocks n (drop j blocks) else Some i) e

pub first_next : (blocks : List Block) (i j : ℕ) (b : Block) → j ≡ suc i → i < length blocks → b ≡ get_or blocks i b → SameFirst blocks i
    → is_asked blocks b (drop j blocks) ≡ true → SameFirst blocks j
first_next blocks i j b next within is before holds =
    sym (ap (λ x. if x then unasked_from blocks j (drop j blocks) else Some i) holds) ∙ sym (asked_opened blocks i j b next within is) ∙ before

pub first_here : (blocks : List Block) (i j : ℕ) (b : Block) → j ≡ suc i → i < length blocks → b ≡ get_or blocks i b → SameFirst blocks i
    → is_asked blocks b (drop j blocks) ≡ false → Some i ≡ unasked blocks
first_here blocks i j b next within is before fails =
    sym (ap (λ x. if x then unasked_from blocks j (drop j blocks) else Some i) fails) ∙ sym (asked_opened blocks i j b next within is) ∙ before

pub first_none : (blocks : List Block) (i : ℕ) → length blocks ≤ i → SameFirst blocks i → None ≡ unasked blocks
first_none blocks i passed before = sym (ap (unasked_from blocks i) (drop_end blocks i passed)) ∙ before

-- the block at a place is in the front exactly where it or a later one redacts a revision
pub in_front : (blocks : List Block) (i j end : ℕ) (b : Block) → j ≡ suc i → i < length blocks → b ≡ get_or blocks i b
    → ((n : ℕ) → nat_lt n end ≡ list_any redacts_any (drop n blocks)) → nat_lt i end ≡ list_any redacts_any (b ∷ drop j blocks)
in_front blocks i j end b next within is front = front i ∙ ap (list_any redacts_any) (opened blocks i j b b next within is)

-- ---- a registry behind the blocks

no_hash : Hash32
no_hash = record { bytes = [] }

-- any block, for the strand of a journal that has none
some_block : Block
some_block = record {
  header = record {
    address = record { strand = record { raw = 0 }; sequence = 0 };
    tx = record { raw = 0 };
    time = record {
      precision = Year;
      year = 0;
      month = 0;
      day = 0;
      hour = 0;
      minute = 0;
      second = 0;
      digits = 0;
      nanos = 0;
      offset = None;
    };
    revisions = 0;
  };
  hash = no_hash;
  entries = no_hash;
  previous = no_hash;
  list = [];
  info = record { place = record { session = 0; transaction = 0 }; said = told.Hashed no_hash; schema = []; tables = [] };
  revisions = [];
}

pub told_behind : (blocks : List Block) (r : Registry) (o : Option ℕ) → StandsBehind blocks r → ((strand : ℕ) → Stands strand blocks r → o ≡ unasked blocks) → o ≡ unasked blocks
told_behind blocks r o h tells = tells (strand_of blocks some_block) (h some_block)

-- ---- what the bytes hold

pub unasked_bytes : (blocks : List Block) (rest : List ℕ) (sequence : ℕ) → Undamaged blocks → NoFeed rest → unasked blocks ≡ Some sequence
    → IsDamaged (journal_bytes blocks ++ rest) sequence damage.Unasked
unasked_bytes blocks rest sequence u torn first = inr (refl, record { blocks = blocks; rest = rest; lines = refl; torn = torn; undamaged = u; first = first })
