-- Rows of entries that are a run, and of others that aren't.
use Rattle.std.proofs.Common.{◌≡◌, ◌≤◌, ◌<◌, ℕ, [], ◌∷◌, None, inl, inr, arith, refl}
use Rattle.ql_types.specs.declared.Place.{Place}
use Rattle.ledger_model.specs.declared.block.Block.{Block}
use Rattle.laws_machine.specs.Entries.{IsRun, Opening, begun_at, entries, failed, wanted}
use Rattle.laws_machine.specs.Machine.{Machine, abort, begin, opened}

abbrev at : ℕ → Place
at n = record { session = n; transaction = 1 }

abbrev empty : Machine
empty = opened 5 []

begun_entries : entries (begin (at 1) ∷ begin (at 2) ∷ abort 1 ∷ begin (at 3) ∷ []) empty
    ≡ begun_at (at 1) 1 0 ∷ begun_at (at 2) 2 0 ∷ begun_at (at 3) 3 0 ∷ []
begun_entries = refl

abbrev opening : Opening
opening = record { mask = 5; blocks = []; last = 0; count = 0 }

a_run : IsRun opening 0 (begun_at (at 1) 1 0 ∷ begun_at (at 2) 2 0 ∷ wanted 1 None ∷ begun_at (at 3) 3 0
    ∷ wanted 3 None ∷ [])
a_run = record {
  run = (
    (refl, refl),
    (
      (refl, refl),
      (
        record { place = at 1; unused = inr (inl refl) },
        ((refl, refl), (record { place = at 3; unused = inl refl }, tt)),
      ),
    ),
  );
  counts = omega arith;
}

-- a number is left out
with_gap : (now : ℕ) → IsRun opening now (begun_at (at 1) 2 0 ∷ []) → ⊥
with_gap now h = let gap : 2 ≡ 1 = h.run.0.0 in omega (arith, gap)

-- a begin that sees a block which doesn't stand
unseen : (now : ℕ) → IsRun opening now (begun_at (at 1) 1 1 ∷ []) → ⊥
unseen now h = let sees : 1 ≡ 0 = h.run.0.1 in omega (arith, sees)

unbegun : (now : ℕ) → IsRun opening now (wanted 1 None ∷ []) → ⊥
unbegun now h = h.run.0.unused

used_twice : (now : ℕ) → IsRun opening now (begun_at (at 1) 1 0 ∷ wanted 1 None ∷ wanted 1 None ∷ []) → ⊥
used_twice now h = h.run.1.1.0.unused

-- a count that doesn't rise, and one above the store's
same_count : (now : ℕ) (b c : Block)
    → IsRun opening now (begun_at (at 1) 1 0 ∷ begun_at (at 2) 2 0 ∷ failed 1 3 b ∷ failed 2 3 c ∷ []) → ⊥
same_count now b c h = let rose : 3 < 3 = h.run.1.1.1.0.1 in omega (arith, rose)

count_to_come : (b : Block) → IsRun opening 2 (begun_at (at 1) 1 0 ∷ failed 1 3 b ∷ []) → ⊥
count_to_come b h = let low : 3 ≤ 2 = h.counts in omega (arith, low)
