-- The tail of an empty journal.
use Rattle.std.proofs.Common.{◌≡◌, ℕ, ◌+◌, Bool, List, [], ◌∷◌, ◌++◌, length, length-append, ℤ, refl, sym, ap, subst, ◌∙◌, arith}
use Rattle.ion_model.specs.Write.{value_text}
use Rattle.ledger_model.specs.declared.block.Block.{Block}
use Rattle.ledger_model.specs.Journal.{block_value, journal_bytes, line}
use Rattle.laws_history.specs.Standings.{Standing}
use Rattle.laws_history.specs.Records.{greatest, mask_of}
use Rattle.outside.specs.Clocks.{ClockHeld}
use Rattle.outside.specs.FailPlan.{FailPlan}
use Rattle.outside.specs.StoreForms.{StoreHeld, store_of}
use Rattle.journal_reader.specs.Loads.{IsRead}
use Rattle.interleavings.specs.Desks.{MemoryTail}
use Rattle.interleavings.specs.Runs.{IsFresh}
use Rattle.interleavings.proofs.Running.{joined}

line_some : (b : Block) (rest : List ℕ) → [] ≡ line b ++ rest → ⊥
line_some b rest e =
    let front : length (line b) ≡ length (value_text (block_value b)) + 1 = length-append (value_text (block_value b)) (10 ∷ []) in
    let long : length (line b ++ rest) ≡ length (line b) + length rest = length-append (line b) rest in
    let none : 0 ≡ length (line b ++ rest) = ap length e in
    omega (arith, front, long, none)

none_held : (blocks : List Block) (rest : List ℕ) → [] ≡ journal_bytes blocks ++ rest → blocks ≡ []
none_held [] rest e = refl
none_held (b ∷ bs) rest e = absurd (line_some b (journal_bytes bs ++ rest) (e ∙ joined (line b) (journal_bytes bs) rest))

abbrev made : ℕ → ℕ → List Block → Standing
made mask last blocks = record { mask = mask; last = last; blocks = blocks }

-- what is loaded from a store without a byte
standing_none : (s : Standing) (bytes : List ℕ) (marked : Bool) → bytes ≡ [] → IsRead bytes s.blocks marked → s.mask ≡ mask_of 0 s.blocks
    → s.last ≡ greatest s.mask s.blocks → s ≡ made 0 0 []
standing_none s bytes marked is read mask last =
    let none : s.blocks ≡ [] = none_held s.blocks read.0 (sym is ∙ read.1.lines) in
    let no_mask : s.mask ≡ 0 = mask ∙ ap (λ bs. mask_of 0 bs) none in
    let no_last : s.last ≡ 0 = last ∙ ap (λ bs. greatest s.mask bs) none in
    ap (λ m. made m s.last s.blocks) no_mask ∙ ap (λ n. made 0 n s.blocks) no_last ∙ ap (λ bs. made 0 0 bs) none

-- a clock that is set to these times and wasn't asked
clock_set : (times held : List ℤ) (clock set : ClockHeld) → clock ≡ set → set ≡ record { times = held; calls = 0 } → held ≡ times
    → clock ≡ record { times = times; calls = 0 }
clock_set times held clock set same is all = subst (λ (l : List ℤ). clock ≡ record { times = l; calls = 0 }) all (same ∙ is)

pub fresh : (t : MemoryTail) (times held : List ℤ) (store : StoreHeld) (plan : FailPlan) (bytes : List ℕ) (set : ClockHeld) → store ≡ store_of bytes plan → bytes ≡ []
    → IsRead store.content.bytes t.standing.blocks t.marked → t.standing.mask ≡ mask_of 0 t.standing.blocks
    → t.standing.last ≡ greatest t.standing.mask t.standing.blocks → t.clock ≡ set → set ≡ record { times = held; calls = 0 } → held ≡ times
    → IsFresh times t
fresh t times held store plan bytes set is none read mask last same set_is all =
    let empty : store.content.bytes ≡ [] = ap (λ (s : StoreHeld). s.content.bytes) is ∙ none in
    record {
      standing = standing_none t.standing store.content.bytes t.marked empty read mask last;
      clock = clock_set times held t.clock set same set_is all;
    }
