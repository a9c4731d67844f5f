-- What an undamaged journal's blocks tell of its transactions and its state.
use Rattle.std.proofs.Common.{◌≡◌, ◌∙◌, ℕ, ◌+◌, ◌^◌, ◌<◌, max, Bool, true, false, not, List, [], ◌∷◌, ◌++◌, append-nil, refl, sym, ap, subst, arith, Some, None, if◌then◌else◌}
use Rattle.std.proofs.lemmas.Bool.{and_parts, ltb-true}
use Rattle.std.proofs.lemmas.List.Concat.{flat_map-append}
use Rattle.ql_types.specs.Ids.{transaction_in}
use Rattle.ledger_model.specs.declared.block.Block.{Block}
use Rattle.ledger_model.specs.declared.damage.Damage.TheVariants.{WrongAddress, WrongId, TimeFell, WrongPrevious, WrongHash, WrongState}
use Rattle.ledger_model.specs.Journal.{line, journal_bytes}
use Rattle.ledger_model.specs.State.{State, state, state_from, after}
use Rattle.ledger_model.specs.Damages.{damage_behind, has_address, has_id, has_time, has_previous, has_hashes, strand_of, UndamagedBehind, Undamaged}
use Rattle.ledger_model.specs.HashesAsked.{AreAsked}
use Rattle.ledger_model.specs.Follows.{follows_blocks}
use Rattle.laws_history.specs.Standings.{IsStanding}
use Rattle.laws_history.specs.Records.{greatest, mask_of}

-- ---- numbers

id-passes : (a i t p h f : Bool)
    → (if not a then Some WrongAddress else if not i then Some WrongId else if not t then Some TimeFell
    else if not p then Some WrongPrevious else if not h then Some WrongHash else if not f then Some WrongState else None) ≡ None
    → i ≡ true
id-passes true true t p h f e = refl
id-passes true false t p h f e = cc
id-passes false i t p h f e = cc

number-bounded : (strand : ℕ) (before : List Block) (b : Block) → has_id strand before b ≡ true → transaction_in strand b.header.tx.raw < 2 ^ 64
number-bounded strand before b h =
    let front = and_parts _ _ (and_parts _ _ h).0 in ltb-true _ _ (and_parts _ _ front.0).1

undamaged-bounded : (before : List Block) (b : Block) → damage_behind before b ≡ None → transaction_in (strand_of before b) b.header.tx.raw < 2 ^ 64
undamaged-bounded before b e =
    let strand = strand_of before b in
    number-bounded strand before b
    (id-passes (has_address strand before b) (has_id strand before b) (has_time before b) (has_previous strand before b) (has_hashes b) (follows_blocks strand before b) e)

both-below : (m n : ℕ) → m < 2 ^ 64 → n < 2 ^ 64 → max m n < 2 ^ 64
both-below m n p q = omega arith

none-below : 0 < 2 ^ 64
none-below = omega arith

bounded-behind : (c : Block) (cs bs : List Block) → UndamagedBehind (c ∷ cs) bs → greatest c.header.address.strand.raw bs < 2 ^ 64
bounded-behind c cs [] u = none-below
bounded-behind c cs (b ∷ bs) u = both-below _ _ (undamaged-bounded (c ∷ cs) b u.1) (bounded-behind c (cs ++ b ∷ []) bs u.2)

bounded : (given : ℕ) (blocks : List Block) → Undamaged blocks → greatest (mask_of given blocks) blocks < 2 ^ 64
bounded given [] u = none-below
bounded given (b ∷ bs) u = both-below _ _ (undamaged-bounded [] b u.1) (bounded-behind b [] bs u.2)

own-mask : (given : ℕ) (blocks : List Block) → mask_of (mask_of given blocks) blocks ≡ mask_of given blocks
own-mask given [] = refl
own-mask given (b ∷ bs) = refl

standing : (given mask last : ℕ) (blocks : List Block) → Undamaged blocks → AreAsked blocks → mask ≡ mask_of given blocks → last ≡ greatest mask blocks → greatest mask blocks < 2 ^ 64
    → IsStanding (record { mask = mask; last = last; blocks = blocks })
standing given mask last blocks u a m l below = record {
  undamaged = u;
  asked = a;
  strand = ap (λ n. mask_of n blocks) m ∙ own-mask given blocks ∙ sym m;
  drawn = omega (arith, l);
  counted = omega (arith, l, below);
}

-- what is known of a standing, where the last number is the greatest one if that one fits
pub known : (given mask last : ℕ) (blocks : List Block) → Undamaged blocks → AreAsked blocks → mask ≡ mask_of given blocks → (greatest mask blocks < 2 ^ 64 → last ≡ greatest mask blocks)
    → IsStanding (record { mask = mask; last = last; blocks = blocks }) × (last ≡ greatest mask blocks)
known given mask last blocks u a m l =
    let below : greatest mask blocks < 2 ^ 64 = subst (λ (n : ℕ). greatest n blocks < 2 ^ 64) (sym m) (bounded given blocks u) in
    (standing given mask last blocks u a m (l below) below, l below)

-- ---- one block more

state_from-more : (s : State) (bs : List Block) (b : Block) → state_from s (bs ++ b ∷ []) ≡ after (state_from s bs) b
state_from-more s [] b = refl
state_from-more s (c ∷ cs) b = state_from-more (after s c) cs b

pub state-more : (blocks : List Block) (b : Block) → state (blocks ++ b ∷ []) ≡ after (state blocks) b
state-more blocks b = state_from-more _ blocks b

pub journal-more : (blocks : List Block) (b : Block) → journal_bytes (blocks ++ b ∷ []) ≡ journal_bytes blocks ++ line b
journal-more blocks b = flat_map-append line blocks (b ∷ []) ∙ ap (λ z. journal_bytes blocks ++ z) (append-nil (line b))
