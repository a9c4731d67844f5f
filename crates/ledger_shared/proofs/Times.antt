-- The times of the blocks that entries carry, as the clock goes on.
use Rattle.std.proofs.Common.{◌++◌, ◌∙◌, ℤ, List, [], ◌∷◌, append_assoc, sym, ap, Option, Some, None}
use Rattle.std.proofs.lemmas.List.Elements.{Contains-append_left, Contains-push}
use Rattle.ion_values.specs.declared.time.TimeParts.{TimeParts}
use Rattle.ledger_model.specs.declared.block.Block.{Block}
use Rattle.outside.specs.Clocks.{AddsAnswer}
use Rattle.turn_lock.proofs.Lists.{prefix_self, prefix_trans}
use Rattle.laws_machine.specs.Entries.{Entry, Reach, begun_at, comes, failed, reached, sealed, wanted}
use Rattle.ledger_core.specs.Committing.{IsAnswer}
use Rattle.ledger_shared.specs.Behind.{AreTimed, GaveBetween, GoesOn, HasTimeOf, IsTimeOf, IsTimed}

-- ---- what a clock tells goes on

pub goes_same : (told : Option (List ℤ)) → GoesOn told told
goes_same None = tt
goes_same (Some xs) = prefix_self xs

pub goes_far : (a b c : Option (List ℤ)) → GoesOn a b → GoesOn b c → GoesOn a c
goes_far a b None p q = tt
goes_far a None (Some zs) p q = absurd q
goes_far None (Some ys) (Some zs) p q = absurd p
goes_far (Some xs) (Some ys) (Some zs) p q = prefix_trans xs ys zs p q

pub answer_goes : (before now : Option (List ℤ)) (answer : ℤ) → AddsAnswer before now answer → GoesOn before now
answer_goes before None answer h = tt
answer_goes None (Some ys) answer h = absurd h
answer_goes (Some xs) (Some ys) answer h = (answer ∷ [], sym h)

-- ---- the answers that it gave

gave_later : (before now later : Option (List ℤ)) (answer : ℤ) → GoesOn now later → GaveBetween before now answer
    → GaveBetween before later answer
gave_later before now None answer q h = tt
gave_later before None (Some zs) answer q h = absurd q
gave_later None (Some ys) (Some zs) answer q h = absurd h
gave_later (Some xs) (Some ys) (Some zs) answer q h = (
  h.0 ++ q.0,
  sym q.1 ∙ ap (λ es. es ++ q.0) h.1 ∙ append_assoc xs h.0 q.0,
  Contains-append_left h.0 q.0 answer h.2,
)

gave_now : (before middle now : Option (List ℤ)) (answer : ℤ) → GoesOn before middle → AddsAnswer middle now answer
    → GaveBetween before now answer
gave_now before middle None answer p h = tt
gave_now before None (Some zs) answer p h = absurd h
gave_now None (Some ys) (Some zs) answer p h = absurd p
gave_now (Some xs) (Some ys) (Some zs) answer p h = (
  p.0 ++ answer ∷ [],
  h ∙ ap (λ es. es ++ answer ∷ []) (sym p.1) ∙ append_assoc xs p.0 (answer ∷ []),
  Contains-push p.0 answer,
)

pub time_later : (always : Option ℤ) (before now later : Option (List ℤ)) (time : TimeParts) → GoesOn now later
    → IsTimeOf always before now time → IsTimeOf always before later time
time_later always before now later time q h = record {
  answer = h.answer;
  one = h.one;
  among = gave_later before now later h.answer q h.among;
  begins = h.begins;
}

pub time_now : (always : Option ℤ) (before middle now : Option (List ℤ)) (time : TimeParts) → GoesOn before middle
    → IsAnswer middle now always time → IsTimeOf always before now time
time_now always before middle now time p h = record {
  answer = h.answer;
  one = h.one;
  among = gave_now before middle now h.answer p h.adds;
  begins = h.begins;
}

-- ---- the entries

module _ (P Q : TimeParts → Type 0) (weaker : (time : TimeParts) → P time → Q time) where
  has_time_so : (before : List Block) (b : Block) → HasTimeOf P before b → HasTimeOf Q before b
  has_time_so before b h = record { time = h.time; among = weaker h.time h.among; is = h.is }

  is_timed_so : (before : List Block) (e : Entry) → IsTimed P before e → IsTimed Q before e
  is_timed_so before (begun_at place number since) h = tt
  is_timed_so before (sealed number block) h = has_time_so before block h
  is_timed_so before (failed number count block) h = has_time_so before block h
  is_timed_so before (wanted number None) h = tt
  is_timed_so before (wanted number (Some block)) h = has_time_so before block h

  pub timed_so : (r : Reach) (es : List Entry) → AreTimed P r es → AreTimed Q r es
  timed_so r [] h = tt
  timed_so r (e ∷ es) h = (is_timed_so r.blocks e h.0, timed_so (comes r e) es h.1)

pub timed_push : (P : TimeParts → Type 0) (r : Reach) (es : List Entry) (e : Entry) → AreTimed P r es → IsTimed P (reached r es).blocks e
    → AreTimed P r (es ++ e ∷ [])
timed_push P r [] e h one = (one, tt)
timed_push P r (x ∷ es) e h one = (h.0, timed_push P (comes r x) es e h.1 one)

-- the last entry's block has one of these times
pub timed_last : (P : TimeParts → Type 0) (r : Reach) (es : List Entry) (e : Entry) → AreTimed P r (es ++ e ∷ [])
    → IsTimed P (reached r es).blocks e
timed_last P r [] e h = h.0
timed_last P r (x ∷ es) e h = timed_last P (comes r x) es e h.1
