-- The times of the blocks that entries carry, after a call of the tail.
use Rattle.std.proofs.Common.{◌≡◌, ◌∙◌, ℕ, ℤ, List, [], ◌∷◌, ◌++◌, append-nil, sym, ap, subst, inl, inr, ◌⊎◌, Option, Some, None}
use Rattle.ion_values.specs.declared.time.TimeParts.{TimeParts}
use Rattle.ql_types.specs.declared.Hash32.{Hash32}
use Rattle.ledger_model.specs.declared.block.Block.{Block}
use Rattle.ledger_model.specs.Making.{time_behind}
use Rattle.laws_history.specs.Standings.{Standing}
use Rattle.laws_machine.specs.Entries.{Entry, Opening, failed, reach_at, wanted}
use Rattle.laws_history.specs.Seen.{blocks_in}
use Rattle.txn_core.specs.Opened.{Opened}
use Rattle.ledger_core.specs.declared.commit.CommitFault.{CommitFault}
use Rattle.ledger_core.specs.declared.commit.CommitFault.TheVariants.{Conflict, DigestDiffers, EndedTxn, JournalFull, OutOfMemory, StoreFault}
use Rattle.ledger_core.specs.Committing.{ComesTo, IsAnswer, IsTried}
use Rattle.ledger_core.specs.Tails.{TailHeld}
use Rattle.ledger_shared.specs.Behind.{GoesOn, HasTimeOf, HasTimes, IsTimeOf, IsTimed}
use Rattle.ledger_shared.specs.Calls.{refusal_of}
use Rattle.ledger_shared.proofs.Commits.{listed}
use Rattle.ledger_shared.proofs.Times.{answer_goes, goes_far, goes_same, time_later, time_now, timed_push, timed_so}

-- the clock that was asked once, or wasn't, goes on
pub asked_goes : {S C : Type 0} (answers : C → Option (List ℤ)) (always : C → Option ℤ) (tail now : TailHeld S C)
    → (now ≡ tail) ⊎ ((time : TimeParts) × IsAnswer (answers tail.clock) (answers now.clock) (always tail.clock) time)
    → GoesOn (answers tail.clock) (answers now.clock)
asked_goes {S} {C} answers always tail now (inl same) =
    subst (λ (x : TailHeld S C). GoesOn (answers tail.clock) (answers x.clock)) (sym same) (goes_same (answers tail.clock))
asked_goes {S} {C} answers always tail now (inr (time, told)) = answer_goes (answers tail.clock) (answers now.clock) told.answer told.adds

module _ (always later : Option ℤ) (before now last : Option (List ℤ)) (o : Opening) (es : List Entry)
    (h : HasTimes always later before now o es) (goes : GoesOn now last) where
  pub times_still : HasTimes always later before last o es
  times_still = record {
    always_is = h.always_is;
    goes_on = goes_far before now last h.goes_on goes;
    timed = timed_so (IsTimeOf always before now) (IsTimeOf always before last) (λ time. time_later always before now last time goes)
        (reach_at o) es h.timed;
  }

  pub times_push : (e : Entry) → IsTimed (IsTimeOf always before last) (blocks_in o es) e → HasTimes always later before last o (es ++ e ∷ [])
  times_push e one = record {
    always_is = h.always_is;
    goes_on = times_still.goes_on;
    timed = timed_push (IsTimeOf always before last) (reach_at o) es e times_still.timed one;
  }

  module _ (s : Standing) (t : Opened) (sent : Option Hash32) (blocks : s.blocks ≡ blocks_in o es) where
    pub made_timed : (b : Block) → ComesTo s t sent (IsAnswer now last later) b → HasTimeOf (IsTimeOf always before last) (blocks_in o es) b
    made_timed b r = record {
      time = r.time;
      among = time_now always before now last r.time h.goes_on
          (subst (λ (a : Option ℤ). IsAnswer now last a r.time) h.always_is r.is_told);
      is = ap (λ (x : Block). x.header.time) r.block_is ∙ ap (λ bs. time_behind bs r.time) blocks;
    }

    none_timed : HasTimes always later before last o (es ++ [])
    none_timed = subst (λ xs. HasTimes always later before last o xs) (sym (append-nil es)) times_still

    pub refused_timed : (number : ℕ) (f : CommitFault) (tried : Option Block) → IsTried s t sent (IsAnswer now last later) f tried
        → HasTimes always later before last o (es ++ listed (refusal_of number f tried))
    refused_timed number EndedTxn None tries = none_timed
    refused_timed number EndedTxn (Some b) tries = absurd tries
    refused_timed number (DigestDiffers mine given) None tries = none_timed
    refused_timed number (DigestDiffers mine given) (Some b) tries = absurd tries
    refused_timed number (Conflict since found) None tries = none_timed
    refused_timed number (Conflict since found) (Some b) tries = absurd tries
    refused_timed number (JournalFull many) None tries = none_timed
    refused_timed number (JournalFull many) (Some b) tries = absurd tries
    refused_timed number (StoreFault count) None tries = absurd tries
    refused_timed number (StoreFault count) (Some b) tries = times_push (failed number count b) (made_timed b tries)
    refused_timed number OutOfMemory None tries = times_push (wanted number None) tt
    refused_timed number OutOfMemory (Some b) tries = times_push (wanted number (Some b)) (made_timed b tries)
