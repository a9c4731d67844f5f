-- What the store holds behind the lines of the blocks, after a call of the tail.
use Rattle.std.proofs.Common.{◌≡◌, ◌∙◌, ℕ, List, [], ◌∷◌, ◌++◌, append-nil, refl, sym, subst, inl, inr, Option, Some, None}
use Rattle.std.proofs.lemmas.List.Sums.{fold-append}
use Rattle.std.proofs.lemmas.List.Elements.{Contains-append_left, Contains-push}
use Rattle.ion_values.specs.declared.time.TimeParts.{TimeParts}
use Rattle.ql_types.specs.declared.Hash32.{Hash32}
use Rattle.ql_types.specs.declared.Place.{Place}
use Rattle.ledger_model.specs.declared.block.Block.{Block}
use Rattle.ledger_model.specs.Damages.{Undamaged}
use Rattle.laws_history.specs.Standings.{Standing}
use Rattle.laws_history.specs.Stores.{Holding}
use Rattle.laws_machine.specs.Entries.{Entry, begun_at, failed, wanted}
use Rattle.txn_core.specs.Opened.{Opened}
use Rattle.ledger_core.specs.declared.commit.CommitFault.{CommitFault}
use Rattle.ledger_core.specs.declared.commit.CommitFault.TheVariants.{Conflict, DigestDiffers, EndedTxn, JournalFull, OutOfMemory, StoreFault}
use Rattle.ledger_core.specs.Committing.{IsTried}
use Rattle.ledger_core.specs.Tails.{Leaves}
use Rattle.ledger_shared.specs.Calls.{refusal_of}
use Rattle.ledger_shared.specs.Rests.{HoldsRest, tried_behind, tried_in}
use Rattle.ledger_shared.proofs.Commits.{listed}

tried_push : (es : List Entry) (e : Entry) → tried_in (es ++ e ∷ []) ≡ tried_behind (tried_in es) e
tried_push es e = fold-append tried_behind [] es (e ∷ [])

module _ (first : Option (List ℕ)) (opened : List Block) where
  -- one entry more that came to no store
  rest_on : (now : Option (List ℕ)) (blocks : List Block) (es : List Entry) (e : Entry) → tried_behind (tried_in es) e ≡ tried_in es
      → HoldsRest first now opened blocks (tried_in es) → HoldsRest first now opened blocks (tried_in (es ++ e ∷ []))
  rest_on now blocks es e none h =
      subst (λ bs. HoldsRest first now opened blocks bs) (sym (tried_push es e ∙ none)) h

  pub rest_begun : (now : Option (List ℕ)) (blocks : List Block) (es : List Entry) (place : Place) (number since : ℕ)
      → HoldsRest first now opened blocks (tried_in es) → HoldsRest first now opened blocks (tried_in (es ++ begun_at place number since ∷ []))
  rest_begun now blocks es place number since h = rest_on now blocks es (begun_at place number since) refl h

  -- a block is sealed
  pub rest_sealed : (now : Option (List ℕ)) (blocks : List Block) (es : List Entry) → Holding blocks now
      → HoldsRest first now opened blocks (tried_in es)
  rest_sealed now blocks es h = inl h

  -- a commit came to the store with this block
  more_tried : (now : Option (List ℕ)) (blocks tried : List Block) (b : Block) → HoldsRest first now opened blocks tried
      → HoldsRest first now opened blocks (tried ++ b ∷ [])
  more_tried now blocks tried b (inl h) = inl h
  more_tried now blocks tried b (inr (inl h)) = inr (inl (h.0, h.1, Contains-append_left tried (b ∷ []) h.0 h.2, h.3, h.4))
  more_tried now blocks tried b (inr (inr h)) = inr (inr h)

  left_by : (before now : Option (List ℕ)) (blocks tried : List Block) (b : Block) → Undamaged (blocks ++ b ∷ []) → Leaves blocks (Some b) before now
      → HoldsRest first before opened blocks tried → HoldsRest first now opened blocks (tried ++ b ∷ [])
  left_by before now blocks tried b sound (inl same) h =
      more_tried now blocks tried b (subst (λ (x : Option (List ℕ)). HoldsRest first x opened blocks tried) (sym same) h)
  left_by before now blocks tried b sound (inr part) h = inr (inl (b, part.0, Contains-push tried b, part.1, sound))

  module _ (before now : Option (List ℕ)) (s : Standing) (es : List Entry) (h : HoldsRest first before opened s.blocks (tried_in es)) where
    rest_same : now ≡ before → HoldsRest first now opened s.blocks (tried_in es)
    rest_same same = subst (λ (x : Option (List ℕ)). HoldsRest first x opened s.blocks (tried_in es)) (sym same) h

    rest_none : now ≡ before → HoldsRest first now opened s.blocks (tried_in (es ++ []))
    rest_none same = subst (λ xs. HoldsRest first now opened s.blocks (tried_in xs)) (sym (append-nil es)) (rest_same same)

    rest_tried : (e : Entry) (b : Block) → tried_behind (tried_in es) e ≡ tried_in es ++ b ∷ [] → Undamaged (s.blocks ++ b ∷ [])
        → Leaves s.blocks (Some b) before now → HoldsRest first now opened s.blocks (tried_in (es ++ e ∷ []))
    rest_tried e b is sound left =
        subst (λ bs. HoldsRest first now opened s.blocks bs) (sym (tried_push es e ∙ is)) (left_by before now s.blocks (tried_in es) b sound left h)

    pub refused_rest : (t : Opened) (sent : Option Hash32) (is_told : TimeParts → Type 0) (number : ℕ) (f : CommitFault)
        (tried : Option Block) → IsTried s t sent is_told f tried → Leaves s.blocks tried before now
        → HoldsRest first now opened s.blocks (tried_in (es ++ listed (refusal_of number f tried)))
    refused_rest t sent is_told number EndedTxn None tries left = rest_none left
    refused_rest t sent is_told number EndedTxn (Some b) tries left = absurd tries
    refused_rest t sent is_told number (DigestDiffers mine given) None tries left = rest_none left
    refused_rest t sent is_told number (DigestDiffers mine given) (Some b) tries left = absurd tries
    refused_rest t sent is_told number (Conflict since found) None tries left = rest_none left
    refused_rest t sent is_told number (Conflict since found) (Some b) tries left = absurd tries
    refused_rest t sent is_told number (JournalFull many) None tries left = rest_none left
    refused_rest t sent is_told number (JournalFull many) (Some b) tries left = absurd tries
    refused_rest t sent is_told number (StoreFault count) None tries left = absurd tries
    refused_rest t sent is_told number (StoreFault count) (Some b) tries left = rest_tried (failed number count b) b refl tries.undamaged left
    refused_rest t sent is_told number OutOfMemory None tries left = rest_on now s.blocks es (wanted number None) refl (rest_same left)
    refused_rest t sent is_told number OutOfMemory (Some b) tries left = rest_tried (wanted number (Some b)) b refl tries.undamaged left
