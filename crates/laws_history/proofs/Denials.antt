-- What the rules deny is told.
use Rattle.std.proofs.Common.{◌≡◌, ◌∙◌, List, [], ◌∷◌, ◌++◌, Option, None, Some, IfSome, inl, inr, refl, sym, subst}
use Rattle.ledger_model.specs.declared.outcome.Outcome.{Outcome}
use Rattle.ledger_model.specs.declared.outcome.Outcome.TheVariants.{Committed, Conflict, Refused, DigestDiffers, StoreFault, JournalFull, IdsSpent, Aborted, Denied, OutOfMemory}
use Rattle.ledger_model.specs.declared.outcome.PlacedOutcome.{PlacedOutcome}
use Rattle.ledger_model.specs.declared.script.Denial.{Denial}
use Rattle.ledger_model.specs.Script.{Placed}
use Rattle.laws_history.specs.Records.{RunRecord, HasNoBlock}
use Rattle.laws_history.specs.Claims.{DenialsAreTold, EachHolds, EachTellsDenial, Holds, TellsDenial, denial_in}

module _ (t : RunRecord) (p : Placed) where
  -- of a job of which nothing is denied, nothing is to be told
  admitted : (x : Outcome) → denial_in x ≡ None → p.job.denied ≡ None → TellsDenial t p x
  admitted x none is = record {
    told = inr (none ∙ sym is);
    blockless = subst (λ (d : Option Denial). IfSome d (λ denial. HasNoBlock t p)) (sym is) tt;
  }

  if_some : (d : Option Denial) → HasNoBlock t p → IfSome d (λ denial. HasNoBlock t p)
  if_some None h = tt
  if_some (Some denial) h = h

  tells : (x : Outcome) → Holds t p x → TellsDenial t p x
  tells (Committed tx block) h = admitted (Committed tx block) refl h.admitted
  tells (Conflict tx since named) h = admitted (Conflict tx since named) refl h.admitted
  tells (Refused tx since statement cause) h = admitted (Refused tx since statement cause) refl h.admitted
  tells (DigestDiffers tx since mine given) h = admitted (DigestDiffers tx since mine given) refl h.admitted
  tells (StoreFault tx count) h = admitted (StoreFault tx count) refl (h.0).admitted
  tells (JournalFull tx blocks) h = admitted (JournalFull tx blocks) refl (h.0).admitted
  tells (IdsSpent last) h = admitted (IdsSpent last) refl h.admitted
  tells (Aborted tx since) h = admitted (Aborted tx since) refl h.admitted
  tells (Denied statement action table rule) h = record {
    told = inr (sym h.denied);
    blockless = if_some p.job.denied h.blockless;
  }
  tells OutOfMemory h = record { told = inl refl; blockless = if_some p.job.denied h }

each_tells : (t : RunRecord) (done : List PlacedOutcome) (ps : List Placed) (os : List PlacedOutcome) → EachHolds t done ps os
    → EachTellsDenial t ps os
each_tells t done [] [] h = tt
each_tells t done (p ∷ ps) (o ∷ os) h = (tells t p o.outcome h.1, each_tells t (done ++ o ∷ []) ps os h.3)
each_tells t done [] (o ∷ os) h = absurd h
each_tells t done (p ∷ ps) [] h = absurd h

pub denials_are_told : DenialsAreTold
denials_are_told t fits = each_tells t [] t.jobs t.outcomes fits.outcomes
