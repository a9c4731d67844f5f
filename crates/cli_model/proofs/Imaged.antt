-- What a stop of the machine leaves of the journal after a run.
use Rattle.std.proofs.Common.{◌≡◌, ◌∙◌, ℕ, Bool, List, [], ◌∷◌, ◌++◌, append-nil, append_assoc, length, take, drop, sym, ap, subst, inl, inr, Option, Some, None}
use Rattle.std.specs.Prelude.{IfSome, option_map}
use Rattle.std.proofs.lemmas.List.{take-append-drop}
use mathlib.Core.List.{IsPrefix}
use Rattle.ledger_model.specs.declared.block.Block.{Block}
use Rattle.ledger_model.specs.Damages.{Undamaged}
use Rattle.ledger_model.specs.HashesAsked.{AreAsked}
use Rattle.ledger_model.specs.Recovered.{IsJournal}
use Rattle.outside.specs.Told.{StoreTold}
use Rattle.outside.specs.Store.{Content, moment_of}
use Rattle.laws_crash.specs.Pending.{ImagesAre, NothingPending}
use Rattle.laws_crash.specs.Sound.{IsSound, Recovers, RecoversAlone, SafeRecovers}
use Rattle.laws_crash.proofs.Images.{quiet_leaves_all}
use Rattle.laws_history.specs.Calls.{Span}
use Rattle.laws_history.specs.Stores.{HasJournal}
use Rattle.cli_model.specs.Images.{IsStill, RecoverAlone, RecoverFrom, RecoversFrom}

-- ---- the content is as at entry

still_from : (blocks : List Block) (content : Option Content) → IfSome content NothingPending
    → HasJournal blocks (option_map (λ c. c.bytes) content) → IfSome content (λ c. ImagesAre (RecoversFrom blocks) (moment_of c))
still_from blocks None quiet has = tt
still_from blocks (Some c) quiet has = λ image is. record {
  blocks = blocks;
  rest = has.0;
  is_journal = subst (λ (bytes : List ℕ). IsJournal bytes blocks has.0) (sym (quiet_leaves_all c quiet image is)) has.1;
  begins = ([], append-nil blocks);
}

pub stays_still : (store : Span StoreTold) → store.after.content ≡ store.before.content → IsStill store
stays_still store same = record {
  content = same;
  leaves = λ blocks has rest.
      subst (λ (content : Option Content). IfSome content (λ c. ImagesAre (RecoversFrom blocks) (moment_of c))) (sym same)
      (still_from blocks store.before.content rest has);
}

-- ---- a run

pub begins_by : (before after : List Block) → take (length before) after ≡ before → IsPrefix before after
begins_by before after is = (
  drop (length before) after,
  ap (λ (bs : List Block). bs ++ drop (length before) after) (sym is) ∙ take-append-drop (length before) after,
)

-- the blocks alone begin with those before
from_alone : (before after : List Block) → IsPrefix before after → (content : Option Content)
    → IfSome content (λ c. ImagesAre (RecoversAlone after) (moment_of c)) → IfSome content (λ c. ImagesAre (RecoversFrom before) (moment_of c))
from_alone before after begins None h = tt
from_alone before after begins (Some c) h = λ image is.
    record { blocks = after; rest = []; is_journal = h image is; begins = begins }

pub alone_from : (before after : List Block) (store : StoreTold) → take (length before) after ≡ before → RecoverAlone after store
    → RecoverFrom before store
alone_from before after store is h = from_alone before after (begins_by before after is) store.content h

-- so do the blocks with one that was tried
recovers_from : (before blocks tried : List Block) (image : List ℕ) → IsPrefix before blocks → Recovers blocks tried image
    → RecoversFrom before image
recovers_from before blocks tried image begins (inl h) =
    record { blocks = blocks; rest = h.0; is_journal = h.1; begins = begins }
recovers_from before blocks tried image begins (inr h) = record {
  blocks = blocks ++ h.0 ∷ [];
  rest = [];
  is_journal = h.2;
  begins = (
    begins.0 ++ h.0 ∷ [],
    sym (append_assoc before begins.0 (h.0 ∷ [])) ∙ ap (λ (bs : List Block). bs ++ h.0 ∷ []) begins.1,
  );
}

pub sound_from : SafeRecovers → (before blocks tried : List Block) (marked : Bool) (content : Option Content) → take (length before) blocks ≡ before
    → Undamaged blocks → AreAsked blocks → IfSome content (IsSound blocks tried marked) → IfSome content (λ c. ImagesAre (RecoversFrom before) (moment_of c))
sound_from law before blocks tried marked None is undamaged asked h = tt
sound_from law before blocks tried marked (Some c) is undamaged asked h = λ image here.
    recovers_from before blocks tried image (begins_by before blocks is) (law blocks tried (moment_of c) undamaged asked h.safe image here)
