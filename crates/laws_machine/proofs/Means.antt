-- The block that a transaction becomes is what its statements mean, and a history with it is a history.
use Rattle.std.proofs.Common.{◌≡◌, ◌∙◌, ℕ, List, [], ◌∷◌, ◌++◌, map, refl, ap}
use Rattle.ion_values.specs.declared.time.TimeParts.{TimeParts}
use Rattle.ql_types.specs.declared.Place.{Place}
use Rattle.ledger_model.specs.declared.block.Block.{Block}
use Rattle.ledger_model.specs.declared.block.Draft.{Draft}
use Rattle.ledger_model.specs.declared.block.Header.{Header}
use Rattle.ledger_model.specs.declared.script.Request.{Request}
use Rattle.ledger_model.specs.Legal.{LegalFrom, Means}
use Rattle.ledger_model.specs.Making.{block_of, header_of, revision_of}
use Rattle.ledger_model.specs.Run.{Begun, Progress, final_revisions, ran, run}
use Rattle.ledger_model.specs.State.{State, after, draft_of, recorded_in, state, state_from}
use Rattle.ledger_model.proofs.SaidLemmas.{said_of_run}

drafts_again : (h : Header) (ds : List Draft)
    → map draft_of (recorded_in (map (λ d. d.table) ds) (map (revision_of h) ds)) ≡ ds
drafts_again h [] = refl
drafts_again h (d ∷ ds) = ap (λ xs. d ∷ xs) (drafts_again h ds)

pub block_means : (b : Begun) (before : List Block) (place : Place) (time : TimeParts) (p : Progress)
    (asked : List Request)
    → run b (state before) asked ≡ ran p → Means b.mask (state before) (block_of b before place time p)
block_means b before place time p asked all = record {
  number = b.number;
  progress = p;
  id = refl;
  runs = ap (run b (state before)) (said_of_run b (state before) asked p all) ∙ all;
  said = refl;
  schema = refl;
  revisions = drafts_again (header_of b before time (final_revisions p)) (final_revisions p);
}

pub state_append : (s : State) (xs ys : List Block) → state_from s (xs ++ ys) ≡ state_from (state_from s xs) ys
state_append s [] ys = refl
state_append s (x ∷ xs) ys = state_append (after s x) xs ys

pub legal_push : (mask : ℕ) (s : State) (blocks : List Block) (b : Block) → LegalFrom mask s blocks
    → Means mask (state_from s blocks) b → LegalFrom mask s (blocks ++ b ∷ [])
legal_push mask s [] b legal means = (means, tt)
legal_push mask s (c ∷ cs) b legal means = (legal.0, legal_push mask (after s c) cs b legal.1 means)
