-- What holds of the block that a job becomes as the next transaction.
use Rattle.std.proofs.Common.{◌≡◌, ℕ, ◌+◌, ◌-◌, ◌^◌, ◌<◌, false, List, [], ◌∷◌, ◌++◌, length, map, None, refl, sym, ap, subst, ◌∙◌}
use Rattle.ion_values.specs.declared.time.TimeParts.{TimeParts}
use Rattle.ql_types.specs.declared.Place.{Place}
use Rattle.ledger_model.specs.declared.block.Block.{Block}
use Rattle.ledger_model.specs.declared.block.Draft.{Draft}
use Rattle.ledger_model.specs.declared.block.Header.{Header}
use Rattle.ledger_model.specs.declared.script.Request.{Request}
use Rattle.ledger_model.specs.Damages.{Undamaged}
use Rattle.ledger_model.specs.State.{state, draft_of, recorded_in}
use Rattle.ledger_model.specs.Run.{Begun, Progress, run, ran, final_revisions}
use Rattle.ledger_model.specs.Journal.{said_in}
use Rattle.ledger_model.specs.Legal.{asked_in, Means}
use Rattle.ledger_model.specs.Making.{IsMadeOf, block_of, header_of, revision_of, time_behind}
use Rattle.ledger_model.specs.Script.{Placed}
use Rattle.ledger_model.proofs.SaidLemmas.{said_of_run}
use Rattle.laws_history.specs.Records.{RunRecord, IsOfJob}
use Rattle.laws_history.specs.Standings.{Standing, next}

-- what the ledger stands for behind the run's blocks, where this number was the last one
abbrev pub standing : RunRecord → ℕ → Standing
standing t last = record { mask = t.mask; last = last; blocks = t.after }

-- the block that the job becomes as the next transaction, behind the blocks so far
pub record IsNextBlock (s : Standing) (time : TimeParts) (p : Placed) (b : Block) : Type 0 where
  pub made : IsMadeOf (next s) s.blocks p.place time p.job.statements b
  pub undamaged : Undamaged (s.blocks ++ b ∷ [])
  pub commits : p.job.abort ≡ false
  pub admitted : p.job.denied ≡ None
  pub room : length s.blocks < 2 ^ 32 - 1
  pub counted : s.last + 1 < 2 ^ 64

-- ---- its revisions

drafts_again : (h : Header) (ds : List Draft)
    → map draft_of (recorded_in (map (λ d. d.table) ds) (map (revision_of h) ds)) ≡ ds
drafts_again h [] = refl
drafts_again h (d ∷ ds) = ap (λ xs. d ∷ xs) (drafts_again h ds)

-- ---- what its statements make it

module _ (b : Begun) (before : List Block) (place : Place) (time : TimeParts) (p : Progress) where
  block-Means : (asked : List Request) → run b (state before) asked ≡ ran p
      → Means b.mask (state before) (block_of b before place time p)
  block-Means asked all = record {
    number = b.number;
    progress = p;
    id = refl;
    runs = ap (run b (state before)) (said_of_run b (state before) asked p all) ∙ all;
    said = refl;
    schema = refl;
    revisions = drafts_again (header_of b before time (final_revisions p)) (final_revisions p);
  }

module _ (s : Standing) (time : TimeParts) (p : Placed) (b : Block) (is : IsNextBlock s time p b) where
  abbrev of_progress : Progress → Block
  of_progress progress = block_of (next s) s.blocks p.place time progress

  block_is : b ≡ of_progress is.made.progress
  block_is = is.made.block_is

  pub next-Means : Means s.mask (state s.blocks) b
  next-Means =
      subst (λ (x : Block). Means s.mask (state s.blocks) x) (sym block_is)
      (block-Means (next s) s.blocks p.place time is.made.progress p.job.statements is.made.runs)

  pub next-time : b.header.time ≡ time_behind s.blocks time
  next-time = ap (λ (x : Block). x.header.time) block_is

  pub next-place : b.info.place ≡ p.place
  next-place = ap (λ (x : Block). x.info.place) block_is

  pub next-strand : b.header.address.strand.raw ≡ s.mask
  next-strand = ap (λ (x : Block). x.header.address.strand.raw) block_is

  pub next-IsOfJob : IsOfJob b p
  next-IsOfJob = record {
    place = next-place;
    asked =
        ap (λ (x : Block). asked_in (said_in x.info.said)) block_is
        ∙ said_of_run (next s) (state s.blocks) p.job.statements is.made.progress is.made.runs;
    commits = is.commits;
    admitted = is.admitted;
  }
