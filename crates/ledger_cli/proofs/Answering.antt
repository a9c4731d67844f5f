-- What comes of a question to the journal, from the store to the end.
use Rattle.std.proofs.Common.{◌≡◌, ℕ, List, ap, arith, refl, subst, inl, inr, Option, Some, Result, Ok, Err}
use Rattle.std.specs.Prelude.{IfOk, IfErr}
use Rattle.ledger_model.specs.declared.block.Block.{Block}
use Rattle.outside.specs.Told.{SourceTold, StoreTold}
use Rattle.proof_issue.specs.declared.NoSuch.{NoSuch}
use Rattle.proof_issue.specs.declared.NoSuch.TheVariants as none_such
use Rattle.proof_issue.specs.Refusals.{IsRefused}
use Rattle.cli_args.specs.declared.Command.{Command}
use Rattle.cli_args.specs.declared.Command.TheVariants as command
use Rattle.laws_history.specs.Calls.{Span, span}
use Rattle.cli_model.specs.Calls.{Outside}
use Rattle.cli_model.specs.Inputs.{IsIdle}
use Rattle.cli_model.specs.declared.Question.{Question}
use Rattle.cli_model.specs.declared.Question.TheVariants as asks
use Rattle.cli_model.specs.Claims.{Status}
use Rattle.cli_model.specs.Journals.{Answers, HasNone, JournalGives, JournalRefuses}
use Rattle.cli_model.specs.Stores.{Reads}
use Rattle.cli_model.specs.Top.{Gives, Refuses}
use Rattle.journal_reader.specs.Loads.{IsCause}
use Rattle.journal_reader.specs.declared.cause.LoadCause.{LoadCause}
use Rattle.journal_reader.specs.declared.cause.LoadCause.TheVariants as load
use Rattle.ledger_cli.specs.declared.command_fault.CommandFault.{CommandFault}
use Rattle.ledger_cli.specs.declared.command_fault.CommandFault.TheVariants as stop
use Rattle.ledger_cli.specs.Ends.{IsTold, Works}
use Rattle.ledger_cli.specs.Questions.{Comes, Tells}
use Rattle.ledger_cli.specs.Stops.{IsAnswerStop, load_stop, no_such_stop}

-- ---- what came of a call

pub if_ok : {A E : Type 0} (P : A → Type 0) {r : Result A E} {x : A} → r ≡ Ok x → IfOk r P → P x
if_ok P is h = subst (λ y. IfOk y P) is h

pub if_err : {A E : Type 0} (P : E → Type 0) {r : Result A E} {x : E} → r ≡ Err x → IfErr r P → P x
if_err P is h = subst (λ y. IfErr y P) is h

-- ---- why there is no answer

-- the refusal that there is tells that there is none
pub none_stops : (question : Question) (blocks : List Block) (refused : Option NoSuch) (e : NoSuch) → IsRefused refused e
    → ((why : NoSuch) → refused ≡ Some why → HasNone question blocks why) → IsAnswerStop question blocks (no_such_stop e)
none_stops question blocks refused (none_such.Block sequence count) is none = none (none_such.Block sequence count) is
none_stops question blocks refused (none_such.Revision index count) is none = none (none_such.Revision index count) is
none_stops question blocks refused (none_such.PastTip sequence tip) is none = none (none_such.PastTip sequence tip) is
none_stops question blocks refused none_such.OutOfMemory is none = tt

-- ---- a journal that was read

unanswered : (question : Question) (blocks : List Block) (why : CommandFault) (store : Span StoreTold) → Reads store blocks → IsAnswerStop question blocks why
    → Comes question (Err why) store
unanswered question blocks stop.BadWords store reads h = absurd h
unanswered question blocks (stop.BadInput cause) store reads h = absurd h
unanswered question blocks (stop.NoSuch why) store reads h = (blocks, reads, h)
unanswered question blocks (stop.Damaged sequence kind) store reads h = absurd h
unanswered question blocks stop.SourceFailed store reads h = absurd h
unanswered question blocks stop.StoreFailed store reads h = absurd h
unanswered question blocks (stop.NotEmpty count) store reads h = absurd h
unanswered question blocks (stop.BadRange from to) store reads h = absurd h
unanswered question blocks (stop.NotAccepted fault) store reads h = absurd h
unanswered question blocks stop.NotPublished store reads h = absurd h
unanswered question blocks stop.OutOfMemory store reads h = reads.only_read.faults

pub answered_so : (question : Question) (blocks : List Block) (r : Result (List ℕ) CommandFault) (store : Span StoreTold) → Reads store blocks
    → IfOk r (λ text. Answers question blocks text) → IfErr r (λ why. IsAnswerStop question blocks why) → Tells question r store
answered_so question blocks (Ok text) store reads answers stops =
    (record { blocks = blocks; reads = reads; answers = answers }, reads.only_read.content)
answered_so question blocks (Err why) store reads answers stops = (unanswered question blocks why store reads stops, reads.only_read.content)

-- one that wasn't
pub unread_tells : (question : Question) (cause : LoadCause) (before after : StoreTold) → after.content ≡ before.content → IsCause cause before after
    → Tells question (Err (load_stop cause)) (span before after)
unread_tells question (load.Damaged sequence kind) before after same h =
    (record { damaged = h.0; only_read = record { content = same; faults = h.1 } }, same)
unread_tells question (load.StoreFault count) before after same h =
    (record { rose = omega (arith, h.rose, h.count_is); last = h.last }, same)
unread_tells question load.OutOfMemory before after same h = (h, same)

-- ---- the command

module _ (same : Type 0) (what : Option Command) (question : Question) (x : Outside) (idle : IsIdle x.source)
    (gives : (text : List ℕ) → JournalGives question x text → Gives what x text)
    (refuses : (s : Status) (line : List ℕ) → JournalRefuses question x s line → Refuses same what x s line) where
  told : x.store.after.faults ≡ x.store.before.faults → IsTold what x
  told is = record { source = ap (λ (t : SourceTold). t.faults) idle; store = inl is }

  works_so : (came : Result (List ℕ) CommandFault) → Comes question came x.store → Works same what came x
  works_so (Ok text) h =
      (gives text (record { blocks = h.blocks; reads = h.reads; answers = h.answers }), told h.reads.only_read.faults)
  works_so (Err stop.BadWords) h = absurd h
  works_so (Err (stop.BadInput cause)) h = absurd h
  works_so (Err (stop.NoSuch why)) h = (
    refuses _ _ (inl (refl, record { blocks = h.0; reads = h.1; why = why; none = h.2; line_is = refl })),
    told h.1.only_read.faults,
  )
  works_so (Err (stop.Damaged sequence kind)) h = (
    refuses _ _ (inr (inl (refl, record { sequence = sequence; kind = kind; reads = h; line_is = refl }))),
    told h.only_read.faults,
  )
  works_so (Err stop.SourceFailed) h = absurd h
  works_so (Err stop.StoreFailed) h =
      (refuses _ _ (inr (inr (refl, record { failed = h; line_is = refl }))), ap (λ (t : SourceTold). t.faults) idle)
  works_so (Err (stop.NotEmpty blocks)) h = absurd h
  works_so (Err (stop.BadRange from to)) h = absurd h
  works_so (Err (stop.NotAccepted fault)) h = absurd h
  works_so (Err stop.NotPublished) h = absurd h
  works_so (Err stop.OutOfMemory) h = told h

pub works_digest : (same : Type 0) (tip : Option ℕ) (x : Outside) (came : Result (List ℕ) CommandFault) → IsIdle x.source → Tells (asks.Digest tip) came x.store
    → Works same (Some (command.Digest tip)) came x
works_digest same tip x came idle tells =
    works_so same (Some (command.Digest tip)) (asks.Digest tip) x idle (λ text g. g) (λ s line r. r) came tells.0

pub works_proof : (same : Type 0) (sequence index : ℕ) (tip : Option ℕ) (x : Outside) (came : Result (List ℕ) CommandFault) → IsIdle x.source
    → Tells (asks.Proof sequence index tip) came x.store → Works same (Some (command.Prove sequence index tip)) came x
works_proof same sequence index tip x came idle tells =
    works_so same (Some (command.Prove sequence index tip)) (asks.Proof sequence index tip) x idle (λ text g. g) (λ s line r. r) came tells.0

pub works_counts : (same : Type 0) (x : Outside) (came : Result (List ℕ) CommandFault) → IsIdle x.source → Tells asks.Counts came x.store
    → Works same (Some command.Audit) came x
works_counts same x came idle tells = works_so same (Some command.Audit) asks.Counts x idle (λ text g. g) (λ s line r. r) came tells.0

pub works_compact : (same : Type 0) (x : Outside) (came : Result (List ℕ) CommandFault) → IsIdle x.source → Tells asks.Compact came x.store
    → Works same (Some command.Compact) came x
works_compact same x came idle tells = works_so same (Some command.Compact) asks.Compact x idle (λ text g. g) (λ s line r. r) came tells.0

pub works_export : (same : Type 0) (x : Outside) (came : Result (List ℕ) CommandFault) → IsIdle x.source → Tells asks.Export came x.store
    → Works same (Some command.Export) came x
works_export same x came idle tells = works_so same (Some command.Export) asks.Export x idle (λ text g. g) (λ s line r. r) came tells.0
