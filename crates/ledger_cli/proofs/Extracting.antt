-- What comes of an input that is to be a bundle, and of that bundle in a journal, to the end.
use Rattle.std.proofs.Common.{◌≡◌, ◌≤◌, ◌<◌, ◌⊎◌, ℕ, Bool, true, false, List, length, refl, ap, subst, sym, arith, Some, inl, inr, Result, Ok, Err}
use Rattle.std.specs.Prelude.{not}
use Rattle.ion_values.specs.declared.value.Value.{Value}
use Rattle.ledger_model.specs.declared.block.Block.{Block}
use Rattle.outside.specs.Told.{SourceTold, StoreTold}
use Rattle.proof_verify.specs.Bundles.{IsUnreadable}
use Rattle.proof_verify.specs.Faults.{fault_of, IsRefused}
use Rattle.proof_verify.specs.declared.ProofFault.{ProofFault}
use Rattle.proof_verify.specs.declared.ProofFault.TheVariants as fault
use Rattle.proof_extract.specs.Extracts.{IsPublished}
use Rattle.cli_args.specs.declared.Command.TheVariants as command
use Rattle.laws_history.specs.Calls.{Span}
use Rattle.laws_history.specs.Streams.{Taken, WasRead}
use Rattle.cli_model.specs.Calls.{Outside}
use Rattle.cli_model.specs.Extracts.{HasBundle}
use Rattle.cli_model.specs.Extracts as model
use Rattle.cli_model.specs.Inputs.{IsFine, deepest, longest}
use Rattle.cli_model.specs.Stores.{IsUncalled, IsUnfailed, Reads}
use Rattle.journal_reader.specs.Loads.{IsCause}
use Rattle.journal_reader.specs.declared.cause.LoadCause.{LoadCause}
use Rattle.journal_reader.specs.declared.cause.LoadCause.TheVariants as load
use Rattle.ledger_cli.specs.declared.lines.BadInput.{BadInput}
use Rattle.ledger_cli.specs.declared.lines.BadInput.TheVariants as cause
use Rattle.ledger_cli.specs.declared.command_fault.CommandFault.{CommandFault}
use Rattle.ledger_cli.specs.declared.command_fault.CommandFault.TheVariants as stop
use Rattle.ledger_cli.specs.declared.extract.Bundle.{Bundle}
use Rattle.ledger_cli.specs.Bundles.{IsFaulty, ReadsValues}
use Rattle.ledger_cli.specs.Ends.{IsTold, Works}
use Rattle.ledger_cli.specs.Extracting.{ExtractsFrom, ExtractsIn, IsBundleStop, IsReadFor, IsUnloaded, ReadsBundle, SpellsBundle}
use Rattle.ledger_cli.specs.Inputs.{IsUnread}
use Rattle.ledger_cli.specs.Stops.{load_stop, proof_stop}

-- ---- the values

pub malformed_stops : (values : List Value) (e : ProofFault) → IsUnreadable values e
    → SpellsBundle (Err (proof_stop e)) values
malformed_stops values (fault.Malformed name) h = record { name = name; is = refl; unread = h }
malformed_stops values (fault.WrongStrand proof digest) h = absurd h
malformed_stops values (fault.AddressDiffers revision proof) h = absurd h
malformed_stops values (fault.PastTip sequence tip) h = absurd h
malformed_stops values (fault.IndexPastCount index count) h = absurd h
malformed_stops values (fault.PathLength wanted given) h = absurd h
malformed_stops values (fault.HashFieldDiffers stated computed) h = absurd h
malformed_stops values (fault.RootDiffers computed published) h = absurd h
malformed_stops values fault.OutOfMemory h = tt

-- ---- the input

-- it wasn't read
pub unread_stops : (source : Span SourceTold) (why : CommandFault) → IsUnread why source
    → (why ≡ stop.BadInput cause.TooLong → (input : List ℕ) × Taken source input × (longest < length input))
    → ReadsBundle (Err why) source
unread_stops source stop.BadWords h long = absurd h
unread_stops source (stop.BadInput cause.TooLong) h long =
    let taken = long refl in
    (record { input = taken.0; taken = taken.1; long = taken.2 }, h.1)
unread_stops source (stop.BadInput (cause.Faulty fault)) h long = cc
unread_stops source (stop.BadInput cause.BadRules) h long = cc
unread_stops source (stop.BadInput cause.NoSuchRules) h long = cc
unread_stops source (stop.BadInput (cause.Misspelt fault)) h long = cc
unread_stops source (stop.BadInput (cause.NotARecord at)) h long = cc
unread_stops source (stop.BadInput (cause.RecordDiffers at sequence)) h long = cc
unread_stops source (stop.NoSuch why) h long = absurd h
unread_stops source (stop.Damaged sequence kind) h long = absurd h
unread_stops source stop.SourceFailed h long = h
unread_stops source stop.StoreFailed h long = absurd h
unread_stops source (stop.NotEmpty blocks) h long = absurd h
unread_stops source (stop.BadRange from to) h long = absurd h
unread_stops source (stop.NotAccepted why) h long = absurd h
unread_stops source stop.NotPublished h long = absurd h
unread_stops source stop.OutOfMemory h long = h

module _ (source : Span SourceTold) (input : List ℕ) (read : WasRead source input) (short : length input ≤ longest)
    (fine : IsFine source) where
  faulty_stops : (why : BadInput) → IsFaulty deepest why input → ReadsBundle (Err (stop.BadInput why)) source
  faulty_stops cause.TooLong h = absurd h
  faulty_stops (cause.Faulty fault) h = (record { input = input; read = read; short = short; text_of = h }, fine)
  faulty_stops cause.BadRules h = absurd h
  faulty_stops cause.NoSuchRules h = absurd h
  faulty_stops (cause.Misspelt fault) h = absurd h
  faulty_stops (cause.NotARecord at) h = absurd h
  faulty_stops (cause.RecordDiffers at sequence) h = absurd h

  -- it is no text of values
  pub no_values_stop : (why : CommandFault) → ReadsValues deepest (Err why) input → ReadsBundle (Err why) source
  no_values_stop stop.BadWords h = absurd h
  no_values_stop (stop.BadInput why) h = faulty_stops why h
  no_values_stop (stop.NoSuch why) h = absurd h
  no_values_stop (stop.Damaged sequence kind) h = absurd h
  no_values_stop stop.SourceFailed h = absurd h
  no_values_stop stop.StoreFailed h = absurd h
  no_values_stop (stop.NotEmpty blocks) h = absurd h
  no_values_stop (stop.BadRange from to) h = absurd h
  no_values_stop (stop.NotAccepted why) h = absurd h
  no_values_stop stop.NotPublished h = absurd h
  no_values_stop stop.OutOfMemory h = fine

  module _ (values : List Value) (reads : ReadsValues deepest (Ok values) input) where
    -- it is one
    pub values_read : (came : Result Bundle CommandFault) → SpellsBundle came values → ReadsBundle came source
    values_read (Ok b) h = (
      record {
        values = values;
        has = record { input = input; read = read; short = short; text_of = reads };
        bundle = h.0;
        within = h.1;
      },
      fine,
    )
    values_read (Err stop.BadWords) h = absurd h
    values_read (Err (stop.BadInput why)) h = absurd h
    values_read (Err (stop.NoSuch why)) h = absurd h
    values_read (Err (stop.Damaged sequence kind)) h = absurd h
    values_read (Err stop.SourceFailed) h = absurd h
    values_read (Err stop.StoreFailed) h = absurd h
    values_read (Err (stop.NotEmpty blocks)) h = absurd h
    values_read (Err (stop.BadRange from to)) h = absurd h
    values_read (Err (stop.NotAccepted why)) h = (
      record {
        values = values;
        has = record { input = input; read = read; short = short; text_of = reads };
        is = h;
      },
      fine,
    )
    values_read (Err stop.NotPublished) h = absurd h
    values_read (Err stop.OutOfMemory) h = fine

-- ---- the blocks

pub truly : (b : Bool) → not b ≡ false → b ≡ true
truly true h = refl
truly false h = cc h

-- the digest is theirs, and the proof fails a check
pub unverified_stops : (b : Bundle) (blocks : List Block) (e : ProofFault) → IsPublished blocks b.digest
    → IsRefused (fault_of b.digest b.revision b.proof) e → ExtractsFrom (Err (proof_stop e)) b blocks
unverified_stops b blocks (fault.Malformed name) is h = absurd h
unverified_stops b blocks (fault.WrongStrand proof digest) is h = record { published = is; first = h }
unverified_stops b blocks (fault.AddressDiffers revision proof) is h = record { published = is; first = h }
unverified_stops b blocks (fault.PastTip sequence tip) is h = record { published = is; first = h }
unverified_stops b blocks (fault.IndexPastCount index count) is h = record { published = is; first = h }
unverified_stops b blocks (fault.PathLength wanted given) is h = record { published = is; first = h }
unverified_stops b blocks (fault.HashFieldDiffers stated computed) is h = record { published = is; first = h }
unverified_stops b blocks (fault.RootDiffers computed published) is h = record { published = is; first = h }
unverified_stops b blocks fault.OutOfMemory is h = tt

-- ---- the command

module _ (same : Type 0) (x : Outside) where
  told : IsFine x.source → IsUnfailed x.store → IsTold (Some command.Extract) x
  told fine unfailed = record { source = fine; store = inl unfailed }

  module _ (un : IsUncalled same x.store) where
    uncalled : IsUnfailed x.store
    uncalled = ap (λ (t : StoreTold). t.faults) un.told

    -- the input is no bundle
    pub works_unbundled : (why : CommandFault) → IsBundleStop why x.source → Works same (Some command.Extract) (Err why) x
    works_unbundled stop.BadWords h = absurd h
    works_unbundled (stop.BadInput why) h =
        (inl (refl, record { cause = _; is = h.0; line_is = refl }, un), told h.1 uncalled)
    works_unbundled (stop.NoSuch why) h = absurd h
    works_unbundled (stop.Damaged sequence kind) h = absurd h
    works_unbundled stop.SourceFailed h = (inr (inl (refl, record { failed = h; line_is = refl }, un)), inl uncalled)
    works_unbundled stop.StoreFailed h = absurd h
    works_unbundled (stop.NotEmpty blocks) h = absurd h
    works_unbundled (stop.BadRange from to) h = absurd h
    works_unbundled (stop.NotAccepted why) h =
        (inr (inr (inl (refl, record { why = why; has = h.0; line_is = refl }, un))), told h.1 uncalled)
    works_unbundled stop.NotPublished h = absurd h
    works_unbundled stop.OutOfMemory h = told h uncalled

  module _ (b : Bundle) (has : HasBundle x.source b.digest b.revision b.proof) (fine : IsFine x.source) where
    spells : model.SpellsBundle x.source
    spells = record { digest = b.digest; revision = b.revision; proof = b.proof; has = has }

    -- the journal wasn't read
    unloaded : (why : LoadCause) → IsCause why x.store.before x.store.after
        → x.store.after.content ≡ x.store.before.content
        → Works same (Some command.Extract) (Err (load_stop why)) x
    unloaded (load.Damaged sequence kind) h kept = (
      inr (inr (inr (inl (
        refl,
        spells,
        record {
          sequence = sequence;
          kind = kind;
          reads = record { damaged = h.0; only_read = record { content = kept; faults = h.1 } };
          line_is = refl;
        },
      )))),
      told fine h.1,
    )
    unloaded (load.StoreFault count) h kept = (
      inr (inr (inr (inr (inl (
        refl,
        spells,
        record {
          failed = record { rose = omega (arith, h.rose, h.count_is); last = h.last };
          line_is = refl;
        },
      ))))),
      fine,
    )
    unloaded load.OutOfMemory h kept = told fine h

    -- it was
    module _ (blocks : List Block) (reads : Reads x.store blocks) where
      read_told : IsTold (Some command.Extract) x
      read_told = told fine reads.only_read.faults

      loaded : (came : Result (List ℕ) CommandFault) → ExtractsFrom came b blocks → Works same (Some command.Extract) came x
      loaded (Ok text) h = (
        record {
          digest = b.digest;
          revision = b.revision;
          proof = b.proof;
          has = has;
          blocks = blocks;
          reads = reads;
          is = h;
        },
        read_told,
      )
      loaded (Err stop.BadWords) h = absurd h
      loaded (Err (stop.BadInput why)) h = absurd h
      loaded (Err (stop.NoSuch why)) h = absurd h
      loaded (Err (stop.Damaged sequence kind)) h = absurd h
      loaded (Err stop.SourceFailed) h = absurd h
      loaded (Err stop.StoreFailed) h = absurd h
      loaded (Err (stop.NotEmpty count)) h = absurd h
      loaded (Err (stop.BadRange from to)) h = absurd h
      loaded (Err (stop.NotAccepted why)) h = (
        inr (inr (inr (inr (inr (inr (
          refl,
          record {
            why = why;
            bundle = record {
              digest = b.digest;
              revision = b.revision;
              proof = b.proof;
              has = has;
              blocks = blocks;
              reads = reads;
              is = h;
            };
            line_is = refl;
          },
        )))))),
        read_told,
      )
      loaded (Err stop.NotPublished) h = (
        inr (inr (inr (inr (inr (inl (
          refl,
          record {
            bundle = record {
              digest = b.digest;
              revision = b.revision;
              proof = b.proof;
              has = has;
              blocks = blocks;
              reads = reads;
              is = h;
            };
            line_is = refl;
          },
        )))))),
        read_told,
      )
      loaded (Err stop.OutOfMemory) h = read_told

    works_stored : (came : Result (List ℕ) CommandFault) → x.store.after.content ≡ x.store.before.content
        → IsReadFor came b x.store ⊎ IsUnloaded came x.store → Works same (Some command.Extract) came x
    works_stored came kept (inl read) = loaded read.blocks read.reads came read.extracts
    works_stored came kept (inr not) =
        subst (λ (r : Result (List ℕ) CommandFault). Works same (Some command.Extract) r x) (sym not.is)
        (unloaded not.cause not.of_cause kept)

    pub works_bundle : (came : Result (List ℕ) CommandFault) → ExtractsIn came b x.store
        → Works same (Some command.Extract) came x
    works_bundle came h = works_stored came h.1 h.0
