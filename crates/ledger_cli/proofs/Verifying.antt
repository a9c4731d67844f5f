-- What comes of an input that is to be a bundle, from the source to the end.
use Rattle.std.proofs.Common.{◌≡◌, ◌≤◌, ◌<◌, ℕ, List, length, refl, ap, Some, inl, inr, Result, Ok, Err}
use Rattle.ion_values.specs.declared.value.Value.{Value}
use Rattle.ledger_model.specs.declared.block.Revision.{Revision}
use Rattle.outside.specs.Told.{SourceTold, StoreTold}
use Rattle.proof_model.specs.declared.Digest.{Digest}
use Rattle.proof_model.specs.declared.Proof.{Proof}
use Rattle.proof_verify.specs.Bundles.{AreWithin, IsBundle, IsUnreadable}
use Rattle.proof_verify.specs.Faults.{fault_of, IsRefused}
use Rattle.proof_verify.specs.declared.ProofFault.{ProofFault}
use Rattle.proof_verify.specs.declared.ProofFault.TheVariants as fault
use Rattle.cli_args.specs.declared.Command.TheVariants as command
use Rattle.laws_history.specs.Calls.{Span}
use Rattle.laws_history.specs.Streams.{Taken, WasRead}
use Rattle.cli_model.specs.Bundles.{IsNotAccepted}
use Rattle.cli_model.specs.Calls.{Outside}
use Rattle.cli_model.specs.Inputs.{IsFine, deepest, longest}
use Rattle.ledger_cli.specs.declared.lines.BadInput.{BadInput}
use Rattle.ledger_cli.specs.declared.lines.BadInput.TheVariants as cause
use Rattle.ledger_cli.specs.declared.command_fault.CommandFault.{CommandFault}
use Rattle.ledger_cli.specs.declared.command_fault.CommandFault.TheVariants as stop
use Rattle.ledger_cli.specs.Bundles.{Decides, IsFaulty, IsUnproved, ReadsValues, Verifies}
use Rattle.ledger_cli.specs.Ends.{IsTold, Works}
use Rattle.ledger_cli.specs.Inputs.{IsUnread}
use Rattle.ledger_cli.specs.Stops.{proof_stop}

-- ---- the verdict on values

pub unreadable_so : (values : List Value) (e : ProofFault) → IsUnreadable values e → IsUnproved values e
unreadable_so values (fault.Malformed name) h = inl (record { name = name; is = refl; unread = h })
unreadable_so values (fault.WrongStrand proof digest) h = absurd h
unreadable_so values (fault.AddressDiffers revision proof) h = absurd h
unreadable_so values (fault.PastTip sequence tip) h = absurd h
unreadable_so values (fault.IndexPastCount index count) h = absurd h
unreadable_so values (fault.PathLength wanted given) h = absurd h
unreadable_so values (fault.HashFieldDiffers stated computed) h = absurd h
unreadable_so values (fault.RootDiffers computed published) h = absurd h
unreadable_so values fault.OutOfMemory h = tt

module _ (values : List Value) (d : Digest) (r : Revision) (p : Proof) (bundle : IsBundle values d r p) (within : AreWithin d p) where
  fails : (e : ProofFault) → fault_of d r p ≡ Some e → IsNotAccepted values e
  fails e first = inr (record { digest = d; revision = r; proof = p; bundle = bundle; within = within; first = first })

  pub refused_so : (e : ProofFault) → IsRefused (fault_of d r p) e → IsUnproved values e
  refused_so (fault.Malformed name) h = absurd h
  refused_so (fault.WrongStrand proof digest) h = fails _ h
  refused_so (fault.AddressDiffers revision proof) h = fails _ h
  refused_so (fault.PastTip sequence tip) h = fails _ h
  refused_so (fault.IndexPastCount index count) h = fails _ h
  refused_so (fault.PathLength wanted given) h = fails _ h
  refused_so (fault.HashFieldDiffers stated computed) h = fails _ h
  refused_so (fault.RootDiffers computed published) h = fails _ h
  refused_so fault.OutOfMemory h = tt

pub unproved_decides : (values : List Value) (e : ProofFault) → IsUnproved values e
    → Decides (Err (proof_stop e)) values
unproved_decides values (fault.Malformed name) h = h
unproved_decides values (fault.WrongStrand proof digest) h = h
unproved_decides values (fault.AddressDiffers revision proof) h = h
unproved_decides values (fault.PastTip sequence tip) h = h
unproved_decides values (fault.IndexPastCount index count) h = h
unproved_decides values (fault.PathLength wanted given) h = h
unproved_decides values (fault.HashFieldDiffers stated computed) h = h
unproved_decides values (fault.RootDiffers computed published) h = h
unproved_decides values fault.OutOfMemory h = tt

-- ---- the input

-- it wasn't read
pub unread_verifies : (source : Span SourceTold) (why : CommandFault) → IsUnread why source
    → (why ≡ stop.BadInput cause.TooLong → (input : List ℕ) × Taken source input × (longest < length input))
    → Verifies (Err why) source
unread_verifies source stop.BadWords h long = absurd h
unread_verifies source (stop.BadInput cause.TooLong) h long =
    let taken = long refl in
    (record { input = taken.0; taken = taken.1; long = taken.2 }, h.1)
unread_verifies source (stop.BadInput (cause.Faulty fault)) h long = cc
unread_verifies source (stop.BadInput cause.BadRules) h long = cc
unread_verifies source (stop.BadInput cause.NoSuchRules) h long = cc
unread_verifies source (stop.BadInput (cause.Misspelt fault)) h long = cc
unread_verifies source (stop.BadInput (cause.NotARecord at)) h long = cc
unread_verifies source (stop.BadInput (cause.RecordDiffers at sequence)) h long = cc
unread_verifies source (stop.NoSuch why) h long = absurd h
unread_verifies source (stop.Damaged sequence kind) h long = absurd h
unread_verifies source stop.SourceFailed h long = h
unread_verifies source stop.StoreFailed h long = absurd h
unread_verifies source (stop.NotEmpty blocks) h long = absurd h
unread_verifies source (stop.BadRange from to) h long = absurd h
unread_verifies source (stop.NotAccepted fault) h long = absurd h
unread_verifies source stop.NotPublished h long = absurd h
unread_verifies source stop.OutOfMemory h long = h

module _ (source : Span SourceTold) (input : List ℕ) (read : WasRead source input) (short : length input ≤ longest)
    (fine : IsFine source) where
  faulty_verifies : (why : BadInput) → IsFaulty deepest why input → Verifies (Err (stop.BadInput why)) source
  faulty_verifies cause.TooLong h = absurd h
  faulty_verifies (cause.Faulty fault) h = (record { input = input; read = read; short = short; text_of = h }, fine)
  faulty_verifies cause.BadRules h = absurd h
  faulty_verifies cause.NoSuchRules h = absurd h
  faulty_verifies (cause.Misspelt fault) h = absurd h
  faulty_verifies (cause.NotARecord at) h = absurd h
  faulty_verifies (cause.RecordDiffers at sequence) h = absurd h

  -- it is no text of values
  pub no_values_verifies : (why : CommandFault) → ReadsValues deepest (Err why) input → Verifies (Err why) source
  no_values_verifies stop.BadWords h = absurd h
  no_values_verifies (stop.BadInput why) h = faulty_verifies why h
  no_values_verifies (stop.NoSuch why) h = absurd h
  no_values_verifies (stop.Damaged sequence kind) h = absurd h
  no_values_verifies stop.SourceFailed h = absurd h
  no_values_verifies stop.StoreFailed h = absurd h
  no_values_verifies (stop.NotEmpty blocks) h = absurd h
  no_values_verifies (stop.BadRange from to) h = absurd h
  no_values_verifies (stop.NotAccepted fault) h = absurd h
  no_values_verifies stop.NotPublished h = absurd h
  no_values_verifies stop.OutOfMemory h = fine

  module _ (values : List Value) (reads : ReadsValues deepest (Ok values) input) where
    -- it is one
    pub values_verify : (came : Result (List ℕ) CommandFault) → Decides came values → Verifies came source
    values_verify (Ok text) h = (
      record {
        values = values;
        has = record { input = input; read = read; short = short; text_of = reads };
        accepted = h.0;
        text_is = h.1;
      },
      fine,
    )
    values_verify (Err stop.BadWords) h = absurd h
    values_verify (Err (stop.BadInput why)) h = absurd h
    values_verify (Err (stop.NoSuch why)) h = absurd h
    values_verify (Err (stop.Damaged sequence kind)) h = absurd h
    values_verify (Err stop.SourceFailed) h = absurd h
    values_verify (Err stop.StoreFailed) h = absurd h
    values_verify (Err (stop.NotEmpty blocks)) h = absurd h
    values_verify (Err (stop.BadRange from to)) h = absurd h
    values_verify (Err (stop.NotAccepted why)) h = (
      record {
        values = values;
        has = record { input = input; read = read; short = short; text_of = reads };
        is = h;
      },
      fine,
    )
    values_verify (Err stop.NotPublished) h = absurd h
    values_verify (Err stop.OutOfMemory) h = fine

-- ---- the command

verified_told : (x : Outside) → x.store.after ≡ x.store.before → IsFine x.source → IsTold (Some command.Verify) x
verified_told x un fine = record { source = fine; store = inl (ap (λ (t : StoreTold). t.faults) un) }

pub works_verify : (same : Type 0) (x : Outside) (came : Result (List ℕ) CommandFault) → x.store.after ≡ x.store.before → Verifies came x.source
    → Works same (Some command.Verify) came x
works_verify same x (Ok text) un h = (
  record { values = h.0.values; has = h.0.has; accepted = h.0.accepted; text_is = h.0.text_is },
  verified_told x un h.1,
)
works_verify same x (Err stop.BadWords) un h = absurd h
works_verify same x (Err (stop.BadInput why)) un h =
    (inl (refl, record { cause = _; is = h.0; line_is = refl }), verified_told x un h.1)
works_verify same x (Err (stop.NoSuch why)) un h = absurd h
works_verify same x (Err (stop.Damaged sequence kind)) un h = absurd h
works_verify same x (Err stop.SourceFailed) un h =
    (inr (inl (refl, record { failed = h; line_is = refl })), inl (ap (λ (t : StoreTold). t.faults) un))
works_verify same x (Err stop.StoreFailed) un h = absurd h
works_verify same x (Err (stop.NotEmpty blocks)) un h = absurd h
works_verify same x (Err (stop.BadRange from to)) un h = absurd h
works_verify same x (Err (stop.NotAccepted why)) un h = (
  inr (inr (refl, record { values = h.0.values; has = h.0.has; why = why; is = h.0.is; line_is = refl })),
  verified_told x un h.1,
)
works_verify same x (Err stop.NotPublished) un h = absurd h
works_verify same x (Err stop.OutOfMemory) un h = verified_told x un h
