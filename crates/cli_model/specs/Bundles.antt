-- The command `verify`: whether the proof of a bundle is accepted, or why not (QLDB Developer Guide, "Data
-- verification in Amazon QLDB"; the order of the checks is the ledger's own).
use Rattle.std.specs.Prelude.{◌≡◌, ℕ, List, Some, ◌⊎◌}
use Rattle.ion_values.specs.declared.value.Value.{Value}
use Rattle.ledger_model.specs.declared.block.Revision.{Revision}
use Rattle.proof_model.specs.declared.Digest.{Digest}
use Rattle.proof_model.specs.declared.Proof.{Proof}
use Rattle.proof_model.specs.Verified.{Verified}
use Rattle.proof_verify.specs.Bundles.{AreWithin, IsBundle, IsUnread}
use Rattle.proof_verify.specs.Faults.{fault_of}
use Rattle.proof_verify.specs.declared.ProofFault.{ProofFault}
use Rattle.proof_verify.specs.declared.ProofFault.TheVariants as fault
use Rattle.cli_model.specs.Calls.{Outside}
use Rattle.cli_model.specs.Claims.{Claim, Status, BadInputLine, SourceLine, bad_input, source_failed, not_accepted, tells_none}
use Rattle.cli_model.specs.Inputs.{HasValues, IsNoText}
use Rattle.cli_model.specs.Lines.{proof_fault_line}
use Rattle.cli_model.specs.Outputs.{verified_text}
use Rattle.cli_model.specs.Stores.{IsUncalled}

-- the values are a digest, a revision and a proof that shows that the revision is in the journal of the digest
pub record IsAccepted (values : List Value) : Type 0 where
  pub digest : Digest
  pub revision : Revision
  pub proof : Proof
  pub bundle : IsBundle values digest revision proof
  pub within : AreWithin digest proof
  pub verified : Verified digest revision proof

-- the values are no bundle, by the first field that can't be read
pub record IsMalformed (values : List Value) (why : ProofFault) : Type 0 where
  pub name : List ℕ
  pub is : why ≡ fault.Malformed name
  pub unread : IsUnread values name

-- they are a bundle, and this is the first check that its proof fails
pub record FailsCheck (values : List Value) (why : ProofFault) : Type 0 where
  pub digest : Digest
  pub revision : Revision
  pub proof : Proof
  pub bundle : IsBundle values digest revision proof
  pub within : AreWithin digest proof
  pub first : fault_of digest revision proof ≡ Some why

abbrev pub IsNotAccepted : List Value → ProofFault → Type 0
IsNotAccepted values why = IsMalformed values why ⊎ FailsCheck values why

-- ---- the claim

-- the input is a bundle whose proof is accepted
pub record VerifyGives (x : Outside) (text : List ℕ) : Type 0 where
  pub values : List Value
  pub has : HasValues x.source values
  pub accepted : IsAccepted values
  pub text_is : text ≡ verified_text

-- the values of the input are no bundle whose proof is accepted
pub record ProofLine (x : Outside) (line : List ℕ) : Type 0 where
  pub values : List Value
  pub has : HasValues x.source values
  pub why : ProofFault
  pub is : IsNotAccepted values why
  pub line_is : line ≡ proof_fault_line why

-- At 2 the input is no text of values, at 4 the source failed, and at 7 the values are no bundle or its proof fails a
-- check.
abbrev pub VerifyRefuses : Outside → Status → List ℕ → Type 0
VerifyRefuses x status line =
    ((status ≡ bad_input) × BadInputLine (λ cause. IsNoText cause x.source) line)
    ⊎ ((status ≡ source_failed) × SourceLine x line)
    ⊎ ((status ≡ not_accepted) × ProofLine x line)

-- The store isn't called.
abbrev pub verifies : Claim
verifies = record {
  gives = VerifyGives;
  refuses = λ same x status line. VerifyRefuses x status line;
  keeps = λ same x. IsUncalled same x.store;
  tells = tells_none;
}
