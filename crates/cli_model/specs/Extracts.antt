-- The command `extract`: the revision of an accepted proof in the journal of its digest, or two different byte strings
-- of equal SHA-256 (QLDB Developer Guide, "Data verification in Amazon QLDB", for digests and proofs).
use Rattle.std.specs.Prelude.{◌≡◌, ◌⊎◌, ℕ, List, Some}
use Rattle.ion_values.specs.declared.value.Value.{Value}
use Rattle.ledger_model.specs.declared.block.Block.{Block}
use Rattle.ledger_model.specs.declared.block.Revision.{Revision}
use Rattle.outside.specs.Told.{SourceTold}
use Rattle.proof_model.specs.declared.Digest.{Digest}
use Rattle.proof_model.specs.declared.Proof.{Proof}
use Rattle.proof_model.specs.Verified.{Verified}
use Rattle.proof_verify.specs.Bundles.{AreWithin, IsBundle}
use Rattle.proof_verify.specs.Faults.{fault_of}
use Rattle.proof_verify.specs.declared.ProofFault.{ProofFault}
use Rattle.proof_extract.specs.declared.Extracted.{Extracted}
use Rattle.proof_extract.specs.Extracts.{IsExtracted, IsPublished}
use Rattle.laws_history.specs.Calls.{Span}
use Rattle.cli_model.specs.Bundles.{IsMalformed}
use Rattle.cli_model.specs.Calls.{Outside}
use Rattle.cli_model.specs.Claims.{Claim, Status, BadInputLine, DamagedLine, SourceLine, StoreLine, bad_input, damaged, source_failed, store_failed, not_accepted, tells_none}
use Rattle.cli_model.specs.Inputs.{HasValues, IsNoText}
use Rattle.cli_model.specs.Lines.{proof_fault_line, unpublished_line}
use Rattle.cli_model.specs.Outputs.{extracted_text}
use Rattle.cli_model.specs.Stores.{IsUncalled, IsUnchanged, Reads}

-- the whole input was read, and it is this bundle
pub record HasBundle (source : Span SourceTold) (d : Digest) (r : Revision) (p : Proof) : Type 0 where
  pub values : List Value
  pub has : HasValues source values
  pub bundle : IsBundle values d r p
  pub within : AreWithin d p

-- it is one
pub record SpellsBundle (source : Span SourceTold) : Type 0 where
  pub digest : Digest
  pub revision : Revision
  pub proof : Proof
  pub has : HasBundle source digest revision proof

-- it is none, by the first field that can't be read
pub record HasNoBundle (source : Span SourceTold) (why : ProofFault) : Type 0 where
  pub values : List Value
  pub has : HasValues source values
  pub is : IsMalformed values why

-- ---- what the bundle comes to in the journal that was read

-- The digest is the journal's, and the proof is accepted. So the journal has the revision, or two byte strings collide.
pub record IsExtractOf (d : Digest) (r : Revision) (p : Proof) (blocks : List Block) (text : List ℕ) : Type 0 where
  pub published : IsPublished blocks d
  pub verified : Verified d r p
  pub extracted : Extracted
  pub is : IsExtracted blocks r extracted
  pub text_is : text ≡ extracted_text extracted

-- the digest is the journal's, and this is the first check that the proof fails
pub record IsUnverified (d : Digest) (r : Revision) (p : Proof) (blocks : List Block) (why : ProofFault)
    : Type 0 where
  pub published : IsPublished blocks d
  pub first : fault_of d r p ≡ Some why

-- the digest isn't the journal's, as none is of an empty one
abbrev pub IsUnpublished : Digest → List Block → Type 0
IsUnpublished d blocks = IsPublished blocks d → ⊥

-- ---- the claim

-- the journal was read, and this is so of it and of the bundle
pub record BundleIn (x : Outside) (Is : Digest → Revision → Proof → List Block → Type 0) : Type 0 where
  pub digest : Digest
  pub revision : Revision
  pub proof : Proof
  pub has : HasBundle x.source digest revision proof
  pub blocks : List Block
  pub reads : Reads x.store blocks
  pub is : Is digest revision proof blocks

-- the text says where the revision stands, or which strings collide
abbrev pub ExtractGives : Outside → List ℕ → Type 0
ExtractGives x text = BundleIn x (λ d r p blocks. IsExtractOf d r p blocks text)

-- the values of the input are no bundle
pub record MalformedLine (x : Outside) (line : List ℕ) : Type 0 where
  pub why : ProofFault
  pub has : HasNoBundle x.source why
  pub line_is : line ≡ proof_fault_line why

-- the digest isn't the journal's
pub record UnpublishedLine (x : Outside) (line : List ℕ) : Type 0 where
  pub bundle : BundleIn x (λ d r p blocks. IsUnpublished d blocks)
  pub line_is : line ≡ unpublished_line

-- it is, and the proof fails a check
pub record UnverifiedLine (x : Outside) (line : List ℕ) : Type 0 where
  pub why : ProofFault
  pub bundle : BundleIn x (λ d r p blocks. IsUnverified d r p blocks why)
  pub line_is : line ≡ proof_fault_line why

-- At 2 the input is no text of values, at 4 the source failed, and at 7 the values are no bundle, before the store is
-- called. At 3 the input is a bundle, and the journal is damaged. At 5 it is one, and the store failed when the journal
-- was read. At 7 it is one, and its digest isn't the journal's, or is, and the proof fails a check.
abbrev pub ExtractRefuses : Type 0 → Outside → Status → List ℕ → Type 0
ExtractRefuses same x status line =
    ((status ≡ bad_input) × BadInputLine (λ cause. IsNoText cause x.source) line × IsUncalled same x.store)
    ⊎ ((status ≡ source_failed) × SourceLine x line × IsUncalled same x.store)
    ⊎ ((status ≡ not_accepted) × MalformedLine x line × IsUncalled same x.store)
    ⊎ ((status ≡ damaged) × SpellsBundle x.source × DamagedLine x line)
    ⊎ ((status ≡ store_failed) × SpellsBundle x.source × StoreLine x line)
    ⊎ ((status ≡ not_accepted) × UnpublishedLine x line)
    ⊎ ((status ≡ not_accepted) × UnverifiedLine x line)

-- The store's content stays as it is.
abbrev pub extracts : Claim
extracts = record {
  gives = ExtractGives;
  refuses = ExtractRefuses;
  keeps = λ same x. IsUnchanged x.store;
  tells = tells_none;
}
