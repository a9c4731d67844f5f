-- What the commands write beside a run's report.
use Rattle.std.specs.Prelude.{ℕ, ◌+◌, List, [], ◌∷◌, ◌++◌, length, codes}
use Rattle.std.specs.Fmt.{decimal}
use Rattle.ion_values.specs.declared.value.Body.TheVariants as body
use Rattle.ion_values.specs.declared.value.Value.{Value}
use Rattle.ion_model.specs.Write.{value_text}
use Rattle.ledger_model.specs.declared.block.Block.{Block}
use Rattle.ledger_model.specs.declared.block.Revision.{Revision}
use Rattle.ledger_model.specs.Journal.{number, revision_value, structure}
use Rattle.ledger_model.specs.Values.{field, plain}
use Rattle.proof_extract.specs.declared.Extracted.{Extracted}
use Rattle.proof_extract.specs.declared.Extracted.TheVariants as extracted
use Rattle.proof_model.specs.declared.Digest.{Digest}
use Rattle.proof_model.specs.declared.Proof.{Proof}
use Rattle.proof_model.specs.ProofValues.{digest_value, proof_value}

-- the text of a value on a line of its own
abbrev pub value_line : Value → List ℕ
value_line v = value_text v ++ 10 ∷ []

-- a digest
abbrev pub digest_text : Digest → List ℕ
digest_text d = value_line (digest_value d)

-- a digest, a revision and its proof, a line each
abbrev pub bundle_text : Digest → Revision → Proof → List ℕ
bundle_text d r p = value_line (digest_value d) ++ value_line (revision_value r) ++ value_line (proof_value p)

-- that a proof was accepted
abbrev pub verified_text : List ℕ
verified_text = codes "{verified:true}" ++ 10 ∷ []

-- the index of the revision that was found, or the two byte strings of one hash
abbrev pub extracted_value : Extracted → Value
extracted_value (extracted.Found index) = structure (field (codes "found") (number index) ∷ [])
extracted_value (extracted.Collision first second) =
    structure (field (codes "first") (plain (body.Blob first)) ∷ field (codes "second") (plain (body.Blob second)) ∷ [])

abbrev pub extracted_text : Extracted → List ℕ
extracted_text e = value_line (extracted_value e)

-- how many revisions the blocks have
abbrev pub revision_count : List Block → ℕ
revision_count [] = 0
revision_count (b ∷ bs) = length b.revisions + revision_count bs

-- how many blocks there are, and how many revisions they have
abbrev pub counts_text : List Block → List ℕ
counts_text blocks =
    codes "{blocks:" ++ decimal (length blocks) ++ codes ",revisions:" ++ decimal (revision_count blocks) ++ codes "}"
    ++ 10 ∷ []
