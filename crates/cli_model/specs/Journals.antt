-- The commands `digest`, `prove`, `audit`, `compact` and `export`, which ask something of a journal: its digest, the
-- proof of a revision, how much it holds, and its blocks without what they redact (QLDB Developer Guide, "Data
-- verification in Amazon QLDB", for digests and proofs).
use Rattle.std.specs.Prelude.{◌≡◌, ◌-◌, ◌⊎◌, ℕ, List, length, Option, Some, None, slice_get}
use Rattle.ledger_model.specs.declared.block.Block.{Block}
use Rattle.ledger_model.specs.declared.block.Revision.{Revision}
use Rattle.ledger_model.specs.Compaction.{compacted, shown_revisions}
use Rattle.ledger_model.specs.Journal.{journal_bytes}
use Rattle.proof_model.specs.declared.Digest.{Digest}
use Rattle.proof_model.specs.declared.Proof.{Proof}
use Rattle.proof_model.specs.Issued.{IsDigest, proof_for}
use Rattle.proof_model.specs.Verified.{Verified}
use Rattle.proof_issue.specs.declared.NoSuch.{NoSuch}
use Rattle.proof_issue.specs.Refusals.{past_end, refusal}
use Rattle.cli_model.specs.declared.Question.{Question}
use Rattle.cli_model.specs.declared.Question.TheVariants as asks
use Rattle.cli_model.specs.Calls.{Outside}
use Rattle.cli_model.specs.Claims.{Claim, Status, DamagedLine, StoreLine, bad_input, damaged, store_failed, tells_none}
use Rattle.cli_model.specs.Exports.{IsExport}
use Rattle.cli_model.specs.Inputs.{IsIdle}
use Rattle.cli_model.specs.Lines.{no_such_line}
use Rattle.cli_model.specs.Outputs.{digest_text, bundle_text, counts_text}
use Rattle.cli_model.specs.Stores.{IsUnchanged, Reads}

-- ---- digests

-- the tip that the words give, or the last block; of no block it is 0, which is none's
abbrev pub tip_in : Option ℕ → List Block → ℕ
tip_in (Some tip) blocks = tip
tip_in None blocks = length blocks - 1

-- the text is that of the digest with this tip
pub record PublishesDigest (tip : ℕ) (blocks : List Block) (text : List ℕ) : Type 0 where
  pub there : past_end blocks tip ≡ None
  pub digest : Digest
  pub is : IsDigest blocks tip digest
  pub text_is : text ≡ digest_text digest

-- ---- proofs

-- The text is that of the digest with this tip, the revision at this index of this block, with its data's hash where a
-- block redacts it, and its proof, which shows that the revision is in the journal.
pub record PublishesProof (sequence index tip : ℕ) (blocks : List Block) (text : List ℕ) : Type 0 where
  pub there : refusal blocks sequence index tip ≡ None
  pub digest : Digest
  pub digest_is : IsDigest blocks tip digest
  pub block : Block
  pub block_is : slice_get blocks sequence ≡ Some block
  pub revision : Revision
  pub revision_is : slice_get (shown_revisions blocks block.info.tables block.revisions) index ≡ Some revision
  pub proof : Proof
  pub proof_is : proof ≡ proof_for blocks block sequence index tip
  pub accepted : Verified digest revision proof
  pub text_is : text ≡ bundle_text digest revision proof

-- ---- questions

-- this text answers the question
abbrev pub Answers : Question → List Block → List ℕ → Type 0
Answers (asks.Digest tip) blocks text = PublishesDigest (tip_in tip blocks) blocks text
Answers (asks.Proof sequence index tip) blocks text = PublishesProof sequence index (tip_in tip blocks) blocks text
Answers asks.Counts blocks text = text ≡ counts_text blocks
Answers asks.Compact blocks text = text ≡ journal_bytes (compacted blocks)
Answers asks.Export blocks bytes = IsExport blocks bytes

-- there is no such digest or proof
abbrev pub HasNone : Question → List Block → NoSuch → Type 0
HasNone (asks.Digest tip) blocks why = past_end blocks (tip_in tip blocks) ≡ Some why
HasNone (asks.Proof sequence index tip) blocks why = refusal blocks sequence index (tip_in tip blocks) ≡ Some why
HasNone asks.Counts blocks why = ⊥
HasNone asks.Compact blocks why = ⊥
HasNone asks.Export blocks why = ⊥

-- ---- the claim

-- the journal was read, and the text answers the question
pub record JournalGives (question : Question) (x : Outside) (text : List ℕ) : Type 0 where
  pub blocks : List Block
  pub reads : Reads x.store blocks
  pub answers : Answers question blocks text

-- of the journal that was read there is no such digest or proof
pub record NoSuchLine (question : Question) (x : Outside) (line : List ℕ) : Type 0 where
  pub blocks : List Block
  pub reads : Reads x.store blocks
  pub why : NoSuch
  pub none : HasNone question blocks why
  pub line_is : line ≡ no_such_line why

-- At 2 there is no such digest or proof, at 3 the journal is damaged, and at 5 the store failed when it was read.
abbrev pub JournalRefuses : Question → Outside → Status → List ℕ → Type 0
JournalRefuses question x status line =
    ((status ≡ bad_input) × NoSuchLine question x line)
    ⊎ ((status ≡ damaged) × DamagedLine x line)
    ⊎ ((status ≡ store_failed) × StoreLine x line)

-- The store's content stays as it is, and the source isn't read.
abbrev pub asks_journal : Question → Claim
asks_journal question = record {
  gives = JournalGives question;
  refuses = λ same x status line. JournalRefuses question x status line;
  keeps = λ same x. IsUnchanged x.store × IsIdle x.source;
  tells = tells_none;
}
