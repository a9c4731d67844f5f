-- The command `export`, which writes the blocks of a journal in Ion's binary encoding (Amazon Ion 1.0 specification,
-- "Ion Binary Encoding").
use Rattle.std.specs.Prelude.{◌≡◌, ℕ, List, map}
use Rattle.ion_binary_out.specs.BinaryText.{Denotes, binary_text}
use Rattle.ion_values.specs.declared.value.Value.{Value}
use Rattle.ledger_model.specs.declared.block.Block.{Block}
use Rattle.ledger_model.specs.Compaction.{compacted}
use Rattle.ledger_model.specs.Journal.{block_value}

-- the values that the lines of these blocks spell in the journal, without what they redact
abbrev pub exported_values : List Block → List Value
exported_values blocks = map block_value (compacted blocks)

-- The bytes denote the blocks' values, and so no other ones; and they are the ones that are written of these values.
pub record IsExport (blocks : List Block) (bytes : List ℕ) : Type 0 where
  pub denotes : Denotes bytes (exported_values blocks)
  pub bytes_are : bytes ≡ binary_text (exported_values blocks)
