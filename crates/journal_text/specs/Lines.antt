-- What a line of a journal is read as (Ion 1.0, "Text encoding"): the one value of its text, and the whole block of
-- that value.
use Rattle.std.specs.Prelude.{◌≡◌, ◌≢◌, ℕ, List, [], ◌∷◌, Option, Some, None, Ok}
use Rattle.ion_values.specs.declared.value.Value.{Value}
use Rattle.ion_model.specs.Read.{read_text}
use Rattle.ledger_model.specs.declared.block.Block.{Block}
use Rattle.ledger_model.specs.Damages.{has_hashes}
use Rattle.ledger_model.specs.Recovered.{IsLineOf}
use Rattle.block_form.specs.declared.checked.CheckedBlock.{CheckedBlock}

-- the value that a text gives, where it gives one alone; a block nests at most 256 deep
abbrev pub GivesOne : List ℕ → Option Value → Type 0
GivesOne text (Some v) = read_text 256 text ≡ Ok (v ∷ [])
GivesOne text None = (v : Value) → read_text 256 text ≢ Ok (v ∷ [])

-- the whole block whose line this is, with whether its hashes are those of what they stand for, or none where it is
-- that of none
abbrev pub IsLineRead : List ℕ → Option CheckedBlock → Type 0
IsLineRead line (Some c) = IsLineOf line c.block × (c.hashes_hold ≡ has_hashes c.block)
IsLineRead line None = (b : Block) → IsLineOf line b → ⊥
