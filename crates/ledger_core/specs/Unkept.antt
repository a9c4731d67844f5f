-- What an append of a block leaves besides its fault.
use Rattle.std.specs.Prelude.{Option, None, Result, Ok, Err, option_map}
use Rattle.ledger_model.specs.declared.block.Block.{Block}
use Rattle.ledger_core.specs.declared.appending.Unkept.{Unkept}

-- the block whose line had come to the store, if the append failed and one had
abbrev pub unkept_with : {R : Type 0} → Result R Unkept → Option Block
unkept_with (Ok done) = None
unkept_with (Err e) = option_map (λ b. b.value) e.tried
