-- A journal whose hashes in place of data and of statements are all asked for stays so with blocks that have none.
use Rattle.std.specs.Prelude.{◌≡◌, not, true, List, [], ◌∷◌, ◌++◌}
use Rattle.std.specs.List.{list_all}
use Rattle.ledger_model.specs.declared.block.Block.{Block}
use Rattle.ledger_model.specs.HashesAsked.{AreAsked}
use Rattle.ledger_model.specs.State.{recorded_in}
use Rattle.ledger_model.specs.Whole.{is_redacted, is_said}

-- its statements and the data of its revisions stand in the block
pub record TellsAll (b : Block) : Type 0 where
  pub said : is_said b.info.said ≡ true
  pub kept : list_all (λ r. not (is_redacted r.revision.content)) (recorded_in b.info.tables b.revisions) ≡ true

abbrev pub AskedGrows : Type 0
AskedGrows = (blocks : List Block) (b : Block) → AreAsked blocks → TellsAll b → AreAsked (blocks ++ b ∷ [])
