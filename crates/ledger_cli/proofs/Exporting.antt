-- The values of blocks, each of which may stand in a stream.
use Rattle.std.proofs.Common.{◌≡◌, ◌∙◌, Bool, true, ◌&&◌, List, [], ◌∷◌, map, refl, ap, rules}
use Rattle.std.specs.Prelude.{IsTrue}
use Rattle.std.specs.List.{list_all}
use Rattle.ion_binary_out.specs.BinaryText.{is_top}
use Rattle.ion_values.specs.declared.value.Body.TheFolds.{the_lemmas}
use Rattle.ledger_model.specs.declared.block.Block.{Block}
use Rattle.ledger_model.specs.Journal.{block_value}

-- a block's value is a struct without annotations
top : (block : Block) → is_top (block_value block) ≡ true
top block = search (rules, the_lemmas)

pub tops : (blocks : List Block) → IsTrue (list_all is_top (map block_value blocks))
tops [] = refl
tops (block ∷ blocks) = ap (λ (b : Bool). b && list_all is_top (map block_value blocks)) (top block) ∙ tops blocks
