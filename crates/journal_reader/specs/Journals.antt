-- A journal as it was read.
use Rattle.std.specs.Prelude.{◌≡◌, ℕ, Bool, refl, List, length}
use Rattle.std.specs.Coded.{Coded, code_by, coded×, coded_ℕ, coded_bool, coded_list}
use Rattle.ledger_model.specs.declared.block.Block.{Block}
use Rattle.ledger_model.specs.contracts.block.Block as block
use Rattle.ledger_model.specs.Damages.{Undamaged}
use Rattle.ledger_model.specs.HashesAsked.{AreAsked}
use Rattle.ledger_model.specs.Journal.{journal_bytes}

-- its blocks, the length of their lines in bytes, and whether more bytes stand after them
pub record JournalRead : Type 0 where
  pub blocks : List Block
  pub size : ℕ
  pub rest : Bool

abbrev pub journal_code : Coded JournalRead
journal_code =
    code_by (List Block × (ℕ × Bool)) (coded× (coded_list block.the_row.coded) (coded× coded_ℕ coded_bool))
    (λ j. (j.blocks, (j.size, j.rest))) (λ p. record { blocks = p.0; size = p.1.0; rest = p.1.1 }) (λ _. refl)

-- what a journal that was read keeps true
pub record IsSound (j : JournalRead) : Type 0 where
  pub undamaged : Undamaged j.blocks
  pub asked : AreAsked j.blocks
  pub long : j.size ≡ length (journal_bytes j.blocks)
