-- The code of an entry.
use Rattle.std.specs.Prelude.{◌≡◌, ◌⊎◌, ℕ, refl, Option}
use Rattle.std.specs.Coded.{Coded, code_by, coded×, coded⊎, coded_ℕ, coded_option}
use mathlib.Core.Logic.{inl, inr}
use Rattle.ql_types.specs.declared.Place.{Place}
use Rattle.ql_types.specs.contracts.Place as place
use Rattle.ledger_model.specs.declared.block.Block.{Block}
use Rattle.ledger_model.specs.contracts.block.Block as block
use Rattle.laws_machine.specs.Entries.{Entry, begun_at, failed, sealed, wanted}

abbrev pub Parts : Type 0
Parts = ((Place × (ℕ × ℕ)) ⊎ (ℕ × Block)) ⊎ ((ℕ × (ℕ × Block)) ⊎ (ℕ × Option Block))

abbrev pub parts_of : Entry → Parts
parts_of (begun_at place number since) = inl (inl (place, (number, since)))
parts_of (sealed number block) = inl (inr (number, block))
parts_of (failed number count block) = inr (inl (number, (count, block)))
parts_of (wanted number tried) = inr (inr (number, tried))

abbrev pub entry_of : Parts → Entry
entry_of (inl (inl p)) = begun_at p.0 p.1.0 p.1.1
entry_of (inl (inr p)) = sealed p.0 p.1
entry_of (inr (inl p)) = failed p.0 p.1.0 p.1.1
entry_of (inr (inr p)) = wanted p.0 p.1

pub parts-back : (e : Entry) → entry_of (parts_of e) ≡ e
parts-back (begun_at place number since) = refl
parts-back (sealed number block) = refl
parts-back (failed number count block) = refl
parts-back (wanted number tried) = refl

abbrev pub entry_code : Coded Entry
entry_code =
    code_by Parts
    (coded⊎ (coded⊎ (coded× place.the_row.coded (coded× coded_ℕ coded_ℕ)) (coded× coded_ℕ block.the_row.coded))
    (coded⊎ (coded× coded_ℕ (coded× coded_ℕ block.the_row.coded)) (coded× coded_ℕ (coded_option block.the_row.coded))))
    parts_of entry_of parts-back
