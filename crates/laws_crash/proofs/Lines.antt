-- A front part of a line is the whole line, or no line feed stands in it.
use Rattle.std.proofs.Common.{◌≡◌, ◌⊎◌, ℕ, zero, suc, Bool, true, false, ◌&&◌, ◌==◌, not, List, [], ◌∷◌, ◌++◌, length, take, refl, sym, ap, ◌∙◌, inl, inr, arith, true≢false, take_all, length-take-le}
use Rattle.std.proofs.lemmas.Bool.{and_parts}
use Rattle.ion_model.specs.Write.{value_text}
use Rattle.ledger_model.specs.Journal.{block_value, line}
use Rattle.ledger_model.specs.Recovered.{has_no_line_feed}
use Rattle.journal_text.specs.OneLine.{WrittenOnOneLine}
use Rattle.laws_crash.specs.Lines.{FrontsAreTorn, NoFrontIsALine}

pub part_of_line : (text : List ℕ) (kept : ℕ) → has_no_line_feed text ≡ true
    → (has_no_line_feed (take kept (text ++ 10 ∷ [])) ≡ true) ⊎ (take kept (text ++ 10 ∷ []) ≡ text ++ 10 ∷ [])
part_of_line [] zero one = inl refl
part_of_line [] (suc k) one = inr (ap (λ xs. 10 ∷ xs) (take_all k [] (omega arith)))
part_of_line (b ∷ text) zero one = inl refl
part_of_line (b ∷ text) (suc k) one =
    let parts = and_parts (not (b == 10)) (has_no_line_feed text) one in
    elim (part_of_line text k parts.1) [
      | inl rest ↦ inl (rw (parts.0, rest) refl)
      | inr all ↦ inr (ap (λ xs. b ∷ xs) all)
    ]

-- a proper front part has none
pub fronts_are_torn : WrittenOnOneLine → FrontsAreTorn
fronts_are_torn law b kept less =
    elim (part_of_line (value_text (block_value b)) kept (law (block_value b))) [
      | inl torn ↦ torn
      | inr all ↦ let bad : ⊥ = omega (arith, less, length-take-le kept (line b) (omega (arith, less)), ap length all) in absurd bad
    ]

-- ---- a line ends in a line feed

and_false : (a c : Bool) → c ≡ false → (a && c) ≡ false
and_false true c e = e
and_false false c e = refl

ends : (text : List ℕ) → has_no_line_feed (text ++ 10 ∷ []) ≡ false
ends [] = refl
ends (b ∷ text) = and_false (not (b == 10)) (has_no_line_feed (text ++ 10 ∷ [])) (ends text)

pub no_front_is_a_line : WrittenOnOneLine → NoFrontIsALine
no_front_is_a_line law b c kept less is =
    true≢false (sym (fronts_are_torn law b kept less) ∙ ap has_no_line_feed is ∙ ends (value_text (block_value c)))
