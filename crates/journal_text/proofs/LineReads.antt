-- A line is that of the whole block whose value its text gives, where the text is the one that is written of the value.
use Rattle.std.proofs.Common.{◌≡◌, ◌≢◌, ◌∙◌, ℕ, true, List, [], ◌∷◌, ◌++◌, IsTrue, Option, Some, None, Ok, refl, sym, ap, subst}
use Rattle.std.specs.List.{list_all}
use Rattle.std.proofs.lemmas.Bool.{and_parts}
use Rattle.ion_values.specs.declared.value.Value.{Value}
use Rattle.ion_values.specs.Within.{within}
use Rattle.ion_model.specs.Write.{value_text}
use Rattle.ion_model.specs.Read.{read_text}
use Rattle.ion_text.specs.Laws.{WrittenIsRead, ReadIsWithin}
use Rattle.ledger_model.specs.declared.block.Block.{Block}
use Rattle.ledger_model.specs.Journal.{block_value}
use Rattle.ledger_model.specs.Whole.{IsWhole}
use Rattle.ledger_model.specs.Recovered.{IsLineOf}
use Rattle.block_form.specs.declared.checked.CheckedBlock.{CheckedBlock}
use Rattle.block_form.specs.Hashed.{IsCheckedAs}
use Rattle.journal_text.specs.Lines.{IsLineRead}
use Rattle.journal_text.proofs.Readings.{one_value, front, line_from}

no_end : (ys : List ℕ) (z : ℕ) → [] ≡ ys ++ z ∷ [] → ⊥
no_end [] z e = cc
no_end (y ∷ ys) z e = cc

same_front : (xs ys : List ℕ) (z : ℕ) → xs ++ z ∷ [] ≡ ys ++ z ∷ [] → xs ≡ ys
same_front [] [] z e = refl
same_front [] (y ∷ ys) z e = let h : [] ≡ ys ++ z ∷ [] = cc in absurd (no_end ys z h)
same_front (x ∷ xs) [] z e = let h : [] ≡ xs ++ z ∷ [] = cc in absurd (no_end xs z h)
same_front (x ∷ xs) (y ∷ ys) z e =
    let head : x ≡ y = cc in
    let tail : xs ++ z ∷ [] ≡ ys ++ z ∷ [] = cc in
    let more = same_front xs ys z tail in
    cc

front_is : (text : List ℕ) (b : Block) → IsLineOf (text ++ 10 ∷ []) b → text ≡ front b
front_is text b is = same_front text (front b) 10 is.written

reads_back : WrittenIsRead → (text : List ℕ) (b : Block) → IsLineOf (text ++ 10 ∷ []) b → read_text 256 text ≡ Ok (block_value b ∷ [])
reads_back back text b is =
    subst (λ z. read_text 256 z ≡ Ok (block_value b ∷ [])) (sym (front_is text b is)) (back (block_value b) 256 is.whole.ranges is.whole.depth)

-- a text that gives no one value is that of no block
pub no_value : WrittenIsRead → (text : List ℕ) → ((v : Value) → read_text 256 text ≢ Ok (v ∷ [])) → (b : Block) → IsLineOf (text ++ 10 ∷ []) b → ⊥
no_value back text none b is = none (block_value b) (reads_back back text b is)

value_is : WrittenIsRead → (text : List ℕ) (v : Value) (b : Block) → read_text 256 text ≡ Ok (v ∷ []) → IsLineOf (text ++ 10 ∷ []) b → v ≡ block_value b
value_is back text v b reads is = one_value (read_text 256 text) v (block_value b) reads (reads_back back text b is)

-- nor is one whose value is that of no whole block
no_block : WrittenIsRead → (text : List ℕ) (v : Value) → read_text 256 text ≡ Ok (v ∷ []) → ((b : Block) → IsWhole b → v ≢ block_value b) → (b : Block) → IsLineOf (text ++ 10 ∷ []) b → ⊥
no_block back text v reads none b is = none b is.whole (value_is back text v b reads is)

-- nor one that isn't written of its value
pub not_written : WrittenIsRead → (text : List ℕ) (v : Value) → read_text 256 text ≡ Ok (v ∷ []) → text ≢ value_text v → (b : Block) → IsLineOf (text ++ 10 ∷ []) b → ⊥
not_written back text v reads other b is = other (front_is text b is ∙ ap value_text (sym (value_is back text v b reads is)))

line_is : ReadIsWithin → (text : List ℕ) (v : Value) (b : Block) → read_text 256 text ≡ Ok (v ∷ []) → v ≡ block_value b → (IsTrue (within v) → IsWhole b) → text ≡ value_text v → IsLineOf (text ++ 10 ∷ []) b
line_is ranges text v b reads is whole written =
    let all : list_all within (v ∷ []) ≡ true = ranges 256 text (v ∷ []) reads in
    line_from text b (whole (and_parts (within v) _ all).0) (written ∙ ap value_text is)

-- what is read of the value of a text that is written of it is what is read of the line
pub line_read : WrittenIsRead → ReadIsWithin → (text : List ℕ) (v : Value) (found : Option CheckedBlock) → read_text 256 text ≡ Ok (v ∷ []) → text ≡ value_text v → IsCheckedAs v found → IsLineRead (text ++ 10 ∷ []) found
line_read back ranges text v (Some c) reads written is = (line_is ranges text v c.block reads is.0.0 is.0.1 written, is.1)
line_read back ranges text v None reads written is = no_block back text v reads is
