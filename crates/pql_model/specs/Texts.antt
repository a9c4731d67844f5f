-- Texts (PartiQL, `||`, LIKE and CHAR_LENGTH; that symbols and strings alike are texts is the ledger's own).
-- Characters are Unicode code points. In a pattern `%` is any run of characters and `_` one character.
use Rattle.std.specs.Prelude.{ℕ, pos, ◌==◌, ◌&&◌, ◌||◌, Bool, true, false, List, [], ◌∷◌, ◌++◌, length, if◌then◌else◌}
use Rattle.std.specs.Option.{option_map_or}
use Rattle.std.specs.declared.option.Option.{Option}
use Rattle.std.specs.declared.option.Option.TheVariants.{None, Some}
use Rattle.std.specs.Str.{chars}
use Rattle.ion_values.specs.declared.value.Value.{Value}
use Rattle.ion_values.specs.declared.value.Body.TheVariants as body
use Rattle.ion_values.specs.declared.value.Body.TheOpen.{Body-F}
use Rattle.pql_model.specs.declared.scope.Evaluated.{Evaluated}
use Rattle.pql_model.specs.declared.scope.Evaluated.TheVariants.{Missing}
use Rattle.pql_model.specs.Made.{Seen, seen, answer, truth, null, is_null, onward, of_two}

-- the bytes of a text
abbrev pub text_seen : Seen → Option (List ℕ)
text_seen (Body-F.Symbol text) = Some text
text_seen (Body-F.String text) = Some text
text_seen _ = None

abbrev pub text_of : Value → Option (List ℕ)
text_of v = text_seen (seen v)

-- the second behind the first, as a string; MISSING where a side is no text
abbrev pub joined : Value → Value → Evaluated
joined v w = of_two (λ a b. answer (body.String (a ++ b))) (text_of v) (text_of w) Missing

-- whether some end of the text passes, the whole and the empty one included
abbrev pub some_end : (List ℕ → Bool) → List ℕ → Bool
some_end passes [] = passes []
some_end passes (c ∷ cs) = passes (c ∷ cs) || some_end passes cs

-- a first character there is, which the pattern's takes, and the rest passes
abbrev pub one_taken : (ℕ → Bool) → (List ℕ → Bool) → List ℕ → Bool
one_taken takes passes [] = false
one_taken takes passes (c ∷ cs) = takes c && passes cs

abbrev pub is_empty : List ℕ → Bool
is_empty [] = true
is_empty (c ∷ cs) = false

-- a percent sign before a pattern that the rest passes
abbrev pub begun : ℕ → (List ℕ → Bool) → List ℕ → Bool
begun p passes text =
    if p == 37 then some_end passes text else one_taken (λ c. (p == 95) || (p == c)) passes text

-- whether the characters fit the pattern's
unfoldable pub fits : List ℕ → List ℕ → Bool
fits [] text = is_empty text
fits (p ∷ ps) text = begun p (fits ps) text

-- the text first, and then the pattern
abbrev pub like : Value → Value → Evaluated
like v w = of_two (λ text pattern. truth (fits (chars pattern) (chars text))) (text_of v) (text_of w) Missing

-- NULL for null, the number of characters of a text, else MISSING
abbrev pub length_of : Value → Evaluated
length_of v =
    if is_null v then null else option_map_or (λ text. answer (body.Int (pos (length (chars text)))))
    (text_of v) Missing

abbrev pub char_length : Evaluated → Evaluated
char_length = onward length_of
