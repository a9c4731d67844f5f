-- The values that an Ion text gives, or where and why it is refused (Ion 1.0, "Text encoding").
use Rattle.std.specs.Prelude.{ℕ, zero, suc, ◌+◌, Bool, true, false, List, [], ◌∷◌, length, Result, Ok, Err, if◌then◌else◌}
use Rattle.std.specs.Str.{is_utf8}
use Rattle.std.specs.Str.Lossy.{utf8_valid_len}
use Rattle.ion_values.specs.declared.fault.IonFault.{IonFault}
use Rattle.ion_values.specs.declared.fault.IonKind.{IonKind}
use Rattle.ion_values.specs.declared.fault.IonKind.TheVariants as fault
use Rattle.ion_values.specs.declared.value.Value.{Value}
use Rattle.ion_model.specs.Lex.{lex}
use Rattle.ion_model.specs.Table.{Open, Taken, start, settled, accept}
use Rattle.ion_model.specs.declared.Members.{Members}
use Rattle.ion_model.specs.declared.Members.TheVariants as members
use Rattle.ion_model.specs.declared.Last.{Last}
use Rattle.ion_model.specs.declared.Last.TheVariants as last
use Rattle.ion_model.specs.declared.Frame.{Frame}
use Rattle.ion_model.specs.declared.Lexed.{Lexed}
use Rattle.ion_model.specs.declared.Lexed.TheVariants as lexed

abbrev pub Answer : Type 0
Answer = Result (List Value) IonFault

abbrev pub refused : ℕ → IonKind → Answer
refused at k = Err (record { at = at; kind = k })

-- a text doesn't end behind an annotation
abbrev pub may_end : Last → Bool
may_end last.Annotation = false
may_end _ = true

abbrev pub values_of : ℕ → Members → Answer
values_of at (members.Stream vs) = Ok vs
values_of at _ = refused at fault.Unclosed

abbrev pub finish_at : ℕ → Frame → Answer
finish_at at f = if may_end f.last then values_of at f.members else refused at fault.Unclosed

-- at the end of the text no container is open
abbrev pub finish : ℕ → Open → Answer
finish at (f ∷ []) = finish_at at (settled f)
finish at _ = refused at fault.Unclosed

-- on to what stands behind the token, or the fault at it
abbrev pub go_on : ℕ → (Open → Answer) → Taken → Answer
go_on at rest (Ok fs) = rest fs
go_on at rest (Err k) = refused at k

-- what the token at `at` makes of the open containers, and then the rest of the text, which ends at `end`
abbrev pub turn : ℕ → ℕ → ℕ → Open → (ℕ → Open → Answer) → Lexed → Answer
turn depth at end fs rest (lexed.Blank more) = rest more fs
turn depth at end fs rest (lexed.Token t more) = go_on at (rest more) (accept depth fs t)
turn depth at end fs rest (lexed.Refused k) = refused at k
turn depth at end fs rest lexed.Cut = refused end fault.Unclosed

-- What the bytes from `at` on give where these containers are open, and the first `left` bytes belong to a token that
-- was read.
abbrev pub run : ℕ → ℕ → ℕ → Open → List ℕ → Answer
run depth left at fs [] = finish at fs
run depth (suc left) at fs (b ∷ z) = run depth left (at + 1) fs z
run depth zero at fs (b ∷ z) =
    turn depth at (at + length (b ∷ z)) fs (λ more gs. run depth more (at + 1) gs z) (lex (b ∷ z))

-- the same for the whole of a text that is UTF-8
abbrev pub read_utf8 : ℕ → List ℕ → Answer
read_utf8 depth bytes = run depth 0 0 start bytes

-- The values of a text whose containers nest at most `depth` deep, or its first fault.
unfoldable pub read_text : ℕ → List ℕ → Answer
read_text depth bytes = if is_utf8 bytes then read_utf8 depth bytes else refused (utf8_valid_len bytes) fault.NotUtf8
