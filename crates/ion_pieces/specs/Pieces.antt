-- A text that is read in pieces, as far as it was taken (Ion 1.0, "Text encoding").
use Rattle.std.specs.Prelude.{◌+◌, ℕ, List, ◌++◌, length, Ok, Err, if◌then◌else◌}
use Rattle.std.specs.Str.{is_utf8}
use Rattle.std.specs.Str.Lossy.{utf8_valid_len}
use Rattle.ion_values.specs.declared.fault.IonFault.{IonFault}
use Rattle.ion_values.specs.declared.fault.IonKind.TheVariants as fault
use Rattle.ion_values.specs.declared.value.Value.{Value}
use Rattle.ion_model.specs.Read.{Answer, refused, run}
use Rattle.ion_text.specs.Stream.{open_of}
use Rattle.ion_pieces.specs.declared.held.Known.{Known}
use Rattle.ion_pieces.specs.declared.held.Known.TheVariants as known
use Rattle.ion_pieces.specs.declared.held.Held.{Held}
use Rattle.ion_pieces.specs.declared.pieces.PieceReader.{PieceReader}

-- values in front of those of an answer
abbrev pub led : List Value → Answer → Answer
led vs (Ok ws) = Ok (vs ++ ws)
led vs (Err f) = Err f

-- the answer, unless these bytes, the first of which stands at `at`, aren't UTF-8
abbrev pub if_utf8 : ℕ → List ℕ → Answer → Answer
if_utf8 at z answer = if is_utf8 z then answer else refused (at + utf8_valid_len z) fault.NotUtf8

-- What the text gives where the bytes z are still to be seen behind those that are held: a text is refused first where
-- it isn't UTF-8, and else at its first token that may not stand there.
abbrev pub answer_in : ℕ → Known → ℕ → List ℕ → List ℕ → Answer
answer_in depth (known.Open frames) at held z =
    if_utf8 (at + length held) z (run depth 0 at (open_of frames.reader) (held ++ z))
answer_in depth (known.Refused f) at held z = if_utf8 (at + length held) z (Err f)
answer_in depth (known.NotUtf8 f) at held z = Err f

-- the fault of bytes that aren't UTF-8, unless such bytes were seen before
abbrev pub first_fault : Known → IonFault → Answer
first_fault (known.NotUtf8 f) new = Err f
first_fault (known.Open frames) new = Err new
first_fault (known.Refused f) new = Err new

abbrev pub held_gives : ℕ → Held → List ℕ → Answer
held_gives depth h z = answer_in depth h.known h.at h.bytes.items z

-- What the text gives, without the values that were handed out, where it ends behind these bytes.
abbrev pub gives : PieceReader → List ℕ → Answer
gives r more = held_gives r.depth r.held (r.rest.items ++ more)
