-- What a text gives is the same before and behind each step of its reading.
use Rattle.std.proofs.Common.{◌≡◌, ◌+◌, ℕ, Bool, true, false, List, [], ◌∷◌, ◌++◌, length, length-append, length-drop, drop, Ok, Err, if◌then◌else◌, refl, ap, sym, ◌∙◌, arith}
use Rattle.std.specs.Str.{is_utf8}
use Rattle.std.specs.Str.Lossy.{utf8_valid_len}
use Rattle.std.proofs.lemmas.List.{append_assoc}
use Rattle.ion_values.specs.declared.fault.IonFault.{IonFault}
use Rattle.ion_values.specs.declared.fault.IonKind.{IonKind}
use Rattle.ion_values.specs.declared.fault.IonKind.TheVariants as fault
use Rattle.ion_values.specs.declared.value.Value.{Value}
use Rattle.ion_model.specs.Table.{Open, start}
use Rattle.ion_model.specs.Read.{Answer, read_text, refused, run}
use Rattle.ion_text.specs.Stream.{open_of}
use Rattle.ion_pieces.specs.Checks.{ill_formed_at}
use Rattle.ion_pieces.specs.Frames.{led_open}
use Rattle.ion_pieces.specs.Fronts.{EndsWhite, Stops}
use Rattle.ion_pieces.specs.Pieces.{answer_in, first_fault, if_utf8, led}
use Rattle.ion_pieces.specs.declared.frames.Frames.{Frames}
use Rattle.ion_pieces.specs.declared.held.Known.{Known}
use Rattle.ion_pieces.specs.declared.held.Known.TheVariants as known
use Rattle.ion_pieces.specs.declared.tokens.Stop.TheVariants as stop
use Rattle.ion_pieces.proofs.Led.{run_led}
use Rattle.ion_pieces.proofs.Utf8.{utf8_behind, valid_behind, ill_formed_front, valid_front_len}

-- ---- bytes that are UTF-8 or not

if_place : (t : Bool) (a : Answer) (m n : ℕ) → (t ≡ false → m ≡ n) → (if t then a else refused m fault.NotUtf8) ≡ (if t then a else refused n fault.NotUtf8)
if_place true a m n h = refl
if_place false a m n h = ap (λ k. refused k fault.NotUtf8) (h refl)

utf8_passed : (at : ℕ) (a b : List ℕ) (answer : Answer) → is_utf8 a ≡ true → if_utf8 at (a ++ b) answer ≡ if_utf8 (at + length a) b answer
utf8_passed at a b answer h =
    rw (utf8_behind a b h)
    (if_place (is_utf8 b) answer (at + utf8_valid_len (a ++ b)) (at + length a + utf8_valid_len b) (λ other. let same = valid_behind a b h other in omega arith))

utf8_fails : (at : ℕ) (a b : List ℕ) (answer : Answer) → EndsWhite a → is_utf8 a ≡ false → if_utf8 at (a ++ b) answer ≡ Err (ill_formed_at at a)
utf8_fails at a b answer ends other = rw (ill_formed_front a b ends other, valid_front_len a b ends other)

-- ---- more bytes

-- they may be held where they are UTF-8
pub extended : (depth : ℕ) (k : Known) (at : ℕ) (held more z : List ℕ) → is_utf8 more ≡ true → answer_in depth k at held (more ++ z) ≡ answer_in depth k at (held ++ more) z
extended depth (known.Open frames) at held more z h =
    let place : at + length held + length more ≡ at + length (held ++ more) = omega (arith, length-append held more) in
    utf8_passed (at + length held) more z (run depth 0 at (open_of frames.reader) (held ++ (more ++ z))) h
    ∙ ap (λ n. if_utf8 n z (run depth 0 at (open_of frames.reader) (held ++ (more ++ z)))) place
    ∙ ap (λ y. if_utf8 (at + length (held ++ more)) z (run depth 0 at (open_of frames.reader) y)) (sym (append_assoc held more z))
extended depth (known.Refused f) at held more z h =
    let place : at + length held + length more ≡ at + length (held ++ more) = omega (arith, length-append held more) in
    utf8_passed (at + length held) more z (Err f) h ∙ ap (λ n. if_utf8 n z (Err f)) place
extended depth (known.NotUtf8 f) at held more z h = refl

-- and else they are a fault
pub ill_formed_behind :
    (depth : ℕ) (k : Known) (at : ℕ) (held more z : List ℕ) → EndsWhite more → is_utf8 more ≡ false →
    answer_in depth k at held (more ++ z) ≡ first_fault k (ill_formed_at (at + length held) more)
ill_formed_behind depth (known.Open frames) at held more z ends other = utf8_fails (at + length held) more z _ ends other
ill_formed_behind depth (known.Refused f) at held more z ends other = utf8_fails (at + length held) more z _ ends other
ill_formed_behind depth (known.NotUtf8 f) at held more z ends other = refl

-- ---- tokens

-- behind those that were read
pub waited :
    (depth : ℕ) (frames new : Frames) (at passed : ℕ) (held z : List ℕ) → Stops depth (open_of frames.reader) false held (stop.Waits new passed) →
    answer_in depth (known.Open frames) at held z ≡ answer_in depth (known.Open new) (at + passed) (drop passed held) z
waited depth frames new at passed held z h =
    let place : at + length held ≡ at + passed + length (drop passed held) = let room = h.0 in omega (arith, length-drop passed held) in
    ap (λ n. if_utf8 n z (run depth 0 at (open_of frames.reader) (held ++ z))) place
    ∙ ap (λ a. if_utf8 (at + passed + length (drop passed held)) z a) (h.1 at z tt)

nothing_held : (at : ℕ) (z : List ℕ) (a : Answer) → if_utf8 at z a ≡ if_utf8 (at + 0) z a
nothing_held at z a = ap (λ n. if_utf8 n z a) (let same : at ≡ at + 0 = omega arith in same)

-- and behind one that is refused
pub refused_behind :
    (depth : ℕ) (frames : Frames) (at place : ℕ) (kind : IonKind) (held z : List ℕ) → Stops depth (open_of frames.reader) false held (stop.Refused place kind) →
    answer_in depth (known.Open frames) at held z ≡ answer_in depth (known.Refused (record { at = at + place; kind = kind })) (at + length held) [] z
refused_behind depth frames at place kind held z h =
    ap (λ a. if_utf8 (at + length held) z a) (h at z tt) ∙ nothing_held (at + length held) z (refused (at + place) kind)

-- what is held behind a fault is let go of
pub let_go_refused : (depth : ℕ) (f : IonFault) (at : ℕ) (held z : List ℕ) → answer_in depth (known.Refused f) at held z ≡ answer_in depth (known.Refused f) (at + length held) [] z
let_go_refused depth f at held z = nothing_held (at + length held) z (Err f)

-- ---- values

led_utf8 : (vs : List Value) (at : ℕ) (z : List ℕ) (a : Answer) → if_utf8 at z (led vs a) ≡ led vs (if_utf8 at z a)
led_utf8 vs at z a = elim (is_utf8 z) as (λ t. (if t then led vs a else refused (at + utf8_valid_len z) fault.NotUtf8) ≡ led vs (if t then a else refused (at + utf8_valid_len z) fault.NotUtf8)) [ true ↦ refl | false ↦ refl ]

pub handed_out :
    (depth : ℕ) (vs : List Value) (frames new : Frames) → open_of frames.reader ≡ led_open vs (open_of new.reader) →
    (at : ℕ) (held z : List ℕ) → answer_in depth (known.Open frames) at held z ≡ led vs (answer_in depth (known.Open new) at held z)
handed_out depth vs frames new same at held z =
    ap (λ fs. if_utf8 (at + length held) z (run depth 0 at fs (held ++ z))) same
    ∙ ap (λ a. if_utf8 (at + length held) z a) (run_led vs depth 0 at (open_of new.reader) (held ++ z))
    ∙ led_utf8 vs (at + length held) z (run depth 0 at (open_of new.reader) (held ++ z))

pub led_none : (a : Answer) → a ≡ led [] a
led_none (Ok ws) = refl
led_none (Err f) = refl

-- ---- the end of the text

pub ended : (depth : ℕ) (frames : Frames) (at : ℕ) (held rest : List ℕ) → is_utf8 rest ≡ true → answer_in depth (known.Open frames) at held rest ≡ run depth 0 at (open_of frames.reader) (held ++ rest)
ended depth frames at held rest h = rw h refl

pub ended_refused : (depth : ℕ) (f : IonFault) (at : ℕ) (held rest : List ℕ) → is_utf8 rest ≡ true → answer_in depth (known.Refused f) at held rest ≡ Err f
ended_refused depth f at held rest h = rw h refl

-- ---- the beginning

pub new_gives : (depth : ℕ) (held text : List ℕ) (fs : Open) → held ≡ [] → fs ≡ start → if_utf8 (0 + length held) text (run depth 0 0 fs (held ++ text)) ≡ read_text depth text
unfolding read_text
new_gives depth held text fs e h = rw (e, h) (if_place (is_utf8 text) (run depth 0 0 start text) (0 + 0 + utf8_valid_len text) (utf8_valid_len text) (λ _. omega arith))

-- bytes that end in white space, behind others
pub ends_behind : (a b : List ℕ) → EndsWhite b → EndsWhite (a ++ b)
ends_behind a b h = record { before = a ++ h.before; white = h.white; is = h.is; ends = ap (λ y. a ++ y) h.ends ∙ sym (append_assoc a h.before (h.white ∷ [])) }
