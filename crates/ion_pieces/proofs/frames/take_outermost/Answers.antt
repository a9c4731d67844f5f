use Rattle.std.proofs.Common.{◌≡◌, ◌&&◌, ◌<◌, Bool, true, false, List, [], ◌∷◌, length, reverse, get_or, set, refl, ap, sym, ◌∙◌, arith}
use Rattle.std.specs.List.{list_all}
use Rattle.std.proofs.lemmas.Bool.{and_right}
use Rattle.std.proofs.lemmas.List.{reverse-append}
use Rattle.std.proofs.lemmas.List.Folds.{list_all-append}
use Rattle.ion_values.specs.Within.{within}
use Rattle.ion_values.specs.declared.value.Value.{Value}
use Rattle.ion_model.specs.Table.{Open}
use Rattle.ion_model.specs.declared.Frame.{Frame}
use Rattle.ion_pieces.specs.Frames.{frame_within, frames_within, led_frame, led_open}
use Rattle.ion_pieces.proofs.Led.{outermost_led}
use Rattle.ion_pieces.proofs.frames.take_outermost.Goals as goal

-- the first frame in place of one with the values in front
first_led :
    (vs : List Value) (inner f g : Frame) (xs : List Frame) → 0 < length xs → f ≡ get_or xs 0 f → f ≡ led_frame vs g →
    inner ∷ reverse xs ≡ led_open vs (inner ∷ reverse (set xs 0 g))
first_led vs inner f g [] some is led = absurd (omega arith)
first_led vs inner f g (h ∷ xs) some is led =
    ap (λ k. let all : Open = inner ∷ reverse (k ∷ xs) in all) (sym is ∙ led) ∙ outermost_led vs inner g xs

all_of : (f : Frame) (xs : List Frame) → frames_within (reverse (f ∷ xs)) ≡ (frames_within (reverse xs) && (frame_within f && true))
all_of f xs = ap frames_within (reverse-append (f ∷ []) xs) ∙ list_all-append frame_within (reverse xs) (f ∷ [])

regrouped : (a r v g : Bool) → (a && (r && ((v && g) && true))) ≡ (v && (a && (r && (g && true))))
regrouped a r true g = refl
regrouped a r false g = and_right a _ (and_right r false refl)

first_within :
    (vs : List Value) (inner f g : Frame) (xs : List Frame) → 0 < length xs → f ≡ get_or xs 0 f → frame_within f ≡ (list_all within vs && frame_within g) →
    frames_within (inner ∷ reverse xs) ≡ (list_all within vs && frames_within (inner ∷ reverse (set xs 0 g)))
first_within vs inner f g [] some is both = absurd (omega arith)
first_within vs inner f g (h ∷ xs) some is both =
    rw (all_of h xs, all_of g xs, sym is, both) (regrouped (frame_within inner) (frames_within (reverse xs)) (list_all within vs) (frame_within g))

pub returns-in-Some-clause-led : goal.returns-in-Some-clause-led
returns-in-Some-clause-led c =
    first_led c.take_values.result c.args.reader.now.inner c.in-Some.outermost.now c.take_values.new.frame c.args.reader.now.outer.items
    c.in-Some.ensures.item.3.0 c.in-Some.ensures.value c.take_values.ensures.led

pub returns-in-Some-clause-within : goal.returns-in-Some-clause-within
returns-in-Some-clause-within c =
    first_within c.take_values.result c.args.reader.now.inner c.in-Some.outermost.now c.take_values.new.frame c.args.reader.now.outer.items
    c.in-Some.ensures.item.3.0 c.in-Some.ensures.value c.take_values.ensures.within
