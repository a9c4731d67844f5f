-- The values in open containers stay within their ranges with each token that is.
use Rattle.std.proofs.Common.{◌≡◌, ◌&&◌, ℕ, true, List, [], ◌∷◌, Ok, refl, subst}
use Rattle.std.specs.List.{list_all}
use Rattle.std.proofs.lemmas.Bool.{and_from, and_parts}
use Rattle.ion_values.specs.Within as within
use Rattle.ion_values.specs.Within.{text_within}
use Rattle.ion_values.specs.declared.value.Value.{Value}
use Rattle.ion_model.specs.Table as table
use Rattle.ion_model.specs.Table.{Open, Taken}
use Rattle.ion_model.specs.Read.{finish}
use Rattle.ion_model.specs.declared.Frame.{Frame}
use Rattle.ion_model.specs.declared.Last.{Last}
use Rattle.ion_model.specs.declared.Last.TheVariants as last
use Rattle.ion_model.specs.declared.Members.{Members}
use Rattle.ion_model.specs.declared.Members.TheVariants as members
use Rattle.ion_model.specs.declared.Token.{Token}
use Rattle.ion_text.proofs.TokensWithin.{token_within}
use Rattle.ion_text.proofs.ReadWithin.{AllFine, AnswerWithin, Fine, FineTaken, LastWithin, MembersWithin, accept_taken, finish_within, opened_fine}
use Rattle.ion_pieces.specs.Frames.{members_within, last_within, frame_within, frames_within}

-- ---- the tests

members_tell : (ms : Members) → members_within ms ≡ true → MembersWithin ms
members_tell (members.Stream vs) h = h
members_tell (members.List vs) h = h
members_tell (members.Sexp vs) h = h
members_tell (members.Struct fs) h = h

members_told : (ms : Members) → MembersWithin ms → members_within ms ≡ true
members_told (members.Stream vs) h = h
members_told (members.List vs) h = h
members_told (members.Sexp vs) h = h
members_told (members.Struct fs) h = h

last_tells : (l : Last) → last_within l ≡ true → LastWithin l
last_tells (last.Symbol text quoted) h = h
last_tells (last.LongString text) h = h
last_tells _ h = tt

last_told : (l : Last) → LastWithin l → last_within l ≡ true
last_told (last.Symbol text quoted) h = h
last_told (last.LongString text) h = h
last_told _ h = refl

frame_tells : (f : Frame) → frame_within f ≡ true → Fine f
frame_tells f h =
    let three = and_parts (members_within f.members && text_within f.name && list_all text_within f.annotations) (last_within f.last) h in
    let two = and_parts (members_within f.members && text_within f.name) (list_all text_within f.annotations) three.0 in
    let one = and_parts (members_within f.members) (text_within f.name) two.0 in
    record { members = members_tell f.members one.0; name = one.1; annotations = two.1; last = last_tells f.last three.1 }

frame_told : (f : Frame) → Fine f → frame_within f ≡ true
frame_told f h =
    and_from (members_within f.members && text_within f.name && list_all text_within f.annotations) (last_within f.last)
    (and_from (members_within f.members && text_within f.name) (list_all text_within f.annotations)
    (and_from (members_within f.members) (text_within f.name) (members_told f.members h.members) h.name) h.annotations)
    (last_told f.last h.last)

frames_tell : (fs : Open) → frames_within fs ≡ true → AllFine fs
frames_tell [] h = tt
frames_tell (f ∷ fs) h = let both = and_parts (frame_within f) (frames_within fs) h in (frame_tells f both.0, frames_tell fs both.1)

frames_told : (fs : Open) → AllFine fs → frames_within fs ≡ true
frames_told [] h = refl
frames_told (f ∷ fs) h = and_from (frame_within f) (frames_within fs) (frame_told f h.0) (frames_told fs h.1)

taken_told : (fs : Open) (taken : Taken) → taken ≡ Ok fs → FineTaken taken → frames_within fs ≡ true
taken_told fs taken e h = frames_told fs (subst FineTaken e h)

-- the containers that are open behind a token
pub accept_within : (depth : ℕ) (fs gs : Open) (t : Token) → token_within t ≡ true → frames_within fs ≡ true → table.accept depth fs t ≡ Ok gs → frames_within gs ≡ true
accept_within depth fs gs t k h e = taken_told gs (table.accept depth fs t) e (accept_taken depth fs t k (frames_tell fs h))

-- the values at the end of the text
pub values_at_end : (at : ℕ) (fs : Open) (vs : List Value) → frames_within fs ≡ true → finish at fs ≡ Ok vs → list_all within.within vs ≡ true
values_at_end at fs vs h e = subst AnswerWithin e (finish_within at fs (frames_tell fs h))

-- nothing is open but the text
pub start_within : frames_within table.start ≡ true
start_within = frames_told table.start (opened_fine (members.Stream []) refl, tt)
