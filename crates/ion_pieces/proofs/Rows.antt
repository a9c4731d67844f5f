-- Rows of text that is read in pieces.
use Rattle.std.proofs.Common.{◌≡◌, ◌∷◌, true, false, List, [], Ok, codes, refl}
use Rattle.ion_values.specs.declared.value.Value.{Value}
use Rattle.ion_model.specs.Lex.{lex}
use Rattle.ion_model.specs.Texts.{lex_string}
use Rattle.ion_model.specs.Table.{opened, start}
use Rattle.ion_model.specs.declared.Frame.{Frame}
use Rattle.ion_model.specs.declared.Members.TheVariants as members
use Rattle.ion_model.specs.declared.Lexed.TheVariants as lexed
use Rattle.ion_pieces.specs.Frames.{led_open}
use Rattle.ion_pieces.specs.Fronts.{may_go_on}
use Rattle.ion_pieces.specs.Pieces.{led}

-- ---- tokens

comment_goes_on : may_go_on (lex (codes "//a ")) 4 ≡ true
unfolding lex
comment_goes_on = refl

comment_has_ended : may_go_on (lex (codes "/**/ ")) 5 ≡ false
unfolding lex
comment_has_ended = refl

string_is_cut : lex (codes "\"a ") ≡ lexed.Cut
unfolding lex lex_string
string_is_cut = refl

word_stays : lex (codes "null .int") ≡ lex (codes "null ")
unfolding lex
word_stays = refl

-- ---- values

values_lead : (v w : Value) → led (v ∷ []) (Ok (w ∷ [])) ≡ Ok (v ∷ w ∷ [])
values_lead v w = refl

-- they stand in the whole text, and not in the list that is open in it
outermost_leads : (v : Value) (f : Frame) → led_open (v ∷ []) (f ∷ start) ≡ f ∷ opened (members.Stream (v ∷ [])) ∷ []
outermost_leads v f = refl
