use Rattle.std.proofs.Common.{◌≡◌, ◌≤◌, ◌<◌, ◌+◌, ◌==◌, ◌&&◌, nat_lt, ℕ, Bool, true, false, List, [], ◌∷◌, ◌++◌, length, refl, ap, sym, subst, ◌∙◌, arith}
use Rattle.std.proofs.lemmas.Bool.{and_cases, eqb-false, ltb-false}
use Rattle.std.proofs.lemmas.List.{append-nil, append_assoc}
use Rattle.ion_model.specs.Lex.{lex}
use Rattle.ion_model.specs.Spans.{span_of}
use Rattle.ion_model.specs.declared.Lexed.{Lexed}
use Rattle.ion_model.specs.declared.Lexed.TheVariants as lexed
use Rattle.ion_pieces.specs.Fronts.{EndsWhite, IsFront, Stands, may_go_on}
use Rattle.ion_pieces.proofs.Stays.{Stays, lex_stays}
use Rattle.ion_pieces.proofs.tokens.lex_front.Goals as goal
use Rattle.ion_pieces.proofs.tokens.lex_front.Goals.{else-not-whole-via-then-not-whole+else-may_go_on, else-not-whole-via-else-not-whole}

-- nothing follows
alone : (z more : List ℕ) (l : Lexed) → l ≡ lex z → more ≡ [] → lex (z ++ more) ≡ l
alone z more l is none = rw none (ap lex (append-nil z) ∙ sym is)

whole_stands : (z : List ℕ) (l : Lexed) → l ≡ lex z → span_of l ≤ length z → Stands true z l
whole_stands z lexed.Cut is room = λ _. sym is
whole_stands z (lexed.Blank more) is room = (room, λ rest none. alone z rest (lexed.Blank more) is none)
whole_stands z (lexed.Token t more) is room = (room, λ rest none. alone z rest (lexed.Token t more) is none)
whole_stands z (lexed.Refused k) is room = (room, λ rest none. alone z rest (lexed.Refused k) is none)

-- the front ends in white space
stays : (z more : List ℕ) → EndsWhite z → Stays (length z) (lex z) (lex (z ++ more))
stays z more ends =
    let longer : z ++ more ≡ ends.before ++ ends.white ∷ more = ap (λ y. y ++ more) ends.ends ∙ append_assoc ends.before (ends.white ∷ []) more in
    rw (longer, ends.ends) (lex_stays ends.white ends.is more ends.before)

goes_not_on : (more len : ℕ) → more + 1 ≤ len → (nat_lt 0 more && (more + 1 == len)) ≡ false → 0 < more → more + 1 < len
goes_not_on more len room other some = grind (arith, and_cases, eqb-false, ltb-false)

front_stands : (z : List ℕ) (l : Lexed) → EndsWhite z → l ≡ lex z → span_of l ≤ length z → may_go_on l (length z) ≡ false → Stands false z l
front_stands z lexed.Cut ends is room done = λ no. absurd (cc)
front_stands z (lexed.Blank more) ends is room done =
    (room, λ rest _. subst (λ l. Stays (length z) l (lex (z ++ rest))) (sym is) (stays z rest ends) (goes_not_on more (length z) room done))
front_stands z (lexed.Token t more) ends is room done = (room, λ rest _. subst (λ l. Stays (length z) l (lex (z ++ rest))) (sym is) (stays z rest ends))
front_stands z (lexed.Refused k) ends is room done = (room, λ rest _. subst (λ l. Stays (length z) l (lex (z ++ rest))) (sym is) (stays z rest ends))

stands : (whole : Bool) (z : List ℕ) (l : Lexed) → IsFront whole z → l ≡ lex z → span_of l ≤ length z → (whole ≡ false → may_go_on l (length z) ≡ false) → Stands whole z l
stands true z l front is room done = whole_stands z l is room
stands false z l front is room done = front_stands z l front is room (done refl)

pub returns : goal.returns
returns c =
    let l = c.in_ok-lexed.lexed in
    let len = length c.args.bytes.now in
    let done : c.args.whole ≡ false → may_go_on l len ≡ false =
    λ part. elim c.else-not-whole.branch [
      | else-not-whole-via-then-not-whole+else-may_go_on w ↦ sym w.may_go_on.ensures ∙ w.if-may_go_on.false
      | else-not-whole-via-else-not-whole w ↦ absurd (let no = w.if-not-whole.false in cc)
    ] in
    stands c.args.whole c.args.bytes.now l c.requires c.in_ok-lexed.ensures.value c.in_ok-lexed.ensures.within done
