-- Clobs of segments, which are read from front to back.
use Rattle.std.proofs.Common.{◌≡◌, ℕ, suc, ◌+◌, true, false, List, [], ◌∷◌, ◌++◌, Option, Some, None, codes, option_map, option_and_then, take, drop, length, inl, inr, refl, ap, sym, ◌∙◌, arith}
use Rattle.std.specs.List.{prefix_len}
use Rattle.std.proofs.lemmas.Bool.{cases_Bool}
use Rattle.std.proofs.lemmas.Bool.Decides.{nat_tests}
use Rattle.std.proofs.lemmas.List.{drop-drop}
use Rattle.ion_model.specs.Blanks.{is_space}
use Rattle.ion_model.specs.Escapes.{piece, clob_escape}
use Rattle.ion_model.specs.Texts.{before, long, pieces}
use Rattle.ion_model.specs.Lobs.{begins_segment, clob_content, clob_segment, long_clob, without_white}
use Rattle.ion_lexer.proofs.Reading.{Reads, none_in_front, piece_read}

nothing_given : (o : Option (List ℕ)) → option_map (λ more. [] ++ more) o ≡ o
nothing_given None = refl
nothing_given (Some more) = refl

-- white space gives nothing
pub white_passed : (z : List ℕ) → pieces long_clob 0 (without_white z) ≡ pieces long_clob 0 z
white_passed [] = refl
white_passed (b ∷ z) =
    let n = prefix_len is_space z in
    elim (cases_Bool (is_space b)) [
      | inl white ↦
          let len : prefix_len is_space (b ∷ z) ≡ suc n = rw white (omega arith) in
          rw (len, white) (white_passed z ∙ sym (nothing_given (pieces long_clob 0 z)))
      | inr other ↦ let none : prefix_len is_space (b ∷ z) ≡ 0 = rw other in rw none
    ]

segment_marks : (z : List ℕ) → begins_segment z ≡ true → z ≡ 39 ∷ 39 ∷ 39 ∷ drop 3 z
segment_marks [] h = cc
segment_marks (a ∷ []) h = grind (arith, nat_tests)
segment_marks (a ∷ b ∷ []) h = grind (arith, nat_tests)
segment_marks (a ∷ b ∷ c ∷ z) h = grind (arith, nat_tests)

-- behind white space no white space comes
not_white : (z : List ℕ) (b : ℕ) (more : List ℕ) → without_white z ≡ b ∷ more → is_space b ≡ false
not_white [] b more e = cc
not_white (a ∷ z) b more e =
    elim (cases_Bool (is_space a)) [
      | inl white ↦
          let len : prefix_len is_space (a ∷ z) ≡ suc (prefix_len is_space z) = rw white (omega arith) in
          not_white z b more (sym (ap (λ n. drop n (a ∷ z)) len) ∙ e)
      | inr other ↦
          let none : prefix_len is_space (a ∷ z) ≡ 0 = rw other in
          let same : a ∷ z ≡ b ∷ more = sym (ap (λ n. drop n (a ∷ z)) none) ∙ e in
          let first : a ≡ b = cc in
          rw first at other
    ]

pub at_segments : (out rest z : List ℕ) (whole : Option (List ℕ)) → Reads long_clob out rest whole → z ≡ without_white rest → Reads long_clob out z whole
at_segments out rest z whole reads e = rw e (ap (option_map (λ more. out ++ more)) (white_passed rest) ∙ reads)

pub no_segment :
    (out rest z : List ℕ) (whole : Option (List ℕ)) → Reads long_clob out rest whole → z ≡ without_white rest → (length z ≡ 0 → ⊥) →
    begins_segment z ≡ false → None ≡ whole
no_segment out rest [] whole reads e some other = absurd (some refl)
no_segment out rest (b ∷ more) whole reads e some other =
    let dark : is_space b ≡ false = not_white rest b more (sym e) in
    let none : None ≡ long_clob b more = rw (dark, other) in
    none_in_front long_clob out (b ∷ more) whole b more (at_segments out rest (b ∷ more) whole reads e) refl none

-- the quotes in front, and what stands behind them
cut : (z content : List ℕ) → begins_segment z ≡ true → content ≡ drop 3 z → z ≡ 39 ∷ 39 ∷ 39 ∷ content
cut z content begins e = segment_marks z begins ∙ ap (λ more. 39 ∷ 39 ∷ 39 ∷ more) (sym e)

pub unclosed_segment :
    (out rest z content : List ℕ) (whole : Option (List ℕ)) → Reads long_clob out rest whole → z ≡ without_white rest →
    begins_segment z ≡ true → content ≡ drop 3 z → None ≡ before (codes "'''") false content → None ≡ whole
unclosed_segment out rest z content whole reads e begins content_is none =
    none_in_front long_clob out z whole 39 (39 ∷ 39 ∷ content) (at_segments out rest z whole reads e) (cut z content begins content_is)
    (ap (option_and_then (clob_segment content)) none)

pub bad_segment :
    (out rest z content text : List ℕ) (len : ℕ) (whole : Option (List ℕ)) → Reads long_clob out rest whole → z ≡ without_white rest →
    begins_segment z ≡ true → content ≡ drop 3 z → Some len ≡ before (codes "'''") false content → text ≡ take len content →
    None ≡ clob_content (long clob_escape) text → None ≡ whole
bad_segment out rest z content text len whole reads e begins content_is closes text_is none =
    none_in_front long_clob out z whole 39 (39 ∷ 39 ∷ content) (at_segments out rest z whole reads e) (cut z content begins content_is)
    (ap (option_map (piece (len + 5))) (none ∙ ap (clob_content (long clob_escape)) text_is) ∙ ap (option_and_then (clob_segment content)) closes)

pub segment_read :
    (out rest z content text others read new rest' : List ℕ) (len : ℕ) (whole : Option (List ℕ)) → Reads long_clob out rest whole → z ≡ without_white rest →
    begins_segment z ≡ true → content ≡ drop 3 z → Some len ≡ before (codes "'''") false content → text ≡ take len content →
    others ≡ drop len content → Some read ≡ clob_content (long clob_escape) text → new ≡ out ++ read → rest' ≡ drop 3 others → Reads long_clob new rest' whole
segment_read out rest z content text others read new rest' len whole reads e begins content_is closes text_is others_is some new_is rest_is =
    let place : rest' ≡ drop (len + 5) (39 ∷ 39 ∷ content) =
    rest_is ∙ ap (drop 3) others_is ∙ drop-drop 3 len content ∙ ap (λ k. drop k content) (omega arith)
    ∙ ap (λ k. drop k (39 ∷ 39 ∷ content)) (let more : suc (suc (len + 3)) ≡ len + 5 = omega arith in more) in
    piece_read long_clob out z new rest' whole 39 (39 ∷ 39 ∷ content) (piece (len + 5) read) (at_segments out rest z whole reads e) (cut z content begins content_is)
    (ap (option_map (piece (len + 5))) (some ∙ ap (clob_content (long clob_escape)) text_is) ∙ ap (option_and_then (clob_segment content)) closes) new_is place
