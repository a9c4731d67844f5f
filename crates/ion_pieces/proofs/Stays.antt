-- The token in front of white space stays the same with whatever follows that, unless it isn't complete (Ion 1.0, "Text
-- encoding").
use Rattle.std.proofs.Common.{◌⊎◌, ◌≡◌, ◌≤◌, ◌<◌, ◌+◌, ◌-◌, ◌*◌, ◌==◌, ◌&&◌, ◌||◌, ℕ, suc, Bool, true, false, not, List, [], ◌∷◌, ◌++◌, length, length-append, length-drop, take, drop, codes, Option, Some, None, if◌then◌else◌, inl, inr, refl, ap, sym, subst, ◌∙◌, arith}
use Rattle.std.specs.Char.{is_ascii_digit}
use Rattle.std.specs.List.{filter, list_all, prefix_len}
use Rattle.std.specs.Str.{byte}
use Rattle.std.proofs.lemmas.Bool.{and_from, and_parts, cases_Bool, ne_eqb, not_from_true, or_cases}
use Rattle.std.proofs.lemmas.Bool.Decides.{nat_tests}
use Rattle.std.proofs.lemmas.List.{append_assoc, drop-append-le}
use Rattle.std.proofs.lemmas.List.Folds.{prefix_len-append}
use Rattle.ion_values.specs.declared.fault.IonKind.TheVariants as fault
use Rattle.ion_model.specs.Blanks.{begins, is_line_end, is_space, line_comment, block_comment, enclosed, to_close}
use Rattle.ion_model.specs.Escapes.{Piece, text_escape}
use Rattle.ion_model.specs.Lex.{begins_number, lex, lex_at, lex_mark, lex_run}
use Rattle.ion_model.specs.Lobs.{base64_bytes, before_braces, begins_clob, clob_bytes, clob_hides, lex_blob, lex_clob, lex_lob, lob_token, without_white}
use Rattle.ion_model.specs.Numbers.{is_stop, lex_number}
use Rattle.ion_model.specs.Texts.{before, closed, lex_quoted, lex_segment, lex_string, lex_text, long, pieces, short, text_token}
use Rattle.ion_model.specs.Words.{begins_word, is_end_at, is_infinity, is_operator, is_typed, is_word_char, lex_operator, lex_word, typed_null, word_of}
use Rattle.ion_model.specs.declared.Scalar.TheVariants as scalar
use Rattle.ion_model.specs.declared.Token.{Token}
use Rattle.ion_model.specs.declared.Token.TheVariants as token
use Rattle.ion_model.specs.declared.Lexed.{Lexed}
use Rattle.ion_model.specs.declared.Lexed.TheVariants as lexed
use Rattle.ion_pieces.proofs.Kept.{Keeps, AtMost, is_dark, begins_fits, begins_kept, take_kept, get_kept, first_kept, prefix_kept, prefix_within}
use Rattle.ion_pieces.proofs.Quoted.{close_kept, before_kept, before_within, clob_kept, blob_kept, braces_within}

-- ---- what stays

-- the token of a text of n bytes is that of the longer text; a comment may go on where the text ends
abbrev pub Stays : ℕ → Lexed → Lexed → Type 0
Stays n lexed.Cut l = Unit {0}
Stays n (lexed.Blank more) l = (0 < more → more + 1 < n) → l ≡ lexed.Blank more
Stays n (lexed.Token t more) l = l ≡ lexed.Token t more
Stays n (lexed.Refused k) l = l ≡ lexed.Refused k

same_stays : (n : ℕ) (k l : Lexed) → l ≡ k → Stays n k l
same_stays n lexed.Cut l h = tt
same_stays n (lexed.Blank more) l h = λ _. h
same_stays n (lexed.Token t more) l h = h
same_stays n (lexed.Refused k) l h = h

if_stays : (n : ℕ) (t u : Bool) (a b k l : Lexed) → u ≡ t → (t ≡ true → Stays n a b) → (t ≡ false → Stays n k l) → Stays n (if t then a else k) (if u then b else l)
if_stays n true u a b k l e f g = rw e (f refl)
if_stays n false u a b k l e f g = rw e (g refl)

closed_stays : (n : ℕ) (f g : ℕ → Lexed) (o p : Option ℕ) → Keeps o p → ((k : ℕ) → o ≡ Some k → g k ≡ f k) → Stays n (closed f o) (closed g p)
closed_stays n f g None p h same = tt
closed_stays n f g (Some k) p h same = rw h (same_stays n (f k) (g k) (same k refl))

enclosed_stays : (n : ℕ) (o p : Option ℕ) → Keeps o p → Stays n (enclosed o) (enclosed p)
enclosed_stays n None p h = tt
enclosed_stays n (Some k) p h = λ _. ap enclosed h

within_of : (n k : ℕ) (o : Option ℕ) → AtMost n o → o ≡ Some k → k ≤ n
within_of n k o h e = subst (AtMost n) e h

-- ---- white space

stop_white : (s : ℕ) → is_space s ≡ true → is_stop s ≡ true
stop_white s w = grind (arith, nat_tests)

no_word : (s : ℕ) → is_space s ≡ true → is_word_char s ≡ false
no_word s w = grind (arith, nat_tests)

no_operator : (s : ℕ) → is_space s ≡ true → is_operator s ≡ false
no_operator s w = grind (arith, nat_tests)

-- ---- comments

-- a count that ends before the text does stays
ends_before : (p : ℕ → Bool) (x more : List ℕ) → prefix_len p x < length x → prefix_len p (x ++ more) ≡ prefix_len p x
ends_before p x more h =
    let other : (prefix_len p x == length x) ≡ false = ne_eqb _ _ (λ e. absurd (omega (arith, e))) in
    prefix_len-append p x more ∙ rw other refl

line_stays : (z more : List ℕ) → 2 ≤ length z → Stays (length z) (line_comment z) (line_comment (z ++ more))
line_stays z more h inside =
    let p : ℕ → Bool = λ b. not (is_line_end b) in
    let within : 1 + prefix_len p (drop 2 z) + 1 < length z = inside (omega arith) in
    let longer : drop 2 (z ++ more) ≡ drop 2 z ++ more = drop-append-le 2 z more h in
    ap (λ y. lexed.Blank (1 + prefix_len p y)) longer
    ∙ ap (λ n. lexed.Blank (1 + n)) (ends_before p (drop 2 z) more (omega (arith, length-drop 2 z)))

module _ (s : ℕ) (w : is_space s ≡ true) (more : List ℕ) where
  line_kept : (y : List ℕ) → 2 ≤ length y → Stays (length (y ++ s ∷ [])) (line_comment (y ++ s ∷ [])) (line_comment (y ++ s ∷ more))
  line_kept y h = rw (sym (append_assoc y (s ∷ []) more)) (line_stays (y ++ s ∷ []) more (omega (arith, length-append y (s ∷ []))))

  block_kept : (n : ℕ) (y : List ℕ) → 2 ≤ length y → Stays n (block_comment (y ++ s ∷ [])) (block_comment (y ++ s ∷ more))
  block_kept n y h =
      rw (drop-append-le 2 y (s ∷ []) h, drop-append-le 2 y (s ∷ more) h)
      (enclosed_stays n (to_close (drop 2 y ++ s ∷ [])) (to_close (drop 2 y ++ s ∷ more)) (close_kept s w more (drop 2 y)))

  -- ---- texts

  text_kept :
      (n : ℕ) (quotes : List ℕ) (front : ℕ → List ℕ → Option Piece) (made : List ℕ → Token) (y : List ℕ) → is_dark quotes ≡ true → length quotes ≤ length y →
      Stays n (lex_text quotes front made (y ++ s ∷ [])) (lex_text quotes front made (y ++ s ∷ more))
  text_kept n quotes front made y dark h =
      let x = drop (length quotes) y in
      let given : List ℕ → ℕ → Lexed = λ rest len. text_token made (len + (2 * length quotes - 1)) (pieces front 0 (take len rest)) in
      rw (drop-append-le (length quotes) y (s ∷ []) h, drop-append-le (length quotes) y (s ∷ more) h)
      (closed_stays n (given (x ++ s ∷ [])) (given (x ++ s ∷ more)) (before quotes false (x ++ s ∷ [])) (before quotes false (x ++ s ∷ more))
      (before_kept s w more quotes dark false x)
      (λ len is. ap (λ text. text_token made (len + (2 * length quotes - 1)) (pieces front 0 text))
      (take_kept s more len x (within_of (length x) len _ (before_within s quotes false x) is))))

  string_kept : (n : ℕ) (y : List ℕ) → 1 ≤ length y → Stays n (lex_string (y ++ s ∷ [])) (lex_string (y ++ s ∷ more))
  unfolding lex_string
  string_kept n y h = text_kept n (codes "\"") (short text_escape) token.String y refl h

  quoted_kept : (n : ℕ) (y : List ℕ) → 1 ≤ length y → Stays n (lex_quoted (y ++ s ∷ [])) (lex_quoted (y ++ s ∷ more))
  unfolding lex_quoted
  quoted_kept n y h = text_kept n (codes "'") (short text_escape) (λ text. token.Symbol text true) y refl h

  segment_kept : (n : ℕ) (y : List ℕ) → 3 ≤ length y → Stays n (lex_segment (y ++ s ∷ [])) (lex_segment (y ++ s ∷ more))
  unfolding lex_segment
  segment_kept n y h = text_kept n (codes "'''") (long text_escape) token.Segment y refl h

  -- ---- numbers, words and operators

  number_kept : (y : List ℕ) → lex_number (y ++ s ∷ more) ≡ lex_number (y ++ s ∷ [])
  unfolding lex_number
  number_kept y =
      let p : ℕ → Bool = λ b. not (is_stop b) in
      let stops : p s ≡ false = not_from_true (is_stop s) (stop_white s w) in
      let same = prefix_kept s more p stops y in
      let front = take_kept s more (prefix_len p (y ++ s ∷ [])) y (prefix_within s more p stops y) in
      rw (same, front)

  typed_kept : (y : List ℕ) → 5 ≤ length y → typed_null (y ++ s ∷ more) ≡ typed_null (y ++ s ∷ [])
  typed_kept y h =
      let x = drop 5 y in
      let same = prefix_kept s more is_word_char (no_word s w) x in
      let front = take_kept s more (prefix_len is_word_char (x ++ s ∷ [])) x (prefix_within s more is_word_char (no_word s w) x) in
      rw (drop-append-le 5 y (s ∷ []) h, drop-append-le 5 y (s ∷ more) h, same, front)

  run_of : (p : ℕ → Bool) (b : ℕ) (x : List ℕ) → p s ≡ false → take (prefix_len p (x ++ s ∷ []) + 1) (b ∷ x ++ s ∷ more) ≡ take (prefix_len p (x ++ s ∷ []) + 1) (b ∷ x ++ s ∷ [])
  run_of p b x stops = let room = prefix_within s more p stops x in take_kept s more (prefix_len p (x ++ s ∷ []) + 1) (b ∷ x) (omega arith)

  word_kept : (n b : ℕ) (x : List ℕ) → Stays n (lex_word (b ∷ x ++ s ∷ [])) (lex_word (b ∷ x ++ s ∷ more))
  word_kept n b x =
      let count = prefix_len is_word_char (x ++ s ∷ []) in
      let same : prefix_len is_word_char (x ++ s ∷ more) ≡ count = prefix_kept s more is_word_char (no_word s w) x in
      let typed : begins (codes "null.") (b ∷ x ++ s ∷ more) ≡ begins (codes "null.") (b ∷ x ++ s ∷ []) = begins_kept s w more (codes "null.") (b ∷ x) refl in
      rw same
      (if_stays n (is_typed count (b ∷ x ++ s ∷ [])) (is_typed count (b ∷ x ++ s ∷ more)) _ _ _ _ (ap (λ t. (count == 3) && t) typed)
      (λ h. same_stays n _ _ (typed_kept (b ∷ x) (begins_fits s w (codes "null.") (b ∷ x) refl (and_parts (count == 3) _ h).1)))
      (λ _. same_stays n _ _ (ap (λ text. word_of text count) (run_of is_word_char b x (no_word s w)))))

  end_kept : (t : Bool) (y : List ℕ) → (t ≡ true → 4 ≤ length y) → (t && is_end_at 4 (y ++ s ∷ more)) ≡ (t && is_end_at 4 (y ++ s ∷ []))
  end_kept false y h = refl
  end_kept true y h = rw (get_kept s more 4 y (h refl)) refl

  infinity_kept : (y : List ℕ) → is_infinity (y ++ s ∷ more) ≡ is_infinity (y ++ s ∷ [])
  infinity_kept y =
      let plus = begins (codes "+inf") (y ++ s ∷ []) in
      let minus = begins (codes "-inf") (y ++ s ∷ []) in
      let fits : (plus || minus) ≡ true → 4 ≤ length y =
      λ h. elim (or_cases plus minus h) [ inl k ↦ begins_fits s w (codes "+inf") y refl k | inr k ↦ begins_fits s w (codes "-inf") y refl k ] in
      rw (begins_kept s w more (codes "+inf") y refl, begins_kept s w more (codes "-inf") y refl) (end_kept (plus || minus) y fits)

  operator_kept : (n b : ℕ) (x : List ℕ) → Stays n (lex_operator (b ∷ x ++ s ∷ [])) (lex_operator (b ∷ x ++ s ∷ more))
  operator_kept n b x =
      let count = prefix_len is_operator (x ++ s ∷ []) in
      let same : prefix_len is_operator (x ++ s ∷ more) ≡ count = prefix_kept s more is_operator (no_operator s w) x in
      rw same
      (if_stays n (is_infinity (b ∷ x ++ s ∷ [])) (is_infinity (b ∷ x ++ s ∷ more)) _ _ _ _ (infinity_kept (b ∷ x)) (λ _. refl)
      (λ _. ap (λ text. lexed.Token (token.Operator text) count) (run_of is_operator b x (no_operator s w))))

  -- ---- marks

  mark_kept : (b : ℕ) (x : List ℕ) → lex_mark b (b ∷ x ++ s ∷ more) ≡ lex_mark b (b ∷ x ++ s ∷ [])
  mark_kept b x = rw (begins_kept s w more (codes "::") (b ∷ x) refl) refl

  run_kept : (n b : ℕ) (x : List ℕ) → Stays n (lex_run b (b ∷ x ++ s ∷ [])) (lex_run b (b ∷ x ++ s ∷ more))
  run_kept n b x =
      if_stays n (begins_number b (b ∷ x ++ s ∷ [])) (begins_number b (b ∷ x ++ s ∷ more)) _ _ _ _
      (ap (λ c. is_ascii_digit b || (b == byte "-" && is_ascii_digit c)) (first_kept s more x))
      (λ _. same_stays n _ _ (number_kept (b ∷ x)))
      (λ _. if_stays n (begins_word b) (begins_word b) _ _ _ _ refl (λ _. word_kept n b x)
      (λ _. if_stays n (is_operator b) (is_operator b) _ _ _ _ refl (λ _. operator_kept n b x)
      (λ _. same_stays n _ _ (mark_kept b x))))

  -- ---- lobs

  clob_stays : (n : ℕ) (x : List ℕ) → Stays n (lex_clob (x ++ s ∷ [])) (lex_clob (x ++ s ∷ more))
  clob_stays n x =
      let given : List ℕ → ℕ → Lexed = λ rest len. lob_token scalar.Clob fault.BadToken len (clob_bytes (without_white (take len rest))) in
      closed_stays n (given (x ++ s ∷ [])) (given (x ++ s ∷ more)) (before_braces clob_hides 0 (x ++ s ∷ [])) (before_braces clob_hides 0 (x ++ s ∷ more))
      (clob_kept s w more x)
      (λ len is. ap (λ text. lob_token scalar.Clob fault.BadToken len (clob_bytes (without_white text)))
      (take_kept s more len x (within_of (length x) len _ (braces_within s clob_hides 0 x) is)))

  blob_stays : (n : ℕ) (x : List ℕ) → Stays n (lex_blob (x ++ s ∷ [])) (lex_blob (x ++ s ∷ more))
  blob_stays n x =
      let given : List ℕ → ℕ → Lexed = λ rest len. lob_token scalar.Blob fault.BadBase64 len (base64_bytes (filter (λ b. not (is_space b)) (take len rest))) in
      closed_stays n (given (x ++ s ∷ [])) (given (x ++ s ∷ more)) (before_braces (λ b z. Some 0) 0 (x ++ s ∷ [])) (before_braces (λ b z. Some 0) 0 (x ++ s ∷ more))
      (blob_kept s w more x)
      (λ len is. ap (λ text. lob_token scalar.Blob fault.BadBase64 len (base64_bytes (filter (λ b. not (is_space b)) text)))
      (take_kept s more len x (within_of (length x) len _ (braces_within s (λ b z. Some 0) 0 x) is)))

-- one byte of white space more
white_more : (b : ℕ) (z : List ℕ) → is_space b ≡ true → without_white (b ∷ z) ≡ without_white z
white_more b z h =
    let len : prefix_len is_space (b ∷ z) ≡ suc (prefix_len is_space z) = rw h (omega arith) in
    ap (λ n. drop n (b ∷ z)) len

white_ends : (b : ℕ) (z : List ℕ) → is_space b ≡ false → without_white (b ∷ z) ≡ b ∷ z
white_ends b z h = let none : prefix_len is_space (b ∷ z) ≡ 0 = rw h in ap (λ n. drop n (b ∷ z)) none

no_brace : (b : ℕ) → is_space b ≡ true → (125 == b) ≡ false
no_brace b h = grind (arith, nat_tests)

module _ (s : ℕ) (w : is_space s ≡ true) where
  -- in white space alone no braces close
  none_closes : (x : List ℕ) → list_all is_space x ≡ true → before_braces (λ b z. Some 0) 0 (x ++ s ∷ []) ≡ None
  none_closes [] h = rw (no_brace s w) refl
  none_closes (b ∷ x) h =
      let both = and_parts (is_space b) (list_all is_space x) h in
      rw (no_brace b both.0, none_closes x both.1) refl

  all_white : (x : List ℕ) → list_all is_space x ≡ true → without_white (x ++ s ∷ []) ≡ []
  all_white [] h = white_more s [] w
  all_white (b ∷ x) h =
      let both = and_parts (is_space b) (list_all is_space x) h in
      white_more b (x ++ s ∷ []) both.0 ∙ all_white x both.1

  white_cut : (x : List ℕ) → list_all is_space x ≡ true → (if begins_clob (without_white (x ++ s ∷ [])) then lex_clob (x ++ s ∷ []) else lex_blob (x ++ s ∷ [])) ≡ lexed.Cut
  white_cut x h = rw (all_white x h, none_closes x h) refl

  -- the first byte that isn't white space stands in front of the last one, where there is any
  abbrev Leads : List ℕ → Type 0
  Leads x = (list_all is_space x ≡ true) ⊎ ((y : List ℕ) × ((more : List ℕ) → without_white (x ++ s ∷ more) ≡ y ++ s ∷ more))

  leads : (x : List ℕ) → Leads x
  leads [] = inl refl
  leads (b ∷ x) =
      elim (cases_Bool (is_space b)) as (λ _. Leads (b ∷ x)) [
        | inl white ↦
            elim (leads x) as (λ _. Leads (b ∷ x)) [
              | inl all ↦ inl (and_from (is_space b) (list_all is_space x) white all)
              | inr first ↦ inr (first.0, λ more. white_more b (x ++ s ∷ more) white ∙ first.1 more)
            ]
        | inr other ↦ inr (b ∷ x, λ more. white_ends b (x ++ s ∷ more) other)
      ]

module _ (s : ℕ) (w : is_space s ≡ true) (more : List ℕ) where
  clob_begins : (y : List ℕ) → begins_clob (y ++ s ∷ more) ≡ begins_clob (y ++ s ∷ [])
  clob_begins y = rw (begins_kept s w more (codes "\"") y refl, begins_kept s w more (codes "'''") y refl) refl

  inner_kept : (n : ℕ) (x : List ℕ) →
      Stays n (if begins_clob (without_white (x ++ s ∷ [])) then lex_clob (x ++ s ∷ []) else lex_blob (x ++ s ∷ []))
      (if begins_clob (without_white (x ++ s ∷ more)) then lex_clob (x ++ s ∷ more) else lex_blob (x ++ s ∷ more))
  inner_kept n x =
      elim (leads s w x) [
        | inl all ↦ rw (white_cut s w x all) tt
        | inr first ↦
            rw (first.1 more, first.1 [])
            (if_stays n (begins_clob (first.0 ++ s ∷ [])) (begins_clob (first.0 ++ s ∷ more)) _ _ _ _ (clob_begins first.0)
            (λ _. clob_stays s w more n x) (λ _. blob_stays s w more n x))
      ]

  lob_kept : (n : ℕ) (y : List ℕ) → 2 ≤ length y → Stays n (lex_lob (y ++ s ∷ [])) (lex_lob (y ++ s ∷ more))
  unfolding lex_lob
  lob_kept n y h = rw (drop-append-le 2 y (s ∷ []) h, drop-append-le 2 y (s ∷ more) h) (inner_kept n (drop 2 y))

  -- ---- all tokens

  quotes_kept : (n b : ℕ) (x : List ℕ) →
      Stays n (if b == byte "'" then lex_quoted (b ∷ x ++ s ∷ []) else lex_run b (b ∷ x ++ s ∷ []))
      (if b == byte "'" then lex_quoted (b ∷ x ++ s ∷ more) else lex_run b (b ∷ x ++ s ∷ more))
  quotes_kept n b x =
      if_stays n (b == byte "'") (b == byte "'") _ _ _ _ refl (λ _. quoted_kept s w more n (b ∷ x) (omega arith)) (λ _. run_kept s w more n b x)

  -- the token in front, where the text is n bytes long up to the white space
  at_kept : (n b : ℕ) (x : List ℕ) → n ≡ length (b ∷ x ++ s ∷ []) → Stays n (lex_at b (b ∷ x ++ s ∷ [])) (lex_at b (b ∷ x ++ s ∷ more))
  at_kept n b x e =
      if_stays n (is_space b) (is_space b) _ _ _ _ refl (λ _ _. refl)
      (λ _. if_stays n _ _ _ _ _ _ (begins_kept s w more (codes "//") (b ∷ x) refl)
      (λ h. rw e (line_kept s w more (b ∷ x) (begins_fits s w (codes "//") (b ∷ x) refl h)))
      (λ _. if_stays n _ _ _ _ _ _ (begins_kept s w more (codes "/*") (b ∷ x) refl)
      (λ h. block_kept s w more n (b ∷ x) (begins_fits s w (codes "/*") (b ∷ x) refl h))
      (λ _. if_stays n _ _ _ _ _ _ (begins_kept s w more (codes "{{") (b ∷ x) refl)
      (λ h. lob_kept n (b ∷ x) (begins_fits s w (codes "{{") (b ∷ x) refl h))
      (λ _. if_stays n (b == byte "\"") (b == byte "\"") _ _ _ _ refl (λ _. string_kept s w more n (b ∷ x) (omega arith))
      (λ _. if_stays n _ _ _ _ _ _ (begins_kept s w more (codes "'''") (b ∷ x) refl)
      (λ h. segment_kept s w more n (b ∷ x) (begins_fits s w (codes "'''") (b ∷ x) refl h))
      (λ _. quotes_kept n b x))))))

  -- the white space itself stays
  white_kept : (n : ℕ) → Stays n (lex_at s (s ∷ [])) (lex_at s (s ∷ more))
  white_kept n = rw w (λ _. refl)

  pub lex_stays : (y : List ℕ) → Stays (length (y ++ s ∷ [])) (lex (y ++ s ∷ [])) (lex (y ++ s ∷ more))
  unfolding lex
  lex_stays [] = white_kept 1
  lex_stays (b ∷ x) = at_kept (length (b ∷ x ++ s ∷ [])) b x refl
