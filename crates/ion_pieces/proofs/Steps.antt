-- One token after another, whatever follows the bytes.
use Rattle.std.proofs.Common.{◌≡◌, ◌≤◌, ◌<◌, ◌+◌, ℕ, zero, suc, Bool, List, [], ◌∷◌, ◌++◌, drop, length, length-append, length-drop, Ok, Err, ap, sym, ◌∙◌, arith}
use Rattle.std.proofs.lemmas.List.{drop-append-le, drop-drop}
use Rattle.ion_values.specs.declared.fault.IonKind.{IonKind}
use Rattle.ion_values.specs.declared.fault.IonKind.TheVariants as fault
use Rattle.ion_model.specs.Lex.{lex}
use Rattle.ion_model.specs.Table.{Open, accept}
use Rattle.ion_model.specs.Read.{go_on, refused, run, turn}
use Rattle.ion_model.specs.declared.Token.{Token}
use Rattle.ion_model.specs.declared.Lexed.TheVariants as lexed
use Rattle.ion_pieces.specs.Fronts.{MayFollow, Stands}

-- ---- one token in front of a text

run_skip : (depth n at : ℕ) (fs : Open) (z : List ℕ) → n ≤ length z → run depth n at fs z ≡ run depth 0 (at + n) fs (drop n z)
run_skip depth zero at fs z h = ap (λ k. run depth 0 k fs z) (omega arith)
run_skip depth (suc n) at fs [] h = absurd (omega arith)
run_skip depth (suc n) at fs (b ∷ z) h = run_skip depth n (at + 1) fs z (omega arith) ∙ ap (λ k. run depth 0 k fs (drop n z)) (omega arith)

skipped : (depth n at : ℕ) (fs : Open) (b : ℕ) (z : List ℕ) → n + 1 ≤ suc (length z) → run depth n (at + 1) fs z ≡ run depth 0 (at + (n + 1)) fs (drop (n + 1) (b ∷ z))
skipped depth n at fs b z h =
    let next : suc n ≡ n + 1 = omega arith in
    let one : drop (suc n) (b ∷ z) ≡ drop (n + 1) (b ∷ z) = ap (λ k. drop k (b ∷ z)) next in
    run_skip depth n (at + 1) fs z (omega arith) ∙ ap (λ k. run depth 0 k fs (drop n z)) (omega arith) ∙ ap (λ y. run depth 0 (at + (n + 1)) fs y) one

blank_first : (depth at n : ℕ) (fs : Open) (z : List ℕ) → lex z ≡ lexed.Blank n → n + 1 ≤ length z → run depth 0 at fs z ≡ run depth 0 (at + (n + 1)) fs (drop (n + 1) z)
blank_first depth at n fs [] h room = absurd (omega arith)
blank_first depth at n fs (b ∷ z) h room =
    ap (turn depth at (at + length (b ∷ z)) fs (λ more gs. run depth more (at + 1) gs z)) h ∙ skipped depth n at fs b z room

token_first :
    (depth at n : ℕ) (fs gs : Open) (t : Token) (z : List ℕ) → lex z ≡ lexed.Token t n → n + 1 ≤ length z → accept depth fs t ≡ Ok gs →
    run depth 0 at fs z ≡ run depth 0 (at + (n + 1)) gs (drop (n + 1) z)
token_first depth at n fs gs t [] h room takes = absurd (omega arith)
token_first depth at n fs gs t (b ∷ z) h room takes =
    ap (turn depth at (at + length (b ∷ z)) fs (λ more gs. run depth more (at + 1) gs z)) h
    ∙ ap (go_on at (λ gs. run depth n (at + 1) gs z)) takes
    ∙ skipped depth n at gs b z room

token_refused :
    (depth at n : ℕ) (fs : Open) (t : Token) (k : IonKind) (z : List ℕ) → lex z ≡ lexed.Token t n → 0 < length z → accept depth fs t ≡ Err k →
    run depth 0 at fs z ≡ refused at k
token_refused depth at n fs t k [] h some takes = absurd (omega arith)
token_refused depth at n fs t k (b ∷ z) h some takes =
    ap (turn depth at (at + length (b ∷ z)) fs (λ more gs. run depth more (at + 1) gs z)) h ∙ ap (go_on at (λ gs. run depth n (at + 1) gs z)) takes

refused_first : (depth at : ℕ) (fs : Open) (k : IonKind) (z : List ℕ) → lex z ≡ lexed.Refused k → 0 < length z → run depth 0 at fs z ≡ refused at k
refused_first depth at fs k [] h some = absurd (omega arith)
refused_first depth at fs k (b ∷ z) h some = ap (turn depth at (at + length (b ∷ z)) fs (λ more gs. run depth more (at + 1) gs z)) h

-- a text that ends in a token
pub cut_first : (depth at : ℕ) (fs : Open) (z : List ℕ) → lex z ≡ lexed.Cut → 0 < length z → run depth 0 at fs z ≡ refused (at + length z) fault.Unclosed
cut_first depth at fs [] h some = absurd (omega arith)
cut_first depth at fs (b ∷ z) h some = ap (turn depth at (at + length (b ∷ z)) fs (λ more gs. run depth more (at + 1) gs z)) h

-- ---- behind the tokens so far

-- behind a bytes of these, whatever follows them, the containers gs are open
abbrev pub Same : ℕ → Open → Bool → List ℕ → ℕ → Open → Type 0
Same depth fs whole bytes a gs =
    (at : ℕ) (more : List ℕ) → MayFollow whole more → run depth 0 at fs (bytes ++ more) ≡ run depth 0 (at + a) gs (drop a bytes ++ more)

module _ (depth : ℕ) (fs : Open) (whole : Bool) (bytes rest : List ℕ) (a : ℕ) (gs : Open) (rest_is : rest ≡ drop a bytes) (room : a < length bytes) (same : Same depth fs whole bytes a gs) where
  -- one token further
  further : (n : ℕ) (more : List ℕ) → n + 1 ≤ length rest → drop (n + 1) (rest ++ more) ≡ drop (a + (n + 1)) bytes ++ more
  further n more h =
      drop-append-le (n + 1) rest more h ∙ ap (λ y. drop (n + 1) y ++ more) rest_is ∙ ap (λ y. y ++ more) (drop-drop (n + 1) a bytes)

  onward : (n at : ℕ) (hs : Open) (more : List ℕ) → n + 1 ≤ length rest →
      run depth 0 (at + a + (n + 1)) hs (drop (n + 1) (rest ++ more)) ≡ run depth 0 (at + (a + (n + 1))) hs (drop (a + (n + 1)) bytes ++ more)
  onward n at hs more h = ap (λ k. run depth 0 k hs (drop (n + 1) (rest ++ more))) (omega arith) ∙ ap (λ y. run depth 0 (at + (a + (n + 1))) hs y) (further n more h)

  here : (at : ℕ) (more : List ℕ) → MayFollow whole more → run depth 0 at fs (bytes ++ more) ≡ run depth 0 (at + a) gs (rest ++ more)
  here at more may = same at more may ∙ ap (λ y. run depth 0 (at + a) gs (y ++ more)) (sym rest_is)

  longer : (n : ℕ) (more : List ℕ) → n ≤ length rest → n ≤ length (rest ++ more)
  longer n more h = omega (arith, length-append rest more)

  some : (more : List ℕ) → 0 < length (rest ++ more)
  some more = omega (arith, length-append rest more, ap length rest_is, length-drop a bytes)

  pub fits : (n : ℕ) → n + 1 ≤ length rest → a + (n + 1) ≤ length bytes
  fits n h = omega (arith, ap length rest_is, length-drop a bytes)

  pub blank_passed : (n : ℕ) → Stands whole rest (lexed.Blank n) → Same depth fs whole bytes (a + (n + 1)) gs
  blank_passed n stands at more may =
      here at more may ∙ blank_first depth (at + a) n gs (rest ++ more) (stands.1 more may) (longer (n + 1) more stands.0) ∙ onward n at gs more stands.0

  pub token_passed : (n : ℕ) (t : Token) (hs : Open) → Stands whole rest (lexed.Token t n) → accept depth gs t ≡ Ok hs → Same depth fs whole bytes (a + (n + 1)) hs
  token_passed n t hs stands takes at more may =
      here at more may ∙ token_first depth (at + a) n gs hs t (rest ++ more) (stands.1 more may) (longer (n + 1) more stands.0) takes ∙ onward n at hs more stands.0

  pub token_fails : (n : ℕ) (t : Token) (k : IonKind) → Stands whole rest (lexed.Token t n) → accept depth gs t ≡ Err k →
      (at : ℕ) (more : List ℕ) → MayFollow whole more → run depth 0 at fs (bytes ++ more) ≡ refused (at + a) k
  token_fails n t k stands takes at more may =
      here at more may ∙ token_refused depth (at + a) n gs t k (rest ++ more) (stands.1 more may) (some more) takes

  pub lexed_fails : (k : IonKind) → Stands whole rest (lexed.Refused k) →
      (at : ℕ) (more : List ℕ) → MayFollow whole more → run depth 0 at fs (bytes ++ more) ≡ refused (at + a) k
  lexed_fails k stands at more may = here at more may ∙ refused_first depth (at + a) gs k (rest ++ more) (stands.1 more may) (some more)
