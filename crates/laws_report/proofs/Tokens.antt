-- Texts that are one token tell it, whatever stands behind them: strings, bytes, bools and timestamps.
use Rattle.std.proofs.Common.{◌≡◌, ◌∙◌, ◌-◌, ◌≤◌, ℕ, Bool, true, List, [], ◌∷◌, ◌++◌, length, Option, Some, None, sym, ap, arith}
use Rattle.ion_values.specs.Time.{is_time}
use Rattle.ion_values.specs.declared.time.TimeParts.{TimeParts}
use Rattle.ion_model.specs.Lex.{lex}
use Rattle.ion_model.specs.Timestamp.{timestamp_text}
use Rattle.ion_model.specs.Write.{blob_text, bool_text, clob_text, string_text}
use Rattle.ion_model.specs.declared.Token.{Token}
use Rattle.ion_model.specs.declared.Token.TheVariants as token
use Rattle.ion_model.specs.declared.Scalar.TheVariants as scalar
use Rattle.ion_model.specs.declared.Lexed.{Lexed}
use Rattle.ion_model.specs.declared.Lexed.TheVariants as lexed
use Rattle.ion_text.specs.RoundTrip.{MayFollow, ReadsBefore}
use Rattle.ion_text.proofs.WrittenLobs.{blob_read, clob_read}
use Rattle.ion_text.proofs.WrittenTexts.{string_read}
use Rattle.ion_text.proofs.WrittenTimes.{time_read}
use Rattle.ion_text.proofs.WrittenWords.{bool_read}
use Rattle.laws_report.specs.Writable.{AreBytes, IsText}
use Rattle.laws_report.proofs.Runs.{same_lengths}

-- with this behind it, the text is the token in front
record Is (text rest : List ℕ) (t : Token) : Type 0 where
  pub some : 1 ≤ length text
  pub read : lex (text ++ rest) ≡ lexed.Token t (length text - 1)

token_of : Lexed → Option Token
token_of (lexed.Token t n) = Some t
token_of l = None

count_of : Lexed → ℕ
count_of (lexed.Token t n) = n
count_of l = 0

-- such texts that begin one text are one, and what stands behind them too
one_token : (x u r s : List ℕ) (t v : Token) → Is x r t → Is u s v → x ++ r ≡ u ++ s → (t ≡ v) × (x ≡ u) × (r ≡ s)
unfolding token_of count_of
one_token x u r s t v h k e =
    let same : lexed.Token t (length x - 1) ≡ lexed.Token v (length u - 1) = sym h.read ∙ ap lex e ∙ k.read in
    let count : length x - 1 ≡ length u - 1 = ap count_of same in
    let some = h.some in
    let more = k.some in
    let both = same_lengths x u r s (omega arith) e in
    let told : Some t ≡ Some v = ap token_of same in
    let tokens : t ≡ v = cc in
    (tokens, both.0, both.1)

reads : (text rest : List ℕ) (t : Token) → ReadsBefore rest text t → Is text rest t
reads [] rest t h = absurd h
reads (b ∷ z) rest t h =
    let len : length z ≡ length (b ∷ z) - 1 = omega arith in
    record { some = omega arith; read = h ∙ ap (lexed.Token t) len }

pub text_tells : (a b r s : List ℕ) → IsText a → IsText b → string_text a ++ r ≡ string_text b ++ s → (a ≡ b) × (r ≡ s)
text_tells a b r s h k e =
    let all = one_token (string_text a) (string_text b) r s (token.String a) (token.String b)
    (record { some = omega arith; read = string_read a r h }) (record { some = omega arith; read = string_read b s k }) e in
    let same : a ≡ b = let told = all.0 in cc in
    (same, all.2)

pub clob_tells : (a b r s : List ℕ) → AreBytes a → AreBytes b → clob_text a ++ r ≡ clob_text b ++ s → (a ≡ b) × (r ≡ s)
clob_tells a b r s h k e =
    let all = one_token (clob_text a) (clob_text b) r s (token.Scalar (scalar.Clob a)) (token.Scalar (scalar.Clob b))
    (record { some = omega arith; read = clob_read a r h }) (record { some = omega arith; read = clob_read b s k }) e in
    let same : a ≡ b = let told = all.0 in cc in
    (same, all.2)

pub blob_tells : (a b r s : List ℕ) → AreBytes a → AreBytes b → blob_text a ++ r ≡ blob_text b ++ s → (a ≡ b) × (r ≡ s)
blob_tells a b r s h k e =
    let all = one_token (blob_text a) (blob_text b) r s (token.Scalar (scalar.Blob a)) (token.Scalar (scalar.Blob b))
    (record { some = omega arith; read = blob_read a r h }) (record { some = omega arith; read = blob_read b s k }) e in
    let same : a ≡ b = let told = all.0 in cc in
    (same, all.2)

pub no_clob_is_blob : (a b r s : List ℕ) → AreBytes a → AreBytes b → clob_text a ++ r ≡ blob_text b ++ s → ⊥
no_clob_is_blob a b r s h k e =
    let all = one_token (clob_text a) (blob_text b) r s (token.Scalar (scalar.Clob a)) (token.Scalar (scalar.Blob b))
    (record { some = omega arith; read = clob_read a r h }) (record { some = omega arith; read = blob_read b s k }) e in
    let told = all.0 in
    cc

pub bool_tells : (a b : Bool) (r s : List ℕ) → MayFollow r → MayFollow s → bool_text a ++ r ≡ bool_text b ++ s → (a ≡ b) × (r ≡ s)
bool_tells a b r s p q e =
    let all = one_token (bool_text a) (bool_text b) r s (token.Scalar (scalar.Bool a)) (token.Scalar (scalar.Bool b))
    (reads (bool_text a) r _ (bool_read a r p)) (reads (bool_text b) s _ (bool_read b s q)) e in
    let same : a ≡ b = let told = all.0 in cc in
    (same, all.2)

pub time_tells : (a b : TimeParts) (r s : List ℕ) → is_time a ≡ true → is_time b ≡ true → MayFollow r → MayFollow s
    → timestamp_text a ++ r ≡ timestamp_text b ++ s → (a ≡ b) × (r ≡ s)
time_tells a b r s h k p q e =
    let all = one_token (timestamp_text a) (timestamp_text b) r s (token.Scalar (scalar.Timestamp a)) (token.Scalar (scalar.Timestamp b))
    (reads (timestamp_text a) r _ (time_read a h r p)) (reads (timestamp_text b) s _ (time_read b k s q)) e in
    let same : a ≡ b = let told = all.0 in cc in
    (same, all.2)
