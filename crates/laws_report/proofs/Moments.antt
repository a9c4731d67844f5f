-- The text of a moment tells it: in the years 1 to 9999 it is a timestamp that begins then, and else its number.
use Rattle.std.proofs.Common.{◌≡◌, ◌∙◌, ◌+◌, ◌*◌, ◌/◌, ◌%◌, ◌<◌, ℕ, ℤ, pos, neg_ℤ, ◌≤ℤ◌, ◌+ℤ◌, ◌-ℤ◌, ◌*ℤ◌, Bool, true, false, List, ◌∷◌, ◌++◌, drop, slice_index, codes, if◌then◌else◌, refl, sym, ap, arith}
use Rattle.std.specs.Char.{is_ascii_digit}
use Rattle.std.specs.Fmt.{signed_decimal}
use Rattle.std.specs.Int.{int_rem_euclid}
use Rattle.std.proofs.lemmas.Bool.{both_ways}
use Rattle.std.proofs.lemmas.Bool.Decides.{nat_tests}
use Rattle.jiff_core.specs.Calendar.{days_from_civil}
use Rattle.jiff_core.proofs.SignedLemmas.{signed_arith, int_rem_euclid-parts, unsigned_abs-parts}
use Rattle.ion_values.specs.Time.{instant_of, is_in_years, is_time}
use Rattle.ion_model.specs.Timestamp.{timestamp_text}
use Rattle.ion_text.specs.RoundTrip.{MayFollow}
use Rattle.ledger_model.specs.Moment.{day_number, minutes_of, moment_text, nanos_of_day, time_at, utc_time, year_of, month_of, day_of}
use Rattle.script_form.proofs.Moments.{day_bounds, timestamp_on_the_day}
use Rattle.laws_report.specs.Writable.{IsInt}
use Rattle.laws_report.proofs.Days.{IsDateOf, day_is_date}
use Rattle.laws_report.proofs.Runs.{behind, digits_end, signed_tells}
use Rattle.laws_report.proofs.Tokens.{time_tells}

-- ---- the moment at which it begins

instant_is : (day : ℤ) (nanos : ℕ)
    → ((day *ℤ pos 1440 +ℤ pos (nanos / 3_600_000_000_000 * 60 + nanos / 60_000_000_000 % 60)) -ℤ pos 0) *ℤ pos 60_000_000_000 +ℤ pos (nanos / 1_000_000_000 % 60 * 1_000_000_000 + nanos % 1_000_000_000)
    ≡ day *ℤ pos 86_400_000_000_000 +ℤ pos nanos
instant_is day nanos = omega (arith, signed_arith)

in_two : (m : ℤ) → day_number m *ℤ pos 86_400_000_000_000 +ℤ pos (nanos_of_day m) ≡ m
in_two m =
    omega (arith, signed_arith, int_rem_euclid-parts m 86_400_000_000_000 (omega arith), unsigned_abs-parts (int_rem_euclid m (pos 86_400_000_000_000)))

of_day : (m : ℤ) → nanos_of_day m < 86_400_000_000_000
of_day m =
    omega (arith, int_rem_euclid-parts m 86_400_000_000_000 (omega arith), unsigned_abs-parts (int_rem_euclid m (pos 86_400_000_000_000)))

-- a timestamp that begins at the moment
record Begins (m : ℤ) : Type 0 where
  pub is_time : is_time (utc_time m) ≡ true
  pub instant : instant_of (utc_time m) ≡ m

begins_on : (day : ℤ) (y m d nanos : ℕ) → IsDateOf day y m d → nanos < 86_400_000_000_000 → neg_ℤ (pos 719_162) ≤ℤ day → day ≤ℤ pos 2_932_896
    → (is_time (time_at y m d nanos) ≡ true) × (instant_of (time_at y m d nanos) ≡ day *ℤ pos 86_400_000_000_000 +ℤ pos nanos)
begins_on day y m d nanos date within low high = (
  timestamp_on_the_day y m d nanos day date.civil date.first date.last date.number within low high,
  instant_is (days_from_civil (pos y) m d) nanos ∙ ap (λ (z : ℤ). z *ℤ pos 86_400_000_000_000 +ℤ pos nanos) date.number,
)

begins : (m : ℤ) → is_in_years (minutes_of m) ≡ true → Begins m
begins m h =
    let bounds = day_bounds m h in
    let day = day_number m in
    let both = begins_on day (year_of day) (month_of day) (day_of day) (nanos_of_day m) (day_is_date day bounds.0 bounds.1) (of_day m) bounds.0 bounds.1 in
    record { is_time = both.0; instant = both.1 ∙ in_two m }

-- ---- its text

abbrev pub form : ℤ → Bool → List ℕ
form m years = if years then timestamp_text (utc_time m) else codes "moment::" ++ signed_decimal m

-- a digit, where no year stands
pub year_digit : (n : ℕ) → is_ascii_digit (48 + n % 10) ≡ true
year_digit n = grind (arith, nat_tests)

no_word : (m : ℤ) (r z : List ℕ) → timestamp_text (utc_time m) ++ r ≡ 109 ∷ z → ⊥
no_word m r z e =
    both_ways (is_ascii_digit (slice_index (timestamp_text (utc_time m) ++ r) 0)) (ap (λ l. is_ascii_digit (slice_index l 0)) e)
    (year_digit (year_of (day_number m) / 100 / 10))

forms_tell : (a b : ℤ) (r s : List ℕ) → IsInt a → IsInt b → MayFollow r → MayFollow s → (p q : Bool) → is_in_years (minutes_of a) ≡ p
    → is_in_years (minutes_of b) ≡ q → form a p ++ r ≡ form b q ++ s → (a ≡ b) × (r ≡ s)
forms_tell a b r s h k u v true true p q e =
    let one = begins a p in
    let other = begins b q in
    let both = time_tells (utc_time a) (utc_time b) r s one.is_time other.is_time u v e in
    (sym one.instant ∙ ap instant_of both.0 ∙ other.instant, both.1)
forms_tell a b r s h k u v false false p q e = signed_tells a b r s h k (digits_end r u) (digits_end s v) (ap (behind (codes "moment::")) e)
forms_tell a b r s h k u v true false p q e = absurd (no_word a r (drop 1 (form b false ++ s)) e)
forms_tell a b r s h k u v false true p q e = absurd (no_word b s (drop 1 (form a false ++ r)) (sym e))

pub moment_tells : (a b : ℤ) (r s : List ℕ) → IsInt a → IsInt b → MayFollow r → MayFollow s → moment_text a ++ r ≡ moment_text b ++ s → (a ≡ b) × (r ≡ s)
moment_tells a b r s h k u v e =
    forms_tell a b r s h k u v (is_in_years (minutes_of a)) (is_in_years (minutes_of b)) refl refl e
