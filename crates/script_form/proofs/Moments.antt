-- The date of a day, and the moments that have a timestamp.
use Rattle.std.proofs.Common.{◌≡◌, ℕ, zero, suc, ◌+◌, ◌/◌, ◌%◌, ◌<◌, ◌≤◌, Bool, true, false, ◌&&◌, ℤ, pos, negsuc, neg_ℤ, ◌≤ℤ◌, ◌-ℤ◌, int_le, int_lt, unsigned_abs, refl, sym, ◌∙◌, ap, subst, inl, inr, arith, w64, to_z, of_z, FitsSigned}
use Rattle.std.specs.Int.{w128}
use Rattle.std.proofs.lemmas.Bool.Decides.{leb_tells}
use borrow.Author.Differences.{up, down, le-true, le-false, lt-true, lt-false}
use Rattle.jiff_core.specs.Calendar.{IsCivilDate, days_from_civil, days_in_month}
use Rattle.jiff_core.proofs.CalendarLemmas.{days_from_civil-day_count, day_count-day_of_year, day_count-day, day_count-lt_year, day_count-lt_month}
use Rattle.jiff_core.proofs.SignedLemmas.{signed_arith, one_part, unsigned_abs-parts, int_div_euclid-parts, back_small}
use Rattle.ion_values.proofs.Years.{first_day, day_after_last}
use Rattle.ion_values.specs.Time.{is_in_years, is_date, is_clock, is_fraction, is_time, utc_minutes}
use Rattle.ion_model.specs.Timestamp.{timestamp_text}
use borrow.Author.Tests as tests
use Rattle.ledger_model.specs.Moment.{last_begun, year_of, month_of, day_of, time_at, time_on, minutes_of, moment_text, utc_time, day_number}

pub last_begun_is : (start : ℕ → ℤ) (day : ℤ) (k n : ℕ) → 1 ≤ k → k ≤ n → int_le (start k) day ≡ true
    → ((j : ℕ) → k < j → int_le (start j) day ≡ false) → last_begun start day n ≡ k
last_begun_is start day k zero one le here later = absurd (omega arith)
last_begun_is start day k (suc n) one le here later =
    elim (leb_tells (suc k) (suc n)) [
      | inl t ↦ rw (later (suc n) (omega (arith, t.1))) (last_begun_is start day k n one (omega (arith, t.1)) here later)
      | inr f ↦
          let same : k ≡ suc n = omega (arith, f) in
          let there : int_le (start (suc n)) day ≡ true = subst (λ (m : ℕ). int_le (start m) day ≡ true) same here in
          rw there (sym same)
    ]

not_false : (b : Bool) → (b ≡ false → ⊥) → b ≡ true
not_false true h = refl
not_false false h = absurd (h refl)

not_true : (b : Bool) → (b ≡ true → ⊥) → b ≡ false
not_true true h = absurd (h refl)
not_true false h = refl

le_yes : (a b : ℤ) → up a + down b ≤ up b + down a → int_le a b ≡ true
le_yes a b h = not_false (int_le a b) (λ fails. omega (arith, le-false a b fails))

le_no : (a b : ℤ) → up b + down a < up a + down b → int_le a b ≡ false
le_no a b h = not_true (int_le a b) (λ holds. omega (arith, le-true a b holds))

lt_yes : (a b : ℤ) → up a + down b < up b + down a → int_lt a b ≡ true
lt_yes a b h = not_false (int_lt a b) (λ fails. omega (arith, lt-false a b fails))

lt_no : (a b : ℤ) → up b + down a ≤ up a + down b → int_lt a b ≡ false
lt_no a b h = not_true (int_lt a b) (λ holds. omega (arith, lt-true a b holds))

year_begun : (y m d : ℕ) → 1 ≤ d → int_le (days_from_civil (pos y) 1 1) (days_from_civil (pos y) m d) ≡ true
year_begun y m d one =
    le_yes (days_from_civil (pos y) 1 1) (days_from_civil (pos y) m d) (omega (arith, signed_arith, days_from_civil-day_count (pos y) 1 1, days_from_civil-day_count (pos y) m d, day_count-day_of_year (pos y) m d one))

year_later : (y m d j : ℕ) → IsCivilDate (pos y) m d → y < j → int_le (days_from_civil (pos j) 1 1) (days_from_civil (pos y) m d) ≡ false
year_later y m d j civil lt =
    le_no (days_from_civil (pos j) 1 1) (days_from_civil (pos y) m d) (omega (
      arith,
      signed_arith,
      days_from_civil-day_count (pos j) 1 1,
      days_from_civil-day_count (pos y) m d,
      day_count-lt_year (pos y) m d (pos j) 1 1 civil (omega arith) (omega (arith, signed_arith)),
    ))

month_begun : (y m d : ℕ) → 1 ≤ d → int_le (days_from_civil (pos y) m 1) (days_from_civil (pos y) m d) ≡ true
month_begun y m d one =
    le_yes (days_from_civil (pos y) m 1) (days_from_civil (pos y) m d) (omega (
      arith,
      signed_arith,
      days_from_civil-day_count (pos y) m 1,
      days_from_civil-day_count (pos y) m d,
      day_count-day (pos y) m d 1 one (omega arith),
    ))

month_later : (y m d j : ℕ) → IsCivilDate (pos y) m d → m < j → int_le (days_from_civil (pos y) j 1) (days_from_civil (pos y) m d) ≡ false
month_later y m d j civil lt =
    le_no (days_from_civil (pos y) j 1) (days_from_civil (pos y) m d) (omega (
      arith,
      signed_arith,
      days_from_civil-day_count (pos y) j 1,
      days_from_civil-day_count (pos y) m d,
      day_count-lt_month (pos y) m d j 1 civil (omega arith) lt,
    ))

place_in_month : (y m d : ℕ) → 1 ≤ d → unsigned_abs (days_from_civil (pos y) m d -ℤ days_from_civil (pos y) m 1) + 1 ≡ d
place_in_month y m d one =
    grind (
      arith,
      signed_arith,
      one_part (days_from_civil (pos y) m d -ℤ days_from_civil (pos y) m 1),
      unsigned_abs-parts (days_from_civil (pos y) m d -ℤ days_from_civil (pos y) m 1),
      days_from_civil-day_count (pos y) m 1,
      days_from_civil-day_count (pos y) m d,
      day_count-day (pos y) m d 1 one (omega arith),
    )

module _ (y m d : ℕ) (civil : IsCivilDate (pos y) m d) (first : 1 ≤ y) (last : y ≤ 9999) where
  pub year_is : year_of (days_from_civil (pos y) m d) ≡ y
  unfolding year_of
  year_is =
      last_begun_is (λ year. days_from_civil (pos year) 1 1) (days_from_civil (pos y) m d) y 9999 first last
      (year_begun y m d (omega arith)) (λ j lt. year_later y m d j civil lt)

  pub month_is : month_of (days_from_civil (pos y) m d) ≡ m
  unfolding month_of
  month_is =
      rw year_is (last_begun_is (λ month. days_from_civil (pos y) month 1) (days_from_civil (pos y) m d) m 12 (omega arith) (omega arith)
      (month_begun y m d (omega arith)) (λ j lt. month_later y m d j civil lt))

  pub day_is : day_of (days_from_civil (pos y) m d) ≡ d
  unfolding day_of
  day_is = rw (year_is, month_is) (place_in_month y m d (omega arith))

  pub date_is : (nanos : ℕ) → time_on (days_from_civil (pos y) m d) nanos ≡ time_at y m d nanos
  date_is nanos = rw (year_is, month_is, day_is) refl

-- ---- which moments have a timestamp

same_as : (b c : Bool) → (b ≡ true → c ≡ true) → (b ≡ false → c ≡ false) → c ≡ b
same_as true c holds fails = holds refl
same_as false c holds fails = fails refl

abbrev start_of_1 : ℤ
start_of_1 = negsuc 62_135_596_799_999_999_999

abbrev start_of_10000 : ℤ
start_of_10000 = pos 253_402_300_800_000_000_000

begun : (m : ℤ) → int_le (negsuc 1_035_593_279) (minutes_of m) ≡ int_le start_of_1 m
begun m =
    same_as (int_le start_of_1 m) (int_le (negsuc 1_035_593_279) (minutes_of m))
    (λ holds. le_yes (negsuc 1_035_593_279) (minutes_of m) (omega (arith, signed_arith, int_div_euclid-parts m 60_000_000_000 (omega arith), le-true start_of_1 m holds)))
    (λ fails. le_no (negsuc 1_035_593_279) (minutes_of m) (omega (arith, signed_arith, int_div_euclid-parts m 60_000_000_000 (omega arith), le-false start_of_1 m fails)))

not_over : (m : ℤ) → int_lt (minutes_of m) (pos 4_223_371_680) ≡ int_lt m start_of_10000
not_over m =
    same_as (int_lt m start_of_10000) (int_lt (minutes_of m) (pos 4_223_371_680))
    (λ holds. lt_yes (minutes_of m) (pos 4_223_371_680) (omega (arith, signed_arith, int_div_euclid-parts m 60_000_000_000 (omega arith), lt-true m start_of_10000 holds)))
    (λ fails. lt_no (minutes_of m) (pos 4_223_371_680) (omega (arith, signed_arith, int_div_euclid-parts m 60_000_000_000 (omega arith), lt-false m start_of_10000 fails)))

pub in_years : (m : ℤ) → is_in_years (minutes_of m) ≡ (int_le start_of_1 m && int_lt m start_of_10000)
in_years m = rw (first_day, day_after_last, begun m, not_over m) refl

both_true : (a b : Bool) → (a && b) ≡ true → (a ≡ true) × (b ≡ true)
both_true true b h = (refl, h)
both_true false b h = absurd (cc)

pub day_bounds : (m : ℤ) → is_in_years (minutes_of m) ≡ true → (neg_ℤ (pos 719_162) ≤ℤ day_number m) × (day_number m ≤ℤ pos 2_932_896)
day_bounds m h =
    let both = both_true (int_le start_of_1 m) (int_lt m start_of_10000) (sym (in_years m) ∙ h) in (
      omega (arith, signed_arith, int_div_euclid-parts m 86_400_000_000_000 (omega arith), le-true start_of_1 m both.0),
      omega (arith, signed_arith, int_div_euclid-parts m 86_400_000_000_000 (omega arith), lt-true m start_of_10000 both.1),
    )

-- ---- the parts of a timestamp

both : (a b : Bool) → a ≡ true → b ≡ true → (a && b) ≡ true
both a b ha hb = rw (ha, hb) refl

abbrev pub day_nanos : ℕ
day_nanos = 86_400_000_000_000

date_holds : (y m d : ℕ) → IsCivilDate (pos y) m d → 1 ≤ y → y ≤ 9999 → is_date y m d ≡ true
date_holds y m d civil first last =
    rw (sym (tests.le-true 1 y first), sym (tests.le-true y 9999 last), sym (tests.le-true 1 m (omega arith)), sym (tests.le-true m 12 (omega arith)), sym (tests.le-true 1 d (omega arith)), sym (tests.le-true d (days_in_month (pos y) m) (omega arith))) refl

clock_holds : (y m d nanos : ℕ) → nanos < day_nanos → is_clock (time_at y m d nanos) ≡ true
clock_holds y m d nanos within =
    rw (
      sym (tests.lt-true (nanos / 3_600_000_000_000) 24 (omega arith)),
      sym (tests.lt-true (nanos / 60_000_000_000 % 60) 60 (omega arith)),
      sym (tests.lt-true (nanos / 1_000_000_000 % 60) 60 (omega arith)),
    ) refl

rest_of_one : (n : ℕ) → n % 1 ≡ 0
rest_of_one n = omega arith

fraction_holds : (nanos : ℕ) → is_fraction 9 (nanos % 1_000_000_000) ≡ true
fraction_holds nanos = rw (sym (tests.lt-true (nanos % 1_000_000_000) 1_000_000_000 (omega arith)), rest_of_one (nanos % 1_000_000_000)) refl

years_hold : (y m d nanos : ℕ) → nanos < day_nanos → neg_ℤ (pos 719_162) ≤ℤ days_from_civil (pos y) m d → days_from_civil (pos y) m d ≤ℤ pos 2_932_896
    → is_in_years (utc_minutes (time_at y m d nanos)) ≡ true
years_hold y m d nanos within first last =
    rw (first_day, day_after_last) (both (int_le (negsuc 1_035_593_279) (utc_minutes (time_at y m d nanos))) (int_lt (utc_minutes (time_at y m d nanos)) (pos 4_223_371_680))
    (le_yes (negsuc 1_035_593_279) (utc_minutes (time_at y m d nanos)) (omega (arith, signed_arith)))
    (lt_yes (utc_minutes (time_at y m d nanos)) (pos 4_223_371_680) (omega (arith, signed_arith))))

pub is_timestamp : (y m d nanos : ℕ) → IsCivilDate (pos y) m d → 1 ≤ y → y ≤ 9999 → nanos < day_nanos
    → neg_ℤ (pos 719_162) ≤ℤ days_from_civil (pos y) m d → days_from_civil (pos y) m d ≤ℤ pos 2_932_896 → is_time (time_at y m d nanos) ≡ true
unfolding is_time
is_timestamp y m d nanos civil first last within low high =
    both _ _ (both _ _ (both _ _ (both _ _ (both _ _ (date_holds y m d civil first last) (clock_holds y m d nanos within)) refl) (fraction_holds nanos)) refl)
    (years_hold y m d nanos within low high)

-- the date of a day as what the definition makes of the day
pub on_the_day : (y m d nanos : ℕ) (day : ℤ) → IsCivilDate (pos y) m d → 1 ≤ y → y ≤ 9999 → days_from_civil (pos y) m d ≡ day → time_at y m d nanos ≡ time_on day nanos
on_the_day y m d nanos day civil first last is = sym (date_is y m d civil first last nanos) ∙ ap (λ (z : ℤ). time_on z nanos) is

pub timestamp_on_the_day : (y m d nanos : ℕ) (day : ℤ) → IsCivilDate (pos y) m d → 1 ≤ y → y ≤ 9999 → days_from_civil (pos y) m d ≡ day → nanos < day_nanos
    → neg_ℤ (pos 719_162) ≤ℤ day → day ≤ℤ pos 2_932_896 → is_time (time_at y m d nanos) ≡ true
timestamp_on_the_day y m d nanos day civil first last is within low high =
    is_timestamp y m d nanos civil first last within (subst (λ (z : ℤ). neg_ℤ (pos 719_162) ≤ℤ z) (sym is) low) (subst (λ (z : ℤ). z ≤ℤ pos 2_932_896) (sym is) high)

pub text_in_years : (m : ℤ) → is_in_years (minutes_of m) ≡ true → moment_text m ≡ timestamp_text (utc_time m)
text_in_years m h = rw h refl

small : (z : ℤ) → neg_ℤ (pos 719_162) ≤ℤ z → z ≤ℤ pos 2_932_896 → unsigned_abs z ≤ 2_932_896
small (pos n) low high = omega (arith, signed_arith)
small (negsuc n) low high = omega (arith, signed_arith)

back_wide : (z : ℤ) → neg_ℤ (pos 719_162) ≤ℤ z → z ≤ℤ pos 2_932_896 → to_z w128 (of_z w128 z) ≡ z
back_wide z low high = back_small w128 z (omega (arith, small z low high))

-- a day's number fits 64 bits, and stays what it is when it is cast
pub day_fits : (z : ℤ) → neg_ℤ (pos 719_162) ≤ℤ z → z ≤ℤ pos 2_932_896 → FitsSigned w64 (to_z w128 (of_z w128 z))
day_fits z low high = rw (back_wide z low high) (omega (arith, signed_arith))

pub day_back : (z : ℤ) → neg_ℤ (pos 719_162) ≤ℤ z → z ≤ℤ pos 2_932_896 → to_z w64 (of_z w64 (to_z w128 (of_z w128 z))) ≡ z
day_back z low high = rw (back_wide z low high) (back_small w64 z (omega (arith, small z low high)))
