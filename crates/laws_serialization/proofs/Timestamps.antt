-- Timestamps are determined by their bytes: the number of VarUInts determines the precision, and the date and the clock in UTC with the
-- offset determine the local ones.
use Rattle.std.proofs.Common.{◌≡◌, ◌∙◌, ℕ, ◌+◌, ◌-◌, ◌*◌, ◌/◌, ◌%◌, ◌^◌, ◌<◌, ◌≤◌, ◌==◌, ◌&&◌, Bool, true, false, nat_lt, Option, Some, None, ℤ, pos, ◌+ℤ◌, ◌-ℤ◌, ◌*ℤ◌, int_lt, if◌then◌else◌, List, [], ◌∷◌, ◌++◌, length, refl, sym, ap, subst, arith, add-zero, append_assoc, mod-eq_of_lt, true≢false}
use Rattle.std.specs.Prelude.{nat_le, is_none}
use Rattle.std.specs.Option.{unwrap_or}
use Rattle.std.proofs.lemmas.Bool.Decides.{nat_tests}
use Rattle.std.proofs.lemmas.List.{append-nil}
use Rattle.std.proofs.lemmas.Nat.{div-add-mod'}
use Rattle.jiff_core.specs.declared.civil.date.Date.{Date as CivilDate}
use Rattle.jiff_core.specs.Calendar.{IsCivilDate, days_in_month}
use Rattle.jiff_core.proofs.DateLemmas.{epoch_day_injective}
use Rattle.jiff_core.proofs.SignedLemmas.{signed_arith}
use Rattle.ion_values.specs.declared.time.TimeParts.{TimeParts}
use Rattle.ion_values.specs.declared.time.Precision.{Precision}
use Rattle.ion_values.specs.declared.time.Precision.TheVariants.{Year, Month, Day, Minute, Second}
use Rattle.ion_values.specs.Dates.{Date, IsDay, day_after, day_before, day_number}
use Rattle.ion_values.specs.Time.{IsTime, ends_at, is_clock, is_date, is_fraction, is_in_years, is_offset, is_time, lacks_clock, lacks_fraction, lacks_second, utc_minutes}
use Rattle.ion_values.proofs.Days.{both_true}
use Rattle.laws_serialization.specs.Numbers.{TimestampIsInjective}
use Rattle.hash_model.specs.Numbers.{int_field, var_int, var_uint}
use Rattle.hash_model.specs.Timestamps.{fields_to, fraction_bytes, local_date, minutes_from_local_date, utc_clock, utc_date}
use Rattle.laws_serialization.proofs.Decimals.{offset_is_prefix_free}
use Rattle.laws_serialization.proofs.Numbers.{int_field_is_injective, some_byte, some_group, var_int_is_prefix_free, var_uint_is_prefix_free}
use Rattle.hash_model.proofs.UtcDates.{utc_dates_tell_instants}

eq_is : (a b : ℕ) → (a == b) ≡ true → a ≡ b
eq_is a b h = grind (arith, nat_tests)

le_is : (a b : ℕ) → nat_le a b ≡ true → a ≤ b
le_is a b h = grind (arith, nat_tests)

lt_is : (a b : ℕ) → nat_lt a b ≡ true → a < b
lt_is a b h = grind (arith, nat_tests)

-- ---- a day is determined by its number

civil_of : (year month day : ℕ) → is_date year month day ≡ true → IsCivilDate (pos year) month day
civil_of year month day h =
    let last = both_true (nat_le 1 year && nat_le year 9999 && nat_le 1 month && nat_le month 12 && nat_le 1 day) (nat_le day (days_in_month (pos year) month)) h in
    let least = both_true (nat_le 1 year && nat_le year 9999 && nat_le 1 month && nat_le month 12) (nat_le 1 day) last.0 in
    let high = both_true (nat_le 1 year && nat_le year 9999 && nat_le 1 month) (nat_le month 12) least.0 in
    let low = both_true (nat_le 1 year && nat_le year 9999) (nat_le 1 month) high.0 in
    let years = both_true (nat_le 1 year) (nat_le year 9999) low.0 in
    let end = le_is year 9999 years.1 in (
      (omega (arith, signed_arith), omega (arith, signed_arith)),
      (le_is 1 month low.1, le_is month 12 high.1),
      (le_is 1 day least.1, le_is day (days_in_month (pos year) month) last.1),
    )

abbrev dated : (d : Date) → IsCivilDate (pos d.year) d.month d.day → CivilDate
dated d h = record { year = pos d.year; month = d.month; day = d.day; year_in = h.0; month_in = h.1; day_in = h.2 }

same_year : (a b : ℕ) → pos a ≡ pos b → a ≡ b
same_year a b h = omega (arith, signed_arith)

pub same_day : (a b : Date) → IsDay a → IsDay b → day_number a ≡ day_number b → a ≡ b
same_day a b ha hb e =
    let parts = epoch_day_injective (dated a (civil_of a.year a.month a.day ha)) (dated b (civil_of b.year b.month b.day hb)) e in
    let year = same_year a.year b.year parts.0 in
    λ i. record { year = year i; month = parts.1 i; day = parts.2 i }

-- ---- VarUInts side by side

-- the VarUInts of numbers, and what follows them
abbrev groups : List ℕ → List ℕ → List ℕ
groups [] rest = rest
groups (n ∷ ns) rest = var_uint n ++ groups ns rest

same_front : (xs ys r s : List ℕ) → length xs ≡ length ys → groups xs r ≡ groups ys s → (xs ≡ ys) × (r ≡ s)
same_front [] [] r s l e = (refl, e)
same_front [] (y ∷ ys) r s l e = absurd (omega arith)
same_front (x ∷ xs) [] r s l e = absurd (omega arith)
same_front (x ∷ xs) (y ∷ ys) r s l e =
    let here = var_uint_is_prefix_free x y (groups xs r) (groups ys s) e in
    let rest = same_front xs ys r s (omega arith) here.1 in
    ((λ i. here.0 i ∷ rest.0 i), rest.1)

-- where nothing follows them they are at least as many
as_many : (xs ys s : List ℕ) → groups xs [] ≡ groups ys s → length ys ≤ length xs
as_many xs [] s e = omega arith
as_many [] (y ∷ ys) s e = absurd (some_group y (groups ys s) (sym e))
as_many (x ∷ xs) (y ∷ ys) s e = let h = as_many xs ys s (var_uint_is_prefix_free x y (groups xs []) (groups ys s) e).1 in omega arith

-- ---- the precision

-- the numbers that stand in the bytes as VarUInts
abbrev units : Precision → TimeParts → Date → List ℕ
units Year t d = d.year ∷ []
units Month t d = d.year ∷ d.month ∷ []
units Day t d = d.year ∷ d.month ∷ d.day ∷ []
units Minute t d = d.year ∷ d.month ∷ d.day ∷ (utc_clock t / 60) ∷ (utc_clock t % 60) ∷ []
units Second t d = d.year ∷ d.month ∷ d.day ∷ (utc_clock t / 60) ∷ (utc_clock t % 60) ∷ t.second ∷ []

-- the bytes that follow them
abbrev tail : Precision → TimeParts → List ℕ
tail Year t = []
tail Month t = []
tail Day t = []
tail Minute t = []
tail Second t = fraction_bytes t.digits t.nanos

five : (a b c d e : List ℕ) → ((a ++ b) ++ c) ++ (d ++ e) ≡ a ++ (b ++ (c ++ (d ++ e)))
five a b c d e = append_assoc (a ++ b) c (d ++ e) ∙ append_assoc a b (c ++ (d ++ e))

seven : (a b c d e f g : List ℕ) → ((((a ++ b) ++ c) ++ (d ++ e)) ++ f) ++ g ≡ a ++ (b ++ (c ++ (d ++ (e ++ (f ++ g)))))
seven a b c d e f g =
    append_assoc (((a ++ b) ++ c) ++ (d ++ e)) f g
    ∙ append_assoc ((a ++ b) ++ c) (d ++ e) (f ++ g)
    ∙ ap (λ l. ((a ++ b) ++ c) ++ l) (append_assoc d e (f ++ g))
    ∙ five a b c d (e ++ (f ++ g))

as_groups : (p : Precision) (t : TimeParts) (d : Date) → fields_to p t d ≡ groups (units p t d) (tail p t)
as_groups Year t d = sym (append-nil (var_uint d.year))
as_groups Month t d = ap (λ l. var_uint d.year ++ l) (sym (append-nil (var_uint d.month)))
as_groups Day t d =
    append_assoc (var_uint d.year) (var_uint d.month) (var_uint d.day)
    ∙ ap (λ l. var_uint d.year ++ (var_uint d.month ++ l)) (sym (append-nil (var_uint d.day)))
as_groups Minute t d =
    five (var_uint d.year) (var_uint d.month) (var_uint d.day) (var_uint (utc_clock t / 60)) (var_uint (utc_clock t % 60))
    ∙ ap (λ l. var_uint d.year ++ (var_uint d.month ++ (var_uint d.day ++ (var_uint (utc_clock t / 60) ++ l)))) (sym (append-nil (var_uint (utc_clock t % 60))))
as_groups Second t d =
    seven (var_uint d.year) (var_uint d.month) (var_uint d.day) (var_uint (utc_clock t / 60)) (var_uint (utc_clock t % 60)) (var_uint t.second) (fraction_bytes t.digits t.nanos)

-- how many numbers there are
abbrev rank : Precision → ℕ
rank Year = 1
rank Month = 2
rank Day = 3
rank Minute = 5
rank Second = 6

precision_at : ℕ → Precision
precision_at n = if n == 1 then Year else if n == 2 then Month else if n == 3 then Day else if n == 5 then Minute else Second

precision_back : (p : Precision) → precision_at (rank p) ≡ p
unfolding precision_at
precision_back Year = refl
precision_back Month = refl
precision_back Day = refl
precision_back Minute = refl
precision_back Second = refl

length-units : (p : Precision) (t : TimeParts) (d : Date) → length (units p t d) ≡ rank p
length-units Year t d = refl
length-units Month t d = refl
length-units Day t d = refl
length-units Minute t d = refl
length-units Second t d = refl

last_rank : (p : Precision) → rank p ≤ 6
last_rank Year = omega arith
last_rank Month = omega arith
last_rank Day = omega arith
last_rank Minute = omega arith
last_rank Second = omega arith

no_fewer : (xs : List ℕ) (q : Precision) (t : TimeParts) (d : Date) → groups xs [] ≡ groups (units q t d) (tail q t) → rank q ≤ length xs
no_fewer xs q t d e = subst (λ n. n ≤ length xs) (length-units q t d) (as_many xs (units q t d) (tail q t) e)

at_least : (p q : Precision) (s t : TimeParts) (d e : Date) → groups (units p s d) (tail p s) ≡ groups (units q t e) (tail q t) → rank q ≤ rank p
at_least Year q s t d e h = no_fewer (units Year s d) q t e h
at_least Month q s t d e h = no_fewer (units Month s d) q t e h
at_least Day q s t d e h = no_fewer (units Day s d) q t e h
at_least Minute q s t d e h = no_fewer (units Minute s d) q t e h
at_least Second q s t d e h = last_rank q

one_rank : (p q : Precision) (s t : TimeParts) (d e : Date) → groups (units p s d) (tail p s) ≡ groups (units q t e) (tail q t) → rank p ≡ rank q
one_rank p q s t d e h =
    let low = at_least p q s t d e h in
    let high = at_least q p t s e d (sym h) in
    omega arith

same_precision : (p q : Precision) → rank p ≡ rank q → p ≡ q
same_precision p q h = sym (precision_back p) ∙ ap precision_at h ∙ precision_back q

-- ---- fractions

small : (m k : ℕ) → m < k → m % k ≡ 0 → m ≡ 0
small m k less h = sym (mod-eq_of_lt less) ∙ h

multiple : (m k : ℕ) → m % k ≡ 0 → m ≡ m / k * k
multiple m k h = sym (div-add-mod' m k) ∙ ap (λ r. m / k * k + r) h ∙ add-zero (m / k * k)

no_digits : (d m : ℕ) → d ≡ 0 → m < 10 ^ 9 → m % 10 ^ (9 - d) ≡ 0 → m ≡ 0
no_digits d m zero_digits less h = small m (10 ^ 9) less (ap (λ k. m % 10 ^ (9 - k)) (sym zero_digits) ∙ h)

abbrev digits_bytes : ℕ → ℕ → List ℕ
digits_bytes d m = var_int true d ++ int_field false (m / 10 ^ (9 - d))

by_digits : (d e m n : ℕ) → m < 10 ^ 9 → n < 10 ^ 9 → m % 10 ^ (9 - d) ≡ 0 → n % 10 ^ (9 - e) ≡ 0 → (p q : Bool) → (d == 0) ≡ p → (e == 0) ≡ q
    → (if p then [] else digits_bytes d m) ≡ (if q then [] else digits_bytes e n) → (d ≡ e) × (m ≡ n)
by_digits d e m n lm ln hm hn true true p q h =
    (eq_is d 0 p ∙ sym (eq_is e 0 q), no_digits d m (eq_is d 0 p) lm hm ∙ sym (no_digits e n (eq_is e 0 q) ln hn))
by_digits d e m n lm ln hm hn true false p q h = absurd (some_byte true e (int_field false (n / 10 ^ (9 - e))) (sym h))
by_digits d e m n lm ln hm hn false true p q h = absurd (some_byte true d (int_field false (m / 10 ^ (9 - d))) h)
by_digits d e m n lm ln hm hn false false p q h =
    let both = var_int_is_prefix_free true true d e (int_field false (m / 10 ^ (9 - d))) (int_field false (n / 10 ^ (9 - e))) h in
    let parts = int_field_is_injective false false (m / 10 ^ (9 - d)) (n / 10 ^ (9 - e)) both.2 in
    let unit : 10 ^ (9 - d) ≡ 10 ^ (9 - e) = ap (λ k. 10 ^ (9 - k)) both.1 in
    (both.1, multiple m (10 ^ (9 - d)) hm ∙ (λ i. parts.1 i * unit i) ∙ sym (multiple n (10 ^ (9 - e)) hn))

fraction_told : (d e m n : ℕ) → m < 10 ^ 9 → n < 10 ^ 9 → m % 10 ^ (9 - d) ≡ 0 → n % 10 ^ (9 - e) ≡ 0
    → fraction_bytes d m ≡ fraction_bytes e n → (d ≡ e) × (m ≡ n)
fraction_told d e m n lm ln hm hn h = by_digits d e m n lm ln hm hn (d == 0) (e == 0) refl refl h

-- ---- the parts of a timestamp

record Parts (t : TimeParts) : Type 0 where
  date : IsDay (local_date t)
  hour : t.hour < 24
  minute : t.minute < 60
  nanos : t.nanos < 10 ^ 9
  whole : t.nanos % 10 ^ (9 - t.digits) ≡ 0
  ends : ends_at t.precision t ≡ true

parts_of : (t : TimeParts) → IsTime t → Parts t
unfolding is_time
parts_of t h =
    let years = both_true (is_date t.year t.month t.day && is_clock t && is_offset t.offset && is_fraction t.digits t.nanos && ends_at t.precision t) (is_in_years (utc_minutes t)) h in
    let ends = both_true (is_date t.year t.month t.day && is_clock t && is_offset t.offset && is_fraction t.digits t.nanos) (ends_at t.precision t) years.0 in
    let fraction = both_true (is_date t.year t.month t.day && is_clock t && is_offset t.offset) (is_fraction t.digits t.nanos) ends.0 in
    let offset = both_true (is_date t.year t.month t.day && is_clock t) (is_offset t.offset) fraction.0 in
    let date = both_true (is_date t.year t.month t.day) (is_clock t) offset.0 in
    let seconds = both_true (nat_lt t.hour 24 && nat_lt t.minute 60) (nat_lt t.second 60) date.1 in
    let minutes = both_true (nat_lt t.hour 24) (nat_lt t.minute 60) seconds.0 in
    let digits = both_true (nat_le t.digits 9 && nat_lt t.nanos 1_000_000_000) (t.nanos % 10 ^ (9 - t.digits) == 0) fraction.1 in
    let nanos = both_true (nat_le t.digits 9) (nat_lt t.nanos 1_000_000_000) digits.0 in
    record {
      date = date.0;
      hour = lt_is t.hour 24 minutes.0;
      minute = lt_is t.minute 60 minutes.1;
      nanos = lt_is t.nanos 1_000_000_000 nanos.1;
      whole = eq_is (t.nanos % 10 ^ (9 - t.digits)) 0 digits.1;
      ends = ends.1;
    }

record SameRest (a b : TimeParts) : Type 0 where
  second : a.second ≡ b.second
  digits : a.digits ≡ b.digits
  nanos : a.nanos ≡ b.nanos

record SameClock (a b : TimeParts) : Type 0 where
  hour : a.hour ≡ b.hour
  minute : a.minute ≡ b.minute

same_time : (a b : TimeParts) → a.precision ≡ b.precision → a.offset ≡ b.offset → local_date a ≡ local_date b → SameClock a b → SameRest a b → a ≡ b
same_time a b p o d c r =
    λ i. record {
      precision = p i;
      year = (d i).year;
      month = (d i).month;
      day = (d i).day;
      hour = c.hour i;
      minute = c.minute i;
      second = r.second i;
      digits = r.digits i;
      nanos = r.nanos i;
      offset = o i;
    }

-- ---- what is left out

fraction_left : (t : TimeParts) → lacks_fraction t ≡ true → (t.digits ≡ 0) × (t.nanos ≡ 0)
fraction_left t h = let both = both_true (t.digits == 0) (t.nanos == 0) h in (eq_is t.digits 0 both.0, eq_is t.nanos 0 both.1)

rest_left : (a b : TimeParts) → lacks_second a ≡ true → lacks_second b ≡ true → SameRest a b
rest_left a b h k =
    let p = both_true (a.second == 0) (lacks_fraction a) h in
    let q = both_true (b.second == 0) (lacks_fraction b) k in
    let x = fraction_left a p.1 in
    let y = fraction_left b q.1 in
    record { second = eq_is a.second 0 p.0 ∙ sym (eq_is b.second 0 q.0); digits = x.0 ∙ sym y.0; nanos = x.1 ∙ sym y.1 }

none_is : (o : Option ℤ) → is_none o ≡ true → o ≡ None
none_is None h = refl
none_is (Some z) h = absurd (true≢false (sym h))

record NoClock (t : TimeParts) : Type 0 where
  hour : t.hour ≡ 0
  minute : t.minute ≡ 0
  offset : t.offset ≡ None
  rest : lacks_second t ≡ true

clock_left : (t : TimeParts) → lacks_clock t ≡ true → NoClock t
clock_left t h =
    let p = both_true ((t.hour == 0) && (t.minute == 0) && is_none t.offset) (lacks_second t) h in
    let q = both_true ((t.hour == 0) && (t.minute == 0)) (is_none t.offset) p.0 in
    let r = both_true (t.hour == 0) (t.minute == 0) q.0 in
    record { hour = eq_is t.hour 0 r.0; minute = eq_is t.minute 0 r.1; offset = none_is t.offset q.1; rest = p.1 }

-- without a clock the date in UTC is the local one
abbrev date_for : ℤ → Date → Date
date_for m d = if int_lt m (pos 0) then day_before d else (if int_lt m (pos 1440) then d else day_after d)

no_minutes : (t : TimeParts) → NoClock t → minutes_from_local_date t ≡ pos 0
no_minutes t c = λ i. pos (c.hour i * 60 + c.minute i) -ℤ unwrap_or (c.offset i) (pos 0)

utc_is_local : (t : TimeParts) → NoClock t → utc_date t ≡ local_date t
utc_is_local t c = ap (λ m. date_for m (local_date t)) (no_minutes t c)

whole_days : (a b : TimeParts) → a.precision ≡ b.precision → a.offset ≡ b.offset → lacks_clock a ≡ true → lacks_clock b ≡ true → local_date a ≡ local_date b → a ≡ b
whole_days a b p o h k d =
    let x = clock_left a h in
    let y = clock_left b k in
    same_time a b p o d (record { hour = x.hour ∙ sym y.hour; minute = x.minute ∙ sym y.minute }) (rest_left a b x.rest y.rest)

-- ---- what is there

first : List ℕ → ℕ
first [] = 0
first (x ∷ xs) = x

others : List ℕ → List ℕ
others [] = []
others (x ∷ xs) = xs

head_same : (x y : ℕ) (xs ys : List ℕ) → x ∷ xs ≡ y ∷ ys → (x ≡ y) × (xs ≡ ys)
unfolding first others
head_same x y xs ys e = (ap first e, ap others e)

same_clock : (m n : ℕ) → m / 60 ≡ n / 60 → m % 60 ≡ n % 60 → m ≡ n
same_clock m n d r =
    let p = div-add-mod' m 60 in
    let q = div-add-mod' n 60 in
    omega arith

same_local : (d e o p : ℤ) (c k : ℕ) → (d *ℤ pos 1440 +ℤ pos c) -ℤ o ≡ (e *ℤ pos 1440 +ℤ pos k) -ℤ p → o ≡ p → c < 1440 → k < 1440 → (d ≡ e) × (c ≡ k)
same_local d e o p c k h same less below = (omega (arith, signed_arith), omega (arith, signed_arith))

below_day : (hour minute : ℕ) → hour < 24 → minute < 60 → hour * 60 + minute < 1440
below_day hour minute h m = omega arith

same_hours : (h k m n : ℕ) → m < 60 → n < 60 → h * 60 + m ≡ k * 60 + n → (h ≡ k) × (m ≡ n)
same_hours h k m n low high e = (omega arith, omega arith)

-- one moment with one offset is one local time
local_told : (a b : TimeParts) → Parts a → Parts b → a.offset ≡ b.offset → utc_minutes a ≡ utc_minutes b → (local_date a ≡ local_date b) × SameClock a b
local_told a b p q o e =
    let both = same_local (day_number (local_date a)) (day_number (local_date b)) (unwrap_or a.offset (pos 0)) (unwrap_or b.offset (pos 0)) (a.hour * 60 + a.minute) (b.hour * 60 + b.minute) e (ap (λ z. unwrap_or z (pos 0)) o) (below_day a.hour a.minute p.hour p.minute) (below_day b.hour b.minute q.hour q.minute) in
    let parts = same_hours a.hour b.hour a.minute b.minute p.minute q.minute both.1 in
    (same_day (local_date a) (local_date b) p.date q.date both.0, record { hour = parts.0; minute = parts.1 })

-- the first five numbers determine the moment
moment_told : (a b : TimeParts) → IsTime a → IsTime b → utc_date a ≡ utc_date b → utc_clock a ≡ utc_clock b → utc_minutes a ≡ utc_minutes b
moment_told a b ha hb d c =
    sym (utc_dates_tell_instants a ha).0 ∙ (λ i. day_number (d i) *ℤ pos 1440 +ℤ pos (c i)) ∙ (utc_dates_tell_instants b hb).0

record SameUtc (a b : TimeParts) (xs ys : List ℕ) : Type 0 where
  date : utc_date a ≡ utc_date b
  clock : utc_clock a ≡ utc_clock b
  rest : xs ≡ ys

utc_told : (a b : TimeParts) (xs ys : List ℕ)
    → (utc_date a).year ∷ (utc_date a).month ∷ (utc_date a).day ∷ (utc_clock a / 60) ∷ (utc_clock a % 60) ∷ xs
    ≡ (utc_date b).year ∷ (utc_date b).month ∷ (utc_date b).day ∷ (utc_clock b / 60) ∷ (utc_clock b % 60) ∷ ys
    → SameUtc a b xs ys
utc_told a b xs ys e =
    let year = head_same _ _ _ _ e in
    let month = head_same _ _ _ _ year.1 in
    let day = head_same _ _ _ _ month.1 in
    let hour = head_same _ _ _ _ day.1 in
    let minute = head_same _ _ _ _ hour.1 in
    record {
      date = λ i. record { year = year.0 i; month = month.0 i; day = day.0 i };
      clock = same_clock (utc_clock a) (utc_clock b) hour.0 minute.0;
      rest = minute.1;
    }

-- ---- each precision

abbrev ToldAt : Precision → Type 0
ToldAt p = (a b : TimeParts) → IsTime a → IsTime b → Parts a → Parts b → a.precision ≡ b.precision → a.offset ≡ b.offset
    → ends_at p a ≡ true → ends_at p b ≡ true → units p a (utc_date a) ≡ units p b (utc_date b) → tail p a ≡ tail p b → a ≡ b

year_told : ToldAt Year
year_told a b ha hb p q same o h k e f =
    let month = both_true (a.month == 1) ((a.day == 1) && lacks_clock a) h in
    let day = both_true (a.day == 1) (lacks_clock a) month.1 in
    let month' = both_true (b.month == 1) ((b.day == 1) && lacks_clock b) k in
    let day' = both_true (b.day == 1) (lacks_clock b) month'.1 in
    let left = utc_is_local a (clock_left a day.1) in
    let right = utc_is_local b (clock_left b day'.1) in
    let year : a.year ≡ b.year = sym (ap (λ d. d.year) left) ∙ (head_same _ _ _ _ e).0 ∙ ap (λ d. d.year) right in
    let months : a.month ≡ b.month = eq_is a.month 1 month.0 ∙ sym (eq_is b.month 1 month'.0) in
    let days : a.day ≡ b.day = eq_is a.day 1 day.0 ∙ sym (eq_is b.day 1 day'.0) in
    whole_days a b same o day.1 day'.1 (λ i. record { year = year i; month = months i; day = days i })

month_told : ToldAt Month
month_told a b ha hb p q same o h k e f =
    let day = both_true (a.day == 1) (lacks_clock a) h in
    let day' = both_true (b.day == 1) (lacks_clock b) k in
    let left = utc_is_local a (clock_left a day.1) in
    let right = utc_is_local b (clock_left b day'.1) in
    let years = head_same _ _ _ _ e in
    let year : a.year ≡ b.year = sym (ap (λ d. d.year) left) ∙ years.0 ∙ ap (λ d. d.year) right in
    let month : a.month ≡ b.month = sym (ap (λ d. d.month) left) ∙ (head_same _ _ _ _ years.1).0 ∙ ap (λ d. d.month) right in
    let days : a.day ≡ b.day = eq_is a.day 1 day.0 ∙ sym (eq_is b.day 1 day'.0) in
    whole_days a b same o day.1 day'.1 (λ i. record { year = year i; month = month i; day = days i })

day_told : ToldAt Day
day_told a b ha hb p q same o h k e f =
    let years = head_same _ _ _ _ e in
    let months = head_same _ _ _ _ years.1 in
    let days = head_same _ _ _ _ months.1 in
    let utc : utc_date a ≡ utc_date b = λ i. record { year = years.0 i; month = months.0 i; day = days.0 i } in
    whole_days a b same o h k (sym (utc_is_local a (clock_left a h)) ∙ utc ∙ utc_is_local b (clock_left b k))

minute_told : ToldAt Minute
minute_told a b ha hb p q same o h k e f =
    let utc = utc_told a b [] [] e in
    let local = local_told a b p q o (moment_told a b ha hb utc.date utc.clock) in
    same_time a b same o local.0 local.1 (rest_left a b h k)

second_told : ToldAt Second
second_told a b ha hb p q same o h k e f =
    let utc = utc_told a b (a.second ∷ []) (b.second ∷ []) e in
    let local = local_told a b p q o (moment_told a b ha hb utc.date utc.clock) in
    let fraction = fraction_told a.digits b.digits a.nanos b.nanos p.nanos q.nanos p.whole q.whole f in
    same_time a b same o local.0 local.1 (record { second = (head_same _ _ _ _ utc.rest).0; digits = fraction.0; nanos = fraction.1 })

told_at : (p : Precision) → ToldAt p
told_at Year = year_told
told_at Month = month_told
told_at Day = day_told
told_at Minute = minute_told
told_at Second = second_told

-- equal numbers and equal bytes after them, the precisions being one
by_precision : (p q : Precision) (a b : TimeParts) (d e : Date) → p ≡ q → groups (units p a d) (tail p a) ≡ groups (units q b e) (tail q b)
    → (units q a d ≡ units q b e) × (tail q a ≡ tail q b)
by_precision p q a b d e same h =
    same_front (units q a d) (units q b e) (tail q a) (tail q b) (length-units q a d ∙ sym (length-units q b e))
    (sym (ap (λ r. groups (units r a d) (tail r a)) same) ∙ h)

pub timestamp_is_injective : TimestampIsInjective
timestamp_is_injective a b ha hb e =
    let offset = offset_is_prefix_free a.offset b.offset (fields_to a.precision a (utc_date a)) (fields_to b.precision b (utc_date b)) e in
    let fields = sym (as_groups a.precision a (utc_date a)) ∙ offset.1 ∙ as_groups b.precision b (utc_date b) in
    let same = same_precision a.precision b.precision (one_rank a.precision b.precision a b (utc_date a) (utc_date b) fields) in
    let both = by_precision a.precision b.precision a b (utc_date a) (utc_date b) same fields in
    let p = parts_of a ha in
    let q = parts_of b hb in
    told_at b.precision a b ha hb p q same offset.0 (ap (λ r. ends_at r a) (sym same) ∙ p.ends) q.ends both.0 both.1
