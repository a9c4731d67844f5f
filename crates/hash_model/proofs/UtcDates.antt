-- The date and the clock in UTC give the minutes of the instant.
use Rattle.std.proofs.Common.{◌≡◌, ◌∙◌, ℕ, ◌+◌, ◌*◌, ◌<◌, ◌≤◌, Bool, true, false, ◌&&◌, nat_lt, Option, Some, None, ℤ, pos, negsuc, ◌+ℤ◌, ◌-ℤ◌, ◌*ℤ◌, int_lt, unsigned_abs, if◌then◌else◌, refl, ap, arith}
use Rattle.std.specs.Option.{unwrap_or}
use Rattle.std.proofs.lemmas.Bool.Decides.{nat_tests}
use borrow.Author.Differences.{up, down, lt-true, lt-false}
use Rattle.jiff_core.proofs.SignedLemmas.{signed_arith}
use Rattle.ion_values.specs.declared.time.TimeParts.{TimeParts}
use Rattle.ion_values.specs.Dates.{Date, day_number, day_after, day_before, IsDay}
use Rattle.ion_values.specs.Time.{is_time, is_date, is_clock, is_offset, is_fraction, ends_at, is_in_years, utc_minutes}
use Rattle.ion_values.proofs.Days.{both_true, days_are_numbered}
use Rattle.hash_model.specs.Laws.{UtcDatesTellInstants}
use Rattle.hash_model.specs.Timestamps.{local_date, minutes_from_local_date}

lt_is : (a b : ℕ) → nat_lt a b ≡ true → a < b
lt_is a b h = grind (arith, nat_tests)

-- what isn't negative is its magnitude
magnitude_is : (z : ℤ) → down z ≤ up z → pos (unsigned_abs z) ≡ z
magnitude_is (pos n) h = refl
magnitude_is (negsuc n) h = absurd (omega arith)

earlier : (here there m : ℤ) → there +ℤ pos 1 ≡ here → there *ℤ pos 1440 +ℤ (m +ℤ pos 1440) ≡ here *ℤ pos 1440 +ℤ m
earlier here there m e = omega (arith, signed_arith)

later : (here there m : ℤ) → there ≡ here +ℤ pos 1 → there *ℤ pos 1440 +ℤ (m -ℤ pos 1440) ≡ here *ℤ pos 1440 +ℤ m
later here there m e = omega (arith, signed_arith)

regrouped : (a b c : ℤ) → a +ℤ (b -ℤ c) ≡ (a +ℤ b) -ℤ c
regrouped a b c = omega (arith, signed_arith)

-- a day and a clock that stand for `m` minutes after the beginning of another day
abbrev Told : ℤ → ℤ → ℤ → ℕ → Type 0
Told here m there clock = (there *ℤ pos 1440 +ℤ pos clock ≡ here *ℤ pos 1440 +ℤ m) × (clock < 1440)

told : (here m there turned : ℤ) → there *ℤ pos 1440 +ℤ turned ≡ here *ℤ pos 1440 +ℤ m → down turned ≤ up turned → up turned < down turned + 1440
    → Told here m there (unsigned_abs turned)
told here m there turned e low high =
    let same = magnitude_is turned low in
    (ap (λ (z : ℤ). there *ℤ pos 1440 +ℤ z) same ∙ e, omega (arith, signed_arith))

abbrev date_for : Bool → Bool → Date → Date
date_for b c d = if b then day_before d else (if c then d else day_after d)

abbrev clock_for : Bool → Bool → ℤ → ℕ
clock_for b c m = unsigned_abs (if b then m +ℤ pos 1440 else (if c then m else m -ℤ pos 1440))

on_day : (d : Date) → IsDay d → (m : ℤ) → down m ≤ up m + 1440 → up m < down m + 2880 → (b c : Bool) → int_lt m (pos 0) ≡ b → int_lt m (pos 1440) ≡ c
    → Told (day_number d) m (day_number (date_for b c d)) (clock_for b c m)
on_day d h m low high true c before within =
    let less = lt-true m (pos 0) before in
    told (day_number d) m (day_number (day_before d)) (m +ℤ pos 1440) (earlier (day_number d) (day_number (day_before d)) m (days_are_numbered d h).1)
    (omega (arith, signed_arith)) (omega (arith, signed_arith))
on_day d h m low high false true before within =
    let some = lt-false m (pos 0) before in
    let less = lt-true m (pos 1440) within in
    told (day_number d) m (day_number d) m refl (omega arith) (omega arith)
on_day d h m low high false false before within =
    let more = lt-false m (pos 1440) within in
    told (day_number d) m (day_number (day_after d)) (m -ℤ pos 1440) (later (day_number d) (day_number (day_after d)) m (days_are_numbered d h).0)
    (omega (arith, signed_arith)) (omega (arith, signed_arith))

-- ---- what a timestamp's parts are

of_time : (date clock offset fraction ends years : Bool) → (date && clock && offset && fraction && ends && years) ≡ true
    → (date ≡ true) × (clock ≡ true) × (offset ≡ true)
of_time date clock offset fraction ends years h =
    let p = both_true (date && clock && offset && fraction && ends) years h in
    let q = both_true (date && clock && offset && fraction) ends p.0 in
    let r = both_true (date && clock && offset) fraction q.0 in
    let s = both_true (date && clock) offset r.0 in
    let u = both_true date clock s.0 in
    (u.0, u.1, s.1)

clock_within : (t : TimeParts) → is_clock t ≡ true → t.hour * 60 + t.minute < 1440
clock_within t h =
    let p = both_true (nat_lt t.hour 24 && nat_lt t.minute 60) (nat_lt t.second 60) h in
    let q = both_true (nat_lt t.hour 24) (nat_lt t.minute 60) p.0 in
    let hours = lt_is t.hour 24 q.0 in
    let minutes = lt_is t.minute 60 q.1 in
    omega arith

abbrev IsLessThanADay : ℤ → Type 0
IsLessThanADay z = (up z < down z + 1440) × (down z < up z + 1440)

offset_within : (o : Option ℤ) → is_offset o ≡ true → IsLessThanADay (unwrap_or o (pos 0))
offset_within None h = (omega arith, omega arith)
offset_within (Some z) h =
    let both = both_true (int_lt (negsuc 1439) z) (int_lt z (pos 1440)) h in
    let low = lt-true (negsuc 1439) z both.0 in
    let high = lt-true z (pos 1440) both.1 in
    (omega arith, omega arith)

not_before : (clock : ℕ) (z : ℤ) → clock < 1440 → IsLessThanADay z → down (pos clock -ℤ z) ≤ up (pos clock -ℤ z) + 1440
not_before clock z within less = omega (arith, signed_arith)

not_behind : (clock : ℕ) (z : ℤ) → clock < 1440 → IsLessThanADay z → up (pos clock -ℤ z) < down (pos clock -ℤ z) + 2880
not_behind clock z within less = omega (arith, signed_arith)

pub utc_dates_tell_instants : UtcDatesTellInstants
unfolding is_time
utc_dates_tell_instants t h =
    let p = of_time (is_date t.year t.month t.day) (is_clock t) (is_offset t.offset) (is_fraction t.digits t.nanos) (ends_at t.precision t) (is_in_years (utc_minutes t)) h in
    let clock = clock_within t p.1 in
    let offset = offset_within t.offset p.2 in
    let is = on_day (local_date t) p.0 (minutes_from_local_date t)
    (not_before (t.hour * 60 + t.minute) (unwrap_or t.offset (pos 0)) clock offset)
    (not_behind (t.hour * 60 + t.minute) (unwrap_or t.offset (pos 0)) clock offset)
    (int_lt (minutes_from_local_date t) (pos 0)) (int_lt (minutes_from_local_date t) (pos 1440)) refl refl in
    (is.0 ∙ regrouped (day_number (local_date t) *ℤ pos 1440) (pos (t.hour * 60 + t.minute)) (unwrap_or t.offset (pos 0)), is.1)
