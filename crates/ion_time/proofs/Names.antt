-- A millisecond names one timestamp at most, and their orders agree.
use Rattle.std.proofs.Common.{◌≡◌, ◌∙◌, ℕ, ◌+◌, ◌*◌, ◌<◌, Bool, true, false, ℤ, pos, ◌+ℤ◌, ◌-ℤ◌, ◌*ℤ◌, int_le, refl, sym, arith}
use borrow.Author.Differences.{le-true, le-false, false_is_le}
use Rattle.jiff_core.specs.Calendar.{days_from_civil}
use Rattle.jiff_core.proofs.SignedLemmas.{signed_arith}
use Rattle.ion_values.specs.declared.time.TimeParts.{TimeParts}
use Rattle.ion_time.specs.Millis.{BeginsAt}
use Rattle.ion_time.specs.Laws.{MillisNameTimes, MillisOrderTimes}
use Rattle.ion_time.proofs.Bounds.{le_yes}
use Rattle.ion_time.proofs.Dates.{parts_of, same_date}

-- a moment in UTC as its day, hour, minute, second and billionths of a second
abbrev moment : ℤ → ℕ → ℕ → ℕ → ℕ → ℤ
moment day hour minute second nanos =
    ((day *ℤ pos 1440 +ℤ pos (hour * 60 + minute)) -ℤ pos 0) *ℤ pos 60_000_000_000 +ℤ pos (second * 1_000_000_000 + nanos)

module _ (d e : ℤ) (h m s n h₂ m₂ s₂ n₂ : ℕ) (hour : h < 24) (minute : m < 60) (second : s < 60) (nanos : n < 1_000_000_000) (hour₂ : h₂ < 24) (minute₂ : m₂ < 60) (second₂ : s₂ < 60) (nanos₂ : n₂ < 1_000_000_000) (same : moment d h m s n ≡ moment e h₂ m₂ s₂ n₂) where
  same_days : d ≡ e
  same_days = omega (arith, signed_arith)

  same_hours : h ≡ h₂
  same_hours = omega (arith, signed_arith)

  same_minutes : m ≡ m₂
  same_minutes = omega (arith, signed_arith)

  same_seconds : s ≡ s₂
  same_seconds = omega (arith, signed_arith)

  same_nanos : n ≡ n₂
  same_nanos = omega (arith, signed_arith)

moment_of : (ms : ℤ) (t : TimeParts) → BeginsAt ms t
    → moment (days_from_civil (pos t.year) t.month t.day) t.hour t.minute t.second t.nanos ≡ ms *ℤ pos 1_000_000
moment_of ms t h = let i = h.instant in rw h.offset at i

pub millis_name_times : MillisNameTimes
millis_name_times ms s t hs ht =
    let ps = parts_of s hs.is_time in
    let pt = parts_of t ht.is_time in
    let d = days_from_civil (pos s.year) s.month s.day in
    let e = days_from_civil (pos t.year) t.month t.day in
    let same = moment_of ms s hs ∙ sym (moment_of ms t ht) in
    let days = same_days d e s.hour s.minute s.second s.nanos t.hour t.minute t.second t.nanos ps.hour ps.minute ps.second ps.nanos pt.hour pt.minute pt.second pt.nanos same in
    let hours = same_hours d e s.hour s.minute s.second s.nanos t.hour t.minute t.second t.nanos ps.hour ps.minute ps.second ps.nanos pt.hour pt.minute pt.second pt.nanos same in
    let minutes = same_minutes d e s.hour s.minute s.second s.nanos t.hour t.minute t.second t.nanos ps.hour ps.minute ps.second ps.nanos pt.hour pt.minute pt.second pt.nanos same in
    let seconds = same_seconds d e s.hour s.minute s.second s.nanos t.hour t.minute t.second t.nanos ps.hour ps.minute ps.second ps.nanos pt.hour pt.minute pt.second pt.nanos same in
    let nanos = same_nanos d e s.hour s.minute s.second s.nanos t.hour t.minute t.second t.nanos ps.hour ps.minute ps.second ps.nanos pt.hour pt.minute pt.second pt.nanos same in
    let date = same_date s t ps pt days in
    rw (hs.precision, ht.precision, date.year, date.month, date.day, hours, minutes, seconds, hs.digits, ht.digits, nanos, hs.offset, ht.offset) refl

by_cases : (b c : Bool) → (b ≡ true → c ≡ true) → (b ≡ false → c ≡ false) → c ≡ b
by_cases true c holds fails = holds refl
by_cases false c holds fails = fails refl

scaled : (a b : ℤ) → int_le (a *ℤ pos 1_000_000) (b *ℤ pos 1_000_000) ≡ int_le a b
scaled a b =
    by_cases (int_le a b) (int_le (a *ℤ pos 1_000_000) (b *ℤ pos 1_000_000))
    (λ holds. le_yes (a *ℤ pos 1_000_000) (b *ℤ pos 1_000_000) (omega (arith, signed_arith, le-true a b holds)))
    (λ fails. sym (false_is_le (a *ℤ pos 1_000_000) (b *ℤ pos 1_000_000) (omega (arith, signed_arith, le-false a b fails))))

pub millis_order_times : MillisOrderTimes
millis_order_times a b s t hs ht = rw (hs.instant, ht.instant) (scaled a b)
