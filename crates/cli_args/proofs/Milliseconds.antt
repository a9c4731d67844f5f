-- The milliseconds of a timestamp fit 64 bits, and the sums on the way to them 128.
use Rattle.std.proofs.Common.{◌≡◌, ℕ, ◌+◌, ◌*◌, ◌<◌, ◌≤◌, ◌^◌, ℤ, pos, negsuc, neg_ℤ, ◌+ℤ◌, ◌*ℤ◌, ◌≤ℤ◌, ◌<ℤ◌, int_le, int_lt, unsigned_abs, true, sym, subst, ap, ◌∙◌, arith, w64, to_z, of_z, to_z-of_z, FitsSigned}
use Rattle.std.specs.Int.{int_div_euclid, w128}
use Rattle.std.proofs.lemmas.Bool.{and_parts, ltb-true}
use borrow.Author.Differences.{le-true, lt-true}
use Rattle.jiff_core.proofs.SignedLemmas.{signed_arith, int_div_euclid-parts, back_small}
use Rattle.ion_values.proofs.Years.{first_day, day_after_last}
use Rattle.ion_values.specs.Time.{is_time, is_in_years, instant_of, utc_minutes}
use Rattle.ion_values.specs.declared.time.TimeParts.{TimeParts}
use Rattle.cli_args.specs.Times.{milliseconds_of}

-- the minutes of the years 1 to 9999
record InYears (minutes : ℤ) : Type 0 where
  low : negsuc 1_035_593_279 ≤ℤ minutes
  high : minutes <ℤ pos 4_223_371_680

in_years : (m : ℤ) → is_in_years m ≡ true → InYears m
in_years m h =
    let both = and_parts (int_le (negsuc 1_035_593_279) m) (int_lt m (pos 4_223_371_680))
    (rw (first_day, day_after_last) at h) in
    record {
      low = omega (arith, signed_arith, le-true (negsuc 1_035_593_279) m both.0);
      high = omega (arith, signed_arith, lt-true m (pos 4_223_371_680) both.1);
    }

-- the parts that an instant is made of
record HasParts (t : TimeParts) : Type 0 where
  minutes : InYears (utc_minutes t)
  second : t.second < 60
  nanos : t.nanos < 10 ^ 9

parts_of : (t : TimeParts) → is_time t ≡ true → HasParts t
unfolding is_time
parts_of t h =
    let all = and_parts _ _ h in
    let to_fraction = and_parts _ _ (and_parts _ _ all.0).0 in
    let fraction = and_parts _ _ (and_parts _ _ to_fraction.1).0 in
    let clock = and_parts _ _ (and_parts _ _ (and_parts _ _ to_fraction.0).0).1 in
    record {
      minutes = in_years (utc_minutes t) all.1;
      second = ltb-true _ _ clock.1;
      nanos = ltb-true _ _ fraction.1;
    }

-- a number of so few milliseconds
record IsSmall (ms : ℤ) : Type 0 where
  pub low : neg_ℤ (pos 62_135_596_800_000) ≤ℤ ms
  pub high : ms <ℤ pos 253_402_300_800_000

small : (m : ℤ) (s n : ℕ) → InYears m → s < 60 → n < 10 ^ 9
    → IsSmall (int_div_euclid (m *ℤ pos 60_000_000_000 +ℤ pos (s * 1_000_000_000 + n)) (pos 1_000_000))
small m s n is second nanos =
    let parts = int_div_euclid-parts (m *ℤ pos 60_000_000_000 +ℤ pos (s * 1_000_000_000 + n)) 1_000_000 (omega arith) in
    record {
      low = omega (arith, signed_arith, parts, is.low);
      high = omega (arith, signed_arith, parts, is.high);
    }

is_small : (t : TimeParts) → is_time t ≡ true → IsSmall (milliseconds_of t)
unfolding milliseconds_of
is_small t h = let parts = parts_of t h in small (utc_minutes t) t.second t.nanos parts.minutes parts.second parts.nanos

within : (z : ℤ) → IsSmall z → unsigned_abs z ≤ 253_402_300_800_000
within (pos n) is = let high = is.high in omega (arith, signed_arith)
within (negsuc n) is = let low = is.low in omega (arith, signed_arith)

-- the milliseconds fit 64 bits
pub milliseconds_fit : (t : TimeParts) → is_time t ≡ true → FitsSigned w64 (milliseconds_of t)
milliseconds_fit t h =
    let is = is_small t h in
    let low = is.low in
    let high = is.high in
    omega (arith, signed_arith)

-- and stay what they are in 128 bits and in 64
pub in_128 : (t : TimeParts) → is_time t ≡ true → to_z w128 (of_z w128 (milliseconds_of t)) ≡ milliseconds_of t
in_128 t h = back_small w128 (milliseconds_of t) (omega (arith, within (milliseconds_of t) (is_small t h)))

pub in_64 : (t : TimeParts) → is_time t ≡ true → to_z w64 (of_z w64 (milliseconds_of t)) ≡ milliseconds_of t
in_64 t h = back_small w64 (milliseconds_of t) (omega (arith, within (milliseconds_of t) (is_small t h)))

-- the instant fits 128 bits
wide : (m : ℤ) (s n : ℕ) → InYears m → s < 60 → n < 10 ^ 9
    → FitsSigned w128 (m *ℤ pos 60_000_000_000 +ℤ pos (s * 1_000_000_000 + n))
wide m s n is second nanos = let low = is.low in let high = is.high in omega (arith, signed_arith)

instant_fits : (t : TimeParts) → is_time t ≡ true → FitsSigned w128 (instant_of t)
instant_fits t h =
    let parts = parts_of t h in
    wide (utc_minutes t) t.second t.nanos parts.minutes parts.second parts.nanos

-- what comes of the instant in 128 bits
pub divided : (t : TimeParts) (instant quotient : ℤ) → is_time t ≡ true → instant ≡ instant_of t
    → quotient ≡ int_div_euclid (to_z w128 (of_z w128 instant)) (pos 1_000_000) → quotient ≡ milliseconds_of t
unfolding milliseconds_of
divided t instant quotient h is divides =
    let fits = subst (λ (z : ℤ). FitsSigned w128 z) (sym is) (instant_fits t h) in
    divides ∙ ap (λ z. int_div_euclid z (pos 1_000_000)) (to_z-of_z fits ∙ is)
