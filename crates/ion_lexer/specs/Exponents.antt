-- Exponents of decimals (Ion 1.0 text, "Real Numbers"), as facts on numbers.
use Rattle.std.specs.Prelude.{ℤ, pos, negsuc, ◌^◌, ◌-◌, ◌≤ℤ◌, ◌⊎◌}

-- within the limits
abbrev pub IsExponent : ℤ → Type 0
IsExponent e = (negsuc 32766 ≤ℤ e) × (e ≤ℤ pos 32767)

-- so far from 0 that no digits behind the point bring it within the limits
abbrev pub IsWide : ℤ → Type 0
IsWide e = (e ≤ℤ negsuc (2 ^ 127 - 1)) ⊎ (pos (2 ^ 127) ≤ℤ e)
