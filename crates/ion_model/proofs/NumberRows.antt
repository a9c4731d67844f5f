-- Worked numbers in front of a text, and texts that are refused.
use Rattle.std.proofs.Common.{◌≡◌, ◌-◌, ◌^◌, ℕ, ℤ, pos, negsuc, Bool, true, false, Some, None, refl}
use Rattle.std.specs.Prelude.{codes}
use Rattle.ion_values.specs.Time.{is_time}
use Rattle.ion_values.specs.declared.fault.IonKind.{IonKind}
use Rattle.ion_values.specs.declared.fault.IonKind.TheVariants as kind
use Rattle.ion_values.specs.declared.time.TimeParts.{TimeParts}
use Rattle.ion_values.specs.declared.time.Precision.TheVariants as p
use Rattle.ion_model.specs.Numbers.{is_spelled, lex_number, number_token}
use Rattle.ion_model.specs.Timestamps.{has_seconds, has_shape, is_offset, minute_parts, moment, offset_moment, second_parts, time_in}
use Rattle.ion_model.specs.declared.Scalar.TheVariants as scalar
use Rattle.ion_model.specs.declared.Token.TheVariants as token
use Rattle.ion_model.specs.declared.Lexed.{Lexed}
use Rattle.ion_model.specs.declared.Lexed.TheVariants as lexed

abbrev int : ℤ → ℕ → Lexed
int n more = lexed.Token (token.Scalar (scalar.Int n)) more

abbrev decimal : ℤ → ℤ → Bool → ℕ → Lexed
decimal c e minus more = lexed.Token (token.Scalar (scalar.Decimal (record { coefficient = c; exponent = e; negative_zero = minus }))) more

-- where the parts are in their ranges
abbrev time : TimeParts → ℕ → Lexed
time t more = number_token more (moment t)

abbrev refused : IonKind → Lexed
refused = lexed.Refused

row_zero : lex_number (codes "0") ≡ int (pos 0) 0
unfolding lex_number is_spelled time_in has_shape is_offset has_seconds minute_parts second_parts offset_moment
row_zero = refl

row_minus_zero : lex_number (codes "-0") ≡ int (pos 0) 1
unfolding lex_number is_spelled time_in has_shape is_offset has_seconds minute_parts second_parts offset_moment
row_minus_zero = refl

row_grouped : lex_number (codes "1_234]") ≡ int (pos 1234) 4
unfolding lex_number is_spelled time_in has_shape is_offset has_seconds minute_parts second_parts offset_moment
row_grouped = refl

row_hexadecimal : lex_number (codes "-0xfF_d") ≡ int (negsuc (4093 - 1)) 6
unfolding lex_number is_spelled time_in has_shape is_offset has_seconds minute_parts second_parts offset_moment
row_hexadecimal = refl

row_binary : lex_number (codes "0B1_01 ") ≡ int (pos 5) 5
unfolding lex_number is_spelled time_in has_shape is_offset has_seconds minute_parts second_parts offset_moment
row_binary = refl

row_greatest : lex_number (codes "170141183460469231731687303715884105727") ≡ int (pos (2 ^ 127 - 1)) 38
unfolding lex_number is_spelled time_in has_shape is_offset has_seconds minute_parts second_parts offset_moment
row_greatest = refl

row_least : lex_number (codes "-0x80000000000000000000000000000000") ≡ int (negsuc (2 ^ 127 - 1)) 34
unfolding lex_number is_spelled time_in has_shape is_offset has_seconds minute_parts second_parts offset_moment
row_least = refl

row_too_wide : lex_number (codes "170141183460469231731687303715884105728") ≡ refused kind.TooWide
unfolding lex_number is_spelled time_in has_shape is_offset has_seconds minute_parts second_parts offset_moment
row_too_wide = refl

row_leading_zero : lex_number (codes "01") ≡ refused kind.BadToken
unfolding lex_number is_spelled time_in has_shape is_offset has_seconds minute_parts second_parts offset_moment
row_leading_zero = refl

row_double_underscore : lex_number (codes "1__2") ≡ refused kind.BadToken
unfolding lex_number is_spelled time_in has_shape is_offset has_seconds minute_parts second_parts offset_moment
row_double_underscore = refl

row_last_underscore : lex_number (codes "1_") ≡ refused kind.BadToken
unfolding lex_number is_spelled time_in has_shape is_offset has_seconds minute_parts second_parts offset_moment
row_last_underscore = refl

row_no_hex_digit : lex_number (codes "0x") ≡ refused kind.BadToken
unfolding lex_number is_spelled time_in has_shape is_offset has_seconds minute_parts second_parts offset_moment
row_no_hex_digit = refl

row_point_alone : lex_number (codes "1.") ≡ decimal (pos 1) (pos 0) false 1
unfolding lex_number is_spelled time_in has_shape is_offset has_seconds minute_parts second_parts offset_moment
row_point_alone = refl

row_minus_zero_point : lex_number (codes "-0.") ≡ decimal (pos 0) (pos 0) true 2
unfolding lex_number is_spelled time_in has_shape is_offset has_seconds minute_parts second_parts offset_moment
row_minus_zero_point = refl

row_places : lex_number (codes "123_456.789_012") ≡ decimal (pos 123456789012) (negsuc 5) false 14
unfolding lex_number is_spelled time_in has_shape is_offset has_seconds minute_parts second_parts offset_moment
row_places = refl

row_exponent : lex_number (codes "-1.50d+3") ≡ decimal (negsuc 149) (pos 1) false 7
unfolding lex_number is_spelled time_in has_shape is_offset has_seconds minute_parts second_parts offset_moment
row_exponent = refl

row_exponent_edge : lex_number (codes "1.5D32768") ≡ decimal (pos 15) (pos 32767) false 8
unfolding lex_number is_spelled time_in has_shape is_offset has_seconds minute_parts second_parts offset_moment
row_exponent_edge = refl

row_exponent_past : lex_number (codes "1.5d-32767") ≡ refused kind.TooWide
unfolding lex_number is_spelled time_in has_shape is_offset has_seconds minute_parts second_parts offset_moment
row_exponent_past = refl

row_no_exponent : lex_number (codes "1d") ≡ refused kind.BadToken
unfolding lex_number is_spelled time_in has_shape is_offset has_seconds minute_parts second_parts offset_moment
row_no_exponent = refl

row_grouped_exponent : lex_number (codes "1d1_0") ≡ refused kind.BadToken
unfolding lex_number is_spelled time_in has_shape is_offset has_seconds minute_parts second_parts offset_moment
row_grouped_exponent = refl

row_float : lex_number (codes "1e0") ≡ refused kind.FloatRefused
unfolding lex_number is_spelled time_in has_shape is_offset has_seconds minute_parts second_parts offset_moment
row_float = refl

row_float_in_binary : lex_number (codes "0b1e") ≡ refused kind.FloatRefused
unfolding lex_number is_spelled time_in has_shape is_offset has_seconds minute_parts second_parts offset_moment
row_float_in_binary = refl

row_year : lex_number (codes "0001T") ≡ time (record { precision = p.Year; year = 1; month = 1; day = 1; hour = 0; minute = 0; second = 0; digits = 0; nanos = 0; offset = None }) 4
unfolding lex_number is_spelled time_in has_shape is_offset has_seconds minute_parts second_parts offset_moment
row_year = refl

row_day : lex_number (codes "2000-02-29") ≡ time (record { precision = p.Day; year = 2000; month = 2; day = 29; hour = 0; minute = 0; second = 0; digits = 0; nanos = 0; offset = None }) 9
unfolding lex_number is_spelled time_in has_shape is_offset has_seconds minute_parts second_parts offset_moment
row_day = refl

row_minute : lex_number (codes "2001-12-31T23:59-23:59") ≡ time (record { precision = p.Minute; year = 2001; month = 12; day = 31; hour = 23; minute = 59; second = 0; digits = 0; nanos = 0; offset = Some (negsuc 1438) }) 21
unfolding lex_number is_spelled time_in has_shape is_offset has_seconds minute_parts second_parts offset_moment
row_minute = refl

row_second : lex_number (codes "2001-02-03T04:05:06.07-00:00") ≡ time (record { precision = p.Second; year = 2001; month = 2; day = 3; hour = 4; minute = 5; second = 6; digits = 2; nanos = 70_000_000; offset = None }) 27
unfolding lex_number is_spelled time_in has_shape is_offset has_seconds minute_parts second_parts offset_moment
row_second = refl

row_second_utc : lex_number (codes "2001-02-03T04:05:06Z") ≡ time (record { precision = p.Second; year = 2001; month = 2; day = 3; hour = 4; minute = 5; second = 6; digits = 0; nanos = 0; offset = Some (pos 0) }) 19
unfolding lex_number is_spelled time_in has_shape is_offset has_seconds minute_parts second_parts offset_moment
row_second_utc = refl

row_no_such_day : lex_number (codes "2001-02-30") ≡ refused kind.BadTimestamp
unfolding lex_number is_spelled time_in has_shape is_offset has_seconds minute_parts second_parts offset_moment is_time
row_no_such_day = refl

row_offset_minutes : lex_number (codes "2001-02-03T04:05+00:60") ≡ refused kind.BadTimestamp
unfolding lex_number is_spelled time_in has_shape is_offset has_seconds minute_parts second_parts offset_moment
row_offset_minutes = refl

row_before_the_years : lex_number (codes "0001-01-01T00:00+00:01") ≡ time (record { precision = p.Minute; year = 1; month = 1; day = 1; hour = 0; minute = 0; second = 0; digits = 0; nanos = 0; offset = Some (pos 1) }) 21
unfolding lex_number is_spelled time_in has_shape is_offset has_seconds minute_parts second_parts offset_moment
row_before_the_years = refl

row_ten_digits : lex_number (codes "2001-02-30T04:05:06.0123456789Z") ≡ refused kind.TooWide
unfolding lex_number is_spelled time_in has_shape is_offset has_seconds minute_parts second_parts offset_moment
row_ten_digits = refl

row_no_offset : lex_number (codes "2001-02-03T04:05") ≡ refused kind.BadToken
unfolding lex_number is_spelled time_in has_shape is_offset has_seconds minute_parts second_parts offset_moment
row_no_offset = refl
