-- Whether bytes are UTF-8 (Unicode, table 3-7).
use Rattle.std.specs.Prelude.{◌≡◌, ◌+◌, ℕ, true, false, List, Result, Ok, Err}
use Rattle.std.specs.Str.{is_utf8}
use Rattle.std.specs.Str.Lossy.{utf8_valid_len}
use Rattle.ion_values.specs.declared.fault.IonFault.{IonFault}
use Rattle.ion_values.specs.declared.fault.IonKind.TheVariants as fault
use Rattle.ion_text.specs.declared.stream.ReadFault.{ReadFault}
use Rattle.ion_text.specs.declared.stream.ReadFault.TheVariants as fails

-- where the bytes from `at` on stop being UTF-8
abbrev pub ill_formed_at : ℕ → List ℕ → IonFault
ill_formed_at at z = record { at = at + utf8_valid_len z; kind = fault.NotUtf8 }

-- the bytes from `at` on are UTF-8, or they are not, unless memory runs out
abbrev pub IsChecked : ℕ → List ℕ → Result (Unit {0}) ReadFault → Type 0
IsChecked at z (Ok x) = is_utf8 z ≡ true
IsChecked at z (Err (fails.Ion f)) = (is_utf8 z ≡ false) × (f ≡ ill_formed_at at z)
IsChecked at z (Err fails.OutOfMemory) = Unit {0}
