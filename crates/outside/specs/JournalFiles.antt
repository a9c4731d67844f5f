-- Which bytes of a file may be a journal's.
use Rattle.std.specs.Prelude.{◌≡◌, ℕ, ◌==◌, ◌⊎◌, Bool, true, List, length, take, codes}
use Rattle.std.specs.List.{list_any}

-- how the line of a block begins
abbrev pub line_start : List ℕ
line_start = codes "{blockAddress:{strandId:\""

-- they begin as a line does, as far as they go
abbrev pub BeginsLine : List ℕ → Type 0
BeginsLine bytes = take (length line_start) bytes ≡ take (length bytes) line_start

abbrev pub has_line_feed : List ℕ → Bool
has_line_feed bytes = list_any (λ byte. byte == 10) bytes

-- they are lines and a rest, or a part of the first line
abbrev pub MayBeJournal : List ℕ → Type 0
MayBeJournal bytes = (has_line_feed bytes ≡ true) ⊎ BeginsLine bytes
