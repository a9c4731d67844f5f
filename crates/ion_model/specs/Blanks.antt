-- White space and comments (Ion 1.0, "Text encoding", white space and comments).
use Rattle.std.specs.Prelude.{ℕ, suc, ◌+◌, ◌==◌, ◌||◌, Bool, not, List, [], ◌∷◌, drop, nat_eq, codes, Option, Some, None, option_map, if◌then◌else◌}
use Rattle.std.specs.List.{list_any, prefix_len, starts_with}
use Rattle.ion_model.specs.declared.Lexed.{Lexed}
use Rattle.ion_model.specs.declared.Lexed.TheVariants as lexed

-- space, tab, line feed, vertical tab, form feed and carriage return
abbrev pub spaces : List ℕ
spaces = 0x20 ∷ 0x09 ∷ 0x0A ∷ 0x0B ∷ 0x0C ∷ 0x0D ∷ []

abbrev pub is_space : ℕ → Bool
is_space b = list_any (λ s. s == b) spaces

abbrev pub is_line_end : ℕ → Bool
is_line_end b = b == 0x0A || b == 0x0D

-- whether a text begins with this one
abbrev pub begins : List ℕ → List ℕ → Bool
begins front z = starts_with nat_eq z front

-- `//` and what follows it on its line
abbrev pub line_comment : List ℕ → Lexed
line_comment z = lexed.Blank (1 + prefix_len (λ b. not (is_line_end b)) (drop 2 z))

-- how many bytes there are to the end of the first `*/`, or None where there is none
abbrev pub to_close : List ℕ → Option ℕ
to_close [] = None
to_close (b ∷ z) = if begins (codes "*/") (b ∷ z) then Some 2 else option_map suc (to_close z)

abbrev pub enclosed : Option ℕ → Lexed
enclosed (Some n) = lexed.Blank (1 + n)
enclosed None = lexed.Cut

-- `/*` and what follows it up to the first `*/`
abbrev pub block_comment : List ℕ → Lexed
block_comment z = enclosed (to_close (drop 2 z))
