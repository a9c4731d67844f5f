-- The bytes of a store after a cut to the journal's lines and after an append.
use Rattle.std.specs.Prelude.{◌≡◌, ◌⊎◌, ℕ, Bool, List, ◌++◌, take, Option, option_map, if◌then◌else◌}

-- the bytes without what is marked to be cut
abbrev pub cleared : Bool → ℕ → List ℕ → List ℕ
cleared marked size held = if marked then take size held else held

-- the bytes are as before or cut to this length
abbrev pub MayBeCut : Option (List ℕ) → Option (List ℕ) → ℕ → Type 0
MayBeCut before now size = (now ≡ before) ⊎ (now ≡ option_map (take size) before)

-- what is marked was cut and a part of the line was appended, perhaps none of it or all
abbrev pub HoldsPart : Bool → ℕ → List ℕ → Option (List ℕ) → Option (List ℕ) → Type 0
HoldsPart marked size line before now =
    (kept : ℕ) × (now ≡ option_map (λ held. cleared marked size held ++ take kept line) before)
