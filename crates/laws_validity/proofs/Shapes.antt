-- Values that are within their ranges and don't nest too deep, by how they are made.
use Rattle.std.proofs.Common.{◌≡◌, ◌+◌, ◌≤◌, ◌^◌, ◌&&◌, ℕ, true, List, map, rules}
use Rattle.std.specs.Prelude.{nat_lt}
use Rattle.ion_values.specs.Depth.{depth_of, field_depth, deepest}
use Rattle.ion_values.specs.Within.{within, field_within, all_true, text_within, bytes_within}
use Rattle.ion_values.specs.Time.{is_time}
use Rattle.ion_values.specs.declared.time.TimeParts.{TimeParts}
use Rattle.ion_values.specs.declared.value.Value.{Value}
use Rattle.ion_values.specs.declared.value.Field.{Field}
use Rattle.ion_values.specs.declared.value.Body.TheVariants as body
use Rattle.ion_values.specs.declared.value.Body.TheFolds.{the_lemmas}
use Rattle.ledger_model.specs.Values.{plain}
use Rattle.ledger_model.specs.Journal.{number, string, moment, structure, list}

-- the value is within its range and nests at most so deep
pub record Fine (d : ℕ) (v : Value) : Type 0 where
  pub ranges : within v ≡ true
  pub depth : depth_of v ≤ d

-- the value nests at most so deep
abbrev pub Shallow : ℕ → Value → Type 0
Shallow d v = depth_of v ≤ d

-- it is fine of a field's value, and its name is a text
pub record FineField (d : ℕ) (f : Field) : Type 0 where
  pub name : text_within f.name ≡ true
  pub value : Fine d f.value

-- ---- what the two come to at each kind of value

pub within_string : (text : List ℕ) → within (string text) ≡ text_within text
within_string text = search (rules, the_lemmas)

pub depth_string : (text : List ℕ) → depth_of (string text) ≡ 0
depth_string text = search (rules, the_lemmas)

pub within_number : (n : ℕ) → within (number n) ≡ nat_lt n (2 ^ 127)
within_number n = search (rules, the_lemmas)

pub depth_number : (n : ℕ) → depth_of (number n) ≡ 0
depth_number n = search (rules, the_lemmas)

pub within_moment : (t : TimeParts) → within (moment t) ≡ is_time t
within_moment t = search (rules, the_lemmas)

pub depth_moment : (t : TimeParts) → depth_of (moment t) ≡ 0
depth_moment t = search (rules, the_lemmas)

pub within_blob : (bytes : List ℕ) → within (plain (body.Blob bytes)) ≡ bytes_within bytes
within_blob bytes = search (rules, the_lemmas)

pub depth_blob : (bytes : List ℕ) → depth_of (plain (body.Blob bytes)) ≡ 0
depth_blob bytes = search (rules, the_lemmas)

pub within_list : (vs : List Value) → within (list vs) ≡ all_true (map within vs)
within_list vs = search (rules, the_lemmas)

pub depth_list : (vs : List Value) → depth_of (list vs) ≡ deepest (map depth_of vs) + 1
depth_list vs = search (rules, the_lemmas)

pub within_structure : (fs : List Field) → within (structure fs) ≡ all_true (map field_within fs)
within_structure fs = search (rules, the_lemmas)

pub depth_structure : (fs : List Field) → depth_of (structure fs) ≡ deepest (map field_depth fs) + 1
depth_structure fs = search (rules, the_lemmas)

pub within_field : (f : Field) → field_within f ≡ (text_within f.name && within f.value)
within_field f = search (rules, the_lemmas)

pub depth_field : (f : Field) → field_depth f ≡ depth_of f.value
depth_field f = search (rules, the_lemmas)
