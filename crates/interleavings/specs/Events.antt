-- The events that values spell (Ion 1.0, "The Ion data model"): structs whose fields stand in one order, with none
-- beside them.
use Rattle.std.specs.Prelude.{ℕ, ◌-◌, ◌^◌, ◌&&◌, List, [], ◌∷◌, codes, ℤ, pos, neg_ℤ, int_le, Option, Some, None, if◌then◌else◌}
use Rattle.std.specs.Str.{bytes_eq}
use Rattle.ion_values.specs.declared.value.Value.{Value}
use Rattle.ion_values.specs.declared.value.Field.{Field}
use Rattle.ion_values.specs.declared.value.Body.{Body}
use Rattle.ion_values.specs.declared.value.Body.TheOpen.{Body-F}
use Rattle.ql_types.specs.declared.Hash32.{Hash32}
use Rattle.ledger_model.specs.Script.{and_then, each}
use Rattle.ledger_model.specs.Values.{bare, string_in, list_in, fields_in}
use Rattle.value_codec.specs.ReadParts.{named, hash_in}
use Rattle.block_form.specs.ReadBack.{place_in}
use Rattle.interleavings.specs.declared.events.Event.{Event}
use Rattle.interleavings.specs.declared.events.Event.TheVariants.{Begin, Execute, Commit, Abort}

-- ---- what stands behind the name of an event's transaction

abbrev pub begin_of : List ℕ → List Field → Option Event
begin_of name (f ∷ []) = and_then (and_then (named (codes "place") f) place_in) (λ place. Some (Begin name place))
begin_of name _ = None

-- there are no parameters where none are told
abbrev pub params_of : List Field → Option (List Value)
params_of [] = Some []
params_of (f ∷ []) = and_then (named (codes "params") f) list_in
params_of _ = None

abbrev pub execute_of : List ℕ → List Field → Option Event
execute_of name [] = None
execute_of name (f ∷ more) =
    and_then (and_then (named (codes "text") f) string_in) (λ text.
    and_then (params_of more) (λ params. Some (Execute name text params)))

-- a digest need not be told
abbrev pub digest_of : List Field → Option (Option Hash32)
digest_of [] = Some None
digest_of (f ∷ []) = and_then (and_then (named (codes "digest") f) hash_in) (λ digest. Some (Some digest))
digest_of _ = None

abbrev pub commit_of : List ℕ → List Field → Option Event
commit_of name more = and_then (digest_of more) (λ digest. Some (Commit name digest))

abbrev pub abort_of : List ℕ → List Field → Option Event
abort_of name [] = Some (Abort name)
abort_of name _ = None

-- ---- an event

abbrev pub event_as : List ℕ → List ℕ → List Field → Option Event
event_as kind name more =
    if bytes_eq kind (codes "begin") then begin_of name more else
    (if bytes_eq kind (codes "execute") then execute_of name more else
    (if bytes_eq kind (codes "commit") then commit_of name more else
    (if bytes_eq kind (codes "abort") then abort_of name more else None)))

abbrev pub event_of : List Field → Option Event
event_of [] = None
event_of (f ∷ more) = and_then (string_in f.value) (λ name. event_as f.name name more)

abbrev pub event_in : Value → Option Event
event_in v = and_then (fields_in v) event_of

-- ---- the times of a clock

-- an int of 64 bits with a sign
abbrev pub time_of : ℤ → Option ℤ
time_of n = if int_le (neg_ℤ (pos (2 ^ 63))) n && int_le n (pos (2 ^ 63 - 1)) then Some n else None

abbrev pub time_at : Option (Body-F Body Field Value) → Option ℤ
time_at (Some (Body-F.Int n)) = time_of n
time_at _ = None

abbrev pub time_in : Value → Option ℤ
time_in v = time_at (bare v)

-- one time at least
abbrev pub times_in : List Value → Option (List ℤ)
times_in [] = None
times_in (v ∷ vs) = each time_in (v ∷ vs)

abbrev pub clock_field : List Field → Option Value
clock_field (f ∷ []) = named (codes "clock") f
clock_field _ = None

abbrev pub clock_in : Value → Option (List ℤ)
clock_in v = and_then (and_then (and_then (fields_in v) clock_field) list_in) times_in
