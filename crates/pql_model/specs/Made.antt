-- What expressions answer (PartiQL, "values": MISSING, NULL and the truth values; the profile is the ledger's own). A
-- value that an expression makes has no annotations, and a made NULL is the plain one. Every typed null is null.
use Rattle.std.specs.Prelude.{Bool, true, false, []}
use Rattle.std.specs.declared.option.Option.{Option}
use Rattle.std.specs.declared.option.Option.TheVariants.{None, Some}
use Rattle.ion_values.specs.declared.value.Kind.TheVariants as kind
use Rattle.ion_values.specs.declared.value.Value.{Value}
use Rattle.ion_values.specs.declared.value.Field.{Field}
use Rattle.ion_values.specs.declared.value.Body.{Body, out-Body}
use Rattle.ion_values.specs.declared.value.Body.TheVariants as body
use Rattle.ion_values.specs.declared.value.Body.TheOpen.{Body-F}
use Rattle.pql_model.specs.declared.scope.Evaluated.{Evaluated}
use Rattle.pql_model.specs.declared.scope.Evaluated.TheVariants.{Missing, Found}

-- what is seen of a value: its kind, with its members
abbrev pub Seen : Type 0
Seen = Body-F Body Field Value

abbrev pub seen : Value → Seen
seen v = out-Body v.body

abbrev pub made : Body → Value
made b = record { annotations = []; body = b }

abbrev pub answer : Body → Evaluated
answer b = Found (made b)

abbrev pub truth : Bool → Evaluated
truth b = answer (body.Bool b)

abbrev pub null : Evaluated
null = answer (body.Null kind.Null)

-- the value, and MISSING where there is none
abbrev pub found : Option Value → Evaluated
found None = Missing
found (Some v) = Found v

-- what follows for a value, and MISSING for MISSING
abbrev pub onward : (Value → Evaluated) → Evaluated → Evaluated
onward f Missing = Missing
onward f (Found v) = f v

abbrev pub is_null_seen : Seen → Bool
is_null_seen (Body-F.Null k) = true
is_null_seen _ = false

abbrev pub is_null : Value → Bool
is_null v = is_null_seen (seen v)

abbrev pub is_missing : Evaluated → Bool
is_missing Missing = true
is_missing (Found v) = false

-- null or MISSING
abbrev pub is_unknown : Evaluated → Bool
is_unknown Missing = true
is_unknown (Found v) = is_null v

-- what the two give, and otherwise the answer that is given where one of them is missing
abbrev pub of_two : {A : Type 0} → (A → A → Evaluated) → Option A → Option A → Evaluated → Evaluated
of_two f (Some a) (Some b) otherwise = f a b
of_two f _ _ otherwise = otherwise
