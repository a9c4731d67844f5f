-- Values that the ledger makes itself, and what it sees of those that it is given.
use Rattle.std.specs.Prelude.{ℕ, ◌==◌, Bool, true, false, List, [], ◌∷◌, length, ℤ, Option, Some, None, if◌then◌else◌}
use Rattle.ion_values.specs.declared.value.Kind.{Kind}
use Rattle.ion_values.specs.declared.value.Kind.TheVariants as kind
use Rattle.ion_values.specs.declared.value.Value.{Value}
use Rattle.ion_values.specs.declared.value.Body.{Body, out-Body}
use Rattle.ion_values.specs.declared.value.Body.TheVariants as body
use Rattle.ion_values.specs.declared.value.Body.TheOpen.{Body-F}
use Rattle.ion_values.specs.declared.value.Field.{Field}
use Rattle.ql_types.specs.Ids.{id_text}

-- a value without annotations
abbrev pub plain : Body → Value
plain b = record { annotations = []; body = b }

abbrev pub field : List ℕ → Value → Field
field name value = record { name = name; value = value }

-- a struct of one field, whose value is an id's text
abbrev pub named_id : List ℕ → ℕ → Value
named_id name raw = plain (body.Struct (field name (plain (body.String (id_text raw))) ∷ []))

abbrev pub kind_of : Body-F Body Field Value → Kind
kind_of (Body-F.Null k) = kind.Null
kind_of (Body-F.Bool b) = kind.Bool
kind_of (Body-F.Int n) = kind.Int
kind_of (Body-F.Decimal d) = kind.Decimal
kind_of (Body-F.Timestamp t) = kind.Timestamp
kind_of (Body-F.Symbol t) = kind.Symbol
kind_of (Body-F.String t) = kind.String
kind_of (Body-F.Clob b) = kind.Clob
kind_of (Body-F.Blob b) = kind.Blob
kind_of (Body-F.List vs) = kind.List
kind_of (Body-F.Sexp vs) = kind.Sexp
kind_of (Body-F.Struct fs) = kind.Struct

-- a null struct is none
abbrev pub is_struct : Body-F Body Field Value → Bool
is_struct (Body-F.Struct fields) = true
is_struct _ = false

-- what stands in a value without annotations
abbrev pub bare : Value → Option (Body-F Body Field Value)
bare v = if length v.annotations == 0 then Some (out-Body v.body) else None

abbrev pub string_at : Option (Body-F Body Field Value) → Option (List ℕ)
string_at (Some (Body-F.String t)) = Some t
string_at _ = None

abbrev pub list_at : Option (Body-F Body Field Value) → Option (List Value)
list_at (Some (Body-F.List vs)) = Some vs
list_at _ = None

abbrev pub fields_at : Option (Body-F Body Field Value) → Option (List Field)
fields_at (Some (Body-F.Struct fs)) = Some fs
fields_at _ = None

-- a string's text, where the value is an unannotated string
abbrev pub string_in : Value → Option (List ℕ)
string_in v = string_at (bare v)

-- a list's members, where the value is an unannotated list
abbrev pub list_in : Value → Option (List Value)
list_in v = list_at (bare v)

-- a struct's fields, where the value is an unannotated struct
abbrev pub fields_in : Value → Option (List Field)
fields_in v = fields_at (bare v)

abbrev pub int_at : Option (Body-F Body Field Value) → Option ℤ
int_at (Some (Body-F.Int n)) = Some n
int_at _ = None

abbrev pub symbol_at : Option (Body-F Body Field Value) → Option (List ℕ)
symbol_at (Some (Body-F.Symbol name)) = Some name
symbol_at _ = None

abbrev pub blob_at : Option (Body-F Body Field Value) → Option (List ℕ)
blob_at (Some (Body-F.Blob bytes)) = Some bytes
blob_at _ = None

-- the same of an unannotated int, symbol and blob
abbrev pub int_in : Value → Option ℤ
int_in v = int_at (bare v)

abbrev pub symbol_in : Value → Option (List ℕ)
symbol_in v = symbol_at (bare v)

abbrev pub blob_in : Value → Option (List ℕ)
blob_in v = blob_at (bare v)
