-- What the arguments of EXEC REDACT_REVISION name: a block by its address, and a table and a document by their ids
-- (Amazon QLDB's PartiQL). Texts are strings or symbols. Annotations count on the address alone (own).
use Rattle.std.specs.Prelude.{ℕ, pos, ◌^◌, ◌&&◌, nat_lt, List, [], ◌∷◌, codes, Option, Some, None, option_map, option_and_then, if◌then◌else◌}
use Rattle.std.specs.Str.{bytes_eq}
use Rattle.ion_values.specs.declared.value.Body.{Body, out-Body}
use Rattle.ion_values.specs.declared.value.Body.TheOpen.{Body-F}
use Rattle.ion_values.specs.declared.value.Field.{Field}
use Rattle.ion_values.specs.declared.value.Value.{Value}
use Rattle.pql_model.specs.declared.expr.Expr.{Expr}
use Rattle.pql_model.specs.declared.scope.Evaluated.{Evaluated}
use Rattle.pql_model.specs.declared.scope.Evaluated.TheVariants.{Missing, Found}
use Rattle.pql_model.specs.Meaning.{meaning, under}
use Rattle.pql_model.specs.Texts.{text_of}
use Rattle.ql_types.specs.Ids.{id_in}
use Rattle.ql_types.specs.declared.BlockAddress.{BlockAddress}
use Rattle.ql_types.specs.declared.DocId.{DocId}
use Rattle.ql_types.specs.declared.TableId.{TableId}
use Rattle.ledger_model.specs.declared.block.Schema.{Schema}
use Rattle.ledger_model.specs.declared.block.Schema.TheVariants.{Redact}
use Rattle.ledger_model.specs.declared.outcome.Item.{Item}
use Rattle.ledger_model.specs.declared.outcome.Item.TheVariants as item
use Rattle.ledger_model.specs.Script.{or_else}
use Rattle.ledger_model.specs.Values.{fields_in}

-- an argument is a literal or a parameter, so that it sees no row
abbrev pub argument : List Value → Expr → Evaluated
argument params e = meaning e (under [] params)

-- the number of the id that a text spells
abbrev pub id_of_text : Value → Option ℕ
id_of_text v = option_and_then id_in (text_of v)

-- a number of 64 bits
abbrev pub number_at : Body-F Body Field Value → Option ℕ
number_at (Body-F.Int (pos n)) = if nat_lt n (2 ^ 64) then Some n else None
number_at _ = None

abbrev pub number_of : Value → Option ℕ
number_of v = number_at (out-Body v.body)

abbrev pub address_at : ℕ → Option ℕ → Option BlockAddress
address_at strand sequence = option_map (λ n. record { strand = record { raw = strand }; sequence = n }) sequence

-- a strand's id and a number, each by its name
abbrev pub address_by : Field → Field → Option BlockAddress
address_by a b =
    if bytes_eq a.name (codes "strandId") && bytes_eq b.name (codes "sequenceNo")
    then option_and_then (λ strand. address_at strand (number_of b.value)) (id_of_text a.value)
    else None

-- the two fields in either order
abbrev pub address_of : List Field → Option BlockAddress
address_of (a ∷ b ∷ []) = or_else (address_by a b) (address_by b a)
address_of _ = None

abbrev pub address_in : Value → Option BlockAddress
address_in v = option_and_then address_of (fields_in v)

-- what a value says, where there is one
abbrev pub told_by : {A : Type 0} → (Value → Option A) → Evaluated → Option A
told_by read Missing = None
told_by read (Found v) = read v

-- a revision by its block, its table and its document
pub record RevisionName : Type 0 where
  pub address : BlockAddress
  pub table : TableId
  pub document : DocId

-- its redaction
abbrev pub redaction_of : RevisionName → Schema
redaction_of n = Redact n.address n.table n.document

-- where all three are there
abbrev pub name_from : Option BlockAddress → Option ℕ → Option ℕ → Option RevisionName
name_from (Some address) (Some table) (Some document) =
    Some (record { address = address; table = record { raw = table }; document = record { raw = document } })
name_from _ _ _ = None

-- the revision that the arguments name, where each is what it should be
abbrev pub named_revision : List Value → Expr → Expr → Expr → Option RevisionName
named_revision params address table document =
    name_from (told_by address_in (argument params address)) (told_by id_of_text (argument params table))
    (told_by id_of_text (argument params document))

-- a redaction reads the document
abbrev pub items_named : Option RevisionName → List Item
items_named None = []
items_named (Some n) = item.Doc n.table n.document ∷ []
