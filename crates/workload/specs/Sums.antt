-- What a history of a made workload adds up to, by the ledger's own rule: its blocks, the documents of the table `made`
-- that aren't deleted, and the sum of their amounts.
use Rattle.std.specs.Prelude.{ℕ, ◌^◌, nat_lt, pos, List, [], ◌∷◌, ◌++◌, map, length, codes, sum_by, Option, Some, None, unwrap_or, if◌then◌else◌}
use Rattle.std.specs.List.{filter_map}
use Rattle.std.specs.Fmt.{decimal}
use Rattle.ion_values.specs.declared.value.Value.{Value}
use Rattle.ion_values.specs.declared.value.Body.{Body}
use Rattle.ion_values.specs.declared.value.Body.TheOpen.{Body-F}
use Rattle.ion_values.specs.declared.value.Field.{Field}
use Rattle.pql_model.specs.declared.tables.Row.{Row}
use Rattle.ql_types.specs.declared.TableId.{TableId}
use Rattle.ledger_model.specs.declared.block.Draft.{Draft}
use Rattle.ledger_model.specs.declared.block.Block.{Block}
use Rattle.ledger_model.specs.ReadScript.{named}
use Rattle.ledger_model.specs.Script.{and_then}
use Rattle.ledger_model.specs.State.{State, state, active_table, draft_of}
use Rattle.ledger_model.specs.Values.{bare, fields_in}
use Rattle.ledger_model.specs.Views.{row_of, user_view}
use Rattle.workload.specs.declared.totals.Totals.{Totals}

-- ---- the amount of a document

-- an int from 0 to 2^64 - 1
abbrev pub number_at : Option (Body-F Body Field Value) → Option ℕ
number_at (Some (Body-F.Int (pos n))) = if nat_lt n (2 ^ 64) then Some n else None
number_at _ = None

abbrev pub number_in : Value → Option ℕ
number_in v = number_at (bare v)

abbrev pub amount_in : Value → Option ℕ
amount_in v = and_then (fields_in v) (λ fields. and_then (named (codes "amount") fields) number_in)

-- the number in the first field `amount`, and 0 of a document that has none
abbrev pub amount_of : Value → ℕ
amount_of v = unwrap_or (amount_in v) 0

abbrev pub row_amount : Row → ℕ
row_amount row = amount_of row.value

-- ---- the documents

-- the documents of the table that aren't deleted, of which these are the latest revisions
abbrev pub rows_among : TableId → List Draft → List Row
rows_among table documents = filter_map (row_of table) documents

-- what a reader of the table sees
abbrev pub rows_in : State → Option TableId → List Row
rows_in s None = []
rows_in s (Some table) = user_view table (map draft_of s.revisions) []

abbrev pub made_rows : State → List Row
made_rows s = rows_in s (active_table s.tables (codes "made"))

-- ---- the summary

abbrev pub totals_of : ℕ → List Row → Totals
totals_of blocks rows = record { blocks = blocks; documents = length rows; amounts = sum_by row_amount rows }

abbrev pub summary : List Block → Totals
summary blocks = totals_of (length blocks) (made_rows (state blocks))

abbrev pub summary_text : Totals → List ℕ
summary_text t =
    codes "{blocks:" ++ decimal t.blocks ++ codes ",documents:" ++ decimal t.documents ++ codes ",total:"
    ++ decimal t.amounts ++ codes "}" ++ 10 ∷ []
