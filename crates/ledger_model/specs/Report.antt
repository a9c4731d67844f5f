-- The report: one line of Ion text for each transaction of the script, in script order.
use Rattle.std.specs.Prelude.{ℕ, List, [], ◌∷◌, ◌++◌, map, codes, slice_get, Option, Some, None}
use Rattle.std.specs.List.{flat_map}
use Rattle.std.specs.Fmt.{decimal}
use Rattle.ion_model.specs.Write.{value_text, joined, blob_text, string_text}
use Rattle.ql_types.specs.declared.Hash32.{Hash32}
use Rattle.ql_types.specs.declared.TxId.{TxId}
use Rattle.ledger_model.specs.declared.block.Said.{Said}
use Rattle.ledger_model.specs.declared.block.Block.{Block}
use Rattle.ledger_model.specs.declared.outcome.Named.{Named}
use Rattle.ledger_model.specs.declared.outcome.Refusal.{Refusal}
use Rattle.ledger_model.specs.declared.outcome.Outcome.{Outcome}
use Rattle.ledger_model.specs.declared.outcome.Outcome.TheVariants as outcome
use Rattle.ledger_model.specs.declared.outcome.PlacedOutcome.{PlacedOutcome}
use Rattle.ledger_model.specs.Journal.{said_in}
pub use Rattle.ledger_model.specs.ItemText.{quoted_id, item_text}
pub use Rattle.ledger_model.specs.CauseText.{cause_text}

-- the rows of an answer
abbrev pub answer_text : Said → List ℕ
answer_text s = codes "[" ++ joined (map value_text s.answer.rows) ++ codes "]"

abbrev pub answers_text : Option Block → List ℕ
answers_text None = []
answers_text (Some b) = joined (map answer_text (said_in b.info.said))

abbrev pub committed_text : List Block → TxId → ℕ → List ℕ
committed_text blocks tx block =
    codes "committed,tx:" ++ quoted_id tx.raw ++ codes ",block:" ++ decimal block ++ codes ",answers:["
    ++ answers_text (slice_get blocks block) ++ codes "]"

-- the blocks on which the transaction ran
abbrev pub since_text : TxId → ℕ → List ℕ
since_text tx since = codes ",tx:" ++ quoted_id tx.raw ++ codes ",since:" ++ decimal since

abbrev pub conflict_text : TxId → ℕ → Named → List ℕ
conflict_text tx since named =
    codes "conflict" ++ since_text tx since ++ codes ",block:" ++ decimal named.block ++ codes ",item:{"
    ++ item_text named.item ++ codes "}"

abbrev pub refused_text : TxId → ℕ → ℕ → Refusal → List ℕ
refused_text tx since statement cause =
    codes "refused" ++ since_text tx since ++ codes ",statement:" ++ decimal statement ++ codes ",cause:{"
    ++ cause_text cause ++ codes "}"

abbrev pub digest_differs_text : TxId → ℕ → Hash32 → Hash32 → List ℕ
digest_differs_text tx since mine given =
    codes "digest_differs" ++ since_text tx since ++ codes ",mine:" ++ blob_text mine.bytes ++ codes ",given:"
    ++ blob_text given.bytes

abbrev pub store_fault_text : ℕ → ℕ → List ℕ
store_fault_text tx count = codes "store_fault,tx:" ++ quoted_id tx ++ codes ",count:" ++ decimal count

abbrev pub journal_full_text : TxId → ℕ → List ℕ
journal_full_text tx blocks = codes "journal_full,tx:" ++ quoted_id tx.raw ++ codes ",blocks:" ++ decimal blocks

abbrev pub ids_spent_text : ℕ → List ℕ
ids_spent_text last = codes "ids_spent,last:" ++ decimal last

abbrev pub aborted_text : TxId → ℕ → List ℕ
aborted_text tx since = codes "aborted" ++ since_text tx since

-- a statement's action on a table: an action's name is a symbol without quotes
abbrev pub demand_text : ℕ → List ℕ → List ℕ → List ℕ
demand_text statement action table =
    codes "denied,statement:" ++ decimal statement ++ codes ",action:" ++ action ++ codes ",table:" ++ string_text table

-- by a rule of that name, or by none
abbrev pub rule_text : Option (List ℕ) → List ℕ
rule_text None = codes "null"
rule_text (Some name) = string_text name

abbrev pub denied_text : ℕ → List ℕ → List ℕ → Option (List ℕ) → List ℕ
denied_text statement action table rule = demand_text statement action table ++ codes ",rule:" ++ rule_text rule

-- the outcome behind the place
abbrev pub outcome_text : List Block → Outcome → List ℕ
outcome_text blocks (outcome.Committed tx block) = committed_text blocks tx block
outcome_text blocks (outcome.Conflict tx since named) = conflict_text tx since named
outcome_text blocks (outcome.Refused tx since statement cause) = refused_text tx since statement cause
outcome_text blocks (outcome.DigestDiffers tx since mine given) = digest_differs_text tx since mine given
outcome_text blocks (outcome.StoreFault tx count) = store_fault_text tx.raw count
outcome_text blocks (outcome.JournalFull tx full) = journal_full_text tx full
outcome_text blocks (outcome.IdsSpent last) = ids_spent_text last
outcome_text blocks (outcome.Aborted tx since) = aborted_text tx since
outcome_text blocks (outcome.Denied statement action table rule) = denied_text statement action table rule
outcome_text blocks outcome.OutOfMemory = codes "out_of_memory"

abbrev pub outcome_line : List Block → PlacedOutcome → List ℕ
outcome_line blocks o =
    codes "{session:" ++ decimal o.place.session ++ codes ",transaction:" ++ decimal o.place.transaction
    ++ codes ",outcome:" ++ outcome_text blocks o.outcome ++ codes "}" ++ 10 ∷ []

-- the whole report
abbrev pub report : List Block → List PlacedOutcome → List ℕ
report blocks outcomes = flat_map (outcome_line blocks) outcomes
