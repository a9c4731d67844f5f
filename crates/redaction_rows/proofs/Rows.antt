-- Rows of redactions: what one leaves of the state, of a history and of a compacted journal, and which are refused.
use Rattle.std.proofs.Common.{◌≡◌, ◌+◌, ◌*◌, ℕ, zero, suc, pos, true, false, List, [], ◌∷◌, ◌++◌, codes, length, refl, rules, Some, None, Ok, Err}
use Rattle.hash_model.specs.Serialize.{hash_of}
use Rattle.ion_values.specs.declared.time.Precision.TheVariants.{Second}
use Rattle.ion_values.specs.declared.time.TimeParts.{TimeParts}
use Rattle.ion_values.specs.declared.value.Body.TheFolds.{the_lemmas}
use Rattle.ion_values.specs.declared.value.Body.TheVariants as body
use Rattle.ion_values.specs.declared.value.Value.{Value}
use Rattle.pql_model.specs.declared.expr.Expr.TheFolds as expressions
use Rattle.pql_model.specs.declared.expr.Expr.TheVariants as expr
use Rattle.ql_types.specs.Ids.{digits_of, spelled, values_of}
use Rattle.ql_types.specs.declared.BlockAddress.{BlockAddress}
use Rattle.ql_types.specs.declared.Hash32.{Hash32}
use Rattle.ql_types.specs.declared.TableId.{TableId}
use Rattle.ledger_model.specs.declared.block.Block.{Block}
use Rattle.ledger_model.specs.declared.block.Content.{Content}
use Rattle.ledger_model.specs.declared.block.Content.TheVariants.{Kept, Redacted}
use Rattle.ledger_model.specs.declared.block.Revision.{Revision}
use Rattle.ledger_model.specs.declared.block.Schema.{Schema}
use Rattle.ledger_model.specs.declared.block.Schema.TheVariants.{Create, Redact}
use Rattle.ledger_model.specs.declared.block.Told.TheVariants as told
use Rattle.ledger_model.specs.declared.outcome.Refusal.TheVariants.{NoSuchRevision, StillLatest, AlreadyRedacted, TooManyRedactions}
use Rattle.ledger_model.specs.CommittedViews.{committed_view, history_view, row_showing}
use Rattle.ledger_model.specs.Compaction.{compacted, without_statements}
use Rattle.ledger_model.specs.Follows.{follows_blocks}
use Rattle.ledger_model.specs.HashesAsked.{unasked}
use Rattle.ledger_model.specs.Journal.{address_value, id_value}
use Rattle.ledger_model.specs.Progress.{Progress, start}
use Rattle.ledger_model.specs.Redacting.{of_name, redaction}
use Rattle.ledger_model.specs.RedactionArguments.{RevisionName, named_revision}
use Rattle.ledger_model.specs.State.{Recorded, state}
use Rattle.ledger_model.specs.Values.{plain}

-- ---- three blocks: a document is inserted, then updated, and then its first revision is redacted

abbrev at : ℕ → BlockAddress
at n = record { strand = record { raw = 0 }; sequence = n }

abbrev noon : TimeParts
noon = record {
  precision = Second;
  year = 2020;
  month = 1;
  day = 1;
  hour = 12;
  minute = 0;
  second = 0;
  digits = 3;
  nanos = 0;
  offset = Some (pos 0);
}

abbrev zeros : Hash32
zeros = record { bytes = [] }

-- the ids of the mask 0: a transaction, and the first and the second thing that the first one makes
abbrev transaction : ℕ → ℕ
transaction n = n * 16777216 + 16777216

abbrev table : TableId
table = record { raw = 16777217 }

abbrev int : ℕ → Value
int n = plain (body.Int (pos n))

-- a revision of the one document
abbrev revision : ℕ → Content → Revision
revision n c = record {
  address = at n;
  hash = zeros;
  content = c;
  metadata = record { id = record { raw = 16777218 }; version = n; time = noon; tx = record { raw = transaction n } };
}

abbrev recorded : ℕ → Content → Recorded
recorded n c = record { table = table; revision = revision n c }

abbrev block : ℕ → List Schema → List TableId → List Revision → Block
block n changes tables revisions = record {
  header = record { address = at n; tx = record { raw = transaction n }; time = noon; revisions = length revisions };
  hash = zeros;
  entries = zeros;
  previous = zeros;
  list = [];
  info = record {
    place = record { session = 1; transaction = n + 1 };
    said = told.Said [];
    schema = changes;
    tables = tables;
  };
  revisions = revisions;
}

abbrev inserting : Block
inserting = block 0 (Create (codes "t") table ∷ []) (table ∷ []) (revision 0 (Kept (int 5)) ∷ [])

abbrev updating : Block
updating = block 1 [] (table ∷ []) (revision 1 (Kept (int 6)) ∷ [])

-- the revision in this block
abbrev redact : ℕ → Schema
redact n = Redact (at n) table (record { raw = 16777218 })

abbrev redacting : Block
redacting = block 2 (redact 0 ∷ []) [] []

abbrev two : List Block
two = inserting ∷ updating ∷ []

abbrev three : List Block
three = inserting ∷ updating ∷ redacting ∷ []

-- ---- the state

hidden : (state three).revisions ≡ recorded 0 (Redacted (hash_of (int 5))) ∷ recorded 1 (Kept (int 6)) ∷ []
hidden = refl

in_history :
    history_view table None None (state three).revisions
    ≡ row_showing (recorded 0 (Redacted (hash_of (int 5)))) ∷ row_showing (recorded 1 (Kept (int 6))) ∷ []
in_history = refl

committed_stands : committed_view table (state three).revisions ≡ row_showing (recorded 1 (Kept (int 6))) ∷ []
committed_stands = refl

-- a latest revision is as it was, also in a journal that is damaged
latest_stands : (state (inserting ∷ updating ∷ block 2 (redact 1 ∷ []) [] [] ∷ [])).revisions ≡ (state two).revisions
latest_stands = refl

-- ---- blocks

redacting_follows : follows_blocks 0 two redacting ≡ true
redacting_follows = refl

of_the_latest : follows_blocks 0 two (block 2 (redact 1 ∷ []) [] []) ≡ false
of_the_latest = refl

of_a_later_block : follows_blocks 0 two (block 2 (redact 2 ∷ []) [] []) ≡ false
of_a_later_block = refl

twice_in_a_block : follows_blocks 0 two (block 2 (redact 0 ∷ redact 0 ∷ []) [] []) ≡ false
twice_in_a_block = refl

twice : follows_blocks 0 three (block 3 (redact 0 ∷ []) [] []) ≡ false
twice = refl

of_another_document : follows_blocks 0 two (block 2 (Redact (at 0) table (record { raw = 1 }) ∷ []) [] []) ≡ false
of_another_document = refl

of_another_table :
    follows_blocks 0 two (block 2 (Redact (at 0) (record { raw = 1 }) (record { raw = 16777218 }) ∷ []) [] []) ≡ false
of_another_table = refl

-- ---- compaction

-- the block without its statements
abbrev silent : Block → Block
silent b = record b { info = record b.info { said = without_statements b.info.said } }

-- the first block with a data hash
abbrev hidden_data : Block
hidden_data = record inserting { revisions = revision 0 (Redacted (hash_of (int 5))) ∷ [] }

abbrev trailing : Block
trailing = block 3 [] [] []

-- the data go, and the statements up to the redaction
compacted_three : compacted three ≡ silent hidden_data ∷ silent updating ∷ silent redacting ∷ []
compacted_three = refl

later_statements_stay :
    compacted (three ++ trailing ∷ []) ≡ silent hidden_data ∷ silent updating ∷ silent redacting ∷ trailing ∷ []
later_statements_stay = refl

without_redactions : compacted two ≡ two
without_redactions = refl

-- ---- what is asked for

all_asked : unasked (silent hidden_data ∷ silent updating ∷ silent redacting ∷ trailing ∷ []) ≡ None
all_asked = refl

-- a data hash that no block redacts
unasked_data :
    unasked (inserting ∷ record updating { revisions = revision 1 (Redacted (hash_of (int 6))) ∷ [] } ∷ redacting ∷ [])
    ≡ Some 1
unasked_data = refl

-- a statements' hash behind the last redaction
unasked_statements : unasked (three ++ silent trailing ∷ []) ≡ Some 3
unasked_statements = refl

-- ---- statements

-- the revision in this block
abbrev name : ℕ → RevisionName
name n = record { address = at n; table = table; document = record { raw = 16777218 } }

answered : of_name (state two) start (Some (name 0)) ≡ Ok (redaction (redact 0) (recorded 0 (Kept (int 5))))
answered = refl

no_name : of_name (state two) start None ≡ Err NoSuchRevision
no_name = refl

no_revision : of_name (state two) start (Some (name 2)) ≡ Err NoSuchRevision
no_revision = refl

still_latest : of_name (state two) start (Some (name 1)) ≡ Err (StillLatest 1)
still_latest = refl

redacted_before : of_name (state three) start (Some (name 0)) ≡ Err (AlreadyRedacted 0)
redacted_before = refl

-- by the transaction itself
abbrev having : List Schema → Progress
having changes = record start { schema = changes }

redacted_now : of_name (state two) (having (redact 0 ∷ [])) (Some (name 0)) ≡ Err (AlreadyRedacted 0)
redacted_now = refl

-- redactions of other revisions
others : ℕ → List Schema
others zero = []
others (suc n) = redact 7 ∷ others n

fortieth :
    of_name (state two) (having (others 39)) (Some (name 0)) ≡ Ok (redaction (redact 0) (recorded 0 (Kept (int 5))))
unfolding others
fortieth = refl

one_too_many : of_name (state two) (having (others 40)) (Some (name 0)) ≡ Err (TooManyRedactions 41)
unfolding others
one_too_many = refl

-- ---- arguments

abbrev ids : List Value
ids = address_value (at 3) ∷ id_value 5 ∷ id_value 7 ∷ []

all_named :
    named_revision ids (expr.Parameter 0) (expr.Parameter 1) (expr.Parameter 2)
    ≡ Some (record { address = at 3; table = record { raw = 5 }; document = record { raw = 7 } })
unfolding digits_of spelled values_of
all_named = search (rules, the_lemmas, expressions.the_lemmas)

-- a text is no address
no_address : named_revision ids (expr.Parameter 1) (expr.Parameter 1) (expr.Parameter 2) ≡ None
unfolding digits_of spelled values_of
no_address = search (rules, the_lemmas, expressions.the_lemmas)
