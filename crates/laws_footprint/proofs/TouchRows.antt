-- Rows of blocks with what they touch, and of the first conflict.
use Rattle.std.proofs.Common.{◌≡◌, ℕ, pos, Bool, true, false, List, [], ◌∷◌, codes, refl, rules, take, Option, Some, None}
use Rattle.ion_values.specs.declared.value.Body.TheFolds as values
use Rattle.ion_values.specs.declared.value.Body.TheVariants as body
use Rattle.ion_values.specs.declared.value.Key.TheVariants as key
use Rattle.ion_values.specs.declared.value.Value.{Value}
use Rattle.ion_order.specs.Key.{key_of_number, zeros_in}
use Rattle.ql_types.specs.declared.TableId.{TableId}
use Rattle.pql_model.specs.declared.statement.Source.{Source}
use Rattle.pql_model.specs.declared.statement.SourceKind.TheVariants as source
use Rattle.pql_model.specs.Made.{made}
use Rattle.ledger_model.specs.declared.block.Block.{Block}
use Rattle.ledger_model.specs.declared.block.Content.{Content}
use Rattle.ledger_model.specs.declared.block.Content.TheVariants.{Deleted, Kept}
use Rattle.ledger_model.specs.declared.block.Revision.{Revision}
use Rattle.ledger_model.specs.declared.block.Schema.{Schema}
use Rattle.ledger_model.specs.declared.block.Schema.TheVariants.{Create, Index, Drop, Redact}
use Rattle.ledger_model.specs.declared.outcome.Item.{Item}
use Rattle.ledger_model.specs.declared.outcome.Item.TheVariants as item
use Rattle.ledger_model.specs.declared.outcome.Named.{Named}
use Rattle.ledger_model.specs.Conditions.{Part, all_asked, constant, equation, names}
use Rattle.ledger_model.specs.Footprints.{Schemas, all_read, items_read, read_of}
use Rattle.pql_model.specs.From.{Viewed}
use Rattle.ledger_model.specs.State.{state}
use Rattle.laws_footprint.specs.Touches.{conflict, touches}

abbrev table : ℕ → TableId
table raw = record { raw = raw }

abbrev t : TableId
t = table 1

abbrev u : TableId
u = table 2

-- {a:n}
abbrev int : ℕ → Value
int n = made (body.Int (pos n))

abbrev with_a : ℕ → Value
with_a n = made (body.Struct (record { name = codes "a"; value = int n } ∷ []))

abbrev key_a : ℕ → Item
key_a n = item.IndexValue t (codes "a") (key.Number (pos n) (pos 0))

abbrev named : ℕ → Item → Option Named
named m i = Some (record { block = m; item = i })

-- the equation a = n of SELECT * FROM t WHERE a = n
abbrev a_is : ℕ → List Part
a_is n = equation (names (codes "a") []) (constant (int n)) ∷ []

-- no table has rows
abbrev no_rows : Viewed
no_rows name view = []

abbrev read_by : Schemas → List Part → List Source → List Item
read_by now parts sources =
    items_read sources (all_read (read_of now no_rows [] (all_asked sources parts)) [] sources)

abbrev from_t : List Source
from_t = record { from = source.Table (codes "t"); variable = codes "t"; id_name = None; on = None } ∷ []

-- what of a block and of a revision doesn't count is that of any block `b` and any revision `r`
module _ (b : Block) (r : Revision) where
  abbrev of_document : ℕ → Content → Revision
  of_document id content = record r { content = content; metadata = record (r.metadata) { id = record { raw = id } } }

  abbrev block : List Schema → List TableId → List Revision → Block
  block schema tables revisions =
      record b { info = record (b.info) { schema = schema; tables = tables }; revisions = revisions }

  abbrev changes : List Schema → Block
  changes schema = block schema [] []

  abbrev writes : ℕ → Content → Block
  writes id content = block [] (t ∷ []) (of_document id content ∷ [])

  -- four blocks: t with an index on a, another table, and a document in each
  abbrev made_with : List Schema → List Block
  made_with index =
      changes (Create (codes "t") t ∷ index) ∷ changes (Create (codes "u") u ∷ []) ∷ block [] (u ∷ [])
      (of_document 10 (Kept (with_a 5)) ∷ []) ∷ writes 11 (Kept (with_a 1)) ∷ []

  abbrev indexed : List Block
  indexed = made_with (Index (codes "a") t ∷ [])

  abbrev schemas : List Block → Schemas
  schemas blocks = record { tables = (state blocks).tables; indexes = (state blocks).indexes }

  abbrev reads_a : ℕ → List Block → List Item
  reads_a n blocks = read_by (schemas (take 4 blocks)) (a_is n) from_t

  abbrev with_block : List Block → Block → List Block
  with_block [] last = last ∷ []
  with_block (x ∷ xs) last = x ∷ with_block xs last

  -- ---- the footprints are validated, and not the rows that were read

  key_appears : conflict (with_block indexed (writes 12 (Kept (with_a 5)))) 4 (reads_a 5 indexed) ≡ named 4 (key_a 5)
  unfolding key_of_number zeros_in
  key_appears = search (rules, values.the_lemmas)

  other_key : conflict (with_block indexed (writes 12 (Kept (with_a 6)))) 4 (reads_a 5 indexed) ≡ None
  unfolding key_of_number zeros_in
  other_key = search (rules, values.the_lemmas)

  no_index : conflict (with_block (made_with []) (writes 12 (Kept (with_a 5)))) 4 (reads_a 5 (made_with []))
      ≡ named 4 (item.Table t)
  unfolding key_of_number zeros_in
  no_index = search (rules, values.the_lemmas)

  abbrev holds_5 : List Block
  holds_5 =
      changes (Create (codes "t") t ∷ []) ∷ changes (Index (codes "a") t ∷ []) ∷ writes 12
      (Kept (with_a 5)) ∷ writes 11 (Kept (with_a 1)) ∷ []

  key_leaves : conflict (with_block holds_5 (writes 12 (Kept (with_a 6)))) 4 (reads_a 5 holds_5) ≡ named 4 (key_a 5)
  unfolding key_of_number zeros_in
  key_leaves = search (rules, values.the_lemmas)

  key_comes : conflict (with_block holds_5 (writes 12 (Kept (with_a 6)))) 4 (reads_a 6 holds_5) ≡ named 4 (key_a 6)
  unfolding key_of_number zeros_in
  key_comes = search (rules, values.the_lemmas)

  -- ---- what a block touches

  abbrev touches_last : List Block → Block → Item → Bool
  touches_last blocks last i = touches (with_block blocks last) 4 i

  -- a document that is deleted had its key before
  deleted_key : touches_last holds_5 (writes 12 Deleted) (key_a 5) ≡ true
  unfolding key_of_number zeros_in
  deleted_key = search (rules, values.the_lemmas)

  deleted_other : touches_last holds_5 (writes 12 Deleted) (key_a 1) ≡ false
  unfolding key_of_number zeros_in
  deleted_other = search (rules, values.the_lemmas)

  -- of another table the same key
  key_elsewhere : touches_last indexed (block [] (u ∷ []) (of_document 13 (Kept (with_a 5)) ∷ [])) (key_a 5) ≡ false
  unfolding key_of_number zeros_in
  key_elsewhere = search (rules, values.the_lemmas)

  own_document : touches_last indexed (writes 11 Deleted) (item.Doc t (record { raw = 11 })) ≡ true
  own_document = refl

  other_document : touches_last indexed (writes 12 (Kept (with_a 5))) (item.Doc t (record { raw = 11 })) ≡ false
  other_document = refl

  own_table : touches_last indexed (writes 11 Deleted) (item.Table t) ≡ true
  own_table = refl

  other_table : touches_last indexed (writes 11 Deleted) (item.Table u) ≡ false
  other_table = refl

  -- a redaction touches the document and its table, and none of its keys
  abbrev redacts_12 : Block
  redacts_12 = changes (Redact r.address t (record { raw = 12 }) ∷ [])

  redacted_document : touches_last holds_5 redacts_12 (item.Doc t (record { raw = 12 })) ≡ true
  redacted_document = refl

  redacted_other : touches_last holds_5 redacts_12 (item.Doc t (record { raw = 11 })) ≡ false
  redacted_other = refl

  redacted_table : touches_last holds_5 redacts_12 (item.Table t) ≡ true
  redacted_table = refl

  redacted_elsewhere : touches_last holds_5 redacts_12 (item.Table u) ≡ false
  redacted_elsewhere = refl

  redacted_key : touches_last holds_5 redacts_12 (key_a 5) ≡ false
  redacted_key = refl

  redacted_name : touches_last holds_5 redacts_12 (item.TableName (codes "t")) ≡ false
  redacted_name = refl

  -- rows are no names, and the list of tables is touched by none
  name_by_row : touches_last indexed (writes 11 Deleted) (item.TableName (codes "t")) ≡ false
  name_by_row = refl

  dropped_name : touches_last indexed (changes (Drop (codes "t") t ∷ [])) (item.TableName (codes "t")) ≡ true
  dropped_name = refl

  created_name : touches_last indexed (changes (Create (codes "v") (table 3) ∷ [])) (item.TableName (codes "v")) ≡ true
  created_name = refl

  other_name : touches_last indexed (changes (Create (codes "v") (table 3) ∷ [])) (item.TableName (codes "t")) ≡ false
  other_name = refl

  index_name : touches_last indexed (changes (Index (codes "b") t ∷ [])) (item.TableName (codes "t")) ≡ true
  index_name = refl

  index_of_other : touches_last indexed (changes (Index (codes "b") u ∷ [])) (item.TableName (codes "t")) ≡ false
  index_of_other = refl

  -- the name of a table that the block makes itself
  index_of_new : touches_last indexed (changes (Create (codes "v") (table 3) ∷ Index (codes "b") (table 3) ∷ []))
      (item.TableName (codes "t")) ≡ false
  index_of_new = refl

  list_by_create : touches_last indexed (changes (Create (codes "v") (table 3) ∷ [])) item.TableList ≡ true
  list_by_create = refl

  list_by_drop : touches_last indexed (changes (Drop (codes "u") u ∷ [])) item.TableList ≡ true
  list_by_drop = refl

  list_by_index : touches_last indexed (changes (Index (codes "b") u ∷ [])) item.TableList ≡ false
  list_by_index = refl

  no_block : touches indexed 4 (item.Table t) ≡ false
  no_block = refl

  -- ---- the first block, and the footprint's first item

  first_block : conflict (with_block indexed (writes 11 Deleted)) 3 (item.Table u ∷ item.Table t ∷ [])
      ≡ named 3 (item.Table t)
  first_block = refl

  first_item : conflict (with_block indexed (writes 11 Deleted)) 4
      (item.Table u ∷ item.Doc t (record { raw = 11 }) ∷ item.Table t ∷ [])
      ≡ named 4 (item.Doc t (record { raw = 11 }))
  first_item = refl

  before_since : conflict indexed 4 (item.Table t ∷ item.TableList ∷ []) ≡ None
  before_since = refl
