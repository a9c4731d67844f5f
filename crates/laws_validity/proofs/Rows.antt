-- Rows on what pends and on ids, and a first block: what is asked of its making can be met, at each time.
use Rattle.std.proofs.Common.{◌≡◌, ◌∙◌, ℕ, true, false, List, [], ◌∷◌, map, length, Some, None, codes, refl, inl, sym, ap, arith}
use Rattle.std.specs.Prelude.{nat_lt}
use Rattle.std.specs.List.{list_all}
use Rattle.std.proofs.lemmas.Bool.{and_from, or_left, eq-eqb}
use Rattle.ion_values.specs.Time.{is_time}
use Rattle.ion_values.specs.Within.{within}
use Rattle.ion_values.specs.declared.time.TimeParts.{TimeParts}
use Rattle.pql_model.specs.Expressions.{expression, free_path, layers}
use Rattle.pql_model.specs.Parse.{parsed}
use Rattle.pql_model.specs.Tokens.{lex}
use Rattle.pql_model.specs.Words.{is_reserved}
use Rattle.ion_values.specs.declared.value.Value.{Value}
use Rattle.ql_types.specs.Ids.{raw_id, transaction_in}
use Rattle.ql_types.specs.declared.BlockAddress.{BlockAddress}
use Rattle.ql_types.specs.declared.Hash32.{Hash32}
use Rattle.ql_types.specs.declared.TxId.{TxId}
use Rattle.ledger_model.specs.declared.block.Block.{Block}
use Rattle.ledger_model.specs.declared.block.Content.{Content}
use Rattle.ledger_model.specs.declared.block.Content.TheVariants.{Deleted, Kept}
use Rattle.ledger_model.specs.declared.block.Draft.{Draft}
use Rattle.ledger_model.specs.declared.block.Schema.TheVariants.{Create, Drop}
use Rattle.ql_types.specs.declared.Place.{Place}
use Rattle.ledger_model.specs.declared.outcome.Item.TheVariants as item
use Rattle.ledger_model.specs.declared.script.Request.{Request}
use Rattle.ledger_model.specs.Values.{field, named_id}
use Rattle.ledger_model.specs.Run.{Begun, Progress, run, ran}
use Rattle.ledger_model.specs.State.{State, Recorded, draft_of, state}
use Rattle.ledger_model.specs.Views.{latest}
use Rattle.ledger_model.specs.Making.{block_of}
use Rattle.ledger_model.specs.Whole.{id_fits}
use Rattle.ledger_model.specs.Follows.{latest_of, is_kept, is_new, is_active, is_named, has_table}
use Rattle.ledger_model.specs.Damages.{Undamaged}
use Rattle.laws_validity.specs.Before.{CanFollow, IsUnused}
use Rattle.laws_validity.specs.Makes.{CanMake, IsWithinAll}
use Rattle.laws_validity.specs.Pending.{goes_on, left_of, draft_for}
use Rattle.laws_validity.proofs.Parts.{ascii_text, fine_field, fine_string, fine_structure, id_text_within}
use Rattle.laws_validity.proofs.Shapes.{Shallow}
use Rattle.laws_validity.proofs.Progress.{IsPending, Made, none_made}
use Rattle.laws_validity.proofs.Changes.{change_more}
use Rattle.laws_validity.proofs.Revisions.{revise_more}
use Rattle.ledger_model.specs.Writing.{again_of, next_of}
use Rattle.laws_validity.proofs.Revised.{next_pends, again_pends, known_of}
use Rattle.laws_validity.proofs.Undamaged.{made_is_undamaged}

abbrev first : Begun
first = record { mask = 5; number = 1 }

abbrev place : Place
place = record { session = 1; transaction = 1 }

abbrev creates : Request
creates = record { text = codes "CREATE TABLE t"; params = [] }

abbrev done : Progress
done = record {
  said = record {
    text = codes "CREATE TABLE t";
    params = [];
    answer = record
        { rows = named_id (codes "tableId") (raw_id 5 1 1) ∷ [] };
  } ∷ [];
  schema = Create (codes "t") (record { raw = raw_id 5 1 1 }) ∷ [];
  log = [];
  made = 1;
  footprint = item.TableName (codes "t") ∷ item.TableList ∷ [];
}

follows : CanFollow first []
follows = record {
  undamaged = tt;
  strand = tt;
  room = omega arith;
  unused = tt;
  first = omega arith;
  counted = omega
      arith;
}

can : (time : TimeParts) → is_time time ≡ true → CanMake 5 time place
can time timed = record {
  mask_fits = omega arith;
  timed = timed;
  placed = refl;
}

-- a struct of an id
named_within : (name : List ℕ) (raw : ℕ) → list_all (λ b. nat_lt b 128) name ≡ true
    → within (named_id name raw) ≡ true
named_within name raw h =
    (fine_structure 0 (field name _ ∷ []) (fine_field 0 name _ h (fine_string 0 _ (id_text_within raw)), tt)).ranges

ranges : IsWithinAll done
ranges = record {
  said = and_from _ _ (and_from _ _ (and_from _ _ (ascii_text (codes "CREATE TABLE t") refl) refl)
      (and_from _ _ (named_within (codes "tableId") (raw_id 5 1 1) refl) refl)) refl;
  schema = and_from _ _ (ascii_text (codes "t") refl) refl;
  log = refl;
}

ends : run first (state []) (creates ∷ []) ≡ ran done
unfolding parsed lex is_reserved layers expression free_path
ends = refl

first_block : (time : TimeParts) → is_time time ≡ true → Undamaged (block_of first [] place time done ∷ [])
first_block time timed =
    made_is_undamaged first [] place time (creates ∷ []) done follows (can time timed) ranges ends

-- ---- a transaction may come behind one of a greater number

behind_later : (b : Block) → b.header.tx.raw ≡ raw_id 5 2 0 → IsUnused 5 1 (b ∷ [])
behind_later b tx = (λ own. let same : 2 ≡ 1 = sym (ap (transaction_in 5) tx) ∙ own in omega (arith, same), tt)

-- ---- what may pend

abbrev draft : ℕ → Content → Draft
draft version content =
    record { table = record { raw = 9 }; id = record { raw = 7 }; version = version; content = content }

module _ (address : BlockAddress) (hash : Hash32) (time : TimeParts) (tx : TxId) (v w : Value) where
  abbrev committed : ℕ → Content → Recorded
  committed version content = record {
    table = record { raw = 9 };
    revision = record {
      address = address;
      hash = hash;
      content = content;
      metadata = record { id = record { raw = 7 }; version = version; time = time; tx = tx };
    };
  }

  begins : goes_on (draft 0 (Kept v)) None ≡ true
  begins = refl

  begins_late : goes_on (draft 1 (Kept v)) None ≡ false
  begins_late = refl

  changes : goes_on (draft 4 (Kept v)) (Some (committed 3 (Kept w))) ≡ true
  changes = refl

  deletes : goes_on (draft 4 Deleted) (Some (committed 3 (Kept w))) ≡ true
  deletes = refl

  skips : goes_on (draft 5 (Kept v)) (Some (committed 3 (Kept w))) ≡ false
  skips = refl

  comes_again : goes_on (draft 4 (Kept v)) (Some (committed 3 Deleted)) ≡ false
  comes_again = refl

  -- the last of a document's revisions is left, and none of one that was inserted and deleted
  last_is_left : left_of (draft 4 (Kept v) ∷ draft 4 Deleted ∷ []) ≡ draft 4 Deleted ∷ []
  last_is_left = refl

  none_is_left : left_of (draft 0 (Kept v) ∷ draft 0 (Kept w) ∷ draft 0 Deleted ∷ []) ≡ []
  none_is_left = refl

  latest_row : draft_for (latest (map draft_of (committed 0 (Kept v) ∷ committed 1 (Kept w) ∷ []))) 7 ≡ Some
      (draft 1 (Kept w))
  latest_row = refl

-- ---- documents that are changed and deleted, and a table that is dropped

module _ (b : Begun) (s : State) (last : Recorded) (v : Value)
    (found : latest_of s.revisions last.revision.metadata.id.raw ≡ Some last)
    (kept : is_kept last.revision.content ≡ true) (table : is_active s.tables last.table ≡ true)
    (fits : id_fits last.table.raw ≡ true) (low : Shallow 64 v) where
  abbrev changed_draft : Draft
  changed_draft = next_of last (Kept v)

  there : has_table s.tables [] last.table ≡ true
  there = or_left (is_active s.tables last.table) false table

  changed_pends : IsPending s [] changed_draft
  changed_pends = next_pends s [] last (Kept v) found kept there fits (record { shallow = low; unredacted = refl })

  deleted_pends : IsPending s [] (again_of changed_draft Deleted)
  deleted_pends = again_pends s [] changed_draft Deleted changed_pends (record { shallow = tt; unredacted = refl })

  known : is_new s.revisions last.revision.metadata.id.raw ≡ false
  known = known_of s.revisions last.revision.metadata.id.raw last found

  -- a document is changed
  one_changed : Made b s [] (changed_draft ∷ []) 0
  one_changed = revise_more b s [] [] 0 (none_made b s) changed_draft (inl known) changed_pends (omega arith)

  -- and then deleted
  two_drafts : length (latest (changed_draft ∷ again_of changed_draft Deleted ∷ [])) ≡ 1
  two_drafts = rw (eq-eqb last.revision.metadata.id.raw last.revision.metadata.id.raw refl) refl

  then_deleted : Made b s [] (changed_draft ∷ again_of changed_draft Deleted ∷ []) 0
  then_deleted =
      revise_more b s [] (changed_draft ∷ []) 0 one_changed (again_of changed_draft Deleted) (inl known) deleted_pends
      (let e = two_drafts in omega (arith, e))

  -- and its table dropped
  then_dropped : (name : List ℕ) → is_named s.tables name last.table ≡ true
      → Made b s (Drop name last.table ∷ []) (changed_draft ∷ again_of changed_draft Deleted ∷ []) 0
  then_dropped name named =
      change_more b s [] (changed_draft ∷ again_of changed_draft Deleted ∷ []) 0 then_deleted
      (Drop name last.table) refl refl fits named
