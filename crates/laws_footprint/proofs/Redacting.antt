-- A redaction does the same where no block touches the document that it names.
use Rattle.std.proofs.Common.{◌≡◌, ◌∙◌, Bool, true, false, cond, nat_le, ◌==◌, ◌&&◌, List, [], ◌∷◌, ◌++◌, refl, sym, ap, Option, Some, None, Ok}
use Rattle.std.specs.List.{AllByRecursion, find, list_any}
use Rattle.std.specs.Option.{option_map_or}
use Rattle.std.specs.Prelude.{if◌then◌else◌}
use Rattle.std.proofs.lemmas.Bool.{and_from, and_parts, both_ways, eqb-true, eq-eqb, false_from_ne_true, false≢true, or_from, or_left, or_parts, or_right}
use Rattle.ql_types.specs.declared.BlockAddress.{BlockAddress}
use Rattle.ql_types.specs.declared.DocId.{DocId}
use Rattle.ql_types.specs.declared.TableId.{TableId}
use Rattle.ledger_model.specs.declared.block.Block.{Block}
use Rattle.ledger_model.specs.declared.block.Schema.{Schema}
use Rattle.ledger_model.specs.declared.block.Schema.TheVariants.{Create, Index, Drop, Redact}
use Rattle.ledger_model.specs.declared.outcome.Item.TheVariants as item
use Rattle.ledger_model.specs.declared.outcome.Refusal.TheVariants.{StillLatest, AlreadyRedacted, TooManyRedactions}
use Rattle.ledger_model.specs.Follows.{is_latest, latest_of, named_by}
use Rattle.ledger_model.specs.Progress.{Progress, unless}
use Rattle.ledger_model.specs.Redacting.{is_redacted_so_far, of_name, of_revision, redaction, redaction_count}
use Rattle.ledger_model.specs.RedactionArguments.{RevisionName, items_named}
use Rattle.ledger_model.specs.Script.{or_else}
use Rattle.ledger_model.specs.State.{Recorded, State, after, is_redacted_by, is_revised, redacts, revisions_after, same_address, state_from}
use Rattle.laws_footprint.specs.Stillness.{has_revision_of}
use Rattle.laws_footprint.specs.Touches.{id_of, is_in, is_of_table, redacts_document, revisions_in, touches_document}
use Rattle.ledger_model.proofs.Redactions.{found_holds, found_in, hidden_if, is_hidden}
use Rattle.laws_footprint.proofs.Documents.{latest_of_after}
use Rattle.laws_footprint.proofs.Histories.{HasTable, Steady}
use Rattle.laws_footprint.proofs.Revised.{absent}
use Rattle.laws_footprint.proofs.Schemas.{Untouched}

-- ---- one block

module _ (a : BlockAddress) (table : TableId) (id : DocId) where
  abbrev change : Schema
  change = Redact a table id

  abbrev names : Recorded → Bool
  names r = redacts r change

  -- the revision is of this document of the table
  of_names : (r : Recorded) → names r ≡ true → (r.table.raw ≡ table.raw) × (id_of r ≡ id.raw)
  of_names r h =
      let parts = and_parts (same_address r.revision.address a && (r.table.raw == table.raw)) (id_of r == id.raw) h in
      let tables = and_parts (same_address r.revision.address a) (r.table.raw == table.raw) parts.0 in
      (eqb-true r.table.raw table.raw tables.1, eqb-true (id_of r) id.raw parts.1)

  redacts_same : (r : Recorded) (c : Schema) → names r ≡ true → redacts r c ≡ true
      → redacts_document table id.raw c ≡ true
  redacts_same r (Create n i) h k = absurd (false≢true k)
  redacts_same r (Index field i) h k = absurd (false≢true k)
  redacts_same r (Drop n i) h k = absurd (false≢true k)
  redacts_same r (Redact b t d) h k =
      let own = of_names r h in
      let parts = and_parts (same_address r.revision.address b && (r.table.raw == t.raw)) (id_of r == d.raw) k in
      let tables = and_parts (same_address r.revision.address b) (r.table.raw == t.raw) parts.0 in
      and_from (t.raw == table.raw) (d.raw == id.raw)
      (eq-eqb t.raw table.raw (sym (eqb-true r.table.raw t.raw tables.1) ∙ own.0))
      (eq-eqb d.raw id.raw (sym (eqb-true (id_of r) d.raw parts.1) ∙ own.1))

  unredacted : (changes : List Schema) (r : Recorded) → names r ≡ true
      → list_any (redacts_document table id.raw) changes ≡ false → is_redacted_by changes r ≡ false
  unredacted [] r h none = refl
  unredacted (c ∷ cs) r h none =
      let parts = or_parts (redacts_document table id.raw c) (list_any (redacts_document table id.raw) cs) none in
      or_from (redacts r c) (is_redacted_by cs r)
      (false_from_ne_true (redacts r c)
      (λ k. both_ways (redacts_document table id.raw c) parts.0 (redacts_same r c h k)))
      (unredacted cs r h parts.1)

  found_step : (r : Recorded) (c n : Bool) (now before : Option Recorded) → (n ≡ true → c ≡ false) → now ≡ before
      → cond n (Some (hidden_if c r)) now ≡ cond n (Some r) before
  found_step r c false now before h same = same
  found_step r false true now before h same = refl
  found_step r true true now before h same = absurd (false≢true (sym (h refl)))

  no_new : (s : State) (new : List Recorded) → list_any (touches_document s table id.raw) new ≡ false
      → find names new ≡ None
  no_new s [] h = refl
  no_new s (r ∷ rs) h =
      let parts = or_parts (touches_document s table id.raw r) (list_any (touches_document s table id.raw) rs) h in
      let other : names r ≡ false =
      false_from_ne_true (names r) (λ k.
      let own = of_names r k in
      both_ways (touches_document s table id.raw r) parts.0
      (and_from (is_of_table s table r) (id_of r == id.raw)
      (or_left (r.table.raw == table.raw) (is_in table (latest_of s.revisions (id_of r)))
      (eq-eqb r.table.raw table.raw own.0))
      (eq-eqb (id_of r) id.raw own.1))) in
      ap (λ b. cond b (Some r) (find names rs)) other ∙ no_new s rs parts.1

  named_before : (changes : List Schema) (new rs : List Recorded)
      → list_any (redacts_document table id.raw) changes ≡ false → find names new ≡ None
      → find names (revisions_after changes rs ++ new) ≡ find names rs
  named_before changes new [] none h = h
  named_before changes new (r ∷ rs) none h =
      found_step r (is_hidden changes rs r) (names r) (find names (revisions_after changes rs ++ new)) (find names rs)
      (λ n. ap (λ b. b && is_revised rs r) (unredacted changes r n none)) (named_before changes new rs none h)

  named_still : (s : State) (later : List Block) → Untouched s later (item.Doc table id)
      → named_by (state_from s later).revisions change ≡ named_by s.revisions change
  named_still s [] un = refl
  named_still s (b ∷ bs) un =
      let parts =
      or_parts (list_any (touches_document s table id.raw) (revisions_in b))
      (list_any (redacts_document table id.raw) b.info.schema) un.0 in
      named_still (after s b) bs un.1
      ∙ named_before b.info.schema (revisions_in b) s.revisions parts.1 (no_new s (revisions_in b) parts.0)

  -- ---- the document's latest revision

  none_revised : (s : State) (at : HasTable s id.raw table) (new : List Recorded)
      → list_any (touches_document s table id.raw) new ≡ false → list_any (has_revision_of id.raw) new ≡ false
  none_revised s at [] h = refl
  none_revised s at (r ∷ rs) h =
      let parts = or_parts (touches_document s table id.raw r) (list_any (touches_document s table id.raw) rs) h in
      or_from (id_of r == id.raw) (list_any (has_revision_of id.raw) rs)
      (false_from_ne_true (id_of r == id.raw) (λ own.
      let there : latest_of s.revisions (id_of r) ≡ Some at.0 =
      ap (latest_of s.revisions) (eqb-true (id_of r) id.raw own) ∙ at.1 in
      let in_table : is_in table (latest_of s.revisions (id_of r)) ≡ true =
      ap (is_in table) there ∙ eq-eqb (at.0).table.raw table.raw at.2 in
      both_ways (touches_document s table id.raw r) parts.0
      (and_from (is_of_table s table r) (id_of r == id.raw)
      (or_right (r.table.raw == table.raw) (is_in table (latest_of s.revisions (id_of r))) in_table) own)))
      (none_revised s at rs parts.1)

  latest_still : (s : State) (later : List Block) → HasTable s id.raw table → Untouched s later (item.Doc table id)
      → latest_of (state_from s later).revisions id.raw ≡ latest_of s.revisions id.raw
  latest_still s [] at un = refl
  latest_still s (b ∷ bs) at un =
      let parts =
      or_parts (list_any (touches_document s table id.raw) (revisions_in b))
      (list_any (redacts_document table id.raw) b.info.schema) un.0 in
      let next : latest_of (after s b).revisions id.raw ≡ latest_of s.revisions id.raw =
      latest_of_after s b id.raw
      ∙ ap (λ o. or_else o (latest_of s.revisions id.raw))
      (absent id.raw (revisions_in b) (none_revised s at (revisions_in b) parts.0)) in
      latest_still (after s b) bs (at.0, next ∙ at.1, at.2) un.1 ∙ next

  -- ---- the statement

  of_revision_same : (s : State) (later : List Block) (p : Progress) (o : Option Recorded) → Steady s
      → Untouched s later (item.Doc table id) → named_by s.revisions change ≡ o
      → of_revision (state_from s later).revisions p.schema change o ≡ of_revision s.revisions p.schema change o
  of_revision_same s later p None steady un is = refl
  of_revision_same s later p (Some r) steady un is =
      let own = of_names r (found_holds names s.revisions r is) in
      let there = found_in (λ x. HasTable s (id_of x) x.table) names s.revisions r steady is in
      let at : HasTable s id.raw table = (there.0, ap (latest_of s.revisions) (sym own.1) ∙ there.1, there.2 ∙ own.0) in
      let last : latest_of (state_from s later).revisions (id_of r) ≡ latest_of s.revisions (id_of r) =
      ap (latest_of (state_from s later).revisions) own.1 ∙ latest_still s later at un
      ∙ sym (ap (latest_of s.revisions) own.1) in
      let same : is_latest (state_from s later).revisions r ≡ is_latest s.revisions r =
      ap (λ o. option_map_or (λ x. same_address x.revision.address r.revision.address) o false) last in
      ap (λ b. unless (if b then Some (StillLatest r.revision.metadata.version)
      else if is_redacted_so_far p.schema r then Some (AlreadyRedacted r.revision.metadata.version)
      else if nat_le 40 (redaction_count p.schema) then Some (TooManyRedactions 41)
      else None) (Ok (redaction change r))) same

  pub change_same : (s : State) (later : List Block) (p : Progress) → Steady s → Untouched s later (item.Doc table id)
      → of_revision (state_from s later).revisions p.schema change (named_by (state_from s later).revisions change)
      ≡ of_revision s.revisions p.schema change (named_by s.revisions change)
  change_same s later p steady un =
      ap (of_revision (state_from s later).revisions p.schema change) (named_still s later un)
      ∙ of_revision_same s later p (named_by s.revisions change) steady un refl

-- of what the arguments name, if they name a revision
pub named_same : (s : State) (later : List Block) (p : Progress) (o : Option RevisionName) → Steady s
    → AllByRecursion (Untouched s later) (items_named o) → of_name (state_from s later) p o ≡ of_name s p o
named_same s later p None steady un = refl
named_same s later p (Some n) steady un = change_same n.address n.table n.document s later p steady un.0
