-- The block of a transaction is whole.
use Rattle.std.proofs.Common.{◌≡◌, ◌∙◌, ◌≤◌, ◌<◌, ◌+◌, ◌-◌, ◌^◌, ◌&&◌, ◌==◌, ℕ, true, List, [], ◌∷◌, map, Option, Some, None, refl, sym, arith, inl, inr}
use Rattle.std.specs.Prelude.{nat_lt}
use Rattle.std.specs.List.{AllByRecursion}
use Rattle.std.proofs.lemmas.Bool.{and_parts, lt-ltb, ltb-true, eqb-true, cases_Bool}
use Rattle.std.proofs.lemmas.List.{length-map}
use Rattle.ion_values.specs.declared.time.TimeParts.{TimeParts}
use Rattle.ql_types.specs.Ids.{raw_id}
use Rattle.ql_types.specs.declared.Place.{Place}
use Rattle.ql_types.specs.declared.TableId.{TableId}
use Rattle.ledger_model.specs.declared.block.Block.{Block}
use Rattle.ledger_model.specs.declared.block.Draft.{Draft}
use Rattle.ledger_model.specs.declared.block.Header.{Header}
use Rattle.ledger_model.specs.State.{State, Recorded, state}
use Rattle.ledger_model.specs.Run.{Begun, Progress}
use Rattle.ledger_model.specs.Legal.{last_hash}
use Rattle.ledger_model.specs.Seals.{sealed}
use Rattle.ledger_model.specs.Making.{revision_of, header_of, info_of}
use Rattle.ledger_model.specs.Views.{latest}
use Rattle.ledger_model.specs.Whole.{IsWhole, id_fits, schema_fits}
use Rattle.ledger_model.specs.Follows.{latest_of, is_new, is_kept, created_ids}
use Rattle.laws_validity.specs.Before.{CanFollow}
use Rattle.laws_validity.specs.Makes.{CanMake, IsWithinAll, change_within, draft_within, said_within}
use Rattle.laws_validity.specs.Pending.{goes_on, is_left, left_of, draft_ids}
use Rattle.laws_validity.proofs.Lists.{all_both, all_like, all_mapped, all_unmapped, passing}
use Rattle.laws_validity.proofs.Thinned.{all_thinned, fewer}
use Rattle.laws_validity.proofs.Latest.{all_latest}
use Rattle.laws_validity.proofs.Ids.{raw_id_fits}
use Rattle.laws_validity.proofs.Hashes.{sealed_is, drafts_hashed}
use Rattle.laws_validity.proofs.Parts.{FineContent, fine_content}
use Rattle.laws_validity.proofs.Journals.{all_whole}
use Rattle.laws_validity.proofs.Headers.{previous_is, behind_is}
use Rattle.laws_validity.proofs.Following.{latest_like, old_like}
use Rattle.laws_validity.proofs.Ready.{IsReady, ready_of}
use Rattle.laws_validity.proofs.Progress.{IsPending, IsGiven, Made, ShallowSaid, older, given_fits, new_given}
use Rattle.laws_validity.proofs.Effects.{FineProgress}
use Rattle.laws_validity.proofs.Whole.{FineSaid, FineChange, FineRevision, FineBlock, said_is, whole_of}

version_low : (count : ℕ) (d : Draft) (o : Option Recorded)
    → ((last : Recorded) → o ≡ Some last → last.revision.metadata.version < count)
    → goes_on d o ≡ true → d.version ≤ count
version_low count d None h on = let e = eqb-true d.version 0 on in omega (arith, e)
version_low count d (Some last) h on =
    let most = and_parts ((d.table.raw == last.table.raw) && (d.version == last.revision.metadata.version + 1))
    (is_kept last.revision.content) on in
    let e = eqb-true d.version (last.revision.metadata.version + 1)
    (and_parts (d.table.raw == last.table.raw) (d.version == last.revision.metadata.version + 1) most.0).1 in
    let low = h last refl in
    omega (arith, e, low)

all_three : {X : Type 0} (P Q R : X → Type 0) (xs : List X) → AllByRecursion P xs → AllByRecursion Q xs
    → AllByRecursion R xs
    → AllByRecursion (λ x. P x × Q x × R x) xs
all_three P Q R [] h k l = tt
all_three P Q R (x ∷ xs) h k l = ((h.0, k.0, l.0), all_three P Q R xs h.1 k.1 l.1)

module _ (b : Begun) (blocks : List Block) (place : Place) (time : TimeParts) (p : Progress)
    (can : CanFollow b blocks) (make : CanMake b.mask time place)
    (ranges : IsWithinAll p) (so : FineProgress b (state blocks) p) where
  abbrev s : State
  s = state blocks

  ready : IsReady b s
  ready = ready_of b blocks make.mask_fits can

  m : Made b s p.schema p.log p.made
  m = so.made

  whole : AllByRecursion IsWhole blocks
  whole = all_whole blocks [] can.undamaged

  abbrev final : List Draft
  final = left_of p.log

  abbrev header : Header
  header = header_of b blocks time final

  abbrev block : Block
  block = sealed (last_hash b.mask blocks) header (info_of place p final) (map (revision_of header) final)

  -- ---- the revisions

  -- a draft whose numbers fit and whose content is within its range
  record SoundDraft (d : Draft) : Type 0 where
    pub pending : IsPending s (created_ids p.schema) d
    pub id : id_fits d.id.raw ≡ true
    pub version : d.version < 2 ^ 64
    pub content : FineContent d.content

  id_of : (id : ℕ) → (is_new s.revisions id ≡ true → IsGiven b p.made id) → id_fits id ≡ true
  id_of id given =
      elim (cases_Bool (is_new s.revisions id)) [
        | inl new ↦ given_fits b s ready p.schema p.log p.made m id (older b p.made (id ∷ []) (given new, tt)).0
        | inr old ↦ old_like (λ x. id_fits x ≡ true) s.revisions id ready.fits old
      ]

  version_of : (d : Draft) → IsPending s (created_ids p.schema) d → d.version < 2 ^ 64
  version_of d f =
      let low = version_low (2 ^ 32 - 1) d (latest_of s.revisions d.id.raw)
      (λ last e. latest_like
      (λ r. r.revision.metadata.version < 2 ^ 32 - 1) s.revisions d.id.raw last ready.versions e) f.on in
      omega (arith, low)

  drafts : AllByRecursion SoundDraft final
  drafts =
      let all = latest p.log in
      let ids = all_unmapped (λ id. id_fits id ≡ true) (λ (d : Draft). d.id.raw) all
      (all_like (λ id. is_new s.revisions id ≡ true → IsGiven b p.made id) (λ id. id_fits id ≡ true) id_of
      (draft_ids all)
      (new_given b s ready p.schema p.log p.made m)) in
      let within = all_latest (λ d. draft_within d ≡ true) p.log (passing draft_within p.log ranges.log) in
      let pending = all_latest (IsPending s (created_ids p.schema)) p.log m.drafts in
      let each = all_like (λ d. IsPending s (created_ids p.schema) d × (id_fits d.id.raw ≡ true) ×
      (draft_within d ≡ true)) SoundDraft (λ d h. record {
        pending = h.0;
        id = h.1;
        version = version_of d h.0;
        content = fine_content d.content h.0.shallow h.2 h.0.unredacted;
      }) all (all_three _ _ _ all pending ids within) in
      all_thinned SoundDraft is_left all each

  -- ---- what was said and changed

  said : AllByRecursion FineSaid p.said
  said =
      all_like (λ x. ShallowSaid x × (said_within x ≡ true)) FineSaid (λ x h. said_is x h.0 h.1) p.said (
      all_both ShallowSaid (λ x. said_within x ≡ true) p.said so.said (passing said_within p.said ranges.said))

  changes : AllByRecursion FineChange p.schema
  changes =
      all_like (λ c. (schema_fits c ≡ true) × (change_within c ≡ true)) FineChange
      (λ c h. record { fits = h.0; name = h.1 }) p.schema (
      all_both _ _ p.schema m.fits (passing change_within p.schema ranges.schema))

  -- ---- the block

  tx_fits : id_fits (raw_id b.mask b.number 0) ≡ true
  tx_fits = lt-ltb _ _ (raw_id_fits b.mask b.number 0 make.mask_fits can.counted (omega arith))

  one_revision : (d : Draft) → SoundDraft d → FineRevision (revision_of header d)
  one_revision d f = record {
    sequence = let room = can.room in omega (arith, room);
    strand = lt-ltb b.mask (2 ^ 128) make.mask_fits;
    hash = (drafts_hashed header (d ∷ [])).0;
    content = f.content;
    id = f.id;
    version = f.version;
    time = behind_is blocks time whole make.timed;
    tx = tx_fits;
  }

  fine : FineBlock block
  fine =
      let at = and_parts (nat_lt place.session (2 ^ 32)) (nat_lt place.transaction (2 ^ 32)) make.placed in
      record {
        sequence = let room = can.room in omega (arith, room);
        strand = lt-ltb b.mask (2 ^ 128) make.mask_fits;
        tx = tx_fits;
        time = behind_is blocks time whole make.timed;
        number = let most = m.few_documents in let f = fewer is_left (latest p.log) in omega (arith, most, f);
        digests = sealed_is (last_hash b.mask blocks) header (info_of place p final) (map (revision_of header) final)
            (previous_is b.mask blocks whole) (drafts_hashed header final);
        session = ltb-true place.session (2 ^ 32) at.0;
        transaction = ltb-true place.transaction (2 ^ 32) at.1;
        said = said;
        schema = changes;
        tables = all_mapped (λ (t : TableId). id_fits t.raw ≡ true) (λ (d : Draft). d.table) final (
            all_like SoundDraft (λ (d : Draft). id_fits d.table.raw ≡ true)
            (λ d f. f.pending.table_fits) final drafts);
        revisions = all_mapped FineRevision (revision_of header) final
            (all_like SoundDraft (λ d. FineRevision (revision_of header d)) one_revision final drafts);
      }

  pub is_whole : IsWhole
      (sealed (last_hash b.mask blocks) (header_of b blocks time (left_of p.log)) (info_of place p (left_of p.log))
      (map (revision_of (header_of b blocks time (left_of p.log))) (left_of p.log)))
  is_whole = whole_of block fine (sym (length-map final _)) (length-map final _ ∙ sym (length-map final _))
