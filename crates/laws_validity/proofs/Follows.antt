-- The block of a transaction follows the state that the transaction ran on.
use Rattle.std.proofs.Common.{◌≡◌, ◌∙◌, ◌<◌, ◌^◌, ◌==◌, ◌&&◌, ℕ, ℤ, Bool, true, false, not, List, [], ◌∷◌, ◌++◌, map, Option, Some, None, refl, sym, ap, subst, arith}
use Rattle.std.specs.List.{AllByRecursion, list_all, filter}
use Rattle.std.proofs.lemmas.Bool.{and_from, le-leb, eq-eqb}
use Rattle.std.proofs.lemmas.Bool.Decides.{Decides-eqb, Decides-int_eq}
use Rattle.ion_values.specs.Equivalent.{same_time, same_offset, same_precision}
use Rattle.ion_values.specs.declared.time.Precision.{Precision}
use Rattle.ion_values.specs.declared.time.TimeParts.{TimeParts}
use Rattle.ql_types.specs.Ids.{raw_id, transaction_in}
use Rattle.ql_types.specs.declared.Hash32.{Hash32}
use Rattle.ql_types.specs.declared.Place.{Place}
use Rattle.ledger_model.specs.declared.block.Block.{Block}
use Rattle.ledger_model.specs.declared.block.Draft.{Draft}
use Rattle.ledger_model.specs.declared.block.Header.{Header}
use Rattle.ledger_model.specs.State.{State, Recorded, recorded_in}
use Rattle.ledger_model.specs.Run.{Begun, Progress}
use Rattle.ledger_model.specs.Seals.{sealed}
use Rattle.ledger_model.specs.Making.{revision_of, info_of}
use Rattle.ledger_model.specs.Views.{latest}
use Rattle.ledger_model.specs.Follows.{latest_of, is_new, is_made_by, is_kept, made_ids, created_ids, document_ids, ids_follow, revision_follows, is_of, continues, all_differ, follows}
use Rattle.laws_validity.specs.Pending.{goes_on, is_left, left_of, draft_ids, given_ids}
use Rattle.laws_validity.proofs.Lists.{all_append, all_front, all_rest, all_like, all_mapped, all_unmapped, passes}
use Rattle.laws_validity.proofs.Thinned.{all_thinned, all_left, swapped, of_mapped, still_differ}
use Rattle.laws_validity.proofs.Latest.{all_latest, latest_differ}
use Rattle.laws_validity.proofs.Ids.{transaction_of, thing_of}
use Rattle.laws_validity.proofs.Ready.{IsReady}
use Rattle.laws_validity.proofs.Progress.{IsPending, IsGiven, Made, few}

-- the revisions have their drafts' ids
pub drafts_of : (h : Header) (ds : List Draft) → document_ids (map (revision_of h) ds) ≡ draft_ids ds
drafts_of h [] = refl
drafts_of h (d ∷ ds) = ap (λ xs. d.id.raw ∷ xs) (drafts_of h ds)

-- ---- a revision has its block's address, time and transaction

nat_own : (a : ℕ) → (a == a) ≡ true
nat_own a = eq-eqb a a refl

offset_own : (a : Option ℤ) → same_offset a a ≡ true
offset_own None = refl
offset_own (Some a) = (Decides-int_eq a a).1 refl

precision_own : (a : Precision) → same_precision a a ≡ true
precision_own a = (Decides-eqb _ _).1 refl

time_own : (a : TimeParts) → same_time a a ≡ true
time_own a = rw (precision_own a.precision) (simp (nat_own, offset_own))

of_header : (h : Header) (d : Draft) → is_of h (revision_of h d) ≡ true
of_header h d =
    and_from _ _ (and_from _ _ (and_from _ _ (nat_own h.address.strand.raw) (nat_own h.address.sequence))
    (time_own h.time)) (nat_own h.tx.raw)

-- ---- a revision that is left continues its document

kept_is : (zero kept : Bool) → zero ≡ true → not (zero && not kept) ≡ true → kept ≡ true
kept_is true true h k = refl
kept_is true false h k = cc
kept_is false kept h k = cc

continues_left : (h : Header) (d : Draft) (o : Option Recorded) → goes_on d o ≡ true → is_left d ≡ true
    → continues (record { table = d.table; revision = revision_of h d }) o ≡ true
continues_left h d None on left = and_from _ _ on (kept_is (d.version == 0) (is_kept d.content) on left)
continues_left h d (Some last) on left = on

module _ (b : Begun) (s : State) (ready : IsReady b s) (p : Progress) (m : Made b s p.schema p.log p.made) where
  abbrev final : List Draft
  final = left_of p.log

  -- ---- the ids that are given

  is_own : (id : ℕ) → IsGiven b p.made id → is_made_by b.mask b.number id ≡ true
  is_own id x =
      let f = few b s ready p.schema p.log p.made m in
      let h = x.high in
      let fits : x.thing < 2 ^ 24 = omega (arith, f, h) in
      subst (λ y. is_made_by b.mask b.number y ≡ true) (sym x.id_is) (
      and_from _ _ (eq-eqb _ _ (transaction_of b.mask b.number x.thing fits))
      (le-leb 1 _ (let e = thing_of b.mask b.number x.thing fits in let l = x.low in omega (arith, e, l))))

  -- the latest revisions of new documents
  new_drafts : List Draft
  new_drafts = filter (λ d. is_new s.revisions d.id.raw) (latest p.log)

  given_are : given_ids s p.schema p.log ≡ created_ids p.schema ++ draft_ids new_drafts
  unfolding new_drafts
  given_are = ap (λ xs. created_ids p.schema ++ xs) (of_mapped (is_new s.revisions) (λ d. d.id.raw) (latest p.log))

  final_are : filter (is_new s.revisions) (draft_ids final) ≡ draft_ids (filter is_left new_drafts)
  unfolding new_drafts
  final_are =
      of_mapped (is_new s.revisions) (λ d. d.id.raw) final
      ∙ ap draft_ids (swapped (λ d. is_new s.revisions d.id.raw) is_left (latest p.log))

  all_given : AllByRecursion (IsGiven b p.made) (created_ids p.schema ++ draft_ids (filter is_left new_drafts))
  all_given =
      let all = subst (AllByRecursion (IsGiven b p.made)) given_are m.ids in
      let front = all_front (IsGiven b p.made) (created_ids p.schema) (draft_ids new_drafts) all in
      let rest = all_unmapped (IsGiven b p.made) (λ (d : Draft). d.id.raw) new_drafts
      (all_rest (IsGiven b p.made) (created_ids p.schema) (draft_ids new_drafts) all) in
      all_append (IsGiven b p.made) (created_ids p.schema) _ front
      (all_mapped (IsGiven b p.made) (λ (d : Draft). d.id.raw) (filter is_left new_drafts)
      (all_thinned (λ d. IsGiven b p.made d.id.raw) is_left new_drafts rest))

  all_differing : all_differ (created_ids p.schema ++ draft_ids (filter is_left new_drafts)) ≡ true
  all_differing =
      still_differ is_left (λ d. d.id.raw) (created_ids p.schema) new_drafts
      (subst (λ xs. all_differ xs ≡ true) given_are m.differ)

  -- ---- the block

  module _ (previous : Hash32) (h : Header) (place : Place) (tx : h.tx.raw ≡ raw_id b.mask b.number 0) where
    made_block : Block
    made_block = sealed previous h (info_of place p final) (map (revision_of h) final)

    made_are : made_ids s made_block ≡ created_ids p.schema ++ draft_ids (filter is_left new_drafts)
    unfolding made_block
    made_are =
        ap (λ xs. created_ids p.schema ++ filter (is_new s.revisions) xs) (drafts_of h final)
        ∙ ap (λ xs. created_ids p.schema ++ xs) final_are

    own_number : transaction_in b.mask h.tx.raw ≡ b.number
    own_number = ap (transaction_in b.mask) tx ∙ transaction_of b.mask b.number 0 (omega arith)

    ids_ok : ids_follow b.mask (made_ids s made_block) h.tx.raw ≡ true
    ids_ok =
        let ids = created_ids p.schema ++ draft_ids (filter is_left new_drafts) in
        let own = passes (is_made_by b.mask b.number) ids
        (all_like (IsGiven b p.made) (λ id. is_made_by b.mask b.number id ≡ true) is_own ids all_given) in
        subst (λ xs. ids_follow b.mask xs h.tx.raw ≡ true) (sym made_are) (
        and_from _ _ (subst (λ n. list_all (is_made_by b.mask n) ids ≡ true) (sym own_number) own) all_differing)

    one_follows : (d : Draft) → IsPending s (created_ids p.schema) d → is_left d ≡ true
        → revision_follows s made_block (record { table = d.table; revision = revision_of h d }) ≡ true
    unfolding made_block
    one_follows d f left =
        and_from _ _ (and_from _ _ (of_header h d) f.table)
        (continues_left h d (latest_of s.revisions d.id.raw) f.on left)

    each_follows : (ds : List Draft) → AllByRecursion (IsPending s (created_ids p.schema)) ds
        → AllByRecursion (λ d. is_left d ≡ true) ds
        → list_all (revision_follows s made_block)
        (recorded_in (map (λ d. d.table) ds) (map (revision_of h) ds)) ≡ true
    each_follows [] f left = refl
    each_follows (d ∷ ds) f left = and_from _ _ (one_follows d f.0 left.0) (each_follows ds f.1 left.1)

    pub follows_made : follows b.mask s (sealed previous h (info_of place p final) (map (revision_of h) final)) ≡ true
    unfolding made_block
    follows_made =
        let pending = all_thinned (IsPending s (created_ids p.schema)) is_left (latest p.log)
        (all_latest (IsPending s (created_ids p.schema)) p.log m.drafts) in
        let differing = subst (λ xs. all_differ xs ≡ true) (sym (drafts_of h final))
        (still_differ is_left (λ d. d.id.raw) [] (latest p.log) (latest_differ p.log)) in
        and_from _ _ (and_from _ _ (and_from _ _ m.follow ids_ok)
        (each_follows final pending (all_left is_left (latest p.log)))) differing
