-- A transaction with one pending revision more keeps what holds of it so far.
use Rattle.std.proofs.Common.{◌≡◌, ◌∙◌, ◌≤◌, ◌<◌, ◌+◌, ◌==◌, ◌⊎◌, ℕ, Bool, true, false, List, [], ◌∷◌, ◌++◌, length, refl, sym, ap, subst, append_assoc, append-nil, arith, inl, inr}
use Rattle.std.specs.List.{AllByRecursion, list_any, filter}
use Rattle.std.proofs.lemmas.Bool.{cases_Bool}
use Rattle.std.proofs.lemmas.List.{length_push, length-map, map_push}
use Rattle.std.proofs.lemmas.List.Elements.{filter-append}
use Rattle.ql_types.specs.Ids.{raw_id}
use Rattle.ledger_model.specs.declared.block.Schema.{Schema}
use Rattle.ledger_model.specs.declared.block.Draft.{Draft}
use Rattle.ledger_model.specs.State.{State}
use Rattle.ledger_model.specs.Run.{Begun}
use Rattle.ledger_model.specs.Views.{latest}
use Rattle.ledger_model.specs.Follows.{is_new, created_ids, all_differ}
use Rattle.laws_validity.specs.Pending.{draft_ids, given_ids}
use Rattle.laws_validity.proofs.Lists.{all_push, all_like, all_unmapped, apart, differ_push}
use Rattle.laws_validity.proofs.Latest.{latest-push, put_new, put_ids, others}
use Rattle.laws_validity.proofs.Ready.{IsReady}
use Rattle.laws_validity.proofs.Progress.{IsPending, IsGiven, Made, older, newest, differs_from_next, given_new, next_apart}

-- ---- the ids of the latest revisions

-- a document more
ids_more : (log : List Draft) (d : Draft) → AllByRecursion (λ x. (x.id.raw == d.id.raw) ≡ false) (latest log)
    → draft_ids (latest (log ++ d ∷ [])) ≡ draft_ids (latest log) ++ d.id.raw ∷ []
ids_more log d h = ap draft_ids (latest-push log d ∙ put_new (latest log) d h)
    ∙ map_push (λ x. x.id.raw) (latest log) d

-- the same documents
pub ids_same : (log : List Draft) (d : Draft) → list_any (λ id. id == d.id.raw) (draft_ids (latest log)) ≡ true
    → draft_ids (latest (log ++ d ∷ [])) ≡ draft_ids (latest log)
ids_same log d h = ap draft_ids (latest-push log d) ∙ put_ids (latest log) d h

pub as_many : (xs ys : List Draft) → draft_ids xs ≡ draft_ids ys → length xs ≡ length ys
as_many xs ys e = sym (length-map xs (λ d. d.id.raw)) ∙ ap length e ∙ length-map ys (λ d. d.id.raw)

longer : (log : List Draft) (d : Draft) → length (latest log) ≤ length (latest (log ++ d ∷ []))
longer log d =
    elim (cases_Bool (list_any (λ id. id == d.id.raw) (draft_ids (latest log)))) [
      | inl there ↦ let e = as_many (latest (log ++ d ∷ [])) (latest log) (ids_same log d there) in omega (arith, e)
      | inr none ↦
          let e = ap length (latest-push log d ∙ put_new (latest log) d (others (latest log) d.id.raw none)) in
          let l = length_push (latest log) d in
          omega (arith, e, l)
    ]

pub one_longer : (log : List Draft) (d : Draft) → length (latest (log ++ d ∷ [])) ≤ length (latest log) + 1
one_longer log d =
    elim (cases_Bool (list_any (λ id. id == d.id.raw) (draft_ids (latest log)))) [
      | inl there ↦ let e = as_many (latest (log ++ d ∷ [])) (latest log) (ids_same log d there) in omega (arith, e)
      | inr none ↦
          let e = ap length (latest-push log d ∙ put_new (latest log) d (others (latest log) d.id.raw none)) in
          let l = length_push (latest log) d in
          omega (arith, e, l)
    ]

-- ---- one that a test keeps, and one that it doesn't

kept_more : (p : ℕ → Bool) (xs : List ℕ) (x : ℕ) → p x ≡ true → filter p (xs ++ x ∷ []) ≡ filter p xs ++ x ∷ []
kept_more p xs x h = filter-append p xs (x ∷ []) ∙ rw h refl

not_more : (p : ℕ → Bool) (xs : List ℕ) (x : ℕ) → p x ≡ false → filter p (xs ++ x ∷ []) ≡ filter p xs
not_more p xs x h = filter-append p xs (x ∷ []) ∙ rw h (append-nil (filter p xs))

module _ (b : Begun) (s : State) (schema : List Schema) (log : List Draft) (made : ℕ)
    (m : Made b s schema log made) where
  -- a new document is inserted, under the next id
  pub insert_more : IsReady b s → (d : Draft) → d.id.raw ≡ raw_id b.mask b.number (made + 1)
      → IsPending s (created_ids schema) d → length (latest log) < 40
      → Made b s schema (log ++ d ∷ []) (made + 1)
  insert_more ready d own pending room =
      let next = raw_id b.mask b.number (made + 1) in
      let new : is_new s.revisions d.id.raw ≡ true =
      subst (λ x. is_new s.revisions x ≡ true) (sym own)
      (given_new b s ready schema log made m next (newest b made)) in
      let given : IsGiven b (made + 1) d.id.raw = subst (IsGiven b (made + 1)) (sym own) (newest b made) in
      let apart_here : AllByRecursion (λ x. (x.id.raw == d.id.raw) ≡ false) (latest log) =
      subst (λ n. AllByRecursion (λ x. (x.id.raw == n) ≡ false) (latest log)) (sym own)
      (all_unmapped (λ id. (id == next) ≡ false) (λ x. x.id.raw) (latest log)
      (next_apart b s ready schema log made m)) in
      let long = ap length (latest-push log d ∙ put_new (latest log) d apart_here) in
      let l = length_push (latest log) d in
      let all : given_ids s schema (log ++ d ∷ []) ≡ given_ids s schema log ++ d.id.raw ∷ [] =
      ap (λ xs. created_ids schema ++ filter (is_new s.revisions) xs) (ids_more log d apart_here)
      ∙ ap (λ xs. created_ids schema ++ xs) (kept_more (is_new s.revisions) (draft_ids (latest log)) d.id.raw new)
      ∙ sym (append_assoc (created_ids schema) (filter (is_new s.revisions) (draft_ids (latest log)))
      (d.id.raw ∷ [])) in
      let none = all_like (IsGiven b made) (λ x. d.id.raw ≡ x → ⊥)
      (λ x g e. differs_from_next b made x g (sym own ∙ e)) (given_ids s schema log) m.ids in
      record {
        ids = subst (AllByRecursion (IsGiven b (made + 1))) (sym all)
            (all_push (IsGiven b (made + 1)) (given_ids s schema log) d.id.raw
            (older b made (given_ids s schema log) m.ids) given);
        differ = subst (λ xs. all_differ xs ≡ true) (sym all)
            (differ_push (given_ids s schema log) d.id.raw m.differ (apart d.id.raw (given_ids s schema log) none));
        follow = m.follow;
        fits = m.fits;
        drafts = all_push (IsPending s (created_ids schema)) log d m.drafts pending;
        count = let e = m.count in omega (arith, e, l, long);
        few_tables = m.few_tables;
        few_documents = omega (arith, l, long, room);
      }

  -- the document is one of the state, or pends already
  IsKnown : ℕ → Type 0
  IsKnown id = (is_new s.revisions id ≡ false) ⊎ (list_any (λ x. x == id) (draft_ids (latest log)) ≡ true)

  given_same : (d : Draft) → IsKnown d.id.raw → given_ids s schema (log ++ d ∷ []) ≡ given_ids s schema log
  unfolding IsKnown
  given_same d (inr there) = ap (λ xs. created_ids schema ++ filter (is_new s.revisions) xs) (ids_same log d there)
  given_same d (inl old) =
      elim (cases_Bool (list_any (λ x. x == d.id.raw) (draft_ids (latest log)))) [
        | inl there ↦ ap (λ xs. created_ids schema ++ filter (is_new s.revisions) xs) (ids_same log d there)
        | inr none ↦
            ap (λ xs. created_ids schema ++ filter (is_new s.revisions) xs)
            (ids_more log d (others (latest log) d.id.raw none))
            ∙ ap (λ xs. created_ids schema ++ xs)
            (not_more (is_new s.revisions) (draft_ids (latest log)) d.id.raw old)
      ]

  -- a document of the state is changed or deleted, or one that pends already
  pub revise_more : (d : Draft)
      → (is_new s.revisions d.id.raw ≡ false) ⊎ (list_any (λ x. x == d.id.raw) (draft_ids (latest log)) ≡ true)
      → IsPending s (created_ids schema) d → length (latest (log ++ d ∷ [])) ≤ 40
      → Made b s schema (log ++ d ∷ []) made
  unfolding IsKnown
  revise_more d known pending room =
      let all = given_same d known in
      record {
        ids = subst (AllByRecursion (IsGiven b made)) (sym all) m.ids;
        differ = subst (λ xs. all_differ xs ≡ true) (sym all) m.differ;
        follow = m.follow;
        fits = m.fits;
        drafts = all_push (IsPending s (created_ids schema)) log d m.drafts pending;
        count = let e = m.count in let l = longer log d in omega (arith, e, l);
        few_tables = m.few_tables;
        few_documents = room;
      }
