-- What holds of a transaction as far as its statements have run: its ids are made one by one, each change of the
-- schema follows those before it, and each revision that pends goes on from the latest committed one of its document.
use Rattle.std.proofs.Common.{◌≡◌, ◌∙◌, ◌≤◌, ◌+◌, ◌==◌, ℕ, true, false, List, [], length, refl, sym, ap, subst, arith, inl, inr}
use Rattle.std.specs.List.{AllByRecursion, filter}
use Rattle.std.proofs.lemmas.Bool.{cases_Bool, ne_eqb, lt-ltb}
use Rattle.ql_types.specs.Ids.{raw_id, transaction_in}
use Rattle.ledger_model.specs.declared.block.Said.{Said}
use Rattle.ledger_model.specs.declared.block.Schema.{Schema}
use Rattle.ledger_model.specs.declared.block.Draft.{Draft}
use Rattle.ledger_model.specs.State.{State}
use Rattle.ledger_model.specs.Run.{Begun, created_count}
use Rattle.ledger_model.specs.Views.{latest}
use Rattle.ledger_model.specs.Whole.{id_fits, schema_fits, is_redacted}
use Rattle.ledger_model.specs.Follows.{latest_of, is_new, schema_follows, created_ids, has_table, all_differ}
use Rattle.laws_validity.specs.Pending.{goes_on, draft_ids, given_ids}
use Rattle.laws_validity.proofs.Lists.{all_like, all_rest}
use Rattle.laws_validity.proofs.Thinned.{unthinned}
use Rattle.laws_validity.proofs.Ids.{same_thing, transaction_of, raw_id_fits}
use Rattle.laws_validity.proofs.Parts.{ShallowContent}
use Rattle.laws_validity.proofs.Shapes.{Shallow}
use Rattle.laws_validity.proofs.Following.{old_like}
use Rattle.laws_validity.proofs.Ready.{IsOther, IsReady}

-- A revision that may pend: it goes on from the latest committed one of its document, a new document's being none. A
-- delete has no content.
pub record IsPending (s : State) (created : List ℕ) (d : Draft) : Type 0 where
  pub on : goes_on d (latest_of s.revisions d.id.raw) ≡ true
  pub table : has_table s.tables created d.table ≡ true
  pub table_fits : id_fits d.table.raw ≡ true
  pub shallow : ShallowContent d.content
  pub unredacted : is_redacted d.content ≡ false

-- a parameter nests at most as deep as a document, and a row at most as deep as the answer of a SELECT
pub record ShallowSaid (x : Said) : Type 0 where
  pub params : AllByRecursion (Shallow 64) x.params
  pub rows : AllByRecursion (Shallow 130) x.answer.rows

-- the id is that of one of the things that the transaction has made
pub record IsGiven (b : Begun) (made id : ℕ) : Type 0 where
  pub thing : ℕ
  pub id_is : id ≡ raw_id b.mask b.number thing
  pub low : 1 ≤ thing
  pub high : thing ≤ made

-- what the transaction has done to this state so far: its changes of the schema, its pending revisions, and how many
-- ids it made
pub record Made (b : Begun) (s : State) (schema : List Schema) (log : List Draft) (made : ℕ) : Type 0 where
  pub ids : AllByRecursion (IsGiven b made) (given_ids s schema log)
  pub differ : all_differ (given_ids s schema log) ≡ true
  pub follow : schema_follows s.tables s.indexes schema ≡ true
  pub fits : AllByRecursion (λ c. schema_fits c ≡ true) schema
  pub drafts : AllByRecursion (IsPending s (created_ids schema)) log
  pub count : made ≤ created_count schema + length (latest log)
  pub few_tables : created_count schema ≤ 20
  pub few_documents : length (latest log) ≤ 40

pub none_made : (b : Begun) (s : State) → Made b s [] [] 0
none_made b s = record {
  ids = tt;
  differ = refl;
  follow = refl;
  fits = tt;
  drafts = tt;
  count = omega arith;
  few_tables = omega arith;
  few_documents = omega arith;
}

-- ---- ids

pub older : (b : Begun) (made : ℕ) (ids : List ℕ) → AllByRecursion (IsGiven b made) ids
    → AllByRecursion (IsGiven b (made + 1)) ids
older b made ids h =
    all_like (IsGiven b made) (IsGiven b (made + 1))
    (λ id m. record { thing = m.thing; id_is = m.id_is; low = m.low; high = let l = m.high in omega (arith, l) })
    ids h

pub newest : (b : Begun) (made : ℕ) → IsGiven b (made + 1) (raw_id b.mask b.number (made + 1))
newest b made = record { thing = made + 1; id_is = refl; low = omega arith; high = omega arith }

pub differs_from_next : (b : Begun) (made id : ℕ) → IsGiven b made id → raw_id b.mask b.number (made + 1) ≡ id → ⊥
differs_from_next b made id m e =
    let same = same_thing b.mask b.number (made + 1) m.thing (e ∙ m.id_is) in
    let l = m.high in
    omega (arith, same, l)

module _ (b : Begun) (s : State) (ready : IsReady b s) (schema : List Schema) (log : List Draft) (made : ℕ)
    (m : Made b s schema log made) where
  pub few : made ≤ 60
  few = let e = m.count in let t = m.few_tables in let d = m.few_documents in omega (arith, e, t, d)

  pub given_fits : (id : ℕ) → IsGiven b (made + 1) id → id_fits id ≡ true
  given_fits id x =
      let f = few in
      let h = x.high in
      subst (λ y. id_fits y ≡ true) (sym x.id_is)
      (lt-ltb _ _ (raw_id_fits b.mask b.number x.thing ready.mask_fits ready.counted (omega (arith, f, h))))

  -- what the transaction makes is new to the state
  pub given_new : (id : ℕ) → IsGiven b (made + 1) id → is_new s.revisions id ≡ true
  given_new id x =
      elim (cases_Bool (is_new s.revisions id)) [
        | inl new ↦ new
        | inr old ↦
            let f = few in
            let h = x.high in
            let own : transaction_in b.mask id ≡ b.number = ap (transaction_in b.mask) x.id_is
            ∙ transaction_of b.mask b.number x.thing (omega (arith, f, h)) in
            absurd (old_like (IsOther b) s.revisions id ready.others old own)
      ]

  -- a document of the log that is new to the state was made by the transaction
  pub new_given : AllByRecursion (λ id. is_new s.revisions id ≡ true → IsGiven b made id) (draft_ids (latest log))
  new_given =
      unthinned (IsGiven b made) (is_new s.revisions) (draft_ids (latest log))
      (all_rest (IsGiven b made) (created_ids schema) (filter (is_new s.revisions) (draft_ids (latest log))) m.ids)

  -- and none has the next id
  pub next_apart : AllByRecursion (λ id. (id == raw_id b.mask b.number (made + 1)) ≡ false) (draft_ids (latest log))
  next_apart =
      let next = raw_id b.mask b.number (made + 1) in
      all_like (λ id. is_new s.revisions id ≡ true → IsGiven b made id) (λ id. (id == next) ≡ false)
      (λ id given. ne_eqb id next
      (λ same. differs_from_next b made id
      (given (subst (λ x. is_new s.revisions x ≡ true) (sym same) (given_new next (newest b made)))) (sym same)))
      (draft_ids (latest log)) new_given
