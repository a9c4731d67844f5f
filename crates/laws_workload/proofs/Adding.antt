-- The history of a made workload's run with a block for each transaction adds up to the workload's numbers.
use Rattle.std.proofs.Common.{◌≡◌, ◌∙◌, ◌⊎◌, ℕ, zero, suc, ◌+◌, ◌*◌, ◌<◌, List, [], ◌∷◌, map, length, drop, take, slice_index_or, refl, sym, ap, subst, inl, inr, arith}
use Rattle.std.specs.Prelude.{Contains, IsPermutation}
use Rattle.std.specs.List.{AllByRecursion}
use Rattle.std.proofs.lemmas.List.{length-map}
use Rattle.std.proofs.lemmas.List.Sorted.{IsPermutation-map}
use Rattle.ion_values.specs.declared.value.Value.{Value}
use Rattle.ql_types.specs.declared.Place.{Place}
use Rattle.ledger_model.specs.declared.block.Block.{Block}
use Rattle.ledger_model.specs.declared.block.Schema.{Schema}
use Rattle.ledger_model.specs.declared.script.Job.{Job}
use Rattle.ledger_model.specs.Damages.{Undamaged}
use Rattle.ledger_model.specs.Journal.{said_in}
use Rattle.ledger_model.specs.Legal.{LegalFrom, asked_in}
use Rattle.ledger_model.specs.Script.{Placed}
use Rattle.ledger_model.specs.State.{State, after, all_changed, empty, state}
use Rattle.ledger_model.specs.Views.{latest}
use Rattle.laws_history.specs.Records.{Before, InSessionOrder, IsOfSomeJob}
use Rattle.workload.specs.Laws.{made_documents, made_total}
use Rattle.workload.specs.Made.{made_first, made_placed}
use Rattle.workload.specs.Sums.{summary}
use Rattle.workload.specs.declared.totals.Totals.{Totals}
use Rattle.workload.proofs.Additions.{add-up}
use Rattle.turn_lock.specs.History.{Stands}
use Rattle.laws_workload.specs.Adding.{MadeRunsAddUp}
use Rattle.laws_workload.proofs.Blocks.{adds_document, makes_table}
use Rattle.laws_workload.proofs.Histories.{EachAdds, Stand, Whole, whole_from, whole_rows}
use Rattle.laws_workload.proofs.Places.{AllApart, IsOfSession, all_counted, all_documents, all_of_sessions, amount_of, document_at, job_at, same_items, session_jobs}

-- ---- lists

contains_stands : {A : Type 0} (xs : List A) (x : A) → Contains xs x → Stands x xs
contains_stands xs x h = stands_from xs x h.0 h.1 h.2
  where
    stands_from : {A : Type 0} (xs : List A) (x : A) (k : ℕ) → k < length xs → slice_index_or xs k x ≡ x → Stands x xs
    stands_from [] x k low e = absurd (omega (arith, low))
    stands_from (y ∷ xs) x zero low e = inl (sym e)
    stands_from (y ∷ xs) x (suc k) low e = inr (stands_from xs x k (omega (arith, low)) e)

all_where : {A : Type 0} (P : A → Type 0) (xs : List A) (x : A) → AllByRecursion P xs → Stands x xs → P x
all_where P [] x h among = absurd among
all_where P (y ∷ xs) x h (inl e) = subst P (sym e) h.0
all_where P (y ∷ xs) x h (inr among) = all_where P xs x h.1 among

map_stands : {A B : Type 0} (f : A → B) (x : A) (xs : List A) → Stands x xs → Stands (f x) (map f xs)
map_stands f x [] h = absurd h
map_stands f x (y ∷ xs) (inl e) = inl (ap f e)
map_stands f x (y ∷ xs) (inr h) = inr (map_stands f x xs h)

stands_map : {A B : Type 0} (f : A → B) (y : B) (xs : List A) → Stands y (map f xs) → (x : A) × Stands x xs × (y ≡ f x)
stands_map f y [] h = absurd h
stands_map f y (x ∷ xs) (inl e) = (x, inl refl, e)
stands_map f y (x ∷ xs) (inr h) = let r = stands_map f y xs h in (r.0, inr r.1, r.2)

map_map : {A B C : Type 0} (f : B → C) (g : A → B) (xs : List A) → map f (map g xs) ≡ map (λ x. f (g x)) xs
map_map f g [] = refl
map_map f g (x ∷ xs) = ap (λ zs. f (g x) ∷ zs) (map_map f g xs)

-- ---- the blocks

module _ (seed sessions transactions : ℕ) where
  abbrev rest : List Placed
  rest = session_jobs seed sessions transactions

  abbrev at_first : Placed
  at_first = record { place = record { session = 0; transaction = 1 }; job = made_first }

  -- the block is that of session 0, or of one of the others
  abbrev IsFirst : Block → Type 0
  IsFirst b = (b.info.place ≡ at_first.place) × (asked_in (said_in b.info.said) ≡ made_first.statements)

  abbrev IsLater : Block → Type 0
  IsLater b = Stands b.info.place (map (λ (p : Placed). p.place) rest)
      × (asked_in (said_in b.info.said) ≡ (job_at seed b.info.place).statements)

  either : (b : Block) → IsOfSomeJob (made_placed seed sessions transactions) b → IsFirst b ⊎ IsLater b
  either b h = by (contains_stands (at_first ∷ rest) h.placed h.among)
    where
      by : Stands h.placed (at_first ∷ rest) → IsFirst b ⊎ IsLater b
      by (inl e) = inl (
        h.of_job.place ∙ ap (λ (p : Placed). p.place) e,
        h.of_job.asked ∙ ap (λ (p : Placed). p.job.statements) e,
      )
      by (inr among) =
          let session = all_where (IsOfSession seed) rest h.placed (all_of_sessions seed sessions transactions) among in
          inr (
            subst (λ (q : Place). Stands q (map (λ (p : Placed). p.place) rest)) (sym h.of_job.place)
                (map_stands (λ (p : Placed). p.place) h.placed rest among),
            h.of_job.asked ∙ ap (λ (j : Job). j.statements) session.job
                ∙ ap (λ (q : Place). (job_at seed q).statements) (sym h.of_job.place),
          )

  -- behind the first one all are of the others
  all_later : (b : Block) (bs : List Block) → b.info.place ≡ at_first.place → AllByRecursion (Before b.info.place) bs
      → AllByRecursion (IsOfSomeJob (made_placed seed sessions transactions)) bs → AllByRecursion IsLater bs
  all_later b [] first behind jobs = tt
  all_later b (c ∷ bs) first behind jobs = (by (either c jobs.0), all_later b bs first behind.1 jobs.1)
    where
      by : IsFirst c ⊎ IsLater c → IsLater c
      by (inr later) = later
      by (inl too) =
          let same = first ∙ sym too.0 in
          let less = behind.0 (ap (λ (q : Place). q.session) same) in
          let one : b.info.place.transaction ≡ c.info.place.transaction = ap (λ (q : Place). q.transaction) same in
          absurd (omega (arith, less, one))

  abbrev value : Block → Value
  value b = document_at seed b.info.place

  each_adds : (mask : ℕ) (s : State) (bs : List Block) → LegalFrom mask s bs → AllByRecursion IsLater bs → EachAdds mask value s bs
  each_adds mask s [] legal later = tt
  each_adds mask s (b ∷ bs) legal later = (
    adds_document mask s b legal.0 b.info.place.session b.info.place.transaction (amount_of seed b.info.place) later.0.1,
    each_adds mask (after s b) bs legal.1 later.1,
  )

  -- the whole history, from its first block on
  whole : (mask : ℕ) (b : Block) (bs : List Block) → Undamaged (b ∷ bs) → LegalFrom mask empty (b ∷ bs) → IsFirst b
      → AllByRecursion IsLater bs → Whole mask (b ∷ bs) (map value bs)
  whole mask b bs sound legal first later =
      let makes = makes_table mask empty b legal.0 first.1 in
      let stand : Stand mask (b ∷ []) makes.id [] = record {
        tables = ap (λ (cs : List Schema). all_changed [] cs) makes.schema;
        documents = ap latest makes.none;
        known = tt;
      } in
      whole_from mask value bs (b ∷ []) makes.id [] stand sound.2 (each_adds mask (after empty b) bs legal.1 later)

  -- ---- the places

  places_apart : (bs : List Block) → InSessionOrder bs → AllApart (map (λ (b : Block). b.info.place) bs)
  places_apart [] once = tt
  places_apart (b ∷ bs) once = (
    (λ place among same.
        let c = stands_map (λ (x : Block). x.info.place) place bs among in
        let less = all_where (Before b.info.place) bs c.0 once.0 c.1 in
        let both = same ∙ c.2 in
        let before = less (ap (λ (q : Place). q.session) both) in
        let one : b.info.place.transaction ≡ c.0.info.place.transaction = ap (λ (q : Place). q.transaction) both in
        omega (arith, before, one)),
    places_apart bs once.1,
  )

  long : length (map (λ (p : Placed). p.place) rest) ≡ sessions * transactions
  long = length-map rest (λ (p : Placed). p.place) ∙ all_counted seed sessions transactions

  permuted : (bs : List Block) → InSessionOrder bs → AllByRecursion IsLater bs → length bs ≡ sessions * transactions
      → IsPermutation (made_documents seed sessions transactions) (map value bs)
  permuted bs once later many =
      let places = same_items (map (λ (b : Block). b.info.place) bs) (map (λ (p : Placed). p.place) rest) (places_apart bs once)
      (λ place among.
      let c = stands_map (λ (b : Block). b.info.place) place bs among in
      subst (λ (q : Place). Stands q (map (λ (p : Placed). p.place) rest)) (sym c.2) (all_where IsLater bs c.0 later c.1).0)
      (length-map bs (λ (b : Block). b.info.place) ∙ many ∙ sym long) in
      let documents = IsPermutation-map (document_at seed) _ _ places in
      subst (λ (vs : List Value). IsPermutation (made_documents seed sessions transactions) vs)
      (map_map (document_at seed) (λ (b : Block). b.info.place) bs)
      (subst (λ (vs : List Value). IsPermutation vs (map (document_at seed) (map (λ (b : Block). b.info.place) bs)))
      (map_map (document_at seed) (λ (p : Placed). p.place) rest ∙ all_documents seed sessions transactions) documents)

  -- ---- the sums

  added_up : (mask : ℕ) (blocks : List Block) → Undamaged blocks → LegalFrom mask empty blocks → InSessionOrder blocks
      → AllByRecursion (IsOfSomeJob (made_placed seed sessions transactions)) blocks → length blocks ≡ sessions * transactions + 1
      → summary blocks ≡ record {
        blocks = length blocks;
        documents = sessions * transactions;
        amounts = made_total seed sessions transactions;
      }
  added_up mask [] sound legal once jobs many = absurd (omega (arith, many))
  added_up mask (b ∷ bs) sound legal once jobs many = by (either b jobs.0)
    where
      by : IsFirst b ⊎ IsLater b → summary (b ∷ bs) ≡ record {
        blocks = length (b ∷ bs);
        documents = sessions * transactions;
        amounts = made_total seed sessions transactions;
      }
      by (inl first) =
          let later = all_later b bs first.0 once.0 jobs.1 in
          let count : length bs ≡ sessions * transactions = omega (arith, many) in
          let rows = whole_rows mask (b ∷ bs) (map value bs) (whole mask b bs sound legal first later) in
          add-up seed sessions transactions (b ∷ bs)
          (subst (λ (vs : List Value). IsPermutation (made_documents seed sessions transactions) vs) (sym rows)
          (permuted bs once.1 later count))
      by (inr later) =
          let adds = adds_document mask empty b legal.0 b.info.place.session b.info.place.transaction (amount_of seed b.info.place) later.1 in
          let bad : ⊥ = cc adds.there in
          absurd bad

pub made_runs_add_up : MadeRunsAddUp
made_runs_add_up t seed sessions transactions fits none jobs many =
    let zeroth : (n : ℕ) → n ≡ 0 → drop n t.after ≡ t.after = λ n e. ap (λ m. drop m t.after) e in
    let start : (n : ℕ) → n ≡ 0 → state (take n t.after) ≡ empty = λ n e. ap (λ m. state (take m t.after)) e in
    let first : length t.before ≡ 0 = ap length none in
    let all = zeroth (length t.before) first in
    let legal =
    subst (λ (bs : List Block). LegalFrom t.mask empty bs) all
    (subst (λ (s : State). LegalFrom t.mask s (drop (length t.before) t.after)) (start (length t.before) first) fits.serial) in
    let once = subst InSessionOrder all fits.once in
    let each =
    subst (λ (ps : List Placed). AllByRecursion (IsOfSomeJob ps) t.after) jobs
    (subst (λ (bs : List Block). AllByRecursion (IsOfSomeJob t.jobs) bs) all fits.of_jobs) in
    added_up seed sessions transactions t.mask t.after fits.undamaged legal once each many
    ∙ ap (λ n. let r : Totals = record { blocks = n; documents = sessions * transactions; amounts = made_total seed sessions transactions } in r) many
