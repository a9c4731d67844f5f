-- The outcomes of a session, taken from the end of its desk's list.
use Rattle.std.proofs.Common.{◌≡◌, ◌∙◌, ℕ, zero, suc, ◌+◌, ◌%◌, ◌<◌, ◌==◌, Bool, cond, List, [], ◌∷◌, ◌++◌, append-nil, append_assoc, map, length, length-append, take, get_or, ap, arith, refl, sym}
use Rattle.std.proofs.lemmas.List.Elements.{filter-append}
use Rattle.ql_types.specs.declared.Place.{Place}
use Rattle.ledger_model.specs.declared.outcome.PlacedOutcome.{PlacedOutcome}
use Rattle.ledger_model.specs.declared.script.Job.{Job}
use Rattle.ledger_model.specs.Script.{Placed, all_placed_from, placed_from}
use Rattle.ledger_shared.specs.Desks.{dealt_outcomes}
use Rattle.ledger_shared.proofs.Serving.{is_other, is_rest}

abbrev pub places_of : List PlacedOutcome → List Place
places_of xs = map (λ (x : PlacedOutcome). x.place) xs

abbrev pub placed_at : List Placed → List Place
placed_at ps = map (λ (p : Placed). p.place) ps

-- ---- lists that end in as much

module _ {A : Type 0} where
  -- a list that is told as two parts, the second ones being of one length
  pub same_ends : (xs ys zs ws : List A) → xs ++ ys ≡ zs ++ ws → length ys ≡ length ws → (xs ≡ zs) × (ys ≡ ws)
  same_ends [] ys [] ws e l = (refl, e)
  same_ends [] ys (z ∷ zs) ws e l = absurd (omega (arith, ap length e, l, length-append zs ws))
  same_ends (x ∷ xs) ys [] ws e l = absurd (omega (arith, ap length e, l, length-append xs ys))
  same_ends (x ∷ xs) ys (z ∷ zs) ws e l =
      let own : x ≡ z = cc e in let rest : xs ++ ys ≡ zs ++ ws = cc e in
      let r = same_ends xs ys zs ws rest l in ((λ i. own i ∷ r.0 i), r.1)

-- ---- one session's outcomes at the end

-- the outcomes, of which these are the places, in two parts
pub record Cut (front back : List Place) (all : List PlacedOutcome) : Type 0 where
  pub first : List PlacedOutcome
  pub last : List PlacedOutcome
  pub is : all ≡ first ++ last
  pub of_front : places_of first ≡ front
  pub of_back : places_of last ≡ back

pub cut : (front back : List Place) (all : List PlacedOutcome) → places_of all ≡ front ++ back → Cut front back all
cut [] back all e = record { first = []; last = all; is = refl; of_front = refl; of_back = e }
cut (p ∷ front) back [] e = absurd (cc e)
cut (p ∷ front) back (x ∷ all) e =
    let own : x.place ≡ p = cc e in let rest : places_of all ≡ front ++ back = cc e in
    let c = cut front back all rest in
    record { first = x ∷ c.first; last = c.last; is = (λ i. x ∷ c.is i); of_front = (λ i. own i ∷ c.of_front i); of_back = c.of_back }

-- the outcomes of one session
abbrev pub AreOf : ℕ → List PlacedOutcome → Type 0
AreOf session [] = Unit {0}
AreOf session (x ∷ xs) = (x.place.session ≡ session) × AreOf session xs

pub of_session : (session n : ℕ) (jobs : List Job) (xs : List PlacedOutcome) → places_of xs ≡ placed_at (placed_from session n jobs) → AreOf session xs
of_session session n [] [] e = tt
of_session session n [] (x ∷ xs) e = absurd (cc e)
of_session session n (job ∷ jobs) [] e = absurd (cc e)
of_session session n (job ∷ jobs) (x ∷ xs) e =
    let own : x.place ≡ record { session = session; transaction = n } = cc e in
    let rest : places_of xs ≡ placed_at (placed_from session (n + 1) jobs) = cc e in
    (ap (λ (p : Place). p.session) own, of_session session (n + 1) jobs xs rest)

pub as_many : (session n : ℕ) (jobs : List Job) (xs : List PlacedOutcome) → places_of xs ≡ placed_at (placed_from session n jobs) → length xs ≡ length jobs
as_many session n [] [] e = refl
as_many session n [] (x ∷ xs) e = absurd (cc e)
as_many session n (job ∷ jobs) [] e = absurd (cc e)
as_many session n (job ∷ jobs) (x ∷ xs) e =
    let rest : places_of xs ≡ placed_at (placed_from session (n + 1) jobs) = cc e in ap (λ k. suc k) (as_many session (n + 1) jobs xs rest)

module _ (workers rest session : ℕ) where
  pub dealt_here : (xs : List PlacedOutcome) → session % workers ≡ rest → AreOf session xs → dealt_outcomes workers rest xs ≡ xs
  dealt_here [] e h = refl
  dealt_here (x ∷ xs) e h =
      let left = dealt_outcomes workers rest xs in
      ap (λ (b : Bool). cond b (x ∷ left) left) (is_rest (x.place.session % workers) rest (ap (λ n. n % workers) h.0 ∙ e))
      ∙ ap (λ (l : List PlacedOutcome). x ∷ l) (dealt_here xs e h.1)

  pub dealt_there : (xs : List PlacedOutcome) → (session % workers ≡ rest → ⊥) → AreOf session xs → dealt_outcomes workers rest xs ≡ []
  dealt_there [] e h = refl
  dealt_there (x ∷ xs) e h =
      let left = dealt_outcomes workers rest xs in
      ap (λ (b : Bool). cond b (x ∷ left) left) (is_other (x.place.session % workers) rest (λ s. e (sym (ap (λ n. n % workers) h.0) ∙ s)))
      ∙ dealt_there xs e h.1

pub dealt_both : (workers rest : ℕ) (xs ys : List PlacedOutcome)
    → dealt_outcomes workers rest (xs ++ ys) ≡ dealt_outcomes workers rest xs ++ dealt_outcomes workers rest ys
dealt_both workers rest xs ys = filter-append (λ (x : PlacedOutcome). x.place.session % workers == rest) xs ys

-- ---- the sessions in front

pub front_left : (n left : ℕ) (script : List (List Job)) (jobs : List Job) → left < length script → jobs ≡ get_or script left jobs
    → all_placed_from n (take (suc left) script) ≡ all_placed_from n (take left script) ++ placed_from (n + left) 1 jobs
front_left n left [] jobs within is = absurd (omega (arith, within))
front_left n zero (x ∷ script) jobs within is =
    let same : x ≡ jobs = sym is in
    append-nil (placed_from n 1 x) ∙ ap (λ (js : List Job). placed_from n 1 js) same ∙ ap (λ k. placed_from k 1 jobs) (omega arith)
front_left n (suc left) (x ∷ script) jobs within is =
    ap (λ l. placed_from n 1 x ++ l) (front_left (n + 1) left script jobs (omega (arith, within)) is)
    ∙ ap (λ k. placed_from n 1 x ++ (all_placed_from (n + 1) (take left script) ++ placed_from k 1 jobs)) (omega arith)
    ∙ sym (append_assoc (placed_from n 1 x) (all_placed_from (n + 1) (take left script)) (placed_from (n + suc left) 1 jobs))
