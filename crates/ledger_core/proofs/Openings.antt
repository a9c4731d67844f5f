-- An open transaction stays open, and its block stands soundly behind all blocks where none of the later ones touched what it read.
use Rattle.std.proofs.Common.{◌≡◌, ℕ, ◌+◌, ◌^◌, ◌<◌, List, [], ◌∷◌, ◌++◌, length, length-append, take, true, inl, inr, None, Result, Ok, Err, refl, sym, ap, subst, ◌∙◌, arith}
use Rattle.std.specs.Prelude.{IsTrue}
use Rattle.std.proofs.lemmas.List.{length-take-le, take-append-le}
use Rattle.ion_values.specs.declared.time.TimeParts.{TimeParts}
use Rattle.ion_values.specs.Time.{is_time}
use Rattle.ql_types.specs.Ids.{raw_id, transaction_in}
use Rattle.ql_types.specs.declared.Place.{Place}
use Rattle.pql_model.specs.declared.Answer.{Answer}
use Rattle.ledger_model.specs.declared.block.Block.{Block}
use Rattle.ledger_model.specs.declared.outcome.Refusal.{Refusal}
use Rattle.ledger_model.specs.declared.script.Request.{Request}
use Rattle.ledger_model.specs.Damages.{Undamaged}
use Rattle.ledger_model.specs.HashesAsked.{AreAsked}
use Rattle.ledger_model.specs.Making.{IsMadeOf}
use Rattle.ledger_model.specs.Run.{Begun, Progress, ran, run, run_from, start, step, then_run}
use Rattle.ledger_model.specs.State.{State, state}
use Rattle.ledger_model.specs.Whole.{place_fits}
use Rattle.laws_footprint.specs.RunIsOwn.{IsJournalOf}
use Rattle.laws_footprint.proofs.Journals.{undamaged_follow}
use Rattle.laws_footprint.proofs.Settling.{run_is_kept}
use Rattle.laws_validity.specs.Before.{HasStrand, IsUnused, CanFollow}
use Rattle.laws_validity.specs.Makes.{CanMake, IsWithinAll}
use Rattle.laws_validity.proofs.Asking.{asked_grows, made_of_tells}
use Rattle.laws_validity.proofs.Further.{few_made, still_unused}
use Rattle.laws_validity.proofs.Undamaged.{made_is_undamaged}
use Rattle.laws_machine.proofs.Fronts.{front_strand, front_undamaged, front_unused, stands_in_none, strand_framed}
use Rattle.laws_history.specs.Standings.{Standing, IsStanding}
use Rattle.laws_history.specs.Records.{greatest, mask_of}
use Rattle.laws_history.proofs.Histories.{strand_more}
use Rattle.laws_history.proofs.Numbers.{greatest-append, transaction_of_id}
use Rattle.txn_core.specs.Opened.{Executed, Opened, Steps}
use Rattle.ledger_core.specs.NextBlock.{HasRoom, next_block}
use Rattle.ledger_core.specs.Beginning.{begun_on, drawn}
use Rattle.ledger_core.specs.Committing.{IsOpenOn, conflict_of}
use Rattle.ledger_core.specs.Tails.{joined}

strand_of_mask : (mask : ℕ) (bs : List Block) → mask_of mask bs ≡ mask → HasStrand mask bs
strand_of_mask mask [] h = tt
strand_of_mask mask (b ∷ bs) h = h

-- ---- the block

module _ (s : Standing) (t : Opened) (time : TimeParts) (is : IsStanding s) (o : IsOpenOn s t) (mask : s.mask < 2 ^ 128) (timed : IsTrue (is_time time))
    (placed : IsTrue (place_fits t.place)) (ranges : IsWithinAll t.done) (free : conflict_of s t ≡ None) (room : HasRoom s) where
  mask_fits : t.begun.mask < 2 ^ 128
  mask_fits = subst (λ (m : ℕ). m < 2 ^ 128) (sym o.mask) mask

  strand : HasStrand t.begun.mask s.blocks
  strand = subst (λ (m : ℕ). HasStrand m s.blocks) (sym o.mask) (strand_of_mask s.mask s.blocks is.strand)

  unused : IsUnused t.begun.mask t.begun.number s.blocks
  unused = subst (λ (m : ℕ). IsUnused m t.begun.number s.blocks) (sym o.mask) o.unused

  counted : t.begun.number < 2 ^ 64
  counted = let d = o.drawn in let c = is.counted in omega (arith, d, c)

  follows : CanFollow t.begun s.blocks
  follows = record {
    undamaged = is.undamaged;
    strand = strand;
    room = room;
    unused = unused;
    first = o.first;
    counted = counted;
  }

  base_follows : CanFollow t.begun (take t.since s.blocks)
  base_follows = record {
    undamaged = front_undamaged t.since s.blocks is.undamaged;
    strand = front_strand t.begun.mask t.since s.blocks strand;
    room = let l = length-take-le t.since s.blocks o.stood in let h = o.stood in omega (arith, l, h, room);
    unused = front_unused t.begun.mask t.begun.number t.since s.blocks unused;
    first = o.first;
    counted = counted;
  }

  journal : IsJournalOf t.begun s.blocks
  journal =
      let both = undamaged_follow t.begun.mask s.blocks is.undamaged (strand_framed t.begun.mask s.blocks strand) in
      record { follow = both.0; number = stands_in_none t.begun.mask t.begun.number s.blocks unused; fit = both.1 }

  -- the statements come to the same behind all blocks
  kept_behind : (asked : List Request) → run t.begun (state (take t.since s.blocks)) asked ≡ ran t.done → run t.begun (state s.blocks) asked ≡ ran t.done
  kept_behind asked runs =
      let most = few_made t.begun (take t.since s.blocks) asked t.done mask_fits base_follows runs in
      run_is_kept t.begun s.blocks t.since asked t.done runs
      (record { mask = mask_fits; number = counted; made = omega (arith, most) }) journal free

  runs_behind : (asked : List Request) → run t.begun t.base asked ≡ ran t.done → run t.begun (state s.blocks) asked ≡ ran t.done
  runs_behind asked runs = kept_behind asked (subst (λ (b : State). run t.begun b asked ≡ ran t.done) o.base runs)

  -- so the block is that of them there
  pub open_made : (asked : List Request) → run t.begun t.base asked ≡ ran t.done → IsMadeOf t.begun s.blocks t.place time asked (next_block t s.blocks time)
  open_made asked runs = record { progress = t.done; runs = runs_behind asked runs; block_is = refl }

  can : CanMake t.begun.mask time t.place
  can = record { mask_fits = mask_fits; timed = timed; placed = placed }

  pub open_undamaged : Undamaged (s.blocks ++ next_block t s.blocks time ∷ [])
  open_undamaged =
      made_is_undamaged t.begun s.blocks t.place time o.asked t.done follows can ranges (runs_behind o.asked o.runs)

  open_asked : AreAsked (s.blocks ++ next_block t s.blocks time ∷ [])
  open_asked =
      asked_grows s.blocks (next_block t s.blocks time) is.asked
      (made_of_tells t.begun s.blocks t.place time o.asked (next_block t s.blocks time) (open_made o.asked o.runs))

  number : transaction_in s.mask (next_block t s.blocks time).header.tx.raw ≡ t.begun.number
  number =
      ap (λ (m : ℕ). transaction_in s.mask (raw_id m t.begun.number 0)) o.mask ∙ transaction_of_id s.mask t.begun.number

  pub open_stands : IsStanding (joined s (next_block t s.blocks time))
  open_stands =
      let most = greatest-append s.mask s.blocks (next_block t s.blocks time ∷ []) in
      record {
        undamaged = open_undamaged;
        asked = open_asked;
        strand = strand_more s.mask s.blocks (next_block t s.blocks time) is.strand o.mask;
        drawn = omega (arith, is.drawn, o.drawn, number, most);
        counted = is.counted;
      }

-- ---- a transaction that was begun

past_greatest : (mask number : ℕ) (bs : List Block) → greatest mask bs < number → IsUnused mask number bs
past_greatest mask number [] low = tt
past_greatest mask number (b ∷ bs) low = (
  λ e. let own : transaction_in mask b.header.tx.raw ≡ number = e in omega (arith, own, low),
  past_greatest mask number bs (omega (arith, low)),
)

all_taken : {A : Type 0} (xs : List A) → take (length xs) xs ≡ xs
all_taken [] = refl
all_taken (x ∷ xs) = ap (λ ys. x ∷ ys) (all_taken xs)

pub begun_open : (s : Standing) (place : Place) → IsStanding s → IsOpenOn (drawn s) (begun_on s place)
begun_open s place is = record {
  mask = refl;
  first = omega arith;
  drawn = omega arith;
  unused = past_greatest s.mask (s.last + 1) s.blocks (let g = is.drawn in omega (arith, g));
  stood = omega arith;
  base = ap state (sym (all_taken s.blocks));
  asked = [];
  runs = refl;
}

-- another one stays open when a number is drawn
pub drawn_open : (s : Standing) (t : Opened) → IsOpenOn s t → IsOpenOn (drawn s) t
drawn_open s t o = record {
  mask = o.mask;
  first = o.first;
  drawn = let d = o.drawn in omega (arith, d);
  unused = o.unused;
  stood = o.stood;
  base = o.base;
  asked = o.asked;
  runs = o.runs;
}

-- and when the block of one of another number stands behind the others
pub joined_open : (s : Standing) (t other : Opened) (time : TimeParts) → t.begun.mask ≡ s.mask → (other.begun.number ≡ t.begun.number → ⊥) → IsOpenOn s other
    → IsOpenOn (joined s (next_block t s.blocks time)) other
joined_open s t other time masks differ o = record {
  mask = o.mask;
  first = o.first;
  drawn = o.drawn;
  unused = subst (λ (m : ℕ). IsUnused m other.begun.number (s.blocks ++ next_block t s.blocks time ∷ [])) masks
      (still_unused t.begun s.blocks t.place time t.done other.begun.number (λ e. differ (sym e))
      (subst (λ (m : ℕ). IsUnused m other.begun.number s.blocks) (sym masks) o.unused));
  stood = let l = length-append s.blocks (next_block t s.blocks time ∷ []) in let h = o.stood in omega (arith, l, h);
  base = o.base ∙ ap state (sym (take-append-le other.since s.blocks (next_block t s.blocks time ∷ []) o.stood));
  asked = o.asked;
  runs = o.runs;
}

-- ---- one statement more

module _ (b : Begun) (s : State) (r : Request) (q d : Progress) where
  end-then : (j : ℕ) (o : Result Progress Refusal) (xs : List Request)
      → ((y : Progress) → run_from b s (j + 1) y xs ≡ ran q → run_from b s (j + 1) y (xs ++ r ∷ []) ≡ ran d)
      → then_run j o (λ y. run_from b s (j + 1) y xs) ≡ ran q → then_run j o (λ y. run_from b s (j + 1) y (xs ++ r ∷ [])) ≡ ran d
  end-then j (Err cause) xs rest e = let bad : ⊥ = cc in absurd bad
  end-then j (Ok y) xs rest e = rest y e

  run-end : (rs : List Request) (j : ℕ) (p : Progress) → step b s q r ≡ Ok d → run_from b s j p rs ≡ ran q
      → run_from b s j p (rs ++ r ∷ []) ≡ ran d
  run-end [] j p does e =
      let same : p ≡ q = cc in
      ap (λ (x : Progress). then_run j (step b s x r) (λ y. ran y)) same ∙ ap (λ x. then_run j x (λ y. ran y)) does
  run-end (x ∷ xs) j p does e = end-then j (step b s p x) xs (λ y h. run-end xs (j + 1) y does h) e

stepped-open : (s : Standing) (t now : Opened) (r : Request) → Steps t r now → IsOpenOn s t → IsOpenOn s now
stepped-open s t now r steps o =
    subst (λ (x : Opened). IsOpenOn s x) (sym steps.rest)
    (record {
      mask = o.mask;
      first = o.first;
      drawn = o.drawn;
      unused = o.unused;
      stood = o.stood;
      base = o.base;
      asked = o.asked ++ r ∷ [];
      runs = run-end t.begun t.base r t.done now.done o.asked 1 start steps.step o.runs;
    })

same-open : (s : Standing) (t now : Opened) → now ≡ t → IsOpenOn s t → IsOpenOn s now
same-open s t now e o = subst (λ (x : Opened). IsOpenOn s x) (sym e) o

ended-open : (s : Standing) (t : Opened) → IsOpenOn s t → IsOpenOn s (record t { ended = true })
ended-open s t o = record {
  mask = o.mask;
  first = o.first;
  drawn = o.drawn;
  unused = o.unused;
  stood = o.stood;
  base = o.base;
  asked = o.asked;
  runs = o.runs;
}

-- a statement leaves it open for a commit, whatever it is answered
pub executed_open : (s : Standing) (t now : Opened) (r : Request) (result : Result Answer Refusal) → Executed t r result now → IsOpenOn s t → IsOpenOn s now
executed_open s t now r (Ok answer) e o = stepped-open s t now r e.1 o
executed_open s t now r (Err cause) (inl e) o = same-open s t now e.2 o
executed_open s t now r (Err cause) (inr (inl e)) o = same-open s t now e.2 o
executed_open s t now r (Err cause) (inr (inr e)) o =
    same-open s (record t { ended = true }) now e.2 (ended-open s t o)
