-- What holds of a machine whatever events come: its blocks are a history, and each open transaction could become one
-- more block.
use Rattle.std.proofs.Common.{◌≡◌, ◌∙◌, ◌≤◌, ◌<◌, ℕ, ◌+◌, ◌-◌, ◌^◌, Bool, true, false, List, [], ◌∷◌, ◌++◌, length, take, refl, sym, ap, subst, append_assoc, append-nil, arith, Option, Some, None, if◌then◌else◌}
use Rattle.std.specs.Prelude.{IsTrue, nat_lt}
use Rattle.std.specs.List.{AllByRecursion}
use Rattle.std.proofs.lemmas.Bool.{ltb-true}
use Rattle.std.proofs.lemmas.List.{length-take-le}
use Rattle.ion_values.specs.Time.{is_time}
use Rattle.ql_types.specs.declared.Place.{Place}
use Rattle.ledger_model.specs.declared.block.Block.{Block}
use Rattle.ledger_model.specs.declared.script.Request.{Request}
use Rattle.ledger_model.specs.Damages.{Undamaged}
use Rattle.ledger_model.specs.Legal.{LegalFrom, Means}
use Rattle.ledger_model.specs.Making.{IsMadeOf}
use Rattle.ledger_model.specs.Run.{Begun, Progress, Ran, ran, refused, run, step}
use Rattle.ledger_model.specs.State.{empty, state, state_from}
use Rattle.ledger_model.specs.Whole.{place_fits}
use Rattle.laws_footprint.specs.RunIsOwn.{IsJournalOf}
use Rattle.laws_footprint.proofs.Journals.{undamaged_follow}
use Rattle.laws_footprint.proofs.Settling.{run_is_kept}
use Rattle.laws_validity.specs.Before.{CanFollow, HasStrand, IsUnused}
use Rattle.laws_validity.specs.Makes.{IsWithinAll}
use Rattle.laws_validity.proofs.Lists.{all_like}
use Rattle.laws_validity.proofs.Further.{few_made, still_unused, strand_goes_on}
use Rattle.laws_validity.proofs.Undamaged.{made_is_undamaged}
use Rattle.laws_machine.specs.History.{block_in}
use Rattle.laws_machine.specs.Machine.{Commit, Ending, Event, Machine, Step, Transaction, abort, aborts, asked_more, base, begin, begun_as, behind, closes, commit, commits, conflicts, differs, draws, ended, ending, execute, executes, executes_on, fails, full, greatest, happens, if_open, named, opened, own_block, seals, spent, wants, without}
use Rattle.laws_machine.specs.Ranges.{AllFit, DidWithin, Fits, IfOpenWithin, IsOpening}
use Rattle.laws_machine.proofs.Endings.{Comes, comes}
use Rattle.laws_machine.proofs.Fronts.{front_strand, front_undamaged, front_unused, greatest_push, past_greatest, stands_in_none, strand_framed, transaction_of}
use Rattle.laws_machine.proofs.Lists.{all_replaced, all_without, found}
use Rattle.laws_machine.proofs.Means.{block_means, legal_push, state_append}
use Rattle.laws_machine.proofs.OnBase.{AllOnBase, OnBase, on_base_kept}

-- its number was drawn, and no block has it
pub record Numbered (mask : ℕ) (blocks : List Block) (last : ℕ) (t : Transaction) : Type 0 where
  pub first : 1 ≤ t.number
  pub drawn : t.number ≤ last
  pub counted : t.number < 2 ^ 64
  pub unused : IsUnused mask t.number blocks
  pub placed : IsTrue (place_fits t.place)

abbrev pub AllNumbered : Machine → Type 0
AllNumbered m = AllByRecursion (Numbered m.mask m.blocks m.last) m.underway

-- the blocks go on from those at the opening
pub record Goes (mask : ℕ) (before blocks : List Block) (last : ℕ) : Type 0 where
  pub new : List Block
  pub on : blocks ≡ before ++ new
  pub legal : LegalFrom mask (state before) new
  pub undamaged : Undamaged blocks
  pub strand : HasStrand mask blocks
  pub drawn : greatest mask blocks ≤ last

pub record Good (before : List Block) (m : Machine) : Type 0 where
  pub mask_fits : m.mask < 2 ^ 128
  pub goes : Goes m.mask before m.blocks m.last
  pub numbered : AllNumbered m

-- ---- a transaction that comes to its store

module _ (before : List Block) (m : Machine) (g : Good before m) (t : Transaction)
    (number : Numbered m.mask m.blocks m.last t)
    (at : OnBase m.mask m.blocks t) where
  abbrev b : Begun
  b = begun_as m t

  pub can_follow : length m.blocks < 2 ^ 32 - 1 → CanFollow b m.blocks
  can_follow room = record {
    undamaged = g.goes.undamaged;
    strand = g.goes.strand;
    room = room;
    unused = number.unused;
    first = number.first;
    counted = number.counted;
  }

  journal : IsJournalOf b m.blocks
  journal =
      let both = undamaged_follow m.mask m.blocks g.goes.undamaged (strand_framed m.mask m.blocks g.goes.strand) in
      record { follow = both.0; number = stands_in_none m.mask t.number m.blocks number.unused; fit = both.1 }

  -- nor would it have been otherwise at its begin
  base_follows : length m.blocks < 2 ^ 32 - 1 → CanFollow b (take t.since m.blocks)
  base_follows room = record {
    undamaged = front_undamaged t.since m.blocks g.goes.undamaged;
    strand = front_strand m.mask t.since m.blocks g.goes.strand;
    room = let l = length-take-le t.since m.blocks at.since_le in let s = at.since_le in omega (arith, l, s, room);
    unused = front_unused m.mask t.number t.since m.blocks number.unused;
    first = number.first;
    counted = number.counted;
  }

  -- it has made few things
  few : (c : Commit) (block : Block) (k : Comes m c t block) → k.progress.made < 2 ^ 24
  few c block k =
      let most = few_made b (take t.since m.blocks) t.asked k.progress g.mask_fits (base_follows k.room)
      (at.runs ∙ k.done) in
      omega (arith, most)

  -- its statements come to the same behind all blocks
  runs_behind : (c : Commit) (block : Block) (k : Comes m c t block) → run b (state m.blocks) t.asked ≡ ran k.progress
  runs_behind c block k =
      run_is_kept b m.blocks t.since t.asked k.progress (at.runs ∙ k.done)
      (record { mask = g.mask_fits; number = number.counted; made = few c block k }) journal k.free

  -- so the block is that of its statements behind all blocks
  pub made_of : (c : Commit) (block : Block) (k : Comes m c t block)
      → IsMadeOf b m.blocks t.place c.time t.asked block
  made_of c block k = record { progress = k.progress; runs = runs_behind c block k; block_is = k.block_is }

  -- and a history goes on with it
  goes_push : (c : Commit) (block : Block) (k : Comes m c t block) → IsTrue (is_time c.time) → IsWithinAll k.progress
      → Goes m.mask before (m.blocks ++ own_block m t c k.progress ∷ []) m.last
  goes_push c block k timed within =
      let runs = runs_behind c block k in
      let own : Block = own_block m t c k.progress in
      let new : List Block = g.goes.new in
      let means : Means m.mask (state m.blocks) own = block_means b m.blocks t.place c.time k.progress t.asked runs in
      let states : state m.blocks ≡ state_from (state before) new = ap state g.goes.on
      ∙ state_append empty before new in
      record {
        new = new ++ own ∷ [];
        on = ap (λ bs. bs ++ own ∷ []) g.goes.on ∙ append_assoc before new (own ∷ []);
        legal = legal_push m.mask (state before) new own g.goes.legal (subst (λ s. Means m.mask s own) states means);
        undamaged = made_is_undamaged b m.blocks t.place c.time t.asked k.progress (can_follow k.room)
            (record { mask_fits = g.mask_fits; timed = timed; placed = number.placed }) within runs;
        strand = strand_goes_on b m.blocks t.place c.time k.progress g.goes.strand;
        drawn = greatest_push m.mask m.last m.blocks own g.goes.drawn
            (subst (λ i. i ≤ m.last) (sym (transaction_of m.mask t.number)) number.drawn);
      }

  -- the others have other numbers
  others_push : (c : Commit) (p : Progress) (u : Transaction) → (u.number ≡ t.number → ⊥)
      → Numbered m.mask m.blocks m.last u
      → Numbered m.mask (m.blocks ++ own_block m t c p ∷ []) m.last u
  others_push c p u other n = record {
    first = n.first;
    drawn = n.drawn;
    counted = n.counted;
    unused = still_unused b m.blocks t.place c.time p u.number (λ e. other (sym e)) n.unused;
    placed = n.placed;
  }

  sealed_good : (c : Commit) (block : Block) (k : Comes m c t block) → IsTrue (is_time c.time) → IsWithinAll k.progress
      → Good before (closes m t.number (seals block)).now
  sealed_good c block k timed within =
      subst (λ x. Good before (closes m t.number (seals x)).now) (sym k.block_is) (record {
        mask_fits = g.mask_fits;
        goes = goes_push c block k timed within;
        numbered = all_without (Numbered m.mask m.blocks m.last)
            (Numbered m.mask (m.blocks ++ own_block m t c k.progress ∷ []) m.last) t.number
            (others_push c k.progress) m.underway g.numbered;
      })

-- ---- each event

module _ (before : List Block) (m : Machine) (g : Good before m) (on : AllOnBase m) where
  dropped_good : (n : ℕ) → Good before (record m { underway = without n m.underway })
  dropped_good n = record {
    mask_fits = g.mask_fits;
    goes = g.goes;
    numbered = all_without (Numbered m.mask m.blocks m.last) (Numbered m.mask m.blocks m.last) n
        (λ t other k. k) m.underway
        g.numbered;
  }

  later : (t : Transaction) → Numbered m.mask m.blocks m.last t → Numbered m.mask m.blocks (m.last + 1) t
  later t n = record {
    first = n.first;
    drawn = let d = n.drawn in omega (arith, d);
    counted = n.counted;
    unused = n.unused;
    placed = n.placed;
  }

  drawn_good : (place : Place) → IsTrue (place_fits place) → m.last < 2 ^ 64 - 1 → Good before (draws m place).now
  drawn_good place placed low =
      let d = g.goes.drawn in
      record {
        mask_fits = g.mask_fits;
        goes = record {
          new = g.goes.new;
          on = g.goes.on;
          legal = g.goes.legal;
          undamaged = g.goes.undamaged;
          strand = g.goes.strand;
          drawn = omega (arith, d);
        };
        numbered = (
          record {
            first = omega arith;
            drawn = omega arith;
            counted = omega (arith, low);
            unused = past_greatest m.mask (m.last + 1) m.blocks (omega (arith, d));
            placed = placed;
          },
          all_like (Numbered m.mask m.blocks m.last)
              (Numbered m.mask m.blocks (m.last + 1)) later m.underway g.numbered,
        );
      }

  begun_good : (place : Place) (b : Bool) → nat_lt m.last (2 ^ 64 - 1) ≡ b → IsTrue (place_fits place)
      → Good before (if b then draws m place else record { answer = spent m.last; now = m }).now
  begun_good place true e placed = drawn_good place placed (ltb-true m.last (2 ^ 64 - 1) e)
  begun_good place false e placed = g

  executed_good : (r : Request) (t : Transaction) (x : Ran) → Numbered m.mask m.blocks m.last t
      → Good before (executes_on m r t x).now
  executed_good r t (ran p) n = record {
    mask_fits = g.mask_fits;
    goes = g.goes;
    numbered = all_replaced (Numbered m.mask m.blocks m.last)
        (asked_more t r (step (begun_as m t) (base m t) p r)) m.underway
        (record { first = n.first; drawn = n.drawn; counted = n.counted; unused = n.unused; placed = n.placed })
        g.numbered;
  }
  executed_good r t (refused statement cause) n = g

  closed_good : (c : Commit) (t : Transaction) (e : Ending) → ending m c t t.done ≡ e → IsTrue (is_time c.time)
      → DidWithin t.done → Numbered m.mask m.blocks m.last t → OnBase m.mask m.blocks t
      → Good before (closes m t.number e).now
  closed_good c t ended is timed within n o = dropped_good t.number
  closed_good c t (differs mine given) is timed within n o = dropped_good t.number
  closed_good c t (conflicts since found) is timed within n o = dropped_good t.number
  closed_good c t (full blocks) is timed within n o = dropped_good t.number
  closed_good c t (wants block) is timed within n o = dropped_good t.number
  closed_good c t (fails count block) is timed within n o = dropped_good t.number
  closed_good c t (seals block) is timed within n o =
      let k = comes m c t block (ap block_in is) in
      sealed_good before m g t n o c block k timed (subst DidWithin k.done within)

  open_good : (n : ℕ) (f : Transaction → Step) (o : Option Transaction) → named n m.underway ≡ o
      → ((t : Transaction) → o ≡ Some t → Numbered m.mask m.blocks m.last t → OnBase m.mask m.blocks t
      → Good before (f t).now)
      → Good before (if_open m o f).now
  open_good n f None e h = g
  open_good n f (Some t) e h =
      h t refl (found (Numbered m.mask m.blocks m.last) n m.underway t g.numbered e).0
      (found (OnBase m.mask m.blocks) n m.underway t on e).0

  pub good_kept : (e : Event) → Fits m e → Good before (happens m e).now
  good_kept (begin place) fit = begun_good place (nat_lt m.last (2 ^ 64 - 1)) refl fit
  good_kept (execute n r) fit =
      open_good n (executes m r) (named n m.underway) refl (λ t e k o. executed_good r t t.done k)
  good_kept (commit n c) fit =
      open_good n (commits m c) (named n m.underway) refl
      (λ t e k o. closed_good c t (ending m c t t.done) refl fit.0 (subst IfOpenWithin e fit.1) k o)
  good_kept (abort n) fit =
      open_good n (aborts m) (named n m.underway) refl (λ t e k o. dropped_good t.number)

-- ---- all events

pub all_good : (before : List Block) (es : List Event) (m : Machine) → Good before m → AllOnBase m → AllFit es m
    → Good before (behind es m)
all_good before [] m g on fit = g
all_good before (e ∷ es) m g on fit =
    all_good before es (happens m e).now (good_kept before m g on e fit.0) (on_base_kept m e on) fit.1

pub opened_good : (mask : ℕ) (before : List Block) → IsOpening mask before → Good before (opened mask before)
opened_good mask before o = record {
  mask_fits = o.mask_fits;
  goes = record {
    new = [];
    on = sym (append-nil before);
    legal = tt;
    undamaged = o.undamaged;
    strand = o.strand;
    drawn = omega arith;
  };
  numbered = tt;
}
