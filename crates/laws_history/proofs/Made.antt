-- The job of each block that a run made, whose outcome tells the block.
use Rattle.std.proofs.Common.{◌≡◌, ℕ, ◌+◌, ◌-◌, ◌<◌, ◌≤◌, false, List, [], length, slice_get, Some, Contains, sym, refl, ap, ◌∙◌, subst, arith}
use Rattle.ql_types.specs.declared.TxId.{TxId}
use Rattle.ledger_model.specs.declared.block.Block.{Block}
use Rattle.ledger_model.specs.declared.outcome.Outcome.{Outcome}
use Rattle.ledger_model.specs.declared.outcome.Outcome.TheVariants.{Committed}
use Rattle.ledger_model.specs.declared.outcome.PlacedOutcome.{PlacedOutcome}
use Rattle.ledger_model.specs.Script.{Placed}
use Rattle.turn_lock.specs.History.{Stands}
use Rattle.laws_history.specs.Records.{RunRecord, IsCommitted, IsOfSomeJob, made}
use Rattle.laws_history.specs.Claims.{BlocksAreTold, Fits, Holds}
use Rattle.laws_history.specs.Runs.{Served, told_of}
use Rattle.laws_history.proofs.Fitting.{contains_stands}
use Rattle.laws_history.proofs.Lists.{stands_all, stands_contains, stands_map}
use Rattle.laws_history.proofs.Owners.{stands_mapped}
use Rattle.laws_history.proofs.Pairs.{AreServed, all_served, get_behind, get_some, got, no_block, once_at}
use Rattle.laws_history.proofs.Makes.{is_committed}

module _ (t : RunRecord) (h : Fits t) where
  pub served : AreServed t [] t.jobs t.outcomes
  served = all_served t [] t.jobs t.outcomes h.outcomes

  pub holds_of : (s : Served) → Stands s (served).all → Holds t s.placed s.outcome
  holds_of s a = stands_all (λ (x : Served). Holds t x.placed x.outcome) s (served).all (served).hold a

  -- a block that was made, with its job
  pub record IsMade (m : ℕ) : Type 0 where
    pub block : Block
    pub new : length t.before ≤ m
    pub stands : slice_get t.after m ≡ Some block
    pub there : slice_get (made t) (m - length t.before) ≡ Some block
    pub by : Served
    pub among : Stands by (served).all
    pub place : block.info.place ≡ by.placed.place

  made_there : (m : ℕ) (b : Block) → length t.before ≤ m → slice_get t.after m ≡ Some b
      → slice_get (made t) (m - length t.before) ≡ Some b
  made_there m b low e =
      let same : length t.before + (m - length t.before) ≡ m = omega (arith, low) in
      get_behind (length t.before) t.after (m - length t.before) ∙ ap (slice_get t.after) same ∙ e

  job_of : (m : ℕ) (b : Block) → length t.before ≤ m → slice_get t.after m ≡ Some b → IsMade m
  job_of m b low e =
      let there : slice_get (made t) (m - length t.before) ≡ Some b = made_there m b low e in
      let job : IsOfSomeJob t.jobs b =
      got (IsOfSomeJob t.jobs) (made t) (m - length t.before) b h.blocks.of_jobs there in
      let one = stands_mapped (λ (x : Served). x.placed) job.placed (served).all
      (subst (λ (ps : List Placed). Stands job.placed ps) (sym (served).jobs)
      (contains_stands t.jobs job.placed job.among)) in
      record {
        block = b;
        new = low;
        stands = e;
        there = there;
        by = one.0;
        among = one.1;
        place = job.of_job.place ∙ ap (λ (x : Placed). x.place) (sym one.2);
      }

  pub made_at : (m : ℕ) → length t.before ≤ m → m < length t.after → IsMade m
  made_at m low high = let found = get_some t.after m high in job_of m found.0 low found.1

  -- the job's outcome tells it
  same_number : (m : ℕ) (b : IsMade m) (x : TxId) (k : ℕ) → IsCommitted t b.by.placed x k → k ≡ m
  same_number m b x k c =
      let one = once_at (made t) (k - length t.before) (m - length t.before) c.sealed b.block h.blocks.once
      (made_there k c.sealed c.is_new c.there) b.there (c.place ∙ sym b.place) in
      omega (arith, one, c.is_new, b.new)

  same_id : (m : ℕ) (b : IsMade m) (x : TxId) (k : ℕ) → k ≡ m → IsCommitted t b.by.placed x k → x ≡ b.block.header.tx
  same_id m b x k e c =
      let both : Some c.sealed ≡ Some b.block = sym c.there ∙ ap (slice_get t.after) e ∙ b.stands in
      let one : c.sealed ≡ b.block = cc both in
      sym c.id ∙ ap (λ (y : Block). y.header.tx) one

  not_made : (m : ℕ) (b : IsMade m) (x : Outcome) → is_committed x ≡ false → Holds t b.by.placed x → ⊥
  not_made m b x e k =
      got (λ (c : Block). c.info.place ≡ b.by.placed.place → ⊥) (made t) (m - length t.before) b.block
      (no_block t b.by.placed x k e) b.there b.place

  told_by : (m : ℕ) (b : IsMade m) (x : Outcome) → b.by.outcome ≡ x → Holds t b.by.placed x
      → b.by.outcome ≡ Committed b.block.header.tx m
  told_by m b (Committed tx k) e c =
      let same : k ≡ m = same_number m b tx k c in
      let id : tx ≡ b.block.header.tx = same_id m b tx k same c in
      e ∙ (λ i. Committed (id i) (same i))
  told_by m b other e c = absurd (not_made m b other refl c)

  pub told_made : (m : ℕ) (b : IsMade m) → b.by.outcome ≡ Committed b.block.header.tx m
  told_made m b = told_by m b b.by.outcome refl (holds_of b.by b.among)

  block_told : (m : ℕ) (b : Block) → length t.before ≤ m → slice_get t.after m ≡ Some b
      → Contains t.outcomes (record { place = b.info.place; outcome = Committed b.header.tx m })
  unfolding job_of
  block_told m b low e =
      let k : IsMade m = job_of m b low e in
      let there : Contains t.outcomes (told_of k.by) =
      stands_contains (told_of k.by) t.outcomes
      (subst (λ (os : List PlacedOutcome). Stands (told_of k.by) os) (served).outcomes
      (stands_map told_of k.by (served).all k.among)) in
      let same : told_of k.by ≡ record { place = b.info.place; outcome = Committed b.header.tx m } =
      (λ i. record { place = sym k.place i; outcome = told_made m k i }) in
      subst (Contains t.outcomes) same there

pub blocks_are_told : BlocksAreTold
blocks_are_told t m b h low e = block_told t h m b low e
