-- A commit of the machine ends an attempt, by the checks of a commit in their order.
use Rattle.std.proofs.Common.{◌≡◌, ◌∙◌, ℕ, ◌-◌, ◌^◌, Bool, true, false, List, length, Option, Some, None, refl, sym, ap, subst, inr, arith, if◌then◌else◌}
use Rattle.std.specs.Prelude.{IfSome, nat_lt}
use Rattle.std.specs.Option.{unwrap_or}
use Rattle.std.proofs.lemmas.Bool.{ltb-false}
use Rattle.std.proofs.lemmas.Slice.Eq.{bytes_eq-Decides}
use Rattle.ql_types.specs.Ids.{raw_id}
use Rattle.ql_types.specs.declared.Hash32.{Hash32}
use Rattle.ql_types.specs.declared.Place.{Place}
use Rattle.ql_types.specs.declared.TxId.{TxId}
use Rattle.ledger_model.specs.CommitDigest.{commit_digest}
use Rattle.ledger_model.specs.declared.block.Block.{Block}
use Rattle.ledger_model.specs.declared.outcome.Named.{Named}
use Rattle.ledger_model.specs.declared.outcome.Outcome.TheVariants.{Committed, Conflict, DigestDiffers, JournalFull, OutOfMemory, StoreFault}
use Rattle.ledger_model.specs.declared.script.Job.{Job}
use Rattle.ledger_model.specs.Damages.{Undamaged, same_hash}
use Rattle.ledger_model.specs.Making.{IsMadeOf, block_of}
use Rattle.ledger_model.specs.Run.{ran, run}
use Rattle.ledger_model.specs.State.{state}
use Rattle.laws_footprint.specs.Touches.{conflict}
use Rattle.turn_lock.specs.declared.view.Known.{Known}
use Rattle.turn_lock.specs.History.{with_entry, with_seen}
use Rattle.laws_machine.specs.Entries.{Entry, Opening, failed, sealed, wanted}
use Rattle.laws_machine.specs.History.{block_in}
use Rattle.laws_machine.specs.Machine.{Commit, Ending, Machine, Service, Transaction, conflict_of, differs, ending, ends_by, full, no_memory, opened, own_block, own_digest, receipt_of, seals, served, store_failed, store_wants, unless_conflict}
use Rattle.laws_machine.proofs.Conflicts.{commit_is_made}
use Rattle.laws_machine.proofs.Histories.{history_stays_legal}
use Rattle.laws_machine.proofs.Lists.{found}
use Rattle.laws_machine.proofs.OnBase.{AllOnBase, OnBase, all_on_base}
use Rattle.laws_history.specs.Attempts.{Adds, Begins, Comes, Readies, Sees, SendsOwn, begun_as}
use Rattle.laws_history.specs.Seen.{blocks_in}
use Rattle.laws_history.specs.Steps.{IsCommitting, CommitsEndAttempts, EndsAttempt}
use Rattle.laws_history.proofs.Grown.{few_blocks}

-- ---- digests

hash_is : (a b : Hash32) → same_hash a b ≡ true → a ≡ b
hash_is a b e = let same : a.bytes ≡ b.bytes = (bytes_eq-Decides a.bytes b.bytes).0 e in λ i. record { bytes = same i }

is_hash : (a b : Hash32) → a ≡ b → same_hash a b ≡ true
is_hash a b e = (bytes_eq-Decides a.bytes b.bytes).1 (ap (λ (h : Hash32). h.bytes) e)

-- a digest that is the transaction's own was sent as its own
sent_own : (given : Option Hash32) (own digest : Hash32) → digest ≡ unwrap_or given own → own ≡ digest
    → IfSome given (λ (d : Hash32). d ≡ own)
sent_own None own digest e same = tt
sent_own (Some d) own digest e same = sym e ∙ sym same

-- another one was given by the job
sent_other : (given : Option Hash32) (own digest : Hash32) → digest ≡ unwrap_or given own → (own ≡ digest → ⊥)
    → given ≡ Some digest
sent_other None own digest e other = absurd (other (sym e))
sent_other (Some d) own digest e other = ap Some (sym e)

module _ (o : Opening) (job : Job) (place : Place) (k : Known Entry) (tx : TxId) (begun : Begins o place k tx)
    (front : List Entry) (m : Machine) (t : Transaction) (c : Commit)
    (r : IsCommitting o job place k tx begun front m t c) where
  -- ---- the transaction

  raw_is : raw_id m.mask t.number 0 ≡ tx.raw
  raw_is = (λ i. raw_id (r.mask i) (r.number i) 0) ∙ sym begun.id

  own : own_digest m t ≡ commit_digest tx job.statements
  own = λ i. commit_digest (record { raw = raw_is i }) (r.asked i)

  on_base : OnBase m.mask m.blocks t
  on_base =
      let all = subst AllOnBase (sym r.reached.is)
      (all_on_base r.reached.events (opened r.reached.mask r.reached.before) tt) in
      (found (OnBase m.mask m.blocks) t.number m.underway t all r.reached.names).0

  undamaged : Undamaged m.blocks
  undamaged =
      subst (λ (n : Machine). Undamaged n.blocks) (sym r.reached.is)
      (history_stays_legal r.reached.mask r.reached.before r.reached.events r.reached.opening r.reached.fit).undamaged

  abbrev ready : Readies o job place k tx
  ready = record {
    begun = begun;
    progress = r.progress;
    ends =
        (λ i. run (record { mask = sym r.mask i; number = sym r.number i }) (state (sym r.base i)) (sym r.asked i))
        ∙ on_base.runs ∙ r.done;
    commits = r.commits;
    admitted = r.admitted;
  }

  sees : Sees begun.now (with_seen begun.now front)
  sees = record { later = r.later; same = refl }

  abbrev adds : (e : ℕ → Entry) → Adds begun.now (e begun.number) (with_entry (with_seen begun.now front) (e t.number))
  adds e = record {
    front = front;
    later = r.later;
    added = ap (λ n. with_entry (with_seen begun.now front) (e n)) r.number;
  }

  -- ---- its commit

  abbrev Told : Ending → Type 0
  Told e = EndsAttempt o job place k tx begun.now front t c e

  -- behind the checks
  module _ (digest : SendsOwn job tx) (free : conflict_of m t r.progress ≡ None) where
    untouched : conflict (blocks_in o front) begun.since r.progress.footprint ≡ None
    untouched = (λ i. conflict (sym r.blocks i) (sym r.since i) r.progress.footprint) ∙ free

    made : block_in (ending m c t t.done) ≡ Some (own_block m t c r.progress)
        → IsMadeOf (begun_as o begun.number) (blocks_in o front) place c.time job.statements
        (own_block m t c r.progress)
    made is =
        let b : IsMadeOf (record { mask = m.mask; number = t.number }) m.blocks t.place c.time t.asked
        (own_block m t c r.progress) =
        commit_is_made m t.number t c (own_block m t c r.progress) r.reached is in
        record {
          progress = b.progress;
          runs =
              (λ i. run (record { mask = sym r.mask i; number = sym r.number i }) (state (sym r.blocks i))
              (sym r.asked i)) ∙ b.runs;
          block_is = b.block_is
              ∙ (λ i. block_of (record { mask = r.mask i; number = r.number i }) (r.blocks i) (r.at i) c.time
              b.progress);
        }

    comes : block_in (ending m c t t.done) ≡ Some (own_block m t c r.progress)
        → Comes o job place k tx begun front (own_block m t c r.progress)
    comes is = record {
      commits = r.commits;
      admitted = r.admitted;
      digest = digest;
      progress = r.progress;
      ends = (ready).ends;
      untouched = untouched;
      time = c.time;
      is_made = made is;
    }

    by_service : (s : Service) → ending m c t t.done ≡ ends_by s (own_block m t c r.progress)
        → Told (ends_by s (own_block m t c r.progress))
    by_service served is = (
      Committed tx (receipt_of (own_block m t c r.progress)).block,
      refl,
      record {
        ready = ready;
        digest = digest;
        made = own_block m t c r.progress;
        adds = adds (λ n. sealed n (own_block m t c r.progress));
        untouched = untouched;
        time = c.time;
        is_made = made (ap block_in is);
        block_is = ap length r.blocks;
      },
    )
    by_service no_memory is = (OutOfMemory, refl, inr (tx, begun, inr (None, adds (λ n. wanted n None), tt)))
    by_service store_wants is = (
      OutOfMemory,
      refl,
      inr (
        tx,
        begun,
        inr (
          Some (own_block m t c r.progress),
          adds (λ n. wanted n (Some (own_block m t c r.progress))),
          comes (ap block_in is),
        ),
      ),
    )
    by_service (store_failed count) is = (
      StoreFault tx count,
      refl,
      record {
        ready = ready;
        digest = digest;
        block = own_block m t c r.progress;
        adds = adds (λ n. failed n count (own_block m t c r.progress));
        comes = comes (ap block_in is);
      },
    )

    by_room : (b : Bool) → nat_lt (length m.blocks) (2 ^ 32 - 1) ≡ b
        → ending m c t t.done ≡ (if b then ends_by c.service (own_block m t c r.progress) else full (length m.blocks))
        → Told (if b then ends_by c.service (own_block m t c r.progress) else full (length m.blocks))
    by_room true e is = by_service c.service is
    by_room false e is =
        let low = ltb-false (length m.blocks) (2 ^ 32 - 1) e in
        let high = few_blocks m.blocks undamaged in
        let all : length m.blocks ≡ 2 ^ 32 - 1 = omega (arith, low, high) in (
          JournalFull tx (length m.blocks),
          refl,
          record {
            ready = ready;
            digest = digest;
            sees = sees;
            untouched = untouched;
            full = sym (ap length r.blocks) ∙ all;
            told = all;
          },
        )

  module _ (digest : SendsOwn job tx) where
    by_conflict : (f : Option Named) → conflict_of m t r.progress ≡ f
        → ending m c t t.done
        ≡ unless_conflict t.since f
        (if nat_lt (length m.blocks) (2 ^ 32 - 1) then ends_by c.service (own_block m t c r.progress) else full
        (length m.blocks))
        → Told (unless_conflict t.since f
        (if nat_lt (length m.blocks) (2 ^ 32 - 1) then ends_by c.service (own_block m t c r.progress) else full
        (length m.blocks)))
    by_conflict None e is = by_room digest e (nat_lt (length m.blocks) (2 ^ 32 - 1)) refl is
    by_conflict (Some f) e is = (
      Conflict tx t.since f,
      refl,
      record {
        ready = ready;
        digest = digest;
        since_is = r.since;
        sees = sees;
        finds = subst (λ (bs : List Block). conflict bs t.since r.progress.footprint ≡ Some f) r.blocks e;
      },
    )

  by_digest : (b : Bool) → same_hash (own_digest m t) c.digest ≡ b
      → ending m c t t.done
      ≡ (if b then unless_conflict t.since (conflict_of m t r.progress)
      (if nat_lt (length m.blocks) (2 ^ 32 - 1) then ends_by c.service (own_block m t c r.progress) else full
      (length m.blocks))
      else differs (own_digest m t) c.digest)
      → Told (if b then unless_conflict t.since (conflict_of m t r.progress)
      (if nat_lt (length m.blocks) (2 ^ 32 - 1) then ends_by c.service (own_block m t c r.progress) else full
      (length m.blocks))
      else differs (own_digest m t) c.digest)
  by_digest true e is =
      by_conflict
      (sent_own job.digest (commit_digest tx job.statements) c.digest r.digest
      (sym own ∙ hash_is (own_digest m t) c.digest e))
      (conflict_of m t r.progress) refl is
  by_digest false e is =
      let other : own_digest m t ≡ c.digest → ⊥ =
      (λ same. let bad : ⊥ = cc (e, is_hash (own_digest m t) c.digest same) in bad) in (
        DigestDiffers tx t.since (own_digest m t) c.digest,
        refl,
        record {
          ready = ready;
          since_is = r.since;
          mine_is = own;
          given_is = sent_other job.digest (commit_digest tx job.statements) c.digest r.digest
              (λ same. other (own ∙ same));
          differ = other;
          sees = sees;
        },
      )

  ended_so : Told (ending m c t t.done)
  ended_so =
      let is : ending m c t t.done ≡ ending m c t (ran r.progress) = ap (ending m c t) r.done in
      subst Told (sym is) (by_digest (same_hash (own_digest m t) c.digest) refl is)

pub commits_end_attempts : CommitsEndAttempts
commits_end_attempts o job place k tx begun front m t c r = ended_so o job place k tx begun front m t c r
