use Rattle.std.proofs.Common.{◌∙◌, ◌+◌, ◌++◌, List, [], ◌∷◌, drop, subst, refl, arith}
use Rattle.ledger_model.specs.Script.{Placed, placed_from}
use Rattle.ledger_shared.specs.Behind.{opening_of}
use Rattle.ledger_shared.specs.Sessions.{HasServed, Serves, course}
use Rattle.ledger_shared.proofs.Serving.{jobs_done, jobs_left}
use Rattle.ledger_shared.proofs.worker.Worker.run_session.Goals as goal

pub jobs-init : goal.jobs-init
jobs-init g c = record {
  table = refl;
  opened = refl;
  serves = λ all rest first h. h;
  kept = omega arith;
  room = omega arith;
}

pub jobs-preserved : goal.jobs-preserved
jobs-preserved g c =
    let told = g.S.JournalStore.told in
    let o = opening_of told c.args.self.now.opened in
    let now = course c.jobs.outcomes.items c.jobs.self.known in
    let next = course c.serve.new.outcomes.items c.serve.new.self.known in
    let p : Placed = record { place = record { session = c.args.session; transaction = c.jobs.at + 1 }; job = c.index-jobs-at.result } in
    let served : Serves o (p ∷ []) now next = subst (λ t. Serves (opening_of told t) (p ∷ []) now next) c.jobs.invariant.opened c.serve.ensures.serves in
    record {
      table = c.serve.ensures.table ∙ c.jobs.invariant.table;
      opened = c.serve.ensures.opened ∙ c.jobs.invariant.opened;
      serves = λ all rest first h.
          served all (placed_from c.args.session (1 + (c.jobs.at + 1)) (drop (c.jobs.at + 1) c.args.jobs.now) ++ rest) first
          (subst (λ (left : List Placed). HasServed o all left first now)
          (jobs_left c.args.session c.jobs.at c.args.jobs.now c.index-jobs-at.result rest c.jobs-test.true c.index-jobs-at.is)
          (c.jobs.invariant.serves all rest first h));
      kept = omega (arith, c.jobs.invariant.kept, c.serve.ensures.one);
      room = omega (arith, c.jobs.invariant.room, c.serve.ensures.room);
    }

pub returns-clause-serves : goal.returns-clause-serves
returns-clause-serves g c all rest first h =
    let o = opening_of g.S.JournalStore.told c.args.self.now.opened in
    let now = course c.jobs.outcomes.items c.jobs.self.known in
    subst (λ (left : List Placed). HasServed o all left first now) (jobs_done c.args.session c.jobs.at c.args.jobs.now rest c.jobs-test.false)
    (c.jobs.invariant.serves all rest first h)
