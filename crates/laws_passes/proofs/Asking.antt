-- A transaction that may be committed with a pass may be so after each statement.
use Rattle.std.proofs.Common.{◌≡◌, ◌∙◌, ◌+◌, ◌++◌, [], ◌∷◌, true, ap, inl, inr, length, subst, sym, Result, Ok, Err}
use Rattle.pql_model.specs.declared.Answer.{Answer}
use Rattle.ledger_model.specs.declared.outcome.Refusal.{Refusal}
use Rattle.ledger_model.specs.declared.script.Request.{Request}
use Rattle.ledger_model.specs.Run.{ran, then_run}
use Rattle.turn_lock.specs.declared.view.Known.{Known}
use Rattle.laws_machine.specs.Entries.{Entry, Opening}
use Rattle.laws_machine.proofs.Replay.{run_more}
use Rattle.txn_core.specs.Opened.{Executed, Opened, Steps}
use Rattle.ledger_shared.specs.Known.{MayCommit}
use Rattle.laws_passes.specs.Laws.{StatementsKeepOpen}

module _ (o : Opening) (k : Known Entry) where
  stepped_may : (t now : Opened) (r : Request) → Steps t r now → MayCommit o k t → MayCommit o k now
  stepped_may t now r steps m =
      subst (λ (x : Opened). MayCommit o k x) (sym steps.rest)
      (record {
        mask = m.mask;
        since = m.since;
        base = m.base;
        at = m.at;
        opened = m.opened;
        unused = m.unused;
        asked = m.asked ++ r ∷ [];
        runs = run_more t.begun t.base m.asked r t.done m.runs ∙ ap (λ x. then_run (length m.asked + 1) x ran) steps.step;
      })

  same_may : (t now : Opened) → now ≡ t → MayCommit o k t → MayCommit o k now
  same_may t now e m = subst (λ (x : Opened). MayCommit o k x) (sym e) m

  ended_may : (t : Opened) → MayCommit o k t → MayCommit o k (record t { ended = true })
  ended_may t m = record {
    mask = m.mask;
    since = m.since;
    base = m.base;
    at = m.at;
    opened = m.opened;
    unused = m.unused;
    asked = m.asked;
    runs = m.runs;
  }

  executed_may : (t now : Opened) (r : Request) (result : Result Answer Refusal) → Executed t r result now → MayCommit o k t → MayCommit o k now
  executed_may t now r (Ok answer) e m = stepped_may t now r e.1 m
  executed_may t now r (Err cause) (inl e) m = same_may t now e.2 m
  executed_may t now r (Err cause) (inr (inl e)) m = same_may t now e.2 m
  executed_may t now r (Err cause) (inr (inr e)) m = same_may (record t { ended = true }) now e.2 (ended_may t m)

pub statements_keep_open : StatementsKeepOpen
statements_keep_open o k t now r answer m e = executed_may o k t now r answer e m
