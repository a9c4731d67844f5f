use Rattle.std.proofs.Common.{◌≡◌, ◌∙◌, [], Err, Result, ap, map, rules, subst, sym}
use Rattle.std.specs.Prelude.{IfErr}
use Rattle.turn_lock.specs.Rule.{Each}
use Rattle.turn_lock.specs.Seats.{Rests, known}
use Rattle.ledger_model.specs.Script.{all_placed}
use Rattle.ledger_shared.specs.Behind.{IsRightFor, Keeps, opening_of}
use Rattle.ledger_shared.specs.Desks.{HaveWorked}
use Rattle.ledger_shared.specs.Told.{all_told}
use Rattle.ledger_shared.specs.Workers.{WorkerHeld}
use Rattle.ledger_shared.proofs.Ended.{each_at}
use Rattle.ledger_shared.proofs.Running.{closed_all, closed_none}
use Rattle.ledger_shared.proofs.Tailed.{keeps_none}
use Rattle.ledger_shared.proofs.run.run_all.Goals as goal

-- the workers have the ledger's passes

pub run_desks-ran-requires-clause-known : goal.run_desks-ran-requires-clause-known
run_desks-ran-requires-clause-known g c κs within =
    ap (λ (w : WorkerHeld _ _). w.known) c.new-worker.ensures ∙ c.in_ok-ledger.ensures.known

pub close-tail-requires-clause-each : goal.close-tail-requires-clause-each
close-tail-requires-clause-each g c i d low =
    let ran = c.run_desks-ran in
    let all = subst (λ (w : WorkerHeld _ _). Each (Rests (IsRightFor g.S.JournalStore.told) w.table w.opened) ran.new.lists.passes.items)
    c.new-worker.ensures ran.ensures.each in
    each_at _ ran.new.lists.passes.items i d all low

-- what comes of the run

pub returns-in_err-ledger-clause-refused : goal.returns-in_err-ledger-clause-refused
returns-in_err-ledger-clause-refused g c =
    let told = g.S.JournalStore.told in
    let answers = g.C.Clock.answers in
    let always = g.C.Clock.always in
    let is : c.from_residual.result ≡ Err c.in_err-ledger.field-0.0 = search rules in
    subst (λ (r : Result _ _). IfErr r (λ e. Keeps told answers always c.args.tail e.tail [])) (sym is)
    (subst (λ t. Keeps told answers always c.args.tail t []) (sym c.in_err-ledger.ensures.refused) (keeps_none told answers always c.args.tail c.blocks-2.ensures.standing))

pub returns-in-Ok-ran-clause-ran : goal.returns-in-Ok-ran-clause-ran
returns-in-Ok-ran-clause-ran g c =
    let told = g.S.JournalStore.told in
    let closed = c.close-tail in
    let ran = c.run_desks-ran in
    let passes = ran.new.lists.passes.items in
    let outcomes = ran.new.lists.outcomes.items in
    let jobs = all_placed c.args.script.now in
    let worked = subst (λ (w : WorkerHeld _ _). HaveWorked (opening_of told w.opened) c.args.crew.now.workers jobs (map known passes) outcomes)
    c.new-worker.ensures c.in-Ok-ran.ensures.worked in
    closed_all told g.C.Clock.answers g.C.Clock.always _ c.args.tail closed.result.tail c.in_ok-ledger.ensures.opened
    (all_told closed.result.tail.standing.mask closed.result.entries.items.items) known passes closed.ensures.keeps ran.ensures.whole
    closed.ensures.once c.args.crew.now.workers jobs outcomes c.from_vec.result c.requires.some closed.ensures.right closed.ensures.seen worked
    c.from_vec.ensures

pub returns-in-Err-clause-refused : goal.returns-in-Err-clause-refused
returns-in-Err-clause-refused g c =
    let closed = c.close-tail in
    let ran = c.run_desks-ran in
    closed_none g.S.JournalStore.told g.C.Clock.answers g.C.Clock.always _ c.args.tail closed.result.tail c.in_ok-ledger.ensures.opened
    (all_told closed.result.tail.standing.mask closed.result.entries.items.items) known ran.new.lists.passes.items closed.ensures.keeps ran.ensures.whole
    closed.ensures.once c.in-Err.ensures.idle
