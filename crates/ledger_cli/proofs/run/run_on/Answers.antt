use Rattle.std.proofs.Common.{List, subst}
use Rattle.ledger_model.specs.Script.{all_placed}
use Rattle.ledger_model.specs.declared.block.Block.{Block}
use Rattle.ledger_model.specs.declared.script.Job.{Job}
use Rattle.laws_history.proofs.Places.{InOrder-all_placed}
use Rattle.ledger_cli.specs.Runs.{Reports, Settles}
use Rattle.ledger_cli.proofs.Loaded.{done_by, ended_at, goes_at, stop_at}
use Rattle.ledger_cli.proofs.run.run_on.Goals as goal

pub returns-clause-done : goal.returns-clause-done
returns-clause-done g c given before has =
    let told = g.S.JournalStore.told in
    let now = c.run_and_settle-value.result.tail in
    let came = c.run_and_settle-value.result.value in
    let settles = subst (λ (x : List (List Job)). Settles told g.C.Clock.answers g.C.Clock.always c.args.crew.now.workers (all_placed x) c.args.tail came now)
    c.as_slice.ensures c.run_and_settle-value.ensures in
    let reports = subst (λ (bs : List Block). Reports bs came c.reported-value.result) c.blocks-2.ensures.blocks c.reported-value.ensures in
    rw (c.into_parts-blocks.ensures.store, c.into_parts-blocks.ensures.clock)
    (done_by told g.C.Clock.answers g.C.Clock.always given before c.args.tail has c.args.crew.now.workers c.requires.some (all_placed c.args.script.now)
    (InOrder-all_placed c.args.script.now) now came c.reported-value.result settles reports)

pub returns-clause-ended : goal.returns-clause-ended
returns-clause-ended g c given before has =
    let told = g.S.JournalStore.told in
    let now = c.run_and_settle-value.result.tail in
    let came = c.run_and_settle-value.result.value in
    let settles = subst (λ (x : List (List Job)). Settles told g.C.Clock.answers g.C.Clock.always c.args.crew.now.workers (all_placed x) c.args.tail came now)
    c.as_slice.ensures c.run_and_settle-value.ensures in
    let reports = subst (λ (bs : List Block). Reports bs came c.reported-value.result) c.blocks-2.ensures.blocks c.reported-value.ensures in
    rw (c.into_parts-blocks.ensures.store, c.into_parts-blocks.ensures.clock)
    (ended_at told g.C.Clock.answers g.C.Clock.always given before c.args.tail has c.args.crew.now.workers c.requires.some (all_placed c.args.script.now)
    (InOrder-all_placed c.args.script.now) c.written_on_one_line.ensures now came c.reported-value.result settles reports)

pub returns-clause-stop : goal.returns-clause-stop
returns-clause-stop g c given before has =
    let told = g.S.JournalStore.told in
    let now = c.run_and_settle-value.result.tail in
    let came = c.run_and_settle-value.result.value in
    let settles = subst (λ (x : List (List Job)). Settles told g.C.Clock.answers g.C.Clock.always c.args.crew.now.workers (all_placed x) c.args.tail came now)
    c.as_slice.ensures c.run_and_settle-value.ensures in
    let reports = subst (λ (bs : List Block). Reports bs came c.reported-value.result) c.blocks-2.ensures.blocks c.reported-value.ensures in
    rw c.into_parts-blocks.ensures.store
    (stop_at told g.C.Clock.answers g.C.Clock.always given before c.args.tail has c.args.crew.now.workers c.requires.some (all_placed c.args.script.now)
    (InOrder-all_placed c.args.script.now) now came c.reported-value.result settles reports)

pub returns-clause-goes : goal.returns-clause-goes
returns-clause-goes g c =
    rw c.into_parts-blocks.ensures.clock
    (goes_at g.S.JournalStore.told g.C.Clock.answers g.C.Clock.always c.args.crew.now.workers (all_placed c.as_slice.result.now) c.args.tail
    c.run_and_settle-value.result.tail c.run_and_settle-value.result.value c.run_and_settle-value.ensures)
