use Rattle.std.proofs.Common.{List, sym, subst, rules}
use Rattle.ledger_model.specs.declared.block.Block.{Block}
use Rattle.ledger_model.specs.declared.script.Job.{Job}
use Rattle.ledger_shared.specs.Sessions.{AreNumbered}
use Rattle.ledger_cli.specs.Making.{SumsUp}
use Rattle.ledger_cli.proofs.Making.{makes_so, numbered}
use Rattle.ledger_cli.proofs.make.make_all.Goals as goal

pub run_workload-value-requires-clause-few : goal.run_workload-value-requires-clause-few
run_workload-value-requires-clause-few g c κs within =
    subst (λ (script : List (List Job)). AreNumbered script) (sym c.requires.of.sessions)
    (numbered c.args.options (search rules) (search rules))

pub returns : goal.returns
returns g c before has empty =
    let told = g.S.JournalStore.told in
    let now = c.run_workload-value.result.tail in
    let came = c.run_workload-value.result.value in
    let sums = subst (λ (bs : List Block). SumsUp bs came c.summed_up-value.result) c.blocks-2.ensures.blocks c.summed_up-value.ensures in
    rw (c.into_parts-blocks.ensures.store, c.into_parts-blocks.ensures.clock)
    (makes_so told g.C.Clock.answers g.C.Clock.always c.args.options c.requires.some before c.args.tail has empty
    c.written_on_one_line.ensures now c.args.workload.now c.requires.of came c.summed_up-value.result c.run_workload-value.ensures sums)
