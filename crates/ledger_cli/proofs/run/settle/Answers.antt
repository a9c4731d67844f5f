use Rattle.std.proofs.Common.{ap, sym, refl, subst}
use Rattle.ledger_cli.specs.declared.command_fault.CommandFault.{CommandFault}
use Rattle.ledger_cli.specs.Stops.{IsTailStop}
use Rattle.laws_history.specs.Calls.{span}
use Rattle.ledger_cli.proofs.Leaving.{synced_by}
use Rattle.ledger_cli.proofs.Loaded.{settle_stops}
use Rattle.ledger_cli.proofs.run.settle.Goals as goal

pub returns-in-Ok : goal.returns-in-Ok
returns-in-Ok g c =
    let told = g.S.JournalStore.told in
    let k = c.settle.ensures in (
      refl,
      record {
        standing = k.standing;
        clock = k.clock;
        holds = c.in-Ok.ensures.holds;
        fine = c.in-Ok.ensures.store.fine;
        synced = λ kept. synced_by c.args.tail.marked (told c.args.tail.store) (told c.settle.new.self.store) kept c.in-Ok.ensures.synced
            (λ un. ap (λ x. told x.store) (k.untouched un).1);
        clean = c.in-Ok.ensures.images.0;
        images = λ tried sound. (c.in-Ok.ensures.images.1 tried sound).keeps.sound;
      },
    )

pub returns-in-Err : goal.returns-in-Err
returns-in-Err g c =
    let told = g.S.JournalStore.told in
    record {
      clock = c.settle.ensures.clock;
      cut = c.settle.ensures.cut;
      stop = subst (λ (why : CommandFault). IsTailStop why (span (told c.args.tail.store) (told c.settle.new.self.store))) (sym c.from.ensures)
          (settle_stops c.in-Err.fault (told c.args.tail.store) (told c.settle.new.self.store) c.in-Err.ensures.store.fault);
      standing = c.settle.ensures.standing;
      images = λ tried sound. (c.in-Err.ensures.images tried sound).sound;
    }
