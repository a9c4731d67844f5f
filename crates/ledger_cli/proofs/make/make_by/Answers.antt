use Rattle.std.proofs.Common.{ℕ, subst}
use Rattle.laws_history.specs.Calls.{span}
use Rattle.ledger_cli.specs.Making.{Makes}
use Rattle.ledger_cli.specs.Runs.{HasLoaded}
use Rattle.id_seed.specs.Seed.{mask_of}
use Rattle.ledger_cli.proofs.Making.{unloaded_makes}
use Rattle.ledger_cli.proofs.make.make_by.Goals as goal

pub returns-in-Ok : goal.returns-in-Ok
returns-in-Ok g c =
    let told = g.S.JournalStore.told in
    let k = c.make_if_empty.result in
    let is = c.in-Ok.ensures in
    let loaded : HasLoaded told c.from_seed.result.bits (told c.args.resources.store) c.in-Ok.tail =
    record {
      journal = is.journal;
      sound = is.standing;
      mask = is.mask;
      last = is.last;
      content = is.store.0;
      faults = is.store.1;
      images = is.images;
    } in
    let has : HasLoaded told (mask_of c.args.options.seed) (told c.args.resources.store) c.in-Ok.tail =
    subst (λ (mask : ℕ). HasLoaded told mask (told c.args.resources.store) c.in-Ok.tail) c.from_seed.ensures loaded in
    subst
    (λ clock. Makes c.args.options k.value (span (told c.args.resources.store) (told k.store)) (span (g.C.Clock.answers clock) (g.C.Clock.answers k.clock)))
    is.clock (c.make_if_empty.ensures (told c.args.resources.store) has)

pub returns-in-Err : goal.returns-in-Err
returns-in-Err g c =
    let told = g.S.JournalStore.told in
    rw c.unloaded.ensures.store
    (unloaded_makes c.args.options c.in-Err.fault.cause (told c.args.resources.store) (told c.in-Err.fault.store)
    (span (g.C.Clock.answers c.args.resources.clock) (g.C.Clock.answers c.unloaded.result.clock)) c.unloaded.result.value c.unloaded.ensures.value
    c.in-Err.ensures.returned.0 c.in-Err.ensures.cause)
