use Rattle.std.proofs.Common.{◌≡◌, ◌∙◌, true, refl, rules, Err}
use Rattle.journal_keeper.specs.declared.keeping.SettleFault.{SettleFault}
use Rattle.ledger_core.proofs.Imaging.{settled_images, unsettled_images}
use Rattle.ledger_core.proofs.Kept.{holds-cleared, unmarked}
use Rattle.ledger_core.proofs.tail.Tail.settle.Goals as goal

pub invariant_of-self-2 : goal.invariant_of-self-2
invariant_of-self-2 g c =
    let tail = c.self.invariant.0 in (
      record {
        stands = tail.stands;
        long = c.settle.ensures.size ∙ tail.long;
        holds = unmarked _ _ _ (holds-cleared _ _ _ _ _ tail.long tail.holds c.in_ok-settle.ensures.bytes);
      },
      c.self.invariant.1,
    )

pub returns-in_err-settle-clause-images : goal.returns-in_err-settle-clause-images
returns-in_err-settle-clause-images g c =
    let out : c.from_residual.result ≡ Err c.in_err-settle.field-0.0 = search rules in
    let marked : c.settle.new.self.marked ≡ true = search rules in
    rw (← c.self.view_is)
    (unsettled_images g.S.JournalStore.told _ _ c.self.inside.keeper.size c.self.invariant.0.long refl
    (Unit {0}) _ c.in_err-settle.field-0.0 out c.in_err-settle.ensures.images marked)

pub returns-clause-images : goal.returns-clause-images
returns-clause-images g c =
    rw (← c.self.view_is)
    (settled_images g.S.JournalStore.told _ _ c.self.inside.keeper.size c.self.invariant.0.long refl
    SettleFault {T = Unit {0}} {U = Unit {0}} tt tt c.self.invariant.0.stands.undamaged c.self.invariant.0.stands.asked c.in_ok-settle.ensures.images c.in_ok-settle.ensures.settled)

pub returns-in_err-settle-clause-calls : goal.returns-in_err-settle-clause-calls
returns-in_err-settle-clause-calls g c = rw (← c.self.view_is) c.in_err-settle.ensures.calls

pub returns-clause-calls : goal.returns-clause-calls
returns-clause-calls g c = rw (← c.self.view_is) c.in_ok-settle.ensures.calls
