use Rattle.std.proofs.Common.{◌≡◌, Some, refl, sym, subst}
use Rattle.cli_args.specs.declared.Command.{Command}
use Rattle.laws_history.specs.Calls.{span}
use Rattle.cli_model.specs.Calls.{outside}
use Rattle.cli_model.specs.Top.{Keeps}
use Rattle.ledger_cli.specs.Ends.{Works}
use Rattle.ledger_cli.proofs.Answering.{works_digest, works_proof, works_compact, works_counts, works_export}
use Rattle.ledger_cli.proofs.Ending.{takes_none}
use Rattle.ledger_cli.proofs.Making.{keeps_made, works_made}
use Rattle.ledger_cli.proofs.Replaying.{works_replay}
use Rattle.ledger_cli.proofs.Streaming.{works_stream}
use Rattle.ledger_cli.proofs.Verifying.{works_verify}
use Rattle.ledger_cli.proofs.work.work.Goals as goal

pub returns-in-Digest-clause-works : goal.returns-in-Digest-clause-works
returns-in-Digest-clause-works g c =
    let k = c.ask in
    let r = c.args.resources in
    let source = g.So.Source.told c.args.source.now in
    let x = outside (span source source) (span (g.St.JournalStore.told r.store) (g.St.JournalStore.told k.result.store))
    (span (g.C.Clock.answers r.clock) (g.C.Clock.answers k.result.clock)) in
    subst (λ (w : Command). Works (k.result.store ≡ r.store) (Some w) k.result.value x) (sym c.in-Digest.is)
    (works_digest (k.result.store ≡ r.store) c.in-Digest.tip x k.result.value refl k.ensures.tells)

pub returns-in-Digest-clause-keeps : goal.returns-in-Digest-clause-keeps
returns-in-Digest-clause-keeps g c =
    let k = c.ask in
    let r = c.args.resources in
    let source = g.So.Source.told c.args.source.now in
    let x = outside (span source source) (span (g.St.JournalStore.told r.store) (g.St.JournalStore.told k.result.store))
    (span (g.C.Clock.answers r.clock) (g.C.Clock.answers k.result.clock)) in
    subst (λ (w : Command). Keeps (k.result.store ≡ r.store) (Some w) x) (sym c.in-Digest.is) (k.ensures.tells.1, refl)

pub returns-in-Digest-clause-few : goal.returns-in-Digest-clause-few
returns-in-Digest-clause-few g c = takes_none (g.So.Source.told c.args.source.now)

pub returns-in-Prove-clause-works : goal.returns-in-Prove-clause-works
returns-in-Prove-clause-works g c =
    let k = c.ask-in-Prove in
    let r = c.args.resources in
    let source = g.So.Source.told c.args.source.now in
    let x = outside (span source source) (span (g.St.JournalStore.told r.store) (g.St.JournalStore.told k.result.store))
    (span (g.C.Clock.answers r.clock) (g.C.Clock.answers k.result.clock)) in
    subst (λ (w : Command). Works (k.result.store ≡ r.store) (Some w) k.result.value x) (sym c.in-Prove.is)
    (works_proof (k.result.store ≡ r.store) c.in-Prove.sequence c.in-Prove.index c.in-Prove.tip x k.result.value refl k.ensures.tells)

pub returns-in-Prove-clause-keeps : goal.returns-in-Prove-clause-keeps
returns-in-Prove-clause-keeps g c =
    let k = c.ask-in-Prove in
    let r = c.args.resources in
    let source = g.So.Source.told c.args.source.now in
    let x = outside (span source source) (span (g.St.JournalStore.told r.store) (g.St.JournalStore.told k.result.store))
    (span (g.C.Clock.answers r.clock) (g.C.Clock.answers k.result.clock)) in
    subst (λ (w : Command). Keeps (k.result.store ≡ r.store) (Some w) x) (sym c.in-Prove.is) (k.ensures.tells.1, refl)

pub returns-in-Prove-clause-few : goal.returns-in-Prove-clause-few
returns-in-Prove-clause-few g c = takes_none (g.So.Source.told c.args.source.now)

pub returns-in-Audit-clause-works : goal.returns-in-Audit-clause-works
returns-in-Audit-clause-works g c =
    let k = c.ask-in-Audit in
    let r = c.args.resources in
    let source = g.So.Source.told c.args.source.now in
    let x = outside (span source source) (span (g.St.JournalStore.told r.store) (g.St.JournalStore.told k.result.store))
    (span (g.C.Clock.answers r.clock) (g.C.Clock.answers k.result.clock)) in
    subst (λ (w : Command). Works (k.result.store ≡ r.store) (Some w) k.result.value x) (sym c.in-Audit.is)
    (works_counts (k.result.store ≡ r.store) x k.result.value refl k.ensures.tells)

pub returns-in-Audit-clause-keeps : goal.returns-in-Audit-clause-keeps
returns-in-Audit-clause-keeps g c =
    let k = c.ask-in-Audit in
    let r = c.args.resources in
    let source = g.So.Source.told c.args.source.now in
    let x = outside (span source source) (span (g.St.JournalStore.told r.store) (g.St.JournalStore.told k.result.store))
    (span (g.C.Clock.answers r.clock) (g.C.Clock.answers k.result.clock)) in
    subst (λ (w : Command). Keeps (k.result.store ≡ r.store) (Some w) x) (sym c.in-Audit.is) (k.ensures.tells.1, refl)

pub returns-in-Audit-clause-few : goal.returns-in-Audit-clause-few
returns-in-Audit-clause-few g c = takes_none (g.So.Source.told c.args.source.now)

pub returns-in-Compact-clause-works : goal.returns-in-Compact-clause-works
returns-in-Compact-clause-works g c =
    let k = c.ask-in-Compact in
    let r = c.args.resources in
    let source = g.So.Source.told c.args.source.now in
    let x = outside (span source source) (span (g.St.JournalStore.told r.store) (g.St.JournalStore.told k.result.store))
    (span (g.C.Clock.answers r.clock) (g.C.Clock.answers k.result.clock)) in
    subst (λ (w : Command). Works (k.result.store ≡ r.store) (Some w) k.result.value x) (sym c.in-Compact.is)
    (works_compact (k.result.store ≡ r.store) x k.result.value refl k.ensures.tells)

pub returns-in-Compact-clause-keeps : goal.returns-in-Compact-clause-keeps
returns-in-Compact-clause-keeps g c =
    let k = c.ask-in-Compact in
    let r = c.args.resources in
    let source = g.So.Source.told c.args.source.now in
    let x = outside (span source source) (span (g.St.JournalStore.told r.store) (g.St.JournalStore.told k.result.store))
    (span (g.C.Clock.answers r.clock) (g.C.Clock.answers k.result.clock)) in
    subst (λ (w : Command). Keeps (k.result.store ≡ r.store) (Some w) x) (sym c.in-Compact.is) (k.ensures.tells.1, refl)

pub returns-in-Compact-clause-few : goal.returns-in-Compact-clause-few
returns-in-Compact-clause-few g c = takes_none (g.So.Source.told c.args.source.now)

pub returns-in-Export-clause-works : goal.returns-in-Export-clause-works
returns-in-Export-clause-works g c =
    let k = c.ask-in-Export in
    let r = c.args.resources in
    let source = g.So.Source.told c.args.source.now in
    let x = outside (span source source) (span (g.St.JournalStore.told r.store) (g.St.JournalStore.told k.result.store))
    (span (g.C.Clock.answers r.clock) (g.C.Clock.answers k.result.clock)) in
    subst (λ (w : Command). Works (k.result.store ≡ r.store) (Some w) k.result.value x) (sym c.in-Export.is)
    (works_export (k.result.store ≡ r.store) x k.result.value refl k.ensures.tells)

pub returns-in-Export-clause-keeps : goal.returns-in-Export-clause-keeps
returns-in-Export-clause-keeps g c =
    let k = c.ask-in-Export in
    let r = c.args.resources in
    let source = g.So.Source.told c.args.source.now in
    let x = outside (span source source) (span (g.St.JournalStore.told r.store) (g.St.JournalStore.told k.result.store))
    (span (g.C.Clock.answers r.clock) (g.C.Clock.answers k.result.clock)) in
    subst (λ (w : Command). Keeps (k.result.store ≡ r.store) (Some w) x) (sym c.in-Export.is) (k.ensures.tells.1, refl)

pub returns-in-Export-clause-few : goal.returns-in-Export-clause-few
returns-in-Export-clause-few g c = takes_none (g.So.Source.told c.args.source.now)

pub returns-in-Verify-clause-works : goal.returns-in-Verify-clause-works
returns-in-Verify-clause-works g c =
    let k = c.verify_input.result in
    let r = c.args.resources in
    let store = g.St.JournalStore.told r.store in
    let answers = g.C.Clock.answers r.clock in
    let x = outside (span (g.So.Source.told c.args.source.now) (g.So.Source.told c.verify_input.new.source)) (span store store) (span answers answers) in
    subst (λ (w : Command). Works (r.store ≡ r.store) (Some w) k x) (sym c.in-Verify.is)
    (works_verify (r.store ≡ r.store) x k refl c.verify_input.ensures.verifies)

pub returns-in-Verify-clause-keeps : goal.returns-in-Verify-clause-keeps
returns-in-Verify-clause-keeps g c =
    let r = c.args.resources in
    let store = g.St.JournalStore.told r.store in
    let answers = g.C.Clock.answers r.clock in
    let x = outside (span (g.So.Source.told c.args.source.now) (g.So.Source.told c.verify_input.new.source)) (span store store) (span answers answers) in
    subst (λ (w : Command). Keeps (r.store ≡ r.store) (Some w) x) (sym c.in-Verify.is) (record { is = refl; told = refl })

pub returns-in-Stream-clause-works : goal.returns-in-Stream-clause-works
returns-in-Stream-clause-works g c =
    let k = c.stream_journal in
    let r = c.args.resources in
    let source = g.So.Source.told c.args.source.now in
    let x = outside (span source source) (span (g.St.JournalStore.told r.store) (g.St.JournalStore.told k.result.store))
    (span (g.C.Clock.answers r.clock) (g.C.Clock.answers k.result.clock)) in
    subst (λ (w : Command). Works (k.result.store ≡ r.store) (Some w) k.result.value x) (sym c.in-Stream.is)
    (works_stream (k.result.store ≡ r.store) c.in-Stream.from c.in-Stream.to x refl k.result.value k.ensures.tells)

pub returns-in-Stream-clause-keeps : goal.returns-in-Stream-clause-keeps
returns-in-Stream-clause-keeps g c =
    let k = c.stream_journal in
    let r = c.args.resources in
    let source = g.So.Source.told c.args.source.now in
    let x = outside (span source source) (span (g.St.JournalStore.told r.store) (g.St.JournalStore.told k.result.store))
    (span (g.C.Clock.answers r.clock) (g.C.Clock.answers k.result.clock)) in
    subst (λ (w : Command). Keeps (k.result.store ≡ r.store) (Some w) x) (sym c.in-Stream.is) (k.ensures.tells.1, refl)

pub returns-in-Stream-clause-few : goal.returns-in-Stream-clause-few
returns-in-Stream-clause-few g c = takes_none (g.So.Source.told c.args.source.now)

pub returns-in-Replay-clause-works : goal.returns-in-Replay-clause-works
returns-in-Replay-clause-works g c =
    let k = c.replay_input.result in
    let r = c.args.resources in
    let store = g.St.JournalStore.told r.store in
    let answers = g.C.Clock.answers r.clock in
    let x = outside (span (g.So.Source.told c.args.source.now) (g.So.Source.told c.replay_input.new.source)) (span store store) (span answers answers) in
    subst (λ (w : Command). Works (r.store ≡ r.store) (Some w) k x) (sym c.in-Replay.is)
    (works_replay (r.store ≡ r.store) x (record { is = refl; told = refl }) k c.replay_input.ensures.replays)

pub returns-in-Replay-clause-keeps : goal.returns-in-Replay-clause-keeps
returns-in-Replay-clause-keeps g c =
    let r = c.args.resources in
    let store = g.St.JournalStore.told r.store in
    let answers = g.C.Clock.answers r.clock in
    let x = outside (span (g.So.Source.told c.args.source.now) (g.So.Source.told c.replay_input.new.source)) (span store store) (span answers answers) in
    subst (λ (w : Command). Keeps (r.store ≡ r.store) (Some w) x) (sym c.in-Replay.is) (record { is = refl; told = refl })

pub returns-in-Make-clause-works : goal.returns-in-Make-clause-works
returns-in-Make-clause-works g c =
    let k = c.make in
    let r = c.args.resources in
    let source = g.So.Source.told c.args.source.now in
    let x = outside (span source source) (span (g.St.JournalStore.told r.store) (g.St.JournalStore.told k.result.store))
    (span (g.C.Clock.answers r.clock) (g.C.Clock.answers k.result.clock)) in
    subst (λ (w : Command). Works (k.result.store ≡ r.store) (Some w) k.result.value x) (sym c.in-Make.is)
    (works_made (k.result.store ≡ r.store) c.in-Make.options x k.result.value refl k.ensures)

pub returns-in-Make-clause-keeps : goal.returns-in-Make-clause-keeps
returns-in-Make-clause-keeps g c =
    let k = c.make in
    let r = c.args.resources in
    let source = g.So.Source.told c.args.source.now in
    let x = outside (span source source) (span (g.St.JournalStore.told r.store) (g.St.JournalStore.told k.result.store))
    (span (g.C.Clock.answers r.clock) (g.C.Clock.answers k.result.clock)) in
    subst (λ (w : Command). Keeps (k.result.store ≡ r.store) (Some w) x) (sym c.in-Make.is)
    (keeps_made (k.result.store ≡ r.store) c.in-Make.options x k.result.value refl k.ensures)

pub returns-in-Make-clause-few : goal.returns-in-Make-clause-few
returns-in-Make-clause-few g c = takes_none (g.So.Source.told c.args.source.now)
