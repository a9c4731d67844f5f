use Rattle.std.proofs.Common.{◌∙◌, ◌+◌, ◌<◌, ◌^◌, ℕ, ap, sym, subst, refl}
use Rattle.stream_out.specs.Replays.{kept_block}
use Rattle.stream_out.proofs.Kept.{is_settled, same_frame, with_one}
use Rattle.stream_out.proofs.replay.Replay.settle.Goals as goal

pub rebuilt-preserved : goal.rebuilt-preserved
rebuilt-preserved c = record {
  from = c.rebuilt.invariant.from;
  holds = λ told h.
      with_one told c.rebuilt.self _ c.in-Some-2.block (c.rebuilt.invariant.holds told h) refl (λ n. refl) (λ n id. refl) c.in_ok-push.ensures.pushed
      (ap (λ (n : ℕ). kept_block c.rebuilt.self (c.rebuilt.self.from + n)) (sym c.len.ensures) ∙ ap (kept_block c.rebuilt.self) (sym c.in-Some.ensures.1) ∙ sym c.in_ok-block.ensures ∙ c.in-Some-2.is);
}

pub returns-in_err-push-clause-holds : goal.returns-in_err-push-clause-holds
returns-in_err-push-clause-holds c = λ told h.
    same_frame told c.rebuilt.self _ (c.rebuilt.invariant.holds told h) refl c.in_err-push.ensures.kept (λ n. refl) (λ n id. refl)

pub returns-in_default-2-clause-settled : goal.returns-in_default-2-clause-settled
returns-in_default-2-clause-settled c = λ told h.
    is_settled told c.rebuilt.self (c.rebuilt.invariant.holds told h)
    (ap (λ (n : ℕ). kept_block c.rebuilt.self (c.rebuilt.self.from + n)) (sym c.len.ensures) ∙ ap (kept_block c.rebuilt.self) (sym c.in-Some.ensures.1) ∙ sym c.in_ok-block.ensures ∙ c.in_default-2.is)

pub returns-clause-settled : goal.returns-clause-settled
returns-clause-settled c = λ told h small. absurd (c.in_default.ensures (subst (λ (n : ℕ). c.rebuilt.self.from + n < 2 ^ 64) (sym c.len.ensures) small))
