use Rattle.std.proofs.Common.{◌≡◌, ◌∙◌, ◌+◌, ◌++◌, [], ◌∷◌, length, length-append, sym, ap, arith}
use Rattle.access_rules.specs.Scripts.{session_under}
use Rattle.access_rules.proofs.Numbering.{one_more}
use Rattle.access_rules.proofs.scripts.script_under.Goals as goal

pub sessions-preserved : goal.sessions-preserved
sessions-preserved c =
    let y = c.sessions.yielded in
    let rules = c.args.rules.now in
    let jobs = c.in-Some.session in
    let n : c.sessions.number + 1 ≡ 1 + length y = omega (arith, c.sessions.invariant.counted) in
    let more : length (y ++ jobs ∷ []) ≡ length y + 1 = length-append y (jobs ∷ []) in
    let ruled : c.in_ok-ruled.ruled ≡ session_under rules (1 + length y) jobs =
    c.in_ok-ruled.ensures ∙ ap (λ k. session_under rules k jobs) n in
    record {
      under = rw c.in_ok-push.ensures.ok
          ((λ i. c.sessions.invariant.under i ++ ruled i ∷ []) ∙ sym (one_more rules 1 y jobs));
      counted = omega (arith, more, c.sessions.invariant.counted);
    }
