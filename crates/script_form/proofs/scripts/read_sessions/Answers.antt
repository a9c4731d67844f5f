use Rattle.std.proofs.Common.{◌≡◌, ◌∙◌, ℕ, ◌+◌, ◌≤◌, ◌++◌, [], ◌∷◌, length, drop, Ok, Err, refl, sym, ap, subst, arith, length-append, rules}
use Rattle.std.proofs.lemmas.Iterator.Adapters.{YieldsList-from_vec}
use Rattle.std.proofs.lemmas.Iterator.Consumers.{YieldsList-end, YieldsList-turn}
use Rattle.ledger_model.specs.ReadScript.{read_each, read_session}
use Rattle.script_form.proofs.Each.{gives_fault, read_all, read_behind, read_fault, read_more, read_start}
use Rattle.script_form.specs.Answers.{IsCountable}
use Rattle.script_form.proofs.scripts.read_sessions.Goals as goal

pub sessions-init : goal.sessions-init
sessions-init c = record { count = refl; so_far = rw c.new-script.ensures (read_start (read_each read_session 1 c.args.values)) }

pub overflow_add-session : goal.overflow_add-session
overflow_add-session c =
    let gives = c.into_iter-value-iterator.ensures.into_iter_gives in
    let same : c.into_vec-value-items.result.items ≡ c.args.values = c.into_vec-value-items.ensures in
    let all = YieldsList-from_vec {s = c.into_iter-value-iterator.result} c.args.values (gives.0 ∙ same) (gives.1 ∙ c.into_vec-value-items.result.ok.0 ∙ ap length same) in
    let turn = YieldsList-turn all c.sessions.yielded c.sessions.value-iterator c.sessions.yielded_by c.next.result c.next.new.self c.in-Some.value c.in-Some.is c.next.ensures.steps in
    omega (arith, turn.0, c.sessions.invariant.count)

pub read_session-requires : goal.read_session-requires
read_session-requires c =
    let gives = c.into_iter-value-iterator.ensures.into_iter_gives in
    let same : c.into_vec-value-items.result.items ≡ c.args.values = c.into_vec-value-items.ensures in
    let all = YieldsList-from_vec {s = c.into_iter-value-iterator.result} c.args.values (gives.0 ∙ same) (gives.1 ∙ c.into_vec-value-items.result.ok.0 ∙ ap length same) in
    let turn = YieldsList-turn all c.sessions.yielded c.sessions.value-iterator c.sessions.yielded_by c.next.result c.next.new.self c.in-Some.value c.in-Some.is c.next.ensures.steps in
    subst IsCountable (sym turn.1) (c.requires.countable (length c.sessions.yielded) c.in-Some.value turn.0)

pub sessions-preserved : goal.sessions-preserved
sessions-preserved c =
    let gives = c.into_iter-value-iterator.ensures.into_iter_gives in
    let same : c.into_vec-value-items.result.items ≡ c.args.values = c.into_vec-value-items.ensures in
    let all = YieldsList-from_vec {s = c.into_iter-value-iterator.result} c.args.values (gives.0 ∙ same) (gives.1 ∙ c.into_vec-value-items.result.ok.0 ∙ ap length same) in
    let turn = YieldsList-turn all c.sessions.yielded c.sessions.value-iterator c.sessions.yielded_by c.next.result c.next.new.self c.in-Some.value c.in-Some.is c.next.ensures.steps in
    let more : length c.sessions.yielded + 1 ≡ length (c.sessions.yielded ++ c.in-Some.value ∷ []) = sym (length-append c.sessions.yielded (c.in-Some.value ∷ [])) in
    let wanted = read_each read_session 1 c.args.values in
    let is : read_session (length c.sessions.yielded + 1) c.in-Some.value ≡ Ok c.in_ok-read.read =
    subst (λ (n : ℕ). read_session (n + 1) c.in-Some.value ≡ Ok c.in_ok-read.read) c.sessions.invariant.count c.in_ok-read.ensures in
    record {
      count = omega (arith, more, c.sessions.invariant.count);
      so_far =
          rw c.in_ok-push.ensures.ok
          (subst (λ (n : ℕ). read_behind (c.sessions.script ++ c.in_ok-read.read ∷ []) (read_each read_session (n + 1) (drop n c.args.values)) ≡ wanted) more
          (read_more read_session c.args.values c.sessions.script wanted (length c.sessions.yielded) (length c.sessions.yielded + 1) c.in-Some.value c.in_ok-read.read
          c.sessions.invariant.so_far turn.0 turn.1 is));
    }

pub returns-in_err-read : goal.returns-in_err-read
returns-in_err-read c =
    let gives = c.into_iter-value-iterator.ensures.into_iter_gives in
    let same : c.into_vec-value-items.result.items ≡ c.args.values = c.into_vec-value-items.ensures in
    let all = YieldsList-from_vec {s = c.into_iter-value-iterator.result} c.args.values (gives.0 ∙ same) (gives.1 ∙ c.into_vec-value-items.result.ok.0 ∙ ap length same) in
    let turn = YieldsList-turn all c.sessions.yielded c.sessions.value-iterator c.sessions.yielded_by c.next.result c.next.new.self c.in-Some.value c.in-Some.is c.next.ensures.steps in
    let wanted = read_each read_session 1 c.args.values in
    let is : c.from_residual.result ≡ Err c.in_err-read.field-0.0 = search rules in
    rw is
    (gives_fault c.in_err-read.field-0.0 (read_session (c.sessions.session + 1) c.in-Some.value) wanted
    (λ f is.
    read_fault read_session c.args.values c.sessions.script wanted (length c.sessions.yielded) (length c.sessions.yielded + 1) c.in-Some.value f
    c.sessions.invariant.so_far turn.0 turn.1
    (subst (λ (n : ℕ). read_session (n + 1) c.in-Some.value ≡ Err f) c.sessions.invariant.count is))
    c.in_err-read.ensures)

pub returns : goal.returns
returns c =
    let gives = c.into_iter-value-iterator.ensures.into_iter_gives in
    let same : c.into_vec-value-items.result.items ≡ c.args.values = c.into_vec-value-items.ensures in
    let all = YieldsList-from_vec {s = c.into_iter-value-iterator.result} c.args.values (gives.0 ∙ same) (gives.1 ∙ c.into_vec-value-items.result.ok.0 ∙ ap length same) in
    let end = YieldsList-end all c.sessions.yielded c.sessions.value-iterator c.sessions.yielded_by c.next.result c.next.new.self c.in-None.is c.next.ensures.steps in
    let past : length c.args.values ≤ length c.sessions.yielded = omega (arith, end.1) in
    read_all read_session c.args.values c.sessions.script (read_each read_session 1 c.args.values) (length c.sessions.yielded) (length c.sessions.yielded + 1) c.sessions.invariant.so_far past
