use Rattle.std.proofs.Common.{◌≡◌, ◌∙◌, ℕ, ◌+◌, ◌≤◌, ◌++◌, [], ◌∷◌, length, drop, Ok, Err, refl, sym, ap, subst, arith, length-append, rules}
use Rattle.std.proofs.lemmas.Iterator.Adapters.{YieldsList-from_vec}
use Rattle.std.proofs.lemmas.Iterator.Consumers.{YieldsList-end, YieldsList-turn}
use Rattle.ledger_model.specs.ReadScript.{read_each, read_placed}
use Rattle.script_form.proofs.Each.{gives_fault, read_all, read_behind, read_fault, read_more, read_start}
use Rattle.script_form.proofs.scripts.read_jobs.Goals as goal

pub jobs-init : goal.jobs-init
jobs-init c = record { count = refl; so_far = rw c.new-jobs.ensures (read_start (read_each (read_placed c.args.session) 1 c.args.members)) }

pub overflow_add-transaction : goal.overflow_add-transaction
overflow_add-transaction c =
    let gives = c.into_iter-member-iterator.ensures.into_iter_gives in
    let same : c.into_vec-member-items.result.items ≡ c.args.members = c.into_vec-member-items.ensures in
    let all = YieldsList-from_vec {s = c.into_iter-member-iterator.result} c.args.members (gives.0 ∙ same) (gives.1 ∙ c.into_vec-member-items.result.ok.0 ∙ ap length same) in
    let turn = YieldsList-turn all c.jobs.yielded c.jobs.member-iterator c.jobs.yielded_by c.next.result c.next.new.self c.in-Some.member c.in-Some.is c.next.ensures.steps in
    omega (arith, turn.0, c.jobs.invariant.count)

pub jobs-preserved : goal.jobs-preserved
jobs-preserved c =
    let gives = c.into_iter-member-iterator.ensures.into_iter_gives in
    let same : c.into_vec-member-items.result.items ≡ c.args.members = c.into_vec-member-items.ensures in
    let all = YieldsList-from_vec {s = c.into_iter-member-iterator.result} c.args.members (gives.0 ∙ same) (gives.1 ∙ c.into_vec-member-items.result.ok.0 ∙ ap length same) in
    let turn = YieldsList-turn all c.jobs.yielded c.jobs.member-iterator c.jobs.yielded_by c.next.result c.next.new.self c.in-Some.member c.in-Some.is c.next.ensures.steps in
    let more : length c.jobs.yielded + 1 ≡ length (c.jobs.yielded ++ c.in-Some.member ∷ []) = sym (length-append c.jobs.yielded (c.in-Some.member ∷ [])) in
    let wanted = read_each (read_placed c.args.session) 1 c.args.members in
    let is : read_placed c.args.session (length c.jobs.yielded + 1) c.in-Some.member ≡ Ok c.in_ok-job.job =
    subst (λ (n : ℕ). read_placed c.args.session (n + 1) c.in-Some.member ≡ Ok c.in_ok-job.job) c.jobs.invariant.count c.in_ok-job.ensures in
    record {
      count = omega (arith, more, c.jobs.invariant.count);
      so_far =
          rw c.in_ok-push.ensures.ok
          (subst (λ (n : ℕ). read_behind (c.jobs.jobs ++ c.in_ok-job.job ∷ []) (read_each (read_placed c.args.session) (n + 1) (drop n c.args.members)) ≡ wanted) more
          (read_more (read_placed c.args.session) c.args.members c.jobs.jobs wanted (length c.jobs.yielded) (length c.jobs.yielded + 1) c.in-Some.member c.in_ok-job.job
          c.jobs.invariant.so_far turn.0 turn.1 is));
    }

pub returns-in_err-job : goal.returns-in_err-job
returns-in_err-job c =
    let gives = c.into_iter-member-iterator.ensures.into_iter_gives in
    let same : c.into_vec-member-items.result.items ≡ c.args.members = c.into_vec-member-items.ensures in
    let all = YieldsList-from_vec {s = c.into_iter-member-iterator.result} c.args.members (gives.0 ∙ same) (gives.1 ∙ c.into_vec-member-items.result.ok.0 ∙ ap length same) in
    let turn = YieldsList-turn all c.jobs.yielded c.jobs.member-iterator c.jobs.yielded_by c.next.result c.next.new.self c.in-Some.member c.in-Some.is c.next.ensures.steps in
    let wanted = read_each (read_placed c.args.session) 1 c.args.members in
    let is : c.from_residual.result ≡ Err c.in_err-job.field-0.0 = search rules in
    rw is
    (gives_fault c.in_err-job.field-0.0 (read_placed c.args.session (c.jobs.transaction + 1) c.in-Some.member) wanted
    (λ f is.
    read_fault (read_placed c.args.session) c.args.members c.jobs.jobs wanted (length c.jobs.yielded) (length c.jobs.yielded + 1) c.in-Some.member f
    c.jobs.invariant.so_far turn.0 turn.1
    (subst (λ (n : ℕ). read_placed c.args.session (n + 1) c.in-Some.member ≡ Err f) c.jobs.invariant.count is))
    c.in_err-job.ensures)

pub returns : goal.returns
returns c =
    let gives = c.into_iter-member-iterator.ensures.into_iter_gives in
    let same : c.into_vec-member-items.result.items ≡ c.args.members = c.into_vec-member-items.ensures in
    let all = YieldsList-from_vec {s = c.into_iter-member-iterator.result} c.args.members (gives.0 ∙ same) (gives.1 ∙ c.into_vec-member-items.result.ok.0 ∙ ap length same) in
    let end = YieldsList-end all c.jobs.yielded c.jobs.member-iterator c.jobs.yielded_by c.next.result c.next.new.self c.in-None.is c.next.ensures.steps in
    let past : length c.args.members ≤ length c.jobs.yielded = omega (arith, end.1) in
    read_all (read_placed c.args.session) c.args.members c.jobs.jobs (read_each (read_placed c.args.session) 1 c.args.members) (length c.jobs.yielded) (length c.jobs.yielded + 1) c.jobs.invariant.so_far past
