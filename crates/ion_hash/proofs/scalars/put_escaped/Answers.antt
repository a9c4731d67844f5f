use Rattle.ion_hash.proofs.Plain.{run_put, byte_put, all_put}
use Rattle.ion_hash.proofs.scalars.put_escaped.Goals as goal

pub returns-in_default : goal.returns-in_default
returns-in_default c =
    let puts = run_put _ _ _ _ _ _ _ c.runs.invariant c.plain_len.ensures.plain c.split_at.ensures.front c.split_at.ensures.back c.in_ok-extend.ensures.ok in
    all_put _ _ _ puts c.in_default.ensures.cases

pub runs-preserved : goal.runs-preserved
runs-preserved c =
    let puts = run_put _ _ _ _ _ _ _ c.runs.invariant c.plain_len.ensures.plain c.split_at.ensures.front c.split_at.ensures.back c.in_ok-extend.ensures.ok in
    byte_put _ _ _ _ _ _ puts c.in-Some.ensures.cases.0 c.in_ok-put_escaped_byte.ensures
