use Rattle.std.proofs.Common.{◌≡◌, ◌+◌, length, drop}
use Rattle.ledger_model.specs.ReadScript.{read_each, read_placed}
use Rattle.script_form.proofs.Each.{read_behind}
use Rattle.script_form.proofs.scripts.read_jobs.Given as goal

-- what was read so far and what the rest is read as is what all are read as
abbrev pub invariant-jobs : goal.invariant-jobs
invariant-jobs l = record {
  count : l.transaction ≡ length l.yielded;
  so_far :
      read_behind l.jobs (read_each (read_placed l.session) (length l.yielded + 1) (drop (length l.yielded) l.fn.members))
      ≡ read_each (read_placed l.session) 1 l.fn.members;
}
