use Rattle.std.proofs.Common.{◌≡◌, ◌+◌, length, drop}
use Rattle.ledger_model.specs.ReadScript.{read_each, read_session}
use Rattle.script_form.proofs.Each.{read_behind}
use Rattle.script_form.proofs.scripts.read_sessions.Given as goal

-- what was read so far and what the rest is read as is what all are read as
abbrev pub invariant-sessions : goal.invariant-sessions
invariant-sessions l = record {
  count : l.session ≡ length l.yielded;
  so_far :
      read_behind l.script (read_each read_session (length l.yielded + 1) (drop (length l.yielded) l.fn.values))
      ≡ read_each read_session 1 l.fn.values;
}
