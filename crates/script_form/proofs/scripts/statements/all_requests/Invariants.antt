use Rattle.std.proofs.Common.{◌≡◌, length, drop}
use Rattle.ledger_model.specs.Script.{each, request_of}
use Rattle.script_form.proofs.Each.{behind}
use Rattle.script_form.proofs.scripts.statements.all_requests.Given as goal

-- what was made so far and what the rest gives is what all give
abbrev pub invariant-requests : goal.invariant-requests
invariant-requests l = behind l.asked (each request_of (drop (length l.yielded) l.fn.values)) ≡ each request_of l.fn.values
