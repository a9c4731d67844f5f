use Rattle.std.proofs.Common.{◌≡◌, ◌++◌, take}
use Rattle.script_form.proofs.reports.pieces.put_id.Given as goal

abbrev pub invariant-digits : goal.invariant-digits
invariant-digits l = l.out ≡ l.initial.out ++ take l.digit-index l.digit-items
