use Rattle.std.proofs.Common.{ℕ, List, ◌+◌, ◌-◌, ◌*◌, refl, sym, drop, filter, get_or, arith}
use Rattle.std.specs.Char.{is_ascii_digit}
use Rattle.pql_lexer.proofs.DecimalDigits.{at_least, taken}
use Rattle.pql_lexer.proofs.numbers.magnitude.Goals as goal

pub returns-in_err-number : goal.returns-in_err-number
returns-in_err-number c =
    let text : List ℕ = c.args.text.now in
    let at : ℕ = c.digits.b-index in
    let more : ℕ = c.digits.number * 10 + (get_or text at 0 - 48) in
    let least = at_least more (filter is_ascii_digit (drop (at + 1) text)) in
    let same = taken c.digits.number at more text c.digits-test.true (sym c.if-is_ascii_digit.ensures.value) refl in
    rw c.from_residual.ensures (λ small. c.in_err-number.ensures (omega (arith, least, same, c.digits.invariant.same, small)))
