use Rattle.std.proofs.Common.{◌+◌, ◌*◌, ◌∙◌, sym, refl, drop, arith}
use Rattle.ion_model.specs.Numbers.{digits_in}
use Rattle.ion_lexer.proofs.Digits.{at_least, taken, passed}
use Rattle.ion_lexer.proofs.number.digits.magnitude.Goals as goal
use Rattle.ion_lexer.proofs.number.digits.magnitude.Goals.{in-Some+in_ok-number, in_default}

pub returns-in_err-number : goal.returns-in_err-number
returns-in_err-number c =
    let more = c.loop-b.number * c.args.base + c.in-Some.digit in
    let least = at_least c.args.base more (digits_in c.args.base (drop (c.loop-b.b-index + 1) c.args.text.now)) c.requires.low in
    let same =
    taken c.args.base c.loop-b.number c.loop-b.b-index c.from.result c.in-Some.digit more c.args.text.now c.loop-b-test.true c.from.ensures
    c.in-Some.ensures.value.0 c.in-Some.ensures.value.1 refl in
    rw c.from_residual.ensures (λ small. c.in_err-number.ensures (omega (arith, least, same, c.loop-b.invariant.same, small)))

pub loop-b-preserved : goal.loop-b-preserved
loop-b-preserved c =
    elim c.match-to_digit.branch [
      | in-Some+in_ok-number w ↦ record {
        fits = omega (arith, w.in_ok-number.ensures, w.number-is);
        same =
            sym (taken c.args.base c.loop-b.number c.loop-b.b-index c.from.result w.in-Some.digit c.match-to_digit.number c.args.text.now c.loop-b-test.true
            c.from.ensures w.in-Some.ensures.value.0 w.in-Some.ensures.value.1 (w.number-is ∙ w.in_ok-number.ensures.1))
            ∙ c.loop-b.invariant.same;
      }
      | in_default w ↦ record {
        fits = omega (arith, w.number-is);
        same =
            sym (passed c.args.base c.loop-b.number c.loop-b.b-index c.from.result c.match-to_digit.number c.args.text.now c.loop-b-test.true c.from.ensures
            w.in_default.ensures.value w.number-is)
            ∙ c.loop-b.invariant.same;
      }
    ]
