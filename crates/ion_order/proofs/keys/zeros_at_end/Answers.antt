use Rattle.std.proofs.Common.{◌≡◌, ◌<◌, ◌+◌, ◌/◌, suc, refl, arith}
use Rattle.ion_order.specs.Key.{zeros_of}
use Rattle.ion_order.proofs.Zeros.{few_zeros, zeros_of-more, zeros_of-none}
use Rattle.ion_order.proofs.keys.zeros_at_end.Goals as goal

pub zeros-init : goal.zeros-init
zeros-init c =
    record { told = omega arith; some = c.requires.some; few = few_zeros c.args.number c.requires.some c.requires.most }

pub overflow_add-zeros : goal.overflow_add-zeros
overflow_add-zeros c = record { fits = omega arith }

pub zeros-smaller : goal.zeros-smaller
zeros-smaller c =
    let more : zeros_of c.zeros.rest ≡ suc (zeros_of (c.zeros.rest / 10)) = zeros_of-more c.zeros.rest c.zeros.invariant.some c.zeros-test.true in
    let less : zeros_of (c.zeros.rest / 10) < zeros_of c.zeros.rest = omega arith in
    less

pub zeros-preserved : goal.zeros-preserved
zeros-preserved c =
    let more : zeros_of c.zeros.rest ≡ suc (zeros_of (c.zeros.rest / 10)) = zeros_of-more c.zeros.rest c.zeros.invariant.some c.zeros-test.true in
    record { told = omega arith; some = omega arith; few = c.zeros.invariant.few }

pub returns-clause-value : goal.returns-clause-value
returns-clause-value c =
    let none : zeros_of c.zeros.rest ≡ 0 = zeros_of-none c.zeros.rest c.zeros-test.false in
    omega arith
