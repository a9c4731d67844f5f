use Rattle.std.proofs.Common.{refl, arith}
use Rattle.ion_hash.proofs.Plain.{plain_front, all_plain}
use Rattle.ion_hash.proofs.scalars.plain_len.Goals as goal

pub returns-in-Some-clause-plain : goal.returns-in-Some-clause-plain
returns-in-Some-clause-plain c =
    let first = c.in-Some.ensures in
    plain_front _ c.args.bytes.now (λ k below is. first.0.before k (omega arith) below is) (omega (arith, first.0.high))

pub returns-in-None-clause-plain : goal.returns-in-None-clause-plain
returns-in-None-clause-plain c = all_plain _ c.args.bytes.now (λ k below is. c.in-None.ensures k (omega arith) below is) refl
