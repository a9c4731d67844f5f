use Rattle.std.proofs.Common.{append_assoc}
use Rattle.ion_binary.proofs.Digits.{digits_of-first, digits_of-more}
use Rattle.ion_binary.proofs.numbers.+put_digits.Goals as goal

pub returns-then-number-limit : goal.returns-then-number-limit
returns-then-number-limit t c =
    rw (digits_of-first c.args.base c.args.limit c.args.mark c.args.number c.if-number-limit.true) c.push.ensures.ok

pub returns-in_ok-put_digits : goal.returns-in_ok-put_digits
returns-in_ok-put_digits t c =
    let more = digits_of-more c.args.base c.args.limit c.args.mark c.args.number c.requires.least c.requires.some c.if-number-limit.false in
    rw (more, ← append_assoc, ← c.in_ok-put_digits.ensures) c.push-else-number-limit.ensures.ok
