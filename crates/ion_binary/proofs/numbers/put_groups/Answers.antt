use Rattle.std.proofs.Common.{append_assoc, lit≤}
use Rattle.ion_binary.proofs.Digits.{digits_of-first, digits_of-more, ended-last, ended-one}
use Rattle.ion_binary.proofs.numbers.put_groups.Goals as goal

pub returns-then-number-limit : goal.returns-then-number-limit
returns-then-number-limit c =
    rw (digits_of-first 128 c.args.limit c.args.mark c.args.number c.if-number-limit.true, ended-one) c.push.ensures.ok

pub returns-in_ok-put_digits : goal.returns-in_ok-put_digits
returns-in_ok-put_digits c =
    let more = digits_of-more 128 c.args.limit c.args.mark c.args.number (lit≤ tt) c.requires.some c.if-number-limit.false in
    rw (more, ended-last, ← append_assoc, ← c.in_ok-put_digits.ensures) c.push-else-number-limit.ensures.ok
