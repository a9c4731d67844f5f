use Rattle.std.proofs.Common.{◌∙◌, ◌/◌, ◌^◌, ap, drop, length, refl}
use Rattle.ql_types.proofs.Digits.{id_text-ascii, id_text-letters, length-digits_of, three_parts}
use Rattle.ql_types.proofs.id_digits.Goals as goal

pub returns-clause-text : goal.returns-clause-text
returns-clause-text c =
    three_parts c.args.raw (c.args.raw / 62 ^ 10) _ (drop 12 c.put_digits.new.text) (drop 2 c.put_digits-2.new.text) c.put_digits-3.new.text
    refl refl c.put_digits.ensures c.put_digits-2.ensures c.put_digits-3.ensures

pub returns-clause-letters : goal.returns-clause-letters
returns-clause-letters c = rw (returns-clause-text c) (id_text-letters c.args.raw)

pub returns-clause-ascii : goal.returns-clause-ascii
returns-clause-ascii c = rw (returns-clause-text c) (id_text-ascii c.args.raw)

pub returns-clause-long : goal.returns-clause-long
returns-clause-long c = ap length (returns-clause-text c) ∙ length-digits_of 22 c.args.raw
