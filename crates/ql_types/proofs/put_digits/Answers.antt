use Rattle.std.proofs.Common.{rules, arith, ◌∙◌, ◌+◌, ◌-◌}
use Rattle.ql_types.proofs.Digits.{digits-more, digits-none}
use Rattle.ql_types.proofs.put_digits.Goals as goal

pub digits-preserved : goal.digits-preserved
digits-preserved c = record {
  long = search rules;
  so_far =
      let from = c.args.from in
      let count = c.args.count in
      let written = c.digits.written in
      let long = c.digits.invariant.long in
      digits-more c.digits.text (from + count - 1 - written) (count - 1 - written) c.digits.rest
      (count - (written + 1)) (count - written) (from + (count - (written + 1))) (from + (count - written))
      (omega arith) (omega arith) (omega arith) (omega arith) (omega (arith, long))
      ∙ c.digits.invariant.so_far;
}

pub returns : goal.returns
returns c =
    let left = c.args.count - c.digits.written in
    digits-none c.digits.text _ c.args.from (c.args.from + left) left c.digits.rest (omega arith) (omega arith) c.digits.invariant.so_far
