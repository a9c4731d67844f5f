use Rattle.std.proofs.Common.{map, subst}
use Rattle.std.specs.Prelude.{IsTrue}
use Rattle.ion_values.specs.Within.{all_true, within}
use Rattle.ion_binary_out.proofs.Written.{written_denotes}
use Rattle.ion_binary_out.proofs.stream.write_binary.Goals as goal

pub returns-clause-denotes : goal.returns-clause-denotes
returns-clause-denotes c =
    written_denotes c.args.values.now c.in_ok-bytes.bytes c.requires
    (subst (λ values. IsTrue (all_true (map within values))) c.as_slice.ensures c.values_are_within.ensures) c.in_ok-bytes.ensures
