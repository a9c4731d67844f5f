use Rattle.std.proofs.Common.{◌≡◌, ◌≤◌, ◌-◌, ◌++◌, drop, length, map}
use Rattle.ion_values.specs.Within.{all_true, within}
use Rattle.hash_model.specs.Serialize.{joined}
use Rattle.ion_binary_out.specs.BinaryText.{value_bytes}
use Rattle.ion_binary_out.proofs.sources.put_each.Given as goal

-- with the bytes of the values that are left it is all that is to be written, and those in front are within
abbrev pub invariant-each : goal.invariant-each
invariant-each g l = record {
  bound : l.at ≤ length (g.V.ValueSource.values l.source);
  left :
      l.out ++ joined (map (value_bytes l.symbols) (drop l.at (g.V.ValueSource.values l.source)))
      ≡ l.initial.out ++ joined (map (value_bytes l.symbols) (g.V.ValueSource.values l.source));
  ranges : all_true (map within (drop l.at (g.V.ValueSource.values l.source))) ≡ all_true (map within (g.V.ValueSource.values l.source));
}

abbrev pub decreases-each : goal.decreases-each
decreases-each g l = length (g.V.ValueSource.values l.source) - l.at
