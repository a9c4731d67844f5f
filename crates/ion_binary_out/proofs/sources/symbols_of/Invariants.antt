use Rattle.std.proofs.Common.{◌≡◌, ◌≤◌, ◌-◌, drop, length}
use Rattle.std.specs.Prelude.{fold}
use Rattle.std.specs.List.{flat_map}
use Rattle.ion_binary_out.specs.BinaryText.{symbols_of, texts_in, with_symbol}
use Rattle.ion_binary_out.proofs.sources.symbols_of.Given as goal

-- with the texts in the values that are left they are all symbols
abbrev pub invariant-each : goal.invariant-each
invariant-each g l = record {
  bound : l.at ≤ length (g.V.ValueSource.values l.source);
  left : fold with_symbol l.symbols (flat_map texts_in (drop l.at (g.V.ValueSource.values l.source))) ≡ symbols_of (g.V.ValueSource.values l.source);
}

abbrev pub decreases-each : goal.decreases-each
decreases-each g l = length (g.V.ValueSource.values l.source) - l.at
