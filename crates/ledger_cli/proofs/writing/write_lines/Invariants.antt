use Rattle.std.proofs.Common.{drop}
use Rattle.std.specs.List.{flat_map}
use Rattle.cli_model.specs.Outputs.{value_line}
use Rattle.ledger_cli.proofs.Written.{IsBegun}
use Rattle.ledger_cli.proofs.writing.write_lines.Given as goal

-- the lines of the rest are left
abbrev pub invariant-lines : goal.invariant-lines
invariant-lines g l =
    let each = flat_map (λ one. value_line (g.L.Lined.value one)) in
    IsBegun (g.Si.Sink.told l.initial.sink) (g.Si.Sink.told l.sink) (each (drop l.one-index l.all)) (each l.all)
