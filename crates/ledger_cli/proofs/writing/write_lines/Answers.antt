use Rattle.std.proofs.Common.{◌≡◌, Err, arith, rules}
use Rattle.std.specs.List.{flat_map}
use Rattle.cli_model.specs.Outputs.{value_line}
use Rattle.ledger_cli.proofs.Written.{all_written, begun, one_broke, one_more}
use Rattle.ledger_cli.proofs.writing.write_lines.Goals as goal

pub lines-init : goal.lines-init
lines-init g c =
    begun (g.Si.Sink.told c.args.sink.now) (flat_map (λ one. value_line (g.L.Lined.value one)) c.args.all.now)

pub lines-preserved : goal.lines-preserved
lines-preserved g c =
    let told = g.Si.Sink.told in
    one_more (λ one. value_line (g.L.Lined.value one)) c.args.all.now c.lines.one-index c.one-item.result
    (told c.args.sink.now) (told c.lines.sink) (told c.write_line.new.sink) _
    (omega arith) c.one-item.is c.lines.invariant c.in_ok-write_line.ensures

pub returns-in_err-write_line : goal.returns-in_err-write_line
returns-in_err-write_line g c =
    let told = g.Si.Sink.told in
    let out : c.from_residual.result ≡ Err c.in_err-write_line.field-0.0 = search rules in
    one_broke (λ one. value_line (g.L.Lined.value one)) c.args.all.now c.lines.one-index c.one-item.result
    (told c.args.sink.now) (told c.lines.sink) (told c.write_line.new.sink) c.in_err-write_line.field-0.0 c.from_residual.result
    (omega arith) c.one-item.is out c.lines.invariant c.in_err-write_line.ensures

pub returns : goal.returns
returns g c =
    all_written (λ one. value_line (g.L.Lined.value one)) c.args.all.now c.lines.one-index
    (g.Si.Sink.told c.args.sink.now) (g.Si.Sink.told c.lines.sink) (omega arith) c.lines.invariant
