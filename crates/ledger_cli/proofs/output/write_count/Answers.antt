use Rattle.std.proofs.Common.{◌∙◌}
use Rattle.ledger_cli.proofs.Pieces.{count_broken_second, count_broken_last, on_err}
use Rattle.ledger_cli.proofs.output.write_count.Goals as goal

pub returns-in_err-write_all-2-clause-broken : goal.returns-in_err-write_all-2-clause-broken
returns-in_err-write_all-2-clause-broken g c =
    let told = g.Si.Sink.told in
    on_err _
    (count_broken_second (told c.args.sink.now) (told c.write_all.new.sink) (told c.write_all-2.new.sink) (told c.write_all-2.new.sink) c.args.front.now c.as_bytes.result.now
    c.as_bytes-2.result.now c.args.count c.as_bytes.ensures.value (c.as_bytes-2.ensures.value ∙ c.format-digits.ensures.text)
    c.in_ok-write_all.ensures.written c.in_err-write_all-2.ensures.broken)

pub returns-in_err-write_all-3-clause-broken : goal.returns-in_err-write_all-3-clause-broken
returns-in_err-write_all-3-clause-broken g c =
    let told = g.Si.Sink.told in
    on_err _
    (count_broken_last (told c.args.sink.now) (told c.write_all.new.sink) (told c.write_all-2.new.sink) (told c.write_all-3.new.sink) c.args.front.now c.as_bytes.result.now
    c.as_bytes-2.result.now c.args.count c.as_bytes.ensures.value (c.as_bytes-2.ensures.value ∙ c.format-digits.ensures.text)
    c.in_ok-write_all.ensures.written c.in_ok-write_all-2.ensures.written c.in_err-write_all-3.ensures.broken)
