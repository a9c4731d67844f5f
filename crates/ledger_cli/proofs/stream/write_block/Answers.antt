use Rattle.std.proofs.Common.{◌+◌, ◌++◌, List, arith, subst, take}
use Rattle.ledger_model.specs.Compaction.{compacted}
use Rattle.ledger_model.specs.declared.block.Schema.{Schema}
use Rattle.stream_out.specs.Named.{NamesStand}
use Rattle.stream_out.specs.Streams.{changes_in}
use Rattle.ledger_cli.specs.Streaming.{block_text}
use Rattle.ledger_cli.proofs.Pieces.{on_ok}
use Rattle.ledger_cli.proofs.Streaming.{as_many, changes_more, found_text, some_text}
use Rattle.ledger_cli.proofs.Written.{unmade, written_as}
use Rattle.ledger_cli.proofs.stream.write_block.Goals as goal

pub returns-in-Ok-clause-written : goal.returns-in-Ok-clause-written
returns-in-Ok-clause-written g c = λ h.
    let told = g.Si.Sink.told in
    let blocks = compacted c.args.shown.now.blocks.list in
    let at = c.args.at in
    let block = c.in-Ok.block in
    let before = changes_in (take at blocks) in
    written_as (told c.args.sink.now) (told c.write_records_of.new.sink) c.write_records_of.result _ (block_text blocks at)
    (found_text blocks at block c.in-Ok.ensures.block)
    (c.write_records_of.ensures (before ++ block.info.schema) (c.in-Ok.ensures.names before h))

pub returns-in-Ok-clause-names : goal.returns-in-Ok-clause-names
returns-in-Ok-clause-names g c = λ h.
    let blocks = compacted c.args.shown.now.blocks.list in
    let at = c.args.at in
    let block = c.in-Ok.block in
    let before = changes_in (take at blocks) in
    on_ok c.write_records_of.result
    (subst (λ (changes : List Schema). NamesStand changes c.next_block.new.names) (changes_more blocks at block c.in-Ok.ensures.block)
    (c.in-Ok.ensures.names before h))

pub returns-in-Err-clause-written : goal.returns-in-Err-clause-written
returns-in-Err-clause-written g c = λ h.
    let blocks = c.args.shown.now.blocks.list in
    unmade (g.Si.Sink.told c.args.sink.now) (block_text (compacted blocks) c.args.at)
    (some_text (compacted blocks) c.args.at (omega (arith, as_many blocks blocks, c.requires.within)))
