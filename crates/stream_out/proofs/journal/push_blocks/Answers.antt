use Rattle.std.proofs.Common.{◌++◌, List, append-nil, take, subst, sym, arith}
use Rattle.ledger_model.specs.declared.block.Schema.{Schema}
use Rattle.stream_out.specs.Named.{NamesStand}
use Rattle.stream_out.specs.Streams.{changes_in, records_behind}
use Rattle.stream_out.proofs.Told.{blocks_end, blocks_step, changes_step}
use Rattle.stream_out.proofs.journal.push_blocks.Goals as goal

pub streamed-init : goal.streamed-init
streamed-init c = λ changes h. (
  subst (λ (cs : List Schema). NamesStand cs c.args.names.now) (sym (append-nil changes)) h,
  λ i. c.args.records.now ++ records_behind (append-nil changes i) c.args.blocks.now,
)

pub streamed-preserved : goal.streamed-preserved
streamed-preserved c = λ changes h.
    let now = c.streamed.invariant changes h in
    let i = c.streamed.block-index in
    let b = c.block-item.result in
    let before = changes ++ changes_in (take i c.args.blocks.now) in
    let names =
    subst (λ (schema : List Schema). NamesStand (before ++ schema) c.record_all.new.self) c.as_slice.ensures (c.in_ok-record_all.ensures before now.0) in (
      subst (λ (cs : List Schema). NamesStand cs c.record_all.new.self) (changes_step changes c.args.blocks.now i b (omega arith) c.block-item.is) names,
      blocks_step changes c.args.blocks.now i b (omega arith) c.block-item.is c.streamed.records c.push_block.new.records _ now.1
          (c.in_ok-push_block.ensures (before ++ b.info.schema) names),
    )

pub returns : goal.returns
returns c = λ changes h.
    blocks_end (changes ++ changes_in (take c.streamed.block-index c.args.blocks.now)) c.args.blocks.now c.streamed.block-index (omega arith) c.streamed.records _
    (c.streamed.invariant changes h).1
