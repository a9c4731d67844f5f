use Rattle.std.proofs.Common.{◌++◌, List, subst, arith, take, take_all}
use Rattle.ledger_model.specs.declared.block.Schema.{Schema}
use Rattle.ledger_model.specs.declared.block.Block.{Block}
use Rattle.stream_out.specs.Named.{NamesStand}
use Rattle.stream_out.specs.Streams.{changes_in}
use Rattle.stream_out.proofs.Named.{changes_more}
use Rattle.stream_out.proofs.journal.names_in.Goals as goal

pub changes-init : goal.changes-init
changes-init c = c.new-names.ensures

pub changes-preserved : goal.changes-preserved
changes-preserved c =
    let i = c.changes.block-index in
    let before = changes_in (take i c.args.blocks.now) in
    subst (λ (cs : List Schema). NamesStand cs c.record_all.new.self) (changes_more c.args.blocks.now i c.block-item.result (omega arith) c.block-item.is)
    (subst (λ (schema : List Schema). NamesStand (before ++ schema) c.record_all.new.self) c.as_slice.ensures (c.in_ok-record_all.ensures before c.changes.invariant))

pub returns : goal.returns
returns c =
    subst (λ (bs : List Block). NamesStand (changes_in bs) c.changes.names) (take_all c.changes.block-index c.args.blocks.now (omega arith)) c.changes.invariant
