use Rattle.std.proofs.Common.{◌∙◌, Bool, List, ap}
use Rattle.ql_types.specs.declared.TableId.{TableId}
use Rattle.ledger_model.specs.declared.block.Info.{Info}
use Rattle.ledger_model.specs.declared.block.Revision.{Revision}
use Rattle.ledger_model.specs.Compaction as spec
use Rattle.redact_tool.proofs.blocks.compacted_block.Goals as goal

pub returns : goal.returns
returns c = λ blocks later h e.
    let b = c.args.block.now in
    let info = c.in_ok-info.ensures ∙ ap (λ (x : Bool). record b.info { said = spec.shown_told x b.info.said }) e in
    let revisions = c.in_ok-revisions.ensures blocks h
    ∙ ap (λ (ts : List TableId). spec.shown_revisions blocks ts c.as_slice.result.now) c.as_slice-tables.ensures
    ∙ ap (λ (rs : List Revision). spec.shown_revisions blocks b.info.tables rs) c.as_slice.ensures in
    c.block_with.ensures
    ∙ ap (λ (i : Info). record b { info = i; revisions = c.in_ok-revisions.revisions }) info
    ∙ ap (λ (rs : List Revision). record (spec.compacted_block blocks b later) { revisions = rs }) revisions
