use Rattle.std.proofs.Common.{◌≡◌, ◌∙◌, List, Some, None, ap, sym, subst}
use Rattle.std.specs.Prelude.{option_copied, slice_get}
use Rattle.ledger_model.specs.declared.block.Block.{Block}
use Rattle.ledger_model.specs.declared.block.Revision.{Revision}
use Rattle.redact_tool.specs.Redacting.{AreRedactions}
use Rattle.ledger_cli.proofs.Proving.{in_block, no_revision, no_table, same_count, shown_some}
use Rattle.ledger_cli.proofs.prove.shown_at.Goals as goal

pub returns-in_default-get : goal.returns-in_default-get
returns-in_default-get c =
    let blocks = c.args.blocks.now.list in
    let b = c.in-Some.block.now in
    let here : slice_get blocks c.args.sequence ≡ Some b = sym c.get.ensures ∙ ap (λ o. option_copied o) c.in-Some.is in
    let none : slice_get b.revisions c.args.index ≡ None = sym c.get-2.ensures.value ∙ ap (λ o. option_copied o) c.in_default-get.is in
    sym (in_block blocks c.args.sequence c.args.index b here ∙ no_revision blocks b.info.tables b.revisions c.args.index none)

pub returns-in_default-get-2 : goal.returns-in_default-get-2
returns-in_default-get-2 c =
    let blocks = c.args.blocks.now.list in
    let b = c.in-Some.block.now in
    let here : slice_get blocks c.args.sequence ≡ Some b = sym c.get.ensures ∙ ap (λ o. option_copied o) c.in-Some.is in
    let none : slice_get b.info.tables c.args.index ≡ None = sym c.get-3.ensures.value ∙ ap (λ o. option_copied o) c.in_default-get-2.is in
    let same = same_count blocks c.requires c.args.sequence b here in
    sym (in_block blocks c.args.sequence c.args.index b here ∙ no_table blocks b.info.tables b.revisions c.args.index same none)

pub returns : goal.returns
returns c =
    let blocks = c.args.blocks.now.list in
    let b = c.in-Some.block.now in
    let r = c.in-Some-get.revision.now in
    let t = c.in-Some-get-2.table.now in
    let here : slice_get blocks c.args.sequence ≡ Some b = sym c.get.ensures ∙ ap (λ o. option_copied o) c.in-Some.is in
    let revision_is : slice_get b.revisions c.args.index ≡ Some r = sym c.get-2.ensures.value ∙ ap (λ o. option_copied o) c.in-Some-get.is in
    let table_is : slice_get b.info.tables c.args.index ≡ Some t = sym c.get-3.ensures.value ∙ ap (λ o. option_copied o) c.in-Some-get-2.is in
    let redactions = subst (λ (bs : List Block). AreRedactions bs c.in_ok-redactions.redactions) c.as_slice.ensures c.in_ok-redactions.ensures in
    ap (λ (x : Revision). Some x) (c.in_ok-shown.ensures blocks redactions)
    ∙ sym (in_block blocks c.args.sequence c.args.index b here ∙ shown_some blocks b.info.tables b.revisions c.args.index t r table_is revision_is)
