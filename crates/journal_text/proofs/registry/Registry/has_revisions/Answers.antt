use Rattle.std.proofs.Common.{◌∙◌, sym}
use Rattle.ledger_model.specs.State.{state}
use Rattle.journal_text.proofs.Admits.{created_keys, differ_part, document_ids_told, refused_first, revisions_part, told}
use Rattle.journal_text.proofs.registry.Registry.has_revisions.Goals as goal

pub returns-then-not-have_all : goal.returns-then-not-have_all
returns-then-not-have_all c = λ strand before h.
    let keys = created_keys c.args.block.now c.in_ok-created-2.created c.as_slice-2.result.now c.in_ok-created.created.items c.as_slice.result.now
    c.in_ok-created-2.ensures c.as_slice-2.ensures.value c.in_ok-created.ensures c.as_slice.ensures in
    refused_first (revisions_part (state before) c.args.block.now) (differ_part c.args.block.now) (sym (c.have_all.ensures strand before h keys) ∙ c.if-not-have_all.true)

pub returns : goal.returns
returns c = λ strand before h.
    let keys = created_keys c.args.block.now c.in_ok-created-2.created c.as_slice-2.result.now c.in_ok-created.created.items c.as_slice.result.now
    c.in_ok-created-2.ensures c.as_slice-2.ensures.value c.in_ok-created.ensures c.as_slice.ensures in
    told (revisions_part (state before) c.args.block.now) (differ_part c.args.block.now) c.in_ok-differ.differ (sym (c.have_all.ensures strand before h keys) ∙ c.if-not-have_all.false)
    (document_ids_told c.args.block.now c.as_slice-3.result.now c.in_ok-documents.documents.items c.as_slice-4.result.now c.in_ok-differ.differ
    c.in_ok-differ.ensures c.as_slice-4.ensures.value c.in_ok-documents.ensures c.as_slice-3.ensures)
