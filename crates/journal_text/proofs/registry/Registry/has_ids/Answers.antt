use Rattle.ledger_model.specs.State.{state}
use Rattle.ledger_model.specs.Follows.{made_ids}
use Rattle.journal_text.proofs.Admits.{ids_refused, ids_told, made_is, small_number}
use Rattle.journal_text.proofs.registry.Registry.has_ids.Goals as goal

pub returns-then-not-are_made_by : goal.returns-then-not-are_made_by
returns-then-not-are_made_by c = λ before h own.
    let block = c.args.block.now in
    let made = made_is (state before) block c.as_slice.result.now c.as_slice-2.result.now c.in_ok-made.made.items c.add_new_ids.new.ids.items c.as_slice-made.result.now
    c.as_slice.ensures c.as_slice-2.ensures c.in_ok-made.ensures (c.in_ok-add_new_ids.ensures (state before).revisions h.documents) c.as_slice-made.ensures.value in
    ids_refused c.args.strand.raw block.header.tx.raw (made_ids (state before) block) c.as_slice-made.result.now c.are_made_by.result made
    (c.are_made_by.ensures (small_number c.args.strand.raw before block own)) c.if-not-are_made_by.true

pub returns : goal.returns
returns c = λ before h own.
    let block = c.args.block.now in
    let made = made_is (state before) block c.as_slice.result.now c.as_slice-2.result.now c.in_ok-made.made.items c.add_new_ids.new.ids.items c.as_slice-made.result.now
    c.as_slice.ensures c.as_slice-2.ensures c.in_ok-made.ensures (c.in_ok-add_new_ids.ensures (state before).revisions h.documents) c.as_slice-made.ensures.value in
    ids_told c.args.strand.raw block.header.tx.raw (made_ids (state before) block) c.as_slice-made.result.now c.are_made_by.result c.in_ok-differ.differ made
    (c.are_made_by.ensures (small_number c.args.strand.raw before block own)) c.if-not-are_made_by.false c.in_ok-differ.ensures
