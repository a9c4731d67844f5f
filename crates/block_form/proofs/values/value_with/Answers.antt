use Rattle.std.proofs.Common.{◌∙◌, ap}
use Rattle.ledger_model.specs.Journal.{structure}
use Rattle.block_form.proofs.values.value_with.Goals as goal

pub returns : goal.returns
returns c =
    let front = c.front_of-fields.ensures c.args.block.now.header c.requires.head in
    c.structure.ensures ∙ ap structure (rw (c.in_ok-put-2.ensures, c.in_ok-put.ensures, c.in_ok-put_hashes.ensures, front, c.requires.told, c.list.ensures, c.requires.revisions))
