use Rattle.std.proofs.Common.{◌∙◌, [], ap}
use Rattle.std.specs.List.{cons_option}
use Rattle.ledger_model.specs.Journal.{structure}
use Rattle.block_form.proofs.OfContents.{data_fields-is}
use Rattle.block_form.proofs.revisions.revision_with.Goals as goal

pub returns : goal.returns
returns c = c.structure.ensures ∙ ap structure (rw (c.in_ok-put-3.ensures, c.in_ok-put_some.ensures, ap (λ f. cons_option f []) c.requires.field, data_fields-is c.args.revision.now.content, c.in_ok-put-2.ensures, c.in_ok-put.ensures, c.in_ok-address_value.ensures, c.in_ok-hash_value.ensures, c.requires.metadata, c.new-fields.ensures))
