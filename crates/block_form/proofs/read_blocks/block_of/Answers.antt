use Rattle.std.proofs.Common.{◌∙◌, ◌∷◌, [], List, arith, drop, sym, ap, take}
use Rattle.ion_values.specs.declared.value.Field.{Field}
use Rattle.block_form.specs.ReadBack.{parts_of}
use Rattle.block_form.proofs.OfBlocks.{nine_parts}
use Rattle.block_form.proofs.read_blocks.block_of.Goals as goal

pub returns : goal.returns
returns c =
    let rest = c.pop-2.new.self in
    let behind = c.in-Some-pop.info ∷ c.in-Some.revisions ∷ [] in
    c.in_ok-block.ensures
    ∙ ap (λ (fs : List Field). parts_of fs c.split_at.result.1.now behind) (c.split_at.ensures.front ∙ ap (λ (fs : List Field). take 3 fs) c.as_slice.ensures)
    ∙ ap (λ (fs : List Field). parts_of (take 3 rest) fs behind) (c.split_at.ensures.back ∙ ap (λ (fs : List Field). drop 3 fs) c.as_slice.ensures)
    ∙ sym (nine_parts c.args.fields c.pop.new.self rest c.in-Some-pop.info c.in-Some.revisions (omega arith) c.in-Some.ensures c.in-Some-pop.ensures)
