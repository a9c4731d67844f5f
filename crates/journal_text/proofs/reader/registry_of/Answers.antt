use Rattle.std.proofs.Common.{◌∙◌, List, sym, subst, arith}
use Rattle.ledger_model.specs.declared.block.Block.{Block}
use Rattle.journal_text.specs.Reading.{StandsBehind}
use Rattle.journal_text.proofs.Fed.{hashes_at, stands_all, stands_first, stands_next}
use Rattle.journal_text.proofs.reader.registry_of.Goals as goal

pub admitted-init : goal.admitted-init
admitted-init c = stands_first c.args.blocks.now c.new-registry.result c.new-registry.ensures

pub damage_of-requires-clause-stands : goal.damage_of-requires-clause-stands
damage_of-requires-clause-stands c =
    subst (λ (bs : List Block). StandsBehind bs c.admitted.registry) (sym c.split_at.ensures.front) c.admitted.invariant c.index-blocks-at.result

pub damage_of-requires-clause-hashes : goal.damage_of-requires-clause-hashes
damage_of-requires-clause-hashes c = hashes_at c.args.blocks.now c.admitted.at c.index-blocks-at.result c.requires (omega arith) c.index-blocks-at.is

pub admitted-preserved : goal.admitted-preserved
admitted-preserved c =
    stands_next c.args.blocks.now c.split_at.result.0.now c.admitted.at c.index-blocks-at.result c.damage_of.new.registry c.requires (omega arith) c.split_at.ensures.front
    c.index-blocks-at.is (λ none. c.in_ok-damage_of.ensures.stands (c.in_ok-damage_of.ensures.kind ∙ none))

pub returns : goal.returns
returns c = stands_all c.args.blocks.now c.admitted.at c.admitted.registry (omega arith) c.admitted.invariant
