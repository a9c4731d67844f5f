use Rattle.std.proofs.Common.{◌≡◌, ◌∙◌, sym, ap}
use Rattle.std.specs.Prelude.{IfSome, slice_get}
use Rattle.std.proofs.lemmas.Option.{slice_get_within}
use Rattle.ledger_model.specs.declared.block.Block.{Block}
use Rattle.tree_descent.proofs.Stops.{stop_for}
use Rattle.proof_extract.proofs.Chain.{hash_here}
use Rattle.proof_extract.proofs.Firsts.{other_bytes, same_bytes}
use Rattle.proof_extract.proofs.Found.{if_there, one_there}
use Rattle.proof_extract.proofs.Pairs.{crossed}
use Rattle.proof_extract.proofs.blocks.same_entries.Goals as goal

pub block_at-block-requires : goal.block_at-block-requires
block_at-block-requires c = slice_get_within c.args.blocks.now c.args.number c.requires.hash.block c.requires.hash.at

pub one_pair-requires : goal.one_pair-requires
one_pair-requires c =
    let blocks = c.args.blocks.now in
    let b = c.block_at-block.result.now in
    let there = c.block_at-block.ensures in
    sym c.requires.stacked.block ∙ sym c.requires.hash.hash
    ∙ ap (λ (x : Block). x.hash) (one_there (slice_get blocks c.args.number) c.requires.hash.block b c.requires.hash.at there)
    ∙ hash_here blocks c.requires.chained c.args.number b there

pub returns-then-eq : goal.returns-then-eq
returns-then-eq c =
    let entries = c.args.climbed.now.entries in
    let b = c.block_at-block.result.now in
    if_there (λ (x : Block). entries ≡ x.entries) (slice_get c.args.blocks.now c.args.number) b c.block_at-block.ensures
    (same_bytes entries b.entries c.eq.result c.eq.ensures c.if-eq.true)

pub stop_at_previous-requires-clause-within : goal.stop_at_previous-requires-clause-within
stop_at_previous-requires-clause-within c =
    slice_get_within c.args.blocks.now c.args.number c.requires.hash.block c.requires.hash.at

pub stop_at_previous-requires-clause-previous : goal.stop_at_previous-requires-clause-previous
stop_at_previous-requires-clause-previous c =
    let climbed = c.args.climbed.now in
    let b = c.block_at-block.result.now in
    let turned = crossed climbed.entries climbed.previous b.entries b.previous c.in_ok-one_pair.ensures
    (other_bytes climbed.entries b.entries c.eq.result c.eq.ensures c.if-eq.false) in
    if_there (λ (x : Block). climbed.entries ≡ x.previous) (slice_get c.args.blocks.now c.args.number) b
    c.block_at-block.ensures turned.0

pub returns : goal.returns
returns c =
    stop_for (λ _. ⊥)
    (λ _. IfSome (slice_get c.args.blocks.now c.args.number) (λ (x : Block). c.args.climbed.now.entries ≡ x.entries))
    (λ _ never. absurd never) c.stop_at_previous.result c.stop_at_previous.ensures
