use Rattle.std.proofs.Common.{◌≡◌, ◌∙◌, ℕ, suc, ◌-◌, Some, sym, subst, arith}
use Rattle.std.specs.Prelude.{slice_get}
use Rattle.ledger_model.specs.declared.block.Block.{Block}
use Rattle.ledger_model.specs.Journal.{header_value}
use Rattle.tree_descent.proofs.Stops.{stop_for}
use Rattle.proof_extract.proofs.Chain.{next_pair}
use Rattle.proof_extract.proofs.Found.{there}
use Rattle.proof_extract.proofs.Pairs.{in_pair}
use Rattle.proof_extract.proofs.Strings.{header_long, too_long, value_sum}
use Rattle.proof_extract.proofs.blocks.stop_at_previous.Goals as goal

pub stop_at_first-requires-clause-previous : goal.stop_at_first-requires-clause-previous
stop_at_first-requires-clause-previous c =
    there (λ (x : Block). c.args.climbed.now.entries ≡ x.previous) (slice_get c.args.blocks.now c.args.number)
    c.block_at-block.result.now c.block_at-block.ensures c.requires.previous

pub one_pair-requires : goal.one_pair-requires
one_pair-requires c =
    let blocks = c.args.blocks.now in
    let b = c.block_at-block.result.now in
    let before = c.block_at-before.result.now in
    let later = c.in_ok-stop_at_first.ensures in
    let next : c.args.number ≡ suc (c.args.number - 1) = omega (arith, later) in
    sym c.requires.stacked.entries
    ∙ there (λ (x : Block). c.args.climbed.now.entries ≡ x.previous) (slice_get blocks c.args.number) b
    c.block_at-block.ensures c.requires.previous
    ∙ next_pair blocks (c.args.number - 1) b before c.requires.chained c.block_at-before.ensures
    (subst (λ (k : ℕ). slice_get blocks k ≡ Some b) next c.block_at-block.ensures)

pub short_form-requires-clause-either : goal.short_form-requires-clause-either
short_form-requires-clause-either c =
    let climbed = c.args.climbed.now in
    let before = c.block_at-before.result.now in
    in_pair climbed.changes climbed.header before.entries before.previous c.in_ok-one_pair.ensures

pub stop_if_different-requires : goal.stop_if_different-requires
stop_if_different-requires c =
    value_sum (header_value c.args.proof.now.header) c.args.climbed.now.header c.in_ok-long.long c.in_ok-long.ensures
    c.requires.header
    ∙ sym c.in_ok-short.ensures.form

pub returns : goal.returns
returns c =
    let form = c.in_ok-long.long in
    let short = c.in_ok-short.short in
    stop_for (λ _. form ≡ short) (λ _. ⊥)
    (λ _ same. too_long form short
    (header_long c.four_fields_are_long.ensures c.args.proof.now.header form c.in_ok-long.ensures)
    c.in_ok-short.ensures.short same)
    c.stop_if_different.result c.stop_if_different.ensures
