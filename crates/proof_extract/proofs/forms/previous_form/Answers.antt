use Rattle.std.proofs.Common.{◌≡◌, ◌∙◌, ℕ, suc, ◌-◌, Some, ap, subst, arith}
use Rattle.std.specs.Prelude.{slice_get}
use Rattle.std.proofs.lemmas.Option.{slice_get_within}
use Rattle.hash_model.specs.Serialize.{serialize}
use Rattle.ledger_model.specs.Journal.{id_value}
use Rattle.proof_extract.proofs.Chain.{first_previous, next_pair}
use Rattle.proof_extract.proofs.Strings.{pair_sum, value_sum}
use Rattle.proof_extract.proofs.forms.previous_form.Goals as goal

pub returns-then-number-eq0-clause-form : goal.returns-then-number-eq0-clause-form
returns-then-number-eq0-clause-form c =
    let blocks = c.args.blocks.now in
    let b = c.args.block.now in
    let first : c.args.number ≡ 0 = omega arith in
    value_sum (id_value b.header.address.strand.raw) b.previous c.in_ok-form.form
    (c.in_ok-form.ensures ∙ ap serialize c.in_ok-strand.ensures)
    (first_previous blocks b c.requires.chained (subst (λ (k : ℕ). slice_get blocks k ≡ Some b) first c.requires.at))

pub block_at-before-requires : goal.block_at-before-requires
block_at-before-requires c =
    let within = slice_get_within c.args.blocks.now c.args.number c.args.block.now c.requires.at in omega (arith, within)

pub returns-clause-form : goal.returns-clause-form
returns-clause-form c =
    let blocks = c.args.blocks.now in
    let b = c.args.block.now in
    let before = c.block_at-before.result.now in
    let next : c.args.number ≡ suc (c.args.number - 1) = omega arith in
    pair_sum before.entries before.previous b.previous c.in_ok-pair.pair c.in_ok-pair.ensures.form
    (next_pair blocks (c.args.number - 1) b before c.requires.chained c.block_at-before.ensures
    (subst (λ (k : ℕ). slice_get blocks k ≡ Some b) next c.requires.at))
