use Rattle.std.proofs.Common.{◌≡◌, ◌∙◌, ◌≤◌, sym, ap}
use Rattle.ql_types.specs.declared.Hash32.{Hash32}
use Rattle.tree_descent.proofs.Stops.{stop_for}
use Rattle.proof_extract.proofs.Strings.{not_first, pair_sum}
use Rattle.proof_extract.proofs.blocks.stop_at_first.Goals as goal

pub stop_if_different-requires : goal.stop_if_different-requires
stop_if_different-requires c =
    let climbed = c.args.climbed.now in
    pair_sum climbed.changes climbed.header climbed.entries c.in_ok-pair.pair c.in_ok-pair.ensures.form c.requires.stacked.entries
    ∙ ap (λ (h : Hash32). h.bytes) c.requires.previous ∙ sym c.in_ok-form.ensures.form

pub returns : goal.returns
returns c =
    let form = c.in_ok-form.form in
    let pair = c.in_ok-pair.pair in
    stop_for (λ _. pair ≡ form) (λ _. 1 ≤ c.args.number)
    (λ _ same. not_first c.args.number form pair (sym same) c.in_ok-pair.ensures.long c.in_ok-form.ensures.first)
    c.stop_if_different.result c.stop_if_different.ensures
