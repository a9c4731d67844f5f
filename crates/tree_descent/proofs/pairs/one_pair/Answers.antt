use Rattle.std.proofs.Common.{◌≡◌, ◌∙◌, sym, ap}
use Rattle.sha2.specs.Sha256.{sha256}
use Rattle.tree_descent.specs.Pairs.{IsOnePair}
use Rattle.tree_descent.proofs.OnePair.{one_sum, pair_forms_determine_pairs}
use Rattle.tree_descent.proofs.Stops.{stop_for}
use Rattle.tree_descent.proofs.pairs.one_pair.Goals as goal

pub stop_if_different-requires : goal.stop_if_different-requires
stop_if_different-requires c =
    ap sha256 c.in_ok-first.ensures ∙ one_sum c.args.a.now c.args.b.now c.args.c.now c.args.d.now c.requires
    ∙ sym (ap sha256 c.in_ok-second.ensures)

pub returns : goal.returns
returns c =
    let v = c.args.a.now in
    let w = c.args.b.now in
    let x = c.args.c.now in
    let y = c.args.d.now in
    stop_for (λ _. c.in_ok-first.first ≡ c.in_ok-second.second) (λ _. IsOnePair v w x y)
    (λ _ e. pair_forms_determine_pairs v w x y c.hash_is_long.ensures c.hash_is_long-2.ensures c.hash_is_long-3.ensures
    c.hash_is_long-4.ensures (sym c.in_ok-first.ensures ∙ e ∙ c.in_ok-second.ensures))
    c.stop_if_different.result c.stop_if_different.ensures
