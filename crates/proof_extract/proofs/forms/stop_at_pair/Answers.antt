use Rattle.std.proofs.Common.{◌≡◌, ◌∙◌, refl, sym}
use Rattle.hash_model.specs.PairHash.{dot32}
use Rattle.hash_model.specs.Serialize.{serialize}
use Rattle.tree_descent.proofs.Stops.{stop_for}
use Rattle.proof_extract.proofs.Strings.{as_long, no_pair, pair_sum, value_sum}
use Rattle.proof_extract.proofs.forms.stop_at_pair.Goals as goal

pub stop_if_different-requires : goal.stop_if_different-requires
stop_if_different-requires c =
    let a = c.args.a.now in
    let b = c.args.b.now in
    pair_sum a b (dot32 a b) c.in_ok-pair.pair c.in_ok-pair.ensures.form refl
    ∙ sym (value_sum c.args.longer.now (dot32 a b) c.in_ok-form.form c.in_ok-form.ensures c.requires.hash)

pub returns : goal.returns
returns c =
    let pair = c.in_ok-pair.pair in
    let form = c.in_ok-form.form in
    stop_for (λ _. pair ≡ form) (λ _. ⊥)
    (λ _ same. no_pair pair form c.in_ok-pair.ensures.long
    (as_long form (serialize c.args.longer.now) c.in_ok-form.ensures c.requires.long) same)
    c.stop_if_different.result c.stop_if_different.ensures
