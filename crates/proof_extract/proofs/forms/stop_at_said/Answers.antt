use Rattle.std.proofs.Common.{◌≡◌, ◌∙◌, refl, ap}
use Rattle.ql_types.specs.declared.Hash32.{Hash32}
use Rattle.hash_model.specs.PairHash.{dot32}
use Rattle.tree_descent.proofs.Stops.{stop_for}
use Rattle.proof_extract.proofs.Strings.{form_sum, no_pair, pair_sum}
use Rattle.proof_extract.proofs.forms.stop_at_said.Goals as goal

pub stop_if_different-requires : goal.stop_if_different-requires
stop_if_different-requires c =
    let a = c.args.a.now in
    let b = c.args.b.now in
    let block = c.args.block.now in
    pair_sum a b (dot32 a b) c.in_ok-pair.pair c.in_ok-pair.ensures.form refl ∙ ap (λ (h : Hash32). h.bytes) c.requires.hash
    ∙ form_sum block.info block.revisions c.in_ok-info.info c.in_ok-info.ensures.form

pub returns : goal.returns
returns c =
    let pair = c.in_ok-pair.pair in
    let info = c.in_ok-info.info in
    stop_for (λ _. pair ≡ info) (λ _. ⊥) (λ _ same. no_pair pair info c.in_ok-pair.ensures.long c.in_ok-info.ensures.long same)
    c.stop_if_different.result c.stop_if_different.ensures
