use Rattle.std.proofs.Common.{◌≡◌, ◌≢◌, ◌∙◌, sym, ap}
use Rattle.sha2.specs.Sha256.{sha256}
use Rattle.hash_model.specs.Serialize.{field_hash}
use Rattle.ion_extract.proofs.Hashes.{field_is}
use Rattle.tree_descent.proofs.Stops.{apart, equal, stop_for}
use Rattle.proof_extract.proofs.forms.other_field.Goals as goal

pub returns-then-ne : goal.returns-then-ne
returns-then-ne c =
    λ e. apart c.ne.result c.in_ok-first.first c.in_ok-second.second c.ne.ensures c.if-ne.true
    (c.in_ok-first.ensures ∙ e ∙ sym c.in_ok-second.ensures)

pub stop_if_different-requires : goal.stop_if_different-requires
stop_if_different-requires c =
    let left = c.in_ok-first.ensures ∙ field_is c.args.f.now ∙ sym (ap sha256 c.in_ok-form.ensures) in
    let right = c.in_ok-second.ensures ∙ field_is c.args.g.now ∙ sym (ap sha256 c.in_ok-other.ensures) in
    sym left ∙ equal c.ne.result c.in_ok-first.first c.in_ok-second.second c.ne.ensures c.if-ne.false ∙ right

pub returns : goal.returns
returns c =
    let f = c.args.f.now in
    let g = c.args.g.now in
    stop_for (λ _. c.in_ok-form.form ≡ c.in_ok-other.other) (λ _. field_hash f ≢ field_hash g)
    (λ _ same. absurd (c.requires (c.field_form_is_injective.ensures f g (sym c.in_ok-form.ensures ∙ same ∙ c.in_ok-other.ensures)).0))
    c.stop_if_different.result c.stop_if_different.ensures
