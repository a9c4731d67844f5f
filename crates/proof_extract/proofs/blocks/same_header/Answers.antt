use Rattle.std.proofs.Common.{◌≡◌, ◌∙◌, sym, ap, subst, true}
use Rattle.ion_values.specs.Equivalent.{is_equivalent}
use Rattle.ion_values.specs.declared.value.Value.{Value}
use Rattle.hash_model.specs.Serialize.{hash_of}
use Rattle.ledger_model.specs.Journal.{header_value}
use Rattle.tree_descent.proofs.Stops.{stop_for}
use Rattle.proof_extract.specs.Extracts.{AreAlike}
use Rattle.proof_extract.proofs.blocks.same_header.Goals as goal

pub returns : goal.returns
returns c =
    let a = c.args.a.now in
    let b = c.args.b.now in
    let v = c.in_ok-v.ensures in
    let w = c.in_ok-w.ensures in
    stop_for (λ _. AreAlike c.in_ok-v.v c.in_ok-w.w)
    (λ _. (a.address.sequence ≡ b.address.sequence) × (a.revisions ≡ b.revisions))
    (λ _ alike. c.headers_agree.ensures a b
    (subst (λ (x : Value). is_equivalent (header_value a) x ≡ true) w
    (subst (λ (x : Value). is_equivalent x c.in_ok-w.w ≡ true) v (alike (ap hash_of v ∙ c.requires ∙ sym (ap hash_of w))))))
    c.alike.result c.alike.ensures
