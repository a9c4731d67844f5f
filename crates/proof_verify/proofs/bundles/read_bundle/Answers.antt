use Rattle.std.proofs.Common.{◌≡◌, ◌∙◌, [], ◌∷◌, refl, sym, subst, inl, inr, codes, arith}
use Rattle.block_form.specs.ReadBack.{revision_in}
use Rattle.value_codec.proofs.Inverse.{cons}
use Rattle.block_form.proofs.OfRevisions.{revision-gets, revision-puts}
use Rattle.ledger_model.specs.Journal.{revision_value}
use Rattle.ledger_model.specs.Whole.{revision_fits}
use Rattle.proof_model.specs.ProofValues.{digest_value, digest_fits, proof_value, proof_fits}
use Rattle.proof_model.specs.ReadProofs.{digest_in, proof_in}
use Rattle.proof_model.proofs.Inverses.{digest-gets, digest-puts, proof-gets, proof-puts}
use Rattle.proof_verify.specs.Bundles.{IsUnreadable}
use Rattle.proof_verify.proofs.Reading.{spells, spells_none, three, unreadable}
use Rattle.proof_verify.proofs.bundles.read_bundle.Goals as goal

pub returns-in_default-digest_in-clause-unread : goal.returns-in_default-digest_in-clause-unread
returns-in_default-digest_in-clause-unread c =
    let a = c.digest-item.result in let b = c.revision-item.result in let d = c.proof-item.result in
    let is : c.args.v.now ≡ a ∷ b ∷ d ∷ [] = sym c.as_slice.ensures ∙ three c.as_slice.result.now a b d (omega arith) c.digest-item.is c.revision-item.is c.proof-item.is in
    subst (λ l. IsUnreadable l c.malformed-in_default-digest_in.result) (sym is)
    (unreadable (a ∷ b ∷ d ∷ []) (codes "digest") c.malformed-in_default-digest_in.result
    (inl (refl, spells_none digest_in digest_value digest_fits digest-puts a (sym c.digest_in.ensures ∙ c.in_default-digest_in.is)))
    c.malformed-in_default-digest_in.ensures)

pub returns-in_default-2-clause-unread : goal.returns-in_default-2-clause-unread
returns-in_default-2-clause-unread c =
    let a = c.digest-item.result in let b = c.revision-item.result in let d = c.proof-item.result in
    let is : c.args.v.now ≡ a ∷ b ∷ d ∷ [] = sym c.as_slice.ensures ∙ three c.as_slice.result.now a b d (omega arith) c.digest-item.is c.revision-item.is c.proof-item.is in
    let first = spells digest_in digest_value digest_fits digest-gets a c.in-Some.digest (sym c.digest_in.ensures ∙ c.in-Some.is) in
    subst (λ l. IsUnreadable l c.malformed-in_default-2.result) (sym is)
    (unreadable (a ∷ b ∷ d ∷ []) (codes "revision") c.malformed-in_default-2.result
    (inr (inl (refl, first, spells_none revision_in revision_value revision_fits revision-puts b (sym c.in_ok-revision.ensures ∙ c.in_default-2.is))))
    c.malformed-in_default-2.ensures)

pub returns-in_default-3-clause-unread : goal.returns-in_default-3-clause-unread
returns-in_default-3-clause-unread c =
    let a = c.digest-item.result in let b = c.revision-item.result in let d = c.proof-item.result in
    let is : c.args.v.now ≡ a ∷ b ∷ d ∷ [] = sym c.as_slice.ensures ∙ three c.as_slice.result.now a b d (omega arith) c.digest-item.is c.revision-item.is c.proof-item.is in
    let first = spells digest_in digest_value digest_fits digest-gets a c.in-Some.digest (sym c.digest_in.ensures ∙ c.in-Some.is) in
    let second = spells revision_in revision_value revision_fits revision-gets b c.in-Some-2.revision (sym c.in_ok-revision.ensures ∙ c.in-Some-2.is) in
    subst (λ l. IsUnreadable l c.malformed-in_default-3.result) (sym is)
    (unreadable (a ∷ b ∷ d ∷ []) (codes "proof") c.malformed-in_default-3.result
    (inr (inr (refl, first, second, spells_none proof_in proof_value proof_fits proof-puts d (sym c.in_ok-proof.ensures ∙ c.in_default-3.is))))
    c.malformed-in_default-3.ensures)

pub returns-clause-read : goal.returns-clause-read
returns-clause-read c =
    let a = c.digest-item.result in let b = c.revision-item.result in let d = c.proof-item.result in
    let is : c.args.v.now ≡ a ∷ b ∷ d ∷ [] = sym c.as_slice.ensures ∙ three c.as_slice.result.now a b d (omega arith) c.digest-item.is c.revision-item.is c.proof-item.is in
    let e = digest-gets a c.in-Some.digest (sym c.digest_in.ensures ∙ c.in-Some.is) in
    let f = revision-gets b c.in-Some-2.revision (sym c.in_ok-revision.ensures ∙ c.in-Some-2.is) in
    let g = proof-gets d c.in-Some-3.proof (sym c.in_ok-proof.ensures ∙ c.in-Some-3.is) in
    (is ∙ cons e.0 (cons f.0 (cons g.0 refl)), f.1)

pub returns-clause-within : goal.returns-clause-within
returns-clause-within c =
    let a = c.digest-item.result in let d = c.proof-item.result in (
      (digest-gets a c.in-Some.digest (sym c.digest_in.ensures ∙ c.in-Some.is)).1,
      (proof-gets d c.in-Some-3.proof (sym c.in_ok-proof.ensures ∙ c.in-Some-3.is)).1,
    )
