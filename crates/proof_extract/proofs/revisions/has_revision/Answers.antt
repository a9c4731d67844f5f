use Rattle.std.proofs.Common.{◌≡◌, ◌∙◌, List, length, Some, sym, ap, subst}
use Rattle.std.specs.Prelude.{slice_get}
use Rattle.std.proofs.lemmas.List.{length-map}
use Rattle.ql_types.specs.declared.Hash32.{Hash32}
use Rattle.hash_model.specs.Tree.{height_of, root_of}
use Rattle.ledger_model.specs.declared.block.Revision.{Revision}
use Rattle.proof_extract.proofs.Upward.{ends_at, ends_at_pad, revision_of}
use Rattle.proof_extract.proofs.revisions.has_revision.Goals as goal

pub descend-requires-clause-long : goal.descend-requires-clause-long
descend-requires-clause-long c =
    c.requires.long ∙ ap height_of (sym (length-map c.args.revisions.now (λ (r : Revision). r.hash)))
    ∙ ap (λ (xs : List Hash32). height_of (length xs)) (sym (c.as_slice.ensures ∙ c.in_ok-leaves.ensures))

pub descend-requires-clause-root : goal.descend-requires-clause-root
descend-requires-clause-root c =
    c.requires.root ∙ ap root_of (sym (c.as_slice.ensures ∙ c.in_ok-leaves.ensures))

pub returns-in-Some : goal.returns-in-Some
returns-in-Some c =
    let h = c.args.revision.now.hash in
    let index = c.in-Some.field-0 in
    let there = ends_at c.as_slice.result.now h c.in_ok-end.end index c.in-Some.is c.in_ok-end.ensures in
    revision_of c.args.revisions.now h index
    (subst (λ (xs : List Hash32). slice_get xs index ≡ Some h) (c.as_slice.ensures ∙ c.in_ok-leaves.ensures) there)

pub not_a_pad-requires-clause-hash : goal.not_a_pad-requires-clause-hash
not_a_pad-requires-clause-hash c =
    c.in_ok-form-in-None.ensures.form
    ∙ ap (λ (h : Hash32). h.bytes)
    (ends_at_pad c.as_slice.result.now c.args.revision.now.hash c.in_ok-end.end c.in-None.is c.in_ok-end.ensures)

pub not_a_pad-requires-clause-long : goal.not_a_pad-requires-clause-long
not_a_pad-requires-clause-long c = c.in_ok-form-in-None.ensures.long
