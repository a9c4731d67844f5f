use Rattle.std.proofs.Common.{◌≡◌, ◌∙◌, List, length, Some, sym, ap, subst, arith}
use Rattle.std.specs.Prelude.{slice_get}
use Rattle.std.proofs.lemmas.List.{length-take-le}
use Rattle.std.proofs.lemmas.Option.{slice_get_within}
use Rattle.ql_types.specs.declared.Hash.TheVariants.{Full}
use Rattle.ql_types.specs.declared.Hash32.{Hash32}
use Rattle.hash_model.specs.Tree.{height_of}
use Rattle.pad_tree.specs.Paths.{folded}
use Rattle.ledger_model.specs.declared.block.Revision.{Revision}
use Rattle.ledger_model.specs.Seals.{revisions_root}
use Rattle.proof_model.specs.Verified.{block_height}
use Rattle.proof_model.proofs.Chains.{revision_is}
use Rattle.proof_extract.proofs.revisions.revision_in.Goals as goal

pub has_revision-requires-clause-long : goal.has_revision-requires-clause-long
has_revision-requires-clause-long c =
    let p = c.args.proof.now in
    let long = c.requires.long in
    ap length c.below.ensures ∙ length-take-le (block_height p) p.path (omega (arith, long))
    ∙ ap height_of (c.requires.header ∙ c.requires.revisions)
    ∙ ap (λ (rs : List Revision). height_of (length rs)) (sym c.as_slice-revisions.ensures)

pub has_revision-requires-clause-root : goal.has_revision-requires-clause-root
has_revision-requires-clause-root c =
    ap (λ (xs : List Hash32). Full (folded c.args.revision.now.hash xs)) c.below.ensures ∙ ap Full (sym c.requires.root)
    ∙ c.in_ok-same_root.ensures ∙ ap revisions_root (sym c.as_slice-revisions.ensures)

pub same_parts-requires-clause-own : goal.same_parts-requires-clause-own
same_parts-requires-clause-own c =
    let own = c.revision_at-own.result.now in
    revision_is c.args.block.now c.requires.hashes c.in-Some.index own
    (subst (λ (rs : List Revision). slice_get rs c.in-Some.index ≡ Some own) c.as_slice-revisions.ensures
    c.revision_at-own.ensures)

pub index_among-requires : goal.index_among-requires
index_among-requires c =
    let within = slice_get_within c.as_slice-revisions.result.now c.in-Some.index c.revision_at-own.result.now
    c.revision_at-own.ensures in
    let all = ap length c.as_slice-revisions.ensures in
    let count = c.requires.revisions in
    omega (arith, within, all, count)
