use Rattle.std.proofs.Common.{◌∙◌, sym, ap, subst}
use Rattle.ql_types.specs.declared.Hash32.{Hash32}
use Rattle.hash_model.specs.PairHash.{dot32}
use Rattle.hash_model.specs.Serialize.{hash_of}
use Rattle.ledger_model.specs.Journal.{metadata_value}
use Rattle.tree_descent.specs.Pairs.{IsOnePair}
use Rattle.tree_descent.proofs.Stops.{stop_for}
use Rattle.proof_extract.specs.Extracts.{SameHashes}
use Rattle.proof_extract.proofs.Parts.{both_kept, kept_is}
use Rattle.proof_extract.proofs.revisions.same_pair.Goals as goal

pub one_pair-requires : goal.one_pair-requires
one_pair-requires c =
    let r = c.args.revision.now in
    let own = c.args.own.now in
    let part = c.args.part.now in
    let own_part = c.args.own_part.now in
    ap (λ (h : Hash32). dot32 h part) (c.in_ok-first.ensures ∙ ap hash_of c.in_ok-metadata.ensures)
    ∙ sym (c.requires.stated ∙ kept_is r.content r.metadata part c.requires.part) ∙ sym c.requires.same
    ∙ c.requires.own ∙ kept_is own.content own.metadata own_part c.requires.own_part
    ∙ sym (ap (λ (h : Hash32). dot32 h own_part) (c.in_ok-second.ensures ∙ ap hash_of c.in_ok-other.ensures))

pub returns : goal.returns
returns c =
    let r = c.args.revision.now in
    let own = c.args.own.now in
    let part = c.args.part.now in
    let own_part = c.args.own_part.now in
    let first = c.in_ok-first.ensures ∙ ap hash_of c.in_ok-metadata.ensures in
    let second = c.in_ok-second.ensures ∙ ap hash_of c.in_ok-other.ensures in
    stop_for (λ _. IsOnePair c.in_ok-first.first part c.in_ok-second.second own_part)
    (λ _. SameHashes r.content r.metadata own.content own.metadata)
    (λ _ pair. both_kept r.content own.content r.metadata own.metadata part own_part c.requires.part c.requires.own_part
    (subst (λ (h : Hash32). IsOnePair (hash_of (metadata_value r.metadata)) part h own_part) second
    (subst (λ (h : Hash32). IsOnePair h part c.in_ok-second.second own_part) first pair)))
    c.one_pair.result c.one_pair.ensures
