use Rattle.std.proofs.Common.{◌∙◌, sym, ap}
use Rattle.ql_types.specs.declared.Hash32.{Hash32}
use Rattle.hash_model.specs.PairHash.{dot32}
use Rattle.hash_model.specs.Serialize.{hash_of, serialize}
use Rattle.proof_extract.proofs.Parts.{deleted_is, kept_is}
use Rattle.proof_extract.proofs.Strings.{metadata_long}
use Rattle.proof_extract.proofs.revisions.stop_at_delete.Goals as goal

pub stop_at_pair-requires-clause-hash : goal.stop_at_pair-requires-clause-hash
stop_at_pair-requires-clause-hash c =
    let a = c.args.kept.now in
    let b = c.args.deleted.now in
    let part = c.args.part.now in
    ap (λ (h : Hash32). dot32 h part) (c.in_ok-first.ensures ∙ ap hash_of c.in_ok-metadata.ensures)
    ∙ sym (c.requires.kept ∙ kept_is a.content a.metadata part c.requires.part) ∙ c.requires.same
    ∙ c.requires.deleted ∙ deleted_is b.content b.metadata c.requires.none ∙ sym (ap hash_of c.in_ok-other.ensures)

pub stop_at_pair-requires-clause-long : goal.stop_at_pair-requires-clause-long
stop_at_pair-requires-clause-long c =
    metadata_long c.four_fields_are_long.ensures c.args.deleted.now.metadata (serialize c.in_ok-other.other)
    (ap serialize c.in_ok-other.ensures)
