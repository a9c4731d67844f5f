use Rattle.std.proofs.Common.{◌∙◌, sym, ap}
use Rattle.ql_types.specs.declared.Hash32.{Hash32}
use Rattle.hash_model.specs.PairHash.{dot32}
use Rattle.hash_model.specs.Serialize.{hash_of}
use Rattle.proof_extract.proofs.Parts.{deleted_is, kept_is}
use Rattle.proof_extract.proofs.revisions.stop_at_info.Goals as goal

pub stop_at_metadata-requires-clause-hash : goal.stop_at_metadata-requires-clause-hash
stop_at_metadata-requires-clause-hash c =
    let r = c.args.revision.now in
    sym (c.requires.stated ∙ deleted_is r.content r.metadata (sym c.in_ok-found.ensures ∙ c.in-None.is)) ∙ c.requires.hash

pub stop_at_said-requires-clause-hash : goal.stop_at_said-requires-clause-hash
stop_at_said-requires-clause-hash c =
    let r = c.args.revision.now in
    let part = c.in-Some.part in
    let own = c.requires.stated ∙ kept_is r.content r.metadata part (sym c.in_ok-found.ensures ∙ c.in-Some.is) in
    ap (λ (h : Hash32). dot32 h part) (c.in_ok-first-in-Some.ensures ∙ ap hash_of c.in_ok-metadata-in-Some.ensures)
    ∙ sym own ∙ c.requires.hash
