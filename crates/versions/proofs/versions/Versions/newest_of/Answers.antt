use Rattle.std.proofs.Common.{List, ℕ, map, ap, ◌∙◌}
use Rattle.std.specs.Prelude.{slice_get}
use Rattle.std.specs.List.{filter_map}
use Rattle.ledger_model.specs.declared.block.Draft.{Draft}
use Rattle.ledger_model.specs.State.{draft_of}
use Rattle.ledger_model.specs.Views.{latest}
use Rattle.versions.specs.Live.{is_live}
use Rattle.versions.proofs.Filing.{members_at}
use Rattle.versions.proofs.versions.Versions.newest_of.Goals as goal

pub returns-clause-drafts : goal.returns-clause-drafts
returns-clause-drafts c =
    let documents : List Draft = latest (map draft_of c.args.self.now.revisions) in
    c.in_ok-all.ensures.drafts ∙ ap (λ (places : List ℕ). filter_map (λ at. slice_get documents at) places) (c.as_slice.ensures ∙ c.in_ok-places.ensures)
    ∙ members_at (is_live c.args.table) documents
