use Rattle.std.proofs.Common.{List, map, subst}
use Rattle.ledger_model.specs.State.{State}
use Rattle.versions.specs.declared.recorded.Recorded.{Recorded}
use Rattle.versions.specs.Held.{recorded_of}
use Rattle.versions.specs.Live.{AllFit}
use Rattle.versions.proofs.versions.Versions.ids_fit.Goals as goal

pub returns : goal.returns
returns c =
    subst (λ (s : State). AllFit s.revisions) c.self.view_is
    (subst (λ (rs : List Recorded). AllFit (map recorded_of rs)) c.shelf.ensures c.ids_fit.ensures)
