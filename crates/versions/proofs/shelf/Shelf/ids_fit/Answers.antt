use Rattle.std.proofs.Common.{List, map, subst}
use Rattle.versions.specs.declared.recorded.Recorded.{Recorded}
use Rattle.versions.specs.Held.{recorded_of}
use Rattle.versions.specs.Live.{AllFit}
use Rattle.versions.proofs.shelf.Shelf.ids_fit.Goals as goal

pub returns : goal.returns
returns c = subst (λ (rs : List Recorded). AllFit (map recorded_of rs)) c.self.view_is c.self.invariant.fits
