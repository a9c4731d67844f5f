use Rattle.std.proofs.Common.{◌≡◌, drop, map}
use Rattle.pql_model.specs.Changes.{altered, setting}
use Rattle.pql_change.specs.Contexts.{context_of}
use Rattle.pql_change.proofs.changes.set_all.Given as goal

abbrev pub invariant-settings : goal.invariant-settings
invariant-settings l =
    let context = context_of l.context in
    altered (map (setting context) (drop l.setting-index l.settings)) l.document ≡ altered (map (setting context) l.settings) l.fn.document
