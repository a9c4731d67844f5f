use Rattle.std.proofs.Common.{◌≡◌, drop, map}
use Rattle.pql_model.specs.Changes.{setting}
use Rattle.pql_model.specs.Effects.{touched_in}
use Rattle.pql_change.specs.Contexts.{context_of}
use Rattle.pql_change.specs.Touched.{rows_in}
use Rattle.pql_change.proofs.documents.touch_by_settings.Given as goal

abbrev pub invariant-settings : goal.invariant-settings
invariant-settings l =
    let changes = map (setting (context_of l.context)) in
    touched_in l.context.scope.now (rows_in l.touched.entries) (changes (drop l.setting-index l.settings))
    ≡ touched_in l.context.scope.now (rows_in l.fn.touched.entries) (changes l.settings)
