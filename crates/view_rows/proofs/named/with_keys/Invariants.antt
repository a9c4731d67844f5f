use Rattle.std.proofs.Common.{◌≡◌, ◌++◌, drop}
use Rattle.std.specs.List.{flat_map}
use Rattle.versions.specs.Indexes.{documents_with}
use Rattle.view_rows.proofs.named.with_keys.Given as goal

-- the documents so far and those of the other keys are all
abbrev pub invariant-keys : goal.invariant-keys
invariant-keys l =
    l.ids ++ flat_map (documents_with l.version.revisions l.table l.field) (drop l.key-index l.keys)
    ≡ flat_map (documents_with l.version.revisions l.table l.field) l.keys
