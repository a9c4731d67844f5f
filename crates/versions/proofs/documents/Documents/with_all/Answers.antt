use Rattle.std.proofs.Common.{◌≤◌, length, map, arith}
use Rattle.versions.specs.Held.{recorded_of}
use Rattle.versions.proofs.Newest.{shelf_end}
use Rattle.versions.proofs.documents.Documents.with_all.Goals as goal

pub returns-clause-revisions : goal.returns-clause-revisions
returns-clause-revisions c =
    let past : length c.args.revisions.now ≤ c.revisions.at = omega arith in
    shelf_end (map recorded_of c.revisions.new.0) _ c.args.tables.now c.args.revisions.now c.revisions.at past c.revisions.invariant.0
