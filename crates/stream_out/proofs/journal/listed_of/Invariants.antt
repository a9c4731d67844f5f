use Rattle.std.proofs.Common.{◌≡◌, map, take}
use Rattle.stream_out.specs.Streams.{listed_as}
use Rattle.stream_out.proofs.journal.listed_of.Given as goal

abbrev pub invariant-loop-revision : goal.invariant-loop-revision
invariant-loop-revision l = l.listed.items ≡ map listed_as (take l.revision-index l.revisions)
