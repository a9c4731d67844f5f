use Rattle.std.proofs.Common.{take}
use Rattle.versions.specs.Indexes.{IsIndex}
use Rattle.versions.proofs.indexes.built.Given as goal

-- the postings of the documents passed
abbrev pub invariant-documents : goal.invariant-documents
invariant-documents l = IsIndex (take l.at l.latest) l.index l.postings
