use Rattle.std.proofs.Common.{◌≡◌, drop}
use Rattle.block_form.specs.ReadBack.{tables_of}
use Rattle.value_codec.proofs.Each.{behind}
use Rattle.block_form.proofs.read_info.tables_of.Given as goal

-- what was read so far and what the rest gives is what all give
abbrev pub invariant-documents : goal.invariant-documents
invariant-documents l = behind l.tables.items (tables_of (drop l.at l.values) (drop l.at l.revisions)) ≡ tables_of l.values l.revisions
