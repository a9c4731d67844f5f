use Rattle.std.proofs.Common.{◌≡◌, drop}
use Rattle.std.specs.List.{list_all}
use Rattle.ledger_model.specs.Damages.{has_revision_hash}
use Rattle.block_form.proofs.hash_checks.have_hashes.Given as goal

-- what the rest passes all pass
abbrev pub invariant-revisions : goal.invariant-revisions
invariant-revisions l = list_all has_revision_hash (drop l.at l.revisions) ≡ list_all has_revision_hash l.revisions
