use Rattle.std.proofs.Common.{◌≡◌, take, true}
use Rattle.ledger_model.specs.Follows.{all_differ}
use Rattle.journal_text.proofs.Passes.{Seen}
use Rattle.journal_text.proofs.registry.ids.all_differ.Given as goal

-- the set has the ids so far, and they differ
abbrev pub invariant-ids : goal.invariant-ids
invariant-ids l = record {
  members : Seen l.seen (take l.id-index l.ids);
  differ : all_differ (take l.id-index l.ids) ≡ true;
}
