use Rattle.std.proofs.Common.{◌≡◌, length, drop}
use Rattle.ledger_model.specs.Writing.{stored_changes}
use Rattle.txn_core.specs.Effects.{effect_of}
use Rattle.txn_core.specs.Writes.{Stands}
use Rattle.txn_core.proofs.Walking.{left_over, one_changed, why_changed}
use Rattle.txn_core.proofs.transaction.Txn.keep_all.Given as goal

-- what is left gives, behind what is done so far, what the whole gives
abbrev pub invariant-documents : goal.invariant-documents
invariant-documents l = record {
  stands : Stands l.self l.touching;
  so_far : left_over why_changed (one_changed l.self.base) l.self (effect_of l.touching.effect) (drop (length l.yielded) l.fn.documents)
      ≡ stored_changes l.self.base l.self.done l.fn.documents;
}
