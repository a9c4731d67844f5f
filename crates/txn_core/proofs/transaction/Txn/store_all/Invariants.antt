use Rattle.std.proofs.Common.{◌≡◌, length, drop}
use Rattle.ledger_model.specs.Run.{stored}
use Rattle.txn_core.specs.Effects.{effect_of}
use Rattle.txn_core.proofs.Inserted.{rest_of}
use Rattle.txn_core.proofs.transaction.Txn.store_all.Given as goal

-- what is left gives, behind what is stored so far, what the whole gives
abbrev pub invariant-documents : goal.invariant-documents
invariant-documents l =
    rest_of l.self l.table (effect_of l.effect) (drop (length l.yielded) l.fn.documents) ≡ stored l.self.begun l.table l.self.done l.fn.documents
