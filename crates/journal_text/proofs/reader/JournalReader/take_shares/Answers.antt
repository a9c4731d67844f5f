use Rattle.std.proofs.Common.{◌++◌, ℕ, List, subst}
use Rattle.std.proofs.lemmas.Result.{IfErr-weaker}
use Rattle.journal_text.specs.Feeding.{taken}
use Rattle.journal_text.specs.Reading.{IsLineFault}
use Rattle.journal_text.proofs.ReadyLines.{end_fault}
use Rattle.journal_text.proofs.reader.JournalReader.take_shares.Goals as goal

pub returns-clause-fault : goal.returns-clause-fault
returns-clause-fault c =
    let mid = c.shares.self in
    IfErr-weaker c.feed_all.result
    (λ fault. (rest : List ℕ) → IsLineFault (taken mid ++ (c.rest_of.result.now ++ rest)) fault)
    (λ fault. (rest : List ℕ) → IsLineFault (taken c.args.self.now ++ (c.args.piece.now ++ rest)) fault)
    (λ fault is. end_fault c.args.piece.now c.shares.at c.args.self.now mid fault c.shares.invariant.taken
    (subst (λ (xs : List ℕ). (rest : List ℕ) → IsLineFault (taken mid ++ (xs ++ rest)) fault) c.rest_of.ensures is))
    c.feed_all.ensures.fault
