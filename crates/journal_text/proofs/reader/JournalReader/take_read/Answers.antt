use Rattle.std.proofs.Common.{rules, ◌≡◌, ◌∙◌, ◌+◌, ◌≤◌, ◌++◌, ◌∷◌, [], ℕ, List, Result, Err, IfErr, ap, arith, drop, subst, sym, take}
use Rattle.journal_text.specs.declared.journal.JournalFault.{JournalFault}
use Rattle.journal_text.specs.Feeding.{taken}
use Rattle.journal_text.specs.Reading.{IsLineFault}
use Rattle.journal_text.specs.Shares.{IsFaultIn, IsTakenTo}
use Rattle.journal_text.proofs.ReadyLines.{fault_at, fault_between, fault_later, taken_between, taken_line, text_at, then_taken}
use Rattle.journal_text.proofs.reader.JournalReader.take_read.Goals as goal

pub returns-in_err-feed_all-clause-fault : goal.returns-in_err-feed_all-clause-fault
returns-in_err-feed_all-clause-fault c =
    let piece = c.args.piece.now in
    let from = c.args.line.from in
    let fault = c.in_err-feed_all.field-0.0 in
    let past = c.if-from-at.false in
    let order : c.args.at ≤ from = omega (arith, past) in
    let is : c.from_residual.result ≡ Err fault = search rules in
    let between : c.rest_of.result.now ≡ drop c.args.at (take from piece) = c.rest_of.ensures ∙ ap (drop c.args.at) c.split_at.ensures.front in
    let here = subst (λ (xs : List ℕ). (rest : List ℕ) → IsLineFault (taken c.args.self.now ++ (xs ++ rest)) fault) between c.in_err-feed_all.ensures.fault in
    subst (λ (r : Result ℕ JournalFault). IfErr r (IsFaultIn piece c.args.at c.args.self.now)) (sym is)
    (fault_between piece c.args.at from c.args.self.now fault order here)

pub returns-in_err-put_line-clause-fault : goal.returns-in_err-put_line-clause-fault
returns-in_err-put_line-clause-fault c =
    let piece = c.args.piece.now in
    let line = c.args.line in
    let old = c.args.self.now in
    let mid = c.feed_all.new.self in
    let fault = c.in_err-put_line.field-0.0 in
    let past = c.if-from-at.false in
    let order : c.args.at ≤ line.from = omega (arith, past) in
    let is : c.from_residual-in_err-put_line.result ≡ Err fault = search rules in
    let between : c.rest_of.result.now ≡ drop c.args.at (take line.from piece) = c.rest_of.ensures ∙ ap (drop c.args.at) c.split_at.ensures.front in
    let more = c.in_ok-feed_all.ensures.taken ∙ ap (λ xs. taken old ++ xs) between in
    let first : IsTakenTo piece c.args.at line.from old mid =
    taken_between piece c.args.at line.from old mid order c.requires.read.within more c.in_ok-feed_all.ensures.reads in
    let text : c.split_at-2.result.0.now ≡ c.requires.read.text =
    c.split_at-2.ensures.front ∙ ap (take line.len) c.split_at.ensures.back ∙ text_at piece line c.requires.read in
    let here = subst (λ (xs : List ℕ). (rest : List ℕ) → IsLineFault (taken mid ++ ((xs ++ 10 ∷ []) ++ rest)) fault) text c.in_err-put_line.ensures.fault in
    subst (λ (r : Result ℕ JournalFault). IfErr r (IsFaultIn piece c.args.at old)) (sym is)
    (fault_later piece c.args.at line.from old mid fault first (fault_at piece line c.requires.read mid fault here))

pub returns-clause-taken : goal.returns-clause-taken
returns-clause-taken c =
    let piece = c.args.piece.now in
    let line = c.args.line in
    let old = c.args.self.now in
    let mid = c.feed_all.new.self in
    let new = c.put_line.new.self in
    let past = c.if-from-at.false in
    let order : c.args.at ≤ line.from = omega (arith, past) in
    let between : c.rest_of.result.now ≡ drop c.args.at (take line.from piece) = c.rest_of.ensures ∙ ap (drop c.args.at) c.split_at.ensures.front in
    let more = c.in_ok-feed_all.ensures.taken ∙ ap (λ xs. taken old ++ xs) between in
    let first : IsTakenTo piece c.args.at line.from old mid =
    taken_between piece c.args.at line.from old mid order c.requires.read.within more c.in_ok-feed_all.ensures.reads in
    let text : c.split_at-2.result.0.now ≡ c.requires.read.text =
    c.split_at-2.ensures.front ∙ ap (take line.len) c.split_at.ensures.back ∙ text_at piece line c.requires.read in
    let put = c.in_ok-put_line.ensures.taken ∙ ap (λ xs. taken mid ++ (xs ++ 10 ∷ [])) text in
    then_taken piece c.args.at line.from (line.from + line.len + 1) old mid new first
    (taken_line piece line c.requires.read mid new put c.in_ok-put_line.ensures.reads)
