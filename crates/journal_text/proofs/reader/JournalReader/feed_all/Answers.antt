use Rattle.std.proofs.Common.{rules, ◌≡◌, ◌+◌, ◌-◌, ◌<◌, ◌++◌, ℕ, List, Result, Err, IfErr, length, subst, sym, arith}
use Rattle.std.specs.Io.BufRead.{take_through}
use Rattle.journal_text.specs.declared.journal.JournalFault.{JournalFault}
use Rattle.journal_text.specs.Reading.{IsLineFault}
use Rattle.journal_text.specs.Feeding.{taken}
use Rattle.journal_text.proofs.Fed.{fed_fault, fed_more, through_short, through_some}
use Rattle.journal_text.proofs.reader.JournalReader.feed_all.Goals as goal

pub overflow_add-at : goal.overflow_add-at
overflow_add-at c =
    let left = c.split_at.result.1.now in
    let count = c.in_ok-at.ensures.count in
    record { fits = omega (arith, count, through_short left, c.split_at.ensures.back_len, c.lines-test.true) }

pub lines-smaller : goal.lines-smaller
lines-smaller c =
    let left = c.split_at.result.1.now in
    let count = c.in_ok-at.ensures.count in
    let some : 0 < length left = omega (arith, c.split_at.ensures.back_len, c.lines-test.true) in
    let less : length c.args.piece.now - (c.lines.at + c.in_ok-at.field-0) < length c.args.piece.now - c.lines.at =
    omega (arith, count, through_some left some, c.lines-test.true) in
    less

pub lines-preserved : goal.lines-preserved
lines-preserved c =
    let left = c.split_at.result.1.now in
    let so_far = taken c.lines.self in
    let is = c.split_at.ensures.back in
    let count = c.in_ok-at.ensures.count in
    let more = subst (λ (xs : List ℕ). taken c.feed.new.self ≡ so_far ++ take_through 10 xs) is c.in_ok-at.ensures.taken in
    let long = subst (λ (xs : List ℕ). c.in_ok-at.field-0 ≡ length (take_through 10 xs)) is count in
    record {
      within = omega (arith, count, through_short left, c.split_at.ensures.back_len, c.lines-test.true);
      taken = fed_more c.args.piece.now (taken c.args.self.now) so_far (taken c.feed.new.self) c.lines.at c.in_ok-at.field-0 c.lines.invariant.taken more long;
      reads = c.in_ok-at.ensures.lasting c.lines.invariant.reads;
    }

pub returns-in_err-at-clause-fault : goal.returns-in_err-at-clause-fault
returns-in_err-at-clause-fault c =
    let piece = c.args.piece.now in
    let so_far = taken c.lines.self in
    let fault = c.in_err-at.field-0.0 in
    let is : c.from_residual.result ≡ Err fault = search rules in
    let here = subst (λ (xs : List ℕ). (rest : List ℕ) → IsLineFault (so_far ++ (take_through 10 xs ++ rest)) fault) c.split_at.ensures.back
    (c.in_err-at.ensures.fault c.lines.invariant.reads) in
    subst (λ (r : Result (Unit {0}) JournalFault). IfErr r (λ fault. (rest : List ℕ) → IsLineFault (taken c.args.self.now ++ (piece ++ rest)) fault)) (sym is)
    (fed_fault piece (taken c.args.self.now) so_far c.lines.at fault c.lines.invariant.taken here)
