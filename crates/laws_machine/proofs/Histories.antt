-- The blocks of a machine are a history.
use Rattle.std.proofs.Common.{◌≡◌, ◌∙◌, ℕ, List, length, take, drop, sym, ap, subst}
use Rattle.std.proofs.Math.Seq.{drop-append_seam, take-append_seam}
use Rattle.ledger_model.specs.declared.block.Block.{Block}
use Rattle.ledger_model.specs.Legal.{LegalFrom}
use Rattle.ledger_model.specs.State.{state}
use Rattle.laws_machine.specs.History.{HistoryStaysLegal, IsHistory}
use Rattle.laws_machine.specs.Machine.{Event, Machine, behind, opened}
use Rattle.laws_machine.specs.Ranges.{AllFit, IsOpening}
use Rattle.laws_machine.proofs.Good.{Goes, Good, all_good, opened_good}
use Rattle.laws_machine.proofs.Masks.{mask_behind}

history_of : (mask : ℕ) (before blocks : List Block) (last : ℕ) → Goes mask before blocks last
    → IsHistory mask before blocks
history_of mask before blocks last g =
    let front : take (length before) blocks ≡ before = ap (take (length before)) g.on
    ∙ take-append_seam before g.new in
    let rest : drop (length before) blocks ≡ g.new = ap (drop (length before)) g.on ∙ drop-append_seam before g.new in
    record {
      begins = front;
      legal = subst (λ bs. LegalFrom mask (state bs) (drop (length before) blocks)) (sym front)
          (subst (λ bs. LegalFrom mask (state before) bs) (sym rest) g.legal);
      undamaged = g.undamaged;
      strand = g.strand;
    }

-- the machine behind the events is good
pub good_behind : (mask : ℕ) (before : List Block) (events : List Event) → IsOpening mask before
    → AllFit events (opened mask before) → Good before (behind events (opened mask before))
good_behind mask before events o fit = all_good before events (opened mask before) (opened_good mask before o) tt fit

pub history_stays_legal : HistoryStaysLegal
history_stays_legal mask before events o fit =
    let m : Machine = behind events (opened mask before) in
    subst (λ k. IsHistory k before m.blocks) (mask_behind events (opened mask before))
    (history_of m.mask before m.blocks m.last (good_behind mask before events o fit).goes)
