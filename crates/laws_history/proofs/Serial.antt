-- The blocks of a run are one serial history behind those of its opening.
use Rattle.std.proofs.Common.{◌≡◌, ◌∙◌, ℕ, List, [], ◌∷◌, ◌++◌, length, take, drop, sym, ap, subst}
use Rattle.ledger_model.specs.declared.block.Block.{Block}
use Rattle.ledger_model.specs.Damages.{Undamaged}
use Rattle.ledger_model.specs.Legal.{LegalFrom, Means}
use Rattle.ledger_model.specs.State.{State, empty, state}
use Rattle.laws_machine.specs.Entries.{Entry, IsRunFrom, MayCome, MayMake, Reach, begun_at, comes, failed, reach_at, sealed, wanted}
use Rattle.laws_machine.proofs.Means.{block_means, state_append}
use Rattle.laws_machine.proofs.Entries.{entries_are_run}
use Rattle.laws_machine.proofs.Histories.{history_stays_legal}
use Rattle.laws_history.specs.Seen.{MachinesLeaveRight, RunsAreLegal, blocks_in}
use Rattle.laws_history.proofs.Lists.{prefix_take}
use Rattle.laws_history.proofs.Reaches.{reached_blocks, sealed_in}
use Rattle.laws_history.proofs.Sealed.{drop_front}

-- a sealed block is what its transaction means
sealed_means : (r : Reach) (number : ℕ) (b : Block) → MayMake r number b → Means r.mask (state r.blocks) b
sealed_means r number b m =
    subst (λ (x : Block). Means r.mask (state r.blocks) x) (sym m.made.block_is)
    (block_means
    (record { mask = r.mask; number = number }) r.blocks m.place m.time m.made.progress m.asked m.made.runs)

first_legal : (r : Reach) (e : Entry) (es : List Entry) → MayCome r e
    → LegalFrom (comes r e).mask (state (comes r e).blocks) (sealed_in es)
    → LegalFrom r.mask (state r.blocks) (sealed_in (e ∷ es))
first_legal r (begun_at place number since) es m rest = rest
first_legal r (sealed number b) es m rest = (
  sealed_means r number b m,
  subst (λ (s : State). LegalFrom r.mask s (sealed_in es)) (state_append empty r.blocks (b ∷ [])) rest,
)
first_legal r (failed number count b) es m rest = rest
first_legal r (wanted number b) es m rest = rest

pub all_legal : (r : Reach) (es : List Entry) → IsRunFrom r es → LegalFrom r.mask (state r.blocks) (sealed_in es)
all_legal r [] h = tt
all_legal r (e ∷ es) h = first_legal r e es h.0 (all_legal (comes r e) es h.1)

pub runs_are_legal : RunsAreLegal
runs_are_legal o es h =
    let all : blocks_in o es ≡ o.blocks ++ sealed_in es = reached_blocks (reach_at o) es in
    let front : take (length o.blocks) (blocks_in o es) ≡ o.blocks =
    prefix_take o.blocks (blocks_in o es) (sealed_in es, sym all) in
    let back : drop (length o.blocks) (blocks_in o es) ≡ sealed_in es =
    ap (λ (bs : List Block). drop (length o.blocks) bs) all ∙ drop_front o.blocks (sealed_in es) in
    subst (λ (bs : List Block). LegalFrom o.mask (state bs) (drop (length o.blocks) (blocks_in o es))) (sym front)
    (subst (λ (bs : List Block). LegalFrom o.mask (state o.blocks) bs) (sym back) (all_legal (reach_at o) es h))

pub machines_leave_right : MachinesLeaveRight
machines_leave_right mask count now before events opening fit rise =
    let k = entries_are_run mask count now before events opening fit rise in
    record {
      run = k.run.run;
      undamaged = subst (λ (bs : List Block). Undamaged bs) (sym k.blocks)
          (history_stays_legal mask before events opening fit).undamaged;
    }
