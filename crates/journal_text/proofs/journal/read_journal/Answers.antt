use Rattle.std.proofs.Common.{◌≡◌, ◌+◌, ◌∷◌, ◌++◌, [], ℕ, List, None, drop, length, refl, sym, subst, arith}
use Rattle.ledger_model.specs.declared.block.Block.{Block}
use Rattle.ledger_model.specs.Journal.{journal_bytes}
use Rattle.ledger_model.specs.Damages.{damage_behind, strand_of, Undamaged}
use Rattle.journal_text.specs.Reading.{StandsBehind}
use Rattle.journal_text.proofs.Growing.{lines_more, within_more, undamaged_more}
use Rattle.journal_text.proofs.journal.read_journal.Goals as goal

pub lines-init : goal.lines-init
lines-init c =
    let bytes = c.args.bytes.now in
    let none = c.new-blocks.ensures.list in
    record {
      within = omega arith;
      lines = subst (λ (blocks : List Block). bytes ≡ journal_bytes blocks ++ bytes) (sym none) refl;
      undamaged = subst (λ (blocks : List Block). Undamaged blocks) (sym none) tt;
      stands = subst (λ (blocks : List Block). StandsBehind blocks c.new-registry.result) (sym none) (λ next. c.new-registry.ensures (strand_of [] next));
    }

pub lines-preserved : goal.lines-preserved
lines-preserved c =
    let bytes = c.args.bytes.now in
    let text = c.in-Some.text.now in
    let at = c.lines.at in
    let b = c.in_ok-block.block in
    let behind = at + (length text + 1) in
    let line = c.in_ok-block.ensures.line in
    let rest = subst (λ (z : List ℕ). z ≡ text ++ 10 ∷ drop (length text + 1) z) c.rest_of.ensures c.in-Some.ensures.1 in
    let more = c.in_ok-push.ensures.pushed in
    let same = c.as_slice.ensures in
    let so_far = c.lines.invariant in
    record {
      within = within_more bytes text (drop (length text + 1) (drop at bytes)) at so_far.within rest;
      lines = subst (λ (blocks : List Block). bytes ≡ journal_bytes blocks ++ drop behind bytes) (sym more) (
          lines_more bytes text at c.lines.blocks.list b so_far.lines rest line);
      undamaged = subst (λ (blocks : List Block). Undamaged blocks) (sym more) (
          undamaged_more c.lines.blocks.list b so_far.undamaged line.whole (subst (λ (blocks : List Block). damage_behind blocks b ≡ None) same c.in_ok-block.ensures.undamaged));
      stands = subst (λ (blocks : List Block). StandsBehind blocks c.next_block.new.registry) (sym more) (
          subst (λ (blocks : List Block). StandsBehind (blocks ++ b ∷ []) c.next_block.new.registry) same c.in_ok-block.ensures.stands);
    }

pub next_block-requires : goal.next_block-requires
next_block-requires c = subst (λ (blocks : List Block). StandsBehind blocks c.lines.registry) (sym c.as_slice.ensures) c.lines.invariant.stands

pub check_asked-requires : goal.check_asked-requires
check_asked-requires c = subst (λ (blocks : List Block). StandsBehind blocks c.lines.registry) (sym c.as_slice-2.ensures) c.lines.invariant.stands
