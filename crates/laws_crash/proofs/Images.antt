-- What the invariant gives of each image, and the law on lines.
use Rattle.std.proofs.Common.{◌≡◌, ℕ, true, ◌≤◌, List, [], ◌∷◌, ◌++◌, length, take, refl, sym, ap, subst, ◌∙◌, arith, inl, inr, append-nil, take_all}
use Rattle.std.specs.List.{AllByRecursion}
use Rattle.ion_model.specs.Write.{value_text}
use Rattle.ledger_model.specs.declared.block.Block.{Block}
use Rattle.ledger_model.specs.Journal.{block_value, journal_bytes}
use Rattle.ledger_model.specs.Damages.{Undamaged}
use Rattle.ledger_model.specs.HashesAsked.{AreAsked}
use Rattle.ledger_model.specs.Recovered.{has_no_line_feed}
use Rattle.laws_crash.specs.Pending.{NothingPendingLeavesAll}
use Rattle.journal_text.specs.OneLine.{WrittenOnOneLine}
use Rattle.laws_crash.specs.Sound.{IsPart, Recovers, StandsAfter, SafeRecovers, UnmarkedRecovers}
use Rattle.laws_crash.specs.Steps.{size_of}
use Rattle.laws_crash.proofs.Lists.{all_contains}
use Rattle.laws_crash.proofs.Steps.{front_after, journal_more}
use Rattle.laws_crash.proofs.Lines.{part_of_line}

-- if nothing is pending
pub quiet_leaves_all : NothingPendingLeavesAll
quiet_leaves_all c quiet image is =
    let whole : is.whole ≡ c.bytes =
    all_contains (λ w. w ≡ c.bytes) c.since is.whole is.was_held (subst (λ (ws : List (List ℕ)). AllByRecursion (λ (w : List ℕ). w ≡ c.bytes) ws) (sym quiet.since) (refl, tt)) in
    let long : length c.bytes ≤ length image = subst (λ (n : ℕ). n ≤ length image) quiet.synced is.long in
    is.front ∙ ap (take (length image)) whole ∙ take_all (length image) c.bytes long

-- the blocks alone
pub unmarked_recovers : UnmarkedRecovers
unmarked_recovers blocks tried c sound asked s image is = record {
  lines = quiet_leaves_all c (s.rests refl) image is ∙ s.alone refl ∙ sym (append-nil (journal_bytes blocks));
  torn = refl;
  undamaged = sound;
  asked = asked;
}

-- the part is no whole line, or the block's line
part_recovers : WrittenOnOneLine → (blocks tried : List Block) (image part : List ℕ) → Undamaged blocks → AreAsked blocks → image ≡ journal_bytes blocks ++ part
    → IsPart blocks tried part → Recovers blocks tried image
part_recovers law blocks tried image part sound asked is (inl torn) = inl (part, record { lines = is; torn = torn; undamaged = sound; asked = asked })
part_recovers law blocks tried image part sound asked is (inr p) =
    elim (part_of_line (value_text (block_value p.block)) p.kept (law (block_value p.block))) [
      | inl torn ↦ inl (part, record { lines = is; torn = subst (λ (x : List ℕ). has_no_line_feed x ≡ true) (sym p.part_is) torn; undamaged = sound; asked = asked })
      | inr all ↦ inr (
        p.block,
        p.among,
        record {
          lines = is ∙ ap (λ (x : List ℕ). journal_bytes blocks ++ x) (p.part_is ∙ all) ∙ journal_more blocks p.block ∙ sym (append-nil (journal_bytes (blocks ++ p.block ∷ [])));
          torn = refl;
          undamaged = p.undamaged;
          asked = p.asked;
        },
      )
    ]

pub safe_recovers : WrittenOnOneLine → SafeRecovers
safe_recovers law blocks tried m sound asked safe image is =
    let long : size_of blocks ≤ length image = omega (arith, safe.long, is.long) in
    let w = front_after blocks tried is.whole (length image) long (all_contains (StandsAfter blocks tried) m.since is.whole is.was_held safe.each) in
    part_recovers law blocks tried image w.part sound asked (is.front ∙ w.whole_is) w.is_part
