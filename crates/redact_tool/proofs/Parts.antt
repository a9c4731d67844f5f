-- Revisions and blocks that are shown, one behind the other.
use Rattle.std.proofs.Common.{◌≡◌, ◌∙◌, ℕ, suc, zero, ◌+◌, ◌<◌, ◌≤◌, List, [], ◌∷◌, ◌++◌, length, drop, get_or, append-nil, append_assoc, refl, sym, ap, subst, arith}
use Rattle.std.specs.List.{list_any}
use Rattle.std.specs.Prelude.{nat_lt}
use Rattle.std.proofs.lemmas.List.{drop_more}
use Rattle.ql_types.specs.declared.TableId.{TableId}
use Rattle.ledger_model.specs.declared.block.Block.{Block}
use Rattle.ledger_model.specs.declared.block.Revision.{Revision}
use Rattle.ledger_model.specs.Compaction.{compacted, compacted_block, compacted_from, shown_revision, shown_revisions}
use Rattle.ledger_model.specs.Damages.{UndamagedBehind}
use Rattle.ledger_model.specs.HashesAsked.{redacts_any}
use Rattle.redact_tool.specs.Fronts.{redacting_front}
use Rattle.redact_tool.proofs.Fronts.{in_front}

opened : {A : Type 0} → (xs : List A) (i : ℕ) (x : A) → i < length xs → x ≡ get_or xs i x
    → drop i xs ≡ x ∷ drop (i + 1) xs
opened {A = A} xs i x h is = drop_more xs i x h ∙ ap (λ (y : A). y ∷ drop (i + 1) xs) (sym is)

drop_end : {A : Type 0} → (xs : List A) (n : ℕ) → length xs ≤ n → drop n xs ≡ []
drop_end [] zero h = refl
drop_end [] (suc n) h = refl
drop_end (x ∷ xs) zero h = absurd (omega arith)
drop_end (x ∷ xs) (suc n) h = drop_end xs n (omega arith)

-- ---- revisions

module _ (blocks : List Block) (ts : List TableId) (rs : List Revision) where
  pub revision_more : (i : ℕ) (d t : TableId) (r s : Revision) (shown new : List Revision) → i < length ts → i < length rs
      → t ≡ get_or ts i d → r ≡ get_or rs i r
      → shown ++ shown_revisions blocks (drop i ts) (drop i rs) ≡ shown_revisions blocks ts rs
      → s ≡ shown_revision blocks t r → new ≡ shown ++ s ∷ []
      → new ++ shown_revisions blocks (drop (i + 1) ts) (drop (i + 1) rs) ≡ shown_revisions blocks ts rs
  revision_more i d t r s shown new h k t_is r_is so_far one now =
      let rest = shown_revisions blocks (drop (i + 1) ts) (drop (i + 1) rs) in
      ap (λ (xs : List Revision). xs ++ rest) now
      ∙ append_assoc shown (s ∷ []) rest
      ∙ ap (λ (x : Revision). shown ++ x ∷ rest) one
      ∙ ap (λ (us : List TableId). shown ++ shown_revisions blocks us (r ∷ drop (i + 1) rs))
      (sym (drop_more ts i d h ∙ ap (λ (u : TableId). u ∷ drop (i + 1) ts) (sym t_is)))
      ∙ ap (λ (xs : List Revision). shown ++ shown_revisions blocks (drop i ts) xs) (sym (opened rs i r k r_is))
      ∙ so_far

  pub revisions_end : (i : ℕ) (shown : List Revision) → length ts ≤ i → length rs ≤ i
      → shown ++ shown_revisions blocks (drop i ts) (drop i rs) ≡ shown_revisions blocks ts rs
      → shown ≡ shown_revisions blocks ts rs
  revisions_end i shown h k so_far =
      sym (append-nil shown)
      ∙ ap (λ (us : List TableId). shown ++ shown_revisions blocks us []) (sym (drop_end ts i h))
      ∙ ap (λ (xs : List Revision). shown ++ shown_revisions blocks (drop i ts) xs) (sym (drop_end rs i k))
      ∙ so_far

-- ---- blocks

module _ (bs : List Block) where
  -- whether the statements of a block are hidden
  pub hides_at : (i : ℕ) (b : Block) (f : ℕ) → i < length bs → b ≡ get_or bs i b → f ≡ redacting_front bs
      → nat_lt i f ≡ list_any redacts_any (b ∷ drop (i + 1) bs)
  hides_at i b f h is front =
      ap (λ (n : ℕ). nat_lt i n) front ∙ in_front bs i
      ∙ ap (λ (xs : List Block). list_any redacts_any xs) (opened bs i b h is)

  pub block_more : (i : ℕ) (b c : Block) (made new : List Block) → i < length bs → b ≡ get_or bs i b
      → made ++ compacted_from bs (drop i bs) ≡ compacted bs → c ≡ compacted_block bs b (drop (i + 1) bs)
      → new ≡ made ++ c ∷ []
      → new ++ compacted_from bs (drop (i + 1) bs) ≡ compacted bs
  block_more i b c made new h is so_far one now =
      let rest = compacted_from bs (drop (i + 1) bs) in
      ap (λ (xs : List Block). xs ++ rest) now
      ∙ append_assoc made (c ∷ []) rest
      ∙ ap (λ (x : Block). made ++ x ∷ rest) one
      ∙ ap (λ (xs : List Block). made ++ compacted_from bs xs) (sym (opened bs i b h is))
      ∙ so_far

  pub blocks_end : (i : ℕ) (made : List Block) → length bs ≤ i → made ++ compacted_from bs (drop i bs) ≡ compacted bs
      → made ≡ compacted bs
  blocks_end i made h so_far =
      sym (append-nil made) ∙ ap (λ (xs : List Block). made ++ compacted_from bs xs) (sym (drop_end bs i h)) ∙ so_far

-- each block of an undamaged journal has as many tables as revisions
pub fits_at : (bs before : List Block) (i : ℕ) (b : Block) → UndamagedBehind before bs → i < length bs
    → b ≡ get_or bs i b
    → length b.info.tables ≡ length b.revisions
fits_at [] before i b u h is = absurd (omega arith)
fits_at (x ∷ xs) before zero b u h is = subst (λ (y : Block). length y.info.tables ≡ length y.revisions)
    (sym is) u.0.tables
fits_at (x ∷ xs) before (suc i) b u h is = fits_at xs (before ++ x ∷ []) i b u.2 (omega arith) is
