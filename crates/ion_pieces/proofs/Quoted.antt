-- Where quotes, comments and braces close.
use Rattle.std.proofs.Common.{◌≡◌, ◌≤◌, ◌+◌, ◌==◌, ℕ, zero, suc, Bool, true, false, List, [], ◌∷◌, ◌++◌, length, drop, codes, Option, Some, None, option_map, refl, arith}
use Rattle.std.specs.Prelude.{option_and_then}
use Rattle.std.specs.Str.{byte}
use Rattle.std.proofs.lemmas.Bool.{cond_both}
use Rattle.std.proofs.lemmas.List.{drop-append-le}
use Rattle.ion_model.specs.Blanks.{begins, is_space, to_close}
use Rattle.ion_model.specs.Lobs.{before_braces, clob_hides}
use Rattle.ion_model.specs.Texts.{before}
use Rattle.ion_pieces.proofs.Kept.{Keeps, AtMost, keeps_if, keeps_map, keeps_then, at_most_suc, at_most_then, is_dark, begins_fits, begins_kept}

module _ (s : ℕ) (w : is_space s ≡ true) (more : List ℕ) where
  pub close_kept : (x : List ℕ) → Keeps (to_close (x ++ s ∷ [])) (to_close (x ++ s ∷ more))
  close_kept [] = keeps_if _ _ (Some 2) (Some 2) None _ (begins_kept s w more (codes "*/") [] refl) (λ _. refl) (λ _. tt)
  close_kept (b ∷ x) =
      keeps_if _ _ (Some 2) (Some 2) _ _ (begins_kept s w more (codes "*/") (b ∷ x) refl) (λ _. refl)
      (λ _. keeps_map suc (to_close (x ++ s ∷ [])) (to_close (x ++ s ∷ more)) (close_kept x))

  -- ---- quotes

  module _ (quotes : List ℕ) (dark : is_dark quotes ≡ true) where
    pub before_kept : (hidden : Bool) (x : List ℕ) → Keeps (before quotes hidden (x ++ s ∷ [])) (before quotes hidden (x ++ s ∷ more))
    before_kept true [] = tt
    before_kept false [] = keeps_if _ _ (Some 0) (Some 0) None _ (begins_kept s w more quotes [] dark) (λ _. refl) (λ _. tt)
    before_kept true (b ∷ x) = keeps_map suc (before quotes false (x ++ s ∷ [])) (before quotes false (x ++ s ∷ more)) (before_kept false x)
    before_kept false (b ∷ x) =
        keeps_if _ _ (Some 0) (Some 0) _ _ (begins_kept s w more quotes (b ∷ x) dark) (λ _. refl)
        (λ _. keeps_map suc (before quotes (b == byte "\\") (x ++ s ∷ [])) (before quotes (b == byte "\\") (x ++ s ∷ more)) (before_kept (b == byte "\\") x))

  -- ---- braces

  hides_kept : (b : ℕ) (x : List ℕ) → Keeps (clob_hides b (x ++ s ∷ [])) (clob_hides b (x ++ s ∷ more))
  hides_kept b x =
      keeps_if (b == byte "\"") (b == byte "\"") _ _ _ _ refl
      (λ _. keeps_map (λ len. len + 1) (before (codes "\"") false (x ++ s ∷ [])) (before (codes "\"") false (x ++ s ∷ more)) (before_kept (codes "\"") refl false x))
      (λ _. keeps_if _ _ _ _ (Some 0) (Some 0) (begins_kept s w more (codes "'''") (b ∷ x) refl)
      (λ begun.
      let room : 3 ≤ suc (length x) = begins_fits s w (codes "'''") (b ∷ x) refl begun in
      let short : drop 2 (x ++ s ∷ []) ≡ drop 2 x ++ s ∷ [] = drop-append-le 2 x (s ∷ []) (omega arith) in
      let long : drop 2 (x ++ s ∷ more) ≡ drop 2 x ++ s ∷ more = drop-append-le 2 x (s ∷ more) (omega arith) in
      rw (short, long) (keeps_map (λ len. len + 5) (before (codes "'''") false (drop 2 x ++ s ∷ [])) (before (codes "'''") false (drop 2 x ++ s ∷ more)) (before_kept (codes "'''") refl false (drop 2 x))))
      (λ _. refl))

  none_behind : (hidden : ℕ → List ℕ → Option ℕ) (o : Option ℕ) → option_and_then (λ left. option_map suc (before_braces hidden left [])) o ≡ None
  none_behind hidden None = refl
  none_behind hidden (Some k) = refl

  module _ (hidden : ℕ → List ℕ → Option ℕ) (same : (b : ℕ) (x : List ℕ) → Keeps (hidden b (x ++ s ∷ [])) (hidden b (x ++ s ∷ more))) where
    pub braces_kept : (left : ℕ) (x : List ℕ) → Keeps (before_braces hidden left (x ++ s ∷ [])) (before_braces hidden left (x ++ s ∷ more))
    braces_kept (suc left) [] = tt
    braces_kept zero [] =
        keeps_if _ _ (Some 0) (Some 0) _ _ (begins_kept s w more (codes "}}") [] refl) (λ _. refl) (λ _. rw (none_behind hidden (hidden s [])) tt)
    braces_kept (suc left) (b ∷ x) = keeps_map suc (before_braces hidden left (x ++ s ∷ [])) (before_braces hidden left (x ++ s ∷ more)) (braces_kept left x)
    braces_kept zero (b ∷ x) =
        keeps_if _ _ (Some 0) (Some 0) _ _ (begins_kept s w more (codes "}}") (b ∷ x) refl) (λ _. refl)
        (λ _. keeps_then (λ left. option_map suc (before_braces hidden left (x ++ s ∷ []))) (λ left. option_map suc (before_braces hidden left (x ++ s ∷ more)))
        (hidden b (x ++ s ∷ [])) (hidden b (x ++ s ∷ more)) (same b x)
        (λ left. keeps_map suc (before_braces hidden left (x ++ s ∷ [])) (before_braces hidden left (x ++ s ∷ more)) (braces_kept left x)))

  pub clob_kept : (x : List ℕ) → Keeps (before_braces clob_hides 0 (x ++ s ∷ [])) (before_braces clob_hides 0 (x ++ s ∷ more))
  clob_kept = braces_kept clob_hides hides_kept 0

  pub blob_kept : (x : List ℕ) → Keeps (before_braces (λ b z. Some 0) 0 (x ++ s ∷ [])) (before_braces (λ b z. Some 0) 0 (x ++ s ∷ more))
  blob_kept = braces_kept (λ b z. Some 0) (λ b x. refl) 0

-- ---- they stand in front of the white space

module _ (s : ℕ) where
  pub before_within : (quotes : List ℕ) (hidden : Bool) (x : List ℕ) → AtMost (length x) (before quotes hidden (x ++ s ∷ []))
  before_within quotes true [] = tt
  before_within quotes false [] = cond_both (begins quotes (s ∷ [])) (Some 0) None (AtMost 0) (λ _. omega arith) (λ _. tt)
  before_within quotes true (b ∷ x) = at_most_suc (length x) (before quotes false (x ++ s ∷ [])) (before_within quotes false x)
  before_within quotes false (b ∷ x) =
      cond_both (begins quotes (b ∷ x ++ s ∷ [])) (Some 0) _ (AtMost (suc (length x))) (λ _. omega arith)
      (λ _. at_most_suc (length x) (before quotes (b == byte "\\") (x ++ s ∷ [])) (before_within quotes (b == byte "\\") x))

  pub braces_within : (hidden : ℕ → List ℕ → Option ℕ) (left : ℕ) (x : List ℕ) → AtMost (length x) (before_braces hidden left (x ++ s ∷ []))
  braces_within hidden (suc left) [] = tt
  braces_within hidden zero [] =
      cond_both (begins (codes "}}") (s ∷ [])) (Some 0) _ (AtMost 0) (λ _. omega arith)
      (λ _. at_most_then 0 (λ left. option_map suc (before_braces hidden left [])) (hidden s []) (λ _. tt))
  braces_within hidden (suc left) (b ∷ x) = at_most_suc (length x) (before_braces hidden left (x ++ s ∷ [])) (braces_within hidden left x)
  braces_within hidden zero (b ∷ x) =
      cond_both (begins (codes "}}") (b ∷ x ++ s ∷ [])) (Some 0) _ (AtMost (suc (length x))) (λ _. omega arith)
      (λ _. at_most_then (suc (length x)) (λ left. option_map suc (before_braces hidden left (x ++ s ∷ []))) (hidden b (x ++ s ∷ []))
      (λ left. at_most_suc (length x) (before_braces hidden left (x ++ s ∷ [])) (braces_within hidden left x)))
