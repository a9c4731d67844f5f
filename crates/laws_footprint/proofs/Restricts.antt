-- Restriction, and the frame of FROM's rows.
use Rattle.std.proofs.Common.{◌≡◌, ◌∙◌, inl, inr, ℕ, suc, ◌+◌, Bool, true, false, List, [], ◌∷◌, ◌++◌, length, map, refl, sym, ap, subst, arith}
use Rattle.std.specs.List.{filter}
use Rattle.std.proofs.lemmas.List.{append_assoc, map-append}
use Rattle.ion_values.specs.declared.value.Value.{Value}
use Rattle.pql_model.specs.declared.scope.Bound.{Bound}
use Rattle.pql_model.specs.declared.statement.FromClause.{FromClause}
use Rattle.pql_model.specs.declared.statement.Source.{Source}
use Rattle.pql_model.specs.declared.tables.Row.{Row}
use Rattle.pql_model.specs.From.{Combined, Viewed, bound_element, bound_row, combined_over, is_kept, rows_given}
use Rattle.pql_model.specs.Names.{called, called_in_row}
use Rattle.laws_footprint.specs.Restriction.{AllKnown, AllRead, Covers, FrameOfRows, Gives, IsKnown, IsRead, Knows, Reads, Restriction, rows_read}
use Rattle.laws_footprint.proofs.Listed.{all_among}
use Rattle.pql_model.proofs.Combinations.{all_given, all_rows, behind, cut_source, nothing, one_start}

-- ---- combinations whose rows are read

pub all_called : (views : Viewed) (params : List Value) (known : Knows) (reads : Reads) (n : ℕ)
    (ss : List Source) (c : Combined) → AllRead views params known reads n ss c
    → map called_in_row c ≡ map called ss
all_called views params known reads n [] [] h = refl
all_called views params known reads n [] (b ∷ bs) h = absurd h
all_called views params known reads n (s ∷ ss) [] h = absurd h
all_called views params known reads n (s ∷ ss) (b ∷ bs) h =
    ap (λ x. x ∷ map called_in_row bs) h.0.0
    ∙ ap (λ xs. called s ∷ xs) (all_called views params known reads (n + 1) ss bs h.1)

one_more_read : (views : Viewed) (params : List Value) (known : Knows) (reads : Reads) (n : ℕ)
    (ss : List Source) (c : Combined) (s : Source) (b : Bound)
    → AllRead views params known reads n ss c → Gives (IsRead views params known reads (n + length ss) s) s b
    → AllRead views params known reads n (ss ++ s ∷ []) (c ++ b ∷ [])
one_more_read views params known reads n [] [] s b h g =
    let here : n + 0 ≡ n = omega arith in (subst (λ m. Gives (IsRead views params known reads m s) s b) here g, tt)
one_more_read views params known reads n [] (d ∷ ds) s b h g = absurd h
one_more_read views params known reads n (x ∷ xs) [] s b h g = absurd h
one_more_read views params known reads n (x ∷ xs) (d ∷ ds) s b h g =
    let there : n + suc (length xs) ≡ n + 1 + length xs = omega arith in (
      h.0,
      one_more_read views params known reads (n + 1) xs ds s b h.1
          (subst (λ m. Gives (IsRead views params known reads m s) s b) there g),
    )

length_more : (left : List Source) (s : Source) → length (left ++ s ∷ []) ≡ length left + 1
length_more [] s = refl
length_more (x ∷ left) s = let ih = length_more left s in omega arith

-- ---- the laws

module _ (views : Viewed) (params : List Value) (from : FromClause) (known : Knows) (reads : Reads)
    (covers : Covers views params from known reads) where
  abbrev keep : Combined → Bool
  keep c = is_kept params from c

  -- behind rows that are read, a row that isn't read is kept with nothing
  unread : (left ss : List Source) (s : Source) (c : Combined) (row : Row) → from.sources ≡ left ++ s ∷ ss
      → AllRead views params known reads 0 left c → IsKnown views params known s row → reads (length left) row ≡ false
      → filter keep (behind params ss (all_rows views params ss) (c ++ bound_row s row ∷ [])) ≡ []
  unread left ss s c row is read is_known not_read =
      nothing params keep ss (all_rows views params ss) (c ++ bound_row s row ∷ []) (λ rest same.
      let named : map called_in_row (c ++ bound_row s row ∷ rest) ≡ map called from.sources =
      map-append called_in_row c (bound_row s row ∷ rest)
      ∙ ap (λ xs. xs ++ called s ∷ map called_in_row rest) (all_called views params known reads 0 left c read)
      ∙ ap (λ xs. map called left ++ called s ∷ xs) same
      ∙ sym (map-append called left (s ∷ ss)) ∙ ap (map called) (sym is) in
      ap keep (append_assoc c (bound_row s row ∷ []) rest)
      ∙ covers left ss s c rest row is read named is_known not_read)

  cut_behind : (left ss : List Source) (n : ℕ) (c : Combined) → from.sources ≡ left ++ ss → length left ≡ n
      → AllRead views params known reads 0 left c → AllKnown views params known ss
      → filter keep (behind params ss (all_rows views params ss) c)
      ≡ filter keep (behind params ss (rows_read views params reads n ss) c)
  cut_behind left [] n c is long read all = refl
  cut_behind left (s ∷ ss) n c is long read all =
      let next : from.sources ≡ (left ++ s ∷ []) ++ ss = is ∙ sym (append_assoc left (s ∷ []) ss) in
      let longer : length (left ++ s ∷ []) ≡ n + 1 = length_more left s ∙ ap (λ k. k + 1) long in
      let here : 0 + length left ≡ n = omega arith in
      let further = λ (b : Bound) (g : Gives (IsRead views params known reads n s) s b).
      cut_behind (left ++ s ∷ []) ss (n + 1) (c ++ b ∷ []) next longer
      (one_more_read views params known reads 0 left c s b read
      (subst (λ m. Gives (IsRead views params known reads m s) s b) (sym here) g)) all.1 in
      cut_source params keep s (behind params ss (all_rows views params ss))
      (behind params ss (rows_read views params reads (n + 1) ss)) c s.from (IsKnown views params known s) (reads n)
      (rows_given views params s.from)
      (all_among (λ row. known s.from row ≡ true) (rows_given views params s.from) all.0)
      (λ row k r. further (bound_row s row) (refl, inl (row, refl, (k, r))))
      (λ row k r. unread left ss s c row is read k (ap (λ m. reads m row) long ∙ r))
      (λ path v. further (bound_element s v) (refl, inr (path, refl)))

pub restriction : Restriction
restriction views params from known reads all covers =
    ap (filter (is_kept params from)) (all_given views params ([] ∷ []) from.sources
    ∙ one_start params from.sources (all_rows views params from.sources))
    ∙ cut_behind views params from known reads covers [] from.sources 0 [] refl refl tt all
    ∙ sym (ap (filter (is_kept params from))
    (one_start params from.sources (rows_read views params reads 0 from.sources)))

pub frame_of_rows : FrameOfRows
frame_of_rows before now params from known reads all_before all_now covers_before covers_now same =
    restriction before params from known reads all_before covers_before
    ∙ ap (λ rows. filter (is_kept params from) (combined_over params ([] ∷ []) from.sources rows)) same
    ∙ sym (restriction now params from known reads all_now covers_now)
