-- Paths of changes: what is done with the last member is done at the end of the path before it.
use Rattle.std.proofs.Common.{◌≡◌, ◌≤◌, ◌-◌, List, [], ◌∷◌, ◌++◌, length, get_or, take, drop, refl, sym, ap, ◌∙◌, arith}
use Rattle.std.proofs.lemmas.List.{take_rest}
use Rattle.std.specs.Option.{option_map}
use Rattle.std.specs.declared.option.Option.{Option}
use Rattle.ion_values.specs.declared.value.Value.{Value}
use Rattle.pql_model.specs.declared.expr.Expr.{Expr}
use Rattle.pql_model.specs.declared.expr.Path.{Path}
use Rattle.pql_model.specs.declared.scope.Evaluated.{Evaluated}
use Rattle.pql_model.specs.declared.scope.Evaluated.TheVariants.{Found}
use Rattle.pql_model.specs.declared.selector.Selector.{Selector}
use Rattle.pql_model.specs.Changes.{changed, inside, insert_by, put_in_list, remove_by, remove_member, selectors, set_by, set_member, unless_missing}
use Rattle.pql_model.specs.Meaning.{Context, meaning}
use Rattle.pql_change.specs.Edits.{at_end}

-- ---- the first step

first_then_rest : (f : Value → Value) (path : List Selector) (first : Selector) (v : Value)
    → 1 ≤ length path → first ≡ get_or path 0 first → inside (at_end f (drop 1 path)) first v ≡ at_end f path v
first_then_rest f [] first v h e = absurd (omega arith)
first_then_rest f (s ∷ ss) first v h e = ap (λ m. inside (at_end f ss) m v) e

pub from_first : (f : Value → Value) (path : List Selector) (first : Selector) (v : Value)
    → 1 ≤ length path → first ≡ get_or path 0 first
    → inside (at_end f (take (length path - 1) (drop 1 path))) first v ≡ at_end f path v
from_first f path first v h e = ap (λ r. inside (at_end f r) first v) (take_rest path 1) ∙ first_then_rest f path first v h e

-- ---- the last step

with_last : (f : Selector → Value → Value) (s : Selector) (ss : List Selector) → changed f (ss ++ s ∷ []) ≡ at_end (f s) ss
with_last f s [] = refl
with_last f s (t ∷ []) = refl
with_last f s (t ∷ u ∷ ss) = ap (λ g v. inside g t v) (with_last f s (u ∷ ss))

inside_last : (f : Value → Value) (s : Selector) (ss : List Selector) → changed (inside f) (s ∷ ss) ≡ at_end f (s ∷ ss)
inside_last f s [] = refl
inside_last f s (t ∷ ss) = ap (λ g v. inside g s v) (inside_last f t ss)

-- ---- the three changes of a document v, by their paths

module _ (c : Context) (target : Path) (v : Value) where
  pub set_along : (value : Expr) (new : Value) (path front slice : List Selector) (member : Selector)
      → meaning value c ≡ Found new → path ≡ selectors c target → path ≡ front ++ member ∷ [] → slice ≡ front
      → at_end (set_member new member) slice v ≡ set_by c target value v
  set_along value new path front slice member means asked parted lent =
      ap (λ q. at_end (set_member new member) q v) lent
      ∙ ap (λ g. g v) (sym (with_last (set_member new) member front))
      ∙ ap (λ q. changed (set_member new) q v) (sym parted ∙ asked)
      ∙ sym (ap (λ r. unless_missing (λ w. changed (set_member w) (selectors c target)) r v) means)

  pub remove_along : (path front slice : List Selector) (member : Selector)
      → path ≡ selectors c target → path ≡ front ++ member ∷ [] → slice ≡ front
      → at_end (remove_member member) slice v ≡ remove_by c target v
  remove_along path front slice member asked parted lent =
      ap (λ q. at_end (remove_member member) q v) lent
      ∙ ap (λ g. g v) (sym (with_last remove_member member front))
      ∙ ap (λ q. changed remove_member q v) (sym parted ∙ asked)

  pub insert_along : (value : Expr) (at : Option Expr) (new : Value) (place : Option Evaluated) (path slice : List Selector)
      → meaning value c ≡ Found new → place ≡ option_map (λ e. meaning e c) at → path ≡ selectors c target → (path ≡ [] → ⊥) → slice ≡ path
      → at_end (put_in_list new place) slice v ≡ insert_by c target value at v
  insert_along value at new place [] slice means placed asked some lent = absurd (some refl)
  insert_along value at new place (s ∷ ss) slice means placed asked some lent =
      ap (λ q. at_end (put_in_list new place) q v) lent
      ∙ ap (λ g. g v) (sym (inside_last (put_in_list new place) s ss))
      ∙ ap (λ q. changed (inside (put_in_list new place)) q v) asked
      ∙ ap (λ p. changed (inside (put_in_list new p)) (selectors c target) v) placed
      ∙ sym (ap (λ r. unless_missing (λ w. changed (inside (put_in_list w (option_map (λ e. meaning e c) at))) (selectors c target)) r v) means)
