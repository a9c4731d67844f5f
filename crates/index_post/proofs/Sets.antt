-- Keys' sets after a change of one of them.
use Rattle.std.proofs.Common.{◌≡◌, ℕ, Bool, true, false, cond, List, [], ◌∷◌, Option, None, Some, length, ◌<◌, arith, refl, sym, ap, ◌∙◌, subst}
use Rattle.std.specs.declared.cmp.Ordering.{Ordering}
use Rattle.std.specs.declared.cmp.Ordering.TheVariants.{Less, Equal, Greater}
use Rattle.std.specs.Ordering.{is_eq, nat_cmp}
use Rattle.std.specs.Option.{unwrap_or}
use Rattle.std.specs.Cmp.{IsTotalOrder}
use Rattle.std.specs.Map.{keys_of, lookup, remove_entry}
use Rattle.std.specs.BTreeMap.{insert_entry, is_at}
use Rattle.std.proofs.lemmas.Cmp.{ranked}
use Rattle.pmap.specs.Pairs.{Each, IsBelow, Ascends}
use Rattle.pmap.proofs.Lookups.{is_same, lookup_left, lookup_put}
use Rattle.index_post.specs.Positions.{positions_by, with_position, without_position, put_at, set_at, listed, IsAscending, IsChangedBy}

pulled : {X : Type 0} (b : Bool) (x y : X) (o : Option X) → unwrap_or (cond b (Some x) o) y ≡ cond b x (unwrap_or o y)
pulled true x y o = refl
pulled false x y o = refl

-- the lists of positions
inserted_by : (n : ℕ) (pair : ℕ × ℕ) (set : List (ℕ × ℕ)) (o : Ordering) → nat_cmp n pair.0 ≡ o
    → keys_of (insert_entry nat_cmp set n n) ≡ with_position n (keys_of set)
    → keys_of (insert_entry nat_cmp (pair ∷ set) n n) ≡ with_position n (keys_of (pair ∷ set))
inserted_by n pair set Less e ih = rw e refl
inserted_by n pair set Equal e ih = rw e refl
inserted_by n pair set Greater e ih = rw e (ap (λ (rest : List ℕ). pair.0 ∷ rest) ih)

pub keys_inserted : (n : ℕ) (set : List (ℕ × ℕ)) → keys_of (insert_entry nat_cmp set n n) ≡ with_position n (keys_of set)
keys_inserted n [] = refl
keys_inserted n (pair ∷ set) = inserted_by n pair set (nat_cmp n pair.0) refl (keys_inserted n set)

removed_by : (n : ℕ) (pair : ℕ × ℕ) (set : List (ℕ × ℕ)) (b : Bool) → is_eq (nat_cmp n pair.0) ≡ b
    → keys_of (remove_entry (is_at (nat_cmp n)) set) ≡ without_position n (keys_of set)
    → keys_of (remove_entry (is_at (nat_cmp n)) (pair ∷ set)) ≡ without_position n (keys_of (pair ∷ set))
removed_by n pair set true e ih = rw e refl
removed_by n pair set false e ih = rw e (ap (λ (rest : List ℕ). pair.0 ∷ rest) ih)

pub keys_removed : (n : ℕ) (set : List (ℕ × ℕ)) → keys_of (remove_entry (is_at (nat_cmp n)) set) ≡ without_position n (keys_of set)
keys_removed n [] = refl
keys_removed n (pair ∷ set) = removed_by n pair set (is_eq (nat_cmp n pair.0)) refl (keys_removed n set)

module _ {K : Type 0} (order : K → K → Ordering) (total : IsTotalOrder order) (same : (a b : K) → order a b ≡ Equal → a ≡ b) where
  -- a key's positions are the keys of its set
  listed_by : (set : K × List (ℕ × ℕ)) (sets : List (K × List (ℕ × ℕ))) (key : K) (b : Bool) → is_eq (order key set.0) ≡ b
      → positions_by order (listed sets) key ≡ keys_of (set_at order sets key) → positions_by order (listed (set ∷ sets)) key ≡ keys_of (set_at order (set ∷ sets) key)
  listed_by set sets key true e ih = rw e refl
  listed_by set sets key false e ih = rw e ih

  pub listed_at : (sets : List (K × List (ℕ × ℕ))) (key : K) → positions_by order (listed sets) key ≡ keys_of (set_at order sets key)
  listed_at [] key = refl
  listed_at (set ∷ sets) key = listed_by set sets key (is_eq (order key set.0)) refl (listed_at sets key)

  -- what is listed where a set was looked up
  pub none_listed : (sets : List (K × List (ℕ × ℕ))) (key : K) → None ≡ lookup (is_at (order key)) sets → [] ≡ positions_by order (listed sets) key
  none_listed sets key e = sym (listed_at sets key ∙ ap (λ (own : Option (List (ℕ × ℕ))). keys_of (unwrap_or own [])) (sym e))

  pub some_listed : (sets : List (K × List (ℕ × ℕ))) (key : K) (set : List (ℕ × ℕ)) → Some set ≡ lookup (is_at (order key)) sets
      → keys_of set ≡ positions_by order (listed sets) key
  some_listed sets key set e = sym (listed_at sets key ∙ ap (λ (own : Option (List (ℕ × ℕ))). keys_of (unwrap_or own [])) (sym e))

  -- the set of a key after another set is inserted
  set_put : (sets : List (K × List (ℕ × ℕ))) (key : K) (set : List (ℕ × ℕ)) (other : K)
      → set_at order (insert_entry order sets key set) other ≡ cond (is_eq (order other key)) set (set_at order sets other)
  set_put sets key set other =
      ap (λ (found : Option (List (ℕ × ℕ))). unwrap_or found []) (lookup_put order total same sets key set other)
      ∙ pulled (is_eq (order other key)) set [] (lookup (is_at (order other)) sets)

  -- what becomes of the positions
  module _ (f : List (ℕ × ℕ) → List (ℕ × ℕ)) (sets : List (K × List (ℕ × ℕ))) (key : K) where
    changed_by : (set : List (ℕ × ℕ)) (other : K) (b : Bool) → is_eq (order other key) ≡ b → set ≡ f (set_at order sets key)
        → cond b set (set_at order sets other) ≡ cond b (f (set_at order sets other)) (set_at order sets other)
    changed_by set other true e h = h ∙ ap (λ (k : K). f (set_at order sets k)) (sym (is_same order total same other key e))
    changed_by set other false e h = refl

    pub changed : (after : List (K × List (ℕ × ℕ))) (set : List (ℕ × ℕ)) → after ≡ insert_entry order sets key set → set ≡ f (set_at order sets key)
        → (other : K) → set_at order after other ≡ cond (is_eq (order other key)) (f (set_at order sets other)) (set_at order sets other)
    changed after set e h other =
        ap (λ (all : List (K × List (ℕ × ℕ))). set_at order all other) e ∙ set_put sets key set other
        ∙ changed_by set other (is_eq (order other key)) refl h

    absent_by : (other : K) (b : Bool) → is_eq (order other key) ≡ b → set_at order sets key ≡ [] → f [] ≡ []
        → set_at order sets other ≡ cond b (f (set_at order sets other)) (set_at order sets other)
    absent_by other true e h n =
        let none : set_at order sets other ≡ [] = ap (set_at order sets) (is_same order total same other key e) ∙ h in
        none ∙ sym n ∙ ap f (sym none)
    absent_by other false e h n = refl

    pub absent : set_at order sets key ≡ [] → f [] ≡ []
        → (other : K) → set_at order sets other ≡ cond (is_eq (order other key)) (f (set_at order sets other)) (set_at order sets other)
    absent h n other = absent_by other (is_eq (order other key)) refl h n

    emptied_by : (other : K) (b : Bool) → is_eq (order other key) ≡ b → lookup (is_at (order key)) (remove_entry (is_at (order key)) sets) ≡ None
        → f (set_at order sets key) ≡ [] → set_at order (remove_entry (is_at (order key)) sets) other ≡ cond b (f (set_at order sets other)) (set_at order sets other)
    emptied_by other true e gone h =
        let is = is_same order total same other key e in
        ap (set_at order (remove_entry (is_at (order key)) sets)) is ∙ ap (λ (found : Option (List (ℕ × ℕ))). unwrap_or found []) gone
        ∙ sym h ∙ ap (λ (k : K). f (set_at order sets k)) (sym is)
    emptied_by other false e gone h = ap (λ (found : Option (List (ℕ × ℕ))). unwrap_or found []) (lookup_left order total same sets key other e)

    pub emptied : (after : List (K × List (ℕ × ℕ))) → after ≡ remove_entry (is_at (order key)) sets
        → lookup (is_at (order key)) after ≡ None → f (set_at order sets key) ≡ []
        → (other : K) → set_at order after other ≡ cond (is_eq (order other key)) (f (set_at order sets other)) (set_at order sets other)
    emptied after e gone h other =
        ap (λ (all : List (K × List (ℕ × ℕ))). set_at order all other) e
        ∙ emptied_by other (is_eq (order other key)) refl (sym (ap (lookup (is_at (order key))) e) ∙ gone) h

    -- the same of the lists
    listed_cond : (g : List ℕ → List ℕ) (set : List (ℕ × ℕ)) (b : Bool) → keys_of (f set) ≡ g (keys_of set)
        → keys_of (cond b (f set) set) ≡ cond b (g (keys_of set)) (keys_of set)
    listed_cond g set true h = h
    listed_cond g set false h = refl

    pub listed_changed : (g : List ℕ → List ℕ) (after : List (K × List (ℕ × ℕ))) → ((set : List (ℕ × ℕ)) → keys_of (f set) ≡ g (keys_of set))
        → ((other : K) → set_at order after other ≡ cond (is_eq (order other key)) (f (set_at order sets other)) (set_at order sets other))
        → (other : K) → positions_by order (listed after) other
        ≡ cond (is_eq (order other key)) (g (positions_by order (listed sets) other)) (positions_by order (listed sets) other)
    listed_changed g after each h other =
        let b = is_eq (order other key) in
        listed_at after other ∙ ap keys_of (h other) ∙ listed_cond g (set_at order sets other) b (each (set_at order sets other))
        ∙ ap (λ (positions : List ℕ). cond b (g positions) positions) (sym (listed_at sets other))

  pub put_under : (n : ℕ) (sets after : List (K × List (ℕ × ℕ))) (key : K) (set : List (ℕ × ℕ)) → after ≡ insert_entry order sets key set
      → set ≡ insert_entry nat_cmp (set_at order sets key) n n → IsChangedBy order n None (Some key) (listed sets) (listed after)
  put_under n sets after key set e h =
      let f : List (ℕ × ℕ) → List (ℕ × ℕ) = λ own. insert_entry nat_cmp own n n in
      listed_changed f sets key (with_position n) after (keys_inserted n) (changed f sets key after set e h)

  module _ (n : ℕ) (sets : List (K × List (ℕ × ℕ))) (key : K) where
    abbrev without : List (ℕ × ℕ) → List (ℕ × ℕ)
    without own = remove_entry (is_at (nat_cmp n)) own

    -- a set that was found is the key's
    pub found_set : (set : List (ℕ × ℕ)) → Some set ≡ lookup (is_at (order key)) sets → set ≡ set_at order sets key
    found_set set e = ap (λ (found : Option (List (ℕ × ℕ))). unwrap_or found []) e

    pub taken_from : (after : List (K × List (ℕ × ℕ))) (set old : List (ℕ × ℕ)) → Some old ≡ lookup (is_at (order key)) sets
        → set ≡ remove_entry (is_at (nat_cmp n)) old → after ≡ insert_entry order sets key set → IsChangedBy order n (Some key) None (listed sets) (listed after)
    taken_from after set old found h e =
        listed_changed without sets key (without_position n) after (keys_removed n)
        (changed without sets key after set e (h ∙ ap without (found_set old found)))

    pub taken_nowhere : (after : List (K × List (ℕ × ℕ))) → after ≡ sets → None ≡ lookup (is_at (order key)) sets
        → IsChangedBy order n (Some key) None (listed sets) (listed after)
    taken_nowhere after e found =
        subst (λ (all : List (K × List (ℕ × ℕ))). IsChangedBy order n (Some key) None (listed sets) (listed all)) (sym e)
        (listed_changed without sets key (without_position n) sets (keys_removed n)
        (absent without sets key (ap (λ (own : Option (List (ℕ × ℕ))). unwrap_or own []) (sym found)) refl))

    none_left : (set : List (ℕ × ℕ)) → length set ≡ 0 → set ≡ []
    none_left [] h = refl
    none_left (pair ∷ set) h = absurd (omega arith)

    pub taken_last : (after : List (K × List (ℕ × ℕ))) (set old : List (ℕ × ℕ)) → Some old ≡ lookup (is_at (order key)) sets
        → set ≡ remove_entry (is_at (nat_cmp n)) old → length set ≡ 0 → after ≡ remove_entry (is_at (order key)) sets
        → lookup (is_at (order key)) after ≡ None → IsChangedBy order n (Some key) None (listed sets) (listed after)
    taken_last after set old found h few e gone =
        listed_changed without sets key (without_position n) after (keys_removed n)
        (emptied without sets key after e gone (ap without (sym (found_set old found)) ∙ sym h ∙ none_left set few))

  -- one change after another
  pub both_changed : (n : ℕ) (old new : Option K) (before between after : List (K × List ℕ)) → IsChangedBy order n old None before between
      → IsChangedBy order n None new between after → IsChangedBy order n old new before after
  both_changed n old new before between after h k key = k key ∙ ap (put_at order n new key) (h key)

-- the keys of a set ascend
below_all : (n : ℕ) (set : List (ℕ × ℕ)) → IsBelow nat_cmp n set → Each (λ m. n < m) (keys_of set)
below_all n [] h = tt
below_all n (pair ∷ set) h = (ranked n pair.0 Less (sym h.0), below_all n set h.1)

pub keys_ascend : (set : List (ℕ × ℕ)) → Ascends nat_cmp set → IsAscending (keys_of set)
keys_ascend [] h = tt
keys_ascend (pair ∷ set) h = (below_all pair.0 set h.0, keys_ascend set h.1)
