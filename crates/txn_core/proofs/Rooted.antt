-- The sources at which the paths of a change begin.
use Rattle.std.proofs.Common.{◌≡◌, ℕ, ◌||◌, Bool, List, [], ◌∷◌, map, Option, refl, ap, ◌∙◌}
use Rattle.std.specs.List.{list_any}
use Rattle.pql_model.specs.declared.statement.Change.{Change}
use Rattle.pql_model.specs.declared.statement.Source.{Source}
use Rattle.ledger_model.specs.Writing.{is_at, is_root, root_place, targets}

any-map : {A B : Type 0} (f : B → Bool) (g : A → B) (xs : List A) → list_any f (map g xs) ≡ list_any (λ x. f (g x)) xs
any-map f g [] = refl
any-map f g (x ∷ xs) = ap (λ b. f (g x) || b) (any-map f g xs)

-- a change writes the sources at which its paths begin
pub written_is : (sources : List Source) (c : Change) (roots : List (Option ℕ)) → roots ≡ map (root_place sources) (targets c)
    → (λ (n : ℕ). list_any (is_at n) roots) ≡ is_root sources c
written_is sources c roots is =
    λ i n. (ap (list_any (is_at n)) is ∙ any-map (is_at n) (root_place sources) (targets c)) i
