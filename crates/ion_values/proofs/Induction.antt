-- Induction over values: what holds of a value where it holds of each member holds of every value.
use Rattle.std.proofs.Common.{ℕ, List, [], ◌∷◌, map, subst, sym}
use Rattle.std.specs.List.{AllByRecursion}
use Rattle.ion_values.specs.declared.value.Value.{Value, roll-Value}
use Rattle.ion_values.specs.declared.value.Body.{Body, roll-Body, out-Body, out-roll-Body, roll-out-Body}
use Rattle.ion_values.specs.declared.value.Field.{Field}
use Rattle.ion_values.specs.declared.value.Body.TheOpen.{Body-F, Field-F, Value-F}
use Rattle.ion_values.specs.declared.value.Body.TheFolds.{ind-Value, map-Body}

-- P of each member of a container
abbrev pub EachMember : (Value → Type 0) → Body-F Body Field Value → Type 0
EachMember P (Body-F.List values) = AllByRecursion P values
EachMember P (Body-F.Sexp values) = AllByRecursion P values
EachMember P (Body-F.Struct fields) = AllByRecursion (λ f. P f.value) fields
EachMember P _ = Unit {0}

module _ (P : Value → Type 0) where
  abbrev OfField : Field → Type 0
  OfField f = P f.value

  abbrev OfBody : Body → Type 0
  OfBody b = EachMember P (out-Body b)

  of_values : (es : List ((v : Value) × P v)) → AllByRecursion P (map (λ e. e.0) es)
  of_values [] = tt
  of_values (e ∷ es) = (e.1, of_values es)

  of_fields : (es : List ((f : Field) × OfField f)) → AllByRecursion OfField (map (λ e. e.0) es)
  of_fields [] = tt
  of_fields (e ∷ es) = (e.1, of_fields es)

  of_members : (y : Body-F ((b : Body) × OfBody b) ((f : Field) × OfField f) ((v : Value) × P v)) → EachMember P (map-Body _ _ _ _ _ _ (λ e. e.0) (λ e. e.0) (λ e. e.0) y)
  of_members (Body-F.List es) = of_values es
  of_members (Body-F.Sexp es) = of_values es
  of_members (Body-F.Struct es) = of_fields es
  of_members (Body-F.Null k) = tt
  of_members (Body-F.Bool k) = tt
  of_members (Body-F.Int k) = tt
  of_members (Body-F.Decimal k) = tt
  of_members (Body-F.Timestamp k) = tt
  of_members (Body-F.Symbol k) = tt
  of_members (Body-F.String k) = tt
  of_members (Body-F.Clob k) = tt
  of_members (Body-F.Blob k) = tt

  pub by_members : ((annotations : List (List ℕ)) (b : Body-F Body Field Value) → EachMember P b → P (record { annotations = annotations; body = roll-Body b })) → (v : Value) → P v
  by_members step =
      ind-Value OfBody OfField P
      (λ x y is. subst (EachMember P) (sym (out-roll-Body x)) (subst (EachMember P) is (of_members y)))
      (λ x y is. subst (λ (z : Field-F Body Field Value). P z.value) is y.value.1)
      (λ x y is. subst (λ (z : Value-F Body Field Value). P (roll-Value z)) is (subst (λ b. P (record { annotations = y.annotations; body = b })) (roll-out-Body y.body.0) (step y.annotations (out-Body y.body.0) y.body.1)))
