-- What holds of an item that is there.
use Rattle.std.proofs.Common.{◌≡◌, ◌∙◌, Option, Some, None, refl, sym, subst}
use Rattle.std.specs.Prelude.{IfSome, IsSomeAnd}

pub if_there : {A : Type 0} (P : A → Type 0) (o : Option A) (x : A) → o ≡ Some x → P x → IfSome o P
if_there {A = A} P o x is holds = subst (λ (q : Option A). IfSome q P) (sym is) holds

pub there : {A : Type 0} (P : A → Type 0) (o : Option A) (x : A) → o ≡ Some x → IfSome o P → P x
there {A = A} P o x is holds = subst (λ (q : Option A). IfSome q P) is holds

pub some_there : {A : Type 0} (P : A → Type 0) (o : Option A) (x : A) → o ≡ Some x → P x → IsSomeAnd o P
some_there {A = A} P o x is holds = subst (λ (q : Option A). IsSomeAnd q P) (sym is) holds

-- the item, that it is there, and what holds of it
pub found : {A : Type 0} (P : A → Type 0) (o : Option A) → IsSomeAnd o P → (x : A) × (o ≡ Some x) × P x
found P None h = absurd h
found P (Some x) h = (x, refl, h)

-- there is one
pub one_there : {A : Type 0} (o : Option A) (x y : A) → o ≡ Some x → o ≡ Some y → x ≡ y
one_there o x y is are = let both = sym is ∙ are in cc
