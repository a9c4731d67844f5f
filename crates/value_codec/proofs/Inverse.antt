-- When a reading is the inverse of a writing: it gives a part exactly where it is given the part's value.
use Rattle.std.proofs.Common.{◌≡◌, ◌∙◌, ◌&&◌, ℕ, Bool, true, false, List, [], ◌∷◌, length, Option, Some, None, refl, sym, ap, if◌then◌else◌, ◌==◌}
use Rattle.std.proofs.Common.{arith}
use Rattle.std.proofs.lemmas.Bool.Decides.{nat_tests}
use Rattle.ion_values.specs.declared.value.Value.{Value}
use Rattle.ion_values.specs.declared.value.Field.{Field}
use Rattle.ion_values.specs.declared.value.Body.{Body, roll-Body, out-Body, roll-out-Body}
use Rattle.ion_values.specs.declared.value.Body.TheOpen.{Body-F}
use Rattle.ledger_model.specs.Values.{plain, bare, fields_at, fields_in}
use Rattle.ledger_model.specs.Journal.{structure}
use Rattle.ledger_model.specs.Script.{and_then}

-- the reading gives only parts whose value it is given, and these fit
abbrev pub Gets : {A : Type 0} → (Value → Option A) → (A → Value) → (A → Bool) → Type 0
Gets {A} read value fits = (v : Value) (x : A) → read v ≡ Some x → (v ≡ value x) × (fits x ≡ true)

-- the reading gives each part that fits where it is given the part's value
abbrev pub Puts : {A : Type 0} → (Value → Option A) → (A → Value) → (A → Bool) → Type 0
Puts {A} read value fits = (x : A) → fits x ≡ true → read (value x) ≡ Some x

pub took : {A B : Type 0} → (o : Option A) (f : A → Option B) (y : B) → and_then o f ≡ Some y → (x : A) × (o ≡ Some x) × (f x ≡ Some y)
took None f y e = cc
took (Some x) f y e = (x, refl, e)

-- a value without annotations is what stands in it
pub bare-plain : (v : Value) (b : Body-F Body Field Value) → bare v ≡ Some b → v ≡ plain (roll-Body b)
bare-plain v b e = go v.annotations v.body e where
  go : (names : List (List ℕ)) (body : Body) → (if length names == 0 then Some (out-Body body) else None) ≡ Some b → record { annotations = names; body = body } ≡ plain (roll-Body b)
  go [] body e =
      let same : out-Body body ≡ b = cc in
      ap plain (sym (roll-out-Body body) ∙ ap roll-Body same)
  go (n ∷ ns) body e = let some : (length (n ∷ ns) == 0) ≡ false = grind (arith, nat_tests) in cc (rw some at e)

pub fields-gets : (v : Value) (fs : List Field) → fields_in v ≡ Some fs → v ≡ structure fs
unfolding roll-Body denote.Hole.Carrier.roll
fields-gets v fs e = go (bare v) refl e where
  go : (o : Option (Body-F Body Field Value)) → bare v ≡ o → fields_at o ≡ Some fs → v ≡ structure fs
  go (Some (Body-F.Struct gs)) is e = let same : gs ≡ fs = cc in bare-plain v (Body-F.Struct gs) is ∙ ap structure same
  go _ is e = cc

pub left : (a b : Bool) → (a && b) ≡ true → a ≡ true
left true b e = refl
left false b e = cc

pub right : (a b : Bool) → (a && b) ≡ true → b ≡ true
right true b e = e
right false b e = cc

pub cons : {A : Type 0} → {x y : A} {xs ys : List A} → x ≡ y → xs ≡ ys → x ∷ xs ≡ y ∷ ys
cons {A} {x} {y} {xs} {ys} e f = ap (λ z. z ∷ xs) e ∙ ap (λ zs. y ∷ zs) f
