-- Readings of fields, of lists and of the parts that are structs are inverse to their writings.
use Rattle.std.proofs.Common.{◌≡◌, ◌∙◌, ℕ, ◌^◌, Bool, true, false, List, [], ◌∷◌, map, Option, Some, None, refl, ap, subst, bytes_eq, if◌then◌else◌, codes, ◌&&◌}
use Rattle.std.proofs.lemmas.Slice.Eq.{bytes_eq-Decides}
use Rattle.std.specs.Prelude.{option_map}
use Rattle.std.specs.List.{list_all}
use Rattle.std.specs.Cmp.Derive.{both_true}
use Rattle.ion_values.specs.declared.value.Value.{Value}
use Rattle.ion_values.specs.declared.value.Field.{Field}
use Rattle.ql_types.specs.declared.BlockAddress.{BlockAddress}
use Rattle.ledger_model.specs.Values.{field, fields_in, list_in}
use Rattle.ledger_model.specs.Journal.{structure, list, number, id_value, address_value}
use Rattle.ledger_model.specs.Script.{and_then, each}
use Rattle.ledger_model.specs.Whole.{id_fits, address_fits}
use Rattle.value_codec.specs.ReadParts.{named, number_in, id_in, address_of, address_in}
use Rattle.value_codec.proofs.Inverse.{Gets, Puts, took, fields-gets, left, right, cons}
use Rattle.value_codec.proofs.SmallParts.{list-gets, fields-puts, below, number-gets, number-puts, id-gets, id-puts}

pub named-is : (name : List ℕ) (f : Field) (v : Value) → named name f ≡ Some v → f ≡ field name v
named-is name f v e = go (bytes_eq f.name name) refl e where
  go : (b : Bool) → bytes_eq f.name name ≡ b → (if b then Some f.value else None) ≡ Some v → f ≡ field name v
  go true t e =
      let same : f.name ≡ name = (bytes_eq-Decides f.name name).0 t in
      let worth : f.value ≡ v = cc in
      ap (λ n. field n f.value) same ∙ ap (field name) worth
  go false t e = cc

-- the field of this name holds the part's value
pub field-gets : {A : Type 0} (read : Value → Option A) (value : A → Value) (fits : A → Bool) → Gets read value fits
    → (name : List ℕ) (f : Field) (x : A) → and_then (named name f) read ≡ Some x → (f ≡ field name (value x)) × (fits x ≡ true)
field-gets read value fits gets name f x e =
    let t = took (named name f) read x e in
    let s = gets t.0 x t.2 in
    (named-is name f t.0 t.1 ∙ ap (field name) s.0, s.1)

pub each-gets : {A : Type 0} (read : Value → Option A) (value : A → Value) (fits : A → Bool) → Gets read value fits
    → (vs : List Value) (xs : List A) → each read vs ≡ Some xs → (vs ≡ map value xs) × (list_all fits xs ≡ true)
each-gets {A} read value fits gets [] [] e = (refl, refl)
each-gets {A} read value fits gets [] (x ∷ xs) e = cc
each-gets {A} read value fits gets (v ∷ vs) xs e =
    let t = took (read v) (λ y. option_map (λ ys. y ∷ ys) (each read vs)) xs e in
    rest t.0 (gets v t.0 t.1) (λ ys is. each-gets read value fits gets vs ys is) (each read vs) refl xs t.2 where
      rest : (y : A) → (v ≡ value y) × (fits y ≡ true) → ((ys : List A) → each read vs ≡ Some ys → (vs ≡ map value ys) × (list_all fits ys ≡ true))
          → (o : Option (List A)) → each read vs ≡ o → (zs : List A)
          → option_map (λ ys. y ∷ ys) o ≡ Some zs → (v ∷ vs ≡ map value zs) × (list_all fits zs ≡ true)
      rest y s ih None is zs e = cc
      rest y s ih (Some ys) is zs e =
          let same : y ∷ ys ≡ zs = cc in
          let r = ih ys is in
          subst (λ l. (v ∷ vs ≡ map value l) × (list_all fits l ≡ true)) same
          (ap (λ w. w ∷ vs) s.0 ∙ ap (λ ws. value y ∷ ws) r.0, both_true s.1 r.1)

pub each-puts : {A : Type 0} (read : Value → Option A) (value : A → Value) (fits : A → Bool) → Puts read value fits
    → (xs : List A) → list_all fits xs ≡ true → each read (map value xs) ≡ Some xs
each-puts read value fits puts [] all = refl
each-puts read value fits puts (x ∷ xs) all =
    let this = puts x (left (fits x) (list_all fits xs) all) in
    let more = each-puts read value fits puts xs (right (fits x) (list_all fits xs) all) in
    rw (this, more) refl

-- what is read of the field of this name, and what is made of that
pub taken : {A B : Type 0} (read : Value → Option A) (value : A → Value) (fits : A → Bool) → Gets read value fits
    → (name : List ℕ) (f : Field) (next : A → Option B) (y : B) → and_then (and_then (named name f) read) next ≡ Some y
    → (x : A) × (f ≡ field name (value x)) × (fits x ≡ true) × (next x ≡ Some y)
taken read value fits gets name f next y e =
    let t = took (and_then (named name f) read) next y e in
    let s = field-gets read value fits gets name f t.0 t.1 in
    (t.0, s.0, s.1, t.2)

-- what is read of a list in the field of this name, and what is made of it
pub taken_all : {A B : Type 0} (read : Value → Option A) (value : A → Value) (fits : A → Bool) → Gets read value fits
    → (name : List ℕ) (f : Field) (next : List A → Option B) (y : B) → and_then (and_then (and_then (named name f) list_in) (each read)) next ≡ Some y
    → (xs : List A) × (f ≡ field name (list (map value xs))) × (list_all fits xs ≡ true) × (next xs ≡ Some y)
taken_all read value fits gets name f next y e =
    let t = took (and_then (and_then (named name f) list_in) (each read)) next y e in
    let u = took (and_then (named name f) list_in) (each read) t.0 t.1 in
    let w = took (named name f) list_in u.0 u.1 in
    let s = each-gets read value fits gets u.0 t.0 u.2 in
    (t.0, named-is name f w.0 w.1 ∙ ap (field name) (list-gets w.0 u.0 w.2 ∙ ap list s.0), s.1, t.2)

-- what passes two tests passes each of them
pub both_of : {A : Type 0} (p q : A → Bool) (xs : List A) → list_all (λ x. p x && q x) xs ≡ true → (list_all p xs ≡ true) × (list_all q xs ≡ true)
both_of p q [] all = (refl, refl)
both_of p q (x ∷ xs) all =
    let this = left (p x && q x) _ all in
    let more = both_of p q xs (right (p x && q x) _ all) in
    (both_true (left (p x) _ this) more.0, both_true (right (p x) _ this) more.1)

pub all_of : {A : Type 0} (p q : A → Bool) (xs : List A) → list_all p xs ≡ true → list_all q xs ≡ true → list_all (λ x. p x && q x) xs ≡ true
all_of p q [] first second = refl
all_of p q (x ∷ xs) first second =
    both_true (both_true (left (p x) _ first) (left (q x) _ second)) (all_of p q xs (right (p x) _ first) (right (q x) _ second))

-- each value fits where nothing is asked
abbrev pub always : {A : Type 0} → A → Bool
always x = true

-- ---- addresses

address_of-is : (fs : List Field) (a : BlockAddress) → address_of fs ≡ Some a → (structure fs ≡ address_value a) × (address_fits a ≡ true)
address_of-is (f ∷ g ∷ []) a e =
    let s = taken id_in id_value id_fits id-gets (codes "strandId") f _ a e in
    let n = taken (number_in (2 ^ 64)) number (below (2 ^ 64)) (number-gets (2 ^ 64)) (codes "sequenceNo") g _ a s.3 in
    let made : BlockAddress = record { strand = record { raw = s.0 }; sequence = n.0 } in
    let same : made ≡ a = cc in
    subst (λ x. (structure (f ∷ g ∷ []) ≡ address_value x) × (address_fits x ≡ true)) same
    (ap structure (cons s.1 (cons n.1 refl)), both_true s.2 n.2)
address_of-is [] a e = cc
address_of-is (f ∷ []) a e = cc
address_of-is (f ∷ g ∷ h ∷ fs) a e = cc

pub address-gets : Gets address_in address_value address_fits
address-gets v a e =
    let t = took (fields_in v) address_of a e in
    let s = address_of-is t.0 a t.2 in
    (fields-gets v t.0 t.1 ∙ s.0, s.1)

pub address-puts : Puts address_in address_value address_fits
address-puts a fits =
    let s = id-puts a.strand.raw (left _ _ fits) in
    let n = number-puts (2 ^ 64) a.sequence (right _ _ fits) in
    rw (fields-puts _, s, n) refl
