-- What a value that can't be read spells.
use Rattle.std.proofs.Common.{◌≡◌, ℕ, Bool, List, [], ◌∷◌, length, get_or, Option, Some, None, refl, sym, subst, arith}
use Rattle.ion_values.specs.declared.value.Value.{Value}
use Rattle.value_codec.proofs.Inverse.{Gets, Puts, cons}
use Rattle.proof_verify.specs.declared.ProofFault.{ProofFault}
use Rattle.proof_verify.specs.declared.ProofFault.TheVariants as fault
use Rattle.proof_verify.specs.Bundles.{Spells, SpellsNone, IsUnread, IsUnreadable, IsNamed}

pub spells : {A : Type 0} (read : Value → Option A) (value : A → Value) (fits : A → Bool) → Gets read value fits → (v : Value) (x : A) → read v ≡ Some x
    → Spells value fits v
spells read value fits gets v x e = let s = gets v x e in (x, (s.1, s.0))

pub spells_none : {A : Type 0} (read : Value → Option A) (value : A → Value) (fits : A → Bool) → Puts read value fits → (v : Value) → read v ≡ None
    → SpellsNone value fits v
spells_none {A} read value fits puts v e x fit is =
    let h : read v ≡ Some x = subst (λ w. read w ≡ Some x) (sym is) (puts x fit) in cc

-- a list of three is that of its items
pub three : (xs : List Value) (a b c : Value) → length xs ≡ 3 → a ≡ get_or xs 0 a → b ≡ get_or xs 1 b → c ≡ get_or xs 2 c → xs ≡ a ∷ b ∷ c ∷ []
three [] a b c long e f g = absurd (omega arith)
three (x ∷ []) a b c long e f g = absurd (omega arith)
three (x ∷ y ∷ []) a b c long e f g = absurd (omega arith)
three (x ∷ y ∷ z ∷ []) a b c long e f g = cons (sym e) (cons (sym f) (cons (sym g) refl))
three (x ∷ y ∷ z ∷ w ∷ xs) a b c long e f g = absurd (omega arith)

-- a fault that names an unread field
pub unreadable : (values : List Value) (name : List ℕ) (f : ProofFault) → IsUnread values name → IsNamed name f → IsUnreadable values f
unreadable values name (fault.Malformed field) unread is = subst (λ n. IsUnread values n) (sym is) unread
unreadable values name fault.OutOfMemory unread is = tt
unreadable values name _ unread is = is
