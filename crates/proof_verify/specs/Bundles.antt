-- A bundle to be verified: a digest, a revision and a proof, as Ion values in this order.
use Rattle.std.specs.Prelude.{◌≡◌, ◌≢◌, ◌⊎◌, ℕ, Bool, List, [], ◌∷◌, codes, IsTrue}
use Rattle.ion_values.specs.declared.value.Value.{Value}
use Rattle.ledger_model.specs.declared.block.Revision.{Revision}
use Rattle.ledger_model.specs.Journal.{revision_value}
use Rattle.ledger_model.specs.Whole.{revision_fits}
use Rattle.proof_model.specs.declared.Digest.{Digest}
use Rattle.proof_model.specs.declared.Proof.{Proof}
use Rattle.proof_model.specs.ProofValues.{digest_value, proof_value, digest_fits, proof_fits}
use Rattle.proof_verify.specs.declared.ProofFault.{ProofFault}
use Rattle.proof_verify.specs.declared.ProofFault.TheVariants as fault

-- the values of these three, of which the revision fits its types
abbrev pub IsBundle : List Value → Digest → Revision → Proof → Type 0
IsBundle values d r p = (values ≡ digest_value d ∷ revision_value r ∷ proof_value p ∷ []) × IsTrue (revision_fits r)

-- the numbers of the digest and of the proof fit their types
abbrev pub AreWithin : Digest → Proof → Type 0
AreWithin d p = IsTrue (digest_fits d) × IsTrue (proof_fits p)

-- the value is that of a part, whose numbers fit their types
abbrev pub Spells : {A : Type 0} → (A → Value) → (A → Bool) → Value → Type 0
Spells {A} value fits v = (x : A) × (IsTrue (fits x) × (v ≡ value x))

-- it is that of none
abbrev pub SpellsNone : {A : Type 0} → (A → Value) → (A → Bool) → Value → Type 0
SpellsNone {A} value fits v = (x : A) → IsTrue (fits x) → v ≢ value x

-- the first field of the bundle that can't be read, or the count where there aren't three values
abbrev pub IsUnread : List Value → List ℕ → Type 0
IsUnread (a ∷ b ∷ c ∷ []) field =
    ((field ≡ codes "digest") × SpellsNone digest_value digest_fits a)
    ⊎ ((field ≡ codes "revision") × Spells digest_value digest_fits a × SpellsNone revision_value revision_fits b)
    ⊎ ((field ≡ codes "proof") × Spells digest_value digest_fits a × Spells revision_value revision_fits b
    × SpellsNone proof_value proof_fits c)
IsUnread values field = field ≡ codes "count"

-- what a reader of bundles answers beside a bundle
abbrev pub IsUnreadable : List Value → ProofFault → Type 0
IsUnreadable values (fault.Malformed field) = IsUnread values field
IsUnreadable values fault.OutOfMemory = Unit {0}
IsUnreadable values _ = ⊥

-- a fault that names this field, or out of memory
abbrev pub IsNamed : List ℕ → ProofFault → Type 0
IsNamed name (fault.Malformed field) = field ≡ name
IsNamed name fault.OutOfMemory = Unit {0}
IsNamed name _ = ⊥
