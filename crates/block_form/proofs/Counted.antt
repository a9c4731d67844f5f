-- What a transaction says stands in four fields.
use Rattle.std.proofs.Common.{◌≡◌, List, [], ◌∷◌, length, None, refl}
use Rattle.ion_values.specs.declared.value.Field.{Field}
use Rattle.ledger_model.specs.declared.block.Revision.{Revision}
use Rattle.block_form.specs.ReadBack.{info_of}

pub no_info : (rs : List Revision) (fs : List Field) → (length fs ≡ 4 → ⊥) → info_of rs fs ≡ None
no_info rs [] other = refl
no_info rs (f ∷ []) other = refl
no_info rs (f ∷ g ∷ []) other = refl
no_info rs (f ∷ g ∷ h ∷ []) other = refl
no_info rs (f ∷ g ∷ h ∷ i ∷ []) other = absurd (other refl)
no_info rs (f ∷ g ∷ h ∷ i ∷ j ∷ fs) other = refl
