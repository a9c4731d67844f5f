-- A store that tells nothing of its content leaves nothing to show of it.
use Rattle.std.proofs.Common.{ℕ, List, None, Result, Ok, Err, IfOk, inl, refl}
use Rattle.std.specs.Prelude.{⊤, OnErr, IsErrOf}
use Rattle.outside.specs.declared.traits.OutFault.{OutFault}
use Rattle.outside.specs.declared.traits.OutFault.TheVariants.{Failed, OutOfMemory}
use Rattle.outside.specs.Store.{AppendLeaves, CutLeaves, SyncLeaves}

pub untold : {T E : Type 0} (r : Result T E) → IfOk r (λ _. ⊤)
untold (Ok x) = tt
untold (Err e) = tt

-- what holds after any fault holds after memory ran out
pub lent_untold : {T P : Type 0} (r : Result T OutFault) → OnErr r P → IsErrOf r OutOfMemory → P
lent_untold (Ok x) p wanted = cc
lent_untold (Err fault) p wanted = p

pub append_untold : {T : Type 0} (r : Result T OutFault) (piece : List ℕ) → AppendLeaves r None None piece
append_untold (Ok x) piece = refl
append_untold (Err Failed) piece = (0, refl)
append_untold (Err OutOfMemory) piece = refl

pub cut_untold : {T : Type 0} (r : Result T OutFault) (size : ℕ) → CutLeaves r None None size
cut_untold (Ok x) size = refl
cut_untold (Err Failed) size = inl refl
cut_untold (Err OutOfMemory) size = refl

pub sync_untold : {T : Type 0} (r : Result T OutFault) → SyncLeaves r None None
sync_untold (Ok x) = refl
sync_untold (Err fault) = refl
