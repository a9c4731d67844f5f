-- What is true of an answer's value is true of the value that is taken out.
use Rattle.std.proofs.Common.{◌≡◌, subst, Option, Some, Result, Ok, Err}
use Rattle.std.specs.Prelude.{IfOk}
use Rattle.std.specs.Result.{result_ok}

pub at_some : {A E : Type 0} (P : A → Type 0) (r : Result A E) (x : A) → result_ok r ≡ Some x → IfOk r P → P x
at_some P (Ok y) x is h = subst P (cc is) h
at_some P (Err e) x is h = absurd (cc is)
