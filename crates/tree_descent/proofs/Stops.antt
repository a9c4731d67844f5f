-- Stops, and bytes that are compared.
use Rattle.std.proofs.Common.{◌≡◌, ◌≢◌, ◌∙◌, ℕ, not, Bool, true, false, true≢false, List, length, ◌≤◌, refl, sym, ap, arith}
use Rattle.std.specs.Prelude.{MatchResult, Result, Ok, Err}
use Rattle.std.specs.Str.{bytes_eq}
use Rattle.std.specs.Cmp.Lexicographic.{bytes_decides}
use Rattle.sha2.specs.Sha256.{sha256}
use Rattle.hash_model.specs.Tree.{pad_form, pad_hash}
use Rattle.tree_descent.specs.declared.collision.Stop.{Stop}
use Rattle.tree_descent.specs.Collisions.{IsCollision, IsStop}

-- what follows where there is no stop
pub stop_for : {A : Type 0} (P Q : A → Type 0) → ((x : A) → P x → Q x) → (r : Result A Stop) → MatchResult r P IsStop → MatchResult r Q IsStop
stop_for P Q f (Ok x) h = f x h
stop_for P Q f (Err e) h = h

true_from : (b : Bool) → not b ≡ false → b ≡ true
true_from true h = refl
true_from false h = sym h

pub apart : (r : Bool) (a b : List ℕ) → r ≡ not (bytes_eq a b) → r ≡ true → a ≢ b
apart r a b e h same = true≢false (sym h ∙ e ∙ ap not ((bytes_decides a b).1 same))

pub equal : (r : Bool) (a b : List ℕ) → r ≡ not (bytes_eq a b) → r ≡ false → a ≡ b
equal r a b e h = (bytes_decides a b).0 (true_from (bytes_eq a b) (sym e ∙ h))

-- what is hashed to a pad's hash and is longer than a pad
pub not_pad : (form pad : List ℕ) → pad ≡ pad_form → sha256 form ≡ pad_hash.bytes → 64 ≤ length form → IsCollision form pad
unfolding pad_hash
not_pad form pad is same long =
    let short : length pad_form ≡ 6 = refl in
    record { differ = λ e. omega (arith, long, short, ap length (e ∙ is)); same = same ∙ ap sha256 (sym is) }
