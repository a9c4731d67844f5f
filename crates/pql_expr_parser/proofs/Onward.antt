-- What follows a production is carried into its parts.
use Rattle.std.proofs.Common.{◌≡◌, Bool, true, false, cond, Option, Some, None, Result, Ok, Err, refl, ap}
use Rattle.pql_model.specs.declared.ParseKind.TheVariants as kind
use Rattle.pql_model.specs.declared.mark.Role.{Role}
use Rattle.pql_model.specs.declared.token.Token.{Token}
use Rattle.pql_model.specs.Productions.{Fault, Found, Production, Reader, choose, expect, give, marked, onward, optional, past, refuse, token_of, ◌>>=◌}

pub cond_then : {A B : Type 0} (b : Bool) (p q : Production A) (k : A → Production B) (r : Reader) → onward k (cond b p q r) ≡ cond b (p >>= k) (q >>= k) r
cond_then true p q k r = refl
cond_then false p q k r = refl

pub same_cond : {A : Type 0} (b : Bool) (p q p' q' : Production A) (r : Reader) → p r ≡ p' r → q r ≡ q' r → cond b p q r ≡ cond b p' q' r
same_cond true p q p' q' r e f = e
same_cond false p q p' q' r e f = f

pub onward_some : {A B : Type 0} (k : Option A → Production B) (o : Result (Found A) Fault) → onward k (onward (λ x. give (Some x)) o) ≡ onward (λ x. k (Some x)) o
onward_some k (Ok found) = refl
onward_some k (Err fault) = refl

pub same_onward : {A B : Type 0} (f g : A → Production B) (o : Result (Found A) Fault) → ((x : A) (r : Reader) → f x r ≡ g x r) → onward f o ≡ onward g o
same_onward f g (Ok found) same = same found.tree found.reader
same_onward f g (Err fault) same = refl

pub then_onward : {A B C : Type 0} (f : A → Production B) (g : B → Production C) (o : Result (Found A) Fault) → onward g (onward f o) ≡ onward (λ x. f x >>= g) o
then_onward f g (Ok found) = refl
then_onward f g (Err fault) = refl

-- what is made of what was read, and then what follows
pub made_then : {A B C : Type 0} (make : A → B) (k : B → Production C) (o : Result (Found A) Fault) → onward k (onward (λ x. give (make x)) o) ≡ onward (λ x. k (make x)) o
made_then make k (Ok found) = refl
made_then make k (Err fault) = refl

-- ---- one of two

pub chosen : {A : Type 0} (test : Token → Bool) (taken other : Production A) (r : Reader) → test (token_of r) ≡ true → choose test taken other r ≡ taken r
chosen test taken other r e = ap (λ b. cond b taken other r) e

pub not_chosen : {A : Type 0} (test : Token → Bool) (taken other : Production A) (r : Reader) → test (token_of r) ≡ false → choose test taken other r ≡ other r
not_chosen test taken other r e = ap (λ b. cond b taken other r) e

-- what begins with a token, where it is there
some_taken : {A : Type 0} (test : Token → Bool) (part : Production A) (r : Reader) (b : Bool) → test (token_of r) ≡ b →
    cond b (expect test part >>= (λ x. give (Some x))) (give None) r ≡ cond b (past (part >>= (λ x. give (Some x)))) (give None) r
some_taken test part r true e = ap (onward (λ x. give (Some x))) (chosen test (past part) (refuse kind.Unexpected) r e)
some_taken test part r false e = refl

pub optional_opens : {A : Type 0} (test : Token → Bool) (part : Production A) (r : Reader) →
    optional test (expect test part) r ≡ choose test (past (part >>= (λ x. give (Some x)))) (give None) r
optional_opens test part r = some_taken test part r (test (token_of r)) refl

-- the same with a mark at the token
mark_taken : {A : Type 0} (role : Role) (test : Token → Bool) (part : Production A) (r : Reader) (b : Bool) → test (token_of r) ≡ b →
    cond b (marked role (expect test part) >>= (λ x. give (Some x))) (give None) r ≡ cond b (marked role (past (part >>= (λ x. give (Some x))))) (give None) r
mark_taken role test part r true e = ap (λ b. onward (λ x. give (Some x)) (marked role (cond b (past part) (refuse kind.Unexpected)) r)) e
mark_taken role test part r false e = refl

pub marked_opens : {A : Type 0} (role : Role) (test : Token → Bool) (part : Production A) (r : Reader) →
    optional test (marked role (expect test part)) r ≡ choose test (marked role (past (part >>= (λ x. give (Some x))))) (give None) r
marked_opens role test part r = mark_taken role test part r (test (token_of r)) refl
