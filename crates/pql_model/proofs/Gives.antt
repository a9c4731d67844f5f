-- What a production gives from any tokens of which no value is deeper than 64, with a lemma for each form of production.
use Prim.Native.String.{String}
use Rattle.std.proofs.Common.{ℕ, ◌≤◌, Bool, true, false, if◌then◌else◌, List, [], ◌∷◌, map, drop, Result, Ok, Err, Option, Some, None, codes, arith}
use Rattle.ion_values.specs.Depth.{depth_of, deepest}
use Rattle.pql_model.specs.declared.ParseKind.{ParseKind}
use Rattle.pql_model.specs.declared.mark.Place.{Place}
use Rattle.pql_model.specs.declared.mark.Role.{Role}
use Rattle.pql_model.specs.declared.token.Located.{Located}
use Rattle.pql_model.specs.declared.token.Token.{Token}
use Rattle.pql_model.specs.declared.token.Token.TheVariants as token
use Rattle.pql_model.specs.Productions.{Fault, Found, Production, Reader, ◌>>=◌, advanced, by_name, choose, expect, front_of, give, marked, moved_to, name, onward, past, refuse, symbol, token_of, with_name, within, word}
use Rattle.pql_model.specs.Words.{is_symbol, is_word, name_of}

-- ---- tokens

abbrev pub token_depth : Token → ℕ
token_depth (token.Value v) = depth_of v
token_depth _ = 0

-- the deepest value among tokens
abbrev pub tokens_depth : List Located → ℕ
tokens_depth ls = deepest (map (λ l. token_depth l.token) ls)

pub front_depth : (ls : List Located) → token_depth (front_of ls).token ≤ tokens_depth ls
front_depth [] = omega arith
front_depth (l ∷ ls) = omega arith

behind_depth : (ls : List Located) → tokens_depth (drop 1 ls) ≤ tokens_depth ls
behind_depth [] = omega arith
behind_depth (l ∷ ls) = omega arith

pub advanced_depth : (r : Reader) → tokens_depth r.rest ≤ 64 → tokens_depth (advanced r).rest ≤ 64
advanced_depth r h = omega (arith, behind_depth r.rest)

-- ---- what is given

abbrev pub Gave : {A : Type 0} → (A → Type 0) → Result (Found A) Fault → Type 0
Gave P (Ok found) = P found.tree × (tokens_depth found.reader.rest ≤ 64)
Gave P (Err fault) = Unit {0}

-- what the production gives satisfies P, and the tokens behind it are as shallow as those before it
pub record Gives (A : Type 0) (P : A → Type 0) (p : Production A) : Type 0 where
  pub at : (r : Reader) → tokens_depth r.rest ≤ 64 → Gave P (p r)

-- ---- the forms

pub gives_refuse : {A : Type 0} → (P : A → Type 0) (k : ParseKind) → Gives A P (refuse k)
gives_refuse P k = record { at = λ r h. tt }

pub gives_give : {A : Type 0} {P : A → Type 0} → (x : A) → P x → Gives A P (give x)
gives_give x p = record { at = λ r h. (p, h) }

onward_gave : {A B : Type 0} → (P : A → Type 0) (Q : B → Type 0) (f : A → Production B) → ((x : A) → P x → Gives B Q (f x)) → (result : Result (Found A) Fault) → Gave P result → Gave Q (onward f result)
onward_gave P Q f next (Ok found) g = (next found.tree g.0).at found.reader g.1
onward_gave P Q f next (Err fault) g = tt

pub gives_then : {A B : Type 0} {P : A → Type 0} {Q : B → Type 0} {p : Production A} → (f : A → Production B) → Gives A P p → ((x : A) → P x → Gives B Q (f x)) → Gives B Q (p >>= f)
gives_then {P} {Q} {p} f first next = record { at = λ r h. onward_gave P Q f next (p r) (first.at r h) }

pub gives_past : {A : Type 0} {P : A → Type 0} {p : Production A} → Gives A P p → Gives A P (past p)
gives_past g = record { at = λ r h. g.at (advanced r) (advanced_depth r h) }

choice_gave : {A : Type 0} → (P : A → Type 0) (b : Bool) (p q : Production A) → Gives A P p → Gives A P q → Gives A P (if b then p else q)
choice_gave P true p q f g = f
choice_gave P false p q f g = g

pub gives_choice : {A : Type 0} {P : A → Type 0} {p q : Production A} → (b : Bool) → Gives A P p → Gives A P q → Gives A P (if b then p else q)
gives_choice {P} {p} {q} b f g = choice_gave P b p q f g

pub gives_choose : {A : Type 0} {P : A → Type 0} {p q : Production A} → (test : Token → Bool) → Gives A P p → Gives A P q → Gives A P (choose test p q)
gives_choose {P} {p} {q} test f g = record { at = λ r h. (choice_gave P (test (token_of r)) p q f g).at r h }

-- where the token in front is this word, and where it isn't
pub gives_if_word : {A : Type 0} {P : A → Type 0} {p q : Production A} → (text : String) → Gives A P p → Gives A P q → Gives A P (choose (is_word (codes text)) p q)
gives_if_word text f g = gives_choose (is_word (codes text)) f g

pub gives_if_symbol : {A : Type 0} {P : A → Type 0} {p q : Production A} → (text : String) → Gives A P p → Gives A P q → Gives A P (choose (is_symbol (codes text)) p q)
gives_if_symbol text f g = gives_choose (is_symbol (codes text)) f g

pub gives_expect : {A : Type 0} {P : A → Type 0} {p : Production A} → (test : Token → Bool) → Gives A P p → Gives A P (expect test p)
gives_expect {P} test g = gives_choose test (gives_past g) (gives_refuse P _)

pub gives_word : {A : Type 0} {P : A → Type 0} {p : Production A} → (text : String) → Gives A P p → Gives A P (word text p)
gives_word text g = gives_expect (is_word (codes text)) g

pub gives_symbol : {A : Type 0} {P : A → Type 0} {p : Production A} → (text : String) → Gives A P p → Gives A P (symbol text p)
gives_symbol text g = gives_expect (is_symbol (codes text)) g

pub gives_by_name : {A : Type 0} {P : A → Type 0} → (next : List ℕ → Production A) → ((text : List ℕ) → Gives A P (next text)) → (found : Option (List ℕ)) → Gives A P (by_name next found)
gives_by_name next g (Some text) = g text
gives_by_name {P} next g None = gives_refuse P _

pub gives_with_name : {A : Type 0} {P : A → Type 0} → (next : List ℕ → Production A) → ((text : List ℕ) → Gives A P (next text)) → Gives A P (with_name next)
gives_with_name next g = record { at = λ r h. (gives_by_name next g (name_of (token_of r))).at r h }

pub gives_marked : {A : Type 0} {P : A → Type 0} {p : Production A} → (role : Role) → Gives A P p → Gives A P (marked role p)
gives_marked role g = record { at = λ r h. g.at _ h }

moved_gave : {A : Type 0} → (P : A → Type 0) (place : Place) (result : Result (Found A) Fault) → Gave P result → Gave P (onward (λ x s. give x (moved_to place s)) result)
moved_gave P place (Ok found) g = g
moved_gave P place (Err fault) g = tt

pub gives_within : {A : Type 0} {P : A → Type 0} {p : Production A} → (place : Place) → Gives A P p → Gives A P (within place p)
gives_within {P} {p} place g = record { at = λ r h. moved_gave P r.place (p (moved_to place r)) (g.at (moved_to place r) h) }

-- ---- any tree

-- nothing is said of the tree
abbrev pub Any : {A : Type 0} → A → Type 0
Any x = Unit {0}

pub any_name : Gives (List ℕ) Any name
any_name = gives_with_name (λ text. past (give text)) (λ text. gives_past (gives_give text tt))
