-- What the productions of the grammar are made of. A production reads the tokens in front and gives what they mean,
-- or the fault: the first token that it can't take, and why. The rest of the tokens is kept in a reader, with the
-- marks that were set so far.
use Prim.Native.String.{String}
use Rattle.std.specs.Prelude.{ℕ, Bool, List, [], ◌∷◌, ◌++◌, drop, codes, Option, Some, None, Result, Ok, Err, if◌then◌else◌}
use Rattle.pql_model.specs.declared.ParseKind.{ParseKind}
use Rattle.pql_model.specs.declared.ParseKind.TheVariants as kind
use Rattle.pql_model.specs.declared.token.Token.{Token}
use Rattle.pql_model.specs.declared.token.Token.TheVariants as token
use Rattle.pql_model.specs.declared.token.Located.{Located}
use Rattle.pql_model.specs.declared.mark.Mark.{Mark}
use Rattle.pql_model.specs.declared.mark.Place.{Place}
use Rattle.pql_model.specs.declared.mark.Role.{Role}
use Rattle.pql_model.specs.Words.{is_word, is_symbol, name_of}

-- where the first byte of the offending token stands
pub record Fault : Type 0 where
  pub at : ℕ
  pub kind : ParseKind

-- the tokens that are left, the marks so far, and the part of the statement that is being read
pub record Reader : Type 0 where
  pub rest : List Located
  pub marks : List Mark
  pub place : Place

pub record Found (A : Type 0) : Type 0 where
  pub tree : A
  pub reader : Reader

abbrev pub Production : Type 0 → Type 0
Production A = Reader → Result (Found A) Fault

-- ---- the token in front

abbrev pub front_of : List Located → Located
front_of [] = record { token = token.End; at = 0 }
front_of (l ∷ ls) = l

abbrev pub front : Reader → Located
front r = front_of r.rest

abbrev pub token_of : Reader → Token
token_of r = (front r).token

-- behind the token in front
abbrev pub advanced : Reader → Reader
advanced r = record { rest = drop 1 r.rest; marks = r.marks; place = r.place }

-- a refused token has its own kind, and the text's end another
abbrev pub kind_at : ParseKind → Token → ParseKind
kind_at k (token.Bad own) = own
kind_at k token.End = kind.TextEnds
kind_at k _ = k

abbrev pub refuse : {A : Type 0} → ParseKind → Production A
refuse k r = Err (record { at = (front r).at; kind = kind_at k (token_of r) })

-- ---- one production behind another

-- nothing more is read
abbrev pub give : {A : Type 0} → A → Production A
give x r = Ok (record { tree = x; reader = r })

abbrev pub onward : {A B : Type 0} → (A → Production B) → Result (Found A) Fault → Result (Found B) Fault
onward next (Ok found) = next found.tree found.reader
onward next (Err fault) = Err fault

infixl 10 ◌>>=◌
abbrev pub ◌>>=◌ : {A B : Type 0} → Production A → (A → Production B) → Production B
(first >>= next) r = onward next (first r)

-- the token in front is taken, and then comes the production
abbrev pub past : {A : Type 0} → Production A → Production A
past next r = next (advanced r)

-- one of two productions, by the token in front
abbrev pub choose : {A : Type 0} → (Token → Bool) → Production A → Production A → Production A
choose test taken other r = (if test (token_of r) then taken else other) r

-- a token that must come
abbrev pub expect : {A : Type 0} → (Token → Bool) → Production A → Production A
expect test next = choose test (past next) (refuse kind.Unexpected)

abbrev pub word : {A : Type 0} → String → Production A → Production A
word text = expect (is_word (codes text))

abbrev pub symbol : {A : Type 0} → String → Production A → Production A
symbol text = expect (is_symbol (codes text))

-- a production that is taken where the token in front can begin it
abbrev pub optional : {A : Type 0} → (Token → Bool) → Production A → Production (Option A)
optional test part = choose test (part >>= (λ x. give (Some x))) (give None)

-- ---- names

abbrev pub by_name : {A : Type 0} → (List ℕ → Production A) → Option (List ℕ) → Production A
by_name next (Some text) = next text
by_name next None = refuse kind.Unexpected

-- what the name in front makes of itself and of what follows it
abbrev pub with_name : {A : Type 0} → (List ℕ → Production A) → Production A
with_name next r = by_name next (name_of (token_of r)) r

abbrev pub name : Production (List ℕ)
name = with_name (λ text. past (give text))

-- ---- marks

-- sets a mark at this offset
abbrev pub mark_at : {A : Type 0} → ℕ → Role → Production A → Production A
mark_at at role next r =
    next (record {
      rest = r.rest;
      marks = r.marks ++ record { at = at; place = r.place; role = role } ∷ [];
      place = r.place;
    })

-- at the token in front
abbrev pub marked : {A : Type 0} → Role → Production A → Production A
marked role next r = mark_at (front r).at role next r

abbrev pub moved_to : Place → Reader → Reader
moved_to place r = record { rest = r.rest; marks = r.marks; place = place }

-- a production that reads this part of the statement
abbrev pub within : {A : Type 0} → Place → Production A → Production A
within place part r = onward (λ x s. give x (moved_to r.place s)) (part (moved_to place r))
