-- The place of the first line feed cuts bytes into a line's text and what stands behind.
use Rattle.std.proofs.Common.{◌≡◌, ◌∙◌, ℕ, zero, suc, ◌+◌, ◌<◌, ◌≤◌, ◌==◌, Bool, true, false, List, [], ◌∷◌, ◌++◌, length, get_or, take, drop, Some, None, cond, refl, sym, ap, arith, eqb-true, take-append-drop, drop-cons, length-take-le}
use Rattle.std.specs.List.{position, position_from}
use Rattle.std.proofs.lemmas.List.Quantifiers.{position-Some}
use Rattle.std.proofs.lemmas.Iterator.Adapters.{position_from-zero}
use Rattle.journal_text.proofs.Feeds.{NoFeed}

abbrev pub is_feed : ℕ → Bool
is_feed b = b == 10

no_feed_before : (bytes : List ℕ) (end : ℕ) → ((k : ℕ) → k < end → is_feed (get_or bytes k 0) ≡ false) → NoFeed (take end bytes)
no_feed_before [] zero h = refl
no_feed_before [] (suc end) h = refl
no_feed_before (b ∷ bytes) zero h = refl
no_feed_before (b ∷ bytes) (suc end) h =
    let here : (b == 10) ≡ false = h 0 (omega arith) in
    let more : NoFeed (take end bytes) = no_feed_before bytes end (λ k less. h (suc k) (omega (arith, less))) in
    rw (here, more) refl

none_from : (at : ℕ) (bytes : List ℕ) → position_from is_feed at bytes ≡ None → NoFeed bytes
none_from at [] e = refl
none_from at (b ∷ bytes) e = go (b == 10) refl e (λ f. none_from (at + 1) bytes f) where
  go : (test : Bool) → (b == 10) ≡ test → cond test (Some at) (position_from is_feed (at + 1) bytes) ≡ None → (position_from is_feed (at + 1) bytes ≡ None → NoFeed bytes) → NoFeed (b ∷ bytes)
  go true t e more = cc
  go false t e more = let rest : NoFeed bytes = more e in rw (t, rest) refl

pub no_feed : (bytes : List ℕ) → position is_feed bytes ≡ None → NoFeed bytes
no_feed bytes e = none_from 0 bytes (sym (position_from-zero is_feed bytes) ∙ e)

-- a line's text and its line feed stand in front
pub record IsCut (bytes text : List ℕ) : Type 0 where
  pub one_line : NoFeed text
  pub whole : bytes ≡ text ++ 10 ∷ drop (length text + 1) bytes

pub within : (bytes : List ℕ) (end : ℕ) → position is_feed bytes ≡ Some end → end ≤ length bytes
within bytes end e = let less = (position-Some is_feed bytes end 0 e).0 in omega (arith, less)

pub cut : (bytes : List ℕ) (end : ℕ) → position is_feed bytes ≡ Some end → IsCut bytes (take end bytes)
cut bytes end e =
    let p = position-Some is_feed bytes end 0 e in
    let less : end < length bytes = p.0 in
    let feed : get_or bytes end 0 ≡ 10 = eqb-true (get_or bytes end 0) 10 p.1 in
    let long : length (take end bytes) ≡ end = length-take-le end bytes (omega (arith, less)) in
    let next : suc end ≡ length (take end bytes) + 1 = omega (arith, long) in
    record {
      one_line = no_feed_before bytes end p.2;
      whole = sym (take-append-drop end bytes)
          ∙ ap (λ z. take end bytes ++ z) (drop-cons bytes end 0 less ∙ ap (λ z. z ∷ drop (suc end) bytes) feed ∙ ap (λ n. 10 ∷ drop n bytes) next);
    }
