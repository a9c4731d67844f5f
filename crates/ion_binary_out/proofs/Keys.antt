-- Keys of a set that are texts, as the list of these.
use Rattle.std.proofs.Common.{◌≡◌, ◌∙◌, ℕ, ◌+◌, ◌≤◌, Bool, true, false, ◌||◌, not, nat_lt, if◌then◌else◌, cond, List, [], ◌∷◌, ◌++◌, map, length, refl, sym, ap, subst, arith, Some, None}
use Rattle.std.specs.Prelude.{String, string_bytes}
use Rattle.std.specs.List.{list_any, position, position_or_len}
use Rattle.std.specs.Str.{bytes_eq}
use Rattle.std.specs.declared.alloc.Global.{Global}
use Rattle.std.proofs.lemmas.Bool.Decides.{nat_tests}
use Rattle.std.proofs.lemmas.List.{length-map, map_push}
use Rattle.ion_binary_out.specs.BinaryText.{Text, with_symbol}

abbrev pub texts_of : List (String Global) → List Text
texts_of keys = map string_bytes keys

pub any_text : (test : Text → Bool) (keys : List (String Global)) → list_any (λ key. test (string_bytes key)) keys ≡ list_any test (texts_of keys)
any_text test [] = refl
any_text test (key ∷ keys) = ap (λ b. test (string_bytes key) || b) (any_text test keys)

pub place_text : (test : Text → Bool) (keys : List (String Global)) → position_or_len (λ key. test (string_bytes key)) keys ≡ position_or_len test (texts_of keys)
place_text test [] = refl
place_text test (key ∷ keys) = ap (λ n. cond (not (test (string_bytes key))) (1 + n) 0) (place_text test keys)

pub place_within : (test : Text → Bool) (texts : List Text) → position_or_len test texts ≤ length texts
place_within test [] = omega arith
place_within test (text ∷ texts) =
    let rest = place_within test texts in
    elim (not (test text)) as (λ b. cond b (1 + position_or_len test texts) 0 ≤ length (text ∷ texts)) [
      | true ↦ omega arith
      | false ↦ omega arith
    ]

-- the texts after a key is inserted
pub texts_after : (keys : List (String Global)) (key : String Global)
    → texts_of (if list_any (λ other. bytes_eq (string_bytes key) (string_bytes other)) keys then keys else keys ++ key ∷ []) ≡ with_symbol (texts_of keys) (string_bytes key)
texts_after keys key =
    ap (λ b. texts_of (if b then keys else keys ++ key ∷ [])) (any_text (bytes_eq (string_bytes key)) keys)
    ∙ by_case (list_any (bytes_eq (string_bytes key)) (texts_of keys))
  where
    by_case : (b : Bool) → texts_of (if b then keys else keys ++ key ∷ []) ≡ (if b then texts_of keys else texts_of keys ++ string_bytes key ∷ [])
    by_case true = refl
    by_case false = map_push string_bytes keys key

-- and where it is there already
pub texts_known : (keys : List (String Global)) (text : Text) → list_any (λ key. bytes_eq text (string_bytes key)) keys ≡ true
    → texts_of keys ≡ with_symbol (texts_of keys) text
texts_known keys text is =
    sym (ap (λ b. if b then texts_of keys else texts_of keys ++ text ∷ []) (sym (any_text (bytes_eq text) keys) ∙ is))

-- ---- the place of a key

found_at : (i n : ℕ) (b : Bool) → Some i ≡ cond b (Some n) None → i ≡ n
found_at i n true e = cc
found_at i n false e = absurd (cc)

absent_at : (n m : ℕ) → None ≡ cond (nat_lt n m) (Some n) None → n ≤ m → m ≡ n
absent_at n m e h =
    elim (nat_lt n m) as (λ b. nat_lt n m ≡ b → None ≡ cond b (Some n) None → m ≡ n) [
      | true ↦ λ is none. absurd (cc)
      | false ↦ λ is none. grind (arith, nat_tests)
    ] refl e

pub place_found : (keys : List (String Global)) (text : Text) (i : ℕ) → Some i ≡ position (λ key. bytes_eq text (string_bytes key)) keys
    → i ≡ position_or_len (bytes_eq text) (texts_of keys)
place_found keys text i e =
    found_at i (position_or_len (λ key. bytes_eq text (string_bytes key)) keys) (nat_lt (position_or_len (λ key. bytes_eq text (string_bytes key)) keys) (length keys)) e
    ∙ place_text (bytes_eq text) keys

pub place_absent : (keys : List (String Global)) (text : Text) → None ≡ position (λ key. bytes_eq text (string_bytes key)) keys
    → length keys ≡ position_or_len (bytes_eq text) (texts_of keys)
place_absent keys text e =
    let within : position_or_len (λ key. bytes_eq text (string_bytes key)) keys ≤ length keys =
    subst (λ n. n ≤ length keys) (sym (place_text (bytes_eq text) keys))
    (subst (λ n. position_or_len (bytes_eq text) (texts_of keys) ≤ n) (length-map keys string_bytes) (place_within (bytes_eq text) (texts_of keys))) in
    absent_at (position_or_len (λ key. bytes_eq text (string_bytes key)) keys) (length keys) e within ∙ place_text (bytes_eq text) keys
