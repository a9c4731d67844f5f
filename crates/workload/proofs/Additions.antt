-- The documents of a made workload, counted and added up.
use Rattle.std.proofs.Common.{◌≡◌, ℕ, suc, ◌+◌, ◌*◌, ◌^◌, ◌<◌, List, [], ◌∷◌, map, length, refl, ap, sym, ◌∙◌, add_comm, arith, lit<}
use Rattle.std.specs.Prelude.{sum_by, flat_map, codes, Some, unwrap_or}
use Rattle.std.specs.List.{range_with_len}
use Rattle.std.proofs.Math.Nat.{mod-lt, suc-mul}
use Rattle.std.proofs.lemmas.Bool.{lt-ltb}
use Rattle.std.proofs.lemmas.List.{length-map}
use Rattle.std.proofs.lemmas.List.Concat.{length-flat_map}
use Rattle.std.proofs.lemmas.List.FromFn.{length-map-range_with_len}
use Rattle.std.proofs.lemmas.List.Sorted.{length_permutation, sum_by-IsPermutation}
use Rattle.std.proofs.lemmas.List.Sums.{sum_by-append, sum_by-cons}
use Rattle.ion_values.specs.declared.value.Body.{out-Body, out-roll-Body, roll-Body}
use Rattle.ion_values.specs.declared.value.Body.TheOpen.{Body-F}
use Rattle.ion_values.specs.declared.value.Field.{Field}
use Rattle.ion_values.specs.declared.value.Value.{Value}
use Rattle.pql_model.specs.declared.tables.Row.{Row}
use Rattle.ledger_model.specs.Journal.{number, structure}
use Rattle.ledger_model.specs.ReadScript.{named}
use Rattle.ledger_model.specs.Script.{and_then}
use Rattle.ledger_model.specs.State.{state}
use Rattle.ledger_model.specs.Values.{field, fields_at, fields_in}
use Rattle.workload.specs.declared.totals.Totals.{Totals}
use Rattle.workload.specs.Laws.{made_documents, made_total, session_documents, session_total, MadeHistoriesAddUp}
use Rattle.workload.specs.Made.{made_amount, made_document}
use Rattle.workload.specs.Sums.{amount_of, made_rows, number_in, row_amount}

-- ---- sums over lists

sum_by-same : {X : Type 0} (f g : X → ℕ) (xs : List X) → ((x : X) → f x ≡ g x) → sum_by f xs ≡ sum_by g xs
sum_by-same f g [] same = refl
sum_by-same f g (x ∷ xs) same =
    sum_by-cons f x xs ∙ ap (λ n. n + sum_by f xs) (same x) ∙ ap (λ n. g x + n) (sum_by-same f g xs same)
    ∙ sym (sum_by-cons g x xs)

sum_by-map : {X Y : Type 0} (f : Y → ℕ) (h : X → Y) (xs : List X) → sum_by f (map h xs) ≡ sum_by (λ x. f (h x)) xs
sum_by-map f h [] = refl
sum_by-map f h (x ∷ xs) =
    sum_by-cons f (h x) (map h xs) ∙ ap (λ n. f (h x) + n) (sum_by-map f h xs) ∙ sym (sum_by-cons (λ y. f (h y)) x xs)

sum_by-flat_map : {X Y : Type 0} (f : Y → ℕ) (h : X → List Y) (xs : List X)
    → sum_by f (flat_map h xs) ≡ sum_by (λ x. sum_by f (h x)) xs
sum_by-flat_map f h [] = refl
sum_by-flat_map f h (x ∷ xs) =
    sum_by-append f (h x) (flat_map h xs) ∙ ap (λ n. sum_by f (h x) + n) (sum_by-flat_map f h xs)
    ∙ sym (sum_by-cons (λ y. sum_by f (h y)) x xs)

zero-times : (n : ℕ) → 0 * n ≡ 0
zero-times n = omega arith

more-times : (k n : ℕ) → suc k * n ≡ n + k * n
more-times k n = suc-mul k n ∙ add_comm (k * n) n

length-range : (n : ℕ) → length (range_with_len 1 n) ≡ n
length-range n = sym (length-map (range_with_len 1 n) (λ k. k)) ∙ length-map-range_with_len (λ k. k) 1 n

sum_by-const : {X : Type 0} (n : ℕ) (xs : List X) → sum_by (λ _. n) xs ≡ length xs * n
sum_by-const n [] = sym (zero-times n)
sum_by-const n (x ∷ xs) =
    sum_by-cons (λ _. n) x xs ∙ ap (λ m. n + m) (sum_by-const n xs) ∙ sym (more-times (length xs) n)

-- ---- the documents

small : (seed session transaction : ℕ) → made_amount seed session transaction < 2 ^ 64
small seed session transaction =
    let below : made_amount seed session transaction < 1000 = mod-lt _ {m = 1000} (lit< tt) in omega arith

fields-puts : (fields : List Field) → fields_in (structure fields) ≡ Some fields
unfolding roll-Body denote.Hole.Carrier.roll
fields-puts fields = ap (λ b. fields_at (Some b)) (out-roll-Body (Body-F.Struct fields))

number-puts : (n : ℕ) → n < 2 ^ 64 → number_in (number n) ≡ Some n
unfolding out-Body denote.Hole.Carrier.out
number-puts n fits = rw (lt-ltb n (2 ^ 64) fits) refl

document-amount : (session transaction amount : ℕ) → amount < 2 ^ 64
    → amount_of (made_document session transaction amount) ≡ amount
document-amount session transaction amount fits =
    let fields : List Field =
    field (codes "s") (number session) ∷ field (codes "t") (number transaction)
    ∷ field (codes "amount") (number amount) ∷ [] in
    ap (λ o. unwrap_or (and_then o (λ fs. and_then (named (codes "amount") fs) number_in)) 0) (fields-puts fields)
    ∙ ap (λ o. unwrap_or o 0) (number-puts amount fits)

session-added : (seed transactions session : ℕ)
    → sum_by amount_of (session_documents seed transactions session) ≡ session_total seed transactions session
session-added seed transactions session =
    sum_by-map amount_of (λ t. made_document session t (made_amount seed session t)) (range_with_len 1 transactions)
    ∙ sum_by-same _ (made_amount seed session) (range_with_len 1 transactions)
    (λ t. document-amount session t (made_amount seed session t) (small seed session t))

documents-added : (seed sessions transactions : ℕ)
    → sum_by amount_of (made_documents seed sessions transactions) ≡ made_total seed sessions transactions
documents-added seed sessions transactions =
    sum_by-flat_map amount_of (session_documents seed transactions) (range_with_len 1 sessions)
    ∙ sum_by-same _ (session_total seed transactions) (range_with_len 1 sessions) (session-added seed transactions)

documents-counted : (seed sessions transactions : ℕ)
    → length (made_documents seed sessions transactions) ≡ sessions * transactions
documents-counted seed sessions transactions =
    length-flat_map (session_documents seed transactions) (range_with_len 1 sessions)
    ∙ sum_by-same _ (λ _. transactions) (range_with_len 1 sessions)
    (λ s. length-map-range_with_len (λ t. made_document s t (made_amount seed s t)) 1 transactions)
    ∙ sum_by-const transactions (range_with_len 1 sessions) ∙ ap (λ n. n * transactions) (length-range sessions)

totals-same : (blocks documents documents' amounts amounts' : ℕ) → documents ≡ documents' → amounts ≡ amounts'
    → (let t : Totals = record { blocks = blocks; documents = documents; amounts = amounts } in t)
    ≡ record { blocks = blocks; documents = documents'; amounts = amounts' }
totals-same blocks documents documents' amounts amounts' counted added = rw (counted, added) refl

pub add-up : MadeHistoriesAddUp
add-up seed sessions transactions blocks same =
    let documents : List Value = made_documents seed sessions transactions in
    let rows : List Row = made_rows (state blocks) in
    let values : List Value = map (λ (row : Row). row.value) rows in
    let counted : length rows ≡ sessions * transactions =
    sym (length-map rows (λ (row : Row). row.value)) ∙ length_permutation documents values same
    ∙ documents-counted seed sessions transactions in
    let added : sum_by row_amount rows ≡ made_total seed sessions transactions =
    sym (sum_by-map amount_of (λ (row : Row). row.value) rows) ∙ sum_by-IsPermutation amount_of documents values same
    ∙ documents-added seed sessions transactions in
    totals-same (length blocks) (length rows) (sessions * transactions) (sum_by row_amount rows)
    (made_total seed sessions transactions) counted added
