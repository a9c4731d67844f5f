-- How far entries bring a ledger: its blocks only grow, and its last number and count never fall.
use Rattle.std.proofs.Common.{◌≡◌, ℕ, ◌+◌, ◌<◌, ◌≤◌, List, [], ◌∷◌, ◌++◌, length, slice_get, Some, sym, refl, ap, ◌∙◌, subst, inl, inr, ◌⊎◌, ⊎_elim, arith, append-nil, append_assoc, suc}
use Rattle.std.proofs.lemmas.Bool.{cases_lt}
use mathlib.Core.List.{IsPrefix}
use Rattle.ledger_model.specs.declared.block.Block.{Block}
use Rattle.turn_lock.specs.History.{Stands}
use Rattle.turn_lock.proofs.Lists.{prefix_length, prefix_self, prefix_trans}
use Rattle.laws_machine.specs.Entries.{Entry, IsRunFrom, MayCome, Reach, begun_at, comes, failed, reached, sealed, wanted}
use Rattle.laws_machine.proofs.Entries.{reached_joined}

-- ---- one entry

abbrev pub sealed_by : Entry → List Block
sealed_by (begun_at place number since) = []
sealed_by (sealed number block) = block ∷ []
sealed_by (failed number count block) = []
sealed_by (wanted number block) = []

blocks_behind : (r : Reach) (e : Entry) → (comes r e).blocks ≡ r.blocks ++ sealed_by e
blocks_behind r (begun_at place number since) = sym (append-nil r.blocks)
blocks_behind r (sealed number block) = refl
blocks_behind r (failed number count block) = sym (append-nil r.blocks)
blocks_behind r (wanted number block) = sym (append-nil r.blocks)

mask_behind : (r : Reach) (e : Entry) → (comes r e).mask ≡ r.mask
mask_behind r (begun_at place number since) = refl
mask_behind r (sealed number block) = refl
mask_behind r (failed number count block) = refl
mask_behind r (wanted number block) = refl

last_behind : (r : Reach) (e : Entry) → MayCome r e → r.last ≤ (comes r e).last
last_behind r (begun_at place number since) h = let next : number ≡ r.last + 1 = h.0 in omega (arith, next)
last_behind r (sealed number block) h = omega arith
last_behind r (failed number count block) h = omega arith
last_behind r (wanted number block) h = omega arith

count_behind : (r : Reach) (e : Entry) → MayCome r e → r.count ≤ (comes r e).count
count_behind r (begun_at place number since) h = omega arith
count_behind r (sealed number block) h = omega arith
count_behind r (failed number count block) h = let rose : r.count < count = h.1 in omega (arith, rose)
count_behind r (wanted number block) h = omega arith

-- ---- all of them

abbrev pub sealed_in : List Entry → List Block
sealed_in [] = []
sealed_in (e ∷ es) = sealed_by e ++ sealed_in es

pub reached_blocks : (r : Reach) (es : List Entry) → (reached r es).blocks ≡ r.blocks ++ sealed_in es
reached_blocks r [] = sym (append-nil r.blocks)
reached_blocks r (e ∷ es) =
    reached_blocks (comes r e) es ∙ ap (λ (bs : List Block). bs ++ sealed_in es) (blocks_behind r e)
    ∙ append_assoc r.blocks (sealed_by e) (sealed_in es)

pub reached_mask : (r : Reach) (es : List Entry) → (reached r es).mask ≡ r.mask
reached_mask r [] = refl
reached_mask r (e ∷ es) = reached_mask (comes r e) es ∙ mask_behind r e

last_later : (r : Reach) (es : List Entry) → IsRunFrom r es → r.last ≤ (reached r es).last
last_later r [] h = omega arith
last_later r (e ∷ es) h = let one = last_behind r e h.0 in let rest = last_later (comes r e) es h.1 in omega
    (arith, one, rest)

count_later : (r : Reach) (es : List Entry) → IsRunFrom r es → r.count ≤ (reached r es).count
count_later r [] h = omega arith
count_later r (e ∷ es) h = let one = count_behind r e h.0 in let rest = count_later (comes r e) es h.1 in omega
    (arith, one, rest)

pub run_front : (r : Reach) (xs ys : List Entry) → IsRunFrom r (xs ++ ys) → IsRunFrom r xs
run_front r [] ys h = tt
run_front r (x ∷ xs) ys h = (h.0, run_front (comes r x) xs ys h.1)

pub run_rest : (r : Reach) (xs ys : List Entry) → IsRunFrom r (xs ++ ys) → IsRunFrom (reached r xs) ys
run_rest r [] ys h = h
run_rest r (x ∷ xs) ys h = run_rest (comes r x) xs ys h.1

-- ---- beginnings of them

pub run_prefix : (r : Reach) (xs ys : List Entry) → IsPrefix xs ys → IsRunFrom r ys → IsRunFrom r xs
run_prefix r xs ys p h = run_front r xs p.0 (subst (IsRunFrom r) (sym p.1) h)

reached_on : (r : Reach) (xs ys : List Entry) (p : IsPrefix xs ys) → reached r ys ≡ reached (reached r xs) p.0
reached_on r xs ys p = ap (reached r) (sym p.1) ∙ reached_joined r xs p.0

pub blocks_on : (r : Reach) (xs ys : List Entry) → IsPrefix xs ys → IsPrefix (reached r xs).blocks (reached r ys).blocks
blocks_on r xs ys p = (
  sealed_in p.0,
  sym (reached_blocks (reached r xs) p.0) ∙ ap (λ (x : Reach). x.blocks) (sym (reached_on r xs ys p)),
)

pub lasts_on : (r : Reach) (xs ys : List Entry) → IsPrefix xs ys → IsRunFrom r ys
    → (reached r xs).last ≤ (reached r ys).last
lasts_on r xs ys p h =
    let low = last_later (reached r xs) p.0 (run_rest r xs p.0 (subst (IsRunFrom r) (sym p.1) h)) in
    let same : (reached r ys).last ≡ (reached (reached r xs) p.0).last = ap (λ (x : Reach). x.last)
    (reached_on r xs ys p) in
    omega (arith, low, same)

pub counts_on : (r : Reach) (xs ys : List Entry) → IsPrefix xs ys → IsRunFrom r ys
    → (reached r xs).count ≤ (reached r ys).count
counts_on r xs ys p h =
    let low = count_later (reached r xs) p.0 (run_rest r xs p.0 (subst (IsRunFrom r) (sym p.1) h)) in
    let same : (reached r ys).count ≡ (reached (reached r xs) p.0).count = ap (λ (x : Reach). x.count)
    (reached_on r xs ys p) in
    omega (arith, low, same)

pub fewer_blocks : (r : Reach) (xs ys : List Entry) → IsPrefix xs ys
    → length (reached r xs).blocks ≤ length (reached r ys).blocks
fewer_blocks r xs ys p = prefix_length (reached r xs).blocks (reached r ys).blocks (blocks_on r xs ys p)

-- ---- an entry behind others

pub comes_behind : (r : Reach) (front : List Entry) (e : Entry)
    → reached r (front ++ e ∷ []) ≡ comes (reached r front) e
comes_behind r front e = reached_joined r front (e ∷ [])

pub may_come : (r : Reach) (front : List Entry) (e : Entry) (es : List Entry) → IsPrefix (front ++ e ∷ []) es
    → IsRunFrom r es → MayCome (reached r front) e
may_come r front e es p h = (run_rest r front (e ∷ []) (run_prefix r (front ++ e ∷ []) es p h)).0

-- the blocks behind an entry that sealed none, and behind one that did
pub blocks_same : (r : Reach) (front : List Entry) (e : Entry) → sealed_by e ≡ []
    → (reached r (front ++ e ∷ [])).blocks ≡ (reached r front).blocks
blocks_same r front e none =
    ap (λ (x : Reach). x.blocks) (comes_behind r front e) ∙ blocks_behind (reached r front) e
    ∙ ap (λ (bs : List Block). (reached r front).blocks ++ bs) none ∙ append-nil (reached r front).blocks

pub blocks_sealed : (r : Reach) (front : List Entry) (number : ℕ) (b : Block)
    → (reached r (front ++ sealed number b ∷ [])).blocks ≡ (reached r front).blocks ++ b ∷ []
blocks_sealed r front number b = ap (λ (x : Reach). x.blocks) (comes_behind r front (sealed number b))

-- ---- what the last number and the count come from

abbrev pub begun_by : Entry → List ℕ
begun_by (begun_at place number since) = number ∷ []
begun_by (sealed number block) = []
begun_by (failed number count block) = []
begun_by (wanted number block) = []

abbrev pub failed_by : Entry → List ℕ
failed_by (begun_at place number since) = []
failed_by (sealed number block) = []
failed_by (failed number count block) = count ∷ []
failed_by (wanted number block) = []

-- an entry stands at its place which tells the number so
pub record IsToldIn (tell : Entry → List ℕ) (es : List Entry) (n : ℕ) : Type 0 where
  pub place : ℕ
  pub entry : Entry
  pub there : slice_get es place ≡ Some entry
  pub tells : Stands n (tell entry)

told_later : (tell : Entry → List ℕ) (e : Entry) (es : List Entry) (n : ℕ) → IsToldIn tell es n
    → IsToldIn tell (e ∷ es) n
told_later tell e es n h = record { place = suc h.place; entry = h.entry; there = h.there; tells = h.tells }

drawn_here : (r : Reach) (e : Entry) (n : ℕ) → MayCome r e → r.last < n → n ≤ (comes r e).last → Stands n (begun_by e)
drawn_here r (begun_at place number since) n h low high =
    let next : number ≡ r.last + 1 = h.0 in let top : n ≤ number = high in inl (omega (arith, next, low, top))
drawn_here r (sealed number block) n h low high = let top : n ≤ r.last = high in absurd (omega (arith, low, top))
drawn_here r (failed number count block) n h low high = let top : n ≤ r.last = high in absurd (omega (arith, low, top))
drawn_here r (wanted number block) n h low high = let top : n ≤ r.last = high in absurd (omega (arith, low, top))

-- each number that was drawn stands in an entry
pub number_drawn : (r : Reach) (es : List Entry) (n : ℕ) → IsRunFrom r es → r.last < n → n ≤ (reached r es).last
    → IsToldIn begun_by es n
number_drawn r [] n h low high = let top : n ≤ r.last = high in absurd (omega (arith, low, top))
number_drawn r (e ∷ es) n h low high =
    ⊎_elim
    (λ (less : (comes r e).last < n). told_later begun_by e es n (number_drawn (comes r e) es n h.1 less high))
    (λ (most : n ≤ (comes r e).last).
    record { place = 0; entry = e; there = refl; tells = drawn_here r e n h.0 low most })
    (cases_lt (comes r e).last n)

counted_here : (r : Reach) (e : Entry) → MayCome r e → ((comes r e).count ≡ r.count) ⊎ Stands (comes r e).count
    (failed_by e)
counted_here r (begun_at place number since) h = inl refl
counted_here r (sealed number block) h = inl refl
counted_here r (failed number count block) h = inr (inl refl)
counted_here r (wanted number block) h = inl refl

counted_on : (r : Reach) (e : Entry) (es : List Entry) → (reached (comes r e) es).count ≡ (comes r e).count
    → ((comes r e).count ≡ r.count) ⊎ Stands (comes r e).count (failed_by e)
    → ((reached (comes r e) es).count ≡ r.count) ⊎ IsToldIn failed_by (e ∷ es) (reached (comes r e) es).count
counted_on r e es same (inl kept) = inl (same ∙ kept)
counted_on r e es same (inr here) = inr (record {
  place = 0;
  entry = e;
  there = refl;
  tells = subst (λ n. Stands n (failed_by e)) (sym same) here;
})

-- the count is that of the opening, or stands in an entry
pub count_told : (r : Reach) (es : List Entry) → IsRunFrom r es
    → ((reached r es).count ≡ r.count) ⊎ IsToldIn failed_by es (reached r es).count
count_told r [] h = inl refl
count_told r (e ∷ es) h =
    ⊎_elim
    (λ (same : (reached (comes r e) es).count ≡ (comes r e).count). counted_on r e es same (counted_here r e h.0))
    (λ (later : IsToldIn failed_by es (reached (comes r e) es).count). inr (told_later failed_by e es _ later))
    (count_told (comes r e) es h.1)

-- ---- where there are more blocks, one was sealed

pub record IsSealedIn (from until : List Entry) : Type 0 where
  pub front : List Entry
  pub number : ℕ
  pub block : Block
  pub behind : IsPrefix from front
  pub within : IsPrefix (front ++ sealed number block ∷ []) until

unsealed : (r : Reach) (front : List Entry) (e : Entry) (rest : List Entry) → sealed_by e ≡ []
    → length (reached r front).blocks < length (reached r (front ++ e ∷ rest)).blocks
    → (length (reached r (front ++ e ∷ [])).blocks < length (reached r ((front ++ e ∷ []) ++ rest)).blocks
    → IsSealedIn (front ++ e ∷ []) ((front ++ e ∷ []) ++ rest))
    → IsSealedIn front (front ++ e ∷ rest)
unsealed r front e rest none less f =
    let here : length (reached r (front ++ e ∷ [])).blocks ≡ length (reached r front).blocks =
    ap length (blocks_same r front e none) in
    let all : length (reached r ((front ++ e ∷ []) ++ rest)).blocks ≡ length (reached r (front ++ e ∷ rest)).blocks =
    ap (λ (xs : List Entry). length (reached r xs).blocks) (append_assoc front (e ∷ []) rest) in
    let k : IsSealedIn (front ++ e ∷ []) ((front ++ e ∷ []) ++ rest) = f (omega (arith, here, all, less)) in
    record {
      front = k.front;
      number = k.number;
      block = k.block;
      behind = prefix_trans front (front ++ e ∷ []) k.front (e ∷ [], refl) k.behind;
      within = subst (λ (xs : List Entry). IsPrefix (k.front ++ sealed k.number k.block ∷ []) xs)
          (append_assoc front (e ∷ []) rest) k.within;
    }

grew_by : (r : Reach) (front : List Entry) (e : Entry) (rest : List Entry)
    → length (reached r front).blocks < length (reached r (front ++ e ∷ rest)).blocks
    → (length (reached r (front ++ e ∷ [])).blocks < length (reached r ((front ++ e ∷ []) ++ rest)).blocks
    → IsSealedIn (front ++ e ∷ []) ((front ++ e ∷ []) ++ rest))
    → IsSealedIn front (front ++ e ∷ rest)
grew_by r front (begun_at place number since) rest less f = unsealed r front
    (begun_at place number since) rest refl less f
grew_by r front (sealed number block) rest less f = record {
  front = front;
  number = number;
  block = block;
  behind = prefix_self front;
  within = (rest, append_assoc front (sealed number block ∷ []) rest);
}
grew_by r front (failed number count block) rest less f = unsealed r front (failed number count block) rest refl less f
grew_by r front (wanted number block) rest less f = unsealed r front (wanted number block) rest refl less f

grew_from : (r : Reach) (front rest : List Entry)
    → length (reached r front).blocks < length (reached r (front ++ rest)).blocks → IsSealedIn front (front ++ rest)
grew_from r front [] less =
    let same : length (reached r (front ++ [])).blocks ≡ length (reached r front).blocks =
    ap (λ (xs : List Entry). length (reached r xs).blocks) (append-nil front) in
    absurd (omega (arith, less, same))
grew_from r front (e ∷ rest) less = grew_by r front e rest less (λ more. grew_from r (front ++ e ∷ []) rest more)

pub grew : (r : Reach) (xs ys : List Entry) → IsPrefix xs ys
    → length (reached r xs).blocks < length (reached r ys).blocks → IsSealedIn xs ys
grew r xs ys p less =
    subst (λ (zs : List Entry). IsSealedIn xs zs) p.1
    (grew_from r xs p.0
    (subst (λ (zs : List Entry). length (reached r xs).blocks < length (reached r zs).blocks) (sym p.1) less))
