-- Which numbers a run of entries has opened and used, and that no block has one that nothing has used.
use Rattle.std.proofs.Common.{◌≡◌, ℕ, ◌+◌, ◌*◌, ◌^◌, ◌<◌, ◌≤◌, ◌==◌, Bool, true, false, not, cond, zero, suc, List, [], ◌∷◌, ◌++◌, refl, sym, ap, ◌∙◌, subst, inl, inr, ⊎_elim, arith, Some, None, slice_get}
use Rattle.std.proofs.lemmas.Bool.{eqb-true}
use Rattle.std.specs.List.{AllByRecursion}
use Rattle.ql_types.specs.Ids.{raw_id, transaction_in}
use Rattle.ql_types.specs.declared.Place.{Place}
use Rattle.ledger_model.specs.declared.block.Block.{Block}
use Rattle.laws_history.specs.Records.{greatest}
use Rattle.laws_validity.specs.Before.{IsUnused}
use Rattle.ql_types.proofs.Masks.{unmasked}
use Rattle.laws_machine.specs.Entries.{Entry, IsAmong, IsRunFrom, MayCome, MayMake, Reach, Unused, begun_at, comes, failed, reached, sealed, used, wanted}
use Rattle.laws_history.proofs.Reaches.{lasts_on, reached_mask}
use Rattle.ledger_shared.specs.Told.{opened_by, used_by}

-- the number stands in the id
pub transaction_of : (mask n i : ℕ) → i < 2 ^ 24 → transaction_in mask (raw_id mask n i) ≡ n
transaction_of mask n i h = rw (unmasked (n * 2 ^ 24 + i) mask) (omega (arith, h))

-- ---- the numbers that may still be used

first_in : (n : ℕ) (u x : Unused) (rest : List Unused) (b : Bool) → (u.number ≡ n → ⊥) → x ≡ u → (x.number == n) ≡ b
    → IsAmong u (cond (not b) (x ∷ rest) rest)
first_in n u x rest true other same e =
    absurd (other (sym (ap (λ (y : Unused). y.number) same) ∙ eqb-true x.number n e))
first_in n u x rest false other same e = inl same

later_in : (u x : Unused) (rest : List Unused) (b : Bool) → IsAmong u rest → IsAmong u (cond (not b) (x ∷ rest) rest)
later_in u x rest true h = h
later_in u x rest false h = inr h

still_in : (n : ℕ) (u : Unused) (us : List Unused) → (u.number ≡ n → ⊥) → IsAmong u us → IsAmong u (used n us)
still_in n u [] other h = h
still_in n u (x ∷ us) other (inl same) = first_in n u x (used n us) (x.number == n) other same refl
still_in n u (x ∷ us) other (inr rest) = later_in u x (used n us) (x.number == n) (still_in n u us other rest)

split_in : (u x : Unused) (rest : List Unused) (b : Bool) → IsAmong u (cond (not b) (x ∷ rest) rest)
    → IsAmong u (x ∷ rest)
split_in u x rest true h = inr h
split_in u x rest false h = h

was_in : (n : ℕ) (u : Unused) (us : List Unused) → IsAmong u (used n us) → IsAmong u us
was_in n u [] h = h
was_in n u (x ∷ us) h =
    ⊎_elim (λ (e : x ≡ u). inl e) (λ (r : IsAmong u (used n us)). inr (was_in n u us r))
    (split_in u x (used n us) (x.number == n) h)

-- no number above the last one may be used
abbrev pub Within : Reach → Type 0
Within r = (u : Unused) → IsAmong u r.unused → u.number ≤ r.last

within_next : (r : Reach) (e : Entry) → MayCome r e → Within r → Within (comes r e)
within_next r (begun_at place number since) h w u among =
    ⊎_elim (λ (e : record { number = number; place = place } ≡ u). let same : number ≡ u.number = ap (λ (x : Unused). x.number) e in omega (arith, same))
    (λ (old : IsAmong u r.unused). let low = w u old in let next : number ≡ r.last + 1 = h.0 in omega (arith, low, next)) among
within_next r (sealed number block) h w u among = w u (was_in number u r.unused among)
within_next r (failed number count block) h w u among = w u (was_in number u r.unused among)
within_next r (wanted number tried) h w u among = w u (was_in number u r.unused among)

-- ---- the numbers of the entries

-- the number that an entry uses was opened before
used_low : (r : Reach) (e : Entry) (n : ℕ) → MayCome r e → Within r → used_by e ≡ Some n → n ≤ r.last
used_low r (begun_at place number since) n h w is = absurd cc
used_low r (sealed number block) n h w is = let low : number ≤ r.last = w _ h.unused in let same : number ≡ n = cc in omega (arith, low, same)
used_low r (failed number count block) n h w is =
    let low : number ≤ r.last = w _ h.0.unused in let same : number ≡ n = cc in omega (arith, low, same)
used_low r (wanted number None) n h w is = let low : number ≤ r.last = w _ h.unused in let same : number ≡ n = cc in omega (arith, low, same)
used_low r (wanted number (Some block)) n h w is =
    let low : number ≤ r.last = w _ h.unused in let same : number ≡ n = cc in omega (arith, low, same)

last_next : (r : Reach) (e : Entry) → MayCome r e → r.last ≤ (comes r e).last
last_next r e h = lasts_on r [] (e ∷ []) (e ∷ [], refl) (h, tt)

last_end : (r : Reach) (es : List Entry) → IsRunFrom r es → r.last ≤ (reached r es).last
last_end r es h = lasts_on r [] es (es, refl) h

pub used_below : (r : Reach) (es : List Entry) (i n : ℕ) (e : Entry) → IsRunFrom r es → Within r
    → slice_get es i ≡ Some e → used_by e ≡ Some n → n ≤ (reached r es).last
used_below r [] i n e run w at is = absurd cc
used_below r (x ∷ es) zero n e run w at is =
    let same : x ≡ e = cc in
    let low = used_low r x n run.0 w (ap used_by same ∙ is) in
    let next = last_next r x run.0 in
    let end = last_end (comes r x) es run.1 in
    omega (arith, low, next, end)
used_below r (x ∷ es) (suc i) n e run w at is =
    used_below (comes r x) es i n e run.1 (within_next r x run.0 w) at is

opened_low : (r : Reach) (e : Entry) (n : ℕ) → MayCome r e → opened_by e ≡ Some n → (r.last < n) × (n ≤ (comes r e).last)
opened_low r (begun_at place number since) n h is =
    let next : number ≡ r.last + 1 = h.0 in let same : number ≡ n = cc in (omega (arith, next, same), omega (arith, same))
opened_low r (sealed number block) n h is = absurd cc
opened_low r (failed number count block) n h is = absurd cc
opened_low r (wanted number tried) n h is = absurd cc

pub opened_between : (r : Reach) (es : List Entry) (i n : ℕ) (e : Entry) → IsRunFrom r es
    → slice_get es i ≡ Some e → opened_by e ≡ Some n → (r.last < n) × (n ≤ (reached r es).last)
opened_between r [] i n e run at is = absurd cc
opened_between r (x ∷ es) zero n e run at is =
    let same : x ≡ e = cc in
    let low = opened_low r x n run.0 (ap opened_by same ∙ is) in
    let end = last_end (comes r x) es run.1 in
    (low.0, omega (arith, low.1, end))
opened_between r (x ∷ es) (suc i) n e run at is =
    let next = last_next r x run.0 in
    let rest = opened_between (comes r x) es i n e run.1 at is in
    (omega (arith, next, rest.0), rest.1)

-- ---- a number that nothing has used

-- no entry of these uses the number
abbrev pub NoneUses : List Entry → ℕ → Type 0
NoneUses es n = (i : ℕ) (e : Entry) → slice_get es i ≡ Some e → used_by e ≡ Some n → ⊥

kept_by : (r : Reach) (e : Entry) (u : Unused) → (used_by e ≡ Some u.number → ⊥) → IsAmong u r.unused
    → IsAmong u (comes r e).unused
kept_by r (begun_at place number since) u other h = inr h
kept_by r (sealed number block) u other h = still_in number u r.unused (λ same. other (ap Some (sym same))) h
kept_by r (failed number count block) u other h = still_in number u r.unused (λ same. other (ap Some (sym same))) h
kept_by r (wanted number tried) u other h = still_in number u r.unused (λ same. other (ap Some (sym same))) h

kept_in : (r : Reach) (es : List Entry) (u : Unused) → NoneUses es u.number → IsAmong u r.unused
    → IsAmong u (reached r es).unused
kept_in r [] u none h = h
kept_in r (x ∷ es) u none h =
    kept_in (comes r x) es u (λ i e at is. none (suc i) e at is) (kept_by r x u (none 0 x refl) h)

-- it may be used
pub may_use : (r : Reach) (es : List Entry) (i n since : ℕ) (place : Place) → slice_get es i ≡ Some (begun_at place n since)
    → NoneUses es n → IsAmong (record { number = n; place = place }) (reached r es).unused
may_use r [] i n since place at none = absurd cc
may_use r (x ∷ es) zero n since place at none =
    let same : x ≡ begun_at place n since = cc in
    let u : Unused = record { number = n; place = place } in
    let there : IsAmong u (comes r x).unused = subst (λ e. IsAmong u (comes r e).unused) (sym same) (inl refl) in
    kept_in (comes r x) es u (λ i e at is. none (suc i) e at is) there
may_use r (x ∷ es) (suc i) n since place at none =
    may_use (comes r x) es i n since place at (λ i e at is. none (suc i) e at is)

-- ---- blocks

pub past_greatest : (mask number : ℕ) (blocks : List Block) → greatest mask blocks < number → IsUnused mask number blocks
past_greatest mask number [] low = tt
past_greatest mask number (b ∷ bs) low = (
  λ e. let own : transaction_in mask b.header.tx.raw ≡ number = e in omega (arith, own, low),
  past_greatest mask number bs (omega (arith, low)),
)

push_all : (P : Block → Type 0) (bs : List Block) (b : Block) → AllByRecursion P bs → P b → AllByRecursion P (bs ++ b ∷ [])
push_all P [] b h p = (p, tt)
push_all P (x ∷ bs) b h p = (h.0, push_all P bs b h.1 p)

made_number : (r : Reach) (number : ℕ) (b : Block) → MayMake r number b → transaction_in r.mask b.header.tx.raw ≡ number
made_number r number b h =
    ap (λ (x : Block). transaction_in r.mask x.header.tx.raw) h.made.block_is ∙ transaction_of r.mask number 0 (omega arith)

unmade_next : (r : Reach) (e : Entry) (n : ℕ) → MayCome r e → (used_by e ≡ Some n → ⊥) → IsUnused r.mask n r.blocks
    → IsUnused r.mask n (comes r e).blocks
unmade_next r (begun_at place number since) n h other u = u
unmade_next r (sealed number block) n h other u =
    push_all (λ b. transaction_in r.mask b.header.tx.raw ≡ n → ⊥) r.blocks block u
    (λ is. other (ap Some (sym (made_number r number block h) ∙ is)))
unmade_next r (failed number count block) n h other u = u
unmade_next r (wanted number tried) n h other u = u

same_mask : (r : Reach) (e : Entry) → (comes r e).mask ≡ r.mask
same_mask r e = reached_mask r (e ∷ [])

-- no block is of its transaction
pub unmade : (r : Reach) (es : List Entry) (n : ℕ) → IsRunFrom r es → NoneUses es n → IsUnused r.mask n r.blocks
    → IsUnused r.mask n (reached r es).blocks
unmade r [] n run none u = u
unmade r (x ∷ es) n run none u =
    let next : IsUnused r.mask n (comes r x).blocks = unmade_next r x n run.0 (none 0 x refl) u in
    let rest = unmade (comes r x) es n run.1 (λ i e at is. none (suc i) e at is)
    (subst (λ m. IsUnused m n (comes r x).blocks) (sym (same_mask r x)) next) in
    subst (λ m. IsUnused m n (reached (comes r x) es).blocks) (same_mask r x) rest
