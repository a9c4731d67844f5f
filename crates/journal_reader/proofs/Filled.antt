-- A piece that is filled by several reads of a store.
use Rattle.std.proofs.Common.{◌≡◌, ◌∙◌, ℕ, zero, suc, ◌+◌, ◌-◌, ◌≤◌, ◌<◌, List, ◌++◌, length, take, drop, refl, sym, ap, subst, Option, Some, None, arith, length-take-le}
use Rattle.std.specs.Prelude.{IfSome}
use Rattle.std.proofs.Math.Seq.{take-add, take-append-add, take-append-le}
use Rattle.std.proofs.lemmas.List.{drop-drop}
use Rattle.outside.specs.Store.{Content, ReadsAt}
use borrow.Rule.Slice.PartMut.{put_mid, post_of}

-- the piece begins with `filled` of the bytes from `place` on
pub record IsFilled (held : List ℕ) (place : ℕ) (piece : List ℕ) (filled : ℕ) : Type 0 where
  pub front : take filled piece ≡ take filled (drop place held)
  pub within : filled ≤ length held - place

-- the piece's front, behind which this was put
put-front : (piece out : List ℕ) (filled room count : ℕ) → filled ≤ length piece → count ≤ length out
    → take (filled + count) (put_mid filled room piece out) ≡ take filled piece ++ take count out
put-front piece out filled room count within fits =
    let front = take filled piece in
    let after = post_of filled room piece in
    ap (λ n. take (n + count) (front ++ (out ++ after))) (sym (length-take-le filled piece within)) ∙ take-append-add front (out ++ after) count
    ∙ ap (λ xs. front ++ xs) (take-append-le count out after fits)

next-filled : (held piece out : List ℕ) (place filled room count : ℕ) → filled ≤ length piece → count ≤ length out → IsFilled held place piece filled
    → ReadsAt held (place + filled) out count → IsFilled held place (put_mid filled room piece out) (filled + count)
next-filled held piece out place filled room count within fits was reads = record {
  front = put-front piece out filled room count within fits ∙ ap (λ xs. xs ++ take count out) was.front
      ∙ ap (λ xs. take filled (drop place held) ++ xs) (reads.front ∙ ap (take count) (sym (drop-drop filled place held)))
      ∙ sym (take-add filled count (drop place held));
  within = omega (arith, was.within, reads.within);
}

pub filled-none : (now : Option Content) (piece : List ℕ) (place : ℕ) → IfSome now (λ content. IsFilled content.bytes place piece 0)
filled-none None piece place = tt
filled-none (Some content) piece place = record { front = refl; within = search arith }

pub filled-next : (was now : Option Content) (piece out : List ℕ) (place filled room count : ℕ) → now ≡ was → filled ≤ length piece → count ≤ length out
    → IfSome was (λ content. IsFilled content.bytes place piece filled) → IfSome now (λ content. ReadsAt content.bytes (place + filled) out count)
    → IfSome was (λ content. IsFilled content.bytes place (put_mid filled room piece out) (filled + count))
filled-next None now piece out place filled room count same within fits is reads = tt
filled-next (Some content) now piece out place filled room count same within fits is reads =
    next-filled content.bytes piece out place filled room count within fits is
    (subst (λ (c : Option Content). IfSome c (λ content. ReadsAt content.bytes (place + filled) out count)) same reads)

-- a full piece
pub reads-full : (now : Option Content) (piece : List ℕ) (place filled : ℕ) → length piece ≤ filled
    → IfSome now (λ content. IsFilled content.bytes place piece filled) → IfSome now (λ content. ReadsAt content.bytes place piece filled)
reads-full None piece place filled full is = tt
reads-full (Some content) piece place filled full is = record { front = is.front; within = is.within; some = λ more wide. omega (arith, full, wide) }

-- nothing stands behind what was read
none-behind : (held out : List ℕ) (place filled count : ℕ) → ReadsAt held (place + filled) out count → count ≡ 0 → 0 < length out → place < length held
    → 0 < filled
none-behind held out place zero count reads none wide more =
    let some = reads.some (omega (arith, more)) wide in
    absurd (omega (arith, some, none))
none-behind held out place (suc n) count reads none wide more = omega arith

pub reads-end : (was now : Option Content) (piece out : List ℕ) (place filled room count : ℕ) → now ≡ was → filled ≤ length piece → count ≡ 0
    → 0 < length out → IfSome was (λ content. IsFilled content.bytes place piece filled)
    → IfSome now (λ content. ReadsAt content.bytes (place + filled) out count)
    → IfSome was (λ content. ReadsAt content.bytes place (put_mid filled room piece out) filled)
reads-end None now piece out place filled room count same within none wide is reads = tt
reads-end (Some content) now piece out place filled room count same within none wide is reads =
    let read : ReadsAt content.bytes (place + filled) out count =
    subst (λ (c : Option Content). IfSome c (λ content. ReadsAt content.bytes (place + filled) out count)) same reads in
    let next = next-filled content.bytes piece out place filled room count within (omega (arith, none)) is read in
    let size : filled + count ≡ filled = omega (arith, none) in
    record {
      front = subst (λ (n : ℕ). take n (put_mid filled room piece out) ≡ take n (drop place content.bytes)) size next.front;
      within = is.within;
      some = λ more any. none-behind content.bytes out place filled count read none wide more;
    }
