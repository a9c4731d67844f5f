-- Of each delivery of an undamaged journal's stream no record is refused, and its blocks are rebuilt.
use Rattle.std.proofs.Common.{◌≡◌, ◌∙◌, ℕ, suc, ◌+◌, ◌<◌, ◌≤◌, ◌^◌, ◌==◌, ◌&&◌, Bool, true, false, List, [], ◌∷◌, ◌++◌, map, length, take, drop, Option, Some, None, refl, sym, ap, subst, arith, ⊎_elim, inl, inr, if◌then◌else◌}
use Rattle.std.specs.Prelude.{option_map}
use Rattle.std.specs.Cmp.Lexicographic.{bytes_decides}
use Rattle.std.proofs.lemmas.Bool.{eq-eqb, eqb-true, and_parts, and_from}
use Rattle.ql_types.specs.declared.TableId.{TableId}
use Rattle.ledger_model.specs.declared.block.Schema.{Schema}
use Rattle.ledger_model.specs.declared.block.Revision.{Revision}
use Rattle.ledger_model.specs.declared.block.Block.{Block}
use Rattle.ledger_model.specs.Script.{and_then, or_else, each}
use Rattle.ledger_model.specs.Damages.{same_hash}
use Rattle.ledger_model.specs.Follows.{all_differ, document_ids}
use Rattle.value_codec.proofs.Inverse.{took, cons}
use Rattle.stream_out.specs.declared.record.RevisionSummary.{RevisionSummary}
use Rattle.stream_out.specs.declared.record.Summary.{Summary}
use Rattle.stream_out.specs.declared.record.Details.{Details}
use Rattle.stream_out.specs.declared.record.Record.{Record}
use Rattle.stream_out.specs.declared.record.Record.TheVariants as kind
use Rattle.stream_out.specs.Streams.{changes_in, listed_as, summary_of, block_records, records_behind}
use Rattle.stream_out.specs.Replays.{number_of, details_number, document_of, summary_at, summary_among, details_at, details_among, revision_by, block_by, block_among, AreBlocks, IsNotBelow, Agrees, IsIn, AreIn, IsRebuilt, DeliveriesRebuild}
use Rattle.stream_out.proofs.Among.{some_is, mapped}
use Rattle.stream_out.proofs.Journals.{AreOf, IsNumbered, AreNumbered, numbered_from}
use Rattle.stream_out.proofs.Located.{Place, at, at_first, at_behind, at_least, details_with, records_with, one_of_each, located, IsTold, in_records}

-- ---- what stands among records is one of them

record FoundSummary (told : List Record) (n : ℕ) (s : Summary) : Type 0 where
  there : IsIn (kind.Summary s) told
  number : number_of s ≡ n

more_summary : (t : Record) (ts : List Record) (n : ℕ) (s : Summary) → FoundSummary ts n s → FoundSummary (t ∷ ts) n s
more_summary t ts n s f = record { there = inr f.there; number = f.number }

summary_by_number : (x : Summary) (ts : List Record) (n : ℕ) (s : Summary) → (summary_among ts n ≡ Some s → FoundSummary ts n s)
    → (b : Bool) → (number_of x == n) ≡ b → or_else (if b then Some x else None) (summary_among ts n) ≡ Some s → FoundSummary (kind.Summary x ∷ ts) n s
summary_by_number x ts n s behind true is e =
    let same : s ≡ x = sym (some_is x s e) in
    record { there = inl (ap (λ (y : Summary). kind.Summary y) same); number = ap number_of same ∙ eqb-true (number_of x) n is }
summary_by_number x ts n s behind false is e = more_summary (kind.Summary x) ts n s (behind e)

summary_in_front : (t : Record) (ts : List Record) (n : ℕ) (s : Summary) → (summary_among ts n ≡ Some s → FoundSummary ts n s)
    → or_else (summary_at t n) (summary_among ts n) ≡ Some s → FoundSummary (t ∷ ts) n s
summary_in_front (kind.Summary x) ts n s behind e = summary_by_number x ts n s behind (number_of x == n) refl e
summary_in_front (kind.Details d) ts n s behind e = more_summary (kind.Details d) ts n s (behind e)
summary_in_front kind.Created ts n s behind e = more_summary kind.Created ts n s (behind e)
summary_in_front kind.Completed ts n s behind e = more_summary kind.Completed ts n s (behind e)

no_summary : (n : ℕ) (s : Summary) → None ≡ Some s → FoundSummary [] n s
no_summary n s e = cc

summary_found : (told : List Record) (n : ℕ) (s : Summary) → summary_among told n ≡ Some s → FoundSummary told n s
summary_found [] n s e = no_summary n s e
summary_found (t ∷ ts) n s e = summary_in_front t ts n s (summary_found ts n s) e

summary_there : (told : List Record) (s : Summary) → IsIn (kind.Summary s) told → (x : Summary) × (summary_among told (number_of s) ≡ Some x)
summary_there [] s h = absurd h
summary_there (t ∷ ts) s h =
    ⊎_elim (λ (e : kind.Summary s ≡ t). subst (λ y. (x : Summary) × (summary_among (y ∷ ts) (number_of s) ≡ Some x)) e here)
    (λ (m : IsIn (kind.Summary s) ts). let found = summary_there ts s m in either (summary_at t (number_of s)) found.0 found.1) h where
      here : (x : Summary) × (summary_among (kind.Summary s ∷ ts) (number_of s) ≡ Some x)
      here = let same : (number_of s == number_of s) ≡ true = eq-eqb (number_of s) (number_of s) refl in (s, rw same refl)

      either : (o : Option Summary) (y : Summary) → summary_among ts (number_of s) ≡ Some y → (x : Summary) × (or_else o (summary_among ts (number_of s)) ≡ Some x)
      either None y e = (y, e)
      either (Some x) y e = (x, refl)

record FoundDetails (told : List Record) (n id : ℕ) (d : Details) : Type 0 where
  there : IsIn (kind.Details d) told
  number : details_number d ≡ n
  document : document_of d ≡ id

more_details : (t : Record) (ts : List Record) (n id : ℕ) (d : Details) → FoundDetails ts n id d → FoundDetails (t ∷ ts) n id d
more_details t ts n id d f = record { there = inr f.there; number = f.number; document = f.document }

details_by_place : (x : Details) (ts : List Record) (n id : ℕ) (d : Details) → (details_among ts n id ≡ Some d → FoundDetails ts n id d)
    → (b : Bool) → ((details_number x == n) && (document_of x == id)) ≡ b
    → or_else (if b then Some x else None) (details_among ts n id) ≡ Some d → FoundDetails (kind.Details x ∷ ts) n id d
details_by_place x ts n id d behind true is e =
    let same : d ≡ x = sym (some_is x d e) in
    let parts = and_parts (details_number x == n) (document_of x == id) is in
    record {
      there = inl (ap (λ (y : Details). kind.Details y) same);
      number = ap details_number same ∙ eqb-true (details_number x) n parts.0;
      document = ap document_of same ∙ eqb-true (document_of x) id parts.1;
    }
details_by_place x ts n id d behind false is e = more_details (kind.Details x) ts n id d (behind e)

details_in_front : (t : Record) (ts : List Record) (n id : ℕ) (d : Details) → (details_among ts n id ≡ Some d → FoundDetails ts n id d)
    → or_else (details_at t n id) (details_among ts n id) ≡ Some d → FoundDetails (t ∷ ts) n id d
details_in_front (kind.Details x) ts n id d behind e = details_by_place x ts n id d behind ((details_number x == n) && (document_of x == id)) refl e
details_in_front (kind.Summary s) ts n id d behind e = more_details (kind.Summary s) ts n id d (behind e)
details_in_front kind.Created ts n id d behind e = more_details kind.Created ts n id d (behind e)
details_in_front kind.Completed ts n id d behind e = more_details kind.Completed ts n id d (behind e)

no_details : (n id : ℕ) (d : Details) → None ≡ Some d → FoundDetails [] n id d
no_details n id d e = cc

details_found : (told : List Record) (n id : ℕ) (d : Details) → details_among told n id ≡ Some d → FoundDetails told n id d
details_found [] n id d e = no_details n id d e
details_found (t ∷ ts) n id d e = details_in_front t ts n id d (details_found ts n id d) e

details_there : (told : List Record) (d : Details) → IsIn (kind.Details d) told → (x : Details) × (details_among told (details_number d) (document_of d) ≡ Some x)
details_there [] d h = absurd h
details_there (t ∷ ts) d h =
    ⊎_elim (λ (e : kind.Details d ≡ t). subst (λ y. (x : Details) × (details_among (y ∷ ts) (details_number d) (document_of d) ≡ Some x)) e here)
    (λ (m : IsIn (kind.Details d) ts). let found = details_there ts d m in either (details_at t (details_number d) (document_of d)) found.0 found.1) h where
      here : (x : Details) × (details_among (kind.Details d ∷ ts) (details_number d) (document_of d) ≡ Some x)
      here =
          let same : ((details_number d == details_number d) && (document_of d == document_of d)) ≡ true =
          and_from _ _ (eq-eqb (details_number d) (details_number d) refl) (eq-eqb (document_of d) (document_of d) refl) in
          (d, rw same refl)

      either : (o : Option Details) (y : Details) → details_among ts (details_number d) (document_of d) ≡ Some y
          → (x : Details) × (or_else o (details_among ts (details_number d) (document_of d)) ≡ Some x)
      either None y e = (y, e)
      either (Some x) y e = (x, refl)

-- ---- one block

kept_is : (d : Details) (q r : Revision) → d.revision ≡ r → (b : Bool) → (if b then Some d.revision else None) ≡ Some q → q ≡ r
kept_is d q r is true e = sym (some_is d.revision q e) ∙ is
kept_is d q r is false e = cc

module _ (told : List Record) (n : ℕ) (changes : List Schema) where
  -- what is found of each revision's document are its details
  abbrev AreOwn : List TableId → List Revision → Type 0
  AreOwn (t ∷ ts) (r ∷ rs) =
      ((d : Details) → details_among told n r.metadata.id.raw ≡ Some d → d ≡ details_with changes t r) × AreOwn ts rs
  AreOwn _ _ = Unit {0}

  abbrev found : RevisionSummary → Option Revision
  found l = revision_by (details_among told n l.document.raw) l

  read : (ts : List TableId) (rs : List Revision) → length ts ≡ length rs → AreOwn ts rs → (qs : List Revision)
      → each found (map listed_as rs) ≡ Some qs → (qs ≡ rs) × AreIn (records_with changes ts rs) told
  read [] [] long own qs e = (sym (some_is [] qs e), λ x h. absurd h)
  read [] (r ∷ rs) long own qs e = absurd (omega (arith, long))
  read (t ∷ ts) [] long own qs e = absurd (omega (arith, long))
  read (t ∷ ts) (r ∷ rs) long own qs e =
      let first = took (found (listed_as r)) (λ (y : Revision). option_map (λ (ys : List Revision). y ∷ ys) (each found (map listed_as rs))) qs e in
      let behind = mapped (each found (map listed_as rs)) first.0 qs first.2 in
      let d = took (details_among told n r.metadata.id.raw) (λ (d : Details). if same_hash d.revision.hash r.hash then Some d.revision else None) first.0 first.1 in
      let is : d.0 ≡ details_with changes t r = own.0 d.0 d.1 in
      let there = subst (λ (x : Details). IsIn (kind.Details x) told) is (details_found told n r.metadata.id.raw d.0 d.1).there in
      let one : first.0 ≡ r = kept_is d.0 first.0 r (ap (λ (x : Details). x.revision) is) (same_hash d.0.revision.hash r.hash) d.2 in
      let more = read ts rs (omega (arith, long)) own.1 behind.0 behind.1 in (
        sym (some_is (first.0 ∷ behind.0) qs behind.2) ∙ cons one more.0,
        λ x h. ⊎_elim (λ (e : x ≡ kind.Details (details_with changes t r)). subst (λ (y : Record). IsIn y told) (sym e) there)
            (λ (m : IsIn x (records_with changes ts rs)). more.1 x m) h,
      )

  hash_own : (r : Revision) → same_hash r.hash r.hash ≡ true
  hash_own r = (bytes_decides r.hash.bytes r.hash.bytes).1 refl

  told_all : (ts : List TableId) (rs : List Revision) → length ts ≡ length rs → AreOf n rs → AreOwn ts rs
      → AreIn (records_with changes ts rs) told → each found (map listed_as rs) ≡ Some rs
  told_all [] [] long all own there = refl
  told_all [] (r ∷ rs) long all own there = absurd (omega (arith, long))
  told_all (t ∷ ts) [] long all own there = absurd (omega (arith, long))
  told_all (t ∷ ts) (r ∷ rs) long all own there =
      let this = details_there told (details_with changes t r) (there (kind.Details (details_with changes t r)) (inl refl)) in
      let here : details_among told n r.metadata.id.raw ≡ Some this.0 = subst (λ k. details_among told k r.metadata.id.raw ≡ Some this.0) all.0 this.1 in
      let is : this.0 ≡ details_with changes t r = own.0 this.0 here in
      let exact : details_among told n r.metadata.id.raw ≡ Some (details_with changes t r) = here ∙ ap (λ x. Some x) is in
      let equal = hash_own r in
      let one : found (listed_as r) ≡ Some r = rw (exact, equal) refl in
      let more = told_all ts rs (omega (arith, long)) all.1 own.1 (λ x h. there x (inr h)) in
      rw (one, more) refl

-- ---- the blocks of a journal from a number on

module _ (told : List Record) (start : ℕ) (before : List Schema) (blocks : List Block) (numbered : AreNumbered start blocks)
    (delivered : (r : Record) → IsIn r told → IsTold r → IsIn r (records_behind before blocks)) where
  place_of : (n : ℕ) → Option Place
  place_of n = at start n before blocks

  summary_is : (n : ℕ) (p : Place) → at start n before blocks ≡ Some p → (s : Summary) → summary_among told n ≡ Some s → s ≡ summary_of p.1
  summary_is n p is s e =
      let f = summary_found told n s e in
      let l = located start before blocks (kind.Summary s) numbered (delivered (kind.Summary s) f.there tt) in
      let here : at start n before blocks ≡ Some l.0 = subst (λ k. at start k before blocks ≡ Some l.0) f.number l.1 in
      let same : l.0 ≡ p = some_is l.0 p (sym here ∙ is) in
      l.2 ∙ ap (λ (q : Place). summary_of q.1) same where
        some_is : (a b : Place) → Some a ≡ Some b → a ≡ b
        some_is a b e = cc

  details_in : (n : ℕ) (p : Place) → at start n before blocks ≡ Some p → (id : ℕ) (d : Details) → details_among told n id ≡ Some d
      → IsIn (kind.Details d) (records_with p.0 p.1.info.tables p.1.revisions)
  details_in n p is id d e =
      let f = details_found told n id d e in
      let l = located start before blocks (kind.Details d) numbered (delivered (kind.Details d) f.there tt) in
      let here : at start n before blocks ≡ Some l.0 = subst (λ k. at start k before blocks ≡ Some l.0) f.number l.1 in
      let same : l.0 ≡ p = some_is l.0 p (sym here ∙ is) in
      subst (λ (q : Place). IsIn (kind.Details d) (records_with q.0 q.1.info.tables q.1.revisions)) same l.2 where
        some_is : (a b : Place) → Some a ≡ Some b → a ≡ b
        some_is a b e = cc

  -- what is found of each revision of the block are its details
  own : (n : ℕ) (changes : List Schema) (b : Block) → at start n before blocks ≡ Some (changes, b) → all_differ (document_ids b.revisions) ≡ true
      → (ts : List TableId) (rs : List Revision) → AreIn (records_with changes ts rs) (records_with changes b.info.tables b.revisions) → AreOwn told n changes ts rs
  own n changes b is differ [] rs sub = tt
  own n changes b is differ (t ∷ ts) [] sub = tt
  own n changes b is differ (t ∷ ts) (r ∷ rs) sub = (
    λ d e.
        let there = details_in n (changes, b) is r.metadata.id.raw d e in
        let f = details_found told n r.metadata.id.raw d e in
        one_of_each changes b.info.tables b.revisions d (details_with changes t r) differ there (sub (kind.Details (details_with changes t r)) (inl refl)) f.document,
    own n changes b is differ ts rs (λ x h. sub x (inr h)),
  )

  -- the block of a number is there exactly if all of its records are
  rebuilt_one : (n : ℕ) (changes : List Schema) (b : Block) → at start n before blocks ≡ Some (changes, b) → IsNumbered n b
      → (x : Block) → block_among told n ≡ Some x → (x ≡ b) × AreIn (block_records changes b) told
  rebuilt_one n changes b is w x e =
      let s = took (summary_among told n) (block_by (details_among told n)) x e in
      let exact : s.0 ≡ summary_of b = summary_is n (changes, b) is s.0 s.1 in
      let there = (summary_found told n s.0 s.1).there in
      let owned = own n changes b is w.differ b.info.tables b.revisions (λ y h. h) in
      go (each (found told n changes) (map listed_as b.revisions)) refl
      (sym (ap (block_by (details_among told n)) exact) ∙ s.2) owned (subst (λ y. IsIn (kind.Summary y) told) exact there) where
        go : (o : Option (List Revision)) → each (found told n changes) (map listed_as b.revisions) ≡ o
            → option_map (λ revisions. record b { revisions = revisions }) (each (found told n changes) (map listed_as b.revisions)) ≡ Some x
            → AreOwn told n changes b.info.tables b.revisions → IsIn (kind.Summary (summary_of b)) told
            → (x ≡ b) × AreIn (block_records changes b) told
        go None is e owned there = let bad : None ≡ Some x = sym (ap (option_map (λ revisions. record b { revisions = revisions })) is) ∙ e in cc
        go (Some qs) is e owned there =
            let made : Some (record b { revisions = qs }) ≡ Some x = sym (ap (option_map (λ revisions. record b { revisions = revisions })) is) ∙ e in
            let same : record b { revisions = qs } ≡ x = some_is _ _ made in
            let r = read told n changes b.info.tables b.revisions w.tables owned qs is in (
              sym same ∙ ap (λ rs. record b { revisions = rs }) r.0,
              λ y h. ⊎_elim (λ (e : y ≡ kind.Summary (summary_of b)). subst (λ z. IsIn z told) (sym e) there)
                  (λ (m : IsIn y (records_with changes b.info.tables b.revisions)). r.1 y m) h,
            ) where
              some_is : (p q : Block) → Some p ≡ Some q → p ≡ q
              some_is p q e = cc

  whole_one : (n : ℕ) (changes : List Schema) (b : Block) → at start n before blocks ≡ Some (changes, b) → IsNumbered n b
      → AreIn (block_records changes b) told → block_among told n ≡ Some b
  whole_one n changes b is w there =
      let found_s = summary_there told (summary_of b) (there (kind.Summary (summary_of b)) (inl refl)) in
      let here : summary_among told n ≡ Some found_s.0 = subst (λ k. summary_among told k ≡ Some found_s.0) w.number found_s.1 in
      let exact : found_s.0 ≡ summary_of b = summary_is n (changes, b) is found_s.0 here in
      let owned = own n changes b is w.differ b.info.tables b.revisions (λ y h. h) in
      let all = told_all told n changes b.info.tables b.revisions w.tables w.revisions owned (λ y h. there y (inr h)) in
      ap (λ o. and_then o (block_by (details_among told n))) (here ∙ ap (λ y. Some y) exact)
      ∙ ap (option_map (λ revisions. record b { revisions = revisions })) all

  -- ---- all blocks

  rebuilt : (n : ℕ) (changes : List Schema) (bs : List Block) → AreNumbered n bs → ((m : ℕ) → n ≤ m → at start m before blocks ≡ at n m changes bs)
      → (made : List Block) → AreBlocks told n made → (n + length made < 2 ^ 64 → block_among told (n + length made) ≡ None) → IsRebuilt changes bs told made
  rebuilt n changes [] all rest [] stand settled = refl
  rebuilt n changes [] all rest (x ∷ xs) stand settled =
      let first : block_among told n ≡ Some x = subst (λ k. block_among told k ≡ Some x) (omega arith) (sym (stand 0 (omega arith))) in
      let s = took (summary_among told n) (block_by (details_among told n)) x first in
      let f = summary_found told n s.0 s.1 in
      let l = located start before blocks (kind.Summary s.0) numbered (delivered (kind.Summary s.0) f.there tt) in
      let here : at start n before blocks ≡ Some l.0 = subst (λ k. at start k before blocks ≡ Some l.0) f.number l.1 in
      let none : None ≡ Some l.0 = sym (rest n (omega arith)) ∙ here in
      absurd (no l.0 none) where
        no : (p : Place) → None ≡ Some p → ⊥
        no p e = cc
  rebuilt n changes (b ∷ bs) all rest [] stand settled = λ there.
      let place : at start n before blocks ≡ Some (changes ++ b.info.schema, b) = rest n (omega arith) ∙ at_first n changes b bs in
      let whole = whole_one n (changes ++ b.info.schema) b place all.0 there in
      let none : block_among told n ≡ None = subst (λ k. block_among told k ≡ None) (omega arith) (settled (let small = all.0.small in omega (arith, small))) in
      no b (sym none ∙ whole) where
        no : (p : Block) → None ≡ Some p → ⊥
        no p e = cc
  rebuilt n changes (b ∷ bs) all rest (x ∷ xs) stand settled =
      let place : at start n before blocks ≡ Some (changes ++ b.info.schema, b) = rest n (omega arith) ∙ at_first n changes b bs in
      let first : block_among told n ≡ Some x = subst (λ k. block_among told k ≡ Some x) (omega arith) (sym (stand 0 (omega arith))) in
      let one = rebuilt_one n (changes ++ b.info.schema) b place all.0 x first in (
        one.0,
        one.1,
        rebuilt (n + 1) (changes ++ b.info.schema) bs all.1 (λ m h. rest m (omega (arith, h)) ∙ at_behind n m changes b bs h) xs
            (λ i h. stand (suc i) (omega (arith, h)) ∙ ap (block_among told) (omega arith))
            (λ h. ap (block_among told) (omega arith) ∙ settled (omega (arith, h))),
      )

  -- ---- no record is refused

  not_below : (r : Record) → (IsTold r → IsIn r (records_behind before blocks)) → IsNotBelow start r
  not_below (kind.Summary s) h = λ n below.
      let l = located start before blocks (kind.Summary s) numbered (h tt) in
      let low = at_least start (number_of s) before blocks l.0 l.1 in
      let same : number_of s ≡ n = some_is (number_of s) n below.0 in
      let less = below.1 in
      absurd (omega (arith, low, same, less)) where
        some_is : (a b : ℕ) → Some a ≡ Some b → a ≡ b
        some_is a b e = cc
  not_below (kind.Details d) h = λ n below.
      let l = located start before blocks (kind.Details d) numbered (h tt) in
      let low = at_least start (details_number d) before blocks l.0 l.1 in
      let same : details_number d ≡ n = some_is (details_number d) n below.0 in
      let less = below.1 in
      absurd (omega (arith, low, same, less)) where
        some_is : (a b : ℕ) → Some a ≡ Some b → a ≡ b
        some_is a b e = cc
  not_below kind.Created h = λ n below. no n below.0 where
    no : (n : ℕ) → None ≡ Some n → ⊥
    no n e = cc
  not_below kind.Completed h = λ n below. no n below.0 where
    no : (n : ℕ) → None ≡ Some n → ⊥
    no n e = cc

  agrees : (r : Record) → (IsTold r → IsIn r (records_behind before blocks)) → Agrees told r
  agrees (kind.Summary s) h = λ t e.
      let l = located start before blocks (kind.Summary s) numbered (h tt) in
      summary_is (number_of s) l.0 l.1 t e ∙ sym l.2
  agrees (kind.Details d) h = λ t e.
      let l = located start before blocks (kind.Details d) numbered (h tt) in
      let f = details_found told (details_number d) (document_of d) t e in
      one_of_each l.0.0 l.0.1.info.tables l.0.1.revisions t d l.3 (details_in (details_number d) l.0 l.1 (document_of d) t e) l.2 f.document
  agrees kind.Created h = tt
  agrees kind.Completed h = tt

pub deliveries-rebuild : DeliveriesRebuild
deliveries-rebuild journal from told undamaged delivery =
    let before = changes_in (take from journal) in
    let blocks = drop from journal in
    let numbered = numbered_from journal from undamaged in
    let delivered : (r : Record) → IsIn r told → IsTold r → IsIn r (records_behind before blocks) = λ r h t. in_records journal from r t (delivery r h) in (
      λ r h.
          (not_below told from before blocks numbered delivered r (λ t. in_records journal from r t h), agrees told from before blocks numbered delivered r (λ t. in_records journal from r t h)),
      λ r is holds settled.
          rebuilt told from before blocks numbered delivered from before blocks numbered (λ m h. refl) r.blocks.list
          (subst (λ k. AreBlocks told k r.blocks.list) is holds.blocks)
          (subst (λ k. k + length r.blocks.list < 2 ^ 64 → block_among told (k + length r.blocks.list) ≡ None) is settled),
    )
