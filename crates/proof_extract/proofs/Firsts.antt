-- The first revision with a hash.
use Rattle.std.proofs.Common.{◌≡◌, ◌≢◌, ◌∙◌, inl, inr, ℕ, ◌+◌, ◌<◌, ◌≤◌, Bool, true, false, true≢false, List, length, Some, sym, ap, subst, arith}
use Rattle.std.specs.Prelude.{slice_get}
use Rattle.std.specs.Str.{bytes_eq}
use Rattle.std.specs.Cmp.Lexicographic.{bytes_decides}
use Rattle.std.proofs.lemmas.Bool.Decides.{eqb_tells}
use Rattle.std.proofs.lemmas.Option.{slice_get_within}
use Rattle.ql_types.specs.declared.Hash32.{Hash32}
use Rattle.ledger_model.specs.declared.block.Revision.{Revision}
use Rattle.proof_extract.specs.Climbs.{HasRevision}

abbrev pub NoneBefore : List Revision → Hash32 → ℕ → Type 0
NoneBefore revisions hash at = (i : ℕ) (other : Revision) → i < at → slice_get revisions i ≡ Some other → other.hash ≢ hash

one_hash : (a b : Hash32) → a.bytes ≡ b.bytes → a ≡ b
one_hash a b e = λ i. record { bytes = e i }

pub same_bytes : (a b : Hash32) (r : Bool) → r ≡ bytes_eq a.bytes b.bytes → r ≡ true → a ≡ b
same_bytes a b r e is = one_hash a b ((bytes_decides a.bytes b.bytes).0 (sym e ∙ is))

pub other_bytes : (a b : Hash32) (r : Bool) → r ≡ bytes_eq a.bytes b.bytes → r ≡ false → a ≢ b
other_bytes a b r e not_it same =
    true≢false (sym ((bytes_decides a.bytes b.bytes).1 (ap (λ (h : Hash32). h.bytes) same)) ∙ sym e ∙ not_it)

one_there : (revisions : List Revision) (at : ℕ) (a b : Revision) → slice_get revisions at ≡ Some a → slice_get revisions at ≡ Some b → a ≡ b
one_there revisions at a b is are = let both = sym is ∙ are in cc

pub none_up_to : (revisions : List Revision) (hash : Hash32) (at : ℕ) (own : Revision) → slice_get revisions at ≡ Some own → own.hash ≢ hash
    → NoneBefore revisions hash at → NoneBefore revisions hash (at + 1)
none_up_to revisions hash at own is differ so_far i other less there same =
    elim (eqb_tells i at) [
      | inl here ↦
          let it = one_there revisions at other own (subst (λ k. slice_get revisions k ≡ Some other) here.1 there) is in
          differ (ap (λ (r : Revision). r.hash) (sym it) ∙ same)
      | inr earlier ↦ so_far i other (omega (arith, less, earlier.1)) there same
    ]

pub none_has : (revisions : List Revision) (hash : Hash32) (at : ℕ) → length revisions ≤ at → NoneBefore revisions hash at → HasRevision revisions hash → ⊥
none_has revisions hash at end so_far has =
    let within = slice_get_within revisions has.index has.own has.is in
    so_far has.index has.own (omega (arith, end, within)) has.is has.hash
