-- The first revision that a redaction names, found among its document's.
use Rattle.std.proofs.Common.{◌≡◌, ℕ, ◌+◌, ◌==◌, ◌&&◌, Bool, true, false, cond, List, [], ◌∷◌, drop, map, Option, Some, None, is_some, refl, sym, ◌∙◌, ap, subst}
use Rattle.std.specs.Prelude.{option_map, slice_get}
use Rattle.std.specs.List.{cons_option, filter, filter_map, find}
use Rattle.std.proofs.lemmas.Bool.{and_parts}
use Rattle.ql_types.specs.declared.DocId.{DocId}
use Rattle.ledger_model.specs.declared.block.Schema.{Schema}
use Rattle.ledger_model.specs.declared.block.Schema.TheVariants.{Create, Index, Drop, Redact}
use Rattle.ledger_model.specs.Follows.{named_by}
use Rattle.ledger_model.specs.State as state
use Rattle.ledger_model.specs.State.{redacts}
use Rattle.versions.specs.declared.recorded.Recorded.{Recorded}
use Rattle.versions.specs.Held.{recorded_of}
use Rattle.versions.specs.Histories.{places_of}
use Rattle.versions.specs.Newest.{id_of}
use Rattle.versions.specs.Redactions.{IsOfDocument, named_in}
use Rattle.versions.proofs.Along.{drop_next}
use Rattle.versions.proofs.Filing.{members_at}

wrong : false ≡ true → ⊥
wrong e = cc e

-- ---- one place after another

first_by : (b : Bool) (x : Recorded) (rest : Option Recorded) → is_some (cond b (Some x) None) ≡ true → cond b (Some x) rest ≡ cond b (Some x) None
first_by true x rest h = refl
first_by false x rest h = absurd (wrong h)

pub found_first : (p : Recorded → Bool) (o : Option Recorded) (rest : List Recorded) → is_some (find p (cons_option o [])) ≡ true
    → find p (cons_option o rest) ≡ find p (cons_option o [])
found_first p None rest h = absurd (wrong h)
found_first p (Some x) rest h = first_by (p x) x (find p rest) h

later_by : (b : Bool) (x : Recorded) (rest : Option Recorded) → is_some (cond b (Some x) None) ≡ false → cond b (Some x) rest ≡ rest
later_by true x rest h = absurd (wrong (sym h))
later_by false x rest h = refl

pub found_later : (p : Recorded → Bool) (o : Option Recorded) (rest : List Recorded) → is_some (find p (cons_option o [])) ≡ false
    → find p (cons_option o rest) ≡ find p rest
found_later p None rest h = refl
found_later p (Some x) rest h = later_by (p x) x (find p rest) h

module _ (c : Schema) (rs : List Recorded) (places : List ℕ) (n at : ℕ) (named all : Option Recorded) (there : slice_get places n ≡ Some at)
    (is : named ≡ find (λ r. redacts (recorded_of r) c) (cons_option (slice_get rs at) [])) (left : named_in c rs (drop n places) ≡ all) where
  abbrev p : Recorded → Bool
  p r = redacts (recorded_of r) c

  these : find p (cons_option (slice_get rs at) (filter_map (λ place. slice_get rs place) (drop (n + 1) places))) ≡ all
  these = ap (named_in c rs) (sym (drop_next places n at there)) ∙ left

  pub named_here : is_some named ≡ true → named ≡ all
  named_here h =
      is ∙ sym (found_first p (slice_get rs at) (filter_map (λ place. slice_get rs place) (drop (n + 1) places)) (ap is_some (sym is) ∙ h)) ∙ these

  pub named_later : is_some named ≡ false → named_in c rs (drop (n + 1) places) ≡ all
  named_later h =
      sym (found_later p (slice_get rs at) (filter_map (λ place. slice_get rs place) (drop (n + 1) places)) (ap is_some (sym is) ∙ h)) ∙ these

-- ---- among a document's revisions

module _ {X : Type 0} (p test : X → Bool) (holds : (x : X) → p x ≡ true → test x ≡ true) where
  among_by : (b t : Bool) (x : X) (rest all : List X) → p x ≡ b → (b ≡ true → t ≡ true) → find p rest ≡ find p all
      → find p (cond t (x ∷ rest) rest) ≡ cond b (Some x) (find p all)
  among_by true true x rest all is h ih = ap (λ (c : Bool). cond c (Some x) (find p rest)) is
  among_by true false x rest all is h ih = absurd (wrong (h refl))
  among_by false true x rest all is h ih = ap (λ (c : Bool). cond c (Some x) (find p rest)) is ∙ ih
  among_by false false x rest all is h ih = ih

  find_among : (xs : List X) → find p (filter test xs) ≡ find p xs
  find_among [] = refl
  find_among (x ∷ xs) = among_by (p x) (test x) x (filter test xs) xs refl (holds x) (find_among xs)

mapped_by : (b : Bool) (r : Recorded) (o : Option Recorded) (rest : Option state.Recorded) → option_map recorded_of o ≡ rest
    → option_map recorded_of (cond b (Some r) o) ≡ cond b (Some (recorded_of r)) rest
mapped_by true r o rest ih = refl
mapped_by false r o rest ih = ih

find_mapped : (c : Schema) (rs : List Recorded) → option_map recorded_of (find (λ r. redacts (recorded_of r) c) rs) ≡ named_by (map recorded_of rs) c
find_mapped c [] = refl
find_mapped c (r ∷ rs) =
    mapped_by (redacts (recorded_of r) c) r (find (λ x. redacts (recorded_of x) c) rs) (named_by (map recorded_of rs) c) (find_mapped c rs)

own_document : (c : Schema) (id : DocId) (r : Recorded) → IsOfDocument c id → redacts (recorded_of r) c ≡ true → (id_of r == id.raw) ≡ true
own_document (Create name table) id r of h = absurd (wrong h)
own_document (Index field table) id r of h = absurd (wrong h)
own_document (Drop name table) id r of h = absurd (wrong h)
own_document (Redact address table document) id r of h =
    subst (λ (d : DocId). (id_of r == d.raw) ≡ true) of
    (and_parts (state.same_address r.revision.address address && (r.table.raw == table.raw)) (id_of r == document.raw) h).1

pub named_is : (c : Schema) (id : DocId) (rs : List Recorded) → IsOfDocument c id
    → option_map recorded_of (named_in c rs (places_of rs id.raw)) ≡ named_by (map recorded_of rs) c
named_is c id rs of =
    let p : Recorded → Bool = λ r. redacts (recorded_of r) c in
    let test : Recorded → Bool = λ r. id_of r == id.raw in
    ap (λ (those : List Recorded). option_map recorded_of (find p those)) (members_at test rs)
    ∙ ap (option_map recorded_of) (find_among p test (λ r h. own_document c id r of h) rs)
    ∙ find_mapped c rs

-- ---- no redaction

unnamed_one : (c : Schema) (r : state.Recorded) → state.is_redact c ≡ false → redacts r c ≡ false
unnamed_one (Create name table) r not = refl
unnamed_one (Index field table) r not = refl
unnamed_one (Drop name table) r not = refl
unnamed_one (Redact address table document) r not = absurd (wrong (sym not))

-- all other changes name no revision
pub unnamed : (c : Schema) (rs : List state.Recorded) → state.is_redact c ≡ false → named_by rs c ≡ None
unnamed c [] not = refl
unnamed c (r ∷ rs) not =
    ap (λ (b : Bool). cond b (Some r) (named_by rs c)) (unnamed_one c r not) ∙ unnamed c rs not
