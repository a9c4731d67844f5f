-- EXEC REDACT_REVISION keeps what holds of a transaction so far.
use Rattle.std.proofs.Common.{◌≡◌, ◌≤◌, ◌+◌, ◌^◌, ◌&&◌, ℕ, pos, Bool, true, false, List, [], ◌∷◌, map, Option, Some, None, codes, refl, sym, subst, append-nil, nat_lt, if◌then◌else◌, arith}
use Rattle.std.specs.Prelude.{option_and_then}
use Rattle.std.specs.List.{AllByRecursion}
use Rattle.std.specs.Str.{bytes_eq}
use Rattle.std.proofs.lemmas.Bool.{and_from, lt-ltb}
use Rattle.ion_values.specs.Depth.{deepest, field_depth}
use Rattle.ion_values.specs.declared.value.Body.{Body, out-Body}
use Rattle.ion_values.specs.declared.value.Body.TheOpen.{Body-F}
use Rattle.ion_values.specs.declared.value.Field.{Field}
use Rattle.ion_values.specs.declared.value.Value.{Value}
use Rattle.pql_model.specs.declared.expr.Expr.{Expr}
use Rattle.pql_model.specs.declared.scope.Evaluated.{Evaluated}
use Rattle.pql_model.specs.declared.scope.Evaluated.TheVariants.{Missing, Found}
use Rattle.pql_model.specs.Texts.{text_of}
use Rattle.ql_types.specs.Ids.{id_in, id_text}
use Rattle.ql_types.specs.declared.BlockAddress.{BlockAddress}
use Rattle.ql_types.proofs.Spelled.{id_in-spells}
use Rattle.ledger_model.specs.Follows.{named_by}
use Rattle.ledger_model.specs.Journal.{address_value, id_value, number, structure}
use Rattle.ledger_model.specs.Redacting.{not_redacted, of_name, of_revision, redacting, revision_row}
use Rattle.ledger_model.specs.RedactionArguments.{RevisionName, address_at, address_by, address_in, address_of, argument, id_of_text, name_from, named_revision, number_at, number_of, redaction_of, told_by}
use Rattle.ledger_model.specs.Run.{Begun, Progress}
use Rattle.ledger_model.specs.Script.{or_else}
use Rattle.ledger_model.specs.State.{Recorded, State}
use Rattle.ledger_model.specs.Values.{field, fields_in}
use Rattle.ledger_model.specs.Whole.{address_fits, id_fits, schema_fits}
use Rattle.laws_validity.proofs.Changes.{change_more}
use Rattle.laws_validity.proofs.Effects.{Leaves, MadeBy, same_made, unless_leaves}
use Rattle.laws_validity.proofs.Shapes.{Shallow, depth_field, depth_number, depth_string, depth_structure}

-- ---- what the arguments name is within its types

id_told : (o : Option (List ℕ)) (raw : ℕ) → option_and_then id_in o ≡ Some raw → id_fits raw ≡ true
id_told None raw h = cc
id_told (Some text) raw h = lt-ltb raw (2 ^ 128) (id_in-spells text raw h).1

id_argument : (e : Evaluated) (raw : ℕ) → told_by id_of_text e ≡ Some raw → id_fits raw ≡ true
id_argument Missing raw h = cc
id_argument (Found v) raw h = id_told (text_of v) raw h

number_told : (seen : Body-F Body Field Value) (n : ℕ) → number_at seen ≡ Some n → nat_lt n (2 ^ 64) ≡ true
number_told (Body-F.Int (pos m)) n h = small (nat_lt m (2 ^ 64)) refl h where
  small : (b : Bool) → nat_lt m (2 ^ 64) ≡ b → (if b then Some m else None) ≡ Some n → nat_lt n (2 ^ 64) ≡ true
  small true t e = let same : m ≡ n = cc in subst (λ k. nat_lt k (2 ^ 64) ≡ true) same t
  small false t e = cc
number_told _ n h = cc

address_at_fits : (strand : ℕ) (o : Option ℕ) (a : BlockAddress) → id_fits strand ≡ true
    → ((n : ℕ) → o ≡ Some n → nat_lt n (2 ^ 64) ≡ true) → address_at strand o ≡ Some a → address_fits a ≡ true
address_at_fits strand None a fits low h = cc
address_at_fits strand (Some n) a fits low h =
    let made : BlockAddress = record { strand = record { raw = strand }; sequence = n } in
    let same : made ≡ a = cc in
    subst (λ (x : BlockAddress). address_fits x ≡ true) same
    (and_from (id_fits strand) (nat_lt n (2 ^ 64)) fits (low n refl))

strand_told : (o : Option ℕ) (v : Value) (a : BlockAddress) → ((raw : ℕ) → o ≡ Some raw → id_fits raw ≡ true)
    → option_and_then (λ strand. address_at strand (number_of v)) o ≡ Some a → address_fits a ≡ true
strand_told None v a fits h = cc
strand_told (Some raw) v a fits h =
    address_at_fits raw (number_of v) a (fits raw refl) (λ n e. number_told (out-Body v.body) n e) h

address_by_fits : (f g : Field) (a : BlockAddress) → address_by f g ≡ Some a → address_fits a ≡ true
address_by_fits f g a h = by (bytes_eq f.name (codes "strandId") && bytes_eq g.name (codes "sequenceNo")) h where
  by : (b : Bool)
      → (if b then option_and_then (λ strand. address_at strand (number_of g.value)) (id_of_text f.value) else None)
      ≡ Some a
      → address_fits a ≡ true
  by true e = strand_told (id_of_text f.value) g.value a (λ raw k. id_told (text_of f.value) raw k) e
  by false e = cc

either_fits : (o p : Option BlockAddress) (a : BlockAddress) → (o ≡ Some a → address_fits a ≡ true)
    → (p ≡ Some a → address_fits a ≡ true) → or_else o p ≡ Some a → address_fits a ≡ true
either_fits None p a h k e = k e
either_fits (Some x) p a h k e = h e

address_of_fits : (fs : List Field) (a : BlockAddress) → address_of fs ≡ Some a → address_fits a ≡ true
address_of_fits (f ∷ g ∷ []) a h =
    either_fits (address_by f g) (address_by g f) a (address_by_fits f g a) (address_by_fits g f a) h
address_of_fits [] a h = cc
address_of_fits (f ∷ []) a h = cc
address_of_fits (f ∷ g ∷ i ∷ fs) a h = cc

fields_told : (o : Option (List Field)) (a : BlockAddress) → option_and_then address_of o ≡ Some a
    → address_fits a ≡ true
fields_told None a h = cc
fields_told (Some fs) a h = address_of_fits fs a h

address_argument : (e : Evaluated) (a : BlockAddress) → told_by address_in e ≡ Some a → address_fits a ≡ true
address_argument Missing a h = cc
address_argument (Found v) a h = fields_told (fields_in v) a h

name_fits : (a : Option BlockAddress) (t d : Option ℕ) (n : RevisionName)
    → ((x : BlockAddress) → a ≡ Some x → address_fits x ≡ true)
    → ((x : ℕ) → t ≡ Some x → id_fits x ≡ true) → ((x : ℕ) → d ≡ Some x → id_fits x ≡ true) → name_from a t d ≡ Some n
    → schema_fits (redaction_of n) ≡ true
name_fits None t d n ha ht hd h = cc
name_fits (Some a) None d n ha ht hd h = cc
name_fits (Some a) (Some t) None n ha ht hd h = cc
name_fits (Some a) (Some t) (Some d) n ha ht hd h =
    let made : RevisionName = record { address = a; table = record { raw = t }; document = record { raw = d } } in
    let same : made ≡ n = cc in
    subst (λ (x : RevisionName). schema_fits (redaction_of x) ≡ true) same
    (and_from (address_fits a && id_fits t) (id_fits d)
    (and_from (address_fits a) (id_fits t) (ha a refl) (ht t refl)) (hd d refl))

pub named_fits : (params : List Value) (a t d : Expr) (n : RevisionName) → named_revision params a t d ≡ Some n
    → schema_fits (redaction_of n) ≡ true
named_fits params a t d n h =
    name_fits (told_by address_in (argument params a)) (told_by id_of_text (argument params t))
    (told_by id_of_text (argument params d)) n
    (address_argument (argument params a)) (id_argument (argument params t)) (id_argument (argument params d)) h

-- ---- the answer

shallow_fields : (d : ℕ) (fs : List Field) → AllByRecursion (λ (f : Field). Shallow d f.value) fs
    → deepest (map field_depth fs) ≤ d
shallow_fields d [] h = omega arith
shallow_fields d (f ∷ fs) h =
    let here = h.0 in let same = depth_field f in let rest = shallow_fields d fs h.1 in omega (arith, here, same, rest)

shallow_structure : (d : ℕ) (fs : List Field) → AllByRecursion (λ (f : Field). Shallow d f.value) fs
    → Shallow (d + 1) (structure fs)
shallow_structure d fs h = let e = depth_structure fs in let m = shallow_fields d fs h in omega (arith, e, m)

shallow_text : (d raw : ℕ) → Shallow d (id_value raw)
shallow_text d raw = let e = depth_string (id_text raw) in omega (arith, e)

shallow_number : (d n : ℕ) → Shallow d (number n)
shallow_number d n = let e = depth_number n in omega (arith, e)

shallow_row : (r : Recorded) → Shallow 130 (revision_row r)
shallow_row r =
    let address : Shallow 1 (address_value r.revision.address) =
    shallow_structure 0 (
    field (codes "strandId") (id_value r.revision.address.strand.raw)
    ∷ field (codes "sequenceNo") (number r.revision.address.sequence)
    ∷ []
    ) (shallow_text 0 r.revision.address.strand.raw, (shallow_number 0 r.revision.address.sequence, tt)) in
    let row : Shallow 2 (revision_row r) =
    shallow_structure 1 (
    field (codes "blockAddress") (address_value r.revision.address) ∷ field (codes "tableId") (id_value r.table.raw)
    ∷ field (codes "documentId") (id_value r.revision.metadata.id.raw)
    ∷ field (codes "version") (number r.revision.metadata.version)
    ∷ []
    ) (
      address,
      (
        shallow_text 1 r.table.raw,
        (
          shallow_text 1 r.revision.metadata.id.raw,
          (shallow_number 1 r.revision.metadata.version, tt),
        ),
      ),
    ) in
    omega (arith, row)

-- ---- the statement

module _ (b : Begun) (s : State) where
  leaves_revision : (p : Progress) (n : RevisionName) (o : Option Recorded) → MadeBy b s p
      → schema_fits (redaction_of n) ≡ true
      → Leaves b s p (of_revision s.revisions p.schema (redaction_of n) o)
  leaves_revision p n None m fits = tt
  leaves_revision p n (Some r) m fits =
      unless_leaves b s p (not_redacted s.revisions p.schema r) _ (λ _. record {
        rows = (shallow_row r, tt);
        made = same_made b s _ _ _ _ _ _ refl (sym (append-nil p.log)) (omega arith)
            (change_more b s p.schema p.log p.made m (redaction_of n) refl refl fits refl);
      })

  leaves_name : (p : Progress) (o : Option RevisionName) → MadeBy b s p
      → ((n : RevisionName) → o ≡ Some n → schema_fits (redaction_of n) ≡ true) → Leaves b s p (of_name s p o)
  leaves_name p None m fits = tt
  leaves_name p (Some n) m fits = leaves_revision p n (named_by s.revisions (redaction_of n)) m (fits n refl)

  pub leaves_redact : (p : Progress) (params : List Value) (a t d : Expr) → MadeBy b s p
      → Leaves b s p (redacting s p params a t d)
  leaves_redact p params a t d m = leaves_name p (named_revision params a t d) m (named_fits params a t d)
