-- Metadata have no place: where they have the form of what a transaction said and did, one of their fields has the hash
-- of the place's.
use Rattle.std.proofs.Common.{◌≡◌, ◌≢◌, ◌∙◌, ◌⊎◌, inl, inr, ℕ, ◌+◌, ◌<◌, ◌≤◌, Bool, true, false, true≢false, List, [], ◌∷◌, map, length, drop, get_or, Option, Some, codes, refl, sym, ap, subst, if◌then◌else◌, arith, rules}
use Rattle.std.specs.Prelude.{slice_get}
use Rattle.std.specs.Str.{bytes_eq}
use Rattle.std.specs.List.{AllByRecursion}
use Rattle.std.specs.Ordering.{nat_cmp, is_lt}
use Rattle.std.specs.Cmp.Lexicographic.{bytes_decides, slice_cmp}
use Rattle.std.proofs.lemmas.List.{drop_all, drop_more}
use Rattle.std.proofs.lemmas.List.Elements.{All-from_recursion}
use Rattle.ion_values.specs.declared.value.Value.{Value}
use Rattle.ion_values.specs.declared.value.Field.{Field}
use Rattle.ion_values.specs.declared.value.Body.TheFolds.{the_lemmas}
use Rattle.hash_model.specs.Serialize.{escape, field_hash, in_order, joined, put_in_order, serialize, struct_bytes}
use Rattle.ion_hash.proofs.Order.{put_all}
use Rattle.ion_extract.specs.Laws.{EscapeIsInjective, FrameIsInjective, JoinedHashesAreInjective}
use Rattle.laws_descent.specs.Laws.{FieldHashesAreLong, FourHashesAreLong}
use Rattle.ledger_model.specs.declared.block.Info.{Info}
use Rattle.ledger_model.specs.declared.block.Metadata.{Metadata}
use Rattle.ledger_model.specs.declared.block.Revision.{Revision}
use Rattle.ledger_model.specs.declared.block.Told.{Told}
use Rattle.ledger_model.specs.declared.block.Told.TheVariants as told
use Rattle.ledger_model.specs.Values.{field, fields_in}
use Rattle.ledger_model.specs.Script.{and_then}
use Rattle.ledger_model.specs.Journal.{documents_field, id_value, info_fields, info_value, metadata_value, moment, number, place_field, schema_field, structure, told_field}
use Rattle.ledger_model.specs.Seals.{info_hashes, told_hash}
use Rattle.ledger_model.specs.Whole.{told_fits}
use Rattle.std.proofs.lemmas.Bool.{eqb-true}
use Rattle.value_codec.proofs.SmallParts.{fields-puts}
use Rattle.proof_extract.specs.Climbs.{IsAmong}

-- ---- among hashes in order

among_put : (x h : List ℕ) (hs : List (List ℕ)) → (x ≡ h) ⊎ IsAmong x hs → IsAmong x (put_in_order h hs)
unfolding put_in_order
among_put x h [] a = a
among_put x h (n ∷ rest) a = go (is_lt (slice_cmp nat_cmp n h)) a (λ b. among_put x h rest b) where
  go : (less : Bool) → (x ≡ h) ⊎ IsAmong x (n ∷ rest) → ((x ≡ h) ⊎ IsAmong x rest → IsAmong x (put_in_order h rest))
      → IsAmong x (if less then n ∷ put_in_order h rest else h ∷ n ∷ rest)
  go true (inl e) more = inr (more (inl e))
  go true (inr (inl e)) more = inl e
  go true (inr (inr m)) more = inr (more (inr m))
  go false a more = a

put_among : (x h : List ℕ) (hs : List (List ℕ)) → IsAmong x (put_in_order h hs) → (x ≡ h) ⊎ IsAmong x hs
unfolding put_in_order
put_among x h [] a = a
put_among x h (n ∷ rest) a = go (is_lt (slice_cmp nat_cmp n h)) a (λ b. put_among x h rest b) where
  later : (x ≡ h) ⊎ IsAmong x rest → (x ≡ h) ⊎ IsAmong x (n ∷ rest)
  later (inl e) = inl e
  later (inr m) = inr (inr m)

  go : (less : Bool) → IsAmong x (if less then n ∷ put_in_order h rest else h ∷ n ∷ rest)
      → (IsAmong x (put_in_order h rest) → (x ≡ h) ⊎ IsAmong x rest) → (x ≡ h) ⊎ IsAmong x (n ∷ rest)
  go true (inl e) more = inr (inl e)
  go true (inr m) more = later (more m)
  go false a more = a

among_ordered : (x : List ℕ) (hs : List (List ℕ)) → IsAmong x hs → IsAmong x (in_order hs)
unfolding in_order
among_ordered x [] a = a
among_ordered x (h ∷ hs) (inl e) = among_put x h (in_order hs) (inl e)
among_ordered x (h ∷ hs) (inr m) = among_put x h (in_order hs) (inr (among_ordered x hs m))

ordered_among : (x : List ℕ) (hs : List (List ℕ)) → IsAmong x (in_order hs) → IsAmong x hs
unfolding in_order
ordered_among x [] a = a
ordered_among x (h ∷ hs) a = go (put_among x h (in_order hs) a) (λ m. ordered_among x hs m) where
  go : (x ≡ h) ⊎ IsAmong x (in_order hs) → (IsAmong x (in_order hs) → IsAmong x hs) → IsAmong x (h ∷ hs)
  go (inl e) more = inl e
  go (inr m) more = inr (more m)

-- ---- hashes of 32 bytes

abbrev Long : List ℕ → Type 0
Long hash = length hash ≡ 32

long_in_order : (hashes : List (List ℕ)) → AllByRecursion Long hashes → AllByRecursion Long (in_order hashes)
unfolding in_order
long_in_order [] all = tt
long_in_order (hash ∷ hashes) all = put_all Long hash all.0 (in_order hashes) (long_in_order hashes all.1)

same_order : FrameIsInjective → EscapeIsInjective → JoinedHashesAreInjective → (xs ys : List (List ℕ)) → AllByRecursion Long xs → AllByRecursion Long ys
    → struct_bytes xs ≡ struct_bytes ys → in_order xs ≡ in_order ys
same_order frames escapes joins xs ys hx hy e =
    joins (in_order xs) (in_order ys) (All-from_recursion Long (in_order xs) (long_in_order xs hx)) (All-from_recursion Long (in_order ys) (long_in_order ys hy))
    (escapes (joined (in_order xs)) (joined (in_order ys)) (frames 0xD0 0xD0 (escape (joined (in_order xs))) (escape (joined (in_order ys))) e).1)

-- ---- the four fields of metadata

pub metadata_fields : Metadata → List Field
metadata_fields m =
    field (codes "id") (id_value m.id.raw) ∷ field (codes "version") (number m.version)
    ∷ field (codes "txTime") (moment m.time) ∷ field (codes "txId") (id_value m.tx.raw) ∷ []

metadata_are : (m : Metadata) → metadata_value m ≡ structure (metadata_fields m)
unfolding metadata_fields
metadata_are m = refl

other : (xs ys : List ℕ) → bytes_eq xs ys ≡ false → xs ≢ ys
other xs ys differ same = true≢false (sym ((bytes_decides xs ys).1 same) ∙ differ)

-- none is a place's
no_place : (m : Metadata) (i : Info) → AllByRecursion (λ (f : Field). f.name ≢ (place_field i).name) (metadata_fields m)
unfolding metadata_fields
no_place m i =
    let place = codes "place" in
    (other (codes "id") place refl, (other (codes "version") place refl, (other (codes "txTime") place refl, (other (codes "txId") place refl, tt))))

struct_is : (fields : List Field) → serialize (structure fields) ≡ struct_bytes (map field_hash fields)
struct_is fields = search (rules, the_lemmas)

told_long : FieldHashesAreLong → (t : Told) → told_fits t ≡ true → length (told_hash t) ≡ 32
told_long long (told.Said said) fits = long (told_field (told.Said said))
told_long long (told.Hashed hash) fits = eqb-true (length hash.bytes) 32 fits

fields_long : FieldHashesAreLong → (fs : List Field) → AllByRecursion Long (map field_hash fs)
fields_long long [] = tt
fields_long long (f ∷ fs) = (long f, fields_long long fs)

info_long : FieldHashesAreLong → (i : Info) (rs : List Revision) → told_fits i.said ≡ true → AllByRecursion Long (info_hashes i rs)
info_long long i rs fits =
    (long (place_field i), (told_long long i.said fits, (long (schema_field i), (long (documents_field i rs), tt))))

pub info_form_long : FourHashesAreLong → FieldHashesAreLong → (i : Info) (rs : List Revision) (form : List ℕ) → told_fits i.said ≡ true
    → form ≡ struct_bytes (info_hashes i rs) → 64 < length form
info_form_long four long i rs form fits is =
    let longer : 64 < length (struct_bytes (info_hashes i rs)) =
    four (field_hash (place_field i)) (told_hash i.said) (field_hash (schema_field i)) (field_hash (documents_field i rs))
    (long (place_field i)) (told_long long i.said fits) (long (schema_field i)) (long (documents_field i rs)) in
    omega (arith, longer, ap length is)

place_among : FrameIsInjective → EscapeIsInjective → JoinedHashesAreInjective → FieldHashesAreLong → (m : Metadata) (i : Info) (rs : List Revision)
    → told_fits i.said ≡ true → serialize (metadata_value m) ≡ struct_bytes (info_hashes i rs)
    → IsAmong (field_hash (place_field i)) (map field_hash (metadata_fields m))
place_among frames escapes joins long m i rs fits e =
    let theirs = map field_hash (metadata_fields m) in
    let forms : struct_bytes theirs ≡ struct_bytes (info_hashes i rs) =
    sym (ap serialize (metadata_are m) ∙ struct_is (metadata_fields m)) ∙ e in
    let order = same_order frames escapes joins theirs (info_hashes i rs) (fields_long long (metadata_fields m)) (info_long long i rs fits) forms in
    ordered_among (field_hash (place_field i)) theirs
    (subst (λ (hs : List (List ℕ)). IsAmong (field_hash (place_field i)) hs) (sym order)
    (among_ordered (field_hash (place_field i)) (info_hashes i rs) (inl refl)))

-- ---- fields that are gone through

-- none of the fields has the name of another, and one of them has its hash
abbrev pub IsLeft : Field → List Field → Type 0
IsLeft g fs = AllByRecursion (λ (f : Field). f.name ≢ g.name) fs × IsAmong (field_hash g) (map field_hash fs)

opens : (g : Field) (fs : List Field) (at : ℕ) (f : Field) → at < length fs → f ≡ get_or fs at f → IsLeft g (drop at fs) → IsLeft g (f ∷ drop (at + 1) fs)
opens g fs at f h is left =
    subst (IsLeft g) (drop_more fs at f h ∙ ap (λ (x : Field). x ∷ drop (at + 1) fs) (sym is)) left

pub other_name : (g : Field) (fs : List Field) (at : ℕ) (f : Field) → at < length fs → f ≡ get_or fs at f → IsLeft g (drop at fs) → f.name ≢ g.name
other_name g fs at f h is left = (opens g fs at f h is left).0.0

not_first : (x h : List ℕ) (hs : List (List ℕ)) → h ≢ x → (x ≡ h) ⊎ IsAmong x hs → IsAmong x hs
not_first x h hs differ (inl e) = absurd (differ (sym e))
not_first x h hs differ (inr m) = m

pub left_after : (g : Field) (fs : List Field) (at : ℕ) (f : Field) → at < length fs → f ≡ get_or fs at f → IsLeft g (drop at fs)
    → field_hash f ≢ field_hash g → IsLeft g (drop (at + 1) fs)
left_after g fs at f h is left differ =
    let l = opens g fs at f h is left in
    (l.0.1, not_first (field_hash g) (field_hash f) (map field_hash (drop (at + 1) fs)) differ l.1)

pub none_left : (g : Field) (fs : List Field) (at : ℕ) → length fs ≤ at → IsLeft g (drop at fs) → ⊥
none_left g fs at h left = (subst (IsLeft g) (drop_all at fs h) left).1

-- ---- the fields at hand

pub their_fields : (m : Metadata) (v : Value) (fs : List Field) → v ≡ metadata_value m → fields_in v ≡ Some fs → fs ≡ metadata_fields m
their_fields m v fs is e =
    let there : Some fs ≡ Some (metadata_fields m) =
    sym e ∙ ap fields_in is ∙ ap fields_in (metadata_are m) ∙ fields-puts (metadata_fields m) in cc

pub its_place : (i : Info) (rs : List Revision) (v : Value) (f : Field) → v ≡ info_value i rs
    → and_then (fields_in v) (λ (fs : List Field). slice_get fs 0) ≡ Some f → f ≡ place_field i
its_place i rs v f is e =
    let there : Some f ≡ Some (place_field i) =
    sym e ∙ ap (λ (w : Value). and_then (fields_in w) (λ (fs : List Field). slice_get fs 0)) is
    ∙ ap (λ (o : Option (List Field)). and_then o (λ (fs : List Field). slice_get fs 0)) (fields-puts (info_fields i rs)) in cc

-- metadata of the form of what a transaction said and did
pub left_at_first : FrameIsInjective → EscapeIsInjective → JoinedHashesAreInjective → FieldHashesAreLong → (m : Metadata) (i : Info) (rs : List Revision)
    → told_fits i.said ≡ true → serialize (metadata_value m) ≡ struct_bytes (info_hashes i rs) → (fs hs : List Field) (g : Field)
    → fs ≡ hs → hs ≡ metadata_fields m → g ≡ place_field i → IsLeft g fs
left_at_first frames escapes joins long m i rs fits e fs hs g same fields place =
    let all : IsLeft (place_field i) (metadata_fields m) = (no_place m i, place_among frames escapes joins long m i rs fits e) in
    subst (λ (x : Field). IsLeft x fs) (sym place) (subst (IsLeft (place_field i)) (sym (same ∙ fields)) all)
