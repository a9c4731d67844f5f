-- The text of a refusal tells it.
use Rattle.std.proofs.Common.{◌≡◌, ◌*◌, ◌+◌, ℕ, List, [], ◌∷◌, ◌++◌, slice_index, codes, refl, ap}
use Rattle.std.specs.Fmt.{decimal}
use Rattle.ion_values.specs.declared.value.Kind.{Kind}
use Rattle.ion_values.specs.declared.value.Kind.TheVariants as kind
use Rattle.ion_model.specs.Write.{string_text}
use Rattle.ion_text.specs.RoundTrip.{MayFollow}
use Rattle.pql_model.specs.declared.ParseKind.{ParseKind}
use Rattle.pql_model.specs.declared.ParseKind.TheVariants as parse
use Rattle.ledger_model.specs.declared.outcome.Refusal.{Refusal}
use Rattle.ledger_model.specs.declared.outcome.Refusal.TheVariants as refusal
use Rattle.ledger_model.specs.CauseText.{cause_text, kind_name, parse_kind_name}
use Rattle.laws_report.specs.Writable.{IsCause, IsNumber, IsText}
use Rattle.laws_report.proofs.Runs.{apart, behind, number_tells, parted, right}
use Rattle.laws_report.proofs.Tokens.{text_tells}

-- ---- kinds

abbrev three : List ℕ → ℕ
three text = (slice_index text 0 * 256 + slice_index text 1) * 256 + slice_index text 2

abbrev four : List ℕ → ℕ
four text = three text * 256 + slice_index text 3

kind_tells : (a b : Kind) (r s : List ℕ) → kind_name a ++ r ≡ kind_name b ++ s → (a ≡ b) × (r ≡ s)
kind_tells kind.Null kind.Null r s e = (refl, ap (behind (codes "Null")) e)
kind_tells kind.Bool kind.Bool r s e = (refl, ap (behind (codes "Bool")) e)
kind_tells kind.Int kind.Int r s e = (refl, ap (behind (codes "Int")) e)
kind_tells kind.Decimal kind.Decimal r s e = (refl, ap (behind (codes "Decimal")) e)
kind_tells kind.Timestamp kind.Timestamp r s e = (refl, ap (behind (codes "Timestamp")) e)
kind_tells kind.Symbol kind.Symbol r s e = (refl, ap (behind (codes "Symbol")) e)
kind_tells kind.String kind.String r s e = (refl, ap (behind (codes "String")) e)
kind_tells kind.Clob kind.Clob r s e = (refl, ap (behind (codes "Clob")) e)
kind_tells kind.Blob kind.Blob r s e = (refl, ap (behind (codes "Blob")) e)
kind_tells kind.List kind.List r s e = (refl, ap (behind (codes "List")) e)
kind_tells kind.Sexp kind.Sexp r s e = (refl, ap (behind (codes "Sexp")) e)
kind_tells kind.Struct kind.Struct r s e = (refl, ap (behind (codes "Struct")) e)
kind_tells kind.String kind.Struct r s e = absurd (apart (ap four e) refl)
kind_tells kind.Struct kind.String r s e = absurd (apart (ap four e) refl)
kind_tells a b r s e = absurd (apart (ap three e) refl)

parse_kind_tells : (a b : ParseKind) (r s : List ℕ) → parse_kind_name a ++ r ≡ parse_kind_name b ++ s → (a ≡ b) × (r ≡ s)
parse_kind_tells parse.NotAToken parse.NotAToken r s e = (refl, ap (behind (codes "NotAToken")) e)
parse_kind_tells parse.Unexpected parse.Unexpected r s e = (refl, ap (behind (codes "Unexpected")) e)
parse_kind_tells parse.TextEnds parse.TextEnds r s e = (refl, ap (behind (codes "TextEnds")) e)
parse_kind_tells parse.TooLong parse.TooLong r s e = (refl, ap (behind (codes "TooLong")) e)
parse_kind_tells parse.TooDeep parse.TooDeep r s e = (refl, ap (behind (codes "TooDeep")) e)
parse_kind_tells parse.TooWide parse.TooWide r s e = (refl, ap (behind (codes "TooWide")) e)
parse_kind_tells parse.FloatRefused parse.FloatRefused r s e = (refl, ap (behind (codes "FloatRefused")) e)
parse_kind_tells parse.IonLiteral parse.IonLiteral r s e = (refl, ap (behind (codes "IonLiteral")) e)
parse_kind_tells parse.UnknownName parse.UnknownName r s e = (refl, ap (behind (codes "UnknownName")) e)
parse_kind_tells parse.BadTarget parse.BadTarget r s e = (refl, ap (behind (codes "BadTarget")) e)
parse_kind_tells parse.MixedAggregate parse.MixedAggregate r s e = (refl, ap (behind (codes "MixedAggregate")) e)
parse_kind_tells a b r s e = absurd (apart (ap four e) refl)

-- ---- causes with two fields

faults_tell : (at to : ℕ) (a b : ParseKind) (r s : List ℕ) → IsNumber at → IsNumber to
    → (decimal at ++ codes ",kind:" ++ parse_kind_name a) ++ r ≡ (decimal to ++ codes ",kind:" ++ parse_kind_name b) ++ s → (at ≡ to) × (a ≡ b) × (r ≡ s)
faults_tell at to a b r s h k e =
    let xs : List (List ℕ) = codes ",kind:" ∷ parse_kind_name a ∷ [] in
    let us : List (List ℕ) = codes ",kind:" ∷ parse_kind_name b ∷ [] in
    let first = number_tells at to (right xs r) (right us s) h k refl refl (parted (decimal at) (decimal to) xs us r s e) in
    let second = parse_kind_tells a b r s (ap (behind (codes ",kind:")) first.1) in
    (first.0, second.0, second.1)

indexes_tell : (m n f g r s : List ℕ) → IsText m → IsText n → IsText f → IsText g
    → (string_text m ++ codes ",field:" ++ string_text f) ++ r ≡ (string_text n ++ codes ",field:" ++ string_text g) ++ s → (m ≡ n) × (f ≡ g) × (r ≡ s)
indexes_tell m n f g r s hm hn hf hg e =
    let xs : List (List ℕ) = codes ",field:" ∷ string_text f ∷ [] in
    let us : List (List ℕ) = codes ",field:" ∷ string_text g ∷ [] in
    let first = text_tells m n (right xs r) (right us s) hm hn (parted (string_text m) (string_text n) xs us r s e) in
    let second = text_tells f g r s hf hg (ap (behind (codes ",field:")) first.1) in
    (first.0, second.0, second.1)

counts_tell : (m n f g : ℕ) (r s : List ℕ) → IsNumber m → IsNumber n → IsNumber f → IsNumber g → MayFollow r → MayFollow s
    → (decimal m ++ codes ",given:" ++ decimal f) ++ r ≡ (decimal n ++ codes ",given:" ++ decimal g) ++ s → (m ≡ n) × (f ≡ g) × (r ≡ s)
counts_tell m n f g r s hm hn hf hg p q e =
    let xs : List (List ℕ) = codes ",given:" ∷ decimal f ∷ [] in
    let us : List (List ℕ) = codes ",given:" ∷ decimal g ∷ [] in
    let first = number_tells m n (right xs r) (right us s) hm hn refl refl (parted (decimal m) (decimal n) xs us r s e) in
    let second = number_tells f g r s hf hg p q (ap (behind (codes ",given:")) first.1) in
    (first.0, second.0, second.1)

-- ---- causes

-- the code's two bytes, or its one and what stands behind it
abbrev mark : List ℕ → ℕ
mark text = slice_index text 5 * 256 + slice_index text 6

pub cause_tells : (a b : Refusal) (r s : List ℕ) → IsCause a → IsCause b → MayFollow r → MayFollow s → cause_text a ++ r ≡ cause_text b ++ s → (a ≡ b) × (r ≡ s)
cause_tells (refusal.ParseFault at a) (refusal.ParseFault to b) r s h k p q e =
    let all = faults_tell at to a b r s h k (ap (behind (codes "code:1,at:")) e) in (λ i. refusal.ParseFault (all.0 i) (all.1 i), all.2)
cause_tells (refusal.NoSuchTable m) (refusal.NoSuchTable n) r s h k p q e =
    let both = text_tells m n r s h k (ap (behind (codes "code:2,name:")) e) in (ap refusal.NoSuchTable both.0, both.1)
cause_tells (refusal.TableExists m) (refusal.TableExists n) r s h k p q e =
    let both = text_tells m n r s h k (ap (behind (codes "code:3,name:")) e) in (ap refusal.TableExists both.0, both.1)
cause_tells (refusal.ReservedName m) (refusal.ReservedName n) r s h k p q e =
    let both = text_tells m n r s h k (ap (behind (codes "code:4,name:")) e) in (ap refusal.ReservedName both.0, both.1)
cause_tells (refusal.IndexExists m f) (refusal.IndexExists n g) r s h k p q e =
    let all = indexes_tell m n f g r s h.0 k.0 h.1 k.1 (ap (behind (codes "code:5,name:")) e) in
    (λ i. refusal.IndexExists (all.0 i) (all.1 i), all.2)
cause_tells (refusal.TooManyTables m) (refusal.TooManyTables n) r s h k p q e =
    let both = number_tells m n r s h k p q (ap (behind (codes "code:6,count:")) e) in (ap refusal.TooManyTables both.0, both.1)
cause_tells (refusal.TooManyIndexes m) (refusal.TooManyIndexes n) r s h k p q e =
    let both = number_tells m n r s h k p q (ap (behind (codes "code:7,count:")) e) in (ap refusal.TooManyIndexes both.0, both.1)
cause_tells (refusal.TooManyRevisions m) (refusal.TooManyRevisions n) r s h k p q e =
    let both = number_tells m n r s h k p q (ap (behind (codes "code:8,count:")) e) in (ap refusal.TooManyRevisions both.0, both.1)
cause_tells (refusal.DocumentTooLarge m) (refusal.DocumentTooLarge n) r s h k p q e =
    let both = number_tells m n r s h k p q (ap (behind (codes "code:9,bytes:")) e) in (ap refusal.DocumentTooLarge both.0, both.1)
cause_tells (refusal.NotADocument a) (refusal.NotADocument b) r s h k p q e =
    let both = kind_tells a b r s (ap (behind (codes "code:10,kind:")) e) in (ap refusal.NotADocument both.0, both.1)
cause_tells (refusal.ParameterCount m f) (refusal.ParameterCount n g) r s h k p q e =
    let all = counts_tell m n f g r s h.0 k.0 h.1 k.1 p q (ap (behind (codes "code:11,wanted:")) e) in
    (λ i. refusal.ParameterCount (all.0 i) (all.1 i), all.2)
cause_tells (refusal.TooDeep m) (refusal.TooDeep n) r s h k p q e =
    let both = number_tells m n r s h k p q (ap (behind (codes "code:12,depth:")) e) in (ap refusal.TooDeep both.0, both.1)
cause_tells refusal.Ended refusal.Ended r s h k p q e = (refl, ap (behind (codes "code:13")) e)
cause_tells refusal.OutOfMemory refusal.OutOfMemory r s h k p q e = (refl, ap (behind (codes "code:14")) e)
cause_tells refusal.NoSuchRevision refusal.NoSuchRevision r s h k p q e = (refl, ap (behind (codes "code:15")) e)
cause_tells (refusal.StillLatest m) (refusal.StillLatest n) r s h k p q e =
    let both = number_tells m n r s h k p q (ap (behind (codes "code:16,version:")) e) in (ap refusal.StillLatest both.0, both.1)
cause_tells (refusal.AlreadyRedacted m) (refusal.AlreadyRedacted n) r s h k p q e =
    let both = number_tells m n r s h k p q (ap (behind (codes "code:17,version:")) e) in (ap refusal.AlreadyRedacted both.0, both.1)
cause_tells (refusal.TooManyRedactions m) (refusal.TooManyRedactions n) r s h k p q e =
    let both = number_tells m n r s h k p q (ap (behind (codes "code:18,count:")) e) in (ap refusal.TooManyRedactions both.0, both.1)
cause_tells a b r s h k p q e = absurd (apart (ap mark e) refl)
