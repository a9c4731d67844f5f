-- What stands among records, with one record more.
use Rattle.std.proofs.Common.{◌≡◌, ◌∙◌, ℕ, List, [], ◌∷◌, ◌++◌, Option, Some, None, refl, ap, if◌then◌else◌}
use Rattle.std.specs.Prelude.{option_map}
use Rattle.ledger_model.specs.declared.block.Revision.{Revision}
use Rattle.ledger_model.specs.declared.block.Block.{Block}
use Rattle.ledger_model.specs.Damages.{same_hash}
use Rattle.ledger_model.specs.Script.{and_then, or_else, each}
use Rattle.value_codec.proofs.Inverse.{took}
use Rattle.stream_out.specs.declared.record.RevisionSummary.{RevisionSummary}
use Rattle.stream_out.specs.declared.record.Summary.{Summary}
use Rattle.stream_out.specs.declared.record.Details.{Details}
use Rattle.stream_out.specs.declared.record.Record.{Record}
use Rattle.stream_out.specs.Replays.{summary_at, summary_among, details_at, details_among, revision_by, block_by, block_among}

pub or_none : {A : Type 0} (o : Option A) → or_else o None ≡ o
or_none None = refl
or_none (Some x) = refl

or_assoc : {A : Type 0} (a b c : Option A) → or_else a (or_else b c) ≡ or_else (or_else a b) c
or_assoc None b c = refl
or_assoc (Some x) b c = refl

pub summary_among-push : (told : List Record) (r : Record) (n : ℕ) → summary_among (told ++ r ∷ []) n ≡ or_else (summary_among told n) (summary_at r n)
summary_among-push [] r n = or_none (summary_at r n)
summary_among-push (t ∷ ts) r n =
    ap (λ o. or_else (summary_at t n) o) (summary_among-push ts r n) ∙ or_assoc (summary_at t n) (summary_among ts n) (summary_at r n)

pub details_among-push : (told : List Record) (r : Record) (n id : ℕ) → details_among (told ++ r ∷ []) n id ≡ or_else (details_among told n id) (details_at r n id)
details_among-push [] r n id = or_none (details_at r n id)
details_among-push (t ∷ ts) r n id =
    ap (λ o. or_else (details_at t n id) o) (details_among-push ts r n id) ∙ or_assoc (details_at t n id) (details_among ts n id) (details_at r n id)

-- what was found is found with more behind it
or_keeps : {A : Type 0} (o p : Option A) (x : A) → o ≡ Some x → or_else o p ≡ Some x
or_keeps o p x e = ap (λ q. or_else q p) e

pub some_is : {A : Type 0} (a b : A) → Some a ≡ Some b → a ≡ b
some_is a b e = cc

-- the rest of what each gives
pub mapped : {A : Type 0} (o : Option (List A)) (x : A) (ys : List A) → option_map (λ (xs : List A). x ∷ xs) o ≡ Some ys
    → (xs : List A) × (o ≡ Some xs) × (Some (x ∷ xs) ≡ Some ys)
mapped None x ys e = cc
mapped (Some xs) x ys e = (xs, refl, e)

each_more : (f g : RevisionSummary → Option Revision) → ((l : RevisionSummary) (r : Revision) → f l ≡ Some r → g l ≡ Some r)
    → (ls : List RevisionSummary) (rs : List Revision) → each f ls ≡ Some rs → each g ls ≡ Some rs
each_more f g keeps [] rs e = e
each_more f g keeps (l ∷ ls) rs e =
    let t = took (f l) (λ (y : Revision). option_map (λ (ys : List Revision). y ∷ ys) (each f ls)) rs e in
    let u = mapped (each f ls) t.0 rs t.2 in
    let rest = each_more f g keeps ls u.0 u.1 in
    ap (λ (o : Option Revision). and_then o (λ (y : Revision). option_map (λ (ys : List Revision). y ∷ ys) (each g ls))) (keeps l t.0 t.1)
    ∙ ap (λ (o : Option (List Revision)). option_map (λ (ys : List Revision). t.0 ∷ ys) o) rest ∙ u.2

revision_keeps : (found more : ℕ → Option Details) → ((id : ℕ) (d : Details) → found id ≡ Some d → more id ≡ Some d)
    → (l : RevisionSummary) (r : Revision) → revision_by (found l.document.raw) l ≡ Some r → revision_by (more l.document.raw) l ≡ Some r
revision_keeps found more keeps l r e =
    let t = took (found l.document.raw) (λ (d : Details). if same_hash d.revision.hash l.hash then Some d.revision else None) r e in
    ap (λ (o : Option Details). revision_by o l) (keeps l.document.raw t.0 t.1) ∙ t.2

-- the revisions of a block that is there
pub with_revisions : (o : Option (List Revision)) (s : Summary) (b : Block) → option_map (λ (rs : List Revision). record s.block { revisions = rs }) o ≡ Some b
    → (rs : List Revision) × (o ≡ Some rs) × (Some (record s.block { revisions = rs }) ≡ Some b)
with_revisions None s b e = cc
with_revisions (Some rs) s b e = (rs, refl, e)

pub block_keeps : (found more : ℕ → Option Details) → ((id : ℕ) (d : Details) → found id ≡ Some d → more id ≡ Some d)
    → (s : Summary) (b : Block) → block_by found s ≡ Some b → block_by more s ≡ Some b
block_keeps found more keeps s b e =
    let w = with_revisions (each (λ (l : RevisionSummary). revision_by (found l.document.raw) l) s.listed) s b e in
    let all = each_more (λ (l : RevisionSummary). revision_by (found l.document.raw) l) (λ (l : RevisionSummary). revision_by (more l.document.raw) l)
    (revision_keeps found more keeps) s.listed w.0 w.1 in
    ap (λ (o : Option (List Revision)). option_map (λ (rs : List Revision). record s.block { revisions = rs }) o) all ∙ w.2

-- a block that is there stays as it is
pub block_among-push : (told : List Record) (r : Record) (n : ℕ) (b : Block) → block_among told n ≡ Some b → block_among (told ++ r ∷ []) n ≡ Some b
block_among-push told r n b e =
    let t = took (summary_among told n) (block_by (details_among told n)) b e in
    let summary : summary_among (told ++ r ∷ []) n ≡ Some t.0 = summary_among-push told r n ∙ or_keeps (summary_among told n) (summary_at r n) t.0 t.1 in
    let found = block_keeps (details_among told n) (details_among (told ++ r ∷ []) n)
    (λ id d is. details_among-push told r n id ∙ or_keeps (details_among told n id) (details_at r n id) d is) t.0 b t.2 in
    ap (λ o. and_then o (block_by (details_among (told ++ r ∷ []) n))) summary ∙ found
