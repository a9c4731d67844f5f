-- What redactions leave as it is: all but the contents of earlier revisions.
use Rattle.std.proofs.Common.{◌≡◌, ◌∙◌, ◌⊎◌, ℕ, ◌==◌, ◌&&◌, ◌||◌, Bool, true, false, cond, List, [], ◌∷◌, ◌++◌, map, Option, Some, None, is_some, if◌then◌else◌, refl, sym, ap, subst, inl, inr}
use Rattle.std.specs.List.{AllByRecursion, find, list_any}
use Rattle.std.proofs.lemmas.Bool.{and_parts, both_ways, eq-eqb, eqb-true, ne_eqb, or_parts}
use Rattle.ledger_model.specs.declared.block.Content.{Content}
use Rattle.ledger_model.specs.declared.block.Content.TheVariants.{Deleted, Kept, Redacted}
use Rattle.ledger_model.specs.declared.block.Draft.{Draft}
use Rattle.ledger_model.specs.declared.block.Schema.{Schema}
use Rattle.ledger_model.specs.declared.block.Schema.TheVariants.{Create, Index, Drop, Redact}
use Rattle.ledger_model.specs.Follows.{is_kept, latest_of}
use Rattle.ledger_model.specs.Script.{or_else}
use Rattle.ledger_model.specs.State.{Recorded, draft_of, hashed, is_redact, is_redacted_by, is_revised, names_revision, redacts, revision_after, revisions_after, same_address}
use Rattle.ledger_model.specs.Views.{latest, latest_from, put}

-- the revision with its data's hash in place of the data, or as it is
abbrev pub hidden_if : Bool → Recorded → Recorded
hidden_if c r = record r {
  revision = record r.revision { content = if c then hashed r.revision.content else r.revision.content };
}

-- whether changes redact a revision in front of later ones
abbrev pub is_hidden : List Schema → List Recorded → Recorded → Bool
is_hidden changes later r = is_redacted_by changes r && is_revised later r

wrong : false ≡ true → ⊥
wrong e = cc e

-- ---- revision by revision

module _ (changes : List Schema) where
  -- what no redaction changes of a revision
  pub mapped_after : {A : Type 0} → (f : Recorded → A) → ((c : Bool) (r : Recorded) → f (hidden_if c r) ≡ f r) → (rs : List Recorded)
      → map f (revisions_after changes rs) ≡ map f rs
  mapped_after f same [] = refl
  mapped_after f same (r ∷ rs) =
      ap (λ x. x ∷ map f (revisions_after changes rs)) (same (is_hidden changes rs r) r) ∙ ap (λ xs. f r ∷ xs) (mapped_after f same rs)

  pub any_after : (p : Recorded → Bool) → ((c : Bool) (r : Recorded) → p (hidden_if c r) ≡ p r) → (rs : List Recorded)
      → list_any p (revisions_after changes rs) ≡ list_any p rs
  any_after p same [] = refl
  any_after p same (r ∷ rs) =
      ap (λ b. b || list_any p (revisions_after changes rs)) (same (is_hidden changes rs r) r) ∙ ap (λ b. p r || b) (any_after p same rs)

  pub each_after : (P : Recorded → Type 0) → ((c : Bool) (r : Recorded) → P r → P (hidden_if c r)) → (rs : List Recorded)
      → AllByRecursion P rs → AllByRecursion P (revisions_after changes rs)
  each_after P keeps [] h = tt
  each_after P keeps (r ∷ rs) h = (keeps (is_hidden changes rs r) r h.0, each_after P keeps rs h.1)

  -- revisions that nothing redacts stand
  pub unnamed_stand : (rs : List Recorded) → AllByRecursion (λ r. is_redacted_by changes r ≡ false) rs → revisions_after changes rs ≡ rs
  unnamed_stand [] h = refl
  unnamed_stand (r ∷ rs) h =
      ap (λ b. hidden_if (b && is_revised rs r) r ∷ revisions_after changes rs) h.0 ∙ ap (λ xs. r ∷ xs) (unnamed_stand rs h.1)

unnamed_by : (a : Schema) (r : Recorded) → is_redact a ≡ false → names_revision r.revision.address r.table r.revision.metadata.id a ≡ false
unnamed_by (Create name id) r h = refl
unnamed_by (Index field id) r h = refl
unnamed_by (Drop name id) r h = refl
unnamed_by (Redact address table document) r h = cc h

none_named : (changes : List Schema) → list_any is_redact changes ≡ false → (r : Recorded) → is_redacted_by changes r ≡ false
none_named [] h r = refl
none_named (c ∷ cs) h r =
    let parts = or_parts (is_redact c) (list_any is_redact cs) h in
    ap (λ b. b || is_redacted_by cs r) (unnamed_by c r parts.0) ∙ none_named cs parts.1 r

each_unnamed : (changes : List Schema) → list_any is_redact changes ≡ false → (rs : List Recorded)
    → AllByRecursion (λ r. is_redacted_by changes r ≡ false) rs
each_unnamed changes h [] = tt
each_unnamed changes h (r ∷ rs) = (none_named changes h r, each_unnamed changes h rs)

-- without a redaction all stand
pub none_redacts : (changes : List Schema) → list_any is_redact changes ≡ false → (rs : List Recorded) → revisions_after changes rs ≡ rs
none_redacts changes h rs = unnamed_stand changes rs (each_unnamed changes h rs)

-- whether a revision keeps its document
pub kept_hidden : (c : Bool) (content : Content) → is_kept (if c then hashed content else content) ≡ is_kept content
kept_hidden false content = refl
kept_hidden true Deleted = refl
kept_hidden true (Kept v) = refl
kept_hidden true (Redacted hash) = refl

-- ---- the latest revision of each document

some_latest : (o : Option Recorded) (b : Bool) (x : Recorded) (rest : Bool) → (rest ≡ true → is_some o ≡ true) → (b || rest) ≡ true
    → is_some (or_else o (if b then Some x else None)) ≡ true
some_latest None true x rest ih h = refl
some_latest None false x rest ih h = ih h
some_latest (Some y) b x rest ih h = refl

-- a document with a revision has a latest one
pub there_latest : (rs : List Recorded) (id : ℕ) → list_any (λ x. x.revision.metadata.id.raw == id) rs ≡ true → is_some (latest_of rs id) ≡ true
there_latest [] id h = absurd (wrong h)
there_latest (x ∷ xs) id h =
    some_latest (latest_of xs id) (x.revision.metadata.id.raw == id) x (list_any (λ y. y.revision.metadata.id.raw == id) xs)
    (there_latest xs id) h

kept_step : (r : Recorded) (c b : Bool) (o : Option Recorded) → (c ≡ true → b ≡ true → is_some o ≡ true)
    → or_else o (if b then Some (hidden_if c r) else None) ≡ or_else o (if b then Some r else None)
kept_step r c b (Some x) h = refl
kept_step r c false None h = refl
kept_step r false true None h = refl
kept_step r true true None h = absurd (wrong (h refl refl))

-- is the one before
pub latest_kept : (changes : List Schema) (rs : List Recorded) (id : ℕ) → latest_of (revisions_after changes rs) id ≡ latest_of rs id
latest_kept changes [] id = refl
latest_kept changes (r ∷ rs) id =
    let later : is_hidden changes rs r ≡ true → (r.revision.metadata.id.raw == id) ≡ true → is_some (latest_of rs id) ≡ true =
    λ hidden here.
    let revised = (and_parts (is_redacted_by changes r) (is_revised rs r) hidden).1 in
    there_latest rs id (subst (λ (n : ℕ). list_any (λ (x : Recorded). x.revision.metadata.id.raw == n) rs ≡ true)
    (eqb-true r.revision.metadata.id.raw id here) revised) in
    ap (λ o. or_else o (if r.revision.metadata.id.raw == id then Some (hidden_if (is_hidden changes rs r) r) else None)) (latest_kept changes rs id)
    ∙ kept_step r (is_hidden changes rs r) (r.revision.metadata.id.raw == id) (latest_of rs id) later

-- ---- all of them in order of first insertion

-- two lists of documents that differ in one place alone: there stands one of two revisions of a document that stands nowhere before
abbrev Spot : Draft → Draft → List Draft → List Draft → Type 0
Spot x y (a ∷ ps) (b ∷ qs) =
    ((a ≡ x) × (b ≡ y) × (ps ≡ qs)) ⊎ ((a ≡ b) × ((a.id.raw == y.id.raw) ≡ false) × Spot x y ps qs)
Spot x y _ _ = ⊥

module _ (x y : Draft) (same : x.id.raw ≡ y.id.raw) where
  spot_put_by : (d : Draft) (ds : List Draft) (b : Bool) → (d.id.raw == y.id.raw) ≡ b → Spot x y (put ds x) (put ds y)
      → Spot x y (if b then x ∷ ds else d ∷ put ds x) (if b then y ∷ ds else d ∷ put ds y)
  spot_put_by d ds true e ih = inl (refl, refl, refl)
  spot_put_by d ds false e ih = inr (refl, e, ih)

  spot_put : (docs : List Draft) → Spot x y (put docs x) (put docs y)
  spot_put [] = inl (refl, refl, refl)
  spot_put (d ∷ ds) =
      subst (λ (n : ℕ). Spot x y (if d.id.raw == n then x ∷ ds else d ∷ put ds x) (if d.id.raw == y.id.raw then y ∷ ds else d ∷ put ds y)) (sym same)
      (spot_put_by d ds (d.id.raw == y.id.raw) refl (spot_put ds))

  -- a later revision of the document ends the difference
  spot_ends : (e : Draft) → e.id.raw ≡ y.id.raw → (ps qs : List Draft) → Spot x y ps qs → put ps e ≡ put qs e
  spot_ends e own [] [] h = absurd h
  spot_ends e own [] (b ∷ qs) h = absurd h
  spot_ends e own (a ∷ ps) [] h = absurd h
  spot_ends e own (a ∷ ps) (b ∷ qs) (inl h) =
      let first : (a.id.raw == e.id.raw) ≡ true = eq-eqb a.id.raw e.id.raw (ap (λ (d : Draft). d.id.raw) h.0 ∙ same ∙ sym own) in
      let second : (b.id.raw == e.id.raw) ≡ true = eq-eqb b.id.raw e.id.raw (ap (λ (d : Draft). d.id.raw) h.1 ∙ sym own) in
      ap (λ (t : Bool). if t then e ∷ ps else a ∷ put ps e) first ∙ ap (λ xs. e ∷ xs) h.2
      ∙ sym (ap (λ (t : Bool). if t then e ∷ qs else b ∷ put qs e) second)
  spot_ends e own (a ∷ ps) (b ∷ qs) (inr h) =
      let first : (a.id.raw == e.id.raw) ≡ false = ap (λ n. a.id.raw == n) own ∙ h.1 in
      let second : (b.id.raw == e.id.raw) ≡ false = ap (λ (d : Draft). d.id.raw == e.id.raw) (sym h.0) ∙ first in
      ap (λ (t : Bool). if t then e ∷ ps else a ∷ put ps e) first ∙ ap (λ (d : Draft). d ∷ put ps e) h.0
      ∙ ap (λ xs. b ∷ xs) (spot_ends e own ps qs h.2)
      ∙ sym (ap (λ (t : Bool). if t then e ∷ qs else b ∷ put qs e) second)

  kept_by : (e a : Draft) (ps qs : List Draft) (t : Bool) → (a.id.raw == e.id.raw) ≡ t → (e.id.raw == y.id.raw) ≡ false
      → (a.id.raw == y.id.raw) ≡ false → Spot x y ps qs → Spot x y (put ps e) (put qs e)
      → Spot x y (if t then e ∷ ps else a ∷ put ps e) (if t then e ∷ qs else a ∷ put qs e)
  kept_by e a ps qs true is other apart rest ih = inr (refl, other, rest)
  kept_by e a ps qs false is other apart rest ih = inr (refl, apart, ih)

  -- one of another document keeps it
  spot_keeps : (e : Draft) → (e.id.raw == y.id.raw) ≡ false → (ps qs : List Draft) → Spot x y ps qs → Spot x y (put ps e) (put qs e)
  spot_keeps e other [] [] h = absurd h
  spot_keeps e other [] (b ∷ qs) h = absurd h
  spot_keeps e other (a ∷ ps) [] h = absurd h
  spot_keeps e other (a ∷ ps) (b ∷ qs) (inl h) =
      let turned : (y.id.raw == e.id.raw) ≡ false = ne_eqb y.id.raw e.id.raw (λ s. both_ways (e.id.raw == y.id.raw) other (eq-eqb e.id.raw y.id.raw (sym s))) in
      let first : (a.id.raw == e.id.raw) ≡ false = ap (λ (n : ℕ). n == e.id.raw) (ap (λ (d : Draft). d.id.raw) h.0 ∙ same) ∙ turned in
      let second : (b.id.raw == e.id.raw) ≡ false = ap (λ (d : Draft). d.id.raw == e.id.raw) h.1 ∙ turned in
      subst (λ (t : Bool). Spot x y (if t then e ∷ ps else a ∷ put ps e) (if b.id.raw == e.id.raw then e ∷ qs else b ∷ put qs e)) (sym first)
      (subst (λ (t : Bool). Spot x y (a ∷ put ps e) (if t then e ∷ qs else b ∷ put qs e)) (sym second)
      (inl (h.0, h.1, ap (λ xs. put xs e) h.2)))
  spot_keeps e other (a ∷ ps) (b ∷ qs) (inr h) =
      subst (λ (d : Draft). Spot x y (if a.id.raw == e.id.raw then e ∷ ps else a ∷ put ps e) (if d.id.raw == e.id.raw then e ∷ qs else d ∷ put qs e)) h.0
      (kept_by e a ps qs (a.id.raw == e.id.raw) refl other h.1 h.2 (spot_keeps e other ps qs h.2))

  overwritten_by : (e : Draft) (es ps qs : List Draft) (t : Bool) → (e.id.raw == y.id.raw) ≡ t → Spot x y ps qs
      → ((ps qs : List Draft) → list_any (λ z. z.id.raw == y.id.raw) es ≡ true → Spot x y ps qs → latest_from ps es ≡ latest_from qs es)
      → (t || list_any (λ z. z.id.raw == y.id.raw) es) ≡ true → latest_from (put ps e) es ≡ latest_from (put qs e) es
  overwritten_by e es ps qs true is h ih some = ap (λ ds. latest_from ds es) (spot_ends e (eqb-true e.id.raw y.id.raw is) ps qs h)
  overwritten_by e es ps qs false is h ih some = ih (put ps e) (put qs e) some (spot_keeps e is ps qs h)

  -- where a later revision of the document comes, the difference is gone
  overwritten : (es ps qs : List Draft) → list_any (λ z. z.id.raw == y.id.raw) es ≡ true → Spot x y ps qs
      → latest_from ps es ≡ latest_from qs es
  overwritten [] ps qs some h = absurd (wrong some)
  overwritten (e ∷ es) ps qs some h =
      overwritten_by e es ps qs (e.id.raw == y.id.raw) refl h (λ cs ds some h. overwritten es cs ds some h) some

drafts_any : (id : ℕ) (rs : List Recorded)
    → list_any (λ (z : Draft). z.id.raw == id) (map draft_of rs) ≡ list_any (λ (x : Recorded). x.revision.metadata.id.raw == id) rs
drafts_any id [] = refl
drafts_any id (r ∷ rs) = ap (λ b. (r.revision.metadata.id.raw == id) || b) (drafts_any id rs)

latest_step : (r : Recorded) (rs : List Recorded) (docs : List Draft) (c : Bool) → (c ≡ true → is_revised rs r ≡ true)
    → latest_from (put docs (draft_of (hidden_if c r))) (map draft_of rs) ≡ latest_from (put docs (draft_of r)) (map draft_of rs)
latest_step r rs docs false h = refl
latest_step r rs docs true h =
    let x : Draft = draft_of (hidden_if true r) in
    let y : Draft = draft_of r in
    overwritten x y refl (map draft_of rs) (put docs x) (put docs y) (drafts_any y.id.raw rs ∙ h refl) (spot_put x y refl docs)

latest_from_stands : (changes : List Schema) (rs : List Recorded) (docs : List Draft)
    → latest_from docs (map draft_of (revisions_after changes rs)) ≡ latest_from docs (map draft_of rs)
latest_from_stands changes [] docs = refl
latest_from_stands changes (r ∷ rs) docs =
    latest_from_stands changes rs (put docs (draft_of (hidden_if (is_hidden changes rs r) r)))
    ∙ latest_step r rs docs (is_hidden changes rs r) (λ h. (and_parts (is_redacted_by changes r) (is_revised rs r) h).1)

-- the latest revisions stand
pub latest_stands : (changes : List Schema) (rs : List Recorded) → latest (map draft_of (revisions_after changes rs)) ≡ latest (map draft_of rs)
latest_stands changes rs = latest_from_stands changes rs []

-- ---- what is found

found_by : (p : Recorded → Bool) (r x : Recorded) (b : Bool) (o : Option Recorded) → p x ≡ b → cond b (Some x) o ≡ Some r
    → (o ≡ Some r → p r ≡ true) → p r ≡ true
found_by p r x true o e h ih = let same : x ≡ r = cc h in sym (ap p same) ∙ e
found_by p r x false o e h ih = ih h

pub found_holds : (p : Recorded → Bool) (rs : List Recorded) (r : Recorded) → find p rs ≡ Some r → p r ≡ true
found_holds p [] r h = cc h
found_holds p (x ∷ xs) r h = found_by p r x (p x) (find p xs) refl h (found_holds p xs r)

found_at : (P : Recorded → Type 0) (r x : Recorded) (b : Bool) (o : Option Recorded) → P x → cond b (Some x) o ≡ Some r
    → (o ≡ Some r → P r) → P r
found_at P r x true o px h ih = let same : x ≡ r = cc h in subst P same px
found_at P r x false o px h ih = ih h

pub found_in : (P : Recorded → Type 0) (p : Recorded → Bool) (rs : List Recorded) (r : Recorded) → AllByRecursion P rs
    → find p rs ≡ Some r → P r
found_in P p [] r all h = cc h
found_in P p (x ∷ xs) r all h = found_at P r x (p x) (find p xs) all.0 h (found_in P p xs r all.1)

-- ---- revisions that one change names

-- are of one block and one document
pub record OfOnePlace (r x : Recorded) : Type 0 where
  pub strand : r.revision.address.strand.raw ≡ x.revision.address.strand.raw
  pub sequence : r.revision.address.sequence ≡ x.revision.address.sequence
  pub document : r.revision.metadata.id.raw ≡ x.revision.metadata.id.raw

pub of_one_place : (r x : Recorded) (c : Schema) → redacts r c ≡ true → redacts x c ≡ true → OfOnePlace r x
of_one_place r x (Create name id) h k = absurd (wrong h)
of_one_place r x (Index field id) h k = absurd (wrong h)
of_one_place r x (Drop name id) h k = absurd (wrong h)
of_one_place r x (Redact a t d) h k =
    let p = and_parts (same_address r.revision.address a && (r.table.raw == t.raw)) (r.revision.metadata.id.raw == d.raw) h in
    let q = and_parts (same_address x.revision.address a && (x.table.raw == t.raw)) (x.revision.metadata.id.raw == d.raw) k in
    let pa = (and_parts (same_address r.revision.address a) (r.table.raw == t.raw) p.0).0 in
    let qa = (and_parts (same_address x.revision.address a) (x.table.raw == t.raw) q.0).0 in
    let pb = and_parts (r.revision.address.strand.raw == a.strand.raw) (r.revision.address.sequence == a.sequence) pa in
    let qb = and_parts (x.revision.address.strand.raw == a.strand.raw) (x.revision.address.sequence == a.sequence) qa in
    record {
      strand = eqb-true _ _ pb.0 ∙ sym (eqb-true _ _ qb.0);
      sequence = eqb-true _ _ pb.1 ∙ sym (eqb-true _ _ qb.1);
      document = eqb-true _ _ p.1 ∙ sym (eqb-true _ _ q.1);
    }

-- a document without a revision has no latest one
none_by : (id : ℕ) (r : Recorded) (o : Option Recorded) (b : Bool) → o ≡ None → b ≡ false
    → or_else o (if b then Some r else None) ≡ None
none_by id r o b none not = ap (λ x. or_else x (if b then Some r else None)) none ∙ ap (λ c. if c then Some r else None) not

pub none_latest_of : (id : ℕ) (rs : List Recorded) → list_any (λ x. x.revision.metadata.id.raw == id) rs ≡ false
    → latest_of rs id ≡ None
none_latest_of id [] h = refl
none_latest_of id (r ∷ rs) h =
    let parts = or_parts (r.revision.metadata.id.raw == id) (list_any (λ (x : Recorded). x.revision.metadata.id.raw == id) rs) h in
    none_by id r (latest_of rs id) (r.revision.metadata.id.raw == id) (none_latest_of id rs parts.1) parts.0
