-- The redactions that are taken in, one behind the other.
use Rattle.std.proofs.Common.{◌≡◌, ◌∙◌, ℕ, suc, ◌<◌, ◌≤◌, ◌==◌, length, drop, get_or, Bool, true, false, ◌&&◌, ◌||◌, not, cond, List, [], ◌∷◌, ◌++◌, append_assoc, append-nil, refl, sym, ap, subst, ⊎_elim}
use Rattle.std.specs.List.{list_any}
use Rattle.std.specs.Ordering.{is_eq, nat_cmp, ordering_then}
use Rattle.std.specs.declared.cmp.Ordering.{Ordering}
use Rattle.std.specs.BTreeMap.{is_at}
use Rattle.std.specs.BTreeSet.{contains}
use Rattle.std.specs.Cmp.{nat_eq_equiv}
use Rattle.std.proofs.lemmas.Bool.{cases_Bool}
use Rattle.std.proofs.lemmas.List.Folds.{list_any-append}
use Rattle.ql_types.specs.declared.BlockAddress.{BlockAddress}
use Rattle.ql_types.specs.declared.DocId.{DocId}
use Rattle.ql_types.specs.declared.TableId.{TableId}
use Rattle.ledger_model.specs.declared.block.Block.{Block}
use Rattle.ledger_model.specs.declared.block.Schema.{Schema}
use Rattle.ledger_model.specs.declared.block.Schema.TheVariants.{Create, Index, Drop, Redact}
use Rattle.ledger_model.specs.State.{Recorded, names_revision, redacts, state}
use Rattle.ledger_model.specs.Follows.{can_be_redacted, is_latest_at, redaction_follows, redactions_follow}
use Rattle.journal_text.specs.declared.registry.redactions.Redactions.{Redactions}
use Rattle.journal_text.specs.Stands.{AreTaken, IsTaken, RedactionsStand, are_placed, has_named, has_redaction}
use Rattle.journal_text.proofs.Fields.{is_eq-both, is_eq-nat_cmp}
use Rattle.journal_text.proofs.Named.{IsNamed, is_named, named_among, none_found, one_found}
use Rattle.journal_text.proofs.Passes.{drop_end, opened}

wrong : false ≡ true → ⊥
wrong h = cc

-- ---- the numbers of a revision: its block's strand and place, its table and its document

abbrev pub key_cmp : ℕ × ℕ × ℕ × ℕ → ℕ × ℕ × ℕ × ℕ → Ordering
key_cmp x y = ordering_then (ordering_then (ordering_then (nat_cmp x.0 y.0) (nat_cmp x.1 y.1)) (nat_cmp x.2 y.2)) (nat_cmp x.3 y.3)

turned : (x y : ℕ) → is_eq (nat_cmp x y) ≡ (y == x)
turned x y = is_eq-nat_cmp x y ∙ nat_eq_equiv.symm x y

all_equal : (o p q r : Ordering) (w x y z : Bool) → is_eq o ≡ w → is_eq p ≡ x → is_eq q ≡ y → is_eq r ≡ z
    → is_eq (ordering_then (ordering_then (ordering_then o p) q) r) ≡ (((w && x) && y) && z)
all_equal o p q r w x y z e f g h =
    is_eq-both (ordering_then (ordering_then o p) q) r
    ∙ ap (λ b. b && is_eq r) (is_eq-both (ordering_then o p) q ∙ ap (λ b. b && is_eq q) (is_eq-both o p ∙ ap (λ b. b && is_eq p) e ∙ ap (λ b. w && b) f)
    ∙ ap (λ b. (w && x) && b) g)
    ∙ ap (λ b. ((w && x) && y) && b) h

key_is : (a b : BlockAddress) (t u : TableId) (d e : DocId)
    → is_at (key_cmp (a.strand.raw, a.sequence, t.raw, d.raw)) (b.strand.raw, b.sequence, u.raw, e.raw) ≡ names_revision b u e (Redact a t d)
key_is a b t u d e =
    all_equal (nat_cmp a.strand.raw b.strand.raw) (nat_cmp a.sequence b.sequence) (nat_cmp t.raw u.raw) (nat_cmp d.raw e.raw)
    (b.strand.raw == a.strand.raw) (b.sequence == a.sequence) (u.raw == t.raw) (e.raw == d.raw)
    (turned a.strand.raw b.strand.raw) (turned a.sequence b.sequence) (turned t.raw u.raw) (turned d.raw e.raw)

-- ---- one redaction

last_one : (n x y : Bool) → cond n true (x || y) ≡ (x || (y || (n || false)))
last_one true true y = refl
last_one true false true = refl
last_one true false false = refl
last_one false true y = refl
last_one false false true = refl
last_one false false false = refl

free : (l x y : Bool) → l ≡ false → ((not l && not x) && not y) ≡ not (x || y)
free true x y h = cc h
free false true y h = refl
free false false y h = refl

not_free : (l x y : Bool) → l ≡ true → ((not l && not x) && not y) ≡ false
not_free true x y h = refl
not_free false x y h = cc h

-- a block redacts the revision of a document of this table at this address
abbrev named_before : List Block → BlockAddress → TableId → DocId → Bool
named_before before a t d = list_any (λ b. list_any (names_revision a t d) b.info.schema) before

module _ (before : List Block) (revisions : List Recorded) (earlier : List Schema) where
  -- whether a revision of these numbers can be redacted
  abbrev can_at : ℕ → ℕ → ℕ → ℕ → Bool
  can_at strand sequence table document =
      let a : BlockAddress = record { strand = record { raw = strand }; sequence = sequence } in
      let t : TableId = record { raw = table } in
      let d : DocId = record { raw = document } in
      not (is_latest_at revisions a d) && not (named_before before a t d) && not (list_any (names_revision a t d) earlier)

  can_be : (a : BlockAddress) (t : TableId) (d : DocId) (r : Recorded) → IsNamed a t d r
      → can_be_redacted before revisions earlier r ≡ can_at a.strand.raw a.sequence t.raw d.raw
  can_be a t d r h =
      ap (λ n. can_at n r.revision.address.sequence r.table.raw r.revision.metadata.id.raw) h.strand
      ∙ ap (λ n. can_at a.strand.raw n r.table.raw r.revision.metadata.id.raw) h.sequence
      ∙ ap (λ n. can_at a.strand.raw a.sequence n r.revision.metadata.id.raw) h.table
      ∙ ap (λ n. can_at a.strand.raw a.sequence t.raw n) h.document

  module _ (a : BlockAddress) (t : TableId) (d : DocId) where
    abbrev named : Recorded → Bool
    named r = redacts r (Redact a t d)

    -- where the block at its place doesn't have it
    none_named : list_any named revisions ≡ false → redaction_follows before revisions earlier (Redact a t d) ≡ false
    none_named h = none_found named (can_be_redacted before revisions earlier) revisions h

    one_named : list_any named revisions ≡ true → redaction_follows before revisions earlier (Redact a t d) ≡ can_at a.strand.raw a.sequence t.raw d.raw
    one_named h =
        one_found named (can_be_redacted before revisions earlier) (can_at a.strand.raw a.sequence t.raw d.raw) revisions h (λ r y. can_be a t d r (is_named a t d r y))

    still_latest : is_latest_at revisions a d ≡ true → redaction_follows before revisions earlier (Redact a t d) ≡ false
    still_latest h =
        ⊎_elim (λ (y : list_any named revisions ≡ true). one_named y ∙ not_free (is_latest_at revisions a d) (named_before before a t d) (list_any (names_revision a t d) earlier) h)
        (λ (n : list_any named revisions ≡ false). none_named n) (cases_Bool (list_any named revisions))

refused : (before : List Block) (earlier : List Schema) (c : Schema) (r : Redactions) → redaction_follows before (state before).revisions earlier c ≡ false → IsTaken before earlier c false r
refused before earlier c r h = record { tells = sym h; stands = λ never. absurd (wrong never) }

module _ (before : List Block) (earlier : List Schema) (a : BlockAddress) (t : TableId) (d : DocId) where
  pub refused_latest : (latest : Bool) (r : Redactions) → latest ≡ is_latest_at (state before).revisions a d → latest ≡ true → IsTaken before earlier (Redact a t d) false r
  refused_latest latest r is so = refused before earlier (Redact a t d) r (still_latest before (state before).revisions earlier a t d (sym is ∙ so))

  pub refused_unnamed : (there : Bool) (r : Redactions) → are_placed 0 before ≡ true → there ≡ has_named before (Redact a t d) → there ≡ false
      → IsTaken before earlier (Redact a t d) false r
  refused_unnamed there r placed is gone =
      refused before earlier (Redact a t d) r (none_named before (state before).revisions earlier a t d (named_among a t d before placed ∙ sym is ∙ gone))

  pub taken_by : (latest there is_new : Bool) (r n : Redactions) → RedactionsStand before earlier r → are_placed 0 before ≡ true
      → latest ≡ is_latest_at (state before).revisions a d → latest ≡ false → there ≡ has_named before (Redact a t d) → there ≡ true
      → is_new ≡ not (contains key_cmp r.revisions (a.strand.raw, a.sequence, t.raw, d.raw))
      → ((q : ℕ × ℕ × ℕ × ℕ) → contains key_cmp n.revisions q ≡ cond (is_at (key_cmp (a.strand.raw, a.sequence, t.raw, d.raw)) q) true (contains key_cmp r.revisions q))
      → IsTaken before earlier (Redact a t d) is_new n
  taken_by latest there is_new r n h placed last_is newer there_is so added updates =
      let was : List Schema → Bool = list_any (names_revision a t d) in
      record {
        tells = added ∙ ap not (h a t d)
            ∙ sym (one_named before (state before).revisions earlier a t d (named_among a t d before placed ∙ sym there_is ∙ so)
            ∙ free (is_latest_at (state before).revisions a d) (named_before before a t d) (was earlier) (sym last_is ∙ newer));
        stands = λ _ b u e.
            updates (b.strand.raw, b.sequence, u.raw, e.raw)
            ∙ ap (λ x. cond x true (has_redaction r b u e)) (key_is a b t u d e)
            ∙ ap (λ x. cond (names_revision b u e (Redact a t d)) true x) (h b u e)
            ∙ last_one (names_revision b u e (Redact a t d)) (named_before before b u e) (list_any (names_revision b u e) earlier)
            ∙ ap (λ x. named_before before b u e || x) (sym (list_any-append (names_revision b u e) earlier (Redact a t d ∷ [])));
      }

no_more : (x : Bool) → x ≡ (x || (false || false))
no_more true = refl
no_more false = refl

-- a change that is no redaction
abbrev IsOther : Schema → Type 0
IsOther c = (b : BlockAddress) (u : TableId) (e : DocId) → names_revision b u e c ≡ false

other_taken : (before : List Block) (earlier : List Schema) (c : Schema) (r : Redactions) → redaction_follows before (state before).revisions earlier c ≡ true → IsOther c
    → RedactionsStand before earlier r → IsTaken before earlier c true r
other_taken before earlier c r follows other h = record {
  tells = sym follows;
  stands = λ _ b u e.
      h b u e ∙ ap (λ x. named_before before b u e || x) (no_more (list_any (names_revision b u e) earlier)
      ∙ ap (λ x. list_any (names_revision b u e) earlier || (x || false)) (sym (other b u e)) ∙ sym (list_any-append (names_revision b u e) earlier (c ∷ [])));
}

pub created : (before : List Block) (earlier : List Schema) (name : List ℕ) (id : TableId) (r : Redactions) → RedactionsStand before earlier r → IsTaken before earlier (Create name id) true r
created before earlier name id r h = other_taken before earlier (Create name id) r refl (λ b u e. refl) h

pub indexed : (before : List Block) (earlier : List Schema) (field : List ℕ) (id : TableId) (r : Redactions) → RedactionsStand before earlier r → IsTaken before earlier (Index field id) true r
indexed before earlier field id r h = other_taken before earlier (Index field id) r refl (λ b u e. refl) h

pub dropped : (before : List Block) (earlier : List Schema) (name : List ℕ) (id : TableId) (r : Redactions) → RedactionsStand before earlier r → IsTaken before earlier (Drop name id) true r
dropped before earlier name id r h = other_taken before earlier (Drop name id) r refl (λ b u e. refl) h

-- ---- changes in order

-- the changes that are left, behind those that are taken in
pub record Halfway (before : List Block) (schema left : List Schema) (r : Redactions) : Type 0 where
  pub earlier : List Schema
  pub whole : earlier ++ left ≡ schema
  pub stands : RedactionsStand before earlier r
  pub follows : redactions_follow before (state before).revisions earlier left ≡ redactions_follow before (state before).revisions [] schema

pub at_start : (before : List Block) (schema : List Schema) (r : Redactions) → RedactionsStand before [] r → Halfway before schema schema r
at_start before schema r h = record { earlier = []; whole = refl; stands = h; follows = refl }

-- what a call that takes a change in says of it
abbrev pub Takes : List Block → Redactions → Schema → Bool → Redactions → Type 0
Takes before r c answer n = (earlier : List Schema) → RedactionsStand before earlier r → IsTaken before earlier c answer n

one_more : (before : List Block) (schema : List Schema) (c : Schema) (left : List Schema) (r n : Redactions) (answer : Bool)
    → Halfway before schema (c ∷ left) r → Takes before r c answer n → answer ≡ true → Halfway before schema left n
one_more before schema c left r n answer h takes holds =
    let step = takes h.earlier h.stands in
    record {
      earlier = h.earlier ++ c ∷ [];
      whole = append_assoc h.earlier (c ∷ []) left ∙ h.whole;
      stands = step.stands holds;
      follows = ap (λ b. b && redactions_follow before (state before).revisions (h.earlier ++ c ∷ []) left) (sym holds ∙ step.tells) ∙ h.follows;
    }

refused_there : (before : List Block) (schema : List Schema) (c : Schema) (left : List Schema) (r n : Redactions) (answer : Bool)
    → Halfway before schema (c ∷ left) r → Takes before r c answer n → answer ≡ false → AreTaken before schema false n
refused_there before schema c left r n answer h takes fails =
    let step = takes h.earlier h.stands in
    record {
      tells = ap (λ b. b && redactions_follow before (state before).revisions (h.earlier ++ c ∷ []) left) (sym fails ∙ step.tells) ∙ h.follows;
      stands = λ never. absurd (wrong never);
    }

at_end : (before : List Block) (schema : List Schema) (r : Redactions) → Halfway before schema [] r → AreTaken before schema true r
at_end before schema r h = record {
  tells = h.follows;
  stands = λ _. subst (λ (cs : List Schema). RedactionsStand before cs r) (sym (append-nil h.earlier) ∙ h.whole) h.stands;
}

-- ---- place by place

pub one_more_at : (before : List Block) (schema : List Schema) (i j : ℕ) (c : Schema) (r n : Redactions) (answer : Bool)
    → j ≡ suc i → i < length schema → c ≡ get_or schema i c → Halfway before schema (drop i schema) r → Takes before r c answer n → answer ≡ true
    → Halfway before schema (drop j schema) n
one_more_at before schema i j c r n answer next within is h takes holds =
    one_more before schema c (drop j schema) r n answer (subst (λ (left : List Schema). Halfway before schema left r) (opened schema i j c c next within is) h) takes holds

pub refused_at : (before : List Block) (schema : List Schema) (i : ℕ) (c : Schema) (r n : Redactions) (answer : Bool)
    → i < length schema → c ≡ get_or schema i c → Halfway before schema (drop i schema) r → Takes before r c answer n → answer ≡ false → AreTaken before schema false n
refused_at before schema i c r n answer within is h takes fails =
    refused_there before schema c (drop (suc i) schema) r n answer (subst (λ (left : List Schema). Halfway before schema left r) (opened schema i (suc i) c c refl within is) h) takes fails

pub ended_at : (before : List Block) (schema : List Schema) (i : ℕ) (r : Redactions) → length schema ≤ i → Halfway before schema (drop i schema) r → AreTaken before schema true r
ended_at before schema i r passed h =
    at_end before schema r (subst (λ (left : List Schema). Halfway before schema left r) (drop_end schema i passed) h)
