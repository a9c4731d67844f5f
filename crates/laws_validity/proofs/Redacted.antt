-- What is redacted behind undamaged blocks: earlier revisions of theirs, of which no data are left in the state.
use Rattle.std.proofs.Common.{◌≡◌, ◌∙◌, ◌<◌, ◌+◌, ◌==◌, ◌&&◌, ◌||◌, ℕ, Bool, true, false, cond, not, List, [], ◌∷◌, ◌++◌, length, Option, Some, None, refl, sym, ap, subst, append-nil, append_assoc, length-append, inl, inr, if◌then◌else◌, arith}
use Rattle.std.specs.List.{AllByRecursion, find, list_all, list_any}
use Rattle.std.specs.Option.{option_map_or}
use Rattle.std.proofs.lemmas.Bool.{and_from, and_parts, both_ways, cases_Bool, eq-eqb, eqb-true, false_from_ne_true, false≢true, ne_eqb, not-true, or_from, or_parts}
use Rattle.std.proofs.lemmas.List.Folds.{list_any-append}
use Rattle.ledger_model.specs.declared.block.Block.{Block}
use Rattle.ledger_model.specs.declared.block.Content.{Content}
use Rattle.ledger_model.specs.declared.block.Content.TheVariants.{Deleted, Kept, Redacted}
use Rattle.ledger_model.specs.declared.block.Revision.{Revision}
use Rattle.ledger_model.specs.declared.block.Schema.{Schema}
use Rattle.ledger_model.specs.declared.block.Schema.TheVariants.{Create, Index, Drop, Redact}
use Rattle.ql_types.specs.declared.TableId.{TableId}
use Rattle.ledger_model.specs.Damages.{Undamaged, UndamagedBehind, strand_of}
use Rattle.ledger_model.specs.Follows.{all_differ, can_be_redacted, continues, created_ids, document_ids, has_table, is_kept, is_latest, is_of, is_redacted_in, latest_of, named_by, redaction_follows, redactions_follow, revision_follows}
use Rattle.ledger_model.specs.Script.{or_else}
use Rattle.ledger_model.specs.State.{Recorded, State, after, empty, hashed, is_redacted_by, is_revised, recorded_in, redacts, revisions_after, same_address, state}
use Rattle.ledger_model.proofs.Redactions.{OfOnePlace, any_after, each_after, found_holds, found_in, is_hidden, kept_hidden, none_latest_of, of_one_place}
use Rattle.laws_validity.proofs.Following.{parted}
use Rattle.laws_validity.proofs.Journals.{passes_all, state_push}
use Rattle.laws_validity.proofs.Lists.{all_append, all_like, passing}

-- ---- contents

abbrev pub has_data : Content → Bool
has_data Deleted = false
has_data (Kept v) = true
has_data (Redacted hash) = false

hashed_has_none : (content : Content) → has_data (hashed content) ≡ false
hashed_has_none Deleted = refl
hashed_has_none (Kept v) = refl
hashed_has_none (Redacted hash) = refl

still_none : (c : Bool) (content : Content) → has_data content ≡ false
    → has_data (if c then hashed content else content) ≡ false
still_none true content h = hashed_has_none content
still_none false content h = h

none_if : (c : Bool) (content : Content) → c ≡ true → has_data (if c then hashed content else content) ≡ false
none_if true content h = hashed_has_none content
none_if false content h = absurd (false≢true h)

-- ---- what a change that follows names

-- a change redacts the revision, and names one that isn't its document's latest
record Named (rs : List Recorded) (r : Recorded) : Type 0 where
  change : Schema
  here : redacts r change ≡ true
  other : Recorded
  found : named_by rs change ≡ Some other
  earlier : is_latest rs other ≡ false

module _ (blocks : List Block) (rs : List Recorded) where
  found_named : (before : List Schema) (c : Schema) (r : Recorded) (o : Option Recorded) → redacts r c ≡ true
      → named_by rs c ≡ o
      → option_map_or (can_be_redacted blocks rs before) o false ≡ true → Named rs r
  found_named before c r None e is h = absurd (false≢true h)
  found_named before c r (Some x) e is h =
      let two = and_parts (not (is_latest rs x) && not (is_redacted_in blocks x)) (not (is_redacted_by before x)) h in
      let one = and_parts (not (is_latest rs x)) (not (is_redacted_in blocks x)) two.0 in
      record { change = c; here = e; other = x; found = is; earlier = not-true (is_latest rs x) one.0 }

  named_at : (before : List Schema) (c : Schema) (r : Recorded) → redacts r c ≡ true
      → redaction_follows blocks rs before c ≡ true → Named rs r
  named_at before (Create name id) r e h = absurd (false≢true e)
  named_at before (Index field id) r e h = absurd (false≢true e)
  named_at before (Drop name id) r e h = absurd (false≢true e)
  named_at before (Redact a t d) r e h = found_named before (Redact a t d) r (named_by rs (Redact a t d)) e refl h

  either_named : (r : Recorded) (b rest : Bool) → (b ≡ true → Named rs r) → (rest ≡ true → Named rs r)
      → (b || rest) ≡ true
      → Named rs r
  either_named r true rest f g h = f refl
  either_named r false rest f g h = g h

  named_by_one : (before changes : List Schema) (r : Recorded) → redactions_follow blocks rs before changes ≡ true
      → is_redacted_by changes r ≡ true → Named rs r
  named_by_one before [] r f h = absurd (false≢true h)
  named_by_one before (c ∷ cs) r f h =
      let parts = and_parts (redaction_follows blocks rs before c)
      (redactions_follow blocks rs (before ++ c ∷ []) cs) f in
      either_named r (redacts r c) (is_redacted_by cs r) (λ e. named_at before c r e parts.0)
      (λ k. named_by_one (before ++ c ∷ []) cs r parts.1 k) h

  other_place : (r : Recorded) (n : Named rs r) → OfOnePlace r n.other
  other_place r n = of_one_place r n.other n.change n.here (found_holds (λ x. redacts x n.change) rs n.other n.found)

  -- the latest revisions of these are the latest of all
  abbrev Ends : List Recorded → Type 0
  Ends later = (id : ℕ) (x : Recorded) → latest_of later id ≡ Some x → latest_of rs id ≡ Some x

  next_ends : (r : Recorded) (later : List Recorded) → Ends (r ∷ later) → Ends later
  next_ends r later h id x e = h id x
      (ap (λ o. or_else o (if r.revision.metadata.id.raw == id then Some r else None)) e)

  latest_here : (r : Recorded) (later : List Recorded) → Ends (r ∷ later) → is_revised later r ≡ false
      → latest_of rs r.revision.metadata.id.raw ≡ Some r
  latest_here r later h none =
      h r.revision.metadata.id.raw r
      (ap (λ o. or_else o (if r.revision.metadata.id.raw == r.revision.metadata.id.raw then Some r else None))
      (none_latest_of r.revision.metadata.id.raw later none)
      ∙ ap (λ b. if b then Some r else None) (eq-eqb r.revision.metadata.id.raw r.revision.metadata.id.raw refl))

  -- a last revision is of a document whose named one is the latest
  last_named : (r : Recorded) (later : List Recorded) → Ends (r ∷ later) → (n : Named rs r) → is_revised later r ≡ false
      → is_latest rs n.other ≡ true
  last_named r later h n none =
      let place = other_place r n in
      let last : latest_of rs (n.other).revision.metadata.id.raw ≡ Some r =
      ap (latest_of rs) (sym place.document) ∙ latest_here r later h none in
      ap (λ o. option_map_or (λ x. same_address x.revision.address (n.other).revision.address) o false) last
      ∙ and_from (r.revision.address.strand.raw == (n.other).revision.address.strand.raw)
      (r.revision.address.sequence == (n.other).revision.address.sequence) (eq-eqb _ _ place.strand)
      (eq-eqb _ _ place.sequence)

  -- so a later revision of the document stands behind the one that is named
  revised : (r : Recorded) (later : List Recorded) → Ends (r ∷ later) → Named rs r → is_revised later r ≡ true
  revised r later h n =
      elim (cases_Bool (is_revised later r)) [
        | inl some ↦ some
        | inr none ↦ absurd (both_ways (is_latest rs n.other) n.earlier (last_named r later h n none))
      ]

-- ---- a delete is the last of its document

abbrev pub DeletesEnd : List Recorded → Type 0
DeletesEnd [] = Unit {0}
DeletesEnd (r ∷ later) = (is_kept r.revision.content ≡ false → is_revised later r ≡ false) × DeletesEnd later

-- so it is its document's latest
deleted_at : (rs later : List Recorded) (p : Recorded → Bool) (x r : Recorded) (b : Bool)
    → (is_kept x.revision.content ≡ false → latest_of rs x.revision.metadata.id.raw ≡ Some x)
    → (find p later ≡ Some r → latest_of rs r.revision.metadata.id.raw ≡ Some r)
    → cond b (Some x) (find p later) ≡ Some r
    → is_kept r.revision.content ≡ false → latest_of rs r.revision.metadata.id.raw ≡ Some r
deleted_at rs later p x r true here ih e gone =
    let same : x ≡ r = cc e in
    subst (λ (y : Recorded). latest_of rs y.revision.metadata.id.raw ≡ Some y) same
    (here (subst (λ (y : Recorded). is_kept y.revision.content ≡ false) (sym same) gone))
deleted_at rs later p x r false here ih e gone = ih e

pub deleted_latest : (rs later : List Recorded) (p : Recorded → Bool) (r : Recorded)
    → ((id : ℕ) (x : Recorded) → latest_of later id ≡ Some x → latest_of rs id ≡ Some x) → DeletesEnd later
    → find p later ≡ Some r → is_kept r.revision.content ≡ false → latest_of rs r.revision.metadata.id.raw ≡ Some r
deleted_latest rs [] p r ends h e gone = cc e
deleted_latest rs (x ∷ xs) p r ends h e gone =
    deleted_at rs xs p x r (p x) (λ none. latest_here [] rs x xs ends (h.0 none))
    (λ found. deleted_latest rs xs p r (next_ends [] rs x xs ends) h.1 found gone) e gone

none_other : (id : ℕ) (ts : List TableId) (rs : List Revision) → list_any (λ y. id == y) (document_ids rs) ≡ false
    → list_any (λ (x : Recorded). x.revision.metadata.id.raw == id) (recorded_in ts rs) ≡ false
none_other id [] [] h = refl
none_other id [] (r ∷ rs) h = refl
none_other id (t ∷ ts) [] h = refl
none_other id (t ∷ ts) (r ∷ rs) h =
    let parts = or_parts (id == r.metadata.id.raw) (list_any (λ y. id == y) (document_ids rs)) h in
    let other : (r.metadata.id.raw == id) ≡ false =
    ne_eqb r.metadata.id.raw id (λ same. both_ways (id == r.metadata.id.raw) parts.0
    (eq-eqb id r.metadata.id.raw (sym same))) in
    or_from (r.metadata.id.raw == id) (list_any (λ (x : Recorded). x.revision.metadata.id.raw == id)
    (recorded_in ts rs)) other
    (none_other id ts rs parts.1)

own_end : (ts : List TableId) (rs : List Revision) → all_differ (document_ids rs) ≡ true
    → DeletesEnd (recorded_in ts rs)
own_end [] [] h = tt
own_end [] (r ∷ rs) h = tt
own_end (t ∷ ts) [] h = tt
own_end (t ∷ ts) (r ∷ rs) h =
    let parts = and_parts (not (list_any (λ y. r.metadata.id.raw == y) (document_ids rs)))
    (all_differ (document_ids rs)) h in (
      (λ gone. none_other r.metadata.id.raw ts rs
          (not-true (list_any (λ y. r.metadata.id.raw == y) (document_ids rs)) parts.0)),
      own_end ts rs parts.1,
    )

-- ---- what holds of undamaged blocks

-- what blocks redact has no data, all revisions are of the blocks, and what is redacted is of one of them
pub record AreRedacted (blocks : List Block) (s : State) : Type 0 where
  pub hidden : AllByRecursion (λ r. is_redacted_in blocks r ≡ true → has_data r.revision.content ≡ false) s.revisions
  pub placed : AllByRecursion (λ r. r.revision.address.sequence < length blocks) s.revisions
  pub low : (r : Recorded) → is_redacted_in blocks r ≡ true → r.revision.address.sequence < length blocks
  pub ended : DeletesEnd s.revisions

either : {X : Type 0} (a b : Bool) → (a ≡ true → X) → (b ≡ true → X) → (a || (b || false)) ≡ true → X
either true b f g h = f refl
either false true f g h = g refl
either false false f g h = absurd (false≢true h)

module _ (blocks : List Block) (s : State) (b : Block) (so : AreRedacted blocks s)
    (follow : redactions_follow blocks s.revisions [] b.info.schema ≡ true)
    (address : b.header.address.sequence ≡ length blocks)
    (each : list_all (revision_follows s b) (recorded_in b.info.tables b.revisions) ≡ true)
    (differ : all_differ (document_ids b.revisions) ≡ true) where
  abbrev more : List Block
  more = blocks ++ b ∷ []

  long : length more ≡ length blocks + 1
  long = length-append blocks (b ∷ [])

  redacted_more : (r : Recorded) → is_redacted_in more r ≡
      (is_redacted_in blocks r || (is_redacted_by b.info.schema r || false))
  redacted_more r = list_any-append (λ (x : Block). is_redacted_by x.info.schema r) blocks (b ∷ [])

  named : (r : Recorded) → is_redacted_by b.info.schema r ≡ true → Named s.revisions r
  named r h = named_by_one blocks s.revisions [] b.info.schema r follow h

  -- the revision that a change names is of the blocks before
  low_here : (r : Recorded) → is_redacted_by b.info.schema r ≡ true → r.revision.address.sequence < length blocks
  low_here r h =
      let n = named r h in
      let there = found_in (λ x. x.revision.address.sequence < length blocks)
      (λ x. redacts x n.change) s.revisions n.other so.placed n.found in
      let same = (other_place blocks s.revisions r n).sequence in
      omega (arith, there, same)

  low_more : (r : Recorded) → is_redacted_in more r ≡ true → r.revision.address.sequence < length blocks
  low_more r h =
      either (is_redacted_in blocks r) (is_redacted_by b.info.schema r) (so.low r) (low_here r)
      (sym (redacted_more r) ∙ h)

  old_hidden : (later : List Recorded) → Ends blocks s.revisions later
      → AllByRecursion (λ r. is_redacted_in blocks r ≡ true → has_data r.revision.content ≡ false) later
      → AllByRecursion (λ r. is_redacted_in more r ≡ true → has_data r.revision.content ≡ false)
      (revisions_after b.info.schema later)
  old_hidden [] ends h = tt
  old_hidden (r ∷ later) ends h = (
    (λ k.
        let c = is_hidden b.info.schema later r in
        either (is_redacted_in blocks r) (is_redacted_by b.info.schema r)
        (λ old. still_none c r.revision.content (h.0 old))
        (λ here. none_if c r.revision.content
        (and_from (is_redacted_by b.info.schema r) (is_revised later r) here
        (revised blocks s.revisions r later ends (named r here))))
        (sym (redacted_more r) ∙ k)),
    old_hidden later (next_ends blocks s.revisions r later ends) h.1,
  )

  -- the block's own revisions are at its place
  own_place : (r : Recorded) → revision_follows s b r ≡ true → r.revision.address.sequence ≡ length blocks
  own_place r h =
      let two = and_parts (is_of b.header r.revision && has_table s.tables (created_ids b.info.schema) r.table)
      (continues r (latest_of s.revisions r.revision.metadata.id.raw)) h in
      let of = (and_parts (is_of b.header r.revision)
      (has_table s.tables (created_ids b.info.schema) r.table) two.0).0 in
      let parts = and_parts _ (r.revision.metadata.tx.raw == b.header.tx.raw) of in
      let same = (and_parts (same_address r.revision.address b.header.address) _ parts.0).0 in
      eqb-true r.revision.address.sequence b.header.address.sequence
      (and_parts (r.revision.address.strand.raw == b.header.address.strand.raw)
      (r.revision.address.sequence == b.header.address.sequence) same).1
      ∙ address

  new_hidden : (r : Recorded) → revision_follows s b r ≡ true → is_redacted_in more r ≡ true
      → has_data r.revision.content ≡ false
  new_hidden r h k =
      let place = own_place r h in
      let low = low_more r k in
      absurd (omega (arith, place, low))

  new_each : AllByRecursion (λ r. revision_follows s b r ≡ true) (recorded_in b.info.tables b.revisions)
  new_each = passing (revision_follows s b) (recorded_in b.info.tables b.revisions) each

  -- a deleted document gets no revision more
  none_more : (r : Recorded) → latest_of s.revisions r.revision.metadata.id.raw ≡ Some r
      → is_kept r.revision.content ≡ false
      → (xs : List Recorded) → AllByRecursion (λ x. revision_follows s b x ≡ true) xs → is_revised xs r ≡ false
  none_more r last gone [] h = refl
  none_more r last gone (x ∷ xs) h =
      or_from (x.revision.metadata.id.raw == r.revision.metadata.id.raw) (is_revised xs r)
      (false_from_ne_true (x.revision.metadata.id.raw == r.revision.metadata.id.raw) (λ same.
      let goes = (and_parts (is_of b.header x.revision && has_table s.tables (created_ids b.info.schema) x.table)
      (continues x (latest_of s.revisions x.revision.metadata.id.raw)) h.0).1 in
      let there : latest_of s.revisions x.revision.metadata.id.raw ≡ Some r =
      ap (latest_of s.revisions) (eqb-true x.revision.metadata.id.raw r.revision.metadata.id.raw same) ∙ last in
      let on : continues x (Some r) ≡ true = sym (ap (continues x) there) ∙ goes in
      both_ways (is_kept r.revision.content) gone
      (and_parts ((x.table.raw == r.table.raw) && (x.revision.metadata.version == r.revision.metadata.version + 1))
      (is_kept r.revision.content) on).1))
      (none_more r last gone xs h.1)

  same_revised : (later : List Recorded) (r : Recorded)
      → is_revised (revisions_after b.info.schema later) r ≡ is_revised later r
  same_revised later r =
      any_after b.info.schema (λ (x : Recorded). x.revision.metadata.id.raw == r.revision.metadata.id.raw)
      (λ c x. refl) later

  old_ended : (later : List Recorded) → Ends blocks s.revisions later → DeletesEnd later
      → DeletesEnd (revisions_after b.info.schema later ++ recorded_in b.info.tables b.revisions)
  old_ended [] ends h = own_end b.info.tables b.revisions differ
  old_ended (r ∷ later) ends h = (
    (λ gone.
        let was : is_kept r.revision.content ≡ false =
        sym (kept_hidden (is_hidden b.info.schema later r) r.revision.content) ∙ gone in
        let none = h.0 was in
        list_any-append (λ (x : Recorded). x.revision.metadata.id.raw == r.revision.metadata.id.raw)
        (revisions_after b.info.schema later) (recorded_in b.info.tables b.revisions)
        ∙ or_from (is_revised (revisions_after b.info.schema later) r)
        (is_revised (recorded_in b.info.tables b.revisions) r)
        (same_revised later r ∙ none)
        (none_more r (latest_here blocks s.revisions r later ends none) was
        (recorded_in b.info.tables b.revisions) new_each)),
    old_ended later (next_ends blocks s.revisions r later ends) h.1,
  )

  pub redacted_after : AreRedacted more (after s b)
  redacted_after = record {
    hidden = all_append (λ r. is_redacted_in more r ≡ true → has_data r.revision.content ≡ false)
        (revisions_after b.info.schema s.revisions) (recorded_in b.info.tables b.revisions)
        (old_hidden s.revisions (λ id x e. e) so.hidden)
        (all_like (λ r. revision_follows s b r ≡ true)
        (λ r. is_redacted_in more r ≡ true → has_data r.revision.content ≡ false)
        new_hidden (recorded_in b.info.tables b.revisions) new_each);
    placed = all_append (λ r. r.revision.address.sequence < length more)
        (revisions_after b.info.schema s.revisions) (recorded_in b.info.tables b.revisions)
        (each_after b.info.schema (λ r. r.revision.address.sequence < length more) (λ c r h. h) s.revisions
        (all_like (λ r. r.revision.address.sequence < length blocks) (λ r. r.revision.address.sequence < length more)
        (λ r h. omega (arith, h, long)) s.revisions so.placed))
        (all_like (λ r. revision_follows s b r ≡ true) (λ r. r.revision.address.sequence < length more)
        (λ r h. let p = own_place r h in omega (arith, p, long)) (recorded_in b.info.tables b.revisions) new_each);
    low = λ r h. let l = low_more r h in omega (arith, l, long);
    ended = old_ended s.revisions (λ id x e. e) so.ended;
  }

redacted_behind : (bs before : List Block) → UndamagedBehind before bs → AreRedacted before (state before)
    → AreRedacted (before ++ bs) (state (before ++ bs))
redacted_behind [] before u so = subst (λ xs. AreRedacted xs (state xs)) (sym (append-nil before)) so
redacted_behind (b ∷ bs) before u so =
    let passes = passes_all before b u.1 in
    let place = and_parts _ (b.header.address.strand.raw == strand_of before b) passes.address in
    let sequence = eqb-true b.header.address.sequence (length before) (and_parts _ _ place.0).0 in
    let next = subst (AreRedacted (before ++ b ∷ [])) (sym (state_push before empty b))
    (redacted_after before (state before) b so passes.redactions sequence
    (parted (strand_of before b) (state before) b passes.follows_is).revisions
    (and_parts _ (all_differ (document_ids b.revisions)) passes.follows_is).1) in
    subst (λ xs. AreRedacted xs (state xs)) (append_assoc before (b ∷ []) bs)
    (redacted_behind bs (before ++ b ∷ []) u.2 next)

pub are_redacted : (blocks : List Block) → Undamaged blocks → AreRedacted blocks (state blocks)
are_redacted blocks u = redacted_behind blocks [] u
    (record { hidden = tt; placed = tt; low = λ r h. absurd (false≢true h); ended = tt })
