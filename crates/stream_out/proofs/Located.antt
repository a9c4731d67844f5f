-- Where a record of the stream of numbered blocks comes from.
use Rattle.std.proofs.Common.{◌≡◌, ◌∙◌, ℕ, ◌+◌, ◌≤◌, ◌==◌, not, Bool, true, false, List, [], ◌∷◌, ◌++◌, map, length, take, drop, Option, Some, None, refl, sym, ap, subst, arith, ⊎_elim, ◌⊎◌, inl, inr, ◌||◌, ◌-◌, true≢false, if◌then◌else◌, take_all, length-drop}
use Rattle.std.specs.List.{list_any}
use Rattle.std.proofs.lemmas.Bool.{eq-eqb, ne_eqb, eqb-true, and_parts, not-true}
use Rattle.ql_types.specs.declared.TableId.{TableId}
use Rattle.ledger_model.specs.declared.block.Schema.{Schema}
use Rattle.ledger_model.specs.declared.block.Revision.{Revision}
use Rattle.ledger_model.specs.declared.block.Block.{Block}
use Rattle.ledger_model.specs.Follows.{all_differ, document_ids}
use Rattle.stream_out.specs.declared.record.Details.{Details}
use Rattle.stream_out.specs.declared.record.Record.{Record}
use Rattle.stream_out.specs.declared.record.Record.TheVariants as kind
use Rattle.stream_out.specs.Streams.{name_of, changes_in, summary_of, details_of, block_records, records_behind, records_of, stream}
use Rattle.stream_out.specs.Replays.{number_of, details_number, document_of, IsIn}
use Rattle.stream_out.proofs.Journals.{AreOf, IsNumbered, AreNumbered}

-- ---- lists of records

pub in_either : (r : Record) (xs ys : List Record) → IsIn r (xs ++ ys) → IsIn r xs ⊎ IsIn r ys
in_either r [] ys h = inr h
in_either r (x ∷ xs) ys h =
    ⊎_elim (λ (e : r ≡ x). inl (inl e))
    (λ (m : IsIn r (xs ++ ys)). ⊎_elim (λ (a : IsIn r xs). inl (inr a)) (λ (b : IsIn r ys). inr b) (in_either r xs ys m)) h

-- ---- the block of a number

-- a block, and the changes of the schema up to its own
abbrev pub Place : Type 0
Place = List Schema × Block

-- the place of a number, the first block having another number
abbrev pub at : ℕ → ℕ → List Schema → List Block → Option Place
at n m changes [] = None
at n m changes (b ∷ bs) = if n == m then Some (changes ++ b.info.schema, b) else at (n + 1) m (changes ++ b.info.schema) bs

pub at_first : (n : ℕ) (changes : List Schema) (b : Block) (bs : List Block) → at n n changes (b ∷ bs) ≡ Some (changes ++ b.info.schema, b)
at_first n changes b bs = let same : (n == n) ≡ true = eq-eqb n n refl in rw same refl

pub at_behind : (n m : ℕ) (changes : List Schema) (b : Block) (bs : List Block) → n + 1 ≤ m
    → at n m changes (b ∷ bs) ≡ at (n + 1) m (changes ++ b.info.schema) bs
at_behind n m changes b bs h = let other : (n == m) ≡ false = ne_eqb n m (λ e. absurd (omega arith)) in rw other refl

least_by : (n m : ℕ) (q : Place) (o : Option Place) (p : Place) → (o ≡ Some p → n + 1 ≤ m) → (t : Bool) → (n == m) ≡ t
    → (if t then Some q else o) ≡ Some p → n ≤ m
least_by n m q o p more true is e = let same : n ≡ m = eqb-true n m is in omega (arith, same)
least_by n m q o p more false is e = let past : n + 1 ≤ m = more e in omega (arith, past)

nowhere : (n m : ℕ) (p : Place) → None ≡ Some p → n ≤ m
nowhere n m p e = cc

pub at_least : (n m : ℕ) (changes : List Schema) (bs : List Block) (p : Place) → at n m changes bs ≡ Some p → n ≤ m
at_least n m changes [] p e = nowhere n m p e
at_least n m changes (b ∷ bs) p e = least_by n m (changes ++ b.info.schema, b) (at (n + 1) m (changes ++ b.info.schema) bs) p
    (at_least (n + 1) m (changes ++ b.info.schema) bs p) (n == m) refl e

at_more : (n m : ℕ) (changes : List Schema) (b : Block) (bs : List Block) (p : Place) → at (n + 1) m (changes ++ b.info.schema) bs ≡ Some p
    → at n m changes (b ∷ bs) ≡ Some p
at_more n m changes b bs p e = at_behind n m changes b bs (at_least (n + 1) m (changes ++ b.info.schema) bs p e) ∙ e

-- ---- the details of a block

abbrev pub details_with : List Schema → TableId → Revision → Details
details_with changes t r = record { table = t; name = name_of changes t.raw; revision = r }

abbrev pub records_with : List Schema → List TableId → List Revision → List Record
records_with changes ts rs = map kind.Details (details_of changes ts rs)

-- what stands among details are details of the block of their number
pub is_details : (n : ℕ) (changes : List Schema) (ts : List TableId) (rs : List Revision) (r : Record) → AreOf n rs → IsIn r (records_with changes ts rs)
    → (d : Details) × (r ≡ kind.Details d) × (details_number d ≡ n)
is_details n changes [] rs r all h = absurd h
is_details n changes (t ∷ ts) [] r all h = absurd h
is_details n changes (t ∷ ts) (x ∷ rs) r all h =
    ⊎_elim (λ (e : r ≡ kind.Details (details_with changes t x)). (details_with changes t x, e, all.0))
    (λ (m : IsIn r (records_with changes ts rs)). is_details n changes ts rs r all.1 m) h

has_document : (changes : List Schema) (ts : List TableId) (rs : List Revision) (d : Details) → IsIn (kind.Details d) (records_with changes ts rs)
    → list_any (λ y. document_of d == y) (document_ids rs) ≡ true
has_document changes [] rs d h = absurd h
has_document changes (t ∷ ts) [] d h = absurd h
has_document changes (t ∷ ts) (x ∷ rs) d h =
    ⊎_elim (λ (e : kind.Details d ≡ kind.Details (details_with changes t x)).
    let same : d ≡ details_with changes t x = cc in
    let here : (document_of d == x.metadata.id.raw) ≡ true = eq-eqb (document_of d) x.metadata.id.raw (ap document_of same) in
    rw here refl)
    (λ (m : IsIn (kind.Details d) (records_with changes ts rs)).
    let there = has_document changes ts rs d m in or_true (document_of d == x.metadata.id.raw) _ there) h where
      or_true : (a b : Bool) → b ≡ true → (a || b) ≡ true
      or_true true b e = refl
      or_true false b e = e

-- details of one document are one
pub one_of_each : (changes : List Schema) (ts : List TableId) (rs : List Revision) (d e : Details) → all_differ (document_ids rs) ≡ true
    → IsIn (kind.Details d) (records_with changes ts rs) → IsIn (kind.Details e) (records_with changes ts rs) → document_of d ≡ document_of e → d ≡ e
one_of_each changes [] rs d e differ hd he same = absurd hd
one_of_each changes (t ∷ ts) [] d e differ hd he same = absurd hd
one_of_each changes (t ∷ ts) (x ∷ rs) d e differ hd he same =
    ⊎_elim (λ (ed : kind.Details d ≡ kind.Details (details_with changes t x)).
    let first : d ≡ details_with changes t x = cc in
    ⊎_elim (λ (ee : kind.Details e ≡ kind.Details (details_with changes t x)). let other : e ≡ details_with changes t x = cc in first ∙ sym other)
    (λ (me : IsIn (kind.Details e) (records_with changes ts rs)). clash e (sym (ap document_of first) ∙ same) me) he)
    (λ (md : IsIn (kind.Details d) (records_with changes ts rs)).
    ⊎_elim (λ (ee : kind.Details e ≡ kind.Details (details_with changes t x)).
    let other : e ≡ details_with changes t x = cc in clash d (sym (ap document_of other) ∙ sym same) md)
    (λ (me : IsIn (kind.Details e) (records_with changes ts rs)). one_of_each changes ts rs d e (parts.1) md me same) he) hd where
      parts : (not (list_any (λ y. x.metadata.id.raw == y) (document_ids rs)) ≡ true) × (all_differ (document_ids rs) ≡ true)
      parts = and_parts _ _ differ

      clash : (f : Details) → x.metadata.id.raw ≡ document_of f → IsIn (kind.Details f) (records_with changes ts rs) → d ≡ e
      clash f is m =
          let there = has_document changes ts rs f m in
          let here : list_any (λ y. x.metadata.id.raw == y) (document_ids rs) ≡ true = subst (λ k. list_any (λ y. k == y) (document_ids rs) ≡ true) (sym is) there in
          let none : list_any (λ y. x.metadata.id.raw == y) (document_ids rs) ≡ false = not-true _ parts.0 in
          absurd (true≢false (sym here ∙ none))

-- ---- where a record comes from

abbrev pub Located : ℕ → List Schema → List Block → Record → Type 0
Located n changes bs (kind.Summary s) = (p : Place) × (at n (number_of s) changes bs ≡ Some p) × (s ≡ summary_of p.1)
Located n changes bs (kind.Details d) =
    (p : Place) × (at n (details_number d) changes bs ≡ Some p) × IsIn (kind.Details d) (records_with p.0 p.1.info.tables p.1.revisions)
    × (all_differ (document_ids p.1.revisions) ≡ true)
Located n changes bs _ = Unit {0}

later : (n : ℕ) (changes : List Schema) (b : Block) (bs : List Block) (r : Record) → Located (n + 1) (changes ++ b.info.schema) bs r → Located n changes (b ∷ bs) r
later n changes b bs (kind.Summary s) l = (l.0, at_more n (number_of s) changes b bs l.0 l.1, l.2)
later n changes b bs (kind.Details d) l = (l.0, at_more n (details_number d) changes b bs l.0 l.1, l.2, l.3)
later n changes b bs kind.Created l = tt
later n changes b bs kind.Completed l = tt

in_block : (n : ℕ) (changes : List Schema) (b : Block) (bs : List Block) (r : Record) → IsNumbered n b
    → IsIn r (block_records (changes ++ b.info.schema) b) → Located n changes (b ∷ bs) r
in_block n changes b bs r w h =
    ⊎_elim (λ (e : r ≡ kind.Summary (summary_of b)). subst (Located n changes (b ∷ bs)) (sym e) of_summary)
    (λ (m : IsIn r (records_with more b.info.tables b.revisions)).
    let d = is_details n more b.info.tables b.revisions r w.revisions m in
    subst (Located n changes (b ∷ bs)) (sym d.1) (of_details d.0 d.2 (subst (λ x. IsIn x (records_with more b.info.tables b.revisions)) d.1 m))) h where
      more : List Schema
      more = changes ++ b.info.schema

      first : (m : ℕ) → m ≡ n → at n m changes (b ∷ bs) ≡ Some (more, b)
      first m is = subst (λ k. at n k changes (b ∷ bs) ≡ Some (more, b)) (sym is) (at_first n changes b bs)

      of_summary : Located n changes (b ∷ bs) (kind.Summary (summary_of b))
      of_summary = ((more, b), first b.header.address.sequence w.number, refl)

      of_details : (d : Details) → details_number d ≡ n → IsIn (kind.Details d) (records_with more b.info.tables b.revisions)
          → Located n changes (b ∷ bs) (kind.Details d)
      of_details d is m = ((more, b), first (details_number d) is, m, w.differ)

pub located : (n : ℕ) (changes : List Schema) (bs : List Block) (r : Record) → AreNumbered n bs → IsIn r (records_behind changes bs) → Located n changes bs r
located n changes [] r all h = absurd h
located n changes (b ∷ bs) r all h =
    ⊎_elim (λ (own : IsIn r (block_records (changes ++ b.info.schema) b)). in_block n changes b bs r all.0 own)
    (λ (more : IsIn r (records_behind (changes ++ b.info.schema) bs)). later n changes b bs r (located (n + 1) (changes ++ b.info.schema) bs r all.1 more))
    (in_either r (block_records (changes ++ b.info.schema) b) (records_behind (changes ++ b.info.schema) bs) h)

-- ---- the stream of a journal

records_to_end : (journal : List Block) (from : ℕ) → records_of journal from (length journal) ≡ records_behind (changes_in (take from journal)) (drop from journal)
records_to_end journal from =
    ap (records_behind (changes_in (take from journal))) (take_all (length journal - from) (drop from journal) (let long = length-drop from journal in omega (arith, long)))

-- a record of the stream that isn't a control record
abbrev pub IsTold : Record → Type 0
IsTold kind.Created = ⊥
IsTold kind.Completed = ⊥
IsTold _ = Unit {0}

not_control : (r c : Record) → IsTold r → (IsTold c → ⊥) → r ≡ c → ⊥
not_control r c told control e = control (subst IsTold e told)

pub in_records : (journal : List Block) (from : ℕ) (r : Record) → IsTold r → IsIn r (stream journal from (length journal))
    → IsIn r (records_behind (changes_in (take from journal)) (drop from journal))
in_records journal from r told h =
    ⊎_elim (λ (e : r ≡ kind.Created). absurd (not_control r kind.Created told (λ c. c) e))
    (λ (m : IsIn r (records_of journal from (length journal) ++ kind.Completed ∷ [])).
    ⊎_elim (λ (own : IsIn r (records_of journal from (length journal))). subst (IsIn r) (records_to_end journal from) own)
    (λ (last : IsIn r (kind.Completed ∷ [])). ⊎_elim (λ (e : r ≡ kind.Completed). absurd (not_control r kind.Completed told (λ c. c) e)) (λ (no : ⊥). absurd no) last)
    (in_either r (records_of journal from (length journal)) (kind.Completed ∷ []) m)) h
