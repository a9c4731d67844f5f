-- The documents that may meet a probe, and those that pend, are enough for the rows of a view that meet it.
use Rattle.std.proofs.Common.{◌≡◌, ◌∙◌, ℕ, ◌+◌, ◌<◌, ◌^◌, ◌==◌, ◌||◌, Bool, true, false, List, [], ◌∷◌, ◌++◌, length, get_or, drop, map, refl, sym, ap, subst, Option, Some, None}
use Rattle.std.specs.Prelude.{if◌then◌else◌}
use Rattle.std.specs.Option.{IfSome}
use Rattle.std.specs.List.{cons_option, filter_map, flat_map}
use Rattle.std.proofs.lemmas.Bool.{eq-eqb, eqb-true, lt-ltb}
use Rattle.std.proofs.lemmas.List.{drop_more}
use Rattle.std.proofs.lemmas.List.Folds.{list_any-append}
use Rattle.ion_values.specs.declared.value.Key.{Key}
use Rattle.ql_types.specs.declared.DocId.{DocId}
use Rattle.ql_types.specs.declared.TableId.{TableId}
use Rattle.pql_model.specs.declared.tables.Probe.{Probe}
use Rattle.pql_model.specs.declared.tables.Probe.TheVariants as probe
use Rattle.pql_model.specs.declared.tables.Row.{Row}
use Rattle.pql_model.specs.Tables.{meeting, meets}
use Rattle.ledger_model.specs.declared.block.Draft.{Draft}
use Rattle.ledger_model.specs.State.{Recorded, State, draft_of}
use Rattle.ledger_model.specs.Views.{latest, latest_from, put, row_of, user_view}
use Rattle.laws_footprint.specs.Own.{IdsFit}
use Rattle.laws_footprint.specs.Touches.{id_of}
use Rattle.versions.specs.Indexes.{documents_with}
use Rattle.versions.specs.Live.{AllFit}
use Rattle.versions.specs.Lookups.{is_among, those_among}
use Rattle.view_rows.specs.Named.{AreNamed}
use Rattle.view_rows.proofs.Naming.{among_those, id_named, ids_named, keys_named, named_alone, or-left, or-right, user_id}
use Rattle.txn_core.specs.Narrow.{AllAmong, DraftsFit, HaveKeys, IsNarrow, MeetAlone, rows_standing}
use Rattle.txn_core.proofs.Overlaid.{latest_both}

-- ---- ids that fit

pub fit_drafts : (rs : List Recorded) → AllFit rs → IdsFit (map draft_of rs)
fit_drafts [] all = tt
fit_drafts (r ∷ rs) all = (lt-ltb (id_of r) (2 ^ 128) all.0, fit_drafts rs all.1)

pub fit_pending : (log : List Draft) → DraftsFit log → IdsFit log
fit_pending [] all = tt
fit_pending (d ∷ ds) all = (lt-ltb d.id.raw (2 ^ 128) all.0, fit_pending ds all.1)

pub fits_next : (log : List Draft) (at : ℕ) (d : Draft) → at < length log → d ≡ get_or log at d → d.id.raw < 2 ^ 128 → DraftsFit (drop (at + 1) log)
    → DraftsFit (drop at log)
fits_next log at d within this fits rest =
    let front : drop at log ≡ d ∷ drop (at + 1) log = drop_more log at d within ∙ ap (λ (x : Draft). x ∷ drop (at + 1) log) (sym this) in
    subst DraftsFit (sym front) (fits, rest)

-- ---- what a probe names

pub by_id : (base : State) (table : TableId) (id : DocId) (p : Probe) (ids : List DocId) → p ≡ probe.Id id → ids ≡ id ∷ [] → MeetAlone base table p ids
by_id base table id p ids is alone =
    subst (λ (x : Probe). MeetAlone base table x ids) (sym is)
    (subst (MeetAlone base table (probe.Id id)) (sym alone) (id_named id (rows_standing base table)))

pub by_ids : (base : State) (table : TableId) (some : List DocId) (p : Probe) (ids : List DocId) → p ≡ probe.Ids some → ids ≡ some → MeetAlone base table p ids
by_ids base table some p ids is same =
    subst (λ (x : Probe). MeetAlone base table x ids) (sym is)
    (subst (MeetAlone base table (probe.Ids some)) (sym same) (ids_named some (rows_standing base table)))

pub have_keys : (base : State) (table : TableId) (field : List ℕ) (keys : List Key) (ids : List DocId)
    → ids ≡ flat_map (documents_with base.revisions table field) keys → HaveKeys base table field keys ids
have_keys base table field keys ids is =
    subst (HaveKeys base table field keys) (sym is) (keys_named field keys (rows_standing base table))

weaker_named : (ids : List DocId) (test other : Row → Bool) (rows : List Row) → ((row : Row) → other row ≡ true → test row ≡ true)
    → AreNamed ids test rows → AreNamed ids other rows
weaker_named ids test other [] each named = tt
weaker_named ids test other (row ∷ rows) each named =
    ((λ passes. named.0 (each row passes)), weaker_named ids test other rows each named.1)

if_some : {A : Type 0} (P Q : A → Type 0) (o : Option A) → ((x : A) → P x → Q x) → IfSome o P → IfSome o Q
if_some P Q None weaker h = tt
if_some P Q (Some x) weaker h = weaker x h

pub by_keys : (base : State) (table : TableId) (field : List ℕ) (some keys : List Key) (p : Probe) (o : Option (List DocId)) → p ≡ probe.Keys field some
    → keys ≡ some → IfSome o (HaveKeys base table field keys) → IfSome o (MeetAlone base table p)
by_keys base table field some keys p o is same h =
    subst (λ (x : Probe). IfSome o (MeetAlone base table x)) (sym is) (subst (λ (ks : List Key). IfSome o (HaveKeys base table field ks)) same h)

pub by_key : (base : State) (table : TableId) (field : List ℕ) (k : Key) (keys : List Key) (p : Probe) (o : Option (List DocId)) → p ≡ probe.Key field k
    → keys ≡ k ∷ [] → IfSome o (HaveKeys base table field keys) → IfSome o (MeetAlone base table p)
by_key base table field k keys p o is same h =
    subst (λ (x : Probe). IfSome o (MeetAlone base table x)) (sym is)
    (if_some (HaveKeys base table field (k ∷ [])) (MeetAlone base table (probe.Key field k)) o
    (λ ids named. weaker_named ids (meets (probe.Keys field (k ∷ []))) (meets (probe.Key field k)) (rows_standing base table)
    (λ row passes. or-left (meets (probe.Key field k) row) false passes) named)
    (subst (λ (ks : List Key). IfSome o (HaveKeys base table field ks)) same h))

-- ---- documents that pend are read

module _ (ids : List DocId) where
  put_by : (b c : Bool) (d r : Draft) (ds : List Draft) → (d.id.raw == r.id.raw) ≡ c → is_among ids d.id.raw ≡ b → is_among ids r.id.raw ≡ true
      → put (those_among ids ds) r ≡ those_among ids (put ds r)
      → put (if b then d ∷ those_among ids ds else those_among ids ds) r ≡ those_among ids (if c then r ∷ ds else d ∷ put ds r)
  put_by true true d r ds same is those ih =
      ap (λ (b : Bool). if b then r ∷ those_among ids ds else d ∷ put (those_among ids ds) r) same
      ∙ ap (λ (b : Bool). if b then r ∷ those_among ids ds else those_among ids ds) (sym those)
  put_by true false d r ds same is those ih =
      ap (λ (b : Bool). if b then r ∷ those_among ids ds else d ∷ put (those_among ids ds) r) same
      ∙ ap (λ (xs : List Draft). d ∷ xs) ih
      ∙ ap (λ (b : Bool). if b then d ∷ those_among ids (put ds r) else those_among ids (put ds r)) (sym is)
  put_by false true d r ds same is those ih =
      let bad : false ≡ true = sym is ∙ ap (is_among ids) (eqb-true d.id.raw r.id.raw same) ∙ those in cc
  put_by false false d r ds same is those ih =
      ih ∙ ap (λ (b : Bool). if b then d ∷ those_among ids (put ds r) else those_among ids (put ds r)) (sym is)

  put_those : (ds : List Draft) (r : Draft) → is_among ids r.id.raw ≡ true → put (those_among ids ds) r ≡ those_among ids (put ds r)
  put_those [] r those = ap (λ (b : Bool). if b then r ∷ [] else []) (sym those)
  put_those (d ∷ ds) r those =
      put_by (is_among ids d.id.raw) (d.id.raw == r.id.raw) d r ds refl refl those (put_those ds r those)

  latest_from_those : (ds log : List Draft) → AllAmong ids log → latest_from (those_among ids ds) log ≡ those_among ids (latest_from ds log)
  latest_from_those ds [] all = refl
  latest_from_those ds (d ∷ log) all =
      ap (λ (xs : List Draft). latest_from xs log) (put_those ds d all.0) ∙ latest_from_those (put ds d) log all.1

  pub latest_those : (xs log : List Draft) → AllAmong ids log → latest_from (those_among ids (latest xs)) log ≡ those_among ids (latest (xs ++ log))
  latest_those xs log all = latest_from_those (latest xs) log all ∙ ap (those_among ids) (sym (latest_both xs log))

  -- rows of what pends are of documents that are read
  module _ (table : TableId) (test : Row → Bool) where
    abbrev AreShown : List Draft → Type 0
    AreShown ds = AreNamed ids test (filter_map (row_of table) ds)

    one_shown : (o : Option Row) (rows : List Row) → ((row : Row) → o ≡ Some row → is_among ids row.id.raw ≡ true) → AreNamed ids test rows
        → AreNamed ids test (cons_option o rows)
    one_shown None rows of named = named
    one_shown (Some row) rows of named = ((λ passes. of row refl), named)

    rest_shown : (o : Option Row) (rows : List Row) → AreNamed ids test (cons_option o rows) → AreNamed ids test rows
    rest_shown None rows named = named
    rest_shown (Some row) rows named = named.1

    first_shown : (o : Option Row) (rows more : List Row) → AreNamed ids test (cons_option o rows) → AreNamed ids test more
        → AreNamed ids test (cons_option o more)
    first_shown None rows more named also = also
    first_shown (Some row) rows more named also = (named.0, also)

    of_pending : (r : Draft) → is_among ids r.id.raw ≡ true → (row : Row) → row_of table r ≡ Some row → is_among ids row.id.raw ≡ true
    of_pending r those row is = ap (is_among ids) (user_id table r row is) ∙ those

    put_shown_by : (c : Bool) (d r : Draft) (ds : List Draft) → is_among ids r.id.raw ≡ true → AreShown (d ∷ ds) → AreShown (put ds r)
        → AreShown (if c then r ∷ ds else d ∷ put ds r)
    put_shown_by true d r ds those named ih =
        one_shown (row_of table r) (filter_map (row_of table) ds) (of_pending r those) (rest_shown (row_of table d) (filter_map (row_of table) ds) named)
    put_shown_by false d r ds those named ih =
        first_shown (row_of table d) (filter_map (row_of table) ds) (filter_map (row_of table) (put ds r)) named ih

    put_shown : (ds : List Draft) (r : Draft) → is_among ids r.id.raw ≡ true → AreShown ds → AreShown (put ds r)
    put_shown [] r those named = one_shown (row_of table r) [] (of_pending r those) tt
    put_shown (d ∷ ds) r those named =
        put_shown_by (d.id.raw == r.id.raw) d r ds those named
        (put_shown ds r those (rest_shown (row_of table d) (filter_map (row_of table) ds) named))

    latest_shown : (ds log : List Draft) → AllAmong ids log → AreShown ds → AreShown (latest_from ds log)
    latest_shown ds [] all named = named
    latest_shown ds (d ∷ log) all named = latest_shown (put ds d) log all.1 (put_shown ds d all.0 named)

-- ---- what pends is among what is read

among_front : (ids more : List DocId) (n : ℕ) → is_among ids n ≡ true → is_among (ids ++ more) n ≡ true
among_front ids more n is =
    list_any-append (λ (i : DocId). n == i.raw) ids more ∙ or-left (is_among ids n) (is_among more n) is

among_behind : (ids more : List DocId) (n : ℕ) → is_among more n ≡ true → is_among (ids ++ more) n ≡ true
among_behind ids more n is =
    list_any-append (λ (i : DocId). n == i.raw) ids more ∙ or-right (is_among ids n) (is_among more n) is

named_front : (ids more : List DocId) (test : Row → Bool) (rows : List Row) → AreNamed ids test rows → AreNamed (ids ++ more) test rows
named_front ids more test [] named = tt
named_front ids more test (row ∷ rows) named =
    ((λ passes. among_front ids more row.id.raw (named.0 passes)), named_front ids more test rows named.1)

all_behind : (front more : List DocId) (ds : List Draft) → AllAmong more ds → AllAmong (front ++ more) ds
all_behind front more [] all = tt
all_behind front more (d ∷ ds) all = (among_behind front more d.id.raw all.0, all_behind front more ds all.1)

abbrev ids_of : List Draft → List DocId
ids_of ds = map (λ (d : Draft). d.id) ds

or-none : (a : Bool) → (a || false) ≡ a
or-none true = refl
or-none false = refl

or-again : (a b : Bool) → (a || b) ≡ ((a || b) || a)
or-again true b = refl
or-again false b = sym (or-none b)

or-assoc : (a b c : Bool) → (a || (b || c)) ≡ ((a || b) || c)
or-assoc true b c = refl
or-assoc false b c = refl

own_among : (ds : List Draft) → AllAmong (map (λ (d : Draft). d.id) ds) ds
own_among [] = tt
own_among (d ∷ ds) = (
  or-left (d.id.raw == d.id.raw) (is_among (map (λ (x : Draft). x.id) ds) d.id.raw) (eq-eqb d.id.raw d.id.raw refl),
  all_behind (d.id ∷ []) (map (λ (x : Draft). x.id) ds) ds (own_among ds),
)

-- the documents of the last revisions are those of all
put_among-by : (b : Bool) (d r : Draft) (ds : List Draft) (n : ℕ) → (d.id.raw == r.id.raw) ≡ b
    → is_among (ids_of (put ds r)) n ≡ (is_among (ids_of ds) n || (n == r.id.raw))
    → is_among (ids_of (if b then r ∷ ds else d ∷ put ds r)) n ≡ (((n == d.id.raw) || is_among (ids_of ds) n) || (n == r.id.raw))
put_among-by true d r ds n same ih =
    or-again (n == r.id.raw) (is_among (ids_of ds) n)
    ∙ ap (λ (k : ℕ). ((n == k) || is_among (ids_of ds) n) || (n == r.id.raw)) (sym (eqb-true d.id.raw r.id.raw same))
put_among-by false d r ds n same ih =
    ap (λ (b : Bool). (n == d.id.raw) || b) ih ∙ or-assoc (n == d.id.raw) (is_among (ids_of ds) n) (n == r.id.raw)

put_among : (ds : List Draft) (r : Draft) (n : ℕ) → is_among (ids_of (put ds r)) n ≡ (is_among (ids_of ds) n || (n == r.id.raw))
put_among [] r n = or-none (n == r.id.raw)
put_among (d ∷ ds) r n = put_among-by (d.id.raw == r.id.raw) d r ds n refl (put_among ds r n)

from_among : (rs ds : List Draft) (n : ℕ) → is_among (ids_of (latest_from ds rs)) n ≡ (is_among (ids_of ds) n || is_among (ids_of rs) n)
from_among [] ds n = sym (or-none (is_among (ids_of ds) n))
from_among (r ∷ rs) ds n =
    from_among rs (put ds r) n ∙ ap (λ (b : Bool). b || is_among (ids_of rs) n) (put_among ds r n)
    ∙ sym (or-assoc (is_among (ids_of ds) n) (n == r.id.raw) (is_among (ids_of rs) n))

all_of : (ids more : List DocId) (ds : List Draft) → ((n : ℕ) → is_among more n ≡ is_among ids n) → AllAmong ids ds → AllAmong more ds
all_of ids more [] same all = tt
all_of ids more (d ∷ ds) same all = (same d.id.raw ∙ all.0, all_of ids more ds same all.1)

last_among : (log : List Draft) → AllAmong (ids_of (latest log)) log
last_among log = all_of (ids_of log) (ids_of (latest log)) log (from_among log []) (own_among log)

pub narrow_is : (base : State) (log : List Draft) (table : TableId) (p : Probe) (ids all : List DocId) → MeetAlone base table p ids
    → all ≡ ids ++ ids_of (latest log) → IsNarrow base log table p (Some all)
narrow_is base log table p ids all alone is = (
  subst (λ (xs : List DocId). AllAmong xs log) (sym is) (all_behind ids (ids_of (latest log)) log (last_among log)),
  subst (MeetAlone base table p) (sym is) (named_front ids (ids_of (latest log)) (meets p) (rows_standing base table) alone),
)

-- ---- the rows that meet the probe

narrow_rows : (base : State) (log : List Draft) (table : TableId) (p : Probe) (ids : List DocId) → AllAmong ids log → MeetAlone base table p ids
    → meeting p (filter_map (row_of table) (those_among ids (latest (map draft_of base.revisions ++ log))))
    ≡ meeting p (user_view table (map draft_of base.revisions) log)
narrow_rows base log table p ids among alone =
    let docs : List Draft = latest (map draft_of base.revisions ++ log) in
    let named : AreNamed ids (meets p) (filter_map (row_of table) docs) =
    subst (λ (ds : List Draft). AreNamed ids (meets p) (filter_map (row_of table) ds)) (sym (latest_both (map draft_of base.revisions) log))
    (latest_shown ids table (meets p) (latest (map draft_of base.revisions)) log among alone) in
    ap (meeting p) (among_those (row_of table) (user_id table) ids docs)
    ∙ named_alone ids (meets p) (filter_map (row_of table) docs) named

pub documents_narrowed : (base : State) (log : List Draft) (table : TableId) (p : Probe) (ids : List DocId) (documents : List Draft)
    → IsNarrow base log table p (Some ids) → documents ≡ those_among ids (latest (map draft_of base.revisions ++ log))
    → meeting p (filter_map (row_of table) documents) ≡ meeting p (user_view table (map draft_of base.revisions) log)
documents_narrowed base log table p ids documents narrow are =
    ap (λ (ds : List Draft). meeting p (filter_map (row_of table) ds)) are ∙ narrow_rows base log table p ids narrow.0 narrow.1
