-- The footprint of a FROM covers what its conditions need.
use Rattle.std.proofs.Common.{◌≡◌, ◌∙◌, inl, inr, ℕ, zero, suc, ◌+◌, true, false, List, [], ◌∷◌, ◌++◌, length, map, refl, sym, ap, subst, arith, slice_get, Option, Some, None, option_map}
use Rattle.std.specs.Prelude.{option_and_then}
use Rattle.std.specs.List.{AllByRecursion, filter, flat_map, list_all}
use Rattle.std.proofs.lemmas.Bool.{and_parts, both_ways, false_from_ne_true, false≢true}
use Rattle.std.proofs.lemmas.List.{append_assoc, append-nil}
use Rattle.std.proofs.lemmas.List.Elements.{filter_agree}
use Rattle.ion_values.specs.declared.value.Value.{Value}
use Rattle.ql_types.specs.declared.TableId.{TableId}
use Rattle.pql_model.specs.declared.expr.Expr.{Expr}
use Rattle.pql_model.specs.declared.scope.Bound.{Bound}
use Rattle.pql_model.specs.declared.scope.Evaluated.TheVariants.{Found}
use Rattle.pql_model.specs.declared.statement.FromClause.{FromClause}
use Rattle.pql_model.specs.declared.statement.Source.{Source}
use Rattle.pql_model.specs.declared.statement.SourceKind.{SourceKind}
use Rattle.pql_model.specs.declared.statement.SourceKind.TheVariants as source
use Rattle.pql_model.specs.declared.tables.Row.{Row}
use Rattle.pql_model.specs.From.{Combined, Viewed, all_hold, bound_row, holds, is_kept, rows_given, rows_over}
use Rattle.pql_model.specs.Names.{called, called_in_row}
use Rattle.pql_model.specs.Steps.{field_of}
use Rattle.ledger_model.specs.declared.outcome.Item.{Item}
use Rattle.ledger_model.specs.Conditions.{Asked, Meant, Part, all_asked, at_names, id_of, parts_in, parts_of, unknown}
use Rattle.ledger_model.specs.Footprints.{Read, Schemas, all_read, field_reached, is_read, items_at, read_of, sources_read, table_of, values_in, values_meant, values_reached}
use Rattle.ledger_model.specs.Meets.{content_shown}
use Rattle.laws_footprint.specs.Covered.{FootprintCovers, FootprintRestricts, is_known, is_read_at, is_read_by, items_by_source, reads_by, rows_by_source}
use Rattle.pql_model.specs.Rules.{is_path}
use Rattle.laws_footprint.specs.Restriction.{AllRead, Among, Gives, IsKnown, IsRead, Knows, Reads, rows_read}
use Rattle.laws_footprint.proofs.Asked.{MeantIs, all_told, reached_shown}
use Rattle.laws_footprint.proofs.Chosen.{items_shown}
use Rattle.laws_footprint.proofs.Listed.{From, among_found, among_kept, at_left, at_length, here_of, next_of}
use Rattle.laws_footprint.proofs.Parts.{Holds, parts_hold}
use Rattle.laws_footprint.proofs.Restricts.{restriction}

-- ---- all parts

append_holds : (c : Combined) (xs ys : List Part) → AllByRecursion (Holds c) xs → AllByRecursion (Holds c) ys
    → AllByRecursion (Holds c) (xs ++ ys)
append_holds c [] ys h k = k
append_holds c (x ∷ xs) ys h k = (h.0, append_holds c xs ys h.1 k)

in_condition : (params : List Value) (c : Combined) (o : Option Expr) → holds params c o ≡ true
    → AllByRecursion (Holds c) (parts_in params o)
in_condition params c None h = tt
in_condition params c (Some e) h = parts_hold params e c h

in_sources : (params : List Value) (c : Combined) (ss : List Source)
    → list_all (λ (s : Source). holds params c s.on) ss ≡ true
    → AllByRecursion (Holds c) (flat_map (λ (s : Source). parts_in params s.on) ss)
in_sources params c [] h = tt
in_sources params c (s ∷ ss) h =
    let both = and_parts (holds params c s.on) (list_all (λ (t : Source). holds params c t.on) ss) h in
    append_holds c (parts_in params s.on) (flat_map (λ (t : Source). parts_in params t.on) ss)
    (in_condition params c s.on both.0) (in_sources params c ss both.1)

pub kept_holds : (params : List Value) (from : FromClause) (c : Combined) → is_kept params from c ≡ true
    → AllByRecursion (Holds c) (parts_of params from)
kept_holds params from c h =
    let both = and_parts (all_hold params from.sources c) (holds params c from.filter) h in
    append_holds c (flat_map (λ (s : Source). parts_in params s.on) from.sources) (parts_in params from.filter)
    (in_sources params c from.sources both.0) (in_condition params c from.filter both.1)

-- ---- what is read, source by source

read_append : (read : List Read → SourceKind → Read) (earlier : List Read) (xs ys : List Source)
    → all_read read earlier (xs ++ ys)
    ≡ all_read read earlier xs ++ all_read read (earlier ++ all_read read earlier xs) ys
read_append read earlier [] ys = ap (λ e. all_read read e ys) (sym (append-nil earlier))
read_append read earlier (x ∷ xs) ys =
    let r = read earlier x.from in
    ap (λ rs. r ∷ rs) (read_append read (earlier ++ r ∷ []) xs ys)
    ∙ ap (λ e. r ∷ all_read read (earlier ++ r ∷ []) xs ++ all_read read e ys)
    (append_assoc earlier (r ∷ []) (all_read read (earlier ++ r ∷ []) xs))

length_read : (read : List Read → SourceKind → Read) (earlier : List Read) (xs : List Source)
    → length (all_read read earlier xs) ≡ length xs
length_read read earlier [] = refl
length_read read earlier (x ∷ xs) = ap suc (length_read read (earlier ++ read earlier x.from ∷ []) xs)

by_length : (xs : List Read) (y : Read) (ys : List Read)
    → slice_get (items_by_source (xs ++ y ∷ ys)) (length xs) ≡ Some y.items
by_length [] y ys = refl
by_length (x ∷ xs) y ys = by_length xs y ys

items_at_length : (xs : List Read) (y : Read) (ys : List Read) (n : ℕ) → length xs ≡ n
    → slice_get (items_by_source (xs ++ y ∷ ys)) n ≡ Some y.items
items_at_length xs y ys n long = subst (λ k. slice_get (items_by_source (xs ++ y ∷ ys)) k ≡ Some y.items) long
    (by_length xs y ys)

same_length : (views : Viewed) (params : List Value) (known : Knows) (reads : Reads) (n : ℕ) (ss : List Source)
    (c : Combined) → AllRead views params known reads n ss c → length c ≡ length ss
same_length views params known reads n [] [] h = refl
same_length views params known reads n [] (b ∷ bs) h = absurd h
same_length views params known reads n (s ∷ ss) [] h = absurd h
same_length views params known reads n (s ∷ ss) (b ∷ bs) h =
    ap suc (same_length views params known reads (n + 1) ss bs h.1)

-- the test of a place, where the source of that place and its items are known
pub test_at : (now : Schemas) (sources : List Source) (own : List (List Item)) (n : ℕ) (s : Source) (items : List Item)
    (row : Row) → slice_get sources n ≡ Some s → slice_get own n ≡ Some items
    → reads_by now sources own n row ≡ is_read_by now s.from items row
test_at now sources own n s items row at is =
    ap (λ o. is_read_at now o (slice_get own n) row) at ∙ ap (λ o. is_read_at now (Some s) o row) is

-- what is read of sources, of which these tests tell which rows are
abbrev pub AreRead : Viewed → List Value → Reads → ℕ → List Source → List Read → Type 0
AreRead views params reads n [] [] = Unit {0}
AreRead views params reads n (s ∷ ss) (r ∷ rs) =
    (r.kind ≡ s.from) × (r.rows ≡ filter (reads n) (rows_given views params s.from))
    × AreRead views params reads (n + 1) ss rs
AreRead views params reads n _ _ = ⊥

module _ (now : Schemas) (views : Viewed) (params : List Value) (from : FromClause) where
  abbrev asked : List Asked
  asked = all_asked from.sources (parts_of params from)

  abbrev read : List Read → SourceKind → Read
  read = read_of now views params asked

  abbrev own : List (List Item)
  own = items_by_source (sources_read now views params from)

  abbrev reads : Reads
  reads = reads_by now from.sources own

  -- of the sources to the left
  all_are_read : (n : ℕ) (left right : List Source) (earlier : List Read) → From from.sources n (left ++ right)
      → From own n (items_by_source (all_read read earlier (left ++ right)))
      → AreRead views params reads n left (all_read read earlier left)
  all_are_read n [] right earlier at is = tt
  all_are_read n (s ∷ left) right earlier at is =
      let r = read earlier s.from in
      let more = items_by_source (all_read read (earlier ++ r ∷ []) (left ++ right)) in
      let source_here = here_of from.sources n s (left ++ right) at in
      let own_here = here_of own n r.items more is in (
        refl,
        sym (filter_agree (reads n) (is_read_by now s.from r.items)
            (λ row. test_at now from.sources own n s r.items row source_here own_here)
            (rows_given views params s.from)),
        all_are_read (n + 1) left right (earlier ++ r ∷ []) (next_of from.sources n s (left ++ right) at)
            (next_of own n r.items more is),
      )

  rows_by : (n : ℕ) (ss : List Source) (rs : List Read) → AreRead views params reads n ss rs
      → rows_read views params reads n ss ≡ rows_by_source rs
  rows_by n [] [] h = refl
  rows_by n [] (r ∷ rs) h = absurd h
  rows_by n (s ∷ ss) [] h = absurd h
  rows_by n (s ∷ ss) (r ∷ rs) h =
      ap (λ rows. rows ∷ rows_read views params reads (n + 1) ss) (sym h.1)
      ∙ ap (λ all. r.rows ∷ all) (rows_by (n + 1) ss rs h.2)

  pub all_sources : AreRead views params reads 0 from.sources (sources_read now views params from)
  all_sources =
      let whole : from.sources ≡ from.sources ++ [] = sym (append-nil from.sources) in
      all_are_read 0 from.sources [] []
      (λ k. let same : 0 + k ≡ k = omega arith in ap (slice_get from.sources) same ∙ ap (λ ss. slice_get ss k) whole)
      (λ k. let same : 0 + k ≡ k = omega arith in ap (slice_get own) same
      ∙ ap (λ ss. slice_get (items_by_source (all_read read [] ss)) k) whole)

  pub rows_are : rows_read views params reads 0 from.sources ≡ rows_by_source (sources_read now views params from)
  rows_are = rows_by 0 from.sources (sources_read now views params from) all_sources

  -- ---- a row of an earlier source

  abbrev RowAt : Combined → ℕ → Read → Type 0
  RowAt before k u =
      (s : Source) × (row : Row) × (slice_get before k ≡ Some (bound_row s row)) × Among u.rows row

  read_here : (n : ℕ) (s : Source) (r : Read) (u : Read) (before : Combined) (b : Bound) → r ≡ u
      → r.kind ≡ s.from → r.rows ≡ filter (reads n) (rows_given views params s.from)
      → is_path u.kind ≡ false → Gives (IsRead views params is_known reads n s) s b → RowAt (b ∷ before) 0 u
  read_here n s r u before b same kind rows no_path (called_as, inl w) = (
    s,
    w.0,
    ap Some w.1,
    subst (λ x. Among x.rows w.0) same
        (subst (λ xs. Among xs w.0) (sym rows)
        (among_kept (reads n) (rows_given views params s.from) w.0 w.2.0.1 w.2.1)),
  )
  read_here n s r u before b same kind rows no_path (called_as, inr w) =
      absurd (false≢true (sym no_path ∙ ap (λ (x : Read). is_path x.kind) (sym same) ∙ ap is_path kind ∙ w.0))

  row_at : (n : ℕ) (ss : List Source) (before : Combined) (rs : List Read) (k : ℕ) (u : Read)
      → AllRead views params is_known reads n ss before → AreRead views params reads n ss rs
      → slice_get rs k ≡ Some u → is_path u.kind ≡ false → RowAt before k u
  row_at n [] before [] k u h are at no_path = cc
  row_at n [] before (r ∷ rs) k u h are at no_path = absurd are
  row_at n (s ∷ ss) before [] k u h are at no_path = absurd are
  row_at n (s ∷ ss) [] (r ∷ rs) k u h are at no_path = absurd h
  row_at n (s ∷ ss) (b ∷ before) (r ∷ rs) zero u h are at no_path =
      let same : r ≡ u = cc at in read_here n s r u before b same are.0 are.1 no_path h.0
  row_at n (s ∷ ss) (b ∷ before) (r ∷ rs) (suc k) u h are at no_path =
      row_at (n + 1) ss before rs k u h.1 are.2 at no_path

  -- ---- the values that a path means over the rows of an earlier source

  no_path_reached : (kind : SourceKind) (fields : List (List ℕ)) (f : List ℕ) → field_reached kind fields ≡ Some f
      → is_path kind ≡ false
  no_path_reached (source.Table name) fields f h = refl
  no_path_reached (source.History name start end) fields f h = refl
  no_path_reached (source.Path path) fields f h = cc

  module _ (left : List Source) (before rest : Combined) (rs : List Read)
      (h : AllRead views params is_known reads 0 left before) (are : AreRead views params reads 0 left rs) where
    in_rows : (place : ℕ) (fields : List (List ℕ)) (u : Read) (f : List ℕ) (v : Value)
        → slice_get rs place ≡ Some u → field_reached u.kind fields ≡ Some f
        → MeantIs (before ++ rest) (at_names place fields) (Found v) → Among (values_in u f) v
    in_rows place fields u f v at reach means =
        let w = row_at 0 left before rs place u h are at (no_path_reached u.kind fields f reach) in
        among_found (λ (row : Row). field_of f (content_shown u.kind row.value)) u.rows w.1 v w.3
        (reached_shown (before ++ rest) place w.0 w.1 (at_left before rest place (bound_row w.0 w.1) w.2) u.kind place
        fields f v refl reach means)

    by_field : (place : ℕ) (fields : List (List ℕ)) (u : Read) (o : Option (List ℕ)) (values : List Value) (v : Value)
        → slice_get rs place ≡ Some u → field_reached u.kind fields ≡ o → option_map (values_in u) o ≡ Some values
        → MeantIs (before ++ rest) (at_names place fields) (Found v) → Among values v
    by_field place fields u None values v at reach are means = cc
    by_field place fields u (Some f) values v at reach are means =
        let same : values_in u f ≡ values = cc are in
        subst (λ xs. Among xs v) same (in_rows place fields u f v at reach means)

    by_read : (place : ℕ) (fields : List (List ℕ)) (o : Option Read) (values : List Value) (v : Value)
        → slice_get rs place ≡ o → option_and_then (values_reached fields) o ≡ Some values
        → MeantIs (before ++ rest) (at_names place fields) (Found v) → Among values v
    by_read place fields None values v at are means = cc
    by_read place fields (Some u) values v at are means =
        by_field place fields u (field_reached u.kind fields) values v at refl are means

    pub reached : (m : Meant) (values : List Value) (v : Value) → values_meant rs m ≡ Some values
        → MeantIs (before ++ rest) m (Found v) → Among values v
    reached (id_of place) values v are means = cc
    reached unknown values v are means = cc
    reached (at_names place fields) values v are means =
        by_read place fields (slice_get rs place) values v refl are means

  -- ---- the law

  module _ (left right : List Source) (s : Source) (before after : Combined) (row : Row)
      (is : from.sources ≡ left ++ s ∷ right) (h : AllRead views params is_known reads 0 left before)
      (named : map called_in_row (before ++ bound_row s row ∷ after) ≡ map called from.sources)
      (known : IsKnown views params is_known s row) where
    abbrev c : Combined
    c = before ++ bound_row s row ∷ after

    abbrev earlier : List Read
    earlier = all_read read [] left

    long : length earlier ≡ length left
    long = length_read read [] left

    whole_sources : From from.sources 0 (left ++ s ∷ right)
    whole_sources k = let same : 0 + k ≡ k = omega arith in ap (slice_get from.sources) same
        ∙ ap (λ ss. slice_get ss k) is

    whole_own : From own 0 (items_by_source (all_read read [] (left ++ s ∷ right)))
    whole_own k = let same : 0 + k ≡ k = omega arith in ap (slice_get own) same
        ∙ ap (λ ss. slice_get (items_by_source (all_read read [] ss)) k) is

    are : AreRead views params reads 0 left earlier
    are = all_are_read 0 left (s ∷ right) [] whole_sources whole_own

    abbrev items : List Item
    items = (read earlier s.from).items

    own_at : slice_get own (length left) ≡ Some items
    own_at =
        let same : 0 + length left ≡ length left = omega arith in
        ap (slice_get own) (sym same) ∙ whole_own (length left)
        ∙ ap (λ rs. slice_get (items_by_source rs) (length left)) (read_append read [] left (s ∷ right))
        ∙ items_at_length earlier (read earlier s.from)
        (all_read read (earlier ++ read earlier s.from ∷ []) right) (length left) long

    source_at : slice_get from.sources (length left) ≡ Some s
    source_at = ap (λ ss. slice_get ss (length left)) is ∙ at_length left s right

    shown_by : is_kept params from c ≡ true → (o : Option TableId) → table_of now s.from ≡ o
        → is_read o s.from (items_at now asked earlier s.from o) row ≡ true
    shown_by kept None e = refl
    shown_by kept (Some table) e =
        items_shown c (record { place = length earlier; kind = s.from; table = table; earlier = earlier }) s row
        (ap (slice_get c) (long ∙ sym (same_length views params is_known reads 0 left before h))
        ∙ at_length before (bound_row s row) after)
        known.0 (reached left before (bound_row s row ∷ after) earlier h are) now asked
        (all_told c from.sources (parts_of params from) named (kept_holds params from c kept))

    pub not_kept : reads (length left) row ≡ false → is_kept params from c ≡ false
    not_kept unread =
        false_from_ne_true (is_kept params from c) (λ kept.
        both_ways _ unread
        (test_at now from.sources own (length left) s items row source_at own_at
        ∙ shown_by kept (table_of now s.from) refl))

pub footprint_covers : FootprintCovers
footprint_covers now views params from left right s before after row is h named known unread =
    not_kept now views params from left right s before after row is h named known unread

pub footprint_restricts : FootprintRestricts
footprint_restricts now views params from known =
    restriction views params from is_known
    (reads_by now from.sources (items_by_source (sources_read now views params from))) known
    (footprint_covers now views params from)
    ∙ ap (rows_over params from) (rows_are now views params from)
