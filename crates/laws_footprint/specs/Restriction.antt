-- The law of restriction: where each source's rows are cut to those that are read, FROM keeps the same rows, if ON and
-- WHERE are not true wherever a row that isn't read stands behind rows that are. So what is read of a source may depend
-- on what is read of those before it.
use Rattle.std.specs.Prelude.{◌≡◌, ◌⊎◌, ℕ, ◌+◌, Bool, true, false, List, [], ◌∷◌, ◌++◌, length, map, slice_get, Some, None}
use Rattle.std.specs.List.{AllByRecursion, filter}
use Rattle.ion_values.specs.declared.value.Value.{Value}
use Rattle.pql_model.specs.declared.scope.Bound.{Bound}
use Rattle.pql_model.specs.declared.statement.FromClause.{FromClause}
use Rattle.pql_model.specs.declared.statement.Source.{Source}
use Rattle.pql_model.specs.declared.statement.SourceKind.{SourceKind}
use Rattle.pql_model.specs.declared.tables.Row.{Row}
use Rattle.pql_model.specs.From.{Combined, Viewed, bound_row, is_kept, rows_given, rows_of, rows_over}
use Rattle.pql_model.specs.Names.{called, called_in_row}
use Rattle.pql_model.specs.Rules.{is_path}

-- a test on the rows of each source, by the source's place
abbrev pub Reads : Type 0
Reads = ℕ → Row → Bool

-- what is known of the rows of a source
abbrev pub Knows : Type 0
Knows = SourceKind → Row → Bool

-- the rows of the sources from this place on, cut to those that are read
abbrev pub rows_read : Viewed → List Value → Reads → ℕ → List Source → List (List Row)
rows_read views params reads n [] = []
rows_read views params reads n (s ∷ ss) =
    filter (reads n) (rows_given views params s.from) ∷ rows_read views params reads (n + 1) ss

-- so much is known of the rows that the sources give
abbrev pub AllKnown : Viewed → List Value → Knows → List Source → Type 0
AllKnown views params known sources = AllByRecursion (λ (s : Source).
    AllByRecursion (λ row. known s.from row ≡ true) (rows_given views params s.from)) sources

-- ---- combinations

-- it stands in the list
abbrev pub Among : {A : Type 0} → List A → A → Type 0
Among xs x = (k : ℕ) × (slice_get xs k ≡ Some x)

-- a row that the source gives and of which so much is known
abbrev pub IsKnown : Viewed → List Value → Knows → Source → Row → Type 0
IsKnown views params known s row = (known s.from row ≡ true) × Among (rows_given views params s.from) row

-- and which is read
abbrev pub IsRead : Viewed → List Value → Knows → Reads → ℕ → Source → Row → Type 0
IsRead views params known reads n s row = IsKnown views params known s row × (reads n row ≡ true)

-- such a row, or an element of a list, where the source is a path
abbrev pub Gives : (Row → Type 0) → Source → Bound → Type 0
Gives Is s b =
    (called_in_row b ≡ called s)
    × (((row : Row) × (b ≡ bound_row s row) × Is row) ⊎ ((is_path s.from ≡ true) × (b.id ≡ None)))

-- the combination is of rows that are read, source by source from this place on
abbrev pub AllRead : Viewed → List Value → Knows → Reads → ℕ → List Source → Combined → Type 0
AllRead views params known reads n [] [] = Unit {0}
AllRead views params known reads n (s ∷ ss) (b ∷ bs) =
    Gives (IsRead views params known reads n s) s b × AllRead views params known reads (n + 1) ss bs
AllRead views params known reads n [] (b ∷ bs) = ⊥
AllRead views params known reads n (s ∷ ss) [] = ⊥

-- a row that isn't read stands behind rows that are only in combinations on which the conditions aren't true
abbrev pub Covers : Viewed → List Value → FromClause → Knows → Reads → Type 0
Covers views params from known reads =
    (left right : List Source) (s : Source) (before after : Combined) (row : Row)
    → from.sources ≡ left ++ s ∷ right → AllRead views params known reads 0 left before
    → map called_in_row (before ++ bound_row s row ∷ after) ≡ map called from.sources
    → IsKnown views params known s row → reads (length left) row ≡ false
    → is_kept params from (before ++ bound_row s row ∷ after) ≡ false

abbrev pub Restriction : Type 0
Restriction =
    (views : Viewed) (params : List Value) (from : FromClause) (known : Knows) (reads : Reads)
    → AllKnown views params known from.sources → Covers views params from known reads
    → rows_of views params from ≡ rows_over params from (rows_read views params reads 0 from.sources)

-- two states give the same rows of FROM where each source gives the same rows of those that are read
abbrev pub FrameOfRows : Type 0
FrameOfRows =
    (before now : Viewed) (params : List Value) (from : FromClause) (known : Knows) (reads : Reads)
    → AllKnown before params known from.sources → AllKnown now params known from.sources
    → Covers before params from known reads → Covers now params from known reads
    → rows_read before params reads 0 from.sources ≡ rows_read now params reads 0 from.sources
    → rows_of before params from ≡ rows_of now params from
