-- The sources whose documents a statement changes are user views and paths, where it isn't refused for their tables'
-- names and they are no histories.
use Rattle.std.proofs.Common.{◌≡◌, ℕ, zero, suc, ◌+◌, Bool, true, false, not, ◌&&◌, ◌||◌, codes, length, List, [], ◌∷◌, ◌++◌, take, refl, ap, subst, arith, slice_get, Option, Some, None, Ok}
use Rattle.std.specs.Prelude.{nat_eq, if◌then◌else◌}
use Rattle.std.specs.Cmp.Lexicographic.{pointwise}
use Rattle.std.proofs.lemmas.Bool.{and_from, and_parts, both_ways, false_from_ne_true, false≢true, or_left, or_right}
use Rattle.pql_model.specs.declared.statement.Source.{Source}
use Rattle.pql_model.specs.declared.statement.SourceKind.{SourceKind}
use Rattle.pql_model.specs.declared.statement.SourceKind.TheVariants as source
use Rattle.pql_model.specs.declared.statement.Statement.{Statement}
use Rattle.pql_model.specs.declared.statement.Statement.TheVariants as statement
use Rattle.pql_model.specs.Parse.{parsed}
use Rattle.pql_model.specs.Roots.{is_name, is_root}
use Rattle.pql_model.specs.Tables.{is_committed}
use Rattle.ledger_model.specs.declared.outcome.Refusal.{Refusal}
use Rattle.ledger_model.specs.declared.outcome.Refusal.TheVariants.{ReservedName}
use Rattle.ledger_model.specs.Progress.{or_else}
use Rattle.ledger_model.specs.Statements.{is_reserved}
use Rattle.ledger_model.specs.Writing.{first_own, own_table}
use Rattle.laws_footprint.specs.Covered.{is_no_history}
use Rattle.pql_model.proofs.Equality.{inside}
use Rattle.pql_model.proofs.ParsedTargets.{tables_are_changed}
use Rattle.laws_footprint.proofs.Rows.{is_plain}

-- no source whose documents are changed, as its place tells, is a history
abbrev pub no_history_of : (ℕ → Bool) → ℕ → List Source → Bool
no_history_of is_changed n [] = true
no_history_of is_changed n (s ∷ ss) =
    (is_no_history s.from || not (is_changed n)) && no_history_of is_changed (n + 1) ss

abbrev pub changes_no_history : Statement → Bool
changes_no_history (statement.Update from change) = no_history_of (is_root from.sources change) 0 from.sources
changes_no_history (statement.From from change) = no_history_of (is_root from.sources change) 0 from.sources
changes_no_history (statement.Delete from) = no_history_of (λ n. true) 0 from.sources
changes_no_history _ = true

-- ---- statements that are read

name_is_none : (kind : SourceKind) → is_name kind ≡ true → is_no_history kind ≡ true
name_is_none (source.Table name) h = refl
name_is_none (source.History name start end) h = absurd (false≢true h)
name_is_none (source.Path path) h = refl

unless_changed : (kind : SourceKind) (b : Bool) → (b ≡ true → is_name kind ≡ true)
    → (is_no_history kind || not b) ≡ true
unless_changed kind true h = or_left (is_no_history kind) false (name_is_none kind (h refl))
unless_changed kind false h = or_right (is_no_history kind) true refl

no_history_by : (w : ℕ → Bool) (n : ℕ) (ss : List Source)
    → ((k : ℕ) (s : Source) → w (n + k) ≡ true → slice_get ss k ≡ Some s → is_name s.from ≡ true)
    → no_history_of w n ss ≡ true
no_history_by w n [] all = refl
no_history_by w n (s ∷ ss) all =
    let here : n ≡ n + 0 = omega arith in
    and_from (is_no_history s.from || not (w n)) (no_history_of w (n + 1) ss)
    (unless_changed s.from (w n) (λ h. all 0 s (subst (λ i. w i ≡ true) here h) refl))
    (no_history_by w (n + 1) ss (λ k t h at.
    let there : n + 1 + k ≡ n + suc k = omega arith in all (suc k) t (subst (λ i. w i ≡ true) there h) at))

from_start : (w : ℕ → Bool) (k : ℕ) → w (0 + k) ≡ true → w k ≡ true
from_start w k h = let same : 0 + k ≡ k = omega arith in subst (λ i. w i ≡ true) same h

pub read_changes_none : (text : List ℕ) (st : Statement) → parsed text ≡ Ok st → changes_no_history st ≡ true
read_changes_none text (statement.Update from change) e =
    no_history_by (is_root from.sources change) 0 from.sources (λ k s h at.
    tables_are_changed text (statement.Update from change) k s e (from_start (is_root from.sources change) k h) at)
read_changes_none text (statement.From from change) e =
    no_history_by (is_root from.sources change) 0 from.sources (λ k s h at.
    tables_are_changed text (statement.From from change) k s e (from_start (is_root from.sources change) k h) at)
read_changes_none text (statement.Delete from) e =
    no_history_by (λ n. true) 0 from.sources (λ k s h at.
    tables_are_changed text (statement.Delete from) k s e refl at)
read_changes_none text (statement.Select select from) e = refl
read_changes_none text (statement.Insert table value) e = refl
read_changes_none text (statement.Create table) e = refl
read_changes_none text (statement.Index table field) e = refl
read_changes_none text (statement.Drop table) e = refl
read_changes_none text (statement.Redact address table document) e = refl

-- ---- names of tables

prefix : (front more xs : List ℕ) → pointwise nat_eq (front ++ more) (take (length (front ++ more)) xs) ≡ true
    → pointwise nat_eq front (take (length front) xs) ≡ true
prefix [] more xs h = refl
prefix (y ∷ ys) more [] h = absurd (false≢true h)
prefix (y ∷ ys) more (x ∷ xs) h =
    let parts = and_parts (nat_eq y x) _ h in
    and_from (nat_eq y x) _ parts.0 (prefix ys more xs parts.1)

-- the name of a committed view is the ledger's own
committed_reserved : (name : List ℕ) → is_committed name ≡ true → is_reserved name ≡ true
committed_reserved name h = prefix (codes "_ql_") (codes "committed_") name h

not_own : (b : Bool) (cause : Refusal) → (if b then Some cause else None) ≡ None → b ≡ false
not_own true cause h = cc
not_own false cause h = refl

none_first : (a b : Option Refusal) → or_else a b ≡ None → (a ≡ None) × (b ≡ None)
none_first None b h = (refl, h)
none_first (Some cause) b h = cc

if_written : (b : Bool) (o : Option Refusal) → (if b then o else None) ≡ None → b ≡ true → o ≡ None
if_written true o h e = h
if_written false o h e = absurd (false≢true e)

plain_kind : (kind : SourceKind) → own_table kind ≡ None → is_no_history kind ≡ true → is_plain kind ≡ true
plain_kind (source.Table name) own past =
    let not_reserved = not_own (is_reserved name) (ReservedName name) own in
    ap not (false_from_ne_true (is_committed name) (λ c.
    both_ways (is_reserved name) not_reserved (committed_reserved name c)))
plain_kind (source.History name start end) own past = absurd (false≢true past)
plain_kind (source.Path path) own past = refl

no_past : (a b : Bool) → (a || not b) ≡ true → b ≡ true → a ≡ true
no_past true b h e = refl
no_past false true h e = absurd (false≢true h)
no_past false false h e = absurd (false≢true e)

-- they are user views, where the statement isn't refused and they are no histories
pub written_plain : (w : ℕ → Bool) (k : ℕ) (ss : List Source) → first_own w k ss ≡ None → no_history_of w k ss ≡ true
    → (n : ℕ) (x : Source) → slice_get ss n ≡ Some x → w (k + n) ≡ true → is_plain x.from ≡ true
written_plain w k [] own past n x at h = cc
written_plain w k (y ∷ ys) own past zero x at h =
    let here : k + 0 ≡ k = omega arith in
    let w_here = subst (λ i. w i ≡ true) here h in
    let owns = none_first (if w k then own_table y.from else None) (first_own w (k + 1) ys) own in
    let pasts = and_parts (is_no_history y.from || not (w k)) (no_history_of w (k + 1) ys) past in
    subst (λ (z : Source). is_plain z.from ≡ true) (inside y x at)
    (plain_kind y.from (if_written (w k) (own_table y.from) owns.0 w_here)
    (no_past (is_no_history y.from) (w k) pasts.0 w_here))
written_plain w k (y ∷ ys) own past (suc n) x at h =
    let there : k + suc n ≡ k + 1 + n = omega arith in
    let owns = none_first (if w k then own_table y.from else None) (first_own w (k + 1) ys) own in
    let pasts = and_parts (is_no_history y.from || not (w k)) (no_history_of w (k + 1) ys) past in
    written_plain w (k + 1) ys owns.1 pasts.1 n x at (subst (λ i. w i ≡ true) there h)
