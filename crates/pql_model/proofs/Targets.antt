-- The path of each change has a mark, by which it is judged: so documents are changed of tables alone.
use Prim.Native.String.{String}
use Rattle.std.proofs.Common.{◌≡◌, ◌∙◌, inl, inr, ℕ, zero, suc, Bool, true, false, if◌then◌else◌, List, [], ◌∷◌, ◌++◌, length, map, slice_get, Result, Ok, Err, Option, Some, None, codes, refl, sym, subst}
use Rattle.std.specs.List.{AllByRecursion, list_any}
use Rattle.std.specs.Str.{bytes_eq}
use Rattle.std.proofs.lemmas.Bool.{and_parts, eqb-true, false≢true, or_cases, or_left, or_right}
use Rattle.std.proofs.lemmas.List.{map-append}
use Rattle.std.proofs.lemmas.List.Folds.{list_any-append}
use Rattle.std.proofs.lemmas.Slice.Eq.{bytes_eq-Decides}
use Rattle.pql_model.specs.declared.ParseKind.{ParseKind}
use Rattle.pql_model.specs.declared.ParseKind.TheVariants as kind
use Rattle.pql_model.specs.declared.expr.Expr.{Expr}
use Rattle.pql_model.specs.declared.expr.Path.{Path}
use Rattle.pql_model.specs.declared.mark.Mark.{Mark}
use Rattle.pql_model.specs.declared.mark.Place.{Place}
use Rattle.pql_model.specs.declared.mark.Role.{Role}
use Rattle.pql_model.specs.declared.mark.Role.TheVariants as role
use Rattle.pql_model.specs.declared.names.Resolved.{Resolved}
use Rattle.pql_model.specs.declared.names.Resolved.TheVariants.{Variable, Id}
use Rattle.pql_model.specs.declared.statement.Change.{Change}
use Rattle.pql_model.specs.declared.statement.Change.TheVariants as change'
use Rattle.pql_model.specs.declared.statement.Setting.{Setting}
use Rattle.pql_model.specs.declared.statement.Source.{Source}
use Rattle.pql_model.specs.declared.statement.SourceKind.{SourceKind}
use Rattle.pql_model.specs.declared.statement.SourceKind.TheVariants as source'
use Rattle.pql_model.specs.Expressions.{expression, free_path}
use Rattle.pql_model.specs.Grammar.{at_place, begins_step, change, insertion, setting, settings, settings_behind, target}
use Rattle.pql_model.specs.Names.{called, root_by}
use Rattle.pql_model.specs.Productions.{Fault, Found, Production, Reader, ◌>>=◌, advanced, by_name, choose, give, marked, onward, past, refuse, symbol, token_of, word}
use Rattle.pql_model.specs.Roots.{is_at, is_name, is_root, root_place, targets}
use Rattle.pql_model.specs.Rules.{fault_or, first_fault, is_table, is_table_at, is_target, is_target_of_one, judged, resolved, unless}
use Rattle.pql_model.specs.Words.{is_symbol, is_word, name_of}
use Rattle.pql_model.proofs.ExpressionMarks.{BeginsWith, keeps_expression, keeps_free_path}
use Rattle.pql_model.proofs.MarksKept.{Any, Grown, Kept, Keeps, keeps_any, keeps_give, keeps_marked, keeps_optional, keeps_past, keeps_symbol, keeps_then, keeps_with_name, keeps_word}

-- ---- what is given, with the marks behind it

abbrev pub Gave : {A : Type 0} → (A → List Mark → Type 0) → Result (Found A) Fault → Type 0
Gave P (Ok found) = P found.tree found.reader.marks
Gave P (Err fault) = Unit {0}

pub gave_then : {A B : Type 0} → (P : A → List Mark → Type 0) (Q : B → List Mark → Type 0) (f : A → Production B)
    (result : Result (Found A) Fault) → Gave P result
    → ((x : A) (r : Reader) → P x r.marks → Gave Q (f x r)) → Gave Q (onward f result)
gave_then P Q f (Ok found) g next = next found.tree found.reader g
gave_then P Q f (Err fault) g next = tt

pub gave_choice : {A : Type 0} → (Q : A → List Mark → Type 0) (b : Bool) (p q : Production A) (r : Reader)
    → Gave Q (p r) → Gave Q (q r) → Gave Q ((if b then p else q) r)
gave_choice Q true p q r f g = f
gave_choice Q false p q r f g = g

-- a production that only adds marks gives what it gives of marks that were set before
pub gave_kept : {A : Type 0} → (P : A → Type 0) (Q : A → List Mark → Type 0) (before : List Mark)
    (result : Result (Found A) Fault) → Kept P before result
    → ((x : A) (behind : List Mark) → P x → Grown before behind → Q x behind) → Gave Q result
gave_kept P Q before (Ok found) k next = next found.tree found.reader.marks k.0 k.1
gave_kept P Q before (Err fault) k next = tt

pub gave_both : {A : Type 0} → (P : A → List Mark → Type 0) (before : List Mark) (result : Result (Found A) Fault)
    → Gave P result → Kept Any before result → Gave (λ x ms. P x ms × Grown before ms) result
gave_both P before (Ok found) g k = (g, k.1)
gave_both P before (Err fault) g k = tt

pub gave_word : {A : Type 0} → (Q : A → List Mark → Type 0) (text : String) (p : Production A) (r : Reader)
    → Gave Q (p (advanced r)) → Gave Q (word text p r)
gave_word Q text p r g = gave_choice Q (is_word (codes text) (token_of r)) (past p) (refuse kind.Unexpected) r g tt

-- ---- a mark of a path

abbrev pub names_role : List ℕ → Role → Bool
names_role first (role.Target name has_steps) = bytes_eq name first
names_role first _ = false

abbrev pub names : List ℕ → Mark → Bool
names first m = names_role first m.role

abbrev pub IsMarked : Path → List Mark → Type 0
IsMarked p marks = list_any (names p.first) marks ≡ true

abbrev pub AllMarked : List Path → List Mark → Type 0
AllMarked ps marks = AllByRecursion (λ p. IsMarked p marks) ps

grown_all : (ps : List Path) (before behind : List Mark) → Grown before behind → AllMarked ps before
    → AllMarked ps behind
grown_all [] before behind more h = tt
grown_all (p ∷ ps) before behind more h = (more (names p.first) h.0, grown_all ps before behind more h.1)

all_joined : (ps qs : List Path) (marks : List Mark) → AllMarked ps marks → AllMarked qs marks
    → AllMarked (ps ++ qs) marks
all_joined [] qs marks h k = k
all_joined (p ∷ ps) qs marks h k = (h.0, all_joined ps qs marks h.1 k)

-- ---- the path of a change

one_marked : (first : List ℕ) (ms : List Mark) (m : Mark) → names first m ≡ true
    → list_any (names first) (ms ++ m ∷ []) ≡ true
one_marked first ms m h =
    list_any-append (names first) ms (m ∷ [])
    ∙ or_right (list_any (names first) ms) (list_any (names first) (m ∷ [])) (or_left (names first m) false h)

path_marked : (first : List ℕ) (r : Reader) → list_any (names first) r.marks ≡ true
    → Gave IsMarked (free_path first r)
path_marked first r h =
    gave_kept (BeginsWith first) IsMarked r.marks (free_path first r) ((keeps_free_path first).at r)
    (λ p behind is more. subst (λ name. list_any (names name) behind ≡ true) (sym is) (more (names first) h))

abbrev target_named : List ℕ → Production Path
target_named first r = marked (role.Target first (begins_step (token_of (advanced r)))) (past (free_path first)) r

target_by : (r : Reader) (found : Option (List ℕ)) → Gave IsMarked (by_name target_named found r)
target_by r None = tt
target_by r (Some first) = path_marked first _ (one_marked first r.marks _ ((bytes_eq-Decides first first).1 refl))

target_marked : (r : Reader) → Gave IsMarked (target r)
target_marked r = target_by r (name_of (token_of r))

keeps_target_named : (first : List ℕ) → Keeps Path Any (target_named first)
keeps_target_named first =
    record { at = λ r. (keeps_marked (role.Target first _) (keeps_past (keeps_any (keeps_free_path first)))).at r }

keeps_target : Keeps Path Any target
keeps_target = keeps_with_name target_named keeps_target_named

-- ---- SET

abbrev set_path : Setting → Path
set_path s = s.target

abbrev set_behind : Path → Production Setting
set_behind p = symbol "=" (expression >>= (λ e. give (record { target = p; value = e })))

keeps_set : (p : Path) → Keeps Setting (λ s. s.target ≡ p) (set_behind p)
keeps_set p = keeps_symbol "=" (keeps_then _ keeps_expression (λ e h. keeps_give _ refl))

setting_kept : Keeps Setting Any setting
setting_kept = keeps_then set_behind keeps_target (λ p h. keeps_any (keeps_set p))

setting_marked : (r : Reader) → Gave (λ s ms. IsMarked (set_path s) ms) (setting r)
setting_marked r =
    gave_then IsMarked (λ s ms. IsMarked (set_path s) ms) set_behind (target r) (target_marked r)
    (λ p t h. gave_kept (λ (s : Setting). s.target ≡ p) (λ s ms. IsMarked (set_path s) ms) t.marks (set_behind p t)
    ((keeps_set p).at t)
    (λ s behind is more. subst (λ q. IsMarked q behind) (sym is) (more (names p.first) h)))

abbrev AllSet : List Setting → List Mark → Type 0
AllSet ss ms = AllMarked (map set_path ss) ms

one_more : (ss : List Setting) (s : Setting) (before behind : List Mark) → AllSet ss before
    → IsMarked s.target behind → Grown before behind → AllSet (ss ++ s ∷ []) behind
one_more ss s before behind h k more =
    subst (λ ps. AllMarked ps behind) (sym (map-append set_path ss (s ∷ [])))
    (all_joined (map set_path ss) (set_path s ∷ []) behind (grown_all (map set_path ss) before behind more h)
    (k, tt))

abbrev settings_after : ℕ → List Setting → Setting → Production (List Setting)
settings_after more so_far s =
    choose (is_symbol (codes ",")) (past (settings_behind more (so_far ++ s ∷ []))) (give (so_far ++ s ∷ []))

settings_marked : (more : ℕ) (so_far : List Setting) (r : Reader) → AllSet so_far r.marks
    → Gave AllSet (settings_behind more so_far r)
settings_marked zero so_far r h = tt
settings_marked (suc more) so_far r h =
    gave_then (λ s ms. IsMarked (set_path s) ms × Grown r.marks ms) AllSet (settings_after more so_far) (setting r)
    (gave_both (λ s ms. IsMarked (set_path s) ms) r.marks (setting r) (setting_marked r) (setting_kept.at r))
    (λ s t k.
    let all = one_more so_far s r.marks t.marks h k.0 k.1 in
    gave_choice AllSet (is_symbol (codes ",") (token_of t)) (past (settings_behind more (so_far ++ s ∷ [])))
    (give (so_far ++ s ∷ [])) t (settings_marked more (so_far ++ s ∷ []) (advanced t) all) all)

-- ---- changes

abbrev pub AllTargets : Change → List Mark → Type 0
AllTargets c ms = AllMarked (targets c) ms

set_marked : (r : Reader) → Gave AllTargets ((settings >>= (λ ss. give (change'.Set ss))) r)
set_marked r =
    gave_then AllSet AllTargets (λ ss. give (change'.Set ss)) (settings r)
    (settings_marked (length r.rest) [] r tt) (λ ss t h. h)

abbrev inserted_behind : Path → Production Change
inserted_behind p = word "VALUE" (expression >>= (λ e. at_place >>= (λ at. give (change'.Insert p e at))))

keeps_at : Keeps (Option Expr) Any at_place
keeps_at = keeps_optional (is_word (codes "AT")) (keeps_word "AT" keeps_expression)

keeps_inserted : (p : Path) → Keeps Change (λ c. targets c ≡ p ∷ []) (inserted_behind p)
keeps_inserted p =
    keeps_word "VALUE"
    (keeps_then _ keeps_expression (λ e h. keeps_then _ keeps_at (λ at k. keeps_give _ refl)))

insertion_marked : (r : Reader) → Gave AllTargets (insertion r)
insertion_marked r =
    gave_word AllTargets "INTO" (target >>= inserted_behind) r
    (gave_then IsMarked AllTargets inserted_behind (target (advanced r)) (target_marked (advanced r))
    (λ p t h. gave_kept (λ c. targets c ≡ p ∷ []) AllTargets t.marks (inserted_behind p t)
    ((keeps_inserted p).at t)
    (λ c behind is more. subst (λ ps. AllMarked ps behind) (sym is) (more (names p.first) h, tt))))

remove_marked : (r : Reader) → Gave AllTargets (word "REMOVE" (target >>= (λ p. give (change'.Remove p))) r)
remove_marked r =
    gave_word AllTargets "REMOVE" (target >>= (λ p. give (change'.Remove p))) r
    (gave_then IsMarked AllTargets (λ p. give (change'.Remove p)) (target (advanced r)) (target_marked (advanced r))
    (λ p t h. (h, tt)))

abbrev insert_or_remove : Production Change
insert_or_remove =
    choose (is_word (codes "INSERT")) (past insertion) (word "REMOVE" (target >>= (λ p. give (change'.Remove p))))

pub change_marked : (r : Reader) → Gave AllTargets (change r)
change_marked r =
    gave_choice AllTargets (is_word (codes "SET") (token_of r))
    (past (settings >>= (λ ss. give (change'.Set ss)))) insert_or_remove r (set_marked (advanced r))
    (gave_choice AllTargets (is_word (codes "INSERT") (token_of r)) (past insertion)
    (word "REMOVE" (target >>= (λ p. give (change'.Remove p)))) r (insertion_marked (advanced r)) (remove_marked r))

-- ---- marks are judged

if_true : (b : Bool) (k : ParseKind) → unless b k ≡ None → b ≡ true
if_true true k h = refl
if_true false k h = cc h

fault_none : (at : ℕ) (o : Option ParseKind) (later : Option Fault) → fault_or at o later ≡ None
    → (o ≡ None) × (later ≡ None)
fault_none at None later h = (refl, h)
fault_none at (Some k) later h = cc h

abbrev Judged : List Source → List ℕ → Type 0
Judged sources first = (b : Bool) × (is_target b sources (resolved first sources) ≡ true)

role_judged : (sources : List Source) (first : List ℕ) (p : Place) (role : Role) → names_role first role ≡ true
    → judged p role sources ≡ None → Judged sources first
role_judged sources first p (role.Target name b) named none =
    let same : name ≡ first = (bytes_eq-Decides name first).0 named in (
      b,
      subst (λ x. is_target b sources (resolved x sources) ≡ true) same (if_true _ kind.BadTarget none),
    )
role_judged sources first p (role.Name name) named none = absurd (false≢true named)
role_judged sources first p (role.Root name) named none = absurd (false≢true named)
role_judged sources first p role.By named none = absurd (false≢true named)
role_judged sources first p role.Aggregate named none = absurd (false≢true named)
role_judged sources first p (role.Item whole aggregates) named none = absurd (false≢true named)

abbrev pub Unfaulted : List Source → List Mark → Type 0
Unfaulted sources ms = first_fault (λ (m : Mark). judged m.place m.role sources) ms ≡ None

marks_judged : (sources : List Source) (first : List ℕ) (ms : List Mark) → Unfaulted sources ms
    → list_any (names first) ms ≡ true → Judged sources first
marks_judged sources first [] none h = absurd (false≢true h)
marks_judged sources first (m ∷ ms) none h =
    let both = fault_none m.at (judged m.place m.role sources) _ none in
    elim (or_cases (names first m) (list_any (names first) ms) h) as (λ _. Judged sources first) [
      | inl here ↦ role_judged sources first m.place m.role here both.0
      | inr there ↦ marks_judged sources first ms both.1 there
    ]

-- ---- the source at which a path begins

name_of_table : (kind : SourceKind) → is_table kind ≡ true → is_name kind ≡ true
name_of_table (source'.Table name) h = refl
name_of_table (source'.History table start end) h = absurd (false≢true h)
name_of_table (source'.Path path) h = absurd (false≢true h)

table_in : (ss : List Source) (k : ℕ) (s : Source) → slice_get ss k ≡ Some s → is_table_at k ss ≡ true
    → is_table s.from ≡ true
table_in [] k s at h = cc at
table_in (x ∷ ss) zero s at h =
    let same : x ≡ s = cc at in
    elim (or_cases (is_table x.from) false h) as (λ _. is_table s.from ≡ true) [
      | inl here ↦ subst (λ (y : Source). is_table y.from ≡ true) same here
      | inr there ↦ absurd (false≢true there)
    ]
table_in (x ∷ ss) (suc k) s at h = table_in ss k s at h

only : (ss : List Source) (n : ℕ) (s : Source) → is_target_of_one ss ≡ true
    → is_at n (root_by (map called ss) None) ≡ true → slice_get ss n ≡ Some s → is_table s.from ≡ true
only [] n s h root at = absurd (false≢true h)
only (x ∷ []) zero s h root at = let same : x ≡ s = cc at in subst (λ (y : Source). is_table y.from ≡ true) same h
only (x ∷ []) (suc n) s h root at = cc at
only (x ∷ y ∷ ss) n s h root at = absurd (false≢true h)

by_root : (ss : List Source) (b : Bool) (o : Option Resolved) (n : ℕ) (s : Source) → is_target b ss o ≡ true
    → is_at n (root_by (map called ss) o) ≡ true → slice_get ss n ≡ Some s → is_table s.from ≡ true
by_root ss b (Some (Variable k)) n s h root at =
    let same : k ≡ n = eqb-true k n root in
    table_in ss n s at (subst (λ m. is_table_at m ss ≡ true) same (and_parts b (is_table_at k ss) h).1)
by_root ss b (Some (Id k)) n s h root at = absurd (false≢true h)
by_root ss b None n s h root at = only ss n s h root at

abbrev begins_at : List Source → ℕ → Path → Bool
begins_at ss n p = is_at n (root_place ss p)

root_is_name : (ss : List Source) (ms : List Mark) → Unfaulted ss ms → (ps : List Path) → AllMarked ps ms
    → (n : ℕ) (s : Source) → list_any (begins_at ss n) ps ≡ true → slice_get ss n ≡ Some s → is_name s.from ≡ true
root_is_name ss ms none [] all n s h at = absurd (false≢true h)
root_is_name ss ms none (p ∷ ps) all n s h at =
    elim (or_cases (begins_at ss n p) (list_any (begins_at ss n) ps) h) as (λ _. is_name s.from ≡ true) [
      | inl here ↦
          let j = marks_judged ss p.first ms none all.0 in
          name_of_table s.from (by_root ss j.0 (resolved p.first ss) n s j.1 here at)
      | inr there ↦ root_is_name ss ms none ps all.1 n s there at
    ]

pub changed_is_name : (ss : List Source) (c : Change) (ms : List Mark) → Unfaulted ss ms → AllTargets c ms
    → (n : ℕ) (s : Source) → is_root ss c n ≡ true → slice_get ss n ≡ Some s → is_name s.from ≡ true
changed_is_name ss c ms none all n s h at = root_is_name ss ms none (targets c) all n s h at
