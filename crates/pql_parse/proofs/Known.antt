-- What the set of variables knows, and the kind of a source by it.
use Rattle.std.proofs.Common.{◌≡◌, ℕ, ◌||◌, Bool, true, false, cond, List, [], ◌∷◌, ◌++◌, refl, sym, ap, ◌∙◌}
use Rattle.std.specs.Str.{bytes_eq}
use Rattle.std.specs.Prelude.{String}
use Rattle.std.specs.String.{string_bytes, string_cmp}
use Rattle.std.specs.BTreeSet.{BTreeSet, UpdatesBy, contains_text}
use Rattle.std.specs.Ordering.{nat_cmp}
use Rattle.std.specs.Cmp.Lexicographic.{slice_cmp}
use Rattle.std.proofs.lemmas.List.Folds.{list_any-append}
use Rattle.std.proofs.lemmas.Map.Text.{btree_set_updates_text}
use Rattle.pql_model.specs.declared.expr.Path.{Path}
use Rattle.pql_model.specs.declared.expr.PathStep.{PathStep}
use Rattle.pql_model.specs.declared.statement.Source.{Source}
use Rattle.pql_model.specs.declared.statement.SourceKind.TheVariants as source'
use Rattle.pql_model.specs.Grammar.{is_variable, kind_by}

either : (b old : Bool) → cond b true old ≡ (old || (b || false))
either true true = refl
either true false = refl
either false true = refl
either false false = refl

-- one source more
pub knows_more : {Y : Type 0} (old new : BTreeSet (String Y)) (sources : List Source) (s : Source) (name : List ℕ) → name ≡ s.variable →
    ((text : List ℕ) → contains_text old text ≡ is_variable sources text) →
    UpdatesBy string_cmp (λ k. slice_cmp nat_cmp name (string_bytes k)) old new true →
    (text : List ℕ) → contains_text new text ≡ is_variable (sources ++ s ∷ []) text
knows_more old new sources s name same knows updates text =
    btree_set_updates_text name old new true updates text
    ∙ ap (λ b. cond b true (contains_text old text)) (ap (λ n. bytes_eq n text) same)
    ∙ ap (λ b. cond (bytes_eq s.variable text) true b) (knows text)
    ∙ either (bytes_eq s.variable text) (is_variable sources text)
    ∙ sym (list_any-append (λ t. bytes_eq t.variable text) sources (s ∷ []))

pub kind_table : (earlier : List Source) (path : Path) (steps : List PathStep) → steps ≡ [] → is_variable earlier path.first ≡ false →
    source'.Table path.first ≡ kind_by earlier path steps
kind_table earlier path [] none unknown = ap (λ b. cond b (source'.Path path) (source'.Table path.first)) (sym unknown)
kind_table earlier path (s ∷ steps) none unknown = cc

pub kind_known : (earlier : List Source) (path : Path) (steps : List PathStep) → is_variable earlier path.first ≡ true → source'.Path path ≡ kind_by earlier path steps
kind_known earlier path [] known = ap (λ b. cond b (source'.Path path) (source'.Table path.first)) (sym known)
kind_known earlier path (s ∷ steps) known = refl

pub kind_stepped : (earlier : List Source) (path : Path) (steps : List PathStep) → (steps ≡ [] → ⊥) → source'.Path path ≡ kind_by earlier path steps
kind_stepped earlier path [] some = absurd (some refl)
kind_stepped earlier path (s ∷ steps) some = refl

pub ruleset kinds = (kind_table, kind_known, kind_stepped)
