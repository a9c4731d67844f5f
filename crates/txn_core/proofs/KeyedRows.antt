-- The rows with a key, if only they are at hand.
use Rattle.std.proofs.Common.{◌≡◌, ◌∙◌, ℕ, suc, arith, ◌==◌, Bool, true, false, List, [], ◌∷◌, length, map, refl, sym, ap, ap₂}
use Rattle.std.specs.Prelude.{◌||◌, if◌then◌else◌}
use Rattle.std.specs.List.{filter, filter_map}
use Rattle.std.proofs.lemmas.Bool.{eqb-true}
use Rattle.std.proofs.lemmas.List.{append-nil}
use Rattle.ion_values.specs.declared.value.Key.{Key}
use Rattle.ql_types.specs.declared.TableId.{TableId}
use Rattle.ledger_model.specs.declared.block.Draft.{Draft}
use Rattle.ledger_model.specs.State.{State, draft_of}
use Rattle.ledger_model.specs.Views.{latest, row_of, user_view}
use Rattle.pql_model.specs.declared.tables.Probe.{Probe}
use Rattle.pql_model.specs.declared.tables.Probe.TheVariants as probe
use Rattle.pql_model.specs.declared.tables.Row.{Row}
use Rattle.pql_model.specs.Tables.{meeting, meets}
use Rattle.versions.specs.Indexes.{has_key_in}
use Rattle.view_rows.proofs.Live.{met_alone}
use Rattle.txn_core.specs.declared.keyed.Wanted.{Wanted}
use Rattle.txn_core.specs.Keyed.{AsksFor}

-- ---- one key

or-none : (a : Bool) → (a || false) ≡ a
or-none true = refl
or-none false = refl

pub one_asked : (p : Probe) (field : List ℕ) (key : Key) (w : Wanted) → p ≡ probe.Key field key → w.field.now ≡ field → w.key.now ≡ key → AsksFor p w
one_asked p field key w is own same = λ row.
    ap (λ (q : Probe). meets q row) is ∙ sym (ap₂ (λ (f : List ℕ) (k : Key). meets (probe.Key f k) row) own same)

pub only_asked : (p : Probe) (field : List ℕ) (keys : List Key) (key : Key) (w : Wanted) → p ≡ probe.Keys field keys → keys ≡ key ∷ [] → w.field.now ≡ field
    → w.key.now ≡ key → AsksFor p w
only_asked p field keys key w is alone own same = λ row.
    ap (λ (q : Probe). meets q row) is ∙ ap (λ (ks : List Key). meets (probe.Keys field ks) row) alone
    ∙ or-none (meets (probe.Key field key) row)
    ∙ sym (ap₂ (λ (f : List ℕ) (k : Key). meets (probe.Key f k) row) own same)

-- ---- its rows

pub none_pend : (log : List Draft) → (length log == 0) ≡ true → log ≡ []
none_pend [] e = refl
none_pend (d ∷ log) e = let none : suc (length log) ≡ 0 = eqb-true (suc (length log)) 0 e in absurd (omega (arith, none))

same-meeting : (p q : Probe) → ((row : Row) → meets p row ≡ meets q row) → (rows : List Row) → meeting p rows ≡ meeting q rows
same-meeting p q same [] = refl
same-meeting p q same (row ∷ rows) =
    ap₂ (λ (b : Bool) (rest : List Row). if b then row ∷ rest else rest) (same row) (same-meeting p q same rows)

pub rows_keyed : (base : State) (log : List Draft) (table : TableId) (p : Probe) (w : Wanted) (documents : List Draft) → log ≡ [] → AsksFor p w
    → documents ≡ filter (has_key_in table w.field.now w.key.now) (latest (map draft_of base.revisions))
    → meeting p (filter_map (row_of table) documents) ≡ meeting p (user_view table (map draft_of base.revisions) log)
rows_keyed base log table p w documents none asks are =
    let q : Probe = probe.Key w.field.now w.key.now in
    let standing : List Draft = map draft_of base.revisions in
    same-meeting p q asks (filter_map (row_of table) documents)
    ∙ ap (λ (ds : List Draft). meeting q (filter_map (row_of table) ds)) are
    ∙ met_alone table q (latest standing)
    ∙ sym (same-meeting p q asks (filter_map (row_of table) (latest standing)))
    ∙ ap (λ (ds : List Draft). meeting p (filter_map (row_of table) (latest ds))) (sym (append-nil standing))
    ∙ ap (λ (ds : List Draft). meeting p (user_view table standing ds)) (sym none)
