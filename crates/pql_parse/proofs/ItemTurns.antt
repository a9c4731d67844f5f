-- Single turns of items and of settings, which stand with commas between them.
use Rattle.std.proofs.Common.{◌≡◌, ℕ, zero, suc, ◌-◌, ◌<◌, true, false, List, [], ◌∷◌, ◌++◌, length, Ok, Err, codes, refl, ap, ◌∙◌, arith}
use Rattle.pql_model.specs.declared.ParseKind.TheVariants as kind
use Rattle.pql_model.specs.declared.statement.SelectItem.{SelectItem}
use Rattle.pql_model.specs.declared.statement.Setting.{Setting}
use Rattle.pql_model.specs.Words.{is_symbol}
use Rattle.pql_model.specs.Productions.{Fault, Production, Reader, advanced, choose, give, onward, past, refuse, token_of}
use Rattle.pql_parse.specs.ClosedStatements.{item, items, items_behind, setting, settings, settings_behind}
use Rattle.pql_expr_parser.proofs.Onward.{chosen, not_chosen}

-- ---- items

abbrev items_on : ℕ → List SelectItem → SelectItem → Production (List SelectItem)
items_on more so_far x = choose (is_symbol (codes ",")) (past (items_behind more (so_far ++ x ∷ []))) (give (so_far ++ x ∷ []))

items_turn : (more : ℕ) (so_far : List SelectItem) (r : Reader) → items_behind (suc more) so_far r ≡ onward (items_on more so_far) (item r)
unfolding items_behind item
items_turn more so_far r = refl

pub items_open : (r : Reader) → items r ≡ items_behind (length r.rest) [] r
unfolding items items_behind
items_open r = refl

pub items_out : (more : ℕ) (so_far : List SelectItem) (r : Reader) → more ≡ 0 → items_behind more so_far r ≡ refuse kind.Unexpected r
unfolding items_behind
items_out zero so_far r e = refl
items_out (suc more) so_far r e = absurd (omega arith)

pub item_fault : (more : ℕ) (so_far : List SelectItem) (r : Reader) (f : Fault) → 0 < more → item r ≡ Err f → items_behind more so_far r ≡ Err f
item_fault zero so_far r f h e = absurd (omega arith)
item_fault (suc more) so_far r f h e = items_turn more so_far r ∙ ap (onward (items_on more so_far)) e

pub item_last : (more : ℕ) (so_far : List SelectItem) (r s : Reader) (x : SelectItem) → 0 < more → item r ≡ Ok (record { tree = x; reader = s }) →
    is_symbol (codes ",") (token_of s) ≡ false → items_behind more so_far r ≡ Ok (record { tree = so_far ++ x ∷ []; reader = s })
item_last zero so_far r s x h e comma = absurd (omega arith)
item_last (suc more) so_far r s x h e comma =
    items_turn more so_far r ∙ ap (onward (items_on more so_far)) e
    ∙ not_chosen (is_symbol (codes ",")) (past (items_behind more (so_far ++ x ∷ []))) (give (so_far ++ x ∷ [])) s comma

pub item_more : (more : ℕ) (so_far : List SelectItem) (r s : Reader) (x : SelectItem) → 0 < more → item r ≡ Ok (record { tree = x; reader = s }) →
    is_symbol (codes ",") (token_of s) ≡ true → items_behind more so_far r ≡ items_behind (more - 1) (so_far ++ x ∷ []) (advanced s)
item_more zero so_far r s x h e comma = absurd (omega arith)
item_more (suc more) so_far r s x h e comma =
    let less : more ≡ suc more - 1 = omega arith in
    items_turn more so_far r ∙ ap (onward (items_on more so_far)) e
    ∙ chosen (is_symbol (codes ",")) (past (items_behind more (so_far ++ x ∷ []))) (give (so_far ++ x ∷ [])) s comma
    ∙ ap (λ n. items_behind n (so_far ++ x ∷ []) (advanced s)) less

-- ---- settings

abbrev settings_on : ℕ → List Setting → Setting → Production (List Setting)
settings_on more so_far x = choose (is_symbol (codes ",")) (past (settings_behind more (so_far ++ x ∷ []))) (give (so_far ++ x ∷ []))

settings_turn : (more : ℕ) (so_far : List Setting) (r : Reader) → settings_behind (suc more) so_far r ≡ onward (settings_on more so_far) (setting r)
unfolding settings_behind setting
settings_turn more so_far r = refl

pub settings_open : (r : Reader) → settings r ≡ settings_behind (length r.rest) [] r
unfolding settings settings_behind
settings_open r = refl

pub settings_out : (more : ℕ) (so_far : List Setting) (r : Reader) → more ≡ 0 → settings_behind more so_far r ≡ refuse kind.Unexpected r
unfolding settings_behind
settings_out zero so_far r e = refl
settings_out (suc more) so_far r e = absurd (omega arith)

pub setting_fault : (more : ℕ) (so_far : List Setting) (r : Reader) (f : Fault) → 0 < more → setting r ≡ Err f → settings_behind more so_far r ≡ Err f
setting_fault zero so_far r f h e = absurd (omega arith)
setting_fault (suc more) so_far r f h e = settings_turn more so_far r ∙ ap (onward (settings_on more so_far)) e

pub setting_last : (more : ℕ) (so_far : List Setting) (r s : Reader) (x : Setting) → 0 < more → setting r ≡ Ok (record { tree = x; reader = s }) →
    is_symbol (codes ",") (token_of s) ≡ false → settings_behind more so_far r ≡ Ok (record { tree = so_far ++ x ∷ []; reader = s })
setting_last zero so_far r s x h e comma = absurd (omega arith)
setting_last (suc more) so_far r s x h e comma =
    settings_turn more so_far r ∙ ap (onward (settings_on more so_far)) e
    ∙ not_chosen (is_symbol (codes ",")) (past (settings_behind more (so_far ++ x ∷ []))) (give (so_far ++ x ∷ [])) s comma

pub setting_more : (more : ℕ) (so_far : List Setting) (r s : Reader) (x : Setting) → 0 < more → setting r ≡ Ok (record { tree = x; reader = s }) →
    is_symbol (codes ",") (token_of s) ≡ true → settings_behind more so_far r ≡ settings_behind (more - 1) (so_far ++ x ∷ []) (advanced s)
setting_more zero so_far r s x h e comma = absurd (omega arith)
setting_more (suc more) so_far r s x h e comma =
    let less : more ≡ suc more - 1 = omega arith in
    settings_turn more so_far r ∙ ap (onward (settings_on more so_far)) e
    ∙ chosen (is_symbol (codes ",")) (past (settings_behind more (so_far ++ x ∷ []))) (give (so_far ++ x ∷ [])) s comma
    ∙ ap (λ n. settings_behind n (so_far ++ x ∷ []) (advanced s)) less

-- ---- what a turn does

pub ruleset item_turns = (items_open, items_out, item_fault, item_last, item_more)

pub ruleset setting_turns = (settings_open, settings_out, setting_fault, setting_last, setting_more)
