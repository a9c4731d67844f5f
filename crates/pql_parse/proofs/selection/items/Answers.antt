use Rattle.std.proofs.Common.{◌≡◌, ◌-◌, ◌++◌, List, [], ◌∷◌, false, true, Ok, Result, codes, arith, ap, sym, ◌∙◌}
use Rattle.pql_model.specs.declared.statement.SelectItem.{SelectItem}
use Rattle.pql_model.specs.Words.{is_symbol}
use Rattle.pql_model.specs.Productions.{Fault, Found, Reader, token_of}
use Rattle.pql_parse.specs.ClosedStatements.{items_behind}
use Rattle.pql_expr_parser.specs.Gives.{seen}
use Rattle.pql_parse.proofs.ItemTurns.{item_last, item_more}
use Rattle.pql_parse.proofs.selection.items.Goals as goal

pub returns-then-not-is_symbol : goal.returns-then-not-is_symbol
returns-then-not-is_symbol c =
    let comma : is_symbol (codes ",") (token_of (seen c.item.new.parser)) ≡ false = sym c.is_symbol.ensures ∙ c.if-not-is_symbol.true in
    let read : List SelectItem → Result (Found (List SelectItem)) Fault = λ xs. Ok (record { tree = xs; reader = seen c.item.new.parser }) in
    sym c.items.invariant
    ∙ item_last c.items.more c.items.items (seen c.items.parser) (seen c.item.new.parser) c.in_ok-item.item (omega arith) c.in_ok-item.ensures comma
    ∙ ap read (sym c.in_ok-push.ensures.ok)

pub items-preserved : goal.items-preserved
items-preserved c =
    let comma : is_symbol (codes ",") (token_of (seen c.item.new.parser)) ≡ true = sym c.is_symbol.ensures ∙ c.if-not-is_symbol.false in
    let behind : List SelectItem → Result (Found (List SelectItem)) Fault = λ xs. items_behind (c.items.more - 1) xs (seen c.advance.new.self) in
    let from : Reader → Result (Found (List SelectItem)) Fault = λ r. items_behind (c.items.more - 1) (c.items.items ++ c.in_ok-item.item ∷ []) r in
    ap behind c.in_ok-push.ensures.ok ∙ ap from c.advance.ensures
    ∙ sym (item_more c.items.more c.items.items (seen c.items.parser) (seen c.item.new.parser) c.in_ok-item.item (omega arith) c.in_ok-item.ensures comma)
    ∙ c.items.invariant
