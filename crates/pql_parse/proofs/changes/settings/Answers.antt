use Rattle.std.proofs.Common.{◌≡◌, ◌-◌, ◌++◌, List, [], ◌∷◌, false, true, Ok, Result, codes, arith, ap, sym, ◌∙◌}
use Rattle.pql_model.specs.declared.statement.Setting.{Setting}
use Rattle.pql_model.specs.Words.{is_symbol}
use Rattle.pql_model.specs.Productions.{Fault, Found, Reader, token_of}
use Rattle.pql_parse.specs.ClosedStatements.{settings_behind}
use Rattle.pql_expr_parser.specs.Gives.{seen}
use Rattle.pql_parse.proofs.ItemTurns.{setting_last, setting_more}
use Rattle.pql_parse.proofs.changes.settings.Goals as goal

pub returns-then-not-is_symbol : goal.returns-then-not-is_symbol
returns-then-not-is_symbol c =
    let comma : is_symbol (codes ",") (token_of (seen c.setting.new.parser)) ≡ false = sym c.is_symbol.ensures ∙ c.if-not-is_symbol.true in
    let read : List Setting → Result (Found (List Setting)) Fault = λ xs. Ok (record { tree = xs; reader = seen c.setting.new.parser }) in
    sym c.settings.invariant
    ∙ setting_last c.settings.more c.settings.settings (seen c.settings.parser) (seen c.setting.new.parser) c.in_ok-setting.setting (omega arith) c.in_ok-setting.ensures comma
    ∙ ap read (sym c.in_ok-push.ensures.ok)

pub settings-preserved : goal.settings-preserved
settings-preserved c =
    let comma : is_symbol (codes ",") (token_of (seen c.setting.new.parser)) ≡ true = sym c.is_symbol.ensures ∙ c.if-not-is_symbol.false in
    let behind : List Setting → Result (Found (List Setting)) Fault = λ xs. settings_behind (c.settings.more - 1) xs (seen c.advance.new.self) in
    let from : Reader → Result (Found (List Setting)) Fault = λ r. settings_behind (c.settings.more - 1) (c.settings.settings ++ c.in_ok-setting.setting ∷ []) r in
    ap behind c.in_ok-push.ensures.ok ∙ ap from c.advance.ensures
    ∙ sym (setting_more c.settings.more c.settings.settings (seen c.settings.parser) (seen c.setting.new.parser) c.in_ok-setting.setting (omega arith) c.in_ok-setting.ensures comma)
    ∙ c.settings.invariant
