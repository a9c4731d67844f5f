-- So may the statements that a worker has read.
use denote.Param.Send.{IsSend, sendable}
use denote.Param.SendFields.{declared_send, variants_send}
use Rattle.std.proofs.Crossing.{crosses}
use Rattle.pql_model.proofs.expr.Expr.TheLaws.TheKnot as expressions
use Rattle.pql_model.specs.contracts.expr.Expr as Expr
use Rattle.pql_model.specs.contracts.expr.Path as Path
use Rattle.pql_model.specs.contracts.statement.Change as Change
use Rattle.pql_model.specs.contracts.statement.FromClause as FromClause
use Rattle.pql_model.specs.contracts.statement.Select as Select
use Rattle.pql_model.specs.contracts.statement.SelectItem as SelectItem
use Rattle.pql_model.specs.contracts.statement.Setting as Setting
use Rattle.pql_model.specs.contracts.statement.Source as Source
use Rattle.pql_model.specs.contracts.statement.SourceKind as SourceKind
use Rattle.pql_model.specs.contracts.statement.Statement as Statement
use Rattle.containers.proofs.text.Text.TheSendSync as text
use Rattle.containers.proofs.sequence.Sequence.TheSendSync as sequence
use Rattle.txn_core.specs.contracts.statements.ReadStatement as ReadStatement
use Rattle.txn_core.specs.contracts.statements.Statements as Statements
use Rattle.journal_text.proofs.BlocksCross.{value_send}

expr_send : IsSend (Expr.the_field).row
expr_send = let v = value_send in search (sendable, crosses, expressions.send-Expr) depth 40 fits 5000

path_send : IsSend (Path.the_field).row
path_send = let v = value_send in search (sendable, crosses, expressions.send-Path) depth 40 fits 5000

item_send : IsSend SelectItem.the_row
item_send = let e = expr_send in search (sendable, text.the_send) depth 10

select_send : IsSend Select.the_row
select_send = let e = expr_send in let i = item_send in search (sendable, sequence.the_send) depth 10

kind_send : IsSend SourceKind.the_row
kind_send = let e = expr_send in let p = path_send in search (sendable, text.the_send) depth 20

source_send : IsSend Source.the_row
source_send = declared_send Source.the_type
    (kind_send, (text.the_send, (search (sendable, text.the_send) depth 8, (let e = expr_send in search sendable depth 8, tt))))

from_send : IsSend FromClause.the_row
from_send =
    let e = expr_send in let s = source_send in
    declared_send FromClause.the_type (search (sendable, sequence.the_send) depth 8, (search sendable depth 8, tt))

setting_send : IsSend Setting.the_row
setting_send = let e = expr_send in let p = path_send in search sendable depth 10

change_send : IsSend Change.the_row
change_send = let e = expr_send in let p = path_send in let s = setting_send in search (sendable, sequence.the_send) depth 20

statement_send : IsSend Statement.the_row
statement_send =
    let e = expr_send in let s = select_send in let f = from_send in let c = change_send in
    search (sendable, text.the_send, variants_send) depth 60

read_send : IsSend ReadStatement.the_row
read_send = declared_send ReadStatement.the_type (text.the_send, (statement_send, tt))

pub statements_send : IsSend Statements.the_row
statements_send = let r = read_send in search (sendable, crosses) depth 10
