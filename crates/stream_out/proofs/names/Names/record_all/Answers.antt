use Rattle.std.proofs.Common.{◌++◌, List, take, subst, sym, append-nil, arith, take_all}
use Rattle.ledger_model.specs.declared.block.Schema.{Schema}
use Rattle.stream_out.specs.Named.{NamesStand}
use Rattle.stream_out.proofs.Named.{push_more, with_change}
use Rattle.stream_out.proofs.names.Names.record_all.Goals as goal

pub changes-init : goal.changes-init
changes-init c = λ before h. subst (λ (cs : List Schema). NamesStand cs c.args.self.now) (sym (append-nil before)) h

pub changes-preserved : goal.changes-preserved
changes-preserved c = λ before h.
    subst (λ (cs : List Schema). NamesStand cs c.record.new.self) (push_more before c.args.schema.now c.changes.change-index c.change-item.result (omega arith) c.change-item.is)
    (with_change (before ++ take c.changes.change-index c.args.schema.now) c.change-item.result c.changes.self c.record.new.self
    (c.changes.invariant before h) c.in_ok-record.ensures)

pub returns : goal.returns
returns c = λ before h.
    subst (λ (cs : List Schema). NamesStand (before ++ cs) c.changes.self) (take_all c.changes.change-index c.args.schema.now (omega arith)) (c.changes.invariant before h)
