use Rattle.std.proofs.Common.{◌++◌, List, subst}
use Rattle.ledger_model.specs.declared.block.Schema.{Schema}
use Rattle.stream_out.specs.Named.{NamesStand}
use Rattle.ledger_cli.proofs.stream.next_block.Goals as goal

pub returns-clause-names : goal.returns-clause-names
returns-clause-names c = λ before h.
    subst (λ (schema : List Schema). NamesStand (before ++ schema) c.record_all.new.self) c.as_slice.ensures
    (c.in_ok-record_all.ensures before h)
