use Rattle.std.proofs.Common.{refl}
use Rattle.stream_out.proofs.Named.{taken, untaken}
use Rattle.stream_out.proofs.names.Names.record.Goals as goal

pub returns-in_ok-insert-in-Create : goal.returns-in_ok-insert-in-Create
returns-in_ok-insert-in-Create c =
    taken c.args.change.now c.in-Create.name c.in_ok-created-in-Create.created c.in-Create.table c.args.self.now (record { created = c.insert.new.self })
    c.in-Create.is c.in_ok-created-in-Create.ensures
    c.in_ok-insert-in-Create.ensures.updates.0

pub returns-in-Index : goal.returns-in-Index
returns-in-Index c = untaken c.args.change.now _ c.args.self.now c.in-Index.is (λ id. refl)

pub returns-in-Drop : goal.returns-in-Drop
returns-in-Drop c = untaken c.args.change.now _ c.args.self.now c.in-Drop.is (λ id. refl)

pub returns-in-Redact : goal.returns-in-Redact
returns-in-Redact c = untaken c.args.change.now _ c.args.self.now c.in-Redact.is (λ id. refl)
