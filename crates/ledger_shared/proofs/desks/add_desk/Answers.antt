use Rattle.std.proofs.Common.{◌∙◌}
use Rattle.ledger_shared.proofs.desks.add_desk.Goals as goal

pub returns-clause-added : goal.returns-clause-added
returns-clause-added g c = (
  c.make_room-made.new.self,
  c.put.ensures.items,
  c.make_room-made.ensures.worker,
  c.make_room-made.ensures.items ∙ c.new.ensures.items,
  c.make_room-made.ensures.room,
)
