use Rattle.std.proofs.Common.{◌≡◌, ◌<◌, ◌≤◌, [], ◌∷◌, ◌++◌}
use Rattle.std.specs.Prelude.{vec_capacity, vec_len}
use Rattle.turn_lock.specs.History.{AreWhole}
use Rattle.turn_lock.specs.Rule.{Each}
use Rattle.ledger_shared.specs.Desks.{HaveRoom, IsIdle, knowns}
use Rattle.ledger_shared.proofs.desks.add_others.Given as goal

-- the desks that were added
abbrev pub invariant-desks : goal.invariant-desks
invariant-desks g l =
    record {
      table : l.last.table ≡ l.initial.last.table;
      opened : l.last.opened ≡ l.initial.last.opened;
      own : l.last.known.own ≡ [];
      idle : Each (IsIdle l.initial.last.table l.initial.last.opened) l.desks.items;
      whole : AreWhole (knowns l.desks.items ++ l.last.known ∷ []);
      len : vec_len l.desks ≡ l.place;
      low : l.place < l.deal.workers;
      space : l.deal.workers ≤ vec_capacity l.desks;
      room : HaveRoom l.deal.workers l.deal.script.now l.desks.items;
    }
