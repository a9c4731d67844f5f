-- A transaction that was begun is open, and the others still are.
use Rattle.std.proofs.Common.{◌≡◌, sym, subst}
use Rattle.ql_types.specs.declared.Place.{Place}
use Rattle.laws_history.specs.Standings.{IsStanding}
use Rattle.txn_core.specs.Opened.{Opened}
use Rattle.ledger_core.specs.Beginning.{begun_on, drawn}
use Rattle.ledger_core.specs.Committing.{IsOpenOn}
use Rattle.ledger_core.specs.Tails.{TailHeld}
use Rattle.ledger_core.proofs.Openings.{begun_open, drawn_open}

-- the tail as it is after a draw
abbrev pub drawn_tail : {S C : Type 0} → TailHeld S C → TailHeld S C
drawn_tail h = record h { standing = drawn h.standing }

-- one that was begun on the tail is open on it as it is now, and the others still are
pub opens_now : {S C : Type 0} (h n : TailHeld S C) (t : Opened) (place : Place) → IsStanding h.standing → t ≡ begun_on h.standing place
    → n ≡ drawn_tail h → IsOpenOn n.standing t
opens_now {S} {C} h n t place is e now =
    subst (λ (x : Opened). IsOpenOn n.standing x) (sym e)
    (subst (λ (m : TailHeld S C). IsOpenOn m.standing (begun_on h.standing place)) (sym now) (begun_open h.standing place is))

pub still_open : {S C : Type 0} (h n : TailHeld S C) → n ≡ drawn_tail h → (other : Opened) → IsOpenOn h.standing other → IsOpenOn n.standing other
still_open {S} {C} h n now other o = subst (λ (m : TailHeld S C). IsOpenOn m.standing other) (sym now) (drawn_open h.standing other o)
