-- The hashes in place of data and of statements in the blocks to which entries bring a ledger are asked for, if those of
-- the blocks before are.
use Rattle.std.proofs.Common.{List, sym, subst}
use Rattle.ledger_model.specs.HashesAsked.{AreAsked}
use Rattle.ledger_model.specs.State.{state}
use Rattle.laws_validity.proofs.Asking.{legal_stays_asked}
use Rattle.laws_machine.specs.Entries.{Entry, IsRunFrom, Reach, reached}
use Rattle.laws_history.proofs.Reaches.{reached_blocks, sealed_in}
use Rattle.laws_history.proofs.Serial.{all_legal}

pub asked_reached : (r : Reach) (es : List Entry) → IsRunFrom r es → AreAsked r.blocks → AreAsked (reached r es).blocks
asked_reached r es run asked =
    subst AreAsked (sym (reached_blocks r es))
    (legal_stays_asked r.mask (state r.blocks) r.blocks (sealed_in es) asked (all_legal r es run))
