use Rattle.std.proofs.Common.{Option, subst}
use Rattle.ledger_model.specs.declared.block.Block.{Block}
use Rattle.block_form.specs.declared.part_hashes.PartHashes.{PartHashes}
use Rattle.block_form.specs.ReadBack.{IsReadAs}
use Rattle.block_form.specs.Hashed.{TellParts}
use Rattle.block_form.proofs.checked.checked_from_ion.Goals as goal

-- a value that tells no parts is that of no block
pub returns-in_default : goal.returns-in_default
returns-in_default c = λ b whole. subst (λ (x : Option PartHashes). TellParts c.args.v x) c.in_default.is c.in_ok-parts.ensures b whole

pub has_hashes-requires : goal.has_hashes-requires
has_hashes-requires c =
    let tell = subst (λ (x : Option PartHashes). TellParts c.args.v x) c.in-Some.is c.in_ok-parts.ensures in
    let found = subst (λ (x : Option Block). IsReadAs c.args.v x) c.in-Some-2.is c.in_ok-block.ensures in
    tell c.in-Some-2.block found.0

pub returns : goal.returns
returns c = (subst (λ (x : Option Block). IsReadAs c.args.v x) c.in-Some-2.is c.in_ok-block.ensures, c.in_ok-hashes_hold.ensures)
