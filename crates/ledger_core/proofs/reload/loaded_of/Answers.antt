use Rattle.std.proofs.Common.{◌≡◌, ◌∙◌, ◌^◌, ◌<◌, List, ap, length, subst, sym}
use Rattle.ledger_model.specs.declared.block.Block.{Block}
use Rattle.ledger_model.specs.Damages.{Undamaged}
use Rattle.ledger_model.specs.HashesAsked.{AreAsked}
use Rattle.ledger_model.specs.Journal.{journal_bytes}
use Rattle.ledger_model.specs.State.{state}
use Rattle.laws_history.specs.Records.{greatest, mask_of}
use Rattle.ledger_core.proofs.Standings.{known}
use Rattle.ledger_core.proofs.reload.loaded_of.Goals as goal

pub returns-clause-facts : goal.returns-clause-facts
returns-clause-facts c =
    let parts = c.into_parts-blocks.ensures in
    let blocks = c.into_parts-blocks.result.0.list in
    let undamaged : Undamaged blocks = subst Undamaged (sym parts.blocks) parts.undamaged in
    let asked : AreAsked blocks = subst AreAsked (sym parts.blocks) parts.asked in
    let mask = c.mask_of-mask.result.bits in
    let of_blocks : mask ≡ mask_of c.args.given.bits blocks = c.mask_of-mask.ensures ∙ ap (mask_of c.args.given.bits) c.as_slice.ensures in
    let k = known c.args.given.bits mask c.greatest_number-last.result blocks undamaged asked of_blocks
    (subst (λ (bs : List Block). greatest mask bs < 2 ^ 64 → c.greatest_number-last.result ≡ greatest mask bs) c.as_slice-2.ensures c.greatest_number-last.ensures) in
    record {
      stands = k.0;
      mask = of_blocks;
      last = k.1;
      size = parts.size ∙ ap (λ bs. length (journal_bytes bs)) (sym parts.blocks);
      version = c.in_ok-version.ensures ∙ ap state c.as_slice-3.ensures;
    }
