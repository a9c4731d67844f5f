use Rattle.std.proofs.Common.{◌≡◌, ◌∙◌, ◌<◌, ◌+◌, List, [], Some, ap, arith, drop, length, subst, sym}
use Rattle.std.specs.Prelude.{slice_get}
use Rattle.ledger_model.specs.declared.block.Block.{Block}
use Rattle.ledger_model.specs.Compaction.{compacted}
use Rattle.ledger_model.specs.Damages.{Undamaged}
use Rattle.redact_tool.specs.Fronts.{redacting_front}
use Rattle.redact_tool.specs.Redacting.{AreRedactions}
use Rattle.redact_tool.proofs.Parts.{fits_at, hides_at}
use Rattle.ledger_cli.proofs.Streaming.{shown_at}
use Rattle.ledger_cli.proofs.stream.block_at.Goals as goal

pub compacted_block-requires : goal.compacted_block-requires
compacted_block-requires c =
    let long = ap (λ (bs : List Block). length bs) c.as_slice-blocks.ensures in
    fits_at c.as_slice-blocks.result.now [] c.args.at c.index-blocks-at.result
    (subst (λ (bs : List Block). Undamaged bs) (sym c.as_slice-blocks.ensures) c.requires.shown.undamaged)
    (omega (arith, long, c.requires.within)) c.index-blocks-at.is

pub returns : goal.returns
returns c =
    let all = c.as_slice-blocks.result.now in
    let at = c.args.at in
    let s = c.args.shown.now in
    let b = c.index-blocks-at.result in
    let same = sym c.as_slice-blocks.ensures in
    let long = ap (λ (bs : List Block). length bs) same in
    let within : at < length all = omega (arith, long, c.requires.within) in
    let redactions = subst (λ (bs : List Block). AreRedactions bs s.redactions) same c.requires.shown.redactions in
    let front : s.front ≡ redacting_front all = c.requires.shown.front ∙ ap redacting_front same in
    let hides = hides_at all at b s.front within c.index-blocks-at.is front in
    ap (λ (bs : List Block). slice_get (compacted bs) at) same
    ∙ shown_at all all at b within c.index-blocks-at.is
    ∙ ap (λ (x : Block). Some x) (sym (c.in_ok-block.ensures all (drop (at + 1) all) redactions hides))
