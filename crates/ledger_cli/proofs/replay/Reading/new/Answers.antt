use Rattle.std.proofs.Common.{[], refl, sym, ◌∙◌}
use Rattle.ion_pieces.specs.Pieces.{gives}
use Rattle.ion_pieces.proofs.Holding.{led_none}
use Rattle.ledger_cli.proofs.Replaying.{none_delivered}
use Rattle.ledger_cli.proofs.replay.Reading.new.Goals as goal

pub returns : goal.returns
returns c = record {
  values = [];
  text_of = λ more. sym (c.new.ensures more) ∙ led_none (gives c.new.result more);
  came = (none_delivered c.new-2.result c.new-2.ensures.from c.new-2.ensures.holds c.new-2.ensures.settled, refl);
}
