use Rattle.std.proofs.Common.{◌∙◌}
use Rattle.clap.proofs.WalkLemmas.{first_value-rows}
use Rattle.clap.specs.Words.{found_of}
use Rattle.cli_args.specs.Forms.{rows_in}
use Rattle.cli_args.proofs.values.word_of.Goals as goal

pub returns : goal.returns
unfolding rows_in
returns c = c.get_str.ensures ∙ first_value-rows (found_of c.args.found.now) c.args.name.now
