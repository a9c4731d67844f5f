use Rattle.std.specs.Prelude.{map, string_bytes}
use Rattle.clap.specs.Words.{app_of, found_of, rows_of}
use Rattle.cli_args.specs.Forms.{rows_in}
use Rattle.cli_args.proofs.Found.{found_where, is_simple-free}
use Rattle.cli_args.proofs.forms.found_in.Goals as goal

pub returns-in-Ok : goal.returns-in-Ok
unfolding rows_in
returns-in-Ok c =
    let simple = is_simple-free (app_of c.args.form) c.requires in
    found_where (app_of c.args.form) (map string_bytes c.args.words.now) (rows_of (found_of c.in-Ok.matches))
    (c.in-Ok.ensures.kinds c.requires) (c.in-Ok.ensures.matches simple).0
