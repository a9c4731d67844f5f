-- What is found by a form, from what `clap` promises of its answer.
use Rattle.std.proofs.Common.{◌≡◌, true, List, [], ◌∷◌, Some, None, sym, ap}
use Rattle.std.specs.Prelude.{if◌then◌else◌}
use Rattle.std.proofs.lemmas.Bool.{and_parts}
use Rattle.clap.specs.Words.{App, Kinds, Row, Text, is_simple, is_simple_and_free, matches_of}
use Rattle.clap.specs.Walk.{is_empty}
use Rattle.clap.specs.Faults.{fault_of, is_free_app}
use Rattle.clap.specs.Simple.{built}
use Rattle.cli_args.specs.Forms.{found_in}

some_where : (kinds : Kinds) (rows found : List Row) → kinds ≡ [] → found ≡ rows
    → (if is_empty kinds then Some rows else None) ≡ Some found
some_where [] rows found none same = ap Some (sym same)
some_where (k ∷ kinds) rows found none same = cc

pub is_simple-free : (app : App) → is_simple_and_free app ≡ true → is_simple app ≡ true
is_simple-free app h = (and_parts (is_simple app) (is_free_app (built app)) h).0

pub found_where : (app : App) (words : List Text) (found : List Row) → fault_of app words ≡ []
    → found ≡ matches_of app words → found_in app words ≡ Some found
unfolding found_in
found_where app words found none same = some_where (fault_of app words) (matches_of app words) found none same
