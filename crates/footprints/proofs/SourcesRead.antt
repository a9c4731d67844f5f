-- What is read of a source, by its place.
use Rattle.std.proofs.Common.{◌≡◌, ◌∙◌, ℕ, List, Option, Some, None, length, slice_get, refl, sym, ap}
use Rattle.std.specs.Prelude.{option_map}
use Rattle.std.specs.Borrow.{Bor}
use Rattle.std.specs.Option.{option_copied}
use Rattle.std.specs.Slice.{IsItemAt}
use Rattle.std.proofs.lemmas.Option.{slice_get-map, slice_get_past, slice_get_read}
use Rattle.footprints.specs.declared.read.Read.{Read}
use Rattle.footprints.specs.Lent.{read_of, reads_of}

pub read_there : (earlier : List Read) (n : ℕ) (o : Option (Bor Read)) → IsItemAt earlier n o
    → option_map read_of (option_copied o) ≡ slice_get (reads_of earlier) n
read_there earlier n None is = sym (slice_get-map read_of earlier n ∙ ap (option_map read_of) (slice_get_past earlier n is.3))
read_there earlier n (Some u) is =
    sym (slice_get-map read_of earlier n
    ∙ ap (option_map read_of) (slice_get_read earlier (length earlier) n u.now refl is.3.0 is.1))
