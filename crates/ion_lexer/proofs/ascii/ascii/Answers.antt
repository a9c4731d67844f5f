use Rattle.std.proofs.lemmas.Str.{IsUtf8-from_ascii}
use Rattle.std.proofs.lemmas.Str.Ascii.{IsAscii-from_all}
use Rattle.ion_lexer.proofs.ascii.ascii.Goals as goal

pub from_utf8_unchecked-text-requires : goal.from_utf8_unchecked-text-requires
from_utf8_unchecked-text-requires c =
    let bytes = c.args.bytes.now in
    IsUtf8-from_ascii bytes (IsAscii-from_all bytes c.requires)
