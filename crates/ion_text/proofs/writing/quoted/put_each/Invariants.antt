use Rattle.std.proofs.Common.{◌≡◌}
use Rattle.std.specs.List.{flat_map, fold}
use Rattle.std.specs.Str.{encode_utf8_all}
use Rattle.ion_model.specs.Quoted.{escape}
use Rattle.ion_text.proofs.writing.quoted.put_each.Given as goal

abbrev pub invariant-loop-character : goal.invariant-loop-character
invariant-loop-character g l =
    l.out ≡ fold g.S.TextSink.with_byte l.initial.out (flat_map (escape l.quote) (encode_utf8_all l.yielded))
