use Rattle.std.proofs.Common.{◌≡◌, take}
use Rattle.std.specs.List.{flat_map, fold}
use Rattle.ion_model.specs.Quoted.{clob_escape}
use Rattle.ion_text.proofs.writing.quoted.put_clob.Given as goal

abbrev pub invariant-loop-byte : goal.invariant-loop-byte
invariant-loop-byte g l =
    l.out ≡ fold g.S.TextSink.with_byte l.initial.out (flat_map clob_escape (take l.byte-index l.bytes))
