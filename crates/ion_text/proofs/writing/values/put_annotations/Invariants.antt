use Rattle.std.proofs.Common.{◌≡◌, take}
use Rattle.std.specs.List.{flat_map, fold}
use Rattle.ion_model.specs.Write.{annotation_text}
use Rattle.ion_text.proofs.writing.values.put_annotations.Given as goal

abbrev pub invariant-loop-name : goal.invariant-loop-name
invariant-loop-name g l =
    l.out ≡ fold g.S.TextSink.with_byte l.initial.out (flat_map annotation_text (take l.name-index l.name-items))
