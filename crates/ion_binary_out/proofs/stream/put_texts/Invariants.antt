use Rattle.std.proofs.Common.{◌≡◌, ◌++◌, take}
use Rattle.std.specs.Prelude.{string_bytes}
use Rattle.std.specs.List.{flat_map}
use Rattle.ion_binary_out.specs.BinaryText.{typed}
use Rattle.ion_binary_out.proofs.stream.put_texts.Given as goal

abbrev pub invariant-loop-text : goal.invariant-loop-text
invariant-loop-text l = l.out ≡ l.initial.out ++ flat_map (λ text. typed 8 (string_bytes text)) (take l.text-index l.texts)
