use Rattle.std.proofs.Common.{◌≡◌, ◌∷◌, map, take}
use Rattle.std.specs.List.{flat_map, fold}
use Rattle.ion_model.specs.Write.{value_text, field_text}
use Rattle.ion_text.proofs.writing.values.+write.Given as goal

abbrev pub invariant-put_fields-loop-field : goal.invariant-put_fields-loop-field
invariant-put_fields-loop-field g l =
    l.out ≡ fold g.S.TextSink.with_byte l.initial.out
    (flat_map (λ next. 44 ∷ next) (map field_text (take l.field-index l.more)))

abbrev pub invariant-put_values-loop-value : goal.invariant-put_values-loop-value
invariant-put_values-loop-value g l =
    l.out ≡ fold g.S.TextSink.with_byte l.initial.out
    (flat_map (λ next. l.separator ∷ next) (map value_text (take l.value-index l.more)))
