use Rattle.std.proofs.Common.{◌≡◌, ◌++◌, length, Some, ap, sym, ◌∙◌, arith}
use Rattle.std.proofs.lemmas.Bool.Decides.{nat_tests}
use Rattle.ion_model.specs.Lobs.{long_clob}
use Rattle.ion_lexer.proofs.Reading.{all_read}
use Rattle.ion_lexer.proofs.Segments.{at_segments, no_segment, unclosed_segment, bad_segment, segment_read}
use Rattle.ion_lexer.proofs.clobs.long_clob.Goals as goal

pub returns-then-is_empty : goal.returns-then-is_empty
returns-then-is_empty c =
    let z = c.without_white-segments.result.now in
    let none : length z ≡ 0 = grind (arith, nat_tests, c.is_empty.ensures, c.if-is_empty.true) in
    ap Some c.from_vec.ensures
    ∙ all_read long_clob c.segments.out.items z _ (at_segments c.segments.out.items c.segments.rest.now z _ c.segments.invariant c.without_white-segments.ensures) none

pub returns-then-not-begins_segment : goal.returns-then-not-begins_segment
returns-then-not-begins_segment c =
    let z = c.without_white-segments.result.now in
    let some : length z ≡ 0 → ⊥ = λ none. grind (arith, nat_tests, c.is_empty.ensures, c.if-is_empty.false) in
    no_segment c.segments.out.items c.segments.rest.now z _ c.segments.invariant c.without_white-segments.ensures some (sym c.begins_segment.ensures ∙ c.if-not-begins_segment.true)

pub returns-in_default : goal.returns-in_default
returns-in_default c =
    unclosed_segment c.segments.out.items c.segments.rest.now c.without_white-segments.result.now _ _ c.segments.invariant c.without_white-segments.ensures
    (sym c.begins_segment.ensures ∙ c.if-not-begins_segment.false) c.behind-content.ensures c.in_default.ensures.value

pub returns-in_default-2 : goal.returns-in_default-2
returns-in_default-2 c =
    bad_segment c.segments.out.items c.segments.rest.now c.without_white-segments.result.now _ _ _ _ c.segments.invariant c.without_white-segments.ensures
    (sym c.begins_segment.ensures ∙ c.if-not-begins_segment.false) c.behind-content.ensures c.in-Some.ensures.value c.split_at.ensures.front
    (sym c.in_default-2.is ∙ c.in_ok-read.ensures)

pub segments-preserved : goal.segments-preserved
segments-preserved c =
    segment_read c.segments.out.items c.segments.rest.now c.without_white-segments.result.now _ _ _ c.in-Some-2.read c.extend_from_slice.new.self.items _ _ _
    c.segments.invariant c.without_white-segments.ensures (sym c.begins_segment.ensures ∙ c.if-not-begins_segment.false) c.behind-content.ensures
    c.in-Some.ensures.value c.split_at.ensures.front c.split_at.ensures.back (sym c.in-Some-2.is ∙ c.in_ok-read.ensures)
    (c.in_ok-extend_from_slice.ensures.items ∙ ap (λ more. c.segments.out.items ++ more) c.as_slice.ensures) c.behind-rest.ensures
