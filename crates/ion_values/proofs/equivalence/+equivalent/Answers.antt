use Rattle.std.proofs.Common.{refl, arith, sym, ◌∙◌}
use Rattle.ion_values.proofs.Counts.{count-itself, other_lengths, other_counts, first_told, field_told, step_told, all_told, within_first}
use Rattle.ion_values.proofs.equivalence.+equivalent.Goals as goal

pub is_as_often-returns : goal.is_as_often-returns
is_as_often-returns t c =
    rw (c.count.ensures.value, c.count-2.ensures.value, c.count-3.ensures.value, count-itself c.args.field.now c.args.before.now c.args.after.now) refl

pub same_fields-returns-then-a-b : goal.same_fields-returns-then-a-b
same_fields-returns-then-a-b t c = other_lengths c.args.a.now c.args.b.now c.if-a-b.true

pub same_counts-returns-then-not-is_as_often : goal.same_counts-returns-then-not-is_as_often
same_counts-returns-then-not-is_as_often t c =
    other_counts c.index-a-from.result _ _
    (sym (first_told c.args.a.now c.args.b.now c.args.from c.index-a-from.result c.requires.lengths c.requires.differ (within_first c.args.a.now c.args.b.now c.args.from c.requires.differ) c.index-a-from.is) ∙ sym c.is_as_often.ensures ∙ c.if-not-is_as_often.true)

pub same_counts-returns-then-not-is_as_often-2 : goal.same_counts-returns-then-not-is_as_often-2
same_counts-returns-then-not-is_as_often-2 t c =
    other_counts c.index-a-at.result _ _
    (sym (field_told c.args.a.now c.args.b.now c.args.from c.loop-at.at c.index-a-at.result (omega arith) (omega arith) c.index-a-at.is) ∙ sym c.is_as_often-in-loop-at.ensures ∙ c.if-not-is_as_often-2.true)

pub same_counts-loop-at-preserved : goal.same_counts-loop-at-preserved
same_counts-loop-at-preserved t c =
    step_told _ c.args.a.now c.loop-at.at c.index-a-at.result (omega arith) c.index-a-at.is (sym (field_told c.args.a.now c.args.b.now c.args.from c.loop-at.at c.index-a-at.result (omega arith) (omega arith) c.index-a-at.is) ∙ sym c.is_as_often-in-loop-at.ensures ∙ c.if-not-is_as_often-2.false)
    ∙ c.loop-at.invariant

pub same_counts-returns : goal.same_counts-returns
same_counts-returns t c =
    all_told c.args.a.now c.args.b.now c.args.from c.loop-at.at c.index-a-from.result c.requires.lengths (within_first c.args.a.now c.args.b.now c.args.from c.requires.differ) c.index-a-from.is
    (sym (first_told c.args.a.now c.args.b.now c.args.from c.index-a-from.result c.requires.lengths c.requires.differ (within_first c.args.a.now c.args.b.now c.args.from c.requires.differ) c.index-a-from.is) ∙ sym c.is_as_often.ensures ∙ c.if-not-is_as_often.false)
    c.loop-at.invariant (omega arith)
