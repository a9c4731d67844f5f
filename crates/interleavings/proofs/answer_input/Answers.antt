use Rattle.interleavings.proofs.Telling.{unread_told, values_told}
use Rattle.interleavings.proofs.answer_input.Goals as goal

pub returns-in-Ok : goal.returns-in-Ok
returns-in-Ok c =
    values_told c.answer_values.result c.args.out.now c.answer_values.new.out _ c.in-Ok.values c.as_slice.result.now c.in-Ok.ensures.exact c.as_slice.ensures
    c.answer_values.ensures

pub returns-in_ok-put_bad_event-in-Err-Ion : goal.returns-in_ok-put_bad_event-in-Err-Ion
returns-in_ok-put_bad_event-in-Err-Ion c =
    let refused = rw c.in-Err-Ion.field-0-is at c.in-Err-Ion.ensures.exact in
    unread_told c.args.out.now c.put_bad_event.new.out _ _ refused c.in_ok-put_bad_event-in-Err-Ion.ensures
