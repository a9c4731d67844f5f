-- The front is that of all that is left, or all of it.
use Rattle.std.proofs.Common.{◌≡◌, ◌≤◌, ◌<◌, length, take, arith, sym, ◌∙◌, length-take-le}
use Rattle.outside.proofs.Scanned.{may_begin, may_follow}
use Rattle.outside.proofs.adapters.journals.may_be_journal.Goals as goal

pub returns-then-begins_line : goal.returns-then-begins_line
returns-then-begins_line g c =
    let out = c.fill.new.out in
    let front = take c.in_ok-count.count out in
    let same : length front ≡ c.in_ok-count.count = length-take-le c.in_ok-count.count out c.in_ok-count.ensures.within in
    let wide : 25 ≤ length out = omega (arith, c.fill.auto.out) in
    let end = λ (h : length front < length out). c.in_ok-count.ensures.end (omega arith) in
    may_begin _ _ front (length out) c.in_ok-count.ensures.bytes wide end (c.begins_line.ensures.0 c.if-begins_line.true)

pub returns : goal.returns
returns g c =
    let out = c.fill.new.out in
    let front = take c.in_ok-count.count out in
    let same : length front ≡ c.in_ok-count.count = length-take-le c.in_ok-count.count out c.in_ok-count.ensures.within in
    let wide : 25 ≤ length out = omega (arith, c.fill.auto.out) in
    let end = λ (h : length front < length out). c.in_ok-count.ensures.end (omega arith) in
    let none = sym c.contains.ensures.value ∙ c.if-contains.false in
    may_follow _ _ front (length out) c.begins_line.result c.has_line_feed.result c.in_ok-count.ensures.bytes wide end none c.if-begins_line.false c.begins_line.ensures c.has_line_feed.ensures
