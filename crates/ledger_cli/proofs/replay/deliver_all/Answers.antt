use Rattle.std.proofs.Common.{◌≡◌, ◌<◌, ◌≤◌, ◌+◌, ◌++◌, ℕ, List, [], ◌∷◌, length, length-append, take, drop, sym, subst, ◌∙◌, arith}
use Rattle.std.proofs.lemmas.List.{length-take-le}
use Rattle.ion_values.specs.declared.value.Value.{Value}
use Rattle.ledger_cli.specs.Replaying.{HasDelivered, IsUndelivered}
use Rattle.ledger_cli.proofs.Replaying.{next_opened, next_taken}
use Rattle.ledger_cli.proofs.replay.deliver_all.Goals as goal

-- the number of the next value
number_is : (before values : List Value) (count index at : ℕ) → length before ≡ count → index ≤ length values → at ≡ count + index
    → length (before ++ take index values) ≡ at
number_is before values count index at same within is =
    omega (arith, length-append before (take index values), length-take-le index values within)

pub returns-in-Some : goal.returns-in-Some
returns-in-Some c =
    let values = c.args.values.now in
    let index = c.values.index in
    let v = c.index-values-index.result in
    let less : index < length values = omega arith in
    λ before same has more.
    subst (λ (vs : List Value). IsUndelivered c.in-Some.why vs) (next_opened before values more index v less c.index-values-index.is)
    ((rw c.in-Some.is at (c.in_ok-why.ensures (before ++ take index values)
    (number_is before values c.args.count index c.in_ok-at.at same (omega arith) c.in_ok-at.ensures)
    (c.values.invariant.so_far before same has))) (drop (index + 1) values ++ more))

pub values-preserved : goal.values-preserved
values-preserved c =
    let values = c.args.values.now in
    let index = c.values.index in
    let v = c.index-values-index.result in
    let front = c.values.invariant.front in
    let less : index < length values = omega arith in
    record {
      front = record {
        values = front.values ++ v ∷ [];
        count_is = omega (arith, length-append front.values (v ∷ []), front.count_is);
        has = rw c.in_default.is at (c.in_ok-why.ensures front.values (front.count_is ∙ sym c.in_ok-at.ensures) front.has);
      };
      so_far = λ before same has.
          subst (λ (vs : List Value). HasDelivered vs c.deliver_value.new.replay) (next_taken before values [] index v less c.index-values-index.is)
          (rw c.in_default.is at (c.in_ok-why.ensures (before ++ take index values)
          (number_is before values c.args.count index c.in_ok-at.at same (omega arith) c.in_ok-at.ensures)
          (c.values.invariant.so_far before same has)));
    }
