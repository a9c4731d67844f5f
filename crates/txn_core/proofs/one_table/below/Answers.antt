use Rattle.std.proofs.Common.{◌≡◌, ◌≤◌, ◌+◌, ◌-◌, ◌/◌, ◌<◌, ℕ, get_or, length, arith}
use Rattle.txn_core.specs.Layered.{below}
use Rattle.txn_core.proofs.Layered.{below_least, below_more, below_within}
use Rattle.txn_core.proofs.one_table.below.Goals as goal

pub places-init : goal.places-init
places-init c = record {
  low = omega arith;
  high = below_within c.args.at c.args.places.now;
  within = omega arith;
}

pub places-preserved-then-places-middle : goal.places-preserved-then-places-middle
places-preserved-then-places-middle c =
    let m : ℕ = c.places.low + (c.places.high - c.places.low) / 2 in
    let within : m < length c.args.places.now = omega (arith, c.places.invariant.within, c.places-test.true) in
    let more : m < below c.args.at c.args.places.now = below_more c.args.at c.args.places.now m c.requires within c.if-places-middle.true in
    record { low = omega (arith, more); high = c.places.invariant.high; within = c.places.invariant.within }

pub places-preserved : goal.places-preserved
places-preserved c =
    let m : ℕ = c.places.low + (c.places.high - c.places.low) / 2 in
    let within : m < length c.args.places.now = omega (arith, c.places.invariant.within, c.places-test.true) in
    let least : below c.args.at c.args.places.now ≤ m = below_least c.args.at c.args.places.now m within (omega (arith, c.if-places-middle.false)) in
    record { low = c.places.invariant.low; high = least; within = omega (arith, within) }

pub returns : goal.returns
returns c = omega (arith, c.places.invariant.low, c.places.invariant.high, c.places-test.false)
