use Rattle.std.proofs.Common.{◌≡◌, ◌≤◌, ◌++◌, List, length, take, drop, subst, sym, arith}
use Rattle.pad_tree.specs.Growing.{HasRoom, IsTower, KeptLevel, SameNodes}
use Rattle.pad_tree.proofs.Towers.{tower_stays, written_back}
use Rattle.pad_tree.proofs.grow.Grow.ready.Goals as goal

pub invariant_of-self : goal.invariant_of-self
invariant_of-self c =
    let old = c.self.inside.levels.items in
    let new = c.make_room.new.levels in
    let same : SameNodes new old = subst (λ (xs : List KeptLevel). SameNodes new xs) c.deref_mut.ensures.value c.make_room.ensures.same in
    let long = same.long in
    let back : take c.self.inside.levels.len (new ++ drop (length new) old) ≡ new =
    written_back new (drop (length new) old) c.self.inside.levels.len (omega (arith, long)) in
    subst (λ (xs : List KeptLevel). IsTower xs × (1 ≤ c.self.inside.spare → HasRoom xs)) (sym back)
    (tower_stays new old same c.self.invariant.0, λ some. absurd (omega arith))

pub invariant_of-self-then-self-eq0 : goal.invariant_of-self-then-self-eq0
invariant_of-self-then-self-eq0 c =
    let old = c.self.inside.levels.items in
    let new = c.make_room.new.levels in
    let same : SameNodes new old = subst (λ (xs : List KeptLevel). SameNodes new xs) c.deref_mut.ensures.value c.make_room.ensures.same in
    let long = same.long in
    let back : take c.self.inside.levels.len (new ++ drop (length new) old) ≡ new =
    written_back new (drop (length new) old) c.self.inside.levels.len (omega (arith, long)) in
    subst (λ (xs : List KeptLevel). IsTower xs × (1 ≤ 1 → HasRoom xs)) (sym back)
    (tower_stays new old same c.self.invariant.0, λ some. c.in_ok-make_room.ensures.room)
