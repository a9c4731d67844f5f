use Rattle.std.proofs.Common.{◌≡◌, ap, ◌∙◌, refl, sym, arith, rules, [], ◌∷◌, Some, None}
use mathlib.Core.Option.{none}
use Rattle.atomic_table.specs.Table.{rest, step}
use Rattle.turn_lock.specs.Rule.{viewed}
use Rattle.turn_lock.specs.declared.view.Turn.TheVariants.{Held, Shut}
use Rattle.turn_lock.proofs.Passes.{reseat, shuts}
use Rattle.turn_lock.proofs.steps.shut.Goals as goal

pub load-requires : goal.load-requires
load-requires g c =
    let old = c.args.pass.now in
    let went = c.exchange-hole.ensures in
    let me_is = went.3 ∙ (λ i. (c.requires.pass.shows i, (0, Some c.args.state) ∷ rest (c.requires.pass.carries i))) in
    (went.0 ∙ c.requires.pass.of_lock, omega (arith, c.requires.sized), shuts g.T.Counted.opening g.T.Counted.entries g.T.Counted.is_right g.T.Counted.opens g.T.Counted.uses _ _ _ _ old.me.0.me old.me.0.kept c.args.state (step 0 0 0 0 none) me_is c.requires.state.0 c.requires.state.1)
