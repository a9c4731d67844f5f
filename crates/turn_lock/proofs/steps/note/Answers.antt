use Rattle.std.proofs.Common.{◌≡◌, ap, ◌∙◌, refl, sym, subst, arith, rules, length, List, [], ◌∷◌, ◌++◌, Some, None}
use mathlib.Core.Option.{none}
use Rattle.atomic_table.specs.Table.{step}
use Rattle.turn_lock.specs.History.{with_entry}
use Rattle.turn_lock.specs.Rule.{viewed}
use Rattle.turn_lock.specs.declared.view.Turn.TheVariants.{Held}
use Rattle.turn_lock.proofs.Passes.{reseat, me_of, adds, part_with_entry, right_at}
use Rattle.turn_lock.proofs.steps.note.Goals as goal

pub fetch_add-requires : goal.fetch_add-requires
fetch_add-requires g c =
    let old = c.args.pass.now in
    let e = c.requires.entry.0 in (
      c.requires.pass.of_lock,
      omega (arith, c.requires.sized),
      adds g.T.Counted.opening g.T.Counted.entries g.T.Counted.is_right g.T.Counted.opens g.T.Counted.uses _ _ _ _ old.me.0.me [] ((0, None) ∷ []) e g.N.Noted.noted (step 0 0 0 0 none)
          (me_of g.T.Counted.is_right c.args.top.now.table_id (g.T.Counted.opening c.args.top.now.key.value) [] Held ((0, None) ∷ []) old c.requires.pass) c.requires.entry.1
          (right_at g.T.Counted.is_right _ _ _ _ c.requires.opening c.requires.entry.2 c.known.ensures) c.requires.entry.3 (omega (arith, c.count-count.ensures, ap length c.requires.entry.2)),
    )

pub returns-clause-pass : goal.returns-clause-pass
returns-clause-pass g c =
    let old = c.args.pass.now in
    let e = c.requires.entry.0 in
    let went = c.fetch_add.ensures in
    reseat g.T.Counted.is_right c.args.top.now.table_id (g.T.Counted.opening c.args.top.now.key.value) (with_entry old.me.0.me e) [] Held ((0, None) ∷ []) c.fetch_add.new.seat
    (went.0 ∙ c.requires.pass.of_lock)
    (went.2 e c.requires.entry.1 ∙ (λ i. (viewed (c.requires.pass.shows i).opening (with_entry old.me.0.me e) (c.requires.pass.shows i).kept (c.requires.pass.shows i).turn, c.requires.pass.carries i)))
    (right_at g.T.Counted.is_right _ _ _ _ c.requires.opening c.requires.entry.2 c.known.ensures)
    (part_with_entry old.me.0.me e c.requires.pass.part)
