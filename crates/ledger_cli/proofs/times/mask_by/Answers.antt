use Rattle.std.proofs.Common.{◌≡◌, ◌∙◌, ℕ, ap, sym, subst, arith, rules, w64, SFits, to_z-of_z}
use Rattle.std.specs.Prelude.{IfSome}
use Rattle.std.specs.Int.{cast_unsigned}
use Rattle.id_seed.specs.Seed.{mask_of}
use Rattle.cli_args.specs.declared.IdSource.{IdSource}
use Rattle.laws_history.specs.Calls.{span}
use Rattle.cli_model.specs.Clocks.{GaveFirst, given_by, mask_between, seed_of}
use Rattle.ledger_cli.proofs.Clocks.{first_answered, first_given}
use Rattle.ledger_cli.proofs.times.mask_by.Goals as goal

pub returns-in-FirstAnswer-clause-given : goal.returns-in-FirstAnswer-clause-given
returns-in-FirstAnswer-clause-given g c = λ later extends.
    let before = g.C.Clock.answers c.args.clock.now in
    let made = c.from_seed-in-FirstAnswer in
    let fits : SFits w64 c.now.result = search rules in
    let seed : c.cast_unsigned.result ≡ cast_unsigned w64 c.now.result = grind (arith, to_z-of_z) in
    let is : made.result.bits ≡ mask_of (seed_of c.now.result) = made.ensures ∙ ap mask_of seed in
    let first = first_given before (g.C.Clock.answers c.now.new.self) later c.now.result c.now.ensures.told extends in
    subst (λ (i : IdSource). IfSome (given_by i (span before later)) (λ given. given ≡ made.result.bits)) (sym c.in-FirstAnswer.is)
    (subst (λ (n : ℕ). IfSome (mask_between before later) (λ given. given ≡ n)) (sym is) first)

pub returns-in-FirstAnswer-clause-answered : goal.returns-in-FirstAnswer-clause-answered
returns-in-FirstAnswer-clause-answered g c = λ later extends.
    let before = g.C.Clock.answers c.args.clock.now in
    subst (λ (i : IdSource). GaveFirst i (span before later)) (sym c.in-FirstAnswer.is)
    (first_answered before (g.C.Clock.answers c.now.new.self) later c.now.result c.now.ensures.told extends)
