use Rattle.std.proofs.Common.{◌≡◌, ◌∙◌, ap, sym, rules}
use Rattle.std.specs.declared.cmp.Ordering.{Ordering}
use Rattle.std.specs.declared.option.Option.{Option}
use Rattle.std.specs.declared.option.Option.TheVariants.{Some}
use Rattle.ion_order.specs.Compare.{compare_numbers, compare_of}
use Rattle.ion_values.specs.declared.value.Body.TheFolds.{the_lemmas}
use Rattle.ion_order.specs.Numbers.{whole}
use Rattle.ion_order.proofs.Scaling.{compare_whole}
use Rattle.ion_order.proofs.order.compare.Goals as goal

pub returns-in-Int-Int : goal.returns-in-Int-Int
returns-in-Int-Int c =
    let as_numbers : Some (compare_numbers (whole c.in-Int-Int.a) (whole c.in-Int-Int.b)) ≡ compare_of c.args.a.now c.args.b.now = search (rules, the_lemmas) in
    ap Some (c.cmp-in-Int-Int.ensures ∙ sym (compare_whole c.in-Int-Int.a c.in-Int-Int.b)) ∙ as_numbers
