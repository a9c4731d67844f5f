-- What is left when the ledger is closed.
use Rattle.std.proofs.Common.{◌≡◌, ◌∙◌, ℤ, List, Option, sym, ap, subst}
use Rattle.outside.specs.Told.{StoreTold}
use Rattle.laws_machine.specs.Entries.{Entry}
use Rattle.ledger_core.specs.Tails.{TailHeld}
use Rattle.ledger_shared.specs.declared.entry.Entry as kept
use Rattle.ledger_shared.specs.Behind.{Keeps, SharedHeld}
use Rattle.ledger_shared.specs.Told.{all_told}

module _ {S C : Type 0} (told : S → StoreTold) (shared : SharedHeld S C) (tail : TailHeld S C) (items : List kept.Entry)
    (tail_is : tail ≡ shared.tail) (items_are : all_told shared.tail.standing.mask items ≡ shared.entries) where
  pub entries_are : all_told tail.standing.mask items ≡ shared.entries
  entries_are = ap (λ (t : TailHeld S C). all_told t.standing.mask items) tail_is ∙ items_are

  pub for_entries : (P : List Entry → Type 0) → P shared.entries → P (all_told tail.standing.mask items)
  for_entries P h = subst P (sym entries_are) h

  pub keeps_still : (answers : C → Option (List ℤ)) (always : C → Option ℤ) (opened : TailHeld S C) → shared.opened ≡ opened
      → Keeps told answers always shared.opened shared.tail shared.entries
      → Keeps told answers always opened tail (all_told tail.standing.mask items)
  keeps_still answers always opened opened_is h =
      subst (λ o. Keeps told answers always o tail (all_told tail.standing.mask items)) opened_is
      (subst (λ t. Keeps told answers always shared.opened t (all_told tail.standing.mask items)) (sym tail_is)
      (subst (λ es. Keeps told answers always shared.opened shared.tail es) (sym entries_are) h))
