-- A revision that a statement gives to a document of the state, or to one that pends already, may pend.
use Rattle.std.proofs.Common.{◌≡◌, ◌+◌, ℕ, true, false, List, Option, Some, refl, sym, ap, subst}
use Rattle.std.specs.Prelude.{is_none}
use Rattle.std.proofs.lemmas.Bool.{and_from, eq-eqb}
use Rattle.ledger_model.specs.declared.block.Content.{Content}
use Rattle.ledger_model.specs.declared.block.Draft.{Draft}
use Rattle.ledger_model.specs.State.{State, Recorded}
use Rattle.ledger_model.specs.Whole.{id_fits, is_redacted}
use Rattle.ledger_model.specs.Follows.{latest_of, is_kept, is_new, has_table}
use Rattle.ledger_model.specs.Writing.{again_of, next_of}
use Rattle.laws_validity.specs.Pending.{goes_on}
use Rattle.laws_validity.proofs.Parts.{ShallowContent}
use Rattle.laws_validity.proofs.Progress.{IsPending}

-- what any such revision has: a content that isn't redacted and doesn't nest too deep, or none
pub record IsContent (c : Content) : Type 0 where
  pub shallow : ShallowContent c
  pub unredacted : is_redacted c ≡ false

next_goes_on : (last : Recorded) (c : Content) (o : Option Recorded) → o ≡ Some last
    → is_kept last.revision.content ≡ true
    → goes_on (next_of last c) o ≡ true
next_goes_on last c o is kept =
    subst (λ x. goes_on (next_of last c) x ≡ true) (sym is)
    (and_from _ _ (and_from _ _ (eq-eqb last.table.raw last.table.raw refl)
    (eq-eqb (last.revision.metadata.version + 1) (last.revision.metadata.version + 1) refl)) kept)

-- of a document whose table is active by now
pub next_pends : (s : State) (created : List ℕ) (last : Recorded) (c : Content)
    → latest_of s.revisions last.revision.metadata.id.raw ≡ Some last → is_kept last.revision.content ≡ true
    → has_table s.tables created last.table ≡ true → id_fits last.table.raw ≡ true → IsContent c
    → IsPending s created (next_of last c)
next_pends s created last c is kept table fits content = record {
  on = next_goes_on last c (latest_of s.revisions last.revision.metadata.id.raw) is kept;
  table = table;
  table_fits = fits;
  shallow = content.shallow;
  unredacted = content.unredacted;
}

pub again_pends : (s : State) (created : List ℕ) (d : Draft) (c : Content) → IsPending s created d → IsContent c
    → IsPending s created (again_of d c)
again_pends s created d c pending content = record {
  on = pending.on;
  table = pending.table;
  table_fits = pending.table_fits;
  shallow = content.shallow;
  unredacted = content.unredacted;
}

-- a document with a committed revision isn't new
pub known_of : (revisions : List Recorded) (id : ℕ) (last : Recorded) → latest_of revisions id ≡ Some last
    → is_new revisions id ≡ false
known_of revisions id last is = ap is_none is
