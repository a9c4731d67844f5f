-- CREATE TABLE keeps what holds of a transaction so far.
use Rattle.std.proofs.Common.{◌≡◌, ◌<◌, ℕ, Bool, true, false, List, Option, Some, None, refl, sym, append-nil, if◌then◌else◌}
use Rattle.std.specs.Prelude.{is_none, nat_le, codes}
use Rattle.std.proofs.lemmas.Bool.{leb-false}
use Rattle.ql_types.specs.declared.TableId.{TableId}
use Rattle.ledger_model.specs.declared.block.Schema.{Schema}
use Rattle.ledger_model.specs.declared.outcome.Refusal.TheVariants.{TooManyTables}
use Rattle.ledger_model.specs.State.{State, Table}
use Rattle.ledger_model.specs.Run.{Begun, Progress, next_id, active_count, created_count, no_table_more, tables_now, table_now, reserved, existing, created}
use Rattle.laws_validity.proofs.Parts.{shallow_id}
use Rattle.laws_validity.proofs.Ready.{IsReady}
use Rattle.laws_validity.proofs.Changes.{create_more}
use Rattle.laws_validity.proofs.Effects.{MadeBy, Leaves, unless_leaves, same_made}

free_name : (name : List ℕ) (o : Option TableId) → existing name o ≡ None → is_none o ≡ true
free_name name None e = refl
free_name name (Some there) e = cc

second_no : {X : Type 0} (a b : Bool) (x y : X) → (if a then Some x else if b then Some y else None) ≡ None
    → b ≡ false
second_no true b x y e = cc
second_no false true x y e = cc
second_no false false x y e = refl

few_created : (tables : List Table) (changes : List Schema) → no_table_more tables changes ≡ None
    → created_count changes < 20
few_created tables changes e =
    leb-false 20 (created_count changes) (
    second_no (nat_le 20 (active_count tables)) (nat_le 20 (created_count changes))
    (TooManyTables (active_count tables)) (TooManyTables 20) e)

pub leaves_create : (b : Begun) (s : State) → IsReady b s → (p : Progress) (name : List ℕ) → MadeBy b s p
    → Leaves b s p (created b s p name)
leaves_create b s ready p name m =
    unless_leaves b s p (reserved name) _ (λ _.
    unless_leaves b s p (existing name (table_now s p name)) _ (λ free.
    unless_leaves b s p (no_table_more (tables_now s p) p.schema) _ (λ room.
    let more = create_more b s p.schema p.log p.made m ready name (free_name name (table_now s p name) free)
    (few_created (tables_now s p) p.schema room) in
    record {
      rows = (shallow_id (codes "tableId") (next_id b p), tt);
      made = same_made b s _ _ _ _ _ _ refl (sym (append-nil p.log)) refl more;
    })))
