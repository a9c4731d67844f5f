-- Documents are read exactly where there is one for each revision.
use Rattle.std.proofs.Common.{◌≡◌, ◌≢◌, List, [], ◌∷◌, length, Option, Some, None, refl, ap, arith}
use Rattle.std.specs.Prelude.{option_map}
use Rattle.ion_values.specs.declared.value.Value.{Value}
use Rattle.ql_types.specs.declared.TableId.{TableId}
use Rattle.ledger_model.specs.declared.block.Revision.{Revision}
use Rattle.ledger_model.specs.Script.{and_then}
use Rattle.block_form.specs.ReadBack.{table_in, tables_of}

none_with : (o : Option TableId) (rest : Option (List TableId)) → rest ≡ None → and_then o (λ t. option_map (λ ts. t ∷ ts) rest) ≡ None
none_with None rest e = refl
none_with (Some t) rest e = ap (option_map (λ ts. t ∷ ts)) e

pub none_unequal : (vs : List Value) (rs : List Revision) → length vs ≢ length rs → tables_of vs rs ≡ None
none_unequal [] [] differ = absurd (differ refl)
none_unequal [] (r ∷ rs) differ = refl
none_unequal (v ∷ vs) [] differ = refl
none_unequal (v ∷ vs) (r ∷ rs) differ = none_with (table_in r v) (tables_of vs rs) (none_unequal vs rs (omega arith))
