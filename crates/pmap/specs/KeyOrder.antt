-- The orders of the types of keys are total, and only the same keys are equal in them.
use Rattle.std.proofs.Common.{◌≡◌, ℕ, List, sym, ap, ◌∙◌}
use Rattle.std.specs.declared.cmp.Ordering.TheVariants.{Equal}
use Rattle.std.specs.Ordering.{is_eq, nat_cmp}
use Rattle.std.specs.Cmp.{IsTotalOrder}
use Rattle.std.specs.Cmp.Lexicographic.{bytes_decides, slice_cmp, texts_ties}
use Rattle.std.proofs.lemmas.Cmp.{nat_cmp_total, on_total, ranked}
use Rattle.ql_types.specs.declared.DocId.{DocId}
use Rattle.ql_types.specs.declared.TableId.{TableId}
use Rattle.ion_values.specs.declared.value.Key.{Key}
use Rattle.ion_values.specs.Keys.{compare_keys}
use Rattle.ion_values.specs.KeyOrder.{keys_are_ordered}

pub same_number : (a b : ℕ) → nat_cmp a b ≡ Equal → a ≡ b
same_number a b e = ranked a b Equal (sym e)

pub same_bytes : (a b : List ℕ) → slice_cmp nat_cmp a b ≡ Equal → a ≡ b
same_bytes a b e = (bytes_decides a b).0 (texts_ties a b ∙ ap is_eq e)

pub documents_total : IsTotalOrder (λ (a b : DocId). nat_cmp a.raw b.raw)
documents_total = on_total (λ (d : DocId). d.raw) nat_cmp_total

pub same_document : (a b : DocId) → nat_cmp a.raw b.raw ≡ Equal → a ≡ b
same_document a b e = let make : ℕ → DocId = λ n. record { raw = n } in ap make (same_number a.raw b.raw e)

pub tables_total : IsTotalOrder (λ (a b : TableId). nat_cmp a.raw b.raw)
tables_total = on_total (λ (t : TableId). t.raw) nat_cmp_total

pub same_table : (a b : TableId) → nat_cmp a.raw b.raw ≡ Equal → a ≡ b
same_table a b e = let make : ℕ → TableId = λ n. record { raw = n } in ap make (same_number a.raw b.raw e)

pub same_key : (a b : Key) → compare_keys a b ≡ Equal → a ≡ b
same_key a b = (keys_are_ordered.1 a b).0
