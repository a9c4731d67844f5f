-- Behind the shorter of the two lists there are no documents.
use Rattle.std.proofs.Common.{◌≡◌, ℕ, zero, suc, ◌≤◌, min, List, [], ◌∷◌, length, drop, refl, arith}
use Rattle.ql_types.specs.declared.TableId.{TableId}
use Rattle.ledger_model.specs.declared.block.Revision.{Revision}
use Rattle.ledger_model.specs.Journal.{document_values}

without_revisions : (ts : List TableId) → document_values ts [] ≡ []
without_revisions [] = refl
without_revisions (t ∷ ts) = refl

pub none_behind : (ts : List TableId) (rs : List Revision) (n : ℕ) → min (length ts) (length rs) ≤ n → document_values (drop n ts) (drop n rs) ≡ []
none_behind [] rs zero h = refl
none_behind [] rs (suc n) h = refl
none_behind (t ∷ ts) [] zero h = refl
none_behind (t ∷ ts) [] (suc n) h = without_revisions (drop n ts)
none_behind (t ∷ ts) (r ∷ rs) zero h = absurd (omega arith)
none_behind (t ∷ ts) (r ∷ rs) (suc n) h = none_behind ts rs n (omega arith)
