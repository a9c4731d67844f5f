-- A transaction that said what it was asked has the digest of those requests.
use Rattle.std.proofs.Common.{◌≡◌, ◌∙◌, true, false, List, [], ◌∷◌, Option, Some, None, refl, sym, ap}
use Rattle.std.specs.Prelude.{IfSome, fold}
use Rattle.std.proofs.lemmas.Slice.Eq.{bytes_eq-Decides}
use Rattle.ql_types.specs.declared.Hash32.{Hash32}
use Rattle.ql_types.specs.declared.TxId.{TxId}
use Rattle.ledger_model.specs.declared.block.Said.{Said}
use Rattle.ledger_model.specs.declared.script.Job.{Job}
use Rattle.ledger_model.specs.declared.script.Request.{Request}
use Rattle.ledger_model.specs.CommitDigest.{commit_digest, first_digest, with_statement}
use Rattle.ledger_model.specs.Damages.{same_hash}
use Rattle.ledger_model.specs.Legal.{asked_in}
use Rattle.ledger_model.specs.Run.{ran, run}
use Rattle.ledger_model.proofs.SaidLemmas.{said_of_run}
use Rattle.laws_history.specs.Attempts.{SendsOwn}
use Rattle.txn_core.specs.Opened.{Opened}
use Rattle.ledger_core.specs.Committing.{is_own, own_digest, tx_of}

folded : (first : Hash32) (said : List Said)
    → fold (λ digest x. with_statement digest x.text x.params) first said ≡ fold (λ digest r. with_statement digest r.text r.params) first (asked_in said)
folded first [] = refl
folded first (x ∷ xs) = folded (with_statement first x.text x.params) xs

pub of_asked : (t : Opened) → own_digest t ≡ commit_digest (tx_of t) (asked_in t.done.said)
of_asked t = folded (first_digest (tx_of t)) t.done.said

pub own_is : (t : Opened) (asked : List Request) → run t.begun t.base asked ≡ ran t.done → own_digest t ≡ commit_digest (tx_of t) asked
own_is t asked runs = of_asked t ∙ ap (commit_digest (tx_of t)) (said_of_run t.begun t.base asked t.done runs)

hash_is : (a b : Hash32) → same_hash a b ≡ true → a ≡ b
hash_is a b e = let same : a.bytes ≡ b.bytes = (bytes_eq-Decides a.bytes b.bytes).0 e in λ i. record { bytes = same i }

pub hash_differs : (a b : Hash32) → same_hash a b ≡ false → a ≡ b → ⊥
hash_differs a b e same =
    let holds : same_hash a b ≡ true = (bytes_eq-Decides a.bytes b.bytes).1 (ap (λ (h : Hash32). h.bytes) same) in cc (e, holds)

given_own : (t : Opened) (tx : TxId) (asked : List Request) (sent : Option Hash32) → own_digest t ≡ commit_digest tx asked → is_own t sent ≡ true
    → IfSome sent (λ digest. digest ≡ commit_digest tx asked)
given_own t tx asked None own e = tt
given_own t tx asked (Some digest) own e = sym (hash_is (own_digest t) digest e) ∙ own

-- a digest that the job gives, and that passes, is that of the job for the transaction
pub sends_own : (t : Opened) (job : Job) → run t.begun t.base job.statements ≡ ran t.done → is_own t job.digest ≡ true → SendsOwn job (tx_of t)
sends_own t job runs e = given_own t (tx_of t) job.statements job.digest (own_is t job.statements runs) e
