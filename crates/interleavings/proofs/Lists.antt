-- Lists of open transactions: one is taken out by its name, one comes to stand behind the others, and the tail goes on.
use Rattle.std.proofs.Common.{◌≡◌, ℕ, ◌+◌, Bool, true, false, List, [], ◌∷◌, ◌++◌, Option, Some, sym, ap, subst, ◌∙◌, inl, inr, Result, Ok, Err, arith, if◌then◌else◌}
use Rattle.std.specs.List.{AllByRecursion}
use Rattle.ql_types.specs.declared.Place.{Place}
use Rattle.pql_model.specs.declared.Answer.{Answer}
use Rattle.ledger_model.specs.declared.outcome.Refusal.{Refusal}
use Rattle.ledger_model.specs.declared.script.Request.{Request}
use Rattle.ledger_model.specs.Run.{Begun}
use Rattle.laws_history.specs.Standings.{Standing}
use Rattle.txn_core.specs.Opened.{Executed, Opened}
use Rattle.ledger_core.specs.Beginning.{begun_on}
use Rattle.ledger_core.specs.Committing.{IsOpenOn}
use Rattle.ledger_core.proofs.Openings.{executed_open}
use Rattle.interleavings.specs.declared.desk.OpenTxn.{OpenTxn}
use Rattle.interleavings.specs.Desks.{AreApart, AreOpen, IsAnother, has_name, named, opened, without}

-- ---- what holds of each one

all_by : (P : OpenTxn → Type 0) (b : Bool) (x : OpenTxn) (xs rest : List OpenTxn) → P x → AllByRecursion P xs → AllByRecursion P rest
    → AllByRecursion P (if b then xs else x ∷ rest)
all_by P true x xs rest p k m = k
all_by P false x xs rest p k m = (p, m)

all_without : (P : OpenTxn → Type 0) (name : List ℕ) (xs : List OpenTxn) → AllByRecursion P xs → AllByRecursion P (without name xs)
all_without P name [] k = tt
all_without P name (x ∷ xs) k = all_by P (has_name name x) x xs (without name xs) k.0 k.1 (all_without P name xs k.1)

all_behind : (P : OpenTxn → Type 0) (xs : List OpenTxn) (y : OpenTxn) → AllByRecursion P xs → P y → AllByRecursion P (xs ++ y ∷ [])
all_behind P [] y k p = (p, tt)
all_behind P (x ∷ xs) y k p = (k.0, all_behind P xs y k.1 p)

all_so : (P Q : OpenTxn → Type 0) (xs : List OpenTxn) → ((x : OpenTxn) → P x → Q x) → AllByRecursion P xs → AllByRecursion Q xs
all_so P Q [] f k = tt
all_so P Q (x ∷ xs) f k = (f x k.0, all_so P Q xs f k.1)

all_both : (P D Q : OpenTxn → Type 0) (xs : List OpenTxn) → ((x : OpenTxn) → P x → D x → Q x) → AllByRecursion P xs → AllByRecursion D xs
    → AllByRecursion Q xs
all_both P D Q [] f k d = tt
all_both P D Q (x ∷ xs) f k d = (f x k.0 d.0, all_both P D Q xs f k.1 d.1)

-- ---- the one of a name

found_by : (P : Opened → Type 0) (b : Bool) (x t : Opened) (rest : Option Opened) → P x → (rest ≡ Some t → P t)
    → (if b then Some x else rest) ≡ Some t → P t
found_by P true x t rest p k h = let same : x ≡ t = cc h in subst (λ (y : Opened). P y) same p
found_by P false x t rest p k h = k h

found : (P : Opened → Type 0) (name : List ℕ) (xs : List OpenTxn) (t : Opened) → AllByRecursion (λ x. P x.txn) xs → named name xs ≡ Some t → P t
found P name [] t k h = cc h
found P name (x ∷ xs) t k h = found_by P (has_name name x) x.txn t (named name xs) k.0 (found P name xs t k.1) h

-- its number is that of none of the others
apart_by : (b : Bool) (x : OpenTxn) (t : Opened) (xs rest : List OpenTxn) (more : Option Opened) → AllByRecursion (IsAnother x.txn) xs
    → (more ≡ Some t → IsAnother t x × AllByRecursion (IsAnother t) rest) → (if b then Some x.txn else more) ≡ Some t
    → AllByRecursion (IsAnother t) (if b then xs else x ∷ rest)
apart_by true x t xs rest more a k h = let same : x.txn ≡ t = cc h in subst (λ (y : Opened). AllByRecursion (IsAnother y) xs) same a
apart_by false x t xs rest more a k h = k h

another : (x : OpenTxn) (name : List ℕ) (xs : List OpenTxn) (t : Opened) → AllByRecursion (IsAnother x.txn) xs → named name xs ≡ Some t → IsAnother t x
another x name xs t a h = λ e. found (λ o. o.begun.number ≡ x.txn.begun.number → ⊥) name xs t a h (sym e)

others : (name : List ℕ) (xs : List OpenTxn) (t : Opened) → AreApart xs → named name xs ≡ Some t → AllByRecursion (IsAnother t) (without name xs)
others name [] t k h = tt
others name (x ∷ xs) t k h =
    apart_by (has_name name x) x t xs (without name xs) (named name xs) k.0
    (λ e. (another x name xs t k.0 e, others name xs t k.1 e)) h

-- ---- no two of one number

left_by : (b : Bool) (x : OpenTxn) (xs rest : List OpenTxn) → AreApart xs → AllByRecursion (IsAnother x.txn) rest → AreApart rest
    → AreApart (if b then xs else x ∷ rest)
left_by true x xs rest k a m = k
left_by false x xs rest k a m = (a, m)

left_apart : (name : List ℕ) (xs : List OpenTxn) → AreApart xs → AreApart (without name xs)
left_apart name [] k = tt
left_apart name (x ∷ xs) k =
    left_by (has_name name x) x xs (without name xs) k.1 (all_without (IsAnother x.txn) name xs k.0) (left_apart name xs k.1)

behind_apart : (xs : List OpenTxn) (y : OpenTxn) → AreApart xs → AllByRecursion (IsAnother y.txn) xs → AreApart (xs ++ y ∷ [])
behind_apart [] y k a = (tt, tt)
behind_apart (x ∷ xs) y k a = (all_behind (IsAnother x.txn) xs y k.0 (λ e. a.0 (sym e)), behind_apart xs y k.1 a.1)

-- ---- all are open

without_open : (s : Standing) (name : List ℕ) (xs : List OpenTxn) → AreOpen s xs → AreOpen s (without name xs)
without_open s name xs k = record {
  each = all_without (λ x. IsOpenOn s x.txn) name xs k.each;
  apart = left_apart name xs k.apart;
}

pub left_open : (s : Standing) (name : List ℕ) (xs left : List OpenTxn) → left ≡ without name xs → AreOpen s xs → AreOpen s left
left_open s name xs left rest k = subst (λ (l : List OpenTxn). AreOpen s l) (sym rest) (without_open s name xs k)

pub behind_open : (s : Standing) (xs : List OpenTxn) (name : List ℕ) (t : Opened) → AreOpen s xs → IsOpenOn s t → AllByRecursion (IsAnother t) xs
    → AreOpen s (xs ++ opened name t ∷ [])
behind_open s xs name t k o a = record {
  each = all_behind (λ x. IsOpenOn s x.txn) xs (opened name t) k.each o;
  apart = behind_apart xs (opened name t) k.apart a;
}

pub named_open : (s : Standing) (name : List ℕ) (xs : List OpenTxn) (t : Opened) → Some t ≡ named name xs → AreOpen s xs → IsOpenOn s t
named_open s name xs t is k = found (λ o. IsOpenOn s o) name xs t k.each (sym is)

-- the number of the one of this name is that of none that is left
named_apart : (s : Standing) (name : List ℕ) (xs left : List OpenTxn) (t : Opened) → Some t ≡ named name xs → left ≡ without name xs → AreOpen s xs
    → AllByRecursion (IsAnother t) left
named_apart s name xs left t is rest k =
    subst (λ (l : List OpenTxn). AllByRecursion (IsAnother t) l) (sym rest) (others name xs t k.apart (sym is))

-- ---- a begin

begun_open : (s now : Standing) (xs : List OpenTxn) → ((o : Opened) → IsOpenOn s o → IsOpenOn now o) → AreOpen s xs → AreOpen now xs
begun_open s now xs still k = record {
  each = all_so (λ x. IsOpenOn s x.txn) (λ x. IsOpenOn now x.txn) xs (λ x. still x.txn) k.each;
  apart = k.apart;
}

pub begun_left : (s now : Standing) (name : List ℕ) (xs left : List OpenTxn) → left ≡ without name xs
    → ((o : Opened) → IsOpenOn s o → IsOpenOn now o) → AreOpen s xs → AreOpen now left
begun_left s now name xs left rest still k = begun_open s now left still (left_open s name xs left rest k)

begun_number : (s : Standing) (place : Place) (xs : List OpenTxn) (t : Opened) → t ≡ begun_on s place → AreOpen s xs → AllByRecursion (IsAnother t) xs
begun_number s place xs t is k =
    let number : t.begun.number ≡ s.last + 1 = ap (λ (o : Opened). o.begun.number) is in
    all_so (λ x. IsOpenOn s x.txn) (IsAnother t) xs (λ x o e. let d = o.drawn in omega (arith, number, d, e)) k.each

pub begun_apart : (s : Standing) (place : Place) (name : List ℕ) (xs left : List OpenTxn) (t : Opened) → left ≡ without name xs → t ≡ begun_on s place
    → AreOpen s xs → AllByRecursion (IsAnother t) left
begun_apart s place name xs left t rest is k = begun_number s place left t is (left_open s name xs left rest k)

-- ---- a statement

begun_same : (t left : Opened) (r : Request) (answer : Result Answer Refusal) → Executed t r answer left → left.begun ≡ t.begun
begun_same t left r (Ok a) e = ap (λ (o : Opened). o.begun) e.1.rest
begun_same t left r (Err cause) (inl e) = ap (λ (o : Opened). o.begun) e.2
begun_same t left r (Err cause) (inr (inl e)) = ap (λ (o : Opened). o.begun) e.2
begun_same t left r (Err cause) (inr (inr e)) = ap (λ (o : Opened). o.begun) e.2

executed_number : (t now : Opened) (r : Request) (answer : Result Answer Refusal) (xs : List OpenTxn) → Executed t r answer now
    → AllByRecursion (IsAnother t) xs → AllByRecursion (IsAnother now) xs
executed_number t now r answer xs e a =
    let same : now.begun.number ≡ t.begun.number = ap (λ (b : Begun). b.number) (begun_same t now r answer e) in
    all_so (IsAnother t) (IsAnother now) xs (λ x d h. d (h ∙ same)) a

pub executed_apart : (s : Standing) (name : List ℕ) (xs left : List OpenTxn) (t now : Opened) (r : Request) (answer : Result Answer Refusal)
    → Some t ≡ named name xs → left ≡ without name xs → Executed t r answer now → AreOpen s xs → AllByRecursion (IsAnother now) left
executed_apart s name xs left t now r answer is rest e k =
    executed_number t now r answer left e (named_apart s name xs left t is rest k)

pub executed_named : (s : Standing) (name : List ℕ) (xs : List OpenTxn) (t now : Opened) (r : Request) (answer : Result Answer Refusal)
    → Some t ≡ named name xs → Executed t r answer now → AreOpen s xs → IsOpenOn s now
executed_named s name xs t now r answer is e k = executed_open s t now r answer e (named_open s name xs t is k)

-- ---- a commit

pub committed_open : (s now : Standing) (name : List ℕ) (xs left : List OpenTxn) (t : Opened) → Some t ≡ named name xs → left ≡ without name xs
    → ((o : Opened) → IsOpenOn s o → (o.begun.number ≡ t.begun.number → ⊥) → IsOpenOn now o) → AreOpen s xs → AreOpen now left
committed_open s now name xs left t is rest still k =
    let open_left = left_open s name xs left rest k in
    record {
      each =
          all_both (λ x. IsOpenOn s x.txn) (IsAnother t) (λ x. IsOpenOn now x.txn) left (λ x. still x.txn) open_left.each
          (named_apart s name xs left t is rest k);
      apart = open_left.apart;
    }
