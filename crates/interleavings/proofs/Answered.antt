-- What an event does, from what the calls for it do.
use Rattle.std.proofs.Common.{◌≡◌, ℕ, ◌+◌, ◌-◌, ◌^◌, ◌<◌, List, [], ◌∷◌, ◌++◌, Option, Some, None, Result, refl, ap, subst, ◌∙◌, inl, inr}
use Rattle.ion_values.specs.declared.value.Value.{Value}
use Rattle.ql_types.specs.declared.Hash32.{Hash32}
use Rattle.ql_types.specs.declared.Place.{Place}
use Rattle.outside.specs.Clocks.{told_answers}
use Rattle.pql_model.specs.declared.Answer.{Answer}
use Rattle.ledger_model.specs.declared.outcome.Refusal.{Refusal}
use Rattle.txn_core.specs.Opened.{Executed, Opened, asked}
use Rattle.ledger_core.specs.declared.appending.Receipt.{Receipt}
use Rattle.ledger_core.specs.declared.commit.CommitFault.{CommitFault}
use Rattle.ledger_core.specs.Beginning.{begun_on, drawn}
use Rattle.ledger_core.specs.Committing.{CommitEnds, IsAnswer, tx_of}
use Rattle.interleavings.specs.Lines as line
use Rattle.interleavings.specs.declared.desk.OpenTxn.{OpenTxn}
use Rattle.interleavings.specs.Desks.{Aborts, Begins, Commits, Executes, IsServed, MemoryTail, commit_line, execute_line, named, opened, sent, without}

pub opens : (t now : MemoryTail) (xs left ys : List OpenTxn) (name : List ℕ) (place : Place) (txn : Opened) (said : List ℕ) → left ≡ without name xs
    → txn ≡ begun_on t.standing place → t.standing.last + 1 < 2 ^ 64 → now ≡ record t { standing = drawn t.standing }
    → said ≡ line.begun name (tx_of txn).raw txn.since → ys ≡ left ++ opened name txn ∷ [] → Begins t xs name place said now ys
opens t now xs left ys name place txn said rest is counted drew says kept = inl (record {
  counted = counted;
  said_is = says ∙ ap (λ (o : Opened). line.begun name (tx_of o).raw o.since) is;
  now_is = drew;
  kept = kept ∙ ap (λ (l : List OpenTxn). l ++ opened name txn ∷ []) rest ∙ ap (λ (o : Opened). without name xs ++ opened name o ∷ []) is;
})

pub spent : (t now : MemoryTail) (xs left : List OpenTxn) (name : List ℕ) (place : Place) (last : ℕ) (said : List ℕ) → left ≡ without name xs
    → t.standing.last ≡ 2 ^ 64 - 1 → last ≡ 2 ^ 64 - 1 → now ≡ t → said ≡ line.ids_spent last → Begins t xs name place said now left
spent t now xs left name place last said rest none is same says = inr (record {
  last = none;
  said_is = says ∙ ap (λ n. line.ids_spent n) is;
  now_is = same;
  kept = rest;
})

pub does : (t now : MemoryTail) (xs left ys : List OpenTxn) (name text : List ℕ) (params : List Value) (txn after : Opened) (answer : Result Answer Refusal) (said : List ℕ)
    → Some txn ≡ named name xs → left ≡ without name xs → Executed txn (asked text params) answer after → said ≡ execute_line answer
    → now ≡ t → ys ≡ left ++ opened name after ∷ [] → Executes (named name xs) t xs name text params said now ys
does t now xs left ys name text params txn after answer said is rest e says same kept =
    subst (λ (o : Option Opened). Executes o t xs name text params said now ys) is
    (record {
      answer = answer;
      left = after;
      executed = e;
      said_is = says;
      now_is = same;
      kept = kept ∙ ap (λ (l : List OpenTxn). l ++ opened name after ∷ []) rest;
    })

pub does_nothing : (t : MemoryTail) (xs left : List OpenTxn) (name text : List ℕ) (params : List Value) (said : List ℕ)
    → None ≡ named name xs → left ≡ without name xs → said ≡ line.nothing name → Executes (named name xs) t xs name text params said t left
does_nothing t xs left name text params said is rest says =
    subst (λ (o : Option Opened). Executes o t xs name text params said t left) is (record { said_is = says; now_is = refl; kept = rest })

pub closes : (t now : MemoryTail) (xs left : List OpenTxn) (name : List ℕ) (digest : Option Hash32) (txn : Opened) (own : Hash32) (items said : List ℕ)
    (answer : Result Receipt CommitFault) → Some txn ≡ named name xs → left ≡ without name xs → own ≡ sent txn digest
    → items ≡ line.footprint txn.done.footprint
    → CommitEnds t.standing txn (Some own) (IsAnswer (told_answers t.clock) (told_answers now.clock) None) answer now.standing
    → IsServed answer → said ≡ commit_line name items answer → Commits (named name xs) t xs name digest said now left
closes t now xs left name digest txn own items said answer is rest sends reads ends served says =
    subst (λ (o : Option Opened). Commits o t xs name digest said now left) is
    (record {
      answer = answer;
      ends = subst (λ (d : Hash32). CommitEnds t.standing txn (Some d) (IsAnswer (told_answers t.clock) (told_answers now.clock) None) answer now.standing) sends ends;
      served = served;
      said_is = says ∙ ap (λ l. commit_line name l answer) reads;
      kept = rest;
    })

pub commits_nothing : (t : MemoryTail) (xs left : List OpenTxn) (name : List ℕ) (digest : Option Hash32) (said : List ℕ)
    → None ≡ named name xs → left ≡ without name xs → said ≡ line.nothing name → Commits (named name xs) t xs name digest said t left
commits_nothing t xs left name digest said is rest says =
    subst (λ (o : Option Opened). Commits o t xs name digest said t left) is (record { said_is = says; now_is = refl; kept = rest })

pub drops : (t : MemoryTail) (xs left : List OpenTxn) (name : List ℕ) (txn : Opened) (said : List ℕ)
    → Some txn ≡ named name xs → left ≡ without name xs → said ≡ line.aborted name → Aborts (named name xs) t xs name said t left
drops t xs left name txn said is rest says =
    subst (λ (o : Option Opened). Aborts o t xs name said t left) is (record { said_is = says; now_is = refl; kept = rest })

pub aborts_nothing : (t : MemoryTail) (xs left : List OpenTxn) (name : List ℕ) (said : List ℕ)
    → None ≡ named name xs → left ≡ without name xs → said ≡ line.nothing name → Aborts (named name xs) t xs name said t left
aborts_nothing t xs left name said is rest says =
    subst (λ (o : Option Opened). Aborts o t xs name said t left) is (record { said_is = says; now_is = refl; kept = rest })
