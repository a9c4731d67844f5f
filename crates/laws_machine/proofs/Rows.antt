-- Rows of events with what they are answered and what they leave.
use Rattle.std.proofs.Common.{◌≡◌, ℕ, ◌-◌, ◌^◌, true, false, List, [], ◌∷◌, ◌++◌, codes, refl, ap, if◌then◌else◌}
use Rattle.std.proofs.lemmas.Slice.Eq.{bytes_eq-Decides}
use Rattle.ion_values.specs.declared.time.TimeParts.{TimeParts}
use Rattle.pql_model.specs.declared.ParseKind.TheVariants.{Unexpected}
use Rattle.pql_model.specs.Expressions.{expression, free_path, layers}
use Rattle.pql_model.specs.Parse.{parsed}
use Rattle.pql_model.specs.Tokens.{lex}
use Rattle.pql_model.specs.Words.{is_reserved}
use Rattle.ql_types.specs.Ids.{raw_id}
use Rattle.ql_types.specs.declared.Hash32.{Hash32}
use Rattle.ql_types.specs.declared.Place.{Place}
use Rattle.ledger_model.specs.declared.block.Schema.TheVariants.{Create}
use Rattle.ledger_model.specs.declared.outcome.Item.TheVariants as item
use Rattle.ledger_model.specs.declared.outcome.Refusal.TheVariants.{Ended, ParseFault}
use Rattle.ledger_model.specs.declared.script.Request.{Request}
use Rattle.ledger_model.specs.Damages.{same_hash}
use Rattle.ledger_model.specs.Run.{Progress, ran, refused, start}
use Rattle.ledger_model.specs.Values.{named_id}
use Rattle.laws_machine.specs.Entries.{entries, entry_of, sealed}
use Rattle.laws_machine.specs.Machine.{Commit, Ending, Machine, Service, Step, Transaction, abort, aborted, answers, begin, begun, behind, closes, commit, conflicts, differs, ended, ends, execute, happens, opened, own_block, own_digest, refuses, rows, seals, served, spent, unknown, unless_differs}

-- ---- begin and abort

abbrev at : ℕ → Place
at n = record { session = n; transaction = 1 }

abbrev empty : Machine
empty = opened 5 []

abbrev fresh : ℕ → Transaction
fresh n = record { number = n; place = at n; since = 0; asked = []; done = ran start }

first_begin : happens empty (begin (at 1))
    ≡ record { answer = begun 1 0; now = record empty { last = 1; underway = fresh 1 ∷ [] } }
first_begin = refl

-- the number of an aborted transaction isn't drawn again
after_abort : answers (begin (at 1) ∷ abort 1 ∷ begin (at 2) ∷ []) empty ≡ begun 1 0 ∷ aborted ∷ begun 2 0 ∷ []
after_abort = refl

left_after_abort : behind (begin (at 1) ∷ begin (at 2) ∷ abort 1 ∷ []) empty
    ≡ record empty { last = 2; underway = fresh 2 ∷ [] }
left_after_abort = refl

-- no number is left
last_number : happens (record empty { last = 2 ^ 64 - 1 }) (begin (at 1))
    ≡ record { answer = spent (2 ^ 64 - 1); now = record empty { last = 2 ^ 64 - 1 } }
last_number = refl

no_such : (r : Request) (c : Commit) → answers (execute 1 r ∷ commit 1 c ∷ abort 1 ∷ []) empty
    ≡ unknown ∷ unknown ∷ unknown ∷ []
no_such r c = refl

-- ---- two transactions of one name, and a third

abbrev creates : List ℕ → Request
creates text = record { text = text; params = [] }

abbrev creates_t : Request
creates_t = creates (codes "CREATE TABLE t")

abbrev creates_u : Request
creates_u = creates (codes "CREATE TABLE u")

-- what CREATE TABLE does as the transaction n
abbrev did : ℕ → List ℕ → List ℕ → Progress
did n text name = record {
  said = record {
    text = text;
    params = [];
    answer = record { rows = named_id (codes "tableId") (raw_id 5 n 1) ∷ [] };
  } ∷ [];
  schema = Create name (record { raw = raw_id 5 n 1 }) ∷ [];
  log = [];
  made = 1;
  footprint = item.TableName name ∷ item.TableList ∷ [];
}

abbrev did_t : ℕ → Progress
did_t n = did n (codes "CREATE TABLE t") (codes "t")

abbrev did_u : ℕ → Progress
did_u n = did n (codes "CREATE TABLE u") (codes "u")

abbrev with_t : ℕ → Transaction
with_t n = record (fresh n) { asked = creates_t ∷ []; done = ran (did_t n) }

-- both have created t, each for itself
abbrev two : Machine
two = record empty { last = 2; underway = with_t 2 ∷ with_t 1 ∷ [] }

both_create : behind (begin (at 1) ∷ begin (at 2) ∷ execute 1 creates_t ∷ execute 2 creates_t ∷ []) empty ≡ two
unfolding parsed lex is_reserved layers expression free_path
both_create = refl

both_answered :
    answers (begin (at 1) ∷ begin (at 2) ∷ execute 1 creates_t ∷ execute 2 creates_t ∷ []) empty
    ≡ begun 1 0 ∷ begun 2 0 ∷ rows (named_id (codes "tableId") (raw_id 5 1 1) ∷ [])
    ∷ rows (named_id (codes "tableId") (raw_id 5 2 1) ∷ []) ∷ []
unfolding parsed lex is_reserved layers expression free_path
both_answered = refl

own : (h : Hash32) → same_hash h h ≡ true
own h = (bytes_eq-Decides h.bytes h.bytes).1 refl

other_digest : (mine given : Hash32) (next : Ending) → same_hash mine given ≡ false
    → unless_differs mine given next ≡ differs mine given
other_digest mine given next e = ap (λ b. if b then next else differs mine given) e

module _ (time : TimeParts) where
  -- with the transaction's own digest
  abbrev carries : Machine → Transaction → Commit
  carries m t = record { digest = own_digest m t; time = time; service = served }

  -- by the digest of the transaction
  digest_passes : (m : Machine) (t : Transaction) (next : Ending)
      → (if same_hash (own_digest m t) (own_digest m t) then next else differs (own_digest m t) (own_digest m t))
      ≡ next
  digest_passes m t next = ap (λ b. if b then next else differs (own_digest m t) (own_digest m t))
      (own (own_digest m t))

  -- the first one to commit is block 0
  abbrev block_0 : Step
  block_0 = closes two 1 (seals (own_block two (with_t 1) (carries two (with_t 1)) (did_t 1)))

  first_commit : happens two (commit 1 (carries two (with_t 1))) ≡ block_0
  first_commit = ap (closes two 1) (digest_passes two (with_t 1) _)

  first_entry : entries (commit 1 (carries two (with_t 1)) ∷ []) two
      ≡ sealed 1 (own_block two (with_t 1) (carries two (with_t 1)) (did_t 1)) ∷ []
  first_entry = ap (λ (s : Step). entry_of (commit 1 (carries two (with_t 1))) s.answer ++ []) first_commit

  -- a third one begins behind it and creates u
  abbrev with_u : Transaction
  with_u = record { number = 3; place = at 3; since = 1; asked = creates_u ∷ []; done = ran (did_u 3) }

  abbrev three : Machine
  three = record block_0.now { last = 3; underway = with_u ∷ with_t 2 ∷ [] }

  third : behind (begin (at 3) ∷ execute 3 creates_u ∷ []) block_0.now ≡ three
  unfolding parsed lex is_reserved layers expression free_path
  third = refl

  abbrev block_1 : Step
  block_1 = closes three 3 (seals (own_block three with_u (carries three with_u) (did_u 3)))

  third_commit : happens three (commit 3 (carries three with_u)) ≡ block_1
  third_commit = ap (closes three 3) (digest_passes three with_u _)

  -- both blocks touched what the second one read: the first of them is named, with the item that it touched
  conflict : happens block_1.now (commit 2 (carries block_1.now (with_t 2)))
      ≡ record {
        answer = ends (conflicts 0 (record { block = 0; item = item.TableName (codes "t") }));
        now = record block_1.now { underway = [] };
      }
  conflict = ap (closes block_1.now 2) (digest_passes block_1.now (with_t 2) _)

  -- another digest is told before the conflict
  digest_first : (given : Hash32) (service : Service) → same_hash (own_digest block_1.now (with_t 2)) given ≡ false
      → (happens block_1.now (commit 2 (record { digest = given; time = time; service = service }))).answer
      ≡ ends (differs (own_digest block_1.now (with_t 2)) given)
  digest_first given service e = ap ends (other_digest (own_digest block_1.now (with_t 2)) given _ e)

-- ---- a transaction that is ended

abbrev faulty : Request
faulty = creates (codes "SELECT * FORM t")

abbrev refused_one : Transaction
refused_one = record (fresh 1) { asked = faulty ∷ []; done = refused 1 (ParseFault 9 Unexpected) }

abbrev one_refused : Machine
one_refused = record empty { last = 1; underway = refused_one ∷ [] }

refusal : behind (begin (at 1) ∷ execute 1 faulty ∷ []) empty ≡ one_refused
unfolding parsed lex is_reserved layers expression free_path
refusal = refl

-- it takes no statement more, and isn't committed, whatever the digest is
behind_refusal : (r : Request) (c : Commit)
    → answers (execute 1 r ∷ commit 1 c ∷ commit 1 c ∷ []) one_refused ≡ refuses Ended ∷ ends ended ∷ unknown ∷ []
behind_refusal r c = refl
