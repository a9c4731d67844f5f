-- Each call of a tail and of its transactions is an event of the machine.
use Rattle.std.proofs.Common.{◌≡◌, ◌∙◌, ℕ, ◌+◌, ◌-◌, ◌^◌, ◌<◌, ◌≤◌, ◌==◌, inl, inr, Bool, true, false, List, [], ◌∷◌, ◌++◌, length, take, append-nil, Option, Some, None, Result, Ok, Err, refl, sym, ap, subst, true≢false, arith, if◌then◌else◌}
use Rattle.std.specs.Prelude.{nat_lt}
use Rattle.std.specs.List.{last_or}
use Rattle.std.specs.Option.{option_map_or}
use Rattle.std.proofs.lemmas.Bool.{eq-eqb, lt-ltb, ne_eqb}
use Rattle.std.proofs.lemmas.List.{map-append}
use Rattle.ion_values.specs.declared.time.TimeParts.{TimeParts}
use Rattle.pql_model.specs.declared.Answer as model
use Rattle.ql_types.specs.Ids.{raw_id}
use Rattle.ql_types.specs.declared.Hash32.{Hash32}
use Rattle.ql_types.specs.declared.Place.{Place}
use Rattle.ledger_model.specs.declared.block.Block.{Block}
use Rattle.ledger_model.specs.declared.block.Said.{Said}
use Rattle.ledger_model.specs.declared.outcome.Named.{Named}
use Rattle.ledger_model.specs.declared.outcome.Refusal.{Refusal}
use Rattle.ledger_model.specs.declared.outcome.Refusal.TheVariants as refusal
use Rattle.ledger_model.specs.declared.script.Request.{Request}
use Rattle.ledger_model.specs.CommitDigest.{commit_digest}
use Rattle.ledger_model.specs.Damages.{same_hash}
use Rattle.ledger_model.specs.Legal.{asked_in}
use Rattle.ledger_model.specs.Making.{block_of}
use Rattle.ledger_model.specs.Run.{Progress, Ran, ran, refused, step}
use Rattle.ledger_model.specs.State.{state}
use Rattle.laws_footprint.specs.Touches.{conflict}
use Rattle.laws_machine.specs.Machine.{Commit, Ending, Machine, Service, Step, Transaction, asked_more, base, begin, begun, begun_as, blocks_behind, closes, commit, commits, conflicts, differs, draws, ended, ending, ends, ends_by, execute, executes, executes_on, fails, full, happens, if_open, last_rows, named, no_memory, refuses, replaced, rows, seals, served, spent, store_failed, told, unless_conflict, unless_differs, unless_full, wants, without}
use Rattle.laws_machine.specs.Machine as machine
use Rattle.laws_history.specs.Standings.{Standing}
use Rattle.txn_core.specs.Opened.{Executed, Opened}
use Rattle.ledger_core.specs.declared.appending.Receipt.{Receipt}
use Rattle.ledger_core.specs.declared.commit.CommitFault.{CommitFault}
use Rattle.ledger_core.specs.declared.commit.CommitFault.TheVariants as fault
use Rattle.ledger_core.specs.NextBlock.{next_block}
use Rattle.ledger_core.specs.Beginning.{begun_on, drawn}
use Rattle.ledger_core.specs.Committing.{CommitEnds, ComesTo, IsAnswer, conflict_of, own_digest}
use Rattle.ledger_core.specs.Steps.{Began, BeginIsStep, CameTo, CommitIsStep, Ended, ExecuteIsStep, ExecuteKeepsOpen, IsAnswered, IsUnderway, LeavesOpen, SpentIsStep, StandsFor, TellsEnd}
use Rattle.ledger_core.specs.Tails.{joined}
use Rattle.ledger_core.proofs.Digests.{of_asked}
use Rattle.ledger_core.proofs.Openings.{executed_open}
use Rattle.ledger_core.proofs.Others.{in_front, named_replaced, named_without, none_without, still_underway}

-- ---- begin

named_first : (new : Transaction) (ts : List Transaction) → named new.number (new ∷ ts) ≡ Some new
named_first new ts = ap (λ b. if b then Some new else named new.number ts) (eq-eqb new.number new.number refl)

all_taken : {A : Type 0} (xs : List A) → take (length xs) xs ≡ xs
all_taken [] = refl
all_taken (x ∷ xs) = ap (λ ys. x ∷ ys) (all_taken xs)

module _ (m : Machine) (s : Standing) (place : Place) (h : StandsFor m s) where
  went : s.last + 1 < 2 ^ 64 → happens m (begin place) ≡ draws m place
  went low =
      let last = h.last in
      let less : m.last < 2 ^ 64 - 1 = omega (arith, last, low) in
      ap (λ b. if b then draws m place else record { answer = spent m.last; now = m }) (lt-ltb m.last (2 ^ 64 - 1) less)

  new : Transaction
  new = machine.new_transaction m place

  drawn_now : Machine
  drawn_now = (draws m place).now

  names_new : named (s.last + 1) drawn_now.underway ≡ Some new
  unfolding new drawn_now
  names_new = subst (λ n. named n (new ∷ m.underway) ≡ Some new) (ap (λ n. n + 1) h.last) (named_first new m.underway)

  is_underway : IsUnderway drawn_now (begun_on s place)
  unfolding new drawn_now
  is_underway = record {
    own = new;
    names = names_new;
    number = ap (λ n. n + 1) h.last;
    mask = h.mask;
    place = refl;
    since = ap length h.blocks;
    stood = let all : length m.blocks ≤ length m.blocks = omega arith in all;
    base = ap state (all_taken m.blocks ∙ h.blocks);
    asked = λ going. refl;
    came = (refl, refl);
  }

  others_begun : s.last + 1 < 2 ^ 64 → LeavesOpen m (s.last + 1) (happens m (begin place)).now
  others_begun low other differ u =
      subst (λ (x : Step). IsUnderway x.now other) (sym (went low))
      (still_underway m (draws m place).now other [] u refl (sym (append-nil m.blocks))
      (ap (λ b. if b then Some (machine.new_transaction m place) else named other.begun.number m.underway)
      (ne_eqb (m.last + 1) other.begun.number (λ e. differ (sym e ∙ ap (λ n. n + 1) h.last)))))

  began : s.last + 1 < 2 ^ 64 → Began m s place
  unfolding drawn_now
  began low = record {
    answer = ap (λ (x : Step). x.answer) (went low) ∙ (λ i. begun (h.last i + 1) (length (h.blocks i)));
    stands = subst (λ (x : Step). StandsFor x.now (drawn s)) (sym (went low)) (record { mask = h.mask; blocks = h.blocks; last = ap (λ n. n + 1) h.last });
    underway = subst (λ (x : Step). IsUnderway x.now (begun_on s place)) (sym (went low)) is_underway;
    others = others_begun low;
  }

pub begin_is_step : BeginIsStep
begin_is_step m s place h low = began m s place h low

pub spent_is_step : SpentIsStep
spent_is_step m s place h f =
    let full : m.last ≡ 2 ^ 64 - 1 = h.last ∙ f.0 in
    ap (λ n. if nat_lt n (2 ^ 64 - 1) then draws m place else record { answer = spent m.last; now = m }) full
    ∙ ap (λ n. record { answer = spent n; now = m }) h.last

-- ---- execute

module _ (n : ℕ) (new own t : Transaction) (ts : List Transaction) (e : new.number ≡ n)
    (rest : named n ts ≡ Some own → named n (replaced new ts) ≡ Some new) where
  named_by : (b : Bool) → (t.number == n) ≡ b → (if b then Some t else named n ts) ≡ Some own
      → named n (if b then new ∷ ts else t ∷ replaced new ts) ≡ Some new
  named_by true is k = ap (λ b. if b then Some new else named n ts) (eq-eqb new.number n e)
  named_by false is k = ap (λ b. if b then Some t else named n (replaced new ts)) is ∙ rest k

named_at : (n : ℕ) (new own : Transaction) (ts : List Transaction) → new.number ≡ n → named n ts ≡ Some own → named n (replaced new ts) ≡ Some new
named_at n new own [] e h = cc h
named_at n new own (t ∷ ts) e h =
    ap (λ k. named n (if t.number == k then new ∷ ts else t ∷ replaced new ts)) e
    ∙ named_by n new own t ts e (named_at n new own ts e) (t.number == n) refl h

last_said : (o : Option Said) (said : List Said) (x : Said) → last_or o (said ++ x ∷ []) ≡ Some x
last_said o [] x = refl
last_said o (y ∷ said) x = last_said (Some y) said x

module _ (m : Machine) (t : Opened) (u : IsUnderway m t) (r : Request) where
  executes_is : happens m (execute t.begun.number r) ≡ executes m r u.own
  executes_is = ap (λ o. if_open m o (executes m r)) u.names

  -- what a step leaves that comes to this
  abbrev left : Result Progress Refusal → Step
  left x = record { answer = told x; now = record m { underway = replaced (asked_more u.own r x) m.underway } }

  done_by : (x : Ran) → CameTo t x → t.ended ≡ false → executes_on m r u.own x ≡ left (step t.begun t.base t.done r)
  done_by (ran p) came going = λ i. left (step (record { mask = u.mask i; number = u.number i }) (u.base i) (sym came.1 i) r)
  done_by (refused statement cause) came going = absurd (true≢false (sym came ∙ going))

  ended_by : (x : Ran) → CameTo t x → t.ended ≡ true → executes_on m r u.own x ≡ record { answer = refuses refusal.Ended; now = m }
  ended_by (ran p) came over = absurd (true≢false (sym over ∙ came.0))
  ended_by (refused statement cause) came over = refl

  steps_to : (x : Result Progress Refusal) → t.ended ≡ false → step t.begun t.base t.done r ≡ x → happens m (execute t.begun.number r) ≡ left x
  steps_to x going is = executes_is ∙ done_by u.own.done u.came going ∙ ap left is

  -- the transaction with the statement behind those so far
  pub done_underway : (d : Progress) (x : Said) → t.ended ≡ false → d.said ≡ t.done.said ++ x ∷ [] → record { text = x.text; params = x.params } ≡ r
      → IsUnderway (left (Ok d)).now (record t { done = d })
  done_underway d x going said is = record {
    own = asked_more u.own r (Ok d);
    names = named_at t.begun.number (asked_more u.own r (Ok d)) u.own m.underway u.number u.names;
    number = u.number;
    mask = u.mask;
    place = u.place;
    since = u.since;
    stood = u.stood;
    base = u.base;
    asked = λ still.
        (λ i. u.asked going i ++ sym is i ∷ []) ∙ sym (map-append (λ (y : Said). record { text = y.text; params = y.params }) t.done.said (x ∷ []))
        ∙ ap asked_in (sym said);
    came = (going, refl);
  }

  pub ended_underway : (cause : Refusal) → IsUnderway (left (Err cause)).now (record t { ended = true })
  ended_underway cause = record {
    own = asked_more u.own r (Err cause);
    names = named_at t.begun.number (asked_more u.own r (Err cause)) u.own m.underway u.number u.names;
    number = u.number;
    mask = u.mask;
    place = u.place;
    since = u.since;
    stood = u.stood;
    base = u.base;
    asked = λ going. absurd (true≢false going);
    came = refl;
  }

  answered : (answer : Result model.Answer Refusal) (now : Opened) → Executed t r answer now → IsAnswered m t r answer now
  answered (Ok answer) now e =
      let is : happens m (execute t.begun.number r) ≡ left (Ok now.done) = steps_to (Ok now.done) e.0 e.1.step in
      let last : last_rows now.done.said ≡ answer.rows =
      ap (λ (said : List Said). last_rows said) e.2
      ∙ ap (λ (o : Option Said). option_map_or (λ (x : Said). x.answer.rows) o [])
      (last_said None t.done.said (record { text = r.text; params = r.params; answer = record { rows = answer.rows } })) in (
        ap (λ (x : Step). x.answer) is ∙ ap rows last,
        subst (λ (x : Step). IsUnderway x.now now) (sym is)
            (subst (λ (y : Opened). IsUnderway (left (Ok now.done)).now y) (sym e.1.rest)
            (done_underway now.done (record { text = r.text; params = r.params; answer = record { rows = answer.rows } }) e.0 e.2 refl)),
      )
  answered (Err cause) now (inl e) =
      let is : happens m (execute t.begun.number r) ≡ record { answer = refuses refusal.Ended; now = m } = executes_is ∙ ended_by u.own.done u.came e.0 in
      inr (
        ap (λ (x : Step). x.answer) is ∙ ap refuses (sym e.1),
        subst (λ (x : Step). IsUnderway x.now now) (sym is) (subst (λ (y : Opened). IsUnderway m y) (sym e.2) u),
      )
  answered (Err cause) now (inr (inl e)) = inl (e.1, e.2)
  answered (Err cause) now (inr (inr e)) =
      let is : happens m (execute t.begun.number r) ≡ left (Err cause) = steps_to (Err cause) e.0 e.1 in
      inr (
        ap (λ (x : Step). x.answer) is,
        subst (λ (x : Step). IsUnderway x.now now) (sym is) (subst (λ (y : Opened). IsUnderway (left (Err cause)).now y) (sym e.2) (ended_underway cause)),
      )

  others_by : (x : Ran) → LeavesOpen m t.begun.number (executes_on m r u.own x).now
  others_by (ran p) other differ o =
      still_underway m (executes_on m r u.own (ran p)).now other [] o refl (sym (append-nil m.blocks))
      (named_replaced other.begun.number t.begun.number differ (asked_more u.own r (step (begun_as m u.own) (base m u.own) p r)) m.underway u.number)
  others_by (refused statement cause) other differ o = o

  others_executed : LeavesOpen m t.begun.number (happens m (execute t.begun.number r)).now
  others_executed other differ o = subst (λ (x : Step). IsUnderway x.now other) (sym executes_is) (others_by u.own.done other differ o)

pub execute_is_step : ExecuteIsStep
execute_is_step m t now r answer u e = record { answered = answered m t u r answer now e; others = others_executed m t u r }

pub execute_keeps_open : ExecuteKeepsOpen
execute_keeps_open s t now r answer o e = executed_open s t now r answer e o

-- ---- commit

-- no block is added where memory runs out, whatever the checks before find
keeps_room : (bs blocks : List Block) (room : Bool) → blocks_behind bs (if room then wants None else full (length blocks)) ≡ bs
keeps_room bs blocks true = refl
keeps_room bs blocks false = refl

keeps_conflict : (bs : List Block) (since : ℕ) (found : Option Named) (next : Ending) → blocks_behind bs next ≡ bs
    → blocks_behind bs (unless_conflict since found next) ≡ bs
keeps_conflict bs since None next e = e
keeps_conflict bs since (Some found) next e = refl

keeps_digest : (bs : List Block) (own : Bool) (mine given : Hash32) (next : Ending) → blocks_behind bs next ≡ bs
    → blocks_behind bs (if own then next else differs mine given) ≡ bs
keeps_digest bs true mine given next e = e
keeps_digest bs false mine given next e = refl

module _ (m : Machine) (s : Standing) (t : Opened) (digest : Hash32) (h : StandsFor m s) (u : IsUnderway m t) where
  abbrev sends : TimeParts → Service → Commit
  sends time service = record { digest = digest; time = time; service = service }

  -- the checks of the machine, in the tail's words
  abbrev checks : Bool → Option Named → Bool → Ending → Ending
  checks own found room next =
      if own then unless_conflict t.since found (if room then next else full (length s.blocks)) else differs (own_digest t) digest

  same_digest : t.ended ≡ false → machine.own_digest m u.own ≡ own_digest t
  same_digest going =
      (λ i. commit_digest (record { raw = raw_id (u.mask i) (u.number i) 0 }) (u.asked going i)) ∙ sym (of_asked t)

  ending_by : (c : Commit) (x : Ran) → c.digest ≡ digest → CameTo t x → t.ended ≡ false
      → ending m c u.own x
      ≡ checks (same_hash (own_digest t) digest) (conflict_of s t) (nat_lt (length s.blocks) (2 ^ 32 - 1)) (ends_by c.service (next_block t s.blocks c.time))
  ending_by c (ran p) is came going =
      λ i. unless_differs (same_digest going i) (is i)
      (unless_conflict (u.since i) (conflict (h.blocks i) (u.since i) (sym came.1 i).footprint)
      (unless_full (h.blocks i) (ends_by c.service (block_of (record { mask = u.mask i; number = u.number i }) (h.blocks i) (u.place i) c.time (sym came.1 i)))))
  ending_by c (refused statement cause) is came going = absurd (true≢false (sym came ∙ going))

  over_by : (c : Commit) (x : Ran) → CameTo t x → t.ended ≡ true → ending m c u.own x ≡ ended
  over_by c (ran p) came over = absurd (true≢false (sym over ∙ came.0))
  over_by c (refused statement cause) came over = refl

  -- a commit that ends so
  commits_is : (c : Commit) (e : Ending) → ending m c u.own u.own.done ≡ e → happens m (commit t.begun.number c) ≡ closes m u.own.number e
  commits_is c e is = ap (λ o. if_open m o (commits m c)) u.names ∙ ap (closes m u.own.number) is

  closes_own : (e : Ending) → named t.begun.number (closes m u.own.number e).now.underway ≡ None
  closes_own e = ap (λ n. named n (without u.own.number m.underway)) (sym u.number) ∙ none_without u.own.number m.underway

  closes_one : (e : Ending) → LeavesOpen m t.begun.number (closes m u.own.number e).now
  closes_one e other differ o =
      still_underway m (closes m u.own.number e).now other (in_front m.blocks e).0 o refl (in_front m.blocks e).1
      (named_without other.begun.number u.own.number (λ same. differ (same ∙ u.number)) m.underway)

  tells : (time : TimeParts) (service : Service) (answer : Result Receipt CommitFault) (now : Standing) (e : Ending)
      → ending m (sends time service) u.own u.own.done ≡ e → TellsEnd answer (ends e) → StandsFor (closes m u.own.number e).now now
      → Ended m t digest answer now
  tells time service answer now e is told stands =
      let went = commits_is (sends time service) e is in
      record {
        event = sends time service;
        digest_is = refl;
        tells = subst (λ (x : Step). TellsEnd answer x.answer) (sym went) told;
        stands = subst (λ (x : Step). StandsFor x.now now) (sym went) stands;
        closed = subst (λ (x : Step). named t.begun.number x.now.underway ≡ None) (sym went) (closes_own e);
        others = λ other differ o. subst (λ (x : Step). IsUnderway x.now other) (sym went) (closes_one e other differ o);
      }

  -- the checks, one after another
  module _ (c : Commit) (is : c.digest ≡ digest) (going : t.ended ≡ false) where
    abbrev next : Ending
    next = ends_by c.service (next_block t s.blocks c.time)

    comes : ending m c u.own u.own.done ≡ checks (same_hash (own_digest t) digest) (conflict_of s t) (nat_lt (length s.blocks) (2 ^ 32 - 1)) next
    comes = ending_by c u.own.done is u.came going

    past_digest : (own : Bool) → same_hash (own_digest t) digest ≡ own
        → ending m c u.own u.own.done ≡ checks own (conflict_of s t) (nat_lt (length s.blocks) (2 ^ 32 - 1)) next
    past_digest own e = comes ∙ ap (λ b. checks b (conflict_of s t) (nat_lt (length s.blocks) (2 ^ 32 - 1)) next) e

    past_conflict : (found : Option Named) → same_hash (own_digest t) digest ≡ true → conflict_of s t ≡ found
        → ending m c u.own u.own.done ≡ checks true found (nat_lt (length s.blocks) (2 ^ 32 - 1)) next
    past_conflict found own e = past_digest true own ∙ ap (λ f. checks true f (nat_lt (length s.blocks) (2 ^ 32 - 1)) next) e

    past_room : (room : Bool) → same_hash (own_digest t) digest ≡ true → conflict_of s t ≡ None → nat_lt (length s.blocks) (2 ^ 32 - 1) ≡ room
        → ending m c u.own u.own.done ≡ checks true None room next
    past_room room own free e = past_conflict None own free ∙ ap (λ b. checks true None b next) e

  served_by : (told : TimeParts → Type 0) (b : Block) (k : ComesTo s t (Some digest) told b) (service : Service)
      → ending m (sends k.time service) u.own u.own.done ≡ ends_by service b
  served_by told b k service =
      past_room (sends k.time service) refl k.checks.goes_on true k.checks.digest_is k.checks.free (lt-ltb (length s.blocks) (2 ^ 32 - 1) k.checks.room)
      ∙ ap (ends_by service) (sym k.block_is)

  -- nothing was sealed
  still : (now : Standing) → now ≡ s → StandsFor (record m { underway = without u.own.number m.underway }) now
  still now e = subst (λ (x : Standing). StandsFor (record m { underway = without u.own.number m.underway }) x) (sym e) (record { mask = h.mask; blocks = h.blocks; last = h.last })

  -- nor was anything where memory ran out
  no_more : (any : TimeParts) (x : Ran) → blocks_behind m.blocks (ending m (sends any no_memory) u.own x) ≡ m.blocks
  no_more any (ran p) =
      keeps_digest m.blocks (same_hash (machine.own_digest m u.own) digest) (machine.own_digest m u.own) digest
      (unless_conflict u.own.since (machine.conflict_of m u.own p) (unless_full m.blocks (wants None)))
      (keeps_conflict m.blocks u.own.since (machine.conflict_of m u.own p) (unless_full m.blocks (wants None))
      (keeps_room m.blocks m.blocks (nat_lt (length m.blocks) (2 ^ 32 - 1))))
  no_more any (refused statement cause) = refl

  unsealed : (any : TimeParts) (now : Standing) → now ≡ s
      → StandsFor (closes m u.own.number (ending m (sends any no_memory) u.own u.own.done)).now now
  unsealed any now e =
      subst (λ (x : Standing). StandsFor (closes m u.own.number (ending m (sends any no_memory) u.own u.own.done)).now x) (sym e)
      (record { mask = h.mask; blocks = no_more any u.own.done ∙ h.blocks; last = h.last })

  one_more : (b : Block) (now : Standing) → now ≡ joined s b → StandsFor (closes m u.own.number (seals b)).now now
  one_more b now e =
      subst (λ (x : Standing). StandsFor (closes m u.own.number (seals b)).now x) (sym e)
      (record { mask = h.mask; blocks = ap (λ (bs : List Block). bs ++ b ∷ []) h.blocks; last = h.last })

  commit_by : (told : TimeParts → Type 0) (any : TimeParts) (answer : Result Receipt CommitFault) (now : Standing)
      → CommitEnds s t (Some digest) told answer now → Ended m t digest answer now
  commit_by told any (Ok receipt) now c =
      tells c.comes.time served (Ok receipt) now (seals c.block) (served_by told c.block c.comes served) (c.block, refl, c.receipt_is)
      (one_more c.block now c.now_is)
  commit_by told any (Err fault.EndedTxn) now c =
      tells any no_memory (Err fault.EndedTxn) now ended (over_by (sends any no_memory) u.own.done u.came c.0) refl (still now c.1)
  commit_by told any (Err (fault.DigestDiffers mine given)) now c =
      let same : digest ≡ given = cc c.0.2 in
      let other : same_hash (own_digest t) digest ≡ false = (λ i. same_hash (sym c.0.1 i) (same i)) ∙ c.0.3 in
      tells any no_memory (Err (fault.DigestDiffers mine given)) now (differs mine given)
      (past_digest (sends any no_memory) refl c.0.0 false other ∙ (λ i. differs (sym c.0.1 i) (same i))) refl (still now c.1)
  commit_by told any (Err (fault.Conflict since found)) now c =
      tells any no_memory (Err (fault.Conflict since found)) now (conflicts since found)
      (past_conflict (sends any no_memory) refl c.0.0 (Some found) c.0.1 c.0.3 ∙ ap (λ n. conflicts n found) (sym c.0.2)) refl (still now c.1)
  commit_by told any (Err (fault.JournalFull blocks)) now c =
      tells any no_memory (Err (fault.JournalFull blocks)) now (full blocks)
      (past_room (sends any no_memory) refl c.0.0 false c.0.1 c.0.2 (ap (λ n. nat_lt n (2 ^ 32 - 1)) c.0.3) ∙ ap full (c.0.3 ∙ sym c.0.4)) refl (still now c.1)
  commit_by told any (Err (fault.StoreFault count)) now c =
      tells c.comes.time (store_failed count) (Err (fault.StoreFault count)) now (fails count c.block) (served_by told c.block c.comes (store_failed count))
      (c.block, refl) (still now c.now_is)
  commit_by told any (Err fault.OutOfMemory) now c =
      tells any no_memory (Err fault.OutOfMemory) now (ending m (sends any no_memory) u.own u.own.done) refl tt (unsealed any now c.1)

pub commit_is_step : CommitIsStep
commit_is_step m s t digest before after always any answer now h u how =
    commit_by m s t digest h u (IsAnswer before after always) any answer now how
