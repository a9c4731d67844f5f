-- Passes as seats at the table: what each step owes at one, and what it leaves.
use Rattle.std.proofs.Common.{◌≡◌, ◌≢◌, ◌⊎◌, ℕ, zero, suc, ◌+◌, ◌%◌, ◌^◌, ◌<◌, ◌≤◌, eqb, Bool, false, get_or, set, List, [], ◌∷◌, ◌++◌, length, sym, refl, ap, ◌∙◌, subst, inl, inr, ⊎_elim, arith, Option, Some, None, slice_get, length-append}
use mathlib.Core.Option.{some, some-injective}
use mathlib.Core.List.{IsPrefix}
use lib.ListN.{get_elem?}
use prog.Atomic.{either}
use Rattle.atomic_table.specs.Table.{State, Me, Step, Allows, Enters, Splits, Joins, Final, Seen, rest, opening as start}
use Rattle.atomic_table.specs.Seated.{TableId}
use Rattle.atomic_table.specs.declared.shared.Seat.{Seat}
use Rattle.turn_lock.specs.declared.view.Placed.{Placed}
use Rattle.turn_lock.specs.declared.view.Known.{Known}
use Rattle.turn_lock.specs.declared.view.Turn.{Turn}
use Rattle.turn_lock.specs.declared.view.Turn.TheVariants.{Away, Got, Held, Shut}
use Rattle.turn_lock.specs.declared.view.View.{View}
use Rattle.turn_lock.specs.History.{Stands, last_of, MayAdd, UsesStand, ShareNothing, IsPart, IsPartFrom, placed, with_entry, with_seen}
use Rattle.turn_lock.specs.Rule.{Signed, is, made_by, history, viewed, newcomer, spent, IsKept, IsTold}
use Rattle.turn_lock.specs.Seats.{IsSeat, taken, looked, tied, added, given, shut, lender, next_pass, alone, kept_pass, joined}
use Rattle.turn_lock.proofs.Lists.{prefix_get}
use Rattle.turn_lock.proofs.Names.{is_self, history_at, made_by_from, made_by_stands}
use Rattle.turn_lock.proofs.Keeps.{takes_at, looks_at, ties_at, adds_at, gives_at, shuts_at, joins_at, splits_at, parts_at, enters, opens_at, closes_at}

module _ {E : Type 0} where
  -- a part of a list is a part of a longer one
  pub part_longer : (low : ℕ) (seen longer : List E) (own : List (Placed E)) → IsPrefix seen longer → IsPartFrom low seen own → IsPartFrom low longer own
  part_longer low seen longer [] p h = tt
  part_longer low seen longer (x ∷ own) p h = (h.0, prefix_get seen longer x.place x.entry p h.1, part_longer (x.place + 1) seen longer own p h.2)

  slice_get_within : (xs : List E) (i : ℕ) (x : E) → slice_get xs i ≡ Some x → i < length xs
  slice_get_within [] i x h = absurd cc
  slice_get_within (y ∷ xs) zero x h = omega arith
  slice_get_within (y ∷ xs) (suc i) x h = let t = slice_get_within xs i x h in omega arith

  slice_get_last : (xs : List E) (x : E) → slice_get (xs ++ x ∷ []) (length xs) ≡ Some x
  slice_get_last [] x = refl
  slice_get_last (y ∷ xs) x = slice_get_last xs x

  part-snoc_from : (low : ℕ) (seen : List E) (own : List (Placed E)) (e : E) → low ≤ length seen → IsPartFrom low seen own → IsPartFrom low (seen ++ e ∷ []) (own ++ placed (length seen) e ∷ [])
  part-snoc_from low seen [] e le h = (le, slice_get_last seen e, tt)
  part-snoc_from low seen (x ∷ own) e le h =
      let within = slice_get_within seen x.place x.entry h.1 in
      (h.0, prefix_get seen (seen ++ e ∷ []) x.place x.entry (e ∷ [], refl) h.1, part-snoc_from (x.place + 1) seen own e (omega arith) h.2)

  pub last_is : (xs ys : List E) (e : E) → ys ≡ xs ++ e ∷ [] → last_of ys ≡ Some e
  last_is xs ys e is = subst (λ l. last_of l ≡ Some e) (sym is) (last_snoc xs)
    where
      last_snoc : (xs : List E) → last_of (xs ++ e ∷ []) ≡ Some e
      last_snoc [] = refl
      last_snoc (x ∷ []) = refl
      last_snoc (x ∷ y ∷ ys) = last_snoc (y ∷ ys)

  -- what is known with one entry more
  pub part_with_entry : (k : Known E) (e : E) → IsPart k → IsPart (with_entry k e)
  part_with_entry k e h = part-snoc_from 0 k.seen k.own e (omega arith) h

-- a row of one place that was emptied
pub emptied : (row : List Bool) (k : ℕ) → k < 1 → get_or (set row 0 false) k false ≡ false
emptied [] k h = refl
emptied (x ∷ row) zero h = refl
emptied (x ∷ row) (suc k) h = absurd (omega arith)

zero_add : (p : ℕ) → 0 + p ≡ p
zero_add p = omega arith

module _ {T E O : Type 0} (right : O → List E → Type 0) (table : TableId) (o : O) where
  pub reseat : (m : Known E) (k : List (Known E)) (t : Turn E) (slots : List (ℕ × Option T)) (seat : Seat (Option T) (View E O)) → seat.table_id ≡ table → seat.me ≡ (viewed (Some o) m k t, slots)
      → right o m.seen → IsPart m → IsSeat right table o k t slots seat
  reseat m k t slots seat of_lock me_is fit part =
      let m_is : seat.me.0.me ≡ m = ap (λ z. z.0.me) me_is in record {
        of_lock = of_lock;
        shows = ap (λ z. z.0) me_is ∙ ap (λ x. viewed (Some o) x k t) (sym m_is);
        is_right = subst (λ x. right o x.seen) (sym m_is) fit;
        part = subst (λ x. IsPart x) (sym m_is) part;
        carries = ap (λ z. z.1) me_is;
      }

  -- a seat by what it keeps
  pub at_own : (k : List (Known E)) (t : Turn E) (slots : List (ℕ × Option T)) (seat : Seat (Option T) (View E O)) → IsSeat right table o k t slots seat → IsSeat right table o seat.me.0.kept t slots seat
  at_own k t slots seat h = record {
    of_lock = h.of_lock;
    shows = h.shows ∙ ap (λ x. viewed (Some o) seat.me.0.me x t) (sym (ap (λ v. v.kept) h.shows));
    is_right = h.is_right;
    part = h.part;
    carries = h.carries;
  }

  -- a seat that keeps nothing is one with no known histories
  pub at_none : (k : List (Known E)) (t : Turn E) (slots : List (ℕ × Option T)) (seat : Seat (Option T) (View E O)) → k ≡ [] → IsSeat right table o k t slots seat → IsSeat right table o [] t slots seat
  at_none k t slots seat e h = subst (λ x. IsSeat right table o x t slots seat) e h

  pub me_of : (k : List (Known E)) (t : Turn E) (slots : List (ℕ × Option T)) (seat : Seat (Option T) (View E O)) → IsSeat right table o k t slots seat
      → seat.me ≡ (viewed (Some o) seat.me.0.me k t, slots)
  me_of k t slots seat h = λ i. (h.shows i, h.carries i)

module _ {T E O : Type 0} (opening : T → O) (entries : T → List E) (right : O → List E → Type 0) (opens uses : E → Option ℕ) (o : O) where
  abbrev pub M : Type 0
  M = Me (Option T) (View E O)

  abbrev pub Kept : State (Option T) (View E O) → Type 0
  Kept = IsKept opening entries right opens uses o

  pub takes : (slots id : ℕ) (me : M) (m : Known E) (k : List (Known E)) (st : Step (Option T)) → me ≡ (viewed (Some o) m k Away, [])
      → Allows Kept slots id me 1 (λ n. either (eqb n 0) 1 n) (taken opening entries st me)
  takes slots id me m k st e = subst (λ z. Allows Kept slots id z 1 (λ n. either (eqb n 0) 1 n) (taken opening entries st z)) (sym e) (takes_at opening entries right opens uses o slots id m k st)

  pub looks : (slots id : ℕ) (me : M) (m : Known E) (k : List (Known E)) (got : List E) (c : List (ℕ × Option T)) (st : Step (Option T)) → me ≡ (viewed (Some o) m k (Got got), c)
      → Allows Kept slots id me 0 (λ n. n) (looked right opens uses st me)
  looks slots id me m k got c st e = subst (λ z. Allows Kept slots id z 0 (λ n. n) (looked right opens uses st z)) (sym e) (looks_at opening entries right opens uses o slots id m k got c st)

  pub ties : (slots id : ℕ) (me : M) (m : Known E) (k : List (Known E)) (st : Step (Option T)) → me ≡ (viewed (Some o) m k Away, [])
      → Allows Kept slots id me 0 (λ n. n) (tied right opens uses st me)
  ties slots id me m k st e = subst (λ z. Allows Kept slots id z 0 (λ n. n) (tied right opens uses st z)) (sym e) (ties_at opening entries right opens uses o slots id m k [] st)

  pub adds : (slots id : ℕ) (me : M) (m : Known E) (k : List (Known E)) (c : List (ℕ × Option T)) (e : E) (noted : Option E) (st : Step (Option T)) → me ≡ (viewed (Some o) m k Held, c) → noted ≡ Some e
      → right o (m.seen ++ e ∷ []) → MayAdd opens uses m.seen m.own e → length (m.seen ++ e ∷ []) < 2 ^ 64 → Allows Kept slots id me 0 (λ n. (n + 1) % 2 ^ 64) (added noted st me)
  adds slots id me m k c e noted st is note_is fit may room =
      subst (λ (z : M × Option E). Allows Kept slots id z.0 0 (λ n. (n + 1) % 2 ^ 64) (added z.1 st z.0)) (λ i. (sym is i, sym note_is i)) (adds_at opening entries right opens uses o slots id m k c e st fit may room)

  pub gives_back : (slots id : ℕ) (me : M) (m : Known E) (k : List (Known E)) (state : T) (st : Step (Option T)) → me ≡ (viewed (Some o) m k Held, (0, Some state) ∷ []) → opening state ≡ o → entries state ≡ m.seen
      → Allows Kept slots id me 1 (λ _. 0) (λ _. given st me 0)
  gives_back slots id me m k state st e opening_is entries_are =
      subst (λ z. Allows Kept slots id z 1 (λ _. 0) (λ _. given st z 0)) (sym e) (gives_at opening entries right opens uses o slots id m k state st opening_is entries_are)

  pub shuts : (slots id : ℕ) (me : M) (m : Known E) (k : List (Known E)) (state : T) (st : Step (Option T)) → me ≡ (viewed (Some o) m k Held, (0, Some state) ∷ []) → opening state ≡ o → entries state ≡ m.seen
      → Allows Kept slots id me 0 (λ n. n) (shut st me)
  shuts slots id me m k state st e opening_is entries_are =
      subst (λ z. Allows Kept slots id z 0 (λ n. n) (shut st z)) (sym e) (shuts_at opening entries right opens uses o slots id m k state st opening_is entries_are)

  -- what a look leaves: the history was seen
  pub looked_me : (st : Step (Option T)) (m : Known E) (k : List (Known E)) (got : List E) (c : List (ℕ × Option T)) (me me' : M) (found : ℕ) → me ≡ (viewed (Some o) m k (Got got), c)
      → looked right opens uses st me found me' → (me' ≡ (viewed (Some o) (with_seen m got) k Held, c)) × IsTold right opens uses o (viewed (Some o) m k (Got got)) got
  looked_me st m k got c me me' found e look = (subst (λ z. looked right opens uses st z found me') e look) got o refl refl

  -- what is left once the turn was taken
  pub got_me : (st : Step (Option T)) (me me' : M) (found : ℕ) (m : Known E) (k : List (Known E)) → me ≡ (viewed (Some o) m k Away, []) → taken opening entries st me found me' → found ≡ 0
      → (state : T) × (me' ≡ (viewed (Some o) m k (Got (entries state)), (0, Some state) ∷ [])) × (opening state ≡ o)
  got_me st me me' found m k e take zero_found =
      let t = (subst (λ z. taken opening entries st z found me') e take).0 zero_found in (t.0, (λ i. (t.2 i, t.1 i)), t.3 o refl)

  abbrev first_slot : List (ℕ × Option T) → Option T
  first_slot [] = None
  first_slot (x ∷ xs) = x.1

  -- what is left once the state was taken out of the slot
  pub out_me : (me' me'' : M) (m : Known E) (k : List (Known E)) (state : T) (result : Option T) → me' ≡ (viewed (Some o) m k (Got (entries state)), (0, Some state) ∷ [])
      → me'.1 ≡ (0, result) ∷ rest me'.1 → me'' ≡ (me'.0, (0, None) ∷ rest me'.1)
      → (me'' ≡ (viewed (Some o) m k (Got (entries state)), (0, None) ∷ [])) × (Some state ≡ result)
  out_me me' me'' m k state result e old new = (new ∙ ap (λ (z : M). (z.0, (0, None) ∷ rest z.1)) e, let slots : (0, Some state) ∷ [] ≡ (0, result) ∷ rest me'.1 = sym (ap (λ (z : M). z.1) e) ∙ old in ap first_slot slots)

  -- what a look tells speaks of whom the seat speaks for, whatever it does with the turn
  pub retold : (m : Known E) (k : List (Known E)) (t u : Turn E) (list : List E) → IsTold right opens uses o (viewed (Some o) m k t) list → IsTold right opens uses o (viewed (Some o) m k u) list
  retold m k t u list h = record { log = h.log; list_is = h.list_is; fitting = h.fitting; fair = h.fair; each = h.each; names = h.names; authors = h.authors }

  pub told_prefix : (m : Known E) (k : List (Known E)) (t : Turn E) (list : List E) → IsTold right opens uses o (viewed (Some o) m k t) list → IsPrefix m.seen list
  told_prefix m k t list h = subst (λ l. IsPrefix m.seen l) (sym h.list_is) h.each.0.seen

  -- what the holder knows once it has looked
  pub seized : (table : TableId) (m : Known E) (k : List (Known E)) (t : Turn E) (state : T) (seat : Seat (Option T) (View E O)) → seat.table_id ≡ table
      → seat.me ≡ (viewed (Some o) (with_seen m (entries state)) k Held, (0, None) ∷ []) → IsTold right opens uses o (viewed (Some o) m k t) (entries state) → IsPart m
      → IsSeat right table o k Held ((0, None) ∷ []) seat
  seized table m k t state seat of_lock me_is told part =
      reseat right table o (with_seen m (entries state)) k Held ((0, None) ∷ []) seat of_lock me_is told.fitting (part_longer 0 m.seen (entries state) m.own (told_prefix m k t (entries state) told) part)

  -- what is left once the state was received
  pub received : (st : Step (Option T)) (me1 me2 me3 : M) (found : ℕ) (m : Known E) (k : List (Known E)) (got state : T) (result : Option T) → me1 ≡ (viewed (Some o) m k (Got (entries got)), (0, Some got) ∷ []) → opening got ≡ o
      → me1.1 ≡ (0, result) ∷ rest me1.1 → me2 ≡ (me1.0, (0, None) ∷ rest me1.1) → result ≡ Some state → looked right opens uses st me2 found me3
      → (me3 ≡ (viewed (Some o) (with_seen m (entries state)) k Held, (0, None) ∷ [])) × IsTold right opens uses o (viewed (Some o) m k Away) (entries state) × (opening state ≡ o)
  received st me1 me2 me3 found m k got state result e opening_is old new is look =
      let out = out_me me1 me2 m k got result e old new in
      let same : got ≡ state = cc (out.1, is) in
      let saw = looked_me st m k (entries got) ((0, None) ∷ []) me2 me3 found out.0 look in
      subst (λ s. (me3 ≡ (viewed (Some o) (with_seen m (entries s)) k Held, (0, None) ∷ [])) × IsTold right opens uses o (viewed (Some o) m k Away) (entries s) × (opening s ≡ o)) same
      (saw.0, retold m k (Got (entries got)) Away (entries got) saw.1, opening_is)

  pub joins : (id other : ℕ) (v w : View E O) (m n : Known E) (k j : List (Known E)) → v ≡ viewed (Some o) m k Away → w ≡ viewed (Some o) n j Away → Joins Kept id v other w (joined v w) spent
  joins id other v w m n k j e f =
      subst (λ (z : View E O × View E O). Joins Kept id z.0 other z.1 (joined z.0 z.1) spent) (λ i. (sym e i, sym f i)) (joins_at opening entries right opens uses o id other m n k j)

  pub splits : (id : ℕ) (v : View E O) (m : Known E) → v ≡ viewed (Some o) m [] Away → Splits Kept id v (lender v) (next_pass v)
  splits id v m e = subst (λ (z : View E O). Splits Kept id z (lender z) (next_pass z)) (sym e) (splits_at opening entries right opens uses o id m)

  pub parts : (id : ℕ) (v : View E O) (m h : Known E) → v ≡ viewed (Some o) m (h ∷ []) Away → Splits Kept id v (alone v) (kept_pass v)
  parts id v m h e = subst (λ (z : View E O). Splits Kept id z (alone z) (kept_pass z)) (sym e) (parts_at opening entries right opens uses o id m h)

  pub sits : (slots : ℕ) → Enters Kept slots 0 (λ _ w. w ≡ spent)
  sits slots s r deep range = (spent, enters opening entries right opens uses o s r, refl)

  pub tied_me : (st : Step (Option T)) (m : Known E) (k : List (Known E)) (me me' : M) (found : ℕ) → me ≡ (viewed (Some o) m k Away, []) → tied right opens uses st me found me'
      → (list : List E) × (me' ≡ (viewed (Some o) (with_seen m list) k Away, [])) × IsTold right opens uses o (viewed (Some o) m k Away) list
  tied_me st m k me me' found e tie = (subst (λ z. tied right opens uses st z found me') e tie) o refl

  -- the own lists of two that one seat speaks for share no entry
  pub share_nothing : (m h : Known E) (list : List E) → IsTold right opens uses o (viewed (Some o) m (h ∷ []) Away) list → ShareNothing h.own m.own
  share_nothing m h list told x y x_in y_in same =
      let mine = made_by_from m.name 0 told.log y (subst (λ l. Stands y l) told.each.0.own y_in) in
      let theirs = made_by_from h.name 0 told.log x (subst (λ l. Stands x l) told.each.1.0.own x_in) in
      let place : theirs.0 ≡ mine.0 = omega (arith, ap (λ (z : Placed E). z.place) theirs.4, ap (λ (z : Placed E). z.place) mine.4, same) in
      let one : theirs.1 ≡ mine.1 = some-injective theirs.1 mine.1 (sym theirs.2 ∙ (ap (get_elem? told.log) place ∙ mine.2)) in
      let names : h.name ≡ m.name = sym theirs.3 ∙ (ap (λ (z : Signed E). z.by) one ∙ mine.3) in
      let a = is_self h m.name names in let b = is_self m m.name refl in let most = told.names m.name in omega arith

  -- each entry that uses a number which the own list opened stands in the own list
  pub uses_stand : (m : Known E) (k : List (Known E)) (list : List E) → IsTold right opens uses o (viewed (Some o) m k Away) list → UsesStand opens uses list m.own
  uses_stand m k list told p n e at used opened =
      let x = history_at told.log p e (subst (λ l. slice_get l p ≡ Some e) told.list_is at) in
      let used' : uses x.0.entry ≡ Some n = ap uses x.2 ∙ used in
      let theirs = told.fair.opener p n x.0 x.1 used' in
      let mine = made_by_from m.name 0 told.log opened.0 (subst (λ l. Stands opened.0 l) told.each.0.own opened.1) in
      let open_mine : opens mine.1.entry ≡ Some n = ap (λ (z : Placed E). opens z.entry) (sym mine.4) ∙ opened.2 in
      let place : theirs.0 ≡ mine.0 = told.fair.once theirs.0 mine.0 n theirs.1 mine.1 theirs.2 mine.2 theirs.3 open_mine in
      let one : theirs.1 ≡ mine.1 = some-injective theirs.1 mine.1 (sym theirs.2 ∙ (ap (get_elem? told.log) place ∙ mine.2)) in
      let by : x.0.by ≡ m.name = sym theirs.4 ∙ (ap (λ (z : Signed E). z.by) one ∙ mine.3) in
      let there : Stands (placed (0 + p) x.0.entry) (made_by m.name 0 told.log) = made_by_stands m.name 0 told.log p x.0 x.1 by in
      let same : placed (0 + p) x.0.entry ≡ placed p e = (λ i. placed (zero_add p i) (x.2 i)) in
      subst (λ (z : Placed E × List (Placed E)). Stands z.0 z.1) (λ i. (same i, sym told.each.0.own i)) there

  -- what two passes are left with once one was joined into the other and has looked
  pub leveled : (st : Step (Option T)) (ma mb : Known E) (me me' : M) (found : ℕ) → me ≡ (viewed (Some o) mb (ma ∷ []) Away, []) → tied right opens uses st me found me'
      → (list : List E) × (me' ≡ (viewed (Some o) (with_seen mb list) (ma ∷ []) Away, [])) × right o list × IsPrefix ma.seen list × IsPrefix mb.seen list × ShareNothing ma.own mb.own
  leveled st ma mb me me' found e tie =
      let r = tied_me st mb (ma ∷ []) me me' found e tie in
      (r.0, r.1, r.2.fitting, subst (λ l. IsPrefix ma.seen l) (sym r.2.list_is) r.2.each.1.0.seen, told_prefix mb (ma ∷ []) Away r.0 r.2, share_nothing mb ma r.0 r.2)

  -- the table at the start
  pub opened : (state : T) (slots : List (Option T)) → slots ≡ Some state ∷ [] → opening state ≡ o → entries state ≡ [] → right o [] → Kept (start (0 ∷ 0 ∷ []) slots (newcomer o))
  opened state slots e opening_is entries_are fit = subst (λ l. Kept (start (0 ∷ 0 ∷ []) l (newcomer o))) (sym e) (opens_at opening entries right opens uses o state opening_is entries_are fit)

  -- the table at the end: the slot has the state
  pub ended : (id : ℕ) (v : View E O) (m : Known E) (k : List (Known E)) (ws : List ℕ) (xs : List (Option T)) → v ≡ viewed (Some o) m k Shut → Final (Seen Kept id v) ws xs
      → (state : T) × (get_elem? xs 0 ≡ some (Some state)) × (opening state ≡ o) × (entries state ≡ m.seen)
  ended id v m k ws xs e final =
      let s = final.0 in
      let slot = closes_at opening entries right opens uses o s final.1.0 id m k (final.1.1 ∙ ap (λ (u : View E O). some u) e) in
      (slot.0, final.4 0 (Some slot.0) (ap (λ hs. get_elem? hs 0) slot.1), slot.2, slot.3)

  pub taken_out : (id : ℕ) (v : View E O) (m : Known E) (k : List (Known E)) (ws : List ℕ) (xs : List (Option T)) (result : Option T) → v ≡ viewed (Some o) m k Shut → Final (Seen Kept id v) ws xs
      → get_elem? xs 0 ≡ some result → (state : T) × (result ≡ Some state) × (opening state ≡ o) × (entries state ≡ m.seen)
  taken_out id v m k ws xs result e final at =
      let end = ended id v m k ws xs e final in (end.0, some-injective result (Some end.0) (sym at ∙ end.1), end.2, end.3)

module _ {E O : Type 0} (right : O → List E → Type 0) where
  pub right_at : (o p : O) (xs ys : List E) → o ≡ p → xs ≡ ys → right o xs → right p ys
  right_at o p xs ys same_o same_xs h = subst (λ (z : O × List E). right z.0 z.1) (λ i. (same_o i, same_xs i)) h

module _ {T E O : Type 0} (o : O) where
  -- a seat by its own parts
  pub as_own : (me : Me (Option T) (View E O)) (m : Known E) (k : List (Known E)) (t : Turn E) (slots : List (ℕ × Option T)) → me ≡ (viewed (Some o) m k t, slots) → me ≡ (viewed (Some o) me.0.me me.0.kept t, slots)
  as_own me m k t slots e = e ∙ (λ i. (viewed (Some o) (sym e i).0.me (sym e i).0.kept t, slots))

module _ {E : Type 0} where
  pub share_still : (own other own' other' : List (Placed E)) → own' ≡ own → other' ≡ other → ShareNothing own other → ShareNothing own' other'
  share_still own other own' other' e f h = subst (λ (z : List (Placed E) × List (Placed E)). ShareNothing z.0 z.1) (λ i. (sym e i, sym f i)) h

module _ {E : Type 0} (opens uses : E → Option ℕ) where
  pub uses_still : (seen seen' : List E) (own own' : List (Placed E)) → seen' ≡ seen → own' ≡ own → UsesStand opens uses seen own → UsesStand opens uses seen' own'
  uses_still seen seen' own own' e f h = subst (λ (z : List E × List (Placed E)). UsesStand opens uses z.0 z.1) (λ i. (sym e i, sym f i)) h
