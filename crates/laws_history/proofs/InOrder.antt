-- A run by one worker: no attempt meets a conflict, and its numbers and its blocks come in the script's order.
use Rattle.std.proofs.Common.{◌≡◌, ◌⊎◌, ℕ, ◌+◌, ◌-◌, ◌%◌, ◌^◌, ◌<◌, ◌≤◌, true, List, [], ◌∷◌, ◌++◌, map, length, length-append, slice_get, Some, IfSome, sym, refl, ap, ◌∙◌, subst, inl, inr, ⊎_elim, arith, append_assoc, mod-lt, eq-eqb}
use Rattle.std.specs.List.{AllByRecursion}
use Rattle.std.proofs.lemmas.Bool.{cases_lt}
use Rattle.std.proofs.lemmas.List.{length-map, map-append}
use Rattle.std.proofs.lemmas.Option.{slice_get_within}
use mathlib.Core.List.{IsPrefix}
use Rattle.ql_types.specs.Ids.{raw_id, transaction_in}
use Rattle.ledger_model.specs.declared.block.Block.{Block}
use Rattle.ledger_model.specs.declared.outcome.Outcome.{Outcome}
use Rattle.ledger_model.specs.declared.outcome.Outcome.TheVariants.{Committed, Conflict, Refused, DigestDiffers, StoreFault, JournalFull, IdsSpent, Aborted, Denied, OutOfMemory}
use Rattle.ledger_model.specs.declared.outcome.PlacedOutcome.{PlacedOutcome}
use Rattle.ledger_model.specs.Script.{Placed}
use Rattle.turn_lock.specs.declared.view.Known.{Known}
use Rattle.turn_lock.specs.History.{Stands, placed}
use Rattle.turn_lock.proofs.Lists.{prefix_get, prefix_length, prefix_trans}
use Rattle.laws_validity.proofs.Lists.{all_front, all_like, all_mapped, all_unmapped}
use Rattle.laws_history.specs.Records.{RunRecord, HaveOneWorker, greatest, stood_before, told_id, told_ids, InOrder, IsBehind}
use Rattle.laws_history.proofs.Numbers.{transaction_of_id}
use Rattle.laws_machine.specs.Entries.{Entry, Opening, Reach, begun_at, reach_at, sealed}
use Rattle.laws_history.specs.Seen.{blocks_in, reach}
use Rattle.laws_history.specs.Alone.{AreNext, EachSpent, HasOneWorker, MeetsNoConflict, OneWorkerInOrder, RunsInOrder, is_spent}
use Rattle.laws_history.specs.Claims.{RunsBefore}
use Rattle.laws_history.specs.Runs.{IsRunBy, Served, is_dealt, opening_of, told_of}
use Rattle.laws_history.proofs.Fitting.{fits, in_line_of}
use Rattle.laws_history.proofs.InRows.{AllLess, Rise, are_next, in_row, told_rise}
use Rattle.laws_history.proofs.Links.{InTime, IsLink, Link, all_new, few_drawn, in_time_rest, may_have_drawn, stands_new}
use Rattle.laws_history.proofs.Lists.{all_kept, all_stand, many_stand, one_length, prefix_front, seen_in, stands_all, stands_front, stands_parts, stands_rest}
use Rattle.laws_history.proofs.Makes.{IsEntryOf, drawn}
use Rattle.laws_history.proofs.NoConflicts.{blocks_in_order, none_met}
use Rattle.laws_history.proofs.Owners.{Owner, Told, drawn_stands, line, owner, same_line, told_job}
use Rattle.laws_history.proofs.Pairs.{AreInOrder, AreServed, all_served}
use Rattle.laws_history.proofs.Reaches.{IsSealedIn, IsToldIn, begun_by, comes_behind, fewer_blocks, grew, lasts_on, may_come, blocks_sealed, number_drawn, run_prefix}
use Rattle.laws_history.proofs.Tells.{IsNumbered, draws}
use Rattle.laws_history.proofs.Told.{IsOne, all_tells, ids_told, one_id, tells}

-- ---- what is so of everything

all_true : {A : Type 0} (P : A → Type 0) → ((x : A) → P x) → (xs : List A) → AllByRecursion P xs
all_true P f [] = tt
all_true P f (x ∷ xs) = (f x, all_true P f xs)

-- ---- what each outcome tells

-- where no attempt but the last was made and none wants memory, each number that was drawn is told
drawn_told : (x : Outcome) → (x ≡ OutOfMemory → ⊥) → draws x ≤ length (told_id x)
drawn_told (Committed tx block) h = omega arith
drawn_told (Conflict tx since named) h = omega arith
drawn_told (Refused tx since statement cause) h = omega arith
drawn_told (DigestDiffers tx since mine given) h = omega arith
drawn_told (StoreFault tx count) h = omega arith
drawn_told (JournalFull tx blocks) h = omega arith
drawn_told (IdsSpent last) h = omega arith
drawn_told (Aborted tx since) h = omega arith
drawn_told (Denied statement action table rule) h = omega arith
drawn_told OutOfMemory h = absurd (h refl)

draws_one : (x : Outcome) → draws x ≤ 1
draws_one (Committed tx block) = omega arith
draws_one (Conflict tx since named) = omega arith
draws_one (Refused tx since statement cause) = omega arith
draws_one (DigestDiffers tx since mine given) = omega arith
draws_one (StoreFault tx count) = omega arith
draws_one (JournalFull tx blocks) = omega arith
draws_one (IdsSpent last) = omega arith
draws_one (Aborted tx since) = omega arith
draws_one (Denied statement action table rule) = omega arith
draws_one OutOfMemory = omega arith

spent_draws : (x : Outcome) → is_spent x ≡ true → draws x ≡ 0
spent_draws (Committed tx block) e = let bad : ⊥ = cc e in absurd bad
spent_draws (Conflict tx since named) e = let bad : ⊥ = cc e in absurd bad
spent_draws (Refused tx since statement cause) e = let bad : ⊥ = cc e in absurd bad
spent_draws (DigestDiffers tx since mine given) e = let bad : ⊥ = cc e in absurd bad
spent_draws (StoreFault tx count) e = let bad : ⊥ = cc e in absurd bad
spent_draws (JournalFull tx blocks) e = let bad : ⊥ = cc e in absurd bad
spent_draws (IdsSpent last) e = refl
spent_draws (Aborted tx since) e = let bad : ⊥ = cc e in absurd bad
spent_draws (Denied statement action table rule) e = let bad : ⊥ = cc e in absurd bad
spent_draws OutOfMemory e = let bad : ⊥ = cc e in absurd bad

calm_drawn : (ls : List Link) → AllByRecursion (λ (l : Link). l.tries ≡ 0) ls
    → AllByRecursion (λ (l : Link). l.served.outcome ≡ OutOfMemory → ⊥) ls
    → may_have_drawn ls ≤ length (tells told_id (map (λ (l : Link). l.served) ls))
calm_drawn [] none fine = omega arith
calm_drawn (l ∷ ls) none fine =
    let here : l.tries ≡ 0 = none.0 in
    let one = drawn_told l.served.outcome fine.0 in
    let rest = calm_drawn ls none.1 fine.1 in
    let all : length (told_id l.served.outcome ++ tells told_id (map (λ (m : Link). m.served) ls))
    ≡ length (told_id l.served.outcome) + length (tells told_id (map (λ (m : Link). m.served) ls)) =
    length-append (told_id l.served.outcome) (tells told_id (map (λ (m : Link). m.served) ls)) in
    omega (arith, here, one, rest, all)

few_calm : (ls : List Link) → AllByRecursion (λ (l : Link). l.tries ≡ 0) ls → may_have_drawn ls ≤ length ls
few_calm [] none = omega arith
few_calm (l ∷ ls) none =
    let here : l.tries ≡ 0 = none.0 in
    let one = draws_one l.served.outcome in
    let rest = few_calm ls none.1 in
    omega (arith, here, one, rest)

few_front : (ls : List Link) (l : Link) → AllByRecursion (λ (m : Link). m.tries ≡ 0) (ls ++ l ∷ [])
    → is_spent l.served.outcome ≡ true → may_have_drawn (ls ++ l ∷ []) ≤ length ls
few_front [] l none e =
    let here : l.tries ≡ 0 = none.0 in
    let no = spent_draws l.served.outcome e in
    omega (arith, here, no)
few_front (k ∷ ls) l none e =
    let here : k.tries ≡ 0 = none.0 in
    let one = draws_one k.served.outcome in
    let rest = few_front ls l none.1 e in
    omega (arith, here, one, rest)

one_mapped : (f : ℕ → ℕ) (xs : List ℕ) → IsOne xs → IsOne (map f xs)
one_mapped f [] h = tt
one_mapped f (x ∷ []) h = tt
one_mapped f (x ∷ y ∷ xs) h = h

-- the numbers of the ids that an outcome tells
abbrev numbers_of : ℕ → Outcome → List ℕ
numbers_of mask x = map (transaction_in mask) (told_id x)

map_tells : (mask : ℕ) (ss : List Served) → map (transaction_in mask) (tells told_id ss) ≡ tells (numbers_of mask) ss
map_tells mask [] = refl
map_tells mask (s ∷ ss) =
    map-append (transaction_in mask) (told_id s.outcome) (tells told_id ss)
    ∙ ap (λ (ns : List ℕ). numbers_of mask s.outcome ++ ns) (map_tells mask ss)

module _ (t : RunRecord) (ss : List Served) (es : List Entry) (pass_of : ℕ → Known Entry) (r : IsRunBy t ss es pass_of)
    (one : t.workers ≡ 1) where
  abbrev o : Opening
  o = opening_of t

  -- ---- all jobs are the one worker's

  rest_none : (n : ℕ) → n % t.workers ≡ 0
  rest_none n = let less = mod-lt n r.some in omega (arith, less, one)

  abbrev ls : List Link
  ls = (line t ss es pass_of r 0 r.some).links

  are_links : AllByRecursion (IsLink t es) ls
  are_links = (line t ss es pass_of r 0 r.some).each

  served_all : map (λ (l : Link). l.served) ls ≡ ss
  served_all =
      (line t ss es pass_of r 0 r.some).served
      ∙ all_kept (is_dealt t.workers 0) ss
      (λ s. eq-eqb (s.placed.place.session % t.workers) 0 (rest_none s.placed.place.session))

  -- the job that made an entry
  record Maker (i : ℕ) (e : Entry) : Type 0 where
    link : Link
    among : Stands link ls
    new : Stands (placed i e) link.new
    entry : IsEntryOf o link.served.placed link.served.outcome link.from link.until (placed i e)

  maker : (i : ℕ) (e : Entry) → slice_get es i ≡ Some e → Maker i e
  maker i e there =
      let w : Owner t ss es pass_of r i e = owner t ss es pass_of r i e there in
      let first : w.rest ≡ 0 = omega (arith, w.low, one) in
      record {
        link = w.link;
        among = same_line t ss es pass_of r 0 w.rest r.some w.low w.link first w.among;
        new = w.new;
        entry = w.entry;
      }

  in_order : (l m : Link) → Stands l ls → Stands m ls
      → (l ≡ m) ⊎ ((IsPrefix l.until m.from × IsBehind l.served.placed.place m.served.placed) ⊎ IsPrefix m.until l.from)
  in_order l m a b =
      in_line_of ls l m (line t ss es pass_of r 0 r.some).in_time
      (subst (λ (xs : List Served). InOrder (map (λ (s : Served). s.placed) xs)) (sym served_all)
      (subst (λ (ps : List Placed). InOrder ps) r.jobs r.in_order)) a b

  -- ---- no attempt meets a conflict

  module _ (l : Link) (among : Stands l ls) (front : List Entry) (number : ℕ) (b : Block)
      (behind : IsPrefix l.from front)
      (within : IsPrefix (front ++ sealed number b ∷ []) l.mid) where
    is : IsLink t es l
    is = stands_all (IsLink t es) l ls are_links among

    there : IsPrefix (front ++ sealed number b ∷ []) es
    there =
        prefix_trans (front ++ sealed number b ∷ []) l.mid es within
        (prefix_trans l.mid l.until es (is).mid_until (is).inside)

    made_by : Maker (length front) (sealed number b)
    made_by = maker (length front) (sealed number b) (seen_in front (sealed number b) es there)

    longer : length front < length l.mid
    longer =
        let low = prefix_length (front ++ sealed number b ∷ []) l.mid within in
        let more : length (front ++ sealed number b ∷ []) ≡ length front + 1 = length-append front
        (sealed number b ∷ []) in
        omega (arith, low, more)

    same_front : (made_by).entry.front ≡ front
    same_front =
        let m_is : IsLink t es (made_by).link = stands_all (IsLink t es) (made_by).link ls are_links (made_by).among in
        one_length (made_by).entry.front front es
        (prefix_front (made_by).entry.front (sealed number b) es
        (prefix_trans ((made_by).entry.front ++ sealed number b ∷ []) (made_by).link.until es
        (made_by).entry.within m_is.inside))
        (prefix_front front (sealed number b) es there) (sym (made_by).entry.place)

    -- its own block stands behind
    not_own : l ≡ (made_by).link → ⊥
    not_own same =
        let told : l.served.outcome ≡ Committed b.header.tx (length (blocks_in o (made_by).entry.front)) =
        ap (λ (m : Link). m.served.outcome) same ∙ ((made_by).entry.says).told in
        let low : length (blocks_in o l.mid) ≤ length (blocks_in o (made_by).entry.front) =
        subst (λ (x : Outcome). IfSome (stood_before x) (λ n. length (blocks_in o l.mid) ≤ n)) told (is).starts in
        let fronts : length (blocks_in o (made_by).entry.front) ≡ length (blocks_in o front) =
        ap (λ (f : List Entry). length (blocks_in o f)) same_front in
        let more : length (blocks_in o (front ++ sealed number b ∷ [])) ≡ length (blocks_in o front) + 1 =
        ap length (blocks_sealed (reach_at o) front number b) ∙ length-append (blocks_in o front) (b ∷ []) in
        let high = fewer_blocks (reach_at o) (front ++ sealed number b ∷ []) l.mid within in
        omega (arith, low, fronts, more, high)

    not_later : IsPrefix l.until (made_by).link.from → ⊥
    not_later later =
        let low =
        prefix_length l.mid (made_by).entry.front
        (prefix_trans l.mid l.until (made_by).entry.front (is).mid_until
        (prefix_trans l.until (made_by).link.from (made_by).entry.front later (made_by).entry.behind)) in
        let fronts : length (made_by).entry.front ≡ length front = sym (made_by).entry.place in
        omega (arith, low, fronts, longer)

    not_earlier : IsPrefix (made_by).link.until l.from → ⊥
    not_earlier earlier =
        let low =
        prefix_length ((made_by).entry.front ++ sealed number b ∷ []) front
        (prefix_trans ((made_by).entry.front ++ sealed number b ∷ []) (made_by).link.until front (made_by).entry.within
        (prefix_trans (made_by).link.until l.from front earlier behind)) in
        let fronts : length (made_by).entry.front ≡ length front = sym (made_by).entry.place in
        let more : length ((made_by).entry.front ++ sealed number b ∷ []) ≡ length (made_by).entry.front + 1 =
        length-append (made_by).entry.front (sealed number b ∷ []) in
        omega (arith, low, fronts, more)

    between_by : (l ≡ (made_by).link)
        ⊎ ((IsPrefix l.until (made_by).link.from
        × IsBehind l.served.placed.place (made_by).link.served.placed)
        ⊎ IsPrefix (made_by).link.until l.from)
        → ⊥
    between_by (inl same) = not_own same
    between_by (inr (inl later)) = not_later later.0
    between_by (inr (inr earlier)) = not_earlier earlier

    none_between : ⊥
    none_between = between_by (in_order l (made_by).link among (made_by).among)

  no_tries : (l : Link) → Stands l ls → l.tries ≡ 0
  no_tries l among =
      ⊎_elim
      (λ (some : 0 < l.tries).
      let is : IsLink t es l = stands_all (IsLink t es) l ls are_links among in
      let found : IsSealedIn l.from l.mid = grew (reach_at o) l.from l.mid is.from_mid
      (omega (arith, some, is.moved)) in
      absurd (none_between l among found.front found.number found.block found.behind found.within))
      (λ (none : l.tries ≤ 0). omega (arith, none)) (cases_lt 0 l.tries)

  all_calm : AllByRecursion (λ (l : Link). l.tries ≡ 0) ls
  all_calm = all_stand (λ (l : Link). l.tries ≡ 0) ls no_tries

  -- ---- the numbers

  alone : HasOneWorker t
  alone =
      all_true
      (λ (p : Placed). AllByRecursion
      (λ (q : Placed). HaveOneWorker t.workers p.place.session q.place.session) t.jobs)
      (λ p. all_true (λ (q : Placed). HaveOneWorker t.workers p.place.session q.place.session)
      (λ q. rest_none p.place.session ∙ sym (rest_none q.place.session)) t.jobs) t.jobs

  calm : MeetsNoConflict t
  calm = none_met t (fits t ss es pass_of r) alone

  -- what holds of the number of each id that is told
  record IsTrueId (raw : ℕ) : Type 0 where
    id : raw ≡ raw_id t.mask (transaction_in t.mask raw) 0
    above : greatest t.mask t.before + 1 ≤ transaction_in t.mask raw
    within : transaction_in t.mask raw < (reach o es).last + 1

  true_id : (l : Link) → IsLink t es l → (raw : ℕ) → IsNumbered o l.served.placed.place l.mid l.until raw → IsTrueId raw
  true_id l is raw n =
      let e : Entry = begun_at l.served.placed.place n.number n.since in
      let there : IsPrefix (n.front ++ e ∷ []) es =
      prefix_trans (n.front ++ e ∷ []) l.until es n.within is.inside in
      let next : n.number ≡ (reach o n.front).last + 1 = (may_come (reach_at o) n.front e es there r.right.run).0 in
      let first : greatest t.mask t.before ≤ (reach o n.front).last =
      lasts_on (reach_at o) [] n.front (n.front, refl)
      (run_prefix (reach_at o) n.front es (prefix_front n.front e es there) r.right.run) in
      let most = lasts_on (reach_at o) (n.front ++ e ∷ []) es there r.right.run in
      let own : (reach o (n.front ++ e ∷ [])).last ≡ n.number =
      ap (λ (x : Reach). x.last) (comes_behind (reach_at o) n.front e) in
      let number : transaction_in t.mask raw ≡ n.number =
      ap (transaction_in t.mask) n.id ∙ transaction_of_id t.mask n.number in
      record {
        id = n.id ∙ ap (λ k. raw_id t.mask k 0) (sym number);
        above = omega (arith, first, next, number);
        within = omega (arith, most, own, number);
      }

  true_ids : AllByRecursion IsTrueId (told_ids t.outcomes)
  true_ids =
      subst (AllByRecursion IsTrueId) (sym (ap told_ids r.outcomes ∙ ids_told ss))
      (all_tells told_id IsTrueId ss
      (all_stand (λ (s : Served). AllByRecursion IsTrueId (told_id s.outcome)) ss
      (λ s h.
      let k : Told t ss es pass_of r s = told_job t ss es pass_of r s h in
      subst (λ (x : Served). AllByRecursion IsTrueId (told_id x.outcome)) k.served
      (all_like (IsNumbered o k.link.served.placed.place k.link.mid k.link.until) IsTrueId (true_id k.link k.is)
      (told_id k.link.served.outcome) k.is.numbers))))

  numbers_less : (xs : List Served) → AreInOrder t xs → AllLess (numbers_of t.mask) xs
  numbers_less [] h = tt
  numbers_less (s ∷ xs) h = (
    all_like
        (λ (q : Served). HaveOneWorker t.workers s.placed.place.session q.placed.place.session
        → RunsBefore t s.outcome q.placed q.outcome)
        (λ (q : Served). AllByRecursion (λ m. AllByRecursion (λ n. m < n) (numbers_of t.mask q.outcome))
        (numbers_of t.mask s.outcome))
        (λ q before. all_mapped (λ m. AllByRecursion (λ n. m < n) (numbers_of t.mask q.outcome)) (transaction_in t.mask)
        (told_id s.outcome)
        (all_like
        (λ m. AllByRecursion (λ n. transaction_in t.mask m < transaction_in t.mask n) (told_id q.outcome))
        (λ m. AllByRecursion (λ n. transaction_in t.mask m < n) (numbers_of t.mask q.outcome))
        (λ m less. all_mapped (λ n. transaction_in t.mask m < n) (transaction_in t.mask) (told_id q.outcome) less)
        (told_id s.outcome)
        (before (rest_none s.placed.place.session ∙ sym (rest_none q.placed.place.session))).numbers)) xs h.0,
    numbers_less xs h.1,
  )

  numbers_rise : Rise (map (transaction_in t.mask) (told_ids t.outcomes))
  numbers_rise =
      let a : AreServed t [] t.jobs t.outcomes = all_served t [] t.jobs t.outcomes (fits t ss es pass_of r).outcomes in
      subst (λ (ns : List ℕ). Rise ns)
      (sym (map_tells t.mask a.all)
      ∙ ap (λ (raws : List ℕ). map (transaction_in t.mask) raws) (sym (ids_told a.all) ∙ ap told_ids a.outcomes))
      (told_rise (numbers_of t.mask) (λ x. one_mapped (transaction_in t.mask) (told_id x) (one_id x)) a.all
      (numbers_less a.all a.in_order))

  number_among : (n : ℕ) → greatest t.mask t.before < n → n ≤ (reach o es).last → Stands n (drawn (all_new ls))
  number_among n low high =
      let told : IsToldIn begun_by es n = number_drawn (reach_at o) es n r.right.run low high in
      let m : Maker told.place told.entry = maker told.place told.entry told.there in
      drawn_stands n (placed told.place told.entry) (all_new ls)
      (stands_new (placed told.place told.entry) m.link ls m.among m.new) told.tells

  -- as many are told as were drawn
  all_told : AllByRecursion (λ (o : PlacedOutcome). o.outcome ≡ OutOfMemory → ⊥) t.outcomes
      → (reach o es).last ≤ greatest t.mask t.before + length (told_ids t.outcomes)
  all_told fine =
      let drew = few_drawn t es ls are_links in
      let fine_links : AllByRecursion (λ (l : Link). l.served.outcome ≡ OutOfMemory → ⊥) ls =
      all_unmapped (λ (s : Served). s.outcome ≡ OutOfMemory → ⊥) (λ (l : Link). l.served) ls
      (subst (λ (xs : List Served). AllByRecursion (λ (s : Served). s.outcome ≡ OutOfMemory → ⊥) xs) (sym served_all)
      (all_unmapped (λ (d : PlacedOutcome). d.outcome ≡ OutOfMemory → ⊥) told_of ss
      (subst (λ (os : List PlacedOutcome). AllByRecursion
      (λ (d : PlacedOutcome). d.outcome ≡ OutOfMemory → ⊥) os) r.outcomes
      fine))) in
      let few = calm_drawn ls all_calm fine_links in
      let same : length (tells told_id (map (λ (l : Link). l.served) ls)) ≡ length (told_ids t.outcomes) =
      ap (λ (xs : List Served). length (tells told_id xs)) served_all
      ∙ ap length (sym (ids_told ss) ∙ ap told_ids (sym r.outcomes)) in
      let later : greatest t.mask t.before ≤ (reach o es).last = lasts_on (reach_at o) [] es (es, refl) r.right.run in
      let many = many_stand ((reach o es).last - greatest t.mask t.before) (greatest t.mask t.before + 1)
      (drawn (all_new ls))
      (λ m low high. number_among m (omega (arith, low)) (omega (arith, high, later))) in
      omega (arith, drew, few, same, later, many)

  numbers_next : AllByRecursion (λ (o : PlacedOutcome). o.outcome ≡ OutOfMemory → ⊥) t.outcomes
      → AreNext t.mask (greatest t.mask t.before) (told_ids t.outcomes)
  numbers_next fine =
      let full = all_told fine in
      let same : length (map (transaction_in t.mask) (told_ids t.outcomes)) ≡ length (told_ids t.outcomes) =
      length-map (told_ids t.outcomes) (transaction_in t.mask) in
      are_next t.mask (greatest t.mask t.before) (told_ids t.outcomes)
      (all_like IsTrueId (λ raw. raw ≡ raw_id t.mask (transaction_in t.mask raw) 0) (λ raw h. h.id)
      (told_ids t.outcomes) true_ids)
      (in_row (greatest t.mask t.before + 1) ((reach o es).last + 1) (map (transaction_in t.mask) (told_ids t.outcomes))
      (all_mapped (λ n. greatest t.mask t.before + 1 ≤ n) (transaction_in t.mask) (told_ids t.outcomes)
      (all_like IsTrueId (λ raw. greatest t.mask t.before + 1 ≤ transaction_in t.mask raw) (λ raw h. h.above)
      (told_ids t.outcomes)
      true_ids))
      (all_mapped (λ n. n < (reach o es).last + 1) (transaction_in t.mask) (told_ids t.outcomes)
      (all_like IsTrueId (λ raw. transaction_in t.mask raw < (reach o es).last + 1) (λ raw h. h.within)
      (told_ids t.outcomes)
      true_ids))
      numbers_rise (omega (arith, full, same)))

  -- ---- where no number is left

  -- a number that was drawn by then is one of the jobs' in front
  module _ (front : List Link) (l : Link) (back : List Link) (all : front ++ l ∷ back ≡ ls) where
    pub l_among : Stands l ls
    l_among = subst (λ (xs : List Link). Stands l xs) all (stands_rest l front (l ∷ back) (inl refl))

    later_from : AllByRecursion (λ (m : Link). IsPrefix l.until m.from) back
    later_from = in_time_rest front l back
        (subst (λ (xs : List Link). InTime xs) (sym all) (line t ss es pass_of r 0 r.some).in_time)

    here : (m : Link) (i : ℕ) (e : Entry) → IsEntryOf o m.served.placed m.served.outcome m.from m.until (placed i e)
        → i < length l.until → Stands m (l ∷ back) → Stands m (l ∷ [])
    here m i e entry less (inl same) = inl same
    here m i e entry less (inr behind) =
        let low =
        prefix_length l.until entry.front
        (prefix_trans l.until m.from entry.front
        (stands_all (λ (k : Link). IsPrefix l.until k.from) m back later_from behind) entry.behind) in
        let at : i ≡ length entry.front = entry.place in
        absurd (omega (arith, low, at, less))

    in_front : (m : Link) → Stands m ls → (i : ℕ) (e : Entry)
        → IsEntryOf o m.served.placed m.served.outcome m.from m.until (placed i e)
        → i < length l.until → Stands m (front ++ l ∷ [])
    in_front m among i e entry less =
        ⊎_elim (λ (a : Stands m front). stands_front m front (l ∷ []) a)
        (λ (b : Stands m (l ∷ back)). stands_rest m front (l ∷ []) (here m i e entry less b))
        (stands_parts m front (l ∷ back) (subst (λ (xs : List Link). Stands m xs) (sym all) among))

    drawn_in_front : (n : ℕ) → greatest t.mask t.before < n → n ≤ (reach o l.until).last
        → Stands n (drawn (all_new (front ++ l ∷ [])))
    drawn_in_front n low high =
        let is : IsLink t es l = stands_all (IsLink t es) l ls are_links l_among in
        let told : IsToldIn begun_by l.until n =
        number_drawn (reach_at o) l.until n (run_prefix (reach_at o) l.until es is.inside r.right.run) low high in
        let m : Maker told.place told.entry =
        maker told.place told.entry (prefix_get l.until es told.place told.entry is.inside told.there) in
        drawn_stands n (placed told.place told.entry) (all_new (front ++ l ∷ []))
        (stands_new (placed told.place told.entry) m.link (front ++ l ∷ [])
        (in_front m.link m.among told.place told.entry m.entry
        (slice_get_within l.until told.place told.entry told.there)) m.new)
        told.tells

    pub used_up : is_spent l.served.outcome ≡ true → 2 ^ 64 - 1 ≤ greatest t.mask t.before + length front
    used_up e =
        let is : IsLink t es l = stands_all (IsLink t es) l ls are_links l_among in
        let last : (reach o l.until).last ≡ 2 ^ 64 - 1 = is.spends e in
        let later : greatest t.mask t.before ≤ (reach o l.until).last =
        lasts_on (reach_at o) [] l.until (l.until, refl) (run_prefix (reach_at o) l.until es is.inside r.right.run) in
        let some : AllByRecursion (IsLink t es) (front ++ l ∷ []) =
        all_front (IsLink t es) (front ++ l ∷ []) back
        (subst (λ (xs : List Link). AllByRecursion (IsLink t es) xs)
        (sym all ∙ sym (append_assoc front (l ∷ []) back)) are_links) in
        let none : AllByRecursion (λ (m : Link). m.tries ≡ 0) (front ++ l ∷ []) =
        all_front (λ (m : Link). m.tries ≡ 0) (front ++ l ∷ []) back
        (subst (λ (xs : List Link). AllByRecursion (λ (m : Link). m.tries ≡ 0) xs)
        (sym all ∙ sym (append_assoc front (l ∷ []) back)) all_calm) in
        let drew = few_drawn t es (front ++ l ∷ []) some in
        let few = few_front front l none e in
        let many = many_stand ((reach o l.until).last - greatest t.mask t.before) (greatest t.mask t.before + 1)
        (drawn (all_new (front ++ l ∷ [])))
        (λ m low high. drawn_in_front m (omega (arith, low)) (omega (arith, high, later))) in
        omega (arith, last, later, drew, few, many)

  spent_from : (front rest : List Link) (n : ℕ) → n ≡ length front → front ++ rest ≡ ls
      → EachSpent t n (map told_of (map (λ (l : Link). l.served) rest))
  spent_from front [] n is all = tt
  spent_from front (l ∷ rest) n is all =
      let more : length (front ++ l ∷ []) ≡ length front + 1 = length-append front (l ∷ []) in (
        λ e. let used = used_up front l rest all e in omega (arith, used, is),
        spent_from (front ++ l ∷ []) rest (n + 1) (omega (arith, is, more)) (append_assoc front (l ∷ []) rest ∙ all),
      )

  each_spent : EachSpent t 0 t.outcomes
  each_spent =
      subst (λ (os : List PlacedOutcome). EachSpent t 0 os) (ap (map told_of) served_all ∙ sym r.outcomes)
      (spent_from [] ls 0 refl refl)

  -- ---- all of it

  pub runs_in_order : RunsInOrder t
  runs_in_order =
      let made = blocks_in_order t (fits t ss es pass_of r) alone in
      record { calm = calm; numbers = numbers_next; blocks = made.0; all_told = made.1; spent = each_spent }

pub one_worker_in_order : OneWorkerInOrder
one_worker_in_order t ss es pass_of r one = runs_in_order t ss es pass_of r one
