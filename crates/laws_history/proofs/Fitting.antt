-- A run by several workers meets what is claimed of it.
use Rattle.std.proofs.Common.{◌≡◌, ◌⊎◌, ℕ, zero, suc, ◌+◌, ◌%◌, ◌<◌, ◌≤◌, true, false, List, [], ◌∷◌, ◌++◌, map, length, length-append, drop, slice_index_or, Contains, sym, refl, ap, ◌∙◌, subst, inl, inr, arith}
use Rattle.std.specs.List.{AllByRecursion}
use mathlib.Core.List.{IsPrefix}
use Rattle.ql_types.specs.Ids.{raw_id, transaction_in}
use Rattle.ql_types.specs.declared.Place.{Place}
use Rattle.ledger_model.specs.declared.block.Block.{Block}
use Rattle.ledger_model.specs.declared.outcome.Outcome.{Outcome}
use Rattle.ledger_model.specs.declared.outcome.Outcome.TheVariants.{Committed}
use Rattle.ledger_model.specs.declared.outcome.PlacedOutcome.{PlacedOutcome}
use Rattle.ledger_model.specs.Damages.{Undamaged}
use Rattle.ledger_model.specs.HashesAsked.{AreAsked}
use Rattle.ledger_model.specs.Follows.{all_differ}
use Rattle.ledger_model.specs.Legal.{Legal}
use Rattle.ledger_model.specs.Script.{Placed}
use Rattle.turn_lock.specs.declared.view.Known.{Known}
use Rattle.turn_lock.specs.History.{Stands}
use Rattle.turn_lock.proofs.Lists.{prefix_length, prefix_trans}
use Rattle.laws_validity.proofs.Lists.{all_like}
use Rattle.laws_history.specs.Records.{RunRecord, Before, FitsBlocks, HasNoBlock, InSessionOrder, IsOfSomeJob, greatest_count, made, mask_of, told_count, told_counts, told_id, told_ids, InOrder, IsBehind}
use Rattle.laws_history.proofs.Numbers.{transaction_of_id}
use Rattle.laws_machine.specs.Entries.{Entry, Opening, Reach, begun_at, failed, reach_at, sealed, wanted}
use Rattle.laws_history.specs.Seen.{blocks_in, reach}
use Rattle.laws_history.specs.Attempts.{SendsOwn}
use Rattle.laws_history.specs.Claims.{EachHolds, Fits, IsOfOwnDigest}
use Rattle.laws_history.specs.Runs.{IsRunBy, RunsFit, Served, opening_of}
use Rattle.laws_history.proofs.Asked.{asked_reached}
use Rattle.laws_history.proofs.Dealt.{dealt_in_order, dealt_rest, rest_of, same_served}
use Rattle.laws_history.proofs.Links.{InTime, IsLink, Link}
use Rattle.laws_history.proofs.Lists.{all_stand, one_before, one_length, prefix_front, prefix_take, stands_all, stands_contains, stands_map}
use Rattle.laws_history.proofs.Makes.{IsCommittedAs, is_committed}
use Rattle.laws_history.proofs.Order.{outcomes_hold}
use Rattle.laws_history.proofs.Owners.{Owner, Told, line, link_dealt, link_is, link_served, owner, owner_at, same_line, stands_mapped, told_job}
use Rattle.laws_history.proofs.Reaches.{IsToldIn, comes_behind, count_told, counts_on, failed_by, fewer_blocks, blocks_sealed, lasts_on, may_come, reached_blocks, reached_mask, run_prefix, sealed_in}
use Rattle.laws_history.proofs.Serial.{runs_are_legal}
use Rattle.laws_history.proofs.Sealed.{all_ordered, drop_front, each_sealed, strand_all}
use Rattle.laws_history.proofs.Tells.{IsFailed, IsNumbered}
use Rattle.laws_history.proofs.Told.{all_apart, all_tells, counts_told, greatest_most, ids_told, least_greatest, one_count, one_id, stands_greatest, stands_told, tells}

-- the block that is told
abbrev pub block_told : Outcome → ℕ
block_told (Committed tx block) = block
block_told other = 0

-- ---- jobs of one worker

abbrev pub placed_in : List Link → List Placed
placed_in ls = map (λ (s : Served). s.placed) (map (λ (l : Link). l.served) ls)

-- of two of them they are one, or the one was over when the other began, in the script's order
pub in_line_of : (ls : List Link) (l m : Link) → InTime ls → InOrder (placed_in ls) → Stands l ls → Stands m ls
    → (l ≡ m)
    ⊎ ((IsPrefix l.until m.from × IsBehind l.served.placed.place m.served.placed) ⊎ IsPrefix m.until l.from)
in_line_of [] l m h order a b = absurd a
in_line_of (x ∷ ls) l m h order (inl a) (inl b) = inl (a ∙ sym b)
in_line_of (x ∷ ls) l m h order (inl a) (inr b) =
    inr (inl (subst (λ (k : Link). IsPrefix k.until m.from × IsBehind k.served.placed.place m.served.placed) (sym a) (
      stands_all (λ (k : Link). IsPrefix x.until k.from) m ls h.0 b,
      stands_all (IsBehind x.served.placed.place) m.served.placed (placed_in ls) order.0
          (stands_map (λ (s : Served). s.placed) m.served (map (λ (k : Link). k.served) ls)
          (stands_map (λ (k : Link). k.served) m ls b)),
    )))
in_line_of (x ∷ ls) l m h order (inr a) (inl b) =
    inr (inr (subst (λ (k : Link). IsPrefix k.until l.from) (sym b)
    (stands_all (λ (k : Link). IsPrefix x.until k.from) l ls h.0 a)))
in_line_of (x ∷ ls) l m h order (inr a) (inr b) = in_line_of ls l m h.1 order.1 a b

pub contains_stands : {A : Type 0} (xs : List A) (x : A) → Contains xs x → Stands x xs
contains_stands xs x h = stands_from xs x h.0 h.1 h.2
  where
    stands_from : {A : Type 0} (xs : List A) (x : A) (k : ℕ) → k < length xs → slice_index_or xs k x ≡ x → Stands x xs
    stands_from [] x k low e = absurd (omega (arith, low))
    stands_from (y ∷ xs) x zero low e = inl (sym e)
    stands_from (y ∷ xs) x (suc k) low e = inr (stands_from xs x k (omega (arith, low)) e)

module _ (t : RunRecord) (ss : List Served) (es : List Entry) (pass_of : ℕ → Known Entry)
    (r : IsRunBy t ss es pass_of) where
  abbrev o : Opening
  o = opening_of t

  pub ordered : InOrder (map (λ (s : Served). s.placed) ss)
  ordered = subst InOrder r.jobs r.in_order

  -- ---- the blocks that were made

  after_is : t.after ≡ t.before ++ sealed_in es
  after_is = r.after ∙ reached_blocks (reach_at o) es

  pub made_is : made t ≡ sealed_in es
  made_is = ap (λ (bs : List Block). drop (length t.before) bs) after_is ∙ drop_front t.before (sealed_in es)

  -- who made an entry
  module _ (front : List Entry) (e : Entry) (p : IsPrefix (front ++ e ∷ []) es) where
    abbrev pub owns : Owner t ss es pass_of r (length front) e
    owns = owner_at t ss es pass_of r front e p

    pub job_there : Stands (owns).link.served ss
    job_there = link_served t ss es pass_of r (owns).rest (owns).low (owns).link (owns).among

    within_es : IsPrefix ((owns).entry.front ++ e ∷ []) es
    within_es =
        prefix_trans ((owns).entry.front ++ e ∷ []) (owns).link.until es (owns).entry.within
        (link_is t ss es pass_of r (owns).rest (owns).low (owns).link (owns).among).inside

    pub same_front : (owns).entry.front ≡ front
    same_front =
        one_length (owns).entry.front front es (prefix_front (owns).entry.front e es within_es)
        (prefix_front front e es p) (sym (owns).entry.place)

  pub block_job : (front : List Entry) (number : ℕ) (b : Block) → IsPrefix (front ++ sealed number b ∷ []) es
      → (s : Served) × Stands s ss × IsCommittedAs o s.placed s.outcome front b
  block_job front number b p = (
    (owns front (sealed number b) p).link.served,
    job_there front (sealed number b) p,
    subst (λ (f : List Entry). IsCommittedAs o (owns front (sealed number b) p).link.served.placed
        (owns front (sealed number b) p).link.served.outcome f b) (same_front front (sealed number b) p)
        (owns front (sealed number b) p).entry.says,
  )

  pub each_made : (P : Block → Type 0) → ((front : List Entry) (number : ℕ) (b : Block)
      → IsPrefix (front ++ sealed number b ∷ []) es → P b) → AllByRecursion P (made t)
  each_made P f =
      subst (AllByRecursion P) (sym made_is) (each_sealed P es [] es refl (λ front number b low p. f front number b p))

  committed_true : (x : Outcome) (front : List Entry) (b : Block)
      → x ≡ Committed b.header.tx (length (blocks_in o front))
      → is_committed x ≡ true
  committed_true x front b e = ap is_committed e

  pub blockless : (s : Served) → Stands s ss → is_committed s.outcome ≡ false → HasNoBlock t s.placed
  blockless s h none =
      each_made (λ (b : Block). b.info.place ≡ s.placed.place → ⊥)
      (λ front number b p place.
      let j = block_job front number b p in
      let same : j.0 ≡ s = same_served ss ordered j.0 s j.1 h (sym j.2.of_job.place ∙ place) in
      let told : is_committed s.outcome ≡ true =
      subst (λ (x : Served). is_committed x.outcome ≡ true) same (committed_true (j.0).outcome front b j.2.told) in
      let bad : ⊥ = cc (told, none) in bad)

  of_jobs : AllByRecursion (IsOfSomeJob t.jobs) (made t)
  of_jobs =
      each_made (IsOfSomeJob t.jobs)
      (λ front number b p.
      let j = block_job front number b p in
      record {
        placed = (j.0).placed;
        among = subst (λ (ps : List Placed). Contains ps (j.0).placed) (sym r.jobs)
            (stands_contains (j.0).placed (map (λ (s : Served). s.placed) ss)
            (stands_map (λ (s : Served). s.placed) j.0 ss j.1));
        of_job = j.2.of_job;
      })

  pub digests : AllByRecursion (IsOfOwnDigest t.jobs) (made t)
  digests =
      each_made (IsOfOwnDigest t.jobs)
      (λ front number b p q among place.
      let j = block_job front number b p in
      let k = stands_mapped (λ (s : Served). s.placed) q ss
      (subst (λ (ps : List Placed). Stands q ps) r.jobs (contains_stands t.jobs q among)) in
      let same : j.0 ≡ k.0 = same_served ss ordered j.0 k.0 j.1 k.1
      (sym j.2.of_job.place ∙ place ∙ ap (λ (x : Placed). x.place) (sym k.2)) in
      subst (λ (x : Placed). SendsOwn x.job b.header.tx) (ap (λ (s : Served). s.placed) same ∙ k.2) j.2.digest)

  -- ---- the order of a session's blocks

  -- a sealed block, and a later entry
  module _ (front : List Entry) (number : ℕ) (b : Block) (later : List Entry) (e : Entry)
      (p : IsPrefix (front ++ sealed number b ∷ []) later) (q : IsPrefix (later ++ e ∷ []) es) where
    pub sealed_inside : IsPrefix (front ++ sealed number b ∷ []) es
    sealed_inside = prefix_trans (front ++ sealed number b ∷ []) later es p (prefix_front later e es q)

    abbrev pub first : Owner t ss es pass_of r (length front) (sealed number b)
    first = owns front (sealed number b) sealed_inside

    abbrev pub second : Owner t ss es pass_of r (length later) e
    second = owns later e q

    fewer : length front < length later
    fewer =
        let low = prefix_length (front ++ sealed number b ∷ []) later p in
        let more : length (front ++ sealed number b ∷ []) ≡ length front + 1 = length-append front
        (sealed number b ∷ []) in
        omega (arith, low, more)

    first_front : (first).entry.front ≡ front
    first_front = same_front front (sealed number b) sealed_inside

    first_place : b.info.place ≡ (first).link.served.placed.place
    first_place = ((first).entry.says).of_job.place

    not_back : IsPrefix (second).link.until (first).link.from → ⊥
    not_back back =
        let low =
        prefix_length ((second).entry.front ++ e ∷ []) (first).entry.front
        (prefix_trans ((second).entry.front ++ e ∷ []) (second).link.until (first).entry.front
        (second).entry.within
        (prefix_trans (second).link.until (first).link.from (first).entry.front back (first).entry.behind)) in
        let one : length (first).entry.front ≡ length front = sym (first).entry.place in
        let two : length (second).entry.front ≡ length later = sym (second).entry.place in
        let one_more : length ((second).entry.front ++ e ∷ []) ≡ length (second).entry.front + 1 =
        length-append (second).entry.front (e ∷ []) in
        omega (arith, low, one, two, fewer, one_more)

    ordered_in : InOrder (placed_in (line t ss es pass_of r (first).rest (first).low).links)
    ordered_in =
        subst (λ (xs : List Served). InOrder (map (λ (s : Served). s.placed) xs))
        (sym (line t ss es pass_of r (first).rest (first).low).served)
        (dealt_in_order t.workers (first).rest ss ordered)

    -- the block of that entry is another job's
    module _ (c : Block) (second_place : c.info.place ≡ (second).link.served.placed.place)
        (not_one : (first).link ≡ (second).link → ⊥) where
      second_among : b.info.place.session ≡ c.info.place.session
          → Stands (second).link (line t ss es pass_of r (first).rest (first).low).links
      second_among same =
          let one : rest_of t.workers (first).link.served ≡ (first).rest =
          dealt_rest t.workers (first).rest (first).link.served ss
          (link_dealt t ss es pass_of r (first).rest (first).low (first).link (first).among) in
          let two : rest_of t.workers (second).link.served ≡ (second).rest =
          dealt_rest t.workers (second).rest (second).link.served ss
          (link_dealt t ss es pass_of r (second).rest (second).low (second).link (second).among) in
          let sessions : (second).link.served.placed.place.session ≡ (first).link.served.placed.place.session =
          ap (λ (x : Place). x.session) (sym second_place) ∙ sym same ∙ ap (λ (x : Place). x.session) first_place in
          same_line t ss es pass_of r (first).rest (second).rest (first).low (second).low (second).link
          (sym two ∙ ap (λ n. n % t.workers) sessions ∙ one) (second).among

      before_by : b.info.place.session ≡ c.info.place.session
          → ((first).link ≡ (second).link)
          ⊎ ((IsPrefix (first).link.until (second).link.from
          × IsBehind (first).link.served.placed.place (second).link.served.placed)
          ⊎ IsPrefix (second).link.until (first).link.from)
          → b.info.place.transaction < c.info.place.transaction
      before_by same (inl one) = absurd (not_one one)
      before_by same (inr (inl there)) =
          let less =
          there.1 (ap (λ (x : Place). x.session) (sym first_place) ∙ same ∙ ap (λ (x : Place). x.session) second_place) in
          let one : b.info.place.transaction ≡ (first).link.served.placed.place.transaction =
          ap (λ (x : Place). x.transaction) first_place in
          let two : c.info.place.transaction ≡ (second).link.served.placed.place.transaction =
          ap (λ (x : Place). x.transaction) second_place in
          omega (arith, less, one, two)
      before_by same (inr (inr back)) = absurd (not_back back)

      pub one_ordered : Before b.info.place c
      one_ordered same =
          before_by same
          (in_line_of (line t ss es pass_of r (first).rest (first).low).links (first).link (second).link
          (line t ss es pass_of r (first).rest (first).low).in_time ordered_in (first).among (second_among same))

  -- two sealed blocks
  module _ (front : List Entry) (number : ℕ) (b : Block) (later : List Entry) (more : ℕ) (c : Block)
      (p : IsPrefix (front ++ sealed number b ∷ []) later) (q : IsPrefix (later ++ sealed more c ∷ []) es) where
    abbrev one : Owner t ss es pass_of r (length front) (sealed number b)
    one = first front number b later (sealed more c) p q

    abbrev other : Owner t ss es pass_of r (length later) (sealed more c)
    other = second front number b later (sealed more c) p q

    -- a job has one block at most
    not_one : (one).link ≡ (other).link → ⊥
    not_one same =
        let told : block_told (one).link.served.outcome ≡ length (blocks_in o (one).entry.front) =
        ap block_told ((one).entry.says).told in
        let tells : block_told (other).link.served.outcome ≡ length (blocks_in o (other).entry.front) =
        ap block_told ((other).entry.says).told in
        let here : length (blocks_in o (one).entry.front) ≡ length (blocks_in o front) =
        ap (λ (f : List Entry). length (blocks_in o f)) (first_front front number b later (sealed more c) p q) in
        let there : length (blocks_in o (other).entry.front) ≡ length (blocks_in o later) =
        ap (λ (f : List Entry). length (blocks_in o f)) (same_front later (sealed more c) q) in
        let both : block_told (one).link.served.outcome ≡ block_told (other).link.served.outcome =
        ap (λ (l : Link). block_told l.served.outcome) same in
        let one_more : length (blocks_in o (front ++ sealed number b ∷ [])) ≡ length (blocks_in o front) + 1 =
        ap length (blocks_sealed (reach_at o) front number b) ∙ length-append (blocks_in o front) (b ∷ []) in
        let low = fewer_blocks (reach_at o) (front ++ sealed number b ∷ []) later p in
        omega (arith, told, tells, here, there, both, one_more, low)

    pub pair_ordered : Before b.info.place c
    pair_ordered = one_ordered front number b later (sealed more c) p q c ((other).entry.says).of_job.place not_one

  once : InSessionOrder (made t)
  once =
      subst InSessionOrder (sym made_is)
      (all_ordered es (λ front number b later more c p q. pair_ordered front number b later more c p q) [] es refl)

  -- ---- the history

  begins_with : IsPrefix t.before t.after
  begins_with = (sealed_in es, sym after_is)

  own_strand : (front : List Entry) (number : ℕ) (b : Block) → IsPrefix (front ++ sealed number b ∷ []) es
      → b.header.address.strand.raw ≡ t.mask
  own_strand front number b p =
      ap (λ (x : Block). x.header.address.strand.raw)
      (may_come (reach_at o) front (sealed number b) es p r.right.run).made.block_is
      ∙ reached_mask (reach_at o) front

  pub blocks_fit : FitsBlocks t
  blocks_fit = record {
    begins = prefix_take t.before t.after begins_with;
    undamaged = subst (λ (bs : List Block). Undamaged bs) (sym r.after) r.right.undamaged;
    asked = λ a. subst AreAsked (sym r.after) (asked_reached (reach_at o) es r.right.run a);
    masked = r.masked;
    strand = ap (mask_of t.mask) after_is
        ∙ strand_all t.mask t.before (sealed_in es) r.strand
        (each_sealed (λ (b : Block). b.header.address.strand.raw ≡ t.mask) es [] es refl
        (λ front number b low p. own_strand front number b p));
    serial = subst (λ (bs : List Block). Legal t.mask bs (length t.before)) (sym r.after)
        (runs_are_legal (opening_of t) es r.right.run);
    times = r.times;
    of_jobs = of_jobs;
    once = once;
  }

  -- ---- ids

  -- the id is that of a transaction that began at the place
  record IsIdAt (place : Place) (raw : ℕ) : Type 0 where
    number : ℕ
    id : raw ≡ raw_id t.mask number 0
    since : ℕ
    front : List Entry
    there : IsPrefix (front ++ begun_at place number since ∷ []) es

  -- an earlier begin has a smaller number
  smaller : (f g : List Entry) (p q : Place) (m n since later : ℕ) → IsPrefix (f ++ begun_at p m since ∷ []) g
      → IsPrefix (g ++ begun_at q n later ∷ []) es → m < n
  smaller f g p q m n since later before there =
      let next : n ≡ (reach o g).last + 1 = (may_come (reach_at o) g (begun_at q n later) es there r.right.run).0 in
      let low =
      lasts_on (reach_at o) (f ++ begun_at p m since ∷ []) g before
      (run_prefix (reach_at o) g es (prefix_front g (begun_at q n later) es there) r.right.run) in
      let own : (reach o (f ++ begun_at p m since ∷ [])).last ≡ m =
      ap (λ (x : Reach). x.last) (comes_behind (reach_at o) f (begun_at p m since)) in
      omega (arith, next, low, own)

  one_begin : (f g : List Entry) (p q : Place) (m n since later : ℕ) → m ≡ n
      → IsPrefix (f ++ begun_at p m since ∷ []) es → IsPrefix (g ++ begun_at q n later ∷ []) es
      → ((f ≡ g) × (begun_at p m since ≡ begun_at q n later))
      ⊎ (IsPrefix (f ++ begun_at p m since ∷ []) g ⊎ IsPrefix (g ++ begun_at q n later ∷ []) f)
      → p ≡ q
  one_begin f g p q m n since later e a b (inl same) = cc (same.1)
  one_begin f g p q m n since later e a b (inr (inl c)) =
      let less = smaller f g p q m n since later c b in absurd (omega (arith, less, e))
  one_begin f g p q m n since later e a b (inr (inr c)) =
      let less = smaller g f q p n m later since c a in absurd (omega (arith, less, e))

  one_place : (f g : List Entry) (p q : Place) (m n since later : ℕ) → m ≡ n
      → IsPrefix (f ++ begun_at p m since ∷ []) es → IsPrefix (g ++ begun_at q n later ∷ []) es → p ≡ q
  one_place f g p q m n since later e a b =
      one_begin f g p q m n since later e a b
      (one_before f (begun_at p m since) g (begun_at q n later) es a b)

  id_single : (p q : Place) (raw : ℕ) → IsIdAt p raw → IsIdAt q raw → p ≡ q
  id_single p q raw a b =
      let same : a.number ≡ b.number =
      sym (transaction_of_id t.mask a.number) ∙ ap (transaction_in t.mask) (sym a.id ∙ b.id)
      ∙ transaction_of_id t.mask b.number in
      one_place a.front b.front p q a.number b.number a.since b.since same a.there b.there

  id_at : (l : Link) → IsLink t es l → (raw : ℕ) → IsNumbered o l.served.placed.place l.mid l.until raw
      → IsIdAt l.served.placed.place raw
  id_at l is raw n = record {
    number = n.number;
    id = n.id;
    since = n.since;
    front = n.front;
    there = prefix_trans
        (n.front ++ begun_at l.served.placed.place n.number n.since ∷ []) l.until es n.within is.inside;
  }

  ids_at : (s : Served) → Stands s ss → AllByRecursion (IsIdAt s.placed.place) (told_id s.outcome)
  ids_at s h =
      let k : Told t ss es pass_of r s = told_job t ss es pass_of r s h in
      subst (λ (x : Served). AllByRecursion (IsIdAt x.placed.place) (told_id x.outcome)) k.served
      (all_like (IsNumbered o k.link.served.placed.place k.link.mid k.link.until) (IsIdAt k.link.served.placed.place)
      (id_at k.link k.is) (told_id k.link.served.outcome) k.is.numbers)

  ids_differ : all_differ (told_ids t.outcomes) ≡ true
  ids_differ =
      ap all_differ (ap told_ids r.outcomes ∙ ids_told ss)
      ∙ all_apart told_id one_id IsIdAt id_single ss ordered
      (all_stand (λ (s : Served). AllByRecursion (IsIdAt s.placed.place) (told_id s.outcome)) ss ids_at)

  -- ---- counts

  -- the store failed so often at a transaction that began at the place
  abbrev IsCountAt : Place → ℕ → Type 0
  IsCountAt place count = IsFailed o place es count

  -- an earlier failure has a smaller count
  lower : (f g : List Entry) (m n x y : ℕ) (b c : Block) → IsPrefix (f ++ failed m x b ∷ []) g
      → IsPrefix (g ++ failed n y c ∷ []) es → x < y
  lower f g m n x y b c before there =
      let rose : (reach o g).count < y = (may_come (reach_at o) g (failed n y c) es there r.right.run).1 in
      let low =
      counts_on (reach_at o) (f ++ failed m x b ∷ []) g before
      (run_prefix (reach_at o) g es (prefix_front g (failed n y c) es there) r.right.run) in
      let own : (reach o (f ++ failed m x b ∷ [])).count ≡ x =
      ap (λ (z : Reach). z.count) (comes_behind (reach_at o) f (failed m x b)) in
      omega (arith, rose, low, own)

  one_failure : (f g : List Entry) (m n x y : ℕ) (b c : Block) → x ≡ y
      → IsPrefix (f ++ failed m x b ∷ []) es → IsPrefix (g ++ failed n y c ∷ []) es
      → ((f ≡ g) × (failed m x b ≡ failed n y c))
      ⊎ (IsPrefix (f ++ failed m x b ∷ []) g ⊎ IsPrefix (g ++ failed n y c ∷ []) f)
      → m ≡ n
  one_failure f g m n x y b c e h k (inl same) = cc (same.1)
  one_failure f g m n x y b c e h k (inr (inl d)) =
      let less = lower f g m n x y b c d k in absurd (omega (arith, less, e))
  one_failure f g m n x y b c e h k (inr (inr d)) =
      let less = lower g f n m y x c b d h in absurd (omega (arith, less, e))

  count_single : (p q : Place) (count : ℕ) → IsCountAt p count → IsCountAt q count → p ≡ q
  count_single p q count a b =
      let same : a.number ≡ b.number =
      one_failure a.front b.front a.number b.number count count a.block b.block refl a.within b.within
      (one_before a.front (failed a.number count a.block) b.front
      (failed b.number count b.block) es a.within b.within) in
      one_place a.start b.start p q a.number b.number a.since b.since same a.begun b.begun

  count_at : (l : Link) → IsLink t es l → (count : ℕ) → IsFailed o l.served.placed.place l.until count
      → IsCountAt l.served.placed.place count
  count_at l is count h = record {
    number = h.number;
    block = h.block;
    front = h.front;
    within = prefix_trans (h.front ++ failed h.number count h.block ∷ []) l.until es h.within is.inside;
    since = h.since;
    start = h.start;
    begun = prefix_trans (h.start ++ begun_at l.served.placed.place h.number h.since ∷ []) l.until es h.begun is.inside;
  }

  counts_at : (s : Served) → Stands s ss → AllByRecursion (IsCountAt s.placed.place) (told_count s.outcome)
  counts_at s h =
      let k : Told t ss es pass_of r s = told_job t ss es pass_of r s h in
      subst (λ (x : Served). AllByRecursion (IsCountAt x.placed.place) (told_count x.outcome)) k.served
      (all_like (IsFailed o k.link.served.placed.place k.link.until) (IsCountAt k.link.served.placed.place)
      (count_at k.link k.is) (told_count k.link.served.outcome) k.is.counts)

  each_count : AllByRecursion (λ (s : Served). AllByRecursion (IsCountAt s.placed.place) (told_count s.outcome)) ss
  each_count = all_stand (λ (s : Served). AllByRecursion (IsCountAt s.placed.place) (told_count s.outcome)) ss counts_at

  counts_differ : all_differ (told_counts t.outcomes) ≡ true
  counts_differ =
      ap all_differ (ap told_counts r.outcomes ∙ counts_told ss)
      ∙ all_apart told_count one_count IsCountAt count_single ss ordered each_count

  -- ---- the last count

  count_most : (place : Place) (count : ℕ) → IsCountAt place count → count ≤ (reach o es).count
  count_most place count h =
      let high = counts_on (reach_at o) (h.front ++ failed h.number count h.block ∷ []) es h.within r.right.run in
      let own : (reach o (h.front ++ failed h.number count h.block ∷ [])).count ≡ count =
      ap (λ (x : Reach). x.count) (comes_behind (reach_at o) h.front (failed h.number count h.block)) in
      omega (arith, high, own)

  counts_most : greatest_count t.opened (tells told_count ss) ≤ (reach o es).count
  counts_most =
      greatest_most t.opened (reach o es).count (tells told_count ss)
      (counts_on (reach_at o) [] es (es, refl) r.right.run)
      (all_tells told_count (λ n. n ≤ (reach o es).count) ss
      (all_like (λ (s : Served). AllByRecursion (IsCountAt s.placed.place) (told_count s.outcome))
      (λ (s : Served). AllByRecursion (λ n. n ≤ (reach o es).count) (told_count s.outcome))
      (λ s h. all_like (IsCountAt s.placed.place) (λ n. n ≤ (reach o es).count) (count_most s.placed.place)
      (told_count s.outcome) h) ss each_count))

  failure_told : (place : ℕ) (e : Entry) (n : ℕ) → Owner t ss es pass_of r place e → Stands n (failed_by e)
      → n ≤ greatest_count t.opened (tells told_count ss)
  failure_told place (begun_at p number since) n w h = absurd h
  failure_told place (sealed number b) n w h = absurd h
  failure_told place (failed number count b) n w (inl e) =
      let s : Served = w.link.served in
      let there : Stands s ss = link_served t ss es pass_of r w.rest w.low w.link w.among in
      stands_greatest t.opened (tells told_count ss) n
      (stands_told told_count n s ss there (subst (λ (xs : List ℕ). Stands n xs) (sym w.entry.says.0) (inl e)))
  failure_told place (failed number count b) n w (inr h) = absurd h
  failure_told place (wanted number b) n w h = absurd h

  last_by : ((reach o es).count ≡ t.opened) ⊎ IsToldIn failed_by es (reach o es).count
      → (reach o es).count ≤ greatest_count t.opened (tells told_count ss)
  last_by (inl same) = let low = least_greatest t.opened (tells told_count ss) in omega (arith, low, same)
  last_by (inr told) =
      failure_told told.place told.entry (reach o es).count
      (owner t ss es pass_of r told.place told.entry told.there) told.tells

  last_count : t.closed ≡ greatest_count t.opened (told_counts t.outcomes)
  last_count =
      let low = last_by (count_told (reach_at o) es r.right.run) in
      let same : (reach o es).count ≡ greatest_count t.opened (tells told_count ss) = omega (arith, counts_most, low) in
      r.closed ∙ same ∙ ap (greatest_count t.opened) (sym (ap told_counts r.outcomes ∙ counts_told ss))

  -- ---- all of it

  pub fits : Fits t
  fits = record {
    blocks = blocks_fit;
    digests = digests;
    outcomes =
        subst (λ (ps : List Placed). EachHolds t [] ps t.outcomes) (sym r.jobs)
        (subst (λ (os : List PlacedOutcome). EachHolds t [] (map (λ (s : Served). s.placed) ss) os) (sym r.outcomes)
        (outcomes_hold t ss es pass_of r blockless));
    numbers = ids_differ;
    counts = counts_differ;
    faults = last_count;
  }

pub runs_fit : RunsFit
runs_fit t ss es pass_of r = fits t ss es pass_of r
