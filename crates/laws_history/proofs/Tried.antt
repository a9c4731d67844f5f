-- The block of a commit that was refused at the store is one that its job could have become.
use Rattle.std.proofs.Common.{◌≡◌, ◌⊎◌, ℕ, ◌+◌, ◌-◌, ◌^◌, ◌<◌, ◌≤◌, true, false, List, [], ◌∷◌, ◌++◌, append-nil, append_assoc, map, length, length-append, drop, fold, Option, None, Some, Contains, sym, refl, ap, ◌∙◌, subst, inl, inr, arith}
use Rattle.std.specs.List.{AllByRecursion}
use mathlib.Core.List.{IsPrefix}
use Rattle.ion_values.specs.declared.time.TimeParts.{TimeParts}
use Rattle.ql_types.specs.Ids.{raw_id}
use Rattle.ql_types.specs.declared.Place.{Place}
use Rattle.ledger_model.specs.declared.block.Block.{Block}
use Rattle.ledger_model.specs.declared.block.Draft.{Draft}
use Rattle.ledger_model.specs.declared.block.Header.{Header}
use Rattle.ledger_model.specs.declared.outcome.Outcome.{Outcome}
use Rattle.ledger_model.specs.declared.script.Request.{Request}
use Rattle.ledger_model.specs.Damages.{Undamaged}
use Rattle.ledger_model.specs.Legal.{last_hash}
use Rattle.ledger_model.specs.Making.{IsMadeOf, block_of, header_of, info_of, next_address, revision_of, time_behind}
use Rattle.ledger_model.specs.Run.{Begun, Progress, final_revisions}
use Rattle.ledger_model.specs.Seals.{sealed as sealed_block}
use Rattle.ledger_model.specs.Script.{Placed}
use Rattle.turn_lock.specs.declared.view.Known.{Known}
use Rattle.turn_lock.specs.History.{Stands}
use Rattle.laws_validity.proofs.Lists.{all_append, all_like}
use Rattle.laws_history.proofs.NextBlocks.{IsNextBlock, standing}
use Rattle.laws_history.specs.Records.{RunRecord, Before, FitsBlocks, HasTime, IsOfJob, made, IsBehind}
use Rattle.laws_history.proofs.BlocksFit.{FitsBlocks-more}
use Rattle.laws_history.proofs.Lists.{drop_on, one_before, stands_contains, stands_map, stands_parts}
use Rattle.laws_machine.specs.Entries.{Entry, Opening, begun_at, failed, reach_at, sealed, wanted}
use Rattle.laws_history.specs.Attempts.{SendsOwn}
use Rattle.laws_history.specs.Claims.{IsOfOwnDigest}
use Rattle.laws_history.specs.Runs.{IsRunBy, Served, opening_of}
use Rattle.laws_history.specs.Seen.{blocks_in}
use Rattle.laws_history.specs.Tried.{TriedFit, left_with, tried_behind, tried_in}
use Rattle.laws_history.proofs.Dealt.{same_served}
use Rattle.laws_history.proofs.Fitting.{blocks_fit, contains_stands, digests, each_made, first, job_there, one_ordered, ordered, owns, same_front, second}
use Rattle.laws_history.proofs.Grown.{few_blocks}
use Rattle.laws_history.proofs.Links.{Link}
use Rattle.laws_history.proofs.Makes.{IsCommittedAs, IsTriedAs, Says, is_committed}
use Rattle.laws_history.proofs.Owners.{Owner, stands_mapped}
use Rattle.laws_history.proofs.Reaches.{reached_blocks, sealed_by, sealed_in}

-- ---- the entry that carries it

-- the block with which a refused commit came to its store
abbrev Carries : Entry → Block → Type 0
Carries (begun_at place number since) b = ⊥
Carries (sealed number block) b = ⊥
Carries (failed number count block) b = b ≡ block
Carries (wanted number None) b = ⊥
Carries (wanted number (Some block)) b = b ≡ block

-- none was sealed behind it
record IsLast (es : List Entry) (b : Block) : Type 0 where
  front : List Entry
  entry : Entry
  rest : List Entry
  is : front ++ entry ∷ rest ≡ es
  carries : Carries entry b
  none : sealed_in rest ≡ []

one_further : (e : Entry) (es : List Entry) (b : Block) → IsLast es b → IsLast (e ∷ es) b
one_further e es b l = record {
  front = e ∷ l.front;
  entry = l.entry;
  rest = l.rest;
  is = ap (λ (xs : List Entry). e ∷ xs) l.is;
  carries = l.carries;
  none = l.none;
}

-- it came before, or here
tried_here : (e : Entry) (es : List Entry) (bs : List Block) (b : Block) → Stands b (tried_behind bs e) → sealed_in es ≡ []
    → (Stands b bs × (sealed_in (e ∷ es) ≡ [])) ⊎ IsLast (e ∷ es) b
tried_here (begun_at place number since) es bs b h none = inl (h, none)
tried_here (sealed number block) es bs b h none = absurd h
tried_here (failed number count block) es bs b h none = by (stands_parts b bs (block ∷ []) h)
  where
    by : Stands b bs ⊎ Stands b (block ∷ []) → (Stands b bs × (sealed_in (failed number count block ∷ es) ≡ [])) ⊎ IsLast (failed number count block ∷ es) b
    by (inl before) = inl (before, none)
    by (inr (inl same)) = inr (record { front = []; entry = failed number count block; rest = es; is = refl; carries = same; none = none })
    by (inr (inr bad)) = absurd bad
tried_here (wanted number None) es bs b h none = inl (h, none)
tried_here (wanted number (Some block)) es bs b h none = by (stands_parts b bs (block ∷ []) h)
  where
    by : Stands b bs ⊎ Stands b (block ∷ []) → (Stands b bs × (sealed_in (wanted number (Some block) ∷ es) ≡ [])) ⊎ IsLast (wanted number (Some block) ∷ es) b
    by (inl before) = inl (before, none)
    by (inr (inl same)) = inr (record { front = []; entry = wanted number (Some block); rest = es; is = refl; carries = same; none = none })
    by (inr (inr bad)) = absurd bad

tried_last : (es : List Entry) (bs : List Block) (b : Block) → Stands b (fold tried_behind bs es)
    → (Stands b bs × (sealed_in es ≡ [])) ⊎ IsLast es b
tried_last [] bs b h = inl (h, refl)
tried_last (e ∷ es) bs b h = by (tried_last es (tried_behind bs e) b h)
  where
    by : (Stands b (tried_behind bs e) × (sealed_in es ≡ [])) ⊎ IsLast es b → (Stands b bs × (sealed_in (e ∷ es) ≡ [])) ⊎ IsLast (e ∷ es) b
    by (inl before) = tried_here e es bs b before.0 before.1
    by (inr later) = inr (one_further e es b later)

last_of : (es : List Entry) (b : Block) → Contains (tried_in es) b → IsLast es b
last_of es b h = by (tried_last es [] b (contains_stands (tried_in es) b h))
  where
    by : (Stands b [] × (sealed_in es ≡ [])) ⊎ IsLast es b → IsLast es b
    by (inl before) = absurd before.0
    by (inr last) = last

-- ---- another time with which it is the same block

made_at : (begun : Begun) (before : List Block) (place : Place) (time own : TimeParts) (asked : List Request) (b : Block)
    → time_behind before time ≡ time_behind before own
    → IsMadeOf begun before place time asked b → IsMadeOf begun before place own asked b
made_at begun before place time own asked b same m =
    let ds : List Draft = final_revisions m.progress in
    let header : TimeParts → Header = λ x. record {
      address = next_address begun.mask before;
      tx = record { raw = raw_id begun.mask begun.number 0 };
      time = x;
      revisions = length ds;
    } in
    record {
      progress = m.progress;
      runs = m.runs;
      block_is = m.block_is
          ∙ ap (λ x. sealed_block (last_hash begun.mask before) (header x) (info_of place m.progress ds) (map (revision_of (header x)) ds)) same;
    }

-- ---- what its entry says

said_of : (o : Opening) (p : Placed) (x : Outcome) (front : List Entry) (e : Entry) (b : Block) → Carries e b → Says o p x front e
    → IsTriedAs o p x front b
said_of o p x front (begun_at place number since) b c h = absurd c
said_of o p x front (sealed number block) b c h = absurd c
said_of o p x front (failed number count block) b c h = subst (λ (y : Block). IsTriedAs o p x front y) (sym c) h.1
said_of o p x front (wanted number None) b c h = absurd c
said_of o p x front (wanted number (Some block)) b c h = subst (λ (y : Block). IsTriedAs o p x front y) (sym c) h

not_sealed : (e : Entry) (b : Block) → Carries e b → sealed_by e ≡ []
not_sealed (begun_at place number since) b c = absurd c
not_sealed (sealed number block) b c = absurd c
not_sealed (failed number count block) b c = refl
not_sealed (wanted number block) b c = refl

-- of a sealed entry and that one the sealed one comes first
sealed_first : (f : List Entry) (number : ℕ) (c : Block) (l : List Entry) (e : Entry) (b : Block) (rest es : List Entry) → Carries e b
    → sealed_in rest ≡ [] → l ++ e ∷ rest ≡ es → IsPrefix (f ++ sealed number c ∷ []) es → IsPrefix (f ++ sealed number c ∷ []) l
sealed_first f number c l e b rest es carries none is p =
    by (one_before f (sealed number c) l e es p (rest, append_assoc l (e ∷ []) rest ∙ is))
  where
    in_rest : (k : List Entry) (m : ℕ) (d : Block) (xs : List Entry) → IsPrefix (k ++ sealed m d ∷ []) xs → sealed_in xs ≡ [] → ⊥
    in_rest [] m d [] q n = cc (q.1)
    in_rest [] m d (x ∷ xs) q n =
        let same : sealed m d ≡ x = cc (q.1) in
        let two : sealed_in (sealed m d ∷ xs) ≡ [] = subst (λ (y : Entry). sealed_in (y ∷ xs) ≡ []) (sym same) n in
        cc two
    in_rest (y ∷ k) m d [] q n = cc (q.1)
    in_rest (y ∷ k) m d (x ∷ xs) q n = in_rest k m d xs (q.0, cc (q.1)) (rest_none (sealed_by x) (sealed_in xs) n)
      where
        rest_none : (bs cs : List Block) → bs ++ cs ≡ [] → cs ≡ []
        rest_none [] cs e = e
        rest_none (a ∷ bs) cs e = let bad : ⊥ = cc e in absurd bad

    unlike : (x : Entry) → x ≡ e → sealed_by x ≡ []
    unlike x same = subst (λ (y : Entry). sealed_by y ≡ []) (sym same) (not_sealed e b carries)

    behind : (k : List Entry) → IsPrefix (l ++ e ∷ []) k → k ++ sealed number c ∷ p.0 ≡ l ++ e ∷ rest → ⊥
    behind k q same =
        let there : (l ++ e ∷ []) ++ (q.0 ++ sealed number c ∷ p.0) ≡ (l ++ e ∷ []) ++ rest =
        sym (append_assoc (l ++ e ∷ []) q.0 (sealed number c ∷ p.0)) ∙ ap (λ (xs : List Entry). xs ++ sealed number c ∷ p.0) q.1 ∙ same
        ∙ sym (append_assoc l (e ∷ []) rest) in
        let own : q.0 ++ sealed number c ∷ p.0 ≡ rest = cut (l ++ e ∷ []) (q.0 ++ sealed number c ∷ p.0) rest there in
        in_rest q.0 number c rest (p.0, append_assoc q.0 (sealed number c ∷ []) p.0 ∙ own) none
      where
        cut : (xs ys zs : List Entry) → xs ++ ys ≡ xs ++ zs → ys ≡ zs
        cut [] ys zs e = e
        cut (x ∷ xs) ys zs e = cut xs ys zs (cc e)

    by : ((f ≡ l) × (sealed number c ≡ e)) ⊎ (IsPrefix (f ++ sealed number c ∷ []) l ⊎ IsPrefix (l ++ e ∷ []) f)
        → IsPrefix (f ++ sealed number c ∷ []) l
    by (inl same) = let bad : ⊥ = cc (unlike (sealed number c) same.1) in absurd bad
    by (inr (inl before)) = before
    by (inr (inr later)) = absurd (behind f later (sym (append_assoc f (sealed number c ∷ []) p.0) ∙ p.1 ∙ sym is))

module _ (t : RunRecord) (ss : List Served) (es : List Entry) (pass_of : ℕ → Known Entry) (r : IsRunBy t ss es pass_of) (b : Block)
    (last : IsLast es b) (undamaged : Undamaged (t.after ++ b ∷ [])) (timed : HasTime t.times t.after b) where
  abbrev o : Opening
  o = opening_of t

  inside : IsPrefix (last.front ++ last.entry ∷ []) es
  inside = (last.rest, append_assoc last.front (last.entry ∷ []) last.rest ∙ last.is)

  abbrev own : Owner t ss es pass_of r (length last.front) last.entry
  own = owns t ss es pass_of r last.front last.entry inside

  abbrev job : Served
  job = (own).link.served

  -- all blocks stand in front of it
  all_in_front : blocks_in o last.front ≡ t.after
  all_in_front =
      let behind : sealed_in (last.entry ∷ last.rest) ≡ [] =
      (λ i. not_sealed last.entry b last.carries i ++ last.none i) in
      sym
      (r.after ∙ ap (blocks_in o) (sym last.is) ∙ blocks_split o last.front (last.entry ∷ last.rest)
      ∙ ap (λ (bs : List Block). blocks_in o last.front ++ bs) behind ∙ append-nil (blocks_in o last.front))
    where
      blocks_split : (o : Opening) (xs ys : List Entry) → blocks_in o (xs ++ ys) ≡ blocks_in o xs ++ sealed_in ys
      blocks_split o xs ys =
          reached_blocks (reach_at o) (xs ++ ys) ∙ ap (λ (bs : List Block). o.blocks ++ bs) (sealed_split xs ys)
          ∙ sym (append_assoc o.blocks (sealed_in xs) (sealed_in ys))
          ∙ ap (λ (bs : List Block). bs ++ sealed_in ys) (sym (reached_blocks (reach_at o) xs))
        where
          sealed_split : (xs ys : List Entry) → sealed_in (xs ++ ys) ≡ sealed_in xs ++ sealed_in ys
          sealed_split [] ys = refl
          sealed_split (x ∷ xs) ys =
              ap (λ (bs : List Block). sealed_by x ++ bs) (sealed_split xs ys) ∙ sym (append_assoc (sealed_by x) (sealed_in xs) (sealed_in ys))

  says : IsTriedAs o (job).placed (job).outcome (own).entry.front b
  says = said_of o (job).placed (job).outcome (own).entry.front last.entry b last.carries (own).entry.says

  blocks_are : blocks_in o (own).entry.front ≡ t.after
  blocks_are = ap (blocks_in o) (same_front t ss es pass_of r last.front last.entry inside) ∙ all_in_front

  -- it is the job's next block
  next : IsNextBlock (standing t (says).last) timed.time (job).placed b
  next =
      let here : IsMadeOf (record { mask = t.mask; number = (says).last + 1 }) t.after (job).placed.place (says).time (job).placed.job.statements b =
      subst (λ (bs : List Block). IsMadeOf (record { mask = t.mask; number = (says).last + 1 }) bs (job).placed.place (says).time (job).placed.job.statements b)
      blocks_are (says).made in
      let times : time_behind t.after (says).time ≡ time_behind t.after timed.time =
      ap (λ (x : Block). x.header.time) (sym here.block_is) ∙ timed.is in
      let few = few_blocks (t.after ++ b ∷ []) undamaged in
      let more : length (t.after ++ b ∷ []) ≡ length t.after + 1 = length-append t.after (b ∷ []) in
      record {
        made = made_at (record { mask = t.mask; number = (says).last + 1 }) t.after (job).placed.place (says).time timed.time
            (job).placed.job.statements b times here;
        undamaged = undamaged;
        commits = (says).commits;
        admitted = (says).admitted;
        room = omega (arith, few, more);
        counted = (says).counted;
      }

  place_is : b.info.place ≡ (job).placed.place
  place_is = ap (λ (x : Block). x.info.place) (says).made.block_is

  among : Contains t.jobs (job).placed
  among =
      subst (λ (ps : List Placed). Contains ps (job).placed) (sym r.jobs)
      (stands_contains (job).placed (map (λ (s : Served). s.placed) ss)
      (stands_map (λ (s : Served). s.placed) job ss (job_there t ss es pass_of r last.front last.entry inside)))

  -- each block of the job's session stands in front of it
  module _ (f : List Entry) (number : ℕ) (c : Block) (p : IsPrefix (f ++ sealed number c ∷ []) es) where
    before : IsPrefix (f ++ sealed number c ∷ []) last.front
    before = sealed_first f number c last.front last.entry b last.rest es last.carries last.none last.is p

    told_once : (first t ss es pass_of r f number c last.front last.entry before inside).link
        ≡ (second t ss es pass_of r f number c last.front last.entry before inside).link → ⊥
    told_once same =
        let committed : is_committed (first t ss es pass_of r f number c last.front last.entry before inside).link.served.outcome ≡ true =
        ap is_committed (first t ss es pass_of r f number c last.front last.entry before inside).entry.says.told in
        let both : is_committed (first t ss es pass_of r f number c last.front last.entry before inside).link.served.outcome ≡ is_committed (job).outcome =
        ap (λ (l : Link). is_committed l.served.outcome) same in
        cc (sym committed ∙ both ∙ (says).untold)

    ordered_before : Before c.info.place b
    ordered_before = one_ordered t ss es pass_of r f number c last.front last.entry before inside b place_is told_once

  behind : AllByRecursion (λ (c : Block). IsBehind c.info.place (job).placed) (made t)
  behind =
      each_made t ss es pass_of r (λ (c : Block). IsBehind c.info.place (job).placed)
      (λ f number c p same.
      subst (λ (x : Place). c.info.place.transaction < x.transaction) place_is
      (ordered_before f number c p (same ∙ ap (λ (x : Place). x.session) (sym place_is))))

  fit : FitsBlocks (left_with t b)
  fit =
      FitsBlocks-more t timed.time timed.among (job).placed b (says).last (blocks_fit t ss es pass_of r) next t.outcomes t.closed among behind

  own_digest : IsOfOwnDigest t.jobs b
  own_digest q there place =
      let k = stands_mapped (λ (s : Served). s.placed) q ss
      (subst (λ (ps : List Placed). Stands q ps) r.jobs (contains_stands t.jobs q there)) in
      let same : job ≡ k.0 =
      same_served ss (ordered t ss es pass_of r) job k.0 (job_there t ss es pass_of r last.front last.entry inside) k.1
      (sym place_is ∙ place ∙ ap (λ (x : Placed). x.place) (sym k.2)) in
      subst (λ (x : Placed). SendsOwn x.job b.header.tx) (ap (λ (s : Served). s.placed) same ∙ k.2) (says).digest

  all_digests : AllByRecursion (IsOfOwnDigest t.jobs) (drop (length t.before) (t.after ++ b ∷ []))
  all_digests =
      subst (AllByRecursion (IsOfOwnDigest t.jobs)) (sym (drop_on t.before t.after (b ∷ []) (blocks_fit t ss es pass_of r).begins))
      (all_append (IsOfOwnDigest t.jobs) (made t) (b ∷ []) (digests t ss es pass_of r) (own_digest, tt))

pub tried_fit : TriedFit
tried_fit t ss es pass_of b r among undamaged timed =
    let last = last_of es b among in (
      fit t ss es pass_of r b last undamaged timed,
      all_digests t ss es pass_of r b last undamaged timed,
    )
