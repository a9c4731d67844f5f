-- What a stop of the machine leaves of the tail behind the turn, after a call of the tail.
use Rattle.std.proofs.Common.{◌≡◌, ◌∙◌, ℕ, Bool, true, false, ◌⊎◌, inl, inr, List, [], ◌∷◌, ◌++◌, append-nil, append_assoc, refl, sym, ap, subst, arith, true≢false, Option, Some, None}
use Rattle.std.specs.Prelude.{Contains, IfSome}
use Rattle.std.specs.List.{AllByRecursion}
use Rattle.std.proofs.lemmas.List.Sums.{fold-append}
use Rattle.std.proofs.lemmas.List.Elements.{Contains-append_left}
use Rattle.ion_values.specs.declared.time.TimeParts.{TimeParts}
use Rattle.ql_types.specs.declared.Hash32.{Hash32}
use Rattle.ql_types.specs.declared.Place.{Place}
use Rattle.ledger_model.specs.declared.block.Block.{Block}
use Rattle.outside.specs.Told.{StoreTold}
use Rattle.outside.specs.Store.{Content, Moment, past_after}
use Rattle.laws_crash.specs.Passed.{PassesTold}
use Rattle.laws_crash.specs.Sound.{IsPart, IsSafe, IsSound, StandsAfter}
use Rattle.laws_crash.proofs.Lists.{all_append, all_map}
use Rattle.laws_history.specs.Seen.{blocks_in}
use Rattle.laws_history.specs.Standings.{Standing}
use Rattle.laws_history.specs.Tried.{tried_behind}
use Rattle.laws_machine.specs.Entries.{Entry, Opening, begun_at, failed, sealed, wanted}
use Rattle.txn_core.specs.Opened.{Opened}
use Rattle.ledger_core.specs.Committing.{IsService, IsTried}
use Rattle.ledger_core.specs.Images.{IsAmid, IsSoundTail, KeepsSound, Settles, tried_with}
use Rattle.ledger_core.specs.Tails.{TailHeld}
use Rattle.ledger_core.specs.declared.commit.CommitFault.{CommitFault}
use Rattle.ledger_core.specs.declared.commit.CommitFault.TheVariants.{Conflict, DigestDiffers, EndedTxn, JournalFull, OutOfMemory, StoreFault}
use Rattle.ledger_shared.specs.Calls.{refusal_of}
use Rattle.ledger_shared.specs.Images.{ComeInOrder, IsAround, KeepsImages, PassesEntries, PassesEntriesTold, carried, marked_after, marked_from, tried_from}
use Rattle.ledger_shared.proofs.Commits.{listed}

-- ---- more blocks that may have come to the store

module _ (blocks tried more : List Block) (wider : (b : Block) → Contains tried b → Contains more b) where
  part_more : (part : List ℕ) → IsPart blocks tried part → IsPart blocks more part
  part_more part (inl torn) = inl torn
  part_more part (inr p) = inr (record {
    block = p.block;
    kept = p.kept;
    among = wider p.block p.among;
    part_is = p.part_is;
    undamaged = p.undamaged;
    asked = p.asked;
  })

  stands_more : (whole : List ℕ) → StandsAfter blocks tried whole → StandsAfter blocks more whole
  stands_more whole w = record { part = w.part; whole_is = w.whole_is; is_part = part_more w.part w.is_part }

  pub safe_more : (m : Moment) → IsSafe blocks tried m → IsSafe blocks more m
  safe_more m s = record {
    long = s.long;
    each = all_map (StandsAfter blocks tried) (StandsAfter blocks more) m.since stands_more s.each;
  }

none_so : (more : List Block) (b : Block) → Contains [] b → Contains more b
none_so more b h = absurd (omega (arith, h.1))

-- ---- stretches of moments

-- none
pub told_none : (P : Moment → Type 0) (c : Option Content) → PassesTold P c c
told_none P None = tt
told_none P (Some c) = record { more = []; grows = sym (append-nil (past_after c)); each = tt }

-- ---- more entries

pub from_push : (first : List Block) (es : List Entry) (e : Entry)
    → tried_from first (es ++ e ∷ []) ≡ tried_behind (tried_from first es) e
from_push first es e = fold-append tried_behind first es (e ∷ [])

pub marks_push : (before : Bool) (es : List Entry) (e : Entry)
    → marked_from before (es ++ e ∷ []) ≡ marked_after (marked_from before es) e
marks_push before es e = fold-append marked_after before es (e ∷ [])

module _ (o : Opening) (first : List Block) where
  -- what had come with the entries
  abbrev pub Safe : List Entry → Moment → Type 0
  Safe es = IsSafe (blocks_in o es) (tried_from first es)

  around_safe : (before : List Entry) (e : Entry) (m : Moment) → Safe before m → IsAround o first before e m
  around_safe before e m s =
      inl (safe_more (blocks_in o before) (tried_from first before) (tried_from first before ++ carried e)
      (λ b h. Contains-append_left (tried_from first before) (carried e) b h) m s)

  -- the moments of some entries, and then those of more
  pub order_on : (before es more : List Entry) (ms ns : List Moment) → ComeInOrder o first before es ms
      → ComeInOrder o first (before ++ es) more ns → ComeInOrder o first before (es ++ more) (ms ++ ns)
  order_on before [] [] ms ns h k =
      all_append (Safe before) ms ns h (subst (λ (es : List Entry). AllByRecursion (Safe es) ns) (append-nil before) k)
  order_on before [] (e ∷ more) ms ns h k =
      let on : ComeInOrder o first before (e ∷ more) ns = subst (λ (es : List Entry). ComeInOrder o first es (e ∷ more) ns) (append-nil before) k in (
        ms ++ on.0,
        on.1,
        ap (λ (xs : List Moment). ms ++ xs) on.2 ∙ sym (append_assoc ms on.0 on.1),
        all_append (IsAround o first before e) ms on.0
            (all_map (Safe before) (IsAround o first before e) ms (around_safe before e) h) on.3,
        on.4,
      )
  order_on before (e ∷ es) more ms ns h k = (
    h.0,
    h.1 ++ ns,
    ap (λ (xs : List Moment). xs ++ ns) h.2 ∙ append_assoc h.0 h.1 ns,
    h.3,
    order_on (before ++ e ∷ []) es more h.1 ns h.4
        (subst (λ (xs : List Entry). ComeInOrder o first xs more ns) (sym (append_assoc before (e ∷ []) es)) k),
  )

  -- moments after all of them
  pub order_all : (before es : List Entry) (ms : List Moment) → AllByRecursion (Safe (before ++ es)) ms
      → ComeInOrder o first before es ms
  order_all before [] ms h = subst (λ (es : List Entry). AllByRecursion (Safe es) ms) (append-nil before) h
  order_all before (e ∷ es) ms h = (
    [],
    ms,
    refl,
    tt,
    order_all (before ++ e ∷ []) es ms
        (subst (λ (xs : List Entry). AllByRecursion (Safe xs) ms) (sym (append_assoc before (e ∷ []) es)) h),
  )

  -- moments of one entry's call
  pub order_one : (before : List Entry) (e : Entry) (ms : List Moment) → AllByRecursion (IsAround o first before e) ms
      → ComeInOrder o first before (e ∷ []) ms
  order_one before e ms h = (ms, [], sym (append-nil ms), h, tt)

  -- a stretch of more entries
  pub entries_on : (es more : List Entry) (a b c : Content) (ns : List Moment) → PassesEntries o first es a b
      → past_after c ≡ past_after b ++ ns → ComeInOrder o first es more ns → PassesEntries o first (es ++ more) a c
  entries_on es more a b c ns h grows order = record {
    more = h.more ++ ns;
    grows = grows ∙ ap (λ (ms : List Moment). ms ++ ns) h.grows ∙ append_assoc (past_after a) h.more ns;
    order = order_on [] es more h.more ns h.order order;
  }

  pub told_step : (P : Moment → Type 0) (es more : List Entry) (a b c : Option Content)
      → ((ms : List Moment) → AllByRecursion P ms → ComeInOrder o first es more ms) → PassesEntriesTold o first es a b
      → PassesTold P b c → PassesEntriesTold o first (es ++ more) a c
  told_step P es more a b None so h k = tt
  told_step P es more a None (Some c) so h k = absurd k
  told_step P es more None (Some b) (Some c) so h k = absurd h
  told_step P es more (Some a) (Some b) (Some c) so h k = entries_on es more a b c k.more h k.grows (so k.more k.each)

not_marked : {A : Type 0} (b : Bool) → b ≡ true → b ≡ false → A
not_marked b is not = absurd (true≢false (sym is ∙ not))

-- ---- the calls

module _ {S C : Type 0} (told : S → StoreTold) (o : Opening) (opened : TailHeld S C) where
  -- nothing has come to the tail so far
  pub images_none : KeepsImages told o opened opened []
  images_none = record {
    sound = λ first s. s;
    passes = λ first s. entries_none first (told opened.store).content;
    unmarked = λ none. none;
  }
    where
      entries_none : (first : List Block) (c : Option Content) → PassesEntriesTold o first [] c c
      entries_none first None = tt
      entries_none first (Some c) = record { more = []; grows = sym (append-nil (past_after c)); order = tt }

  module _ (tail : TailHeld S C) (es : List Entry) (h : KeepsImages told o opened tail es) where
    -- a transaction has begun
    pub images_begun : (standing : Standing) → standing.blocks ≡ tail.standing.blocks → (place : Place) (number since : ℕ)
        → KeepsImages told o opened (record tail { standing = standing }) (es ++ begun_at place number since ∷ [])
    images_begun standing same place number since =
        let e = begun_at place number since in
        record {
          sound = λ first s.
              subst (λ (bs : List Block). IsSoundTail told bs (record tail { standing = standing })) (sym (from_push first es e))
              (subst (λ (bs : List Block). IfSome (told tail.store).content (IsSound bs (tried_from first es) tail.marked)) (sym same) (h.sound first s));
          passes = λ first s.
              told_step o first (λ m. ⊥) es (e ∷ []) (told opened.store).content (told tail.store).content (told tail.store).content
              (begun_order first) (h.passes first s) (told_none (λ m. ⊥) (told tail.store).content);
          unmarked = λ none. h.unmarked (sym (marks_push opened.marked es e) ∙ none);
        }
      where
        begun_order : (first : List Block) (ms : List Moment) → AllByRecursion (λ (m : Moment). ⊥) ms
            → ComeInOrder o first es (begun_at place number since ∷ []) ms
        begun_order first [] none = order_all o first es (begun_at place number since ∷ []) [] tt
        begun_order first (m ∷ ms) none = absurd none.0

    module _ (now : TailHeld S C) where
      -- a commit is Ok
      pub images_sealed : (number : ℕ) (b : Block) → now.marked ≡ false
          → ((tried : List Block) → IsSoundTail told tried tail → Settles told tail now (tried ++ b ∷ []))
          → tail.standing.blocks ≡ blocks_in o es → now.standing.blocks ≡ blocks_in o (es ++ sealed number b ∷ [])
          → KeepsImages told o opened now (es ++ sealed number b ∷ [])
      images_sealed number b clean kept old new =
          let e = sealed number b in
          record {
            sound = λ first s.
                subst (λ (bs : List Block). IsSoundTail told bs now) (sym (from_push first es e))
                (kept (tried_from first es) (h.sound first s)).keeps.sound;
            passes = λ first s.
                told_step o first (IsAmid told tail now (tried_from first es ++ b ∷ [])) es (e ∷ []) (told opened.store).content
                (told tail.store).content (told now.store).content (sealed_order first) (h.passes first s)
                (kept (tried_from first es) (h.sound first s)).keeps.passes;
            unmarked = λ none. clean;
          }
        where
          around_seal : (first : List Block) (m : Moment) → IsAmid told tail now (tried_from first es ++ b ∷ []) m
              → IsAround o first es (sealed number b) m
          around_seal first m (inl safe) = inl (subst (λ (bs : List Block). IsSafe bs (tried_from first es ++ b ∷ []) m) old safe)
          around_seal first m (inr safe) =
              let all = es ++ sealed number b ∷ [] in
              inr (safe_more (blocks_in o all) [] (tried_from first all) (none_so (tried_from first all)) m
              (subst (λ (bs : List Block). IsSafe bs [] m) new safe))

          sealed_order : (first : List Block) (ms : List Moment)
              → AllByRecursion (IsAmid told tail now (tried_from first es ++ b ∷ [])) ms → ComeInOrder o first es (sealed number b ∷ []) ms
          sealed_order first ms h =
              order_one o first es (sealed number b) ms
              (all_map (IsAmid told tail now (tried_from first es ++ b ∷ [])) (IsAround o first es (sealed number b)) ms (around_seal first) h)

      -- a commit is refused
      module _ (came : Option Block)
          (kept : (tried : List Block) → IsSoundTail told tried tail → KeepsSound told tail now (tried_with tried came) (tried_with tried came)) where
        images_after : (added : List Entry)
            → ((first : List Block) → tried_from first (es ++ added) ≡ tried_with (tried_from first es) came)
            → tail.standing.blocks ≡ blocks_in o (es ++ added) → now.standing.blocks ≡ blocks_in o (es ++ added)
            → (marked_from opened.marked (es ++ added) ≡ false → now.marked ≡ false) → KeepsImages told o opened now (es ++ added)
        images_after added is old new marks = record {
          sound = λ first s.
              subst (λ (bs : List Block). IsSoundTail told bs now) (sym (is first)) (kept (tried_from first es) (h.sound first s)).sound;
          passes = λ first s.
              told_step o first (IsAmid told tail now (tried_with (tried_from first es) came)) es added (told opened.store).content
              (told tail.store).content (told now.store).content (refused_order first) (h.passes first s)
              (kept (tried_from first es) (h.sound first s)).passes;
          unmarked = marks;
        }
          where
            safe_refused : (first : List Block) (m : Moment) → IsAmid told tail now (tried_with (tried_from first es) came) m
                → Safe o first (es ++ added) m
            safe_refused first m (inl safe) =
                subst (λ (bs : List Block). IsSafe (blocks_in o (es ++ added)) bs m) (sym (is first))
                (subst (λ (bs : List Block). IsSafe bs (tried_with (tried_from first es) came) m) old safe)
            safe_refused first m (inr safe) =
                safe_more (blocks_in o (es ++ added)) [] (tried_from first (es ++ added)) (none_so (tried_from first (es ++ added))) m
                (subst (λ (bs : List Block). IsSafe bs [] m) new safe)

            refused_order : (first : List Block) (ms : List Moment)
                → AllByRecursion (IsAmid told tail now (tried_with (tried_from first es) came)) ms → ComeInOrder o first es added ms
            refused_order first ms h =
                order_all o first es added ms
                (all_map (IsAmid told tail now (tried_with (tried_from first es) came)) (Safe o first (es ++ added)) ms (safe_refused first) h)

        none_more : (first : List Block) → tried_from first (es ++ []) ≡ tried_from first es
        none_more first = ap (λ (xs : List Entry). tried_from first xs) (append-nil es)

        -- the mark is as it was where no entry is added
        unasked_marks : now ≡ tail → marked_from opened.marked (es ++ []) ≡ false → now.marked ≡ false
        unasked_marks same none =
            ap (λ (x : TailHeld S C). x.marked) same
            ∙ h.unmarked (sym (ap (λ (xs : List Entry). marked_from opened.marked xs) (append-nil es)) ∙ none)

        marks_fail : (e : Entry) → ((before : Bool) → marked_after before e ≡ true) → marked_from opened.marked (es ++ e ∷ []) ≡ false
            → now.marked ≡ false
        marks_fail e is none =
            not_marked (marked_after (marked_from opened.marked es) e) (is (marked_from opened.marked es))
            (sym (marks_push opened.marked es e) ∙ none)

        pub images_refused : (s : Standing) (t : Opened) (sent : Option Hash32) (is_told : TimeParts → Type 0) (number : ℕ) (f : CommitFault)
            → IsTried s t sent is_told f came → IsService f ⊎ (now ≡ tail)
            → tail.standing.blocks ≡ blocks_in o (es ++ listed (refusal_of number f came))
            → now.standing.blocks ≡ blocks_in o (es ++ listed (refusal_of number f came))
            → KeepsImages told o opened now (es ++ listed (refusal_of number f came))
        images_refused s t sent is_told number f tries unasked old new =
            images_after (listed (refusal_of number f came)) (from_is came f tries) old new (marks came f tries unasked)
          where
            from_is : (c : Option Block) (g : CommitFault) → IsTried s t sent is_told g c → (first : List Block)
                → tried_from first (es ++ listed (refusal_of number g c)) ≡ tried_with (tried_from first es) c
            from_is None EndedTxn tries first = none_more first
            from_is (Some b) EndedTxn tries first = absurd tries
            from_is None (DigestDiffers mine given) tries first = none_more first
            from_is (Some b) (DigestDiffers mine given) tries first = absurd tries
            from_is None (Conflict since found) tries first = none_more first
            from_is (Some b) (Conflict since found) tries first = absurd tries
            from_is None (JournalFull many) tries first = none_more first
            from_is (Some b) (JournalFull many) tries first = absurd tries
            from_is None (StoreFault count) tries first = absurd tries
            from_is (Some b) (StoreFault count) tries first = from_push first es (failed number count b)
            from_is None OutOfMemory tries first = from_push first es (wanted number None)
            from_is (Some b) OutOfMemory tries first = from_push first es (wanted number (Some b))

            by_same : IsService EndedTxn ⊎ (now ≡ tail) → marked_from opened.marked (es ++ []) ≡ false → now.marked ≡ false
            by_same (inl service) none = absurd service
            by_same (inr same) none = unasked_marks same none

            marks : (c : Option Block) (g : CommitFault) → IsTried s t sent is_told g c → IsService g ⊎ (now ≡ tail)
                → marked_from opened.marked (es ++ listed (refusal_of number g c)) ≡ false → now.marked ≡ false
            marks None EndedTxn tries same none = by_same same none
            marks (Some b) EndedTxn tries same none = absurd tries
            marks None (DigestDiffers mine given) tries same none = by_same same none
            marks (Some b) (DigestDiffers mine given) tries same none = absurd tries
            marks None (Conflict since found) tries same none = by_same same none
            marks (Some b) (Conflict since found) tries same none = absurd tries
            marks None (JournalFull many) tries same none = by_same same none
            marks (Some b) (JournalFull many) tries same none = absurd tries
            marks None (StoreFault count) tries same none = absurd tries
            marks (Some b) (StoreFault count) tries same none = marks_fail (failed number count b) (λ before. refl) none
            marks None OutOfMemory tries same none = marks_fail (wanted number None) (λ before. refl) none
            marks (Some b) OutOfMemory tries same none = marks_fail (wanted number (Some b)) (λ before. refl) none
