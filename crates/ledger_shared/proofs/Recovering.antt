-- What the images of the ledger's store recover to.
use Rattle.std.proofs.Common.{◌≡◌, ◌∙◌, ℕ, ℤ, Bool, false, inl, inr, List, [], ◌∷◌, ◌++◌, append_assoc, refl, sym, ap, subst, Option, Some, None, Result, Ok, Err}
use Rattle.std.specs.Prelude.{IfOk, IfSome}
use Rattle.std.specs.List.{AllByRecursion}
use Rattle.std.proofs.lemmas.List.Elements.{Contains-append_left}
use Rattle.ql_types.specs.declared.Hash32.{Hash32}
use Rattle.ledger_model.specs.declared.block.Block.{Block}
use Rattle.ledger_model.specs.Damages.{Undamaged}
use Rattle.ledger_model.specs.HashesAsked.{AreAsked}
use Rattle.laws_validity.proofs.Journals.{undamaged_front}
use Rattle.outside.specs.Told.{StoreTold}
use Rattle.outside.specs.Store.{Content, Moment, moment_of}
use Rattle.laws_crash.specs.Pending.{ImagesAre}
use Rattle.laws_crash.specs.Sound.{IsSafe, IsSound, RecoversAlone, SafeRecovers, UnmarkedRecovers}
use Rattle.laws_crash.proofs.Lists.{all_append, all_map}
use Rattle.laws_crash.proofs.Moments.{passes_leave}
use Rattle.laws_machine.specs.Entries.{Entry, IsRunFrom, Opening, Reach, reach_at, sealed}
use Rattle.laws_history.specs.Seen.{blocks_in}
use Rattle.laws_history.specs.Steps.{knows_behind}
use Rattle.laws_history.proofs.Asked.{asked_reached}
use Rattle.laws_history.proofs.Reaches.{blocks_on, comes_behind, run_front}
use Rattle.turn_lock.specs.declared.view.Known.{Known}
use Rattle.txn_core.specs.Opened.{Opened}
use Rattle.ledger_core.specs.Tails.{TailHeld}
use Rattle.ledger_core.specs.NextBlock.{receipt_of}
use Rattle.ledger_core.specs.declared.appending.Receipt.{Receipt}
use Rattle.ledger_core.specs.declared.commit.CommitFault.{CommitFault}
use Rattle.ledger_shared.specs.Acknowledged.{KeepsBlock, UnmarkedIsSafe}
use Rattle.ledger_shared.specs.Behind.{AreTimed, IsRightFor, IsTimeOf, Keeps, opening_of}
use Rattle.ledger_shared.specs.Calls.{Commits, Extends}
use Rattle.ledger_shared.specs.Images.{ComeInOrder, ImagesRecover, IsAround, RecoversAmid, marked_from, next_tried, tried_from}
use Rattle.ledger_shared.proofs.Imaging.{marks_push, safe_more}
use Rattle.ledger_shared.proofs.Times.{timed_last}

-- the blocks of the first of the entries are undamaged
front_undamaged : (o : Opening) (es front later : List Entry) → es ≡ front ++ later → Undamaged (blocks_in o es)
    → Undamaged (blocks_in o front)
front_undamaged o es front later is u =
    let on = blocks_on (reach_at o) front es (later, sym is) in
    undamaged_front (blocks_in o front) on.0 [] (subst (λ (bs : List Block). Undamaged bs) (sym on.1) u)

-- and their hashes are asked for, if those of the opening's are
front_asked : (o : Opening) (es front later : List Entry) → es ≡ front ++ later → IsRunFrom (reach_at o) es → AreAsked o.blocks
    → AreAsked (blocks_in o front)
front_asked o es front later is run asked =
    asked_reached (reach_at o) front (run_front (reach_at o) front later (subst (IsRunFrom (reach_at o)) is run)) asked

-- At this moment the first of the entries had come, and the block of the next one may have come to the store.
pub record ComesAmid (o : Opening) (first : List Block) (es : List Entry) (m : Moment) : Type 0 where
  pub front : List Entry
  pub later : List Entry
  pub es_are : es ≡ front ++ later
  pub safe : IsSafe (blocks_in o front) (tried_from first front ++ next_tried later) m

module _ (o : Opening) (first : List Block) where
  wide_safe : (es later : List Entry) (m : Moment) → IsSafe (blocks_in o es) (tried_from first es) m
      → IsSafe (blocks_in o es) (tried_from first es ++ next_tried later) m
  wide_safe es later m s =
      safe_more (blocks_in o es) (tried_from first es) (tried_from first es ++ next_tried later)
      (λ b h. Contains-append_left (tried_from first es) (next_tried later) b h) m s

  amid_all : (whole before es : List Entry) (ms : List Moment) → whole ≡ before ++ es → ComeInOrder o first before es ms
      → AllByRecursion (ComesAmid o first whole) ms
  amid_all whole before [] ms is h =
      all_map (IsSafe (blocks_in o before) (tried_from first before)) (ComesAmid o first whole) ms
      (λ m s. record { front = before; later = []; es_are = is; safe = wide_safe before [] m s }) h
  amid_all whole before (e ∷ es) ms is h =
      let on : whole ≡ (before ++ e ∷ []) ++ es = is ∙ sym (append_assoc before (e ∷ []) es) in
      subst (λ (xs : List Moment). AllByRecursion (ComesAmid o first whole) xs) (sym h.2)
      (all_append (ComesAmid o first whole) h.0 h.1
      (all_map (IsAround o first before e) (ComesAmid o first whole) h.0 (around_amid on) h.3)
      (amid_all whole (before ++ e ∷ []) es h.1 on h.4))
    where
      around_amid : whole ≡ (before ++ e ∷ []) ++ es → (m : Moment) → IsAround o first before e m → ComesAmid o first whole m
      around_amid on m (inl s) = record { front = before; later = e ∷ es; es_are = is; safe = s }
      around_amid on m (inr s) = record { front = before ++ e ∷ []; later = es; es_are = on; safe = wide_safe (before ++ e ∷ []) es m s }

pub images_recover : SafeRecovers → ImagesRecover
images_recover law o first es before now right asked passes safe image left =
    passes_leave (ComesAmid o first es) (RecoversAmid o first es) before now
    (record { more = passes.more; grows = passes.grows; each = amid_all o first es [] es passes.more refl passes.order })
    (λ image is. record {
      front = [];
      later = es;
      es_are = refl;
      recovers = law o.blocks (first ++ next_tried es) (moment_of before) (front_undamaged o es [] es refl right.undamaged)
          asked (wide_safe o first [] es (moment_of before) safe) image is;
    })
    (λ m amid image is. record {
      front = amid.front;
      later = amid.later;
      es_are = amid.es_are;
      recovers = law (blocks_in o amid.front) (tried_from first amid.front ++ next_tried amid.later) m
          (front_undamaged o es amid.front amid.later amid.es_are right.undamaged)
          (front_asked o es amid.front amid.later amid.es_are right.run asked) amid.safe image is;
    })
    image left

-- a store with no mark
pub unmarked_alone : UnmarkedRecovers → (content : Option Content) (blocks tried : List Block) (marked : Bool) → marked ≡ false → Undamaged blocks → AreAsked blocks
    → IfSome content (IsSound blocks tried marked) → IfSome content (λ c. ImagesAre (RecoversAlone blocks) (moment_of c))
unmarked_alone law None blocks tried marked none sound asked s = tt
unmarked_alone law (Some c) blocks tried marked none sound asked s =
    law blocks tried c sound asked (subst (λ (m : Bool). IsSound blocks tried m c) none s)

module _ {S C : Type 0} (told : S → StoreTold) (answers : C → Option (List ℤ)) (always : C → Option ℤ) (opened : TailHeld S C) where
  asked_behind : {tail : TailHeld S C} (es : List Entry) → Keeps told answers always opened tail es
      → AreAsked (blocks_in (opening_of told opened) es)
  asked_behind es keeps =
      asked_reached (reach_at (opening_of told opened)) es keeps.behind.run
      (subst (λ (bs : List Block). AreAsked bs) keeps.behind.of_blocks (keeps.behind.opening).asked)

  pub unmarked_is_safe : UnmarkedRecovers → UnmarkedIsSafe told answers always opened
  unmarked_is_safe law tail es keeps right none first s =
      unmarked_alone law (told tail.store).content tail.standing.blocks (tried_from first es) tail.marked (keeps.images.unmarked none)
      (subst (λ (bs : List Block). Undamaged bs) (sym keeps.behind.blocks) right.undamaged)
      (subst (λ (bs : List Block). AreAsked bs) (sym keeps.behind.blocks) (asked_behind es keeps)) (keeps.images.sound first s)

  -- a block that was sealed is kept
  pub keeps_block : UnmarkedRecovers → (receipt : Receipt) (tail : TailHeld S C) (es front : List Entry) (number : ℕ) (block : Block)
      → es ≡ front ++ sealed number block ∷ [] → receipt ≡ receipt_of block → Keeps told answers always opened tail es
      → IsRightFor told opened es → KeepsBlock told answers always opened receipt es
  keeps_block law receipt tail es front number block is receipt_is keeps right =
      let o = opening_of told opened in
      let none : marked_from opened.marked es ≡ false =
      ap (λ (xs : List Entry). marked_from opened.marked xs) is ∙ marks_push opened.marked front (sealed number block) in
      record {
        front = front;
        number = number;
        block = block;
        es_are = is;
        receipt_is = receipt_is;
        tail = tail;
        keeps = keeps;
        blocks_are = keeps.behind.blocks ∙ ap (λ (xs : List Entry). blocks_in o xs) is ∙ blocks_push o front number block;
        safe = unmarked_is_safe law tail es keeps right none;
        time = timed_last (IsTimeOf (always opened.clock) (answers opened.clock) (answers tail.clock)) (reach_at o) front (sealed number block)
            (subst (λ (xs : List Entry). AreTimed (IsTimeOf (always opened.clock) (answers opened.clock) (answers tail.clock)) (reach_at o) xs) is
            keeps.times.timed);
      }
    where
      blocks_push : (o : Opening) (front : List Entry) (number : ℕ) (block : Block)
          → blocks_in o (front ++ sealed number block ∷ []) ≡ blocks_in o front ++ block ∷ []
      blocks_push o front number block = ap (λ (r : Reach). r.blocks) (comes_behind (reach_at o) front (sealed number block))

  -- what a commit that is Ok leaves, as the pass sees it once the turn is given back
  pub called_keeps : UnmarkedRecovers → (taken now : Known Entry) (tail : TailHeld S C) (es list : List Entry) (t : Opened)
      (sent : Option Hash32) (result : Result Receipt CommitFault) → es ≡ taken.seen
      → Extends es list (Commits (opening_of told opened) es t sent result)
      → ((added : List Entry) → list ≡ taken.seen ++ added → now ≡ knows_behind taken taken.seen added)
      → Keeps told answers always opened tail list → IsRightFor told opened list
      → IfOk result (λ receipt. KeepsBlock told answers always opened receipt now.seen)
  called_keeps law taken now tail es list t sent (Err f) is extends put keeps right = tt
  called_keeps law taken now tail es list t sent (Ok receipt) is extends put keeps right =
      let o = opening_of told opened in
      let E : Extends taken.seen list (Commits o taken.seen t sent (Ok receipt)) =
      subst (λ (xs : List Entry). Extends xs list (Commits o xs t sent (Ok receipt))) is extends in
      let e = sealed t.begun.number E.2.block in
      let here : list ≡ taken.seen ++ e ∷ [] = E.1 ∙ ap (λ (xs : List Entry). taken.seen ++ xs) E.2.adds in
      let seen : now.seen ≡ list = ap (λ (k : Known Entry). k.seen) (put (e ∷ []) here) ∙ sym here in
      subst (λ (xs : List Entry). KeepsBlock told answers always opened receipt xs) (sym seen)
      (keeps_block law receipt tail list taken.seen t.begun.number E.2.block here E.2.receipt_is keeps right)
