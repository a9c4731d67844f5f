-- What a stop of the machine leaves of two runs, one after the other.
use Rattle.std.proofs.Common.{◌≡◌, ◌∙◌, Bool, false, inl, inr, List, [], ◌∷◌, ◌++◌, append-nil, append_assoc, sym, subst, Option, Some, None}
use Rattle.std.proofs.lemmas.List.Sums.{fold-append}
use Rattle.ledger_model.specs.declared.block.Block.{Block}
use Rattle.outside.specs.Told.{StoreTold}
use Rattle.outside.specs.Store.{Content, Moment}
use Rattle.laws_crash.specs.Sound.{IsSafe}
use Rattle.laws_crash.proofs.Lists.{all_map}
use Rattle.laws_history.specs.Seen.{blocks_in}
use Rattle.laws_history.specs.Tried.{tried_behind}
use Rattle.laws_machine.specs.Entries.{Entry, Opening, begun_at, failed, sealed, wanted}
use Rattle.ledger_core.specs.Images.{IsSoundTail}
use Rattle.ledger_core.specs.Tails.{TailHeld}
use Rattle.ledger_shared.specs.Images.{ComeInOrder, IsAround, KeepsImages, PassesEntriesTold, carried, marked_after, marked_from, tried_from}
use Rattle.ledger_shared.proofs.Imaging.{entries_on}

-- what is not marked from one mark on, is not from one that is less
marks_on : (a b : Bool) (es : List Entry) → (a ≡ false → b ≡ false) → marked_from a es ≡ false → marked_from b es ≡ false
marks_on a b [] less none = less none
marks_on a b (begun_at place number since ∷ es) less none = marks_on a b es less none
marks_on a b (sealed number block ∷ es) less none = none
marks_on a b (failed number count block ∷ es) less none = none
marks_on a b (wanted number tried ∷ es) less none = none

joined_from : (first : List Block) (es more : List Entry) → tried_from first (es ++ more) ≡ tried_from (tried_from first es) more
joined_from first es more = fold-append tried_behind first es more

module _ {S C : Type 0} (told : S → StoreTold) (o later : Opening) (opened mid now : TailHeld S C) (es more : List Entry)
    (a : KeepsImages told o opened mid es) (b : KeepsImages told later mid now more)
    (blocks_are : (front : List Entry) → blocks_in later front ≡ blocks_in o (es ++ front)) where
  module _ (first : List Block) where
    abbrev pub Later : List Entry → Moment → Type 0
    Later front = IsSafe (blocks_in later front) (tried_from (tried_from first es) front)

    abbrev pub Here : List Entry → Moment → Type 0
    Here front = IsSafe (blocks_in o (es ++ front)) (tried_from first (es ++ front))

    safe_here : (front : List Entry) (tried : List Block) (m : Moment) → IsSafe (blocks_in later front) (tried_from (tried_from first es) front ++ tried) m
        → IsSafe (blocks_in o (es ++ front)) (tried_from first (es ++ front) ++ tried) m
    safe_here front tried m s =
        subst (λ (bs : List Block). IsSafe (blocks_in o (es ++ front)) (bs ++ tried) m) (sym (joined_from first es front))
        (subst (λ (bs : List Block). IsSafe bs (tried_from (tried_from first es) front ++ tried) m) (blocks_are front) s)

    all_here : (front : List Entry) (m : Moment) → Later front m → Here front m
    all_here front m s =
        subst (λ (bs : List Block). IsSafe (blocks_in o (es ++ front)) bs m) (sym (joined_from first es front))
        (subst (λ (bs : List Block). IsSafe bs (tried_from (tried_from first es) front) m) (blocks_are front) s)

    around_here : (front : List Entry) (e : Entry) (m : Moment) → IsAround later (tried_from first es) front e m → IsAround o first (es ++ front) e m
    around_here front e m (inl s) = inl (safe_here front (carried e) m s)
    around_here front e m (inr s) =
        inr (subst (λ (xs : List Entry). IsSafe (blocks_in o xs) (tried_from first xs) m) (sym (append_assoc es front (e ∷ []))) (all_here (front ++ e ∷ []) m s))

    order_here : (front more : List Entry) (ms : List Moment) → ComeInOrder later (tried_from first es) front more ms
        → ComeInOrder o first (es ++ front) more ms
    order_here front [] ms h = all_map (Later front) (Here front) ms (all_here front) h
    order_here front (e ∷ more) ms h = (
      h.0,
      h.1,
      h.2,
      all_map (IsAround later (tried_from first es) front e) (IsAround o first (es ++ front) e) h.0 (around_here front e) h.3,
      subst (λ (xs : List Entry). ComeInOrder o first xs more h.1) (sym (append_assoc es front (e ∷ [])))
          (order_here (front ++ e ∷ []) more h.1 h.4),
    )

    entries_joined : (x y z : Option Content) → PassesEntriesTold o first es x y → PassesEntriesTold later (tried_from first es) more y z
        → PassesEntriesTold o first (es ++ more) x z
    entries_joined x y None h k = tt
    entries_joined x None (Some z) h k = absurd k
    entries_joined None (Some y) (Some z) h k = absurd h
    entries_joined (Some x) (Some y) (Some z) h k =
        entries_on o first es more x y z k.more h k.grows
        (subst (λ (xs : List Entry). ComeInOrder o first xs more k.more) (append-nil es) (order_here [] more k.more k.order))

  pub images_joined : KeepsImages told o opened now (es ++ more)
  images_joined = record {
    sound = λ first s.
        subst (λ (bs : List Block). IsSoundTail told bs now) (sym (joined_from first es more)) (b.sound (tried_from first es) (a.sound first s));
    passes = λ first s.
        entries_joined first (told opened.store).content (told mid.store).content (told now.store).content (a.passes first s)
        (b.passes (tried_from first es) (a.sound first s));
    unmarked = λ none.
        b.unmarked (marks_on (marked_from opened.marked es) mid.marked more a.unmarked
        (sym (fold-append marked_after opened.marked es more) ∙ none));
  }
