-- What a pass is at a call of the lock, and what each step on its table tells.
use Rattle.std.specs.Prelude.{◌≡◌, ◌≢◌, ℕ, List, [], ◌∷◌, ◌++◌, Option, Some, None}
use Rattle.atomic_table.specs.Table.{Me, Step, rest}
use Rattle.atomic_table.specs.Seated.{TableId}
use Rattle.atomic_table.specs.declared.shared.Seat.{Seat}
use Rattle.turn_lock.specs.declared.view.Placed.{Placed}
use Rattle.turn_lock.specs.declared.view.Known.{Known}
use Rattle.turn_lock.specs.declared.view.Turn.{Turn}
use Rattle.turn_lock.specs.declared.view.Turn.TheVariants.{Away, Got, Held, Shut}
use Rattle.turn_lock.specs.declared.view.View.{View}
use Rattle.turn_lock.specs.History.{with_entry, with_seen, after_split, split_off, IsPart}
use Rattle.turn_lock.specs.Rule.{viewed, spent, IsTold}

module _ {T E O : Type 0} where
  -- what a pass knows
  abbrev pub known : Seat (Option T) (View E O) → Known E
  known pass = pass.me.0.me

  abbrev pub seen : Seat (Option T) (View E O) → List E
  seen pass = pass.me.0.me.seen

  abbrev pub own : Seat (Option T) (View E O) → List (Placed E)
  own pass = pass.me.0.me.own

module _ {T E O : Type 0} (right : O → List E → Type 0) (table : TableId) (o : O) where
  -- a pass of the lock: it shows the lock's opening, and what it has seen is right for it
  pub record IsSeat (kept : List (Known E)) (turn : Turn E) (slots : List (ℕ × Option T))
      (seat : Seat (Option T) (View E O)) : Type 0 where
    pub of_lock : seat.table_id ≡ table
    pub shows : seat.me.0 ≡ viewed (Some o) seat.me.0.me kept turn
    pub is_right : right o seat.me.0.me.seen
    pub part : IsPart seat.me.0.me
    pub carries : seat.me.1 ≡ slots

  -- a pass of the lock that doesn't hold the turn
  abbrev pub Rests : Seat (Option T) (View E O) → Type 0
  Rests = IsSeat [] Away []

  -- a pass of the lock that holds the turn
  abbrev pub HoldsTurn : Seat (Option T) (View E O) → Type 0
  HoldsTurn = IsSeat [] Held ((0, None) ∷ [])

-- the table has two words and a slot
abbrev pub IsSized : TableId → Type 0
IsSized z = (z.words ≡ 2) × (z.slots ≡ 1)

-- what each step on the table tells
module _ {T E O : Type 0} (opening : T → O) (entries : T → List E) where
  -- the turn was taken, and the slot with the state; or nothing changed
  abbrev pub taken : Step (Option T) → Me (Option T) (View E O) → ℕ → Me (Option T) (View E O) → Type 0
  taken st m found m' =
      (found ≡ 0 → (state : T) × (m'.1 ≡ (0, Some state) ∷ m.1)
      × (m'.0 ≡ viewed m.0.opening m.0.me m.0.kept (Got (entries state)))
      × ((o : O) → m.0.opening ≡ Some o → opening state ≡ o))
      × (found ≢ 0 → m' ≡ m)

module _ {T E O : Type 0} (right : O → List E → Type 0) (opens uses : E → Option ℕ) where
  -- the holder has seen the list of the state that it got
  abbrev pub looked : Step (Option T) → Me (Option T) (View E O) → ℕ → Me (Option T) (View E O) → Type 0
  looked st m found m' = (got : List E) (o : O) → m.0.turn ≡ Got got → m.0.opening ≡ Some o
      → (m' ≡ (viewed m.0.opening (with_seen m.0.me got) m.0.kept Held, m.1)) × IsTold right opens uses o m.0 got

  -- a seat without the turn has seen the history so far
  abbrev pub tied : Step (Option T) → Me (Option T) (View E O) → ℕ → Me (Option T) (View E O) → Type 0
  tied st m found m' = (o : O) → m.0.opening ≡ Some o
      → (list : List E) × (m' ≡ (viewed m.0.opening (with_seen m.0.me list) m.0.kept m.0.turn, m.1))
      × IsTold right opens uses o m.0 list

module _ {T E O : Type 0} where
  -- the noted entry was added to what the holder has seen and owns
  abbrev pub added : Option E → Step (Option T) → Me (Option T) (View E O) → ℕ → Me (Option T) (View E O) → Type 0
  added noted st m found m' =
      (e : E) → noted ≡ Some e → m' ≡ (viewed m.0.opening (with_entry m.0.me e) m.0.kept m.0.turn, m.1)

  -- the turn was given back, and the slot
  abbrev pub given : Step (Option T) → Me (Option T) (View E O) → ℕ → Me (Option T) (View E O) → Type 0
  given st m found m' = m' ≡ (viewed m.0.opening m.0.me m.0.kept Away, rest m.1)

  -- the slot was given back, and the turn is kept for good
  abbrev pub shut : Step (Option T) → Me (Option T) (View E O) → ℕ → Me (Option T) (View E O) → Type 0
  shut st m found m' = m' ≡ (viewed m.0.opening m.0.me m.0.kept Shut, rest m.1)

  -- the seat knows nothing
  abbrev pub sat : Step (Option T) → Me (Option T) (View E O) → ℕ → Me (Option T) (View E O) → Type 0
  sat st m found m' = m'.0 ≡ spent

module _ {E : Type 0} where
  abbrev pub kept_or : Known E → List (Known E) → Known E
  kept_or k [] = k
  kept_or k (x ∷ xs) = x

module _ {E O : Type 0} where
  -- how a pass is split, and what the new one knows
  abbrev pub lender : View E O → View E O
  lender v = viewed v.opening (after_split v.me) v.kept v.turn

  abbrev pub next_pass : View E O → View E O
  next_pass v = viewed v.opening (split_off v.me) [] Away

  -- how what was kept is split off again, with as much seen
  abbrev pub alone : View E O → View E O
  alone v = viewed v.opening v.me [] v.turn

  abbrev pub kept_pass : View E O → View E O
  kept_pass v = viewed v.opening (with_seen (kept_or v.me v.kept) v.me.seen) [] Away

  -- how a seat is joined into another
  abbrev pub joined : View E O → View E O → View E O
  joined v w = viewed v.opening v.me (w.me ∷ w.kept ++ v.kept) v.turn
