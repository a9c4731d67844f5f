-- The rule of the lock's table, and what each step tells.
use Rattle.std.specs.Prelude.{◌≡◌, ◌≢◌, ◌⊎◌, ℕ, ◌+◌, ◌<◌, ◌≤◌, List, [], ◌∷◌, ◌++◌, map, length, Option, Some, None, Bool, true, false, ◌&&◌, ◌==◌, nat_le, cond}
use mathlib.Core.Option.{some, none}
use mathlib.Core.Option as maybe
use mathlib.Core.List.{IsPrefix}
use lib.ListN.{get_elem?}
use Rattle.atomic_table.specs.Table.{State, Me, Step, rest}
use Rattle.atomic_table.specs.Seated.{TableId}
use Rattle.atomic_table.specs.declared.shared.Seat.{Seat}
use Rattle.turn_lock.specs.declared.view.Placed.{Placed}
use Rattle.turn_lock.specs.declared.view.Known.{Known}
use Rattle.turn_lock.specs.declared.view.Turn.{Turn}
use Rattle.turn_lock.specs.declared.view.Turn.TheVariants.{Away, Got, Held, Shut}
use Rattle.turn_lock.specs.declared.view.View.{View}
use Rattle.turn_lock.specs.History.{placed, with_entry, with_seen, after_split, split_off}

-- an entry with the name of the pass that made it
pub record Signed (E : Type 0) : Type 0 where
  pub by : List ℕ
  pub entry : E

-- the two names are one
abbrev pub same_name : List ℕ → List ℕ → Bool
same_name [] [] = true
same_name [] (y ∷ ys) = false
same_name (x ∷ xs) [] = false
same_name (x ∷ xs) (y ∷ ys) = (x == y) && same_name xs ys

abbrev pub if_so : Bool → ℕ
if_so b = cond b 1 0

module _ {A : Type 0} where
  -- the weights of the members, added up
  abbrev pub weigh : (A → ℕ) → List A → ℕ
  weigh f [] = 0
  weigh f (x ∷ xs) = f x + weigh f xs

  -- P holds of each member
  abbrev pub Each : (A → Type 0) → List A → Type 0
  Each P [] = Unit {0}
  Each P (x ∷ xs) = P x × Each P xs

module _ {E : Type 0} where
  abbrev pub IsAway : Turn E → Type 0
  IsAway Away = Unit {0}
  IsAway _ = ⊥

  -- the history without the names
  abbrev pub history : List (Signed E) → List E
  history log = map (λ s. s.entry) log

  -- the entries that this name made, with their places, the first one's place being p
  abbrev pub made_by : List ℕ → ℕ → List (Signed E) → List (Placed E)
  made_by name p [] = []
  made_by name p (s ∷ log) =
      cond (same_name s.by name) (placed p s.entry ∷ made_by name (p + 1) log) (made_by name (p + 1) log)

  -- 1 where it has this name
  abbrev pub is : List ℕ → Known E → ℕ
  is name k = if_so (same_name k.name name)

  -- 1 where it has this name and split off its k-th pass
  abbrev pub lends : List ℕ → ℕ → Known E → ℕ
  lends name k h = if_so (same_name h.name name && (nat_le 1 k && nat_le k h.splits))

  -- the names are whole: the empty one is there, and with each name those that were split from it
  pub record IsWhole (people : List (Known E)) : Type 0 where
    pub first : 1 ≤ weigh (is []) people
    pub split : (name : List ℕ) (k : ℕ) → 1 ≤ weigh (lends name k) people → 1 ≤ weigh (is (name ++ k ∷ [])) people

module _ {E O : Type 0} where
  abbrev pub viewed : Option O → Known E → List (Known E) → Turn E → View E O
  viewed o me kept turn = record { opening = o; me = me; kept = kept; turn = turn }

  -- whom a view speaks for: nobody, where it is spent
  abbrev pub speaks : Option O → Known E → List (Known E) → List (Known E)
  speaks None me kept = []
  speaks (Some o) me kept = me ∷ kept

  abbrev pub people : View E O → List (Known E)
  people v = speaks v.opening v.me v.kept

  -- the weight of all that the seats speak for
  abbrev pub total : (Known E → ℕ) → List (View E O) → ℕ
  total f views = weigh (λ v. weigh f (people v)) views

  abbrev pub newcomer : O → View E O
  newcomer o = viewed (Some o) record { name = []; splits = 0; seen = []; own = [] } [] Away

  -- a seat that was joined into another
  abbrev pub spent : View E O
  spent = viewed None record { name = []; splits = 0; seen = []; own = [] } [] Away

module _ {E : Type 0} (opens uses : E → Option ℕ) where
  -- each number is opened once; an entry that uses one was made by who opened it, and is the only one that uses it
  pub record IsFair (log : List (Signed E)) : Type 0 where
    pub once : (p q n : ℕ) (x y : Signed E) → get_elem? log p ≡ some x → get_elem? log q ≡ some y →
        opens x.entry ≡ Some n → opens y.entry ≡ Some n → p ≡ q
    pub opener : (p n : ℕ) (x : Signed E) → get_elem? log p ≡ some x → uses x.entry ≡ Some n
        → (q : ℕ) × (y : Signed E) × (get_elem? log q ≡ some y) × (opens y.entry ≡ Some n) × (y.by ≡ x.by)
    pub single : (p q n : ℕ) (x y : Signed E) → get_elem? log p ≡ some x → get_elem? log q ≡ some y →
        uses x.entry ≡ Some n → uses y.entry ≡ Some n → p ≡ q

module _ {E O : Type 0} (right : O → List E → Type 0) (o : O) where
  -- what is known fits the history: a beginning of it was seen, which is right, and the own list has the entries of
  -- its name
  pub record Fits (log : List (Signed E)) (k : Known E) : Type 0 where
    pub seen : IsPrefix k.seen (history log)
    pub fitting : right o k.seen
    pub own : k.own ≡ made_by k.name 0 log

  pub record ViewFits (log : List (Signed E)) (v : View E O) : Type 0 where
    pub shows : (p : O) → v.opening ≡ Some p → p ≡ o
    pub each : Each (Fits log) (people v)

module _ {T E O : Type 0} (opening : T → O) (entries : T → List E) (o : O) where
  -- the slot holds a state of the lock with this list
  abbrev pub HoldsState : List E → List (maybe.Option (Option T)) → Type 0
  HoldsState list homes = (state : T) × (homes ≡ some (Some state) ∷ []) × (opening state ≡ o) × (entries state ≡ list)

  -- who holds the turn, at each part of its stay
  abbrev pub Stays : List E → List E → Turn E → List (maybe.Option (Option T)) → Type 0
  Stays list seen Away homes = ⊥
  Stays list seen (Got got) homes = (homes ≡ none ∷ []) × (got ≡ list)
  Stays list seen Held homes = (homes ≡ none ∷ []) × (seen ≡ list)
  Stays list seen Shut homes = (seen ≡ list) × HoldsState list homes

  -- nobody holds the turn, word 1 is 0 and the slot holds the state
  pub record NobodyHolds (list : List E) (number : ℕ) (homes : List (maybe.Option (Option T)))
      (views : List (View E O)) : Type 0 where
    pub word : number ≡ 0
    pub slot : HoldsState list homes
    pub all_away : (j : ℕ) (u : View E O) → get_elem? views j ≡ some u → IsAway u.turn

  -- one seat holds the turn, and word 1 is 1
  pub record OneHolds (list : List E) (number : ℕ) (homes : List (maybe.Option (Option T)))
      (views : List (View E O)) : Type 0 where
    pub seat : ℕ
    pub view : View E O
    pub at : get_elem? views seat ≡ some view
    pub word : number ≡ 1
    pub stays : Stays list view.me.seen view.turn homes
    pub others_away : (j : ℕ) (u : View E O) → j ≢ seat → get_elem? views j ≡ some u → IsAway u.turn

module _ {T E O : Type 0} (opening : T → O) (entries : T → List E) (right : O → List E → Type 0) (opens uses : E →
    Option ℕ) (o : O) where
  -- The rule. Behind it stands one history, each entry with the name of the pass that made it
  pub record IsKept (s : State (Option T) (View E O)) : Type 0 where
    pub log : List (Signed E)
    pub turn_word : ℕ
    pub words : s.words ≡ length log ∷ turn_word ∷ []
    pub fitting : right o (history log)
    pub fair : IsFair opens uses log
    pub each_view : (j : ℕ) (v : View E O) → get_elem? s.views j ≡ some v → ViewFits right o log v
    -- no two have one name, each entry's name is there, and each name but the empty one was split off by who has the
    -- name before it
    pub names : (name : List ℕ) → total (is name) s.views ≤ 1
    pub authors : (p : ℕ) (x : Signed E) → get_elem? log p ≡ some x → 1 ≤ total (is x.by) s.views
    pub lenders : (name : List ℕ) (k : ℕ) → total (is (name ++ k ∷ [])) s.views ≤ total (lends name k) s.views
    pub turn : NobodyHolds opening entries o (history log) turn_word s.homes s.views ⊎ OneHolds opening entries o
        (history log) turn_word s.homes s.views

module _ {E O : Type 0} (right : O → List E → Type 0) (opens uses : E → Option ℕ) (o : O) where
  -- what a look at the count tells of the history: all that the seat speaks for fits it
  pub record IsTold (v : View E O) (list : List E) : Type 0 where
    pub log : List (Signed E)
    pub list_is : list ≡ history log
    pub fitting : right o list
    pub fair : IsFair opens uses log
    pub each : Each (Fits right o log) (people v)
    pub names : (name : List ℕ) → weigh (is name) (people v) ≤ 1
    pub authors : IsWhole (people v) → (p : ℕ) (x : Signed E) → get_elem? log p ≡ some x →
        1 ≤ weigh (is x.by) (people v)
