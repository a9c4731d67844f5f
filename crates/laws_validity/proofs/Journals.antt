-- Undamaged lists of blocks: their fronts, one block more, and what the last block tells.
use Rattle.std.proofs.Common.{◌≡◌, ℕ, Bool, true, false, not, List, [], ◌∷◌, ◌++◌, Option, Some, None, refl, sym, subst, append-nil, append_assoc, if◌then◌else◌}
use Rattle.std.proofs.lemmas.Bool.{and_from, and_parts}
use Rattle.std.specs.List.{AllByRecursion}
use Rattle.ql_types.specs.declared.Hash32.{Hash32}
use Rattle.ledger_model.specs.declared.block.Block.{Block}
use Rattle.ledger_model.specs.State.{State, state, state_from, after}
use Rattle.ledger_model.specs.Legal.{last_hash}
use Rattle.ledger_model.specs.Seals.{strand_hash}
use Rattle.ledger_model.specs.Whole.{IsWhole}
use Rattle.ledger_model.specs.Follows.{follows, follows_blocks, redactions_follow}
use Rattle.ledger_model.specs.Damages.{UndamagedBehind, damage_behind, strand_of, last_block, has_address, has_id, has_time, has_previous, has_hashes}
use Rattle.laws_validity.specs.Before.{HasStrand}

-- ---- tests in a row, of which the first that fails is told

pub past : {X : Type 0} (x : Bool) (d : X) (rest : Option X) → (if not x then Some d else rest) ≡ None
    → (x ≡ true) × (rest ≡ None)
past true d rest h = (refl, h)
past false d rest h = cc

pub pass : {X : Type 0} (x : Bool) (d : X) (rest : Option X) → x ≡ true → rest ≡ None
    → (if not x then Some d else rest) ≡ None
pass true d rest h k = k
pass false d rest h k = cc

-- the block passes each check
pub record Passes (before : List Block) (b : Block) : Type 0 where
  pub address : has_address (strand_of before b) before b ≡ true
  pub id : has_id (strand_of before b) before b ≡ true
  pub time : has_time before b ≡ true
  pub previous : has_previous (strand_of before b) before b ≡ true
  pub hashes : has_hashes b ≡ true
  pub follows_is : follows (strand_of before b) (state before) b ≡ true
  pub redactions : redactions_follow before (state before).revisions [] b.info.schema ≡ true

pub passes_all : (before : List Block) (b : Block) → damage_behind before b ≡ None → Passes before b
passes_all before b h =
    let strand = strand_of before b in
    let one = past (has_address strand before b) _ _ h in
    let two = past (has_id strand before b) _ _ one.1 in
    let three = past (has_time before b) _ _ two.1 in
    let four = past (has_previous strand before b) _ _ three.1 in
    let five = past (has_hashes b) _ _ four.1 in
    let six = past (follows_blocks strand before b) _ _ five.1 in
    let both = and_parts (follows strand (state before) b)
    (redactions_follow before (state before).revisions [] b.info.schema) six.0 in
    record {
      address = one.0;
      id = two.0;
      time = three.0;
      previous = four.0;
      hashes = five.0;
      follows_is = both.0;
      redactions = both.1;
    }

pub no_damage : (before : List Block) (b : Block) → Passes before b → damage_behind before b ≡ None
no_damage before b p =
    let strand = strand_of before b in
    pass (has_address strand before b) _ _ p.address (
    pass (has_id strand before b) _ _ p.id (
    pass (has_time before b) _ _ p.time (
    pass (has_previous strand before b) _ _ p.previous (
    pass (has_hashes b) _ _ p.hashes (pass (follows_blocks strand before b) _ _
    (and_from (follows strand (state before) b)
    (redactions_follow before (state before).revisions [] b.info.schema) p.follows_is p.redactions)
    refl)))))

-- ---- fronts, and one block more

pub undamaged_push : (bs before : List Block) (b : Block) → UndamagedBehind before bs → IsWhole b
    → damage_behind (before ++ bs) b ≡ None → UndamagedBehind before (bs ++ b ∷ [])
undamaged_push [] before b u w d = (w, subst (λ xs. damage_behind xs b ≡ None) (append-nil before) d, tt)
undamaged_push (c ∷ cs) before b u w d = (
  u.0,
  u.1,
  undamaged_push cs (before ++ c ∷ []) b u.2 w
      (subst (λ xs. damage_behind xs b ≡ None) (sym (append_assoc before (c ∷ []) cs)) d),
)

pub undamaged_front : (xs ys before : List Block) → UndamagedBehind before (xs ++ ys) → UndamagedBehind before xs
undamaged_front [] ys before u = tt
undamaged_front (x ∷ xs) ys before u = (u.0, u.1, undamaged_front xs ys (before ++ x ∷ []) u.2)

pub undamaged_back : (xs ys before : List Block) → UndamagedBehind before (xs ++ ys)
    → UndamagedBehind (before ++ xs) ys
undamaged_back [] ys before u = subst (λ zs. UndamagedBehind zs ys) (sym (append-nil before)) u
undamaged_back (x ∷ xs) ys before u =
    subst (λ zs. UndamagedBehind zs ys) (append_assoc before (x ∷ []) xs)
    (undamaged_back xs ys (before ++ x ∷ []) u.2)

pub all_whole : (bs before : List Block) → UndamagedBehind before bs → AllByRecursion IsWhole bs
all_whole [] before u = tt
all_whole (b ∷ bs) before u = (u.0, all_whole bs (before ++ b ∷ []) u.2)

-- ---- the strand and the last block

-- where the blocks' strand is that of the mask, it is so at each block and behind the last one
pub strand_is : (mask : ℕ) (before : List Block) (b : Block) (rest : List Block) → HasStrand mask (before ++ b ∷ rest)
    → strand_of before b ≡ mask
strand_is mask [] b rest h = h
strand_is mask (first ∷ more) b rest h = h

pub strand_next : (mask : ℕ) (before : List Block) (b : Block) → HasStrand mask before
    → b.header.address.strand.raw ≡ mask
    → strand_of before b ≡ mask
strand_next mask [] b h own = own
strand_next mask (first ∷ more) b h own = h

pub last_is : (P : Block → Type 0) (bs : List Block) (b : Block) → AllByRecursion P bs → last_block bs ≡ Some b → P b
last_is P [] b h e = cc
last_is P (c ∷ []) b h e = let same : c ≡ b = cc in subst P same h.0
last_is P (c ∷ d ∷ bs) b h e = last_is P (d ∷ bs) b h.1 e

pub last_hash_is : (P : Hash32 → Type 0) (m : ℕ) (bs : List Block) → P (strand_hash m)
    → AllByRecursion (λ b. P b.hash) bs → P (last_hash m bs)
last_hash_is P m [] h k = h
last_hash_is P m (b ∷ []) h k = k.0
last_hash_is P m (b ∷ c ∷ bs) h k = last_hash_is P m (c ∷ bs) h k.1

pub state_push : (bs : List Block) (s : State) (b : Block) → state_from s (bs ++ b ∷ []) ≡ after (state_from s bs) b
state_push [] s b = refl
state_push (c ∷ cs) s b = state_push cs (after s c) b
