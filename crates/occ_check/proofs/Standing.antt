-- What a block of an undamaged journal touches is told by all blocks and the state behind them.
use Rattle.std.proofs.Common.{◌≡◌, ◌∙◌, ℕ, zero, suc, ◌+◌, ◌-◌, ◌^◌, ◌==◌, ◌<◌, ◌≤◌, ◌&&◌, ◌||◌, Bool, true, false, List, [], ◌∷◌, ◌++◌, cond, length, get_or, take, drop, slice_get, Option, Some, None, refl, sym, ap, ap₂, subst, append-nil, append_assoc, length-append, nat_le, arith}
use Rattle.std.specs.List.{AllByRecursion, find, flat_map, list_any}
use Rattle.std.proofs.Math.Bool.{or_comm, or-false}
use Rattle.std.proofs.lemmas.Bool.{and_parts, eqb-true}
use Rattle.std.proofs.lemmas.List.{drop_all, drop_more}
use Rattle.ion_values.specs.declared.value.Key.{Key}
use Rattle.ion_values.specs.declared.value.Value.{Value}
use Rattle.ql_types.specs.declared.TableId.{TableId}
use Rattle.ledger_model.specs.declared.block.Block.{Block}
use Rattle.ledger_model.specs.declared.block.Revision.{Revision}
use Rattle.ledger_model.specs.declared.outcome.Item.{Item}
use Rattle.ledger_model.specs.declared.outcome.Item.TheVariants as item
use Rattle.ledger_model.specs.declared.outcome.Named.{Named}
use Rattle.ledger_model.specs.Damages.{Undamaged, UndamagedBehind, strand_of}
use Rattle.ledger_model.specs.Follows.{continues, follows, latest_of}
use Rattle.ledger_model.specs.State.{Recorded, State, after, empty, recorded_in, revisions_after, state, state_from}
use Rattle.laws_validity.specs.Before.{HasStrand}
use Rattle.laws_validity.proofs.Journals.{passes_all}
use Rattle.laws_validity.proofs.Lists.{all_both, all_like}
use Rattle.laws_footprint.specs.Following as following
use Rattle.laws_footprint.specs.Following.{is_of, is_of_document, touched_by_tables}
use Rattle.laws_footprint.specs.Journalled as journalled
use Rattle.laws_footprint.specs.Own.{AllFollow}
use Rattle.laws_footprint.specs.Touches.{conflict_from, content_in, has_key_in, id_of, named_or, redacts_document, redacts_in, revisions_in, touched}
use Rattle.laws_footprint.proofs.Following.{following_touches}
use Rattle.laws_footprint.proofs.Journals.{undamaged_follow}
use Rattle.occ_check.specs.Behind.{block_touches, change_touches, content_of, earlier, revision_touches}
use Rattle.occ_check.proofs.Ids.{tables_differ}
use Rattle.occ_check.proofs.Names.{IsCreated, IsLabelled, all_labelled, all_labelled_before, names_are, state_labelled_before}
use Rattle.occ_check.proofs.Versioned.{LeavesOwn, Numbered, before_is, goes_of, leave_own, none_numbered, numbered_next, stored_all, stored_append, stored_kept}

-- ---- a block among others, before a state that stands behind it

-- each block stands at its address, the first at n
abbrev ArePlaced : ℕ → List Block → Type 0
ArePlaced n [] = Unit {0}
ArePlaced n (b ∷ bs) = (b.header.address.sequence ≡ n) × ArePlaced (n + 1) bs

record Stands (blocks : List Block) (mask : ℕ) (now s : State) (b : Block) : Type 0 where
  follow : follows mask s b ≡ true
  numbered : Numbered blocks s.revisions
  more : ℕ → List (Option Revision)
  revisions : (id : ℕ) → stored_all blocks now.revisions id ≡ stored_all blocks s.revisions id ++ more id
  labelled : AllByRecursion (IsLabelled now.tables) s.tables
  created : AllByRecursion (IsCreated now.tables) b.info.schema

module _ (blocks : List Block) (mask : ℕ) (now : State) where
  abbrev stored_by : List Block → ℕ → List (Option Revision)
  stored_by bs id = stored_all blocks (flat_map revisions_in bs) id

  stored_more : (s : State) (bs : List Block) (id : ℕ)
      → stored_all blocks (state_from s bs).revisions id ≡ stored_all blocks s.revisions id ++ stored_by bs id
  stored_more s [] id = sym (append-nil (stored_all blocks s.revisions id))
  stored_more s (b ∷ bs) id =
      let own = stored_all blocks (revisions_in b) id in
      stored_more (after s b) bs id
      ∙ ap (λ os. os ++ stored_by bs id)
      (stored_append blocks (revisions_after b.info.schema s.revisions) (revisions_in b) id
      ∙ ap (λ os. os ++ own) (stored_kept blocks b.info.schema s.revisions id))
      ∙ append_assoc (stored_all blocks s.revisions id) own (stored_by bs id)
      ∙ ap (λ os. stored_all blocks s.revisions id ++ os)
      (sym (stored_append blocks (revisions_in b) (flat_map revisions_in bs) id))

  stands_at : (s : State) (bs : List Block) (n at : ℕ) (b : Block) → now ≡ state_from s bs → AllFollow mask s bs
      → ArePlaced n bs → ((k : ℕ) → slice_get blocks (n + k) ≡ slice_get bs k) → Numbered blocks s.revisions
      → AllByRecursion (IsLabelled now.tables) now.tables
      → slice_get bs at ≡ Some b → Stands blocks mask now (state_from s (take at bs)) b
  stands_at s [] n at b is f places here num labels e = cc
  stands_at s (c ∷ bs) n zero b is f places here num labels e =
      let same : c ≡ b = cc in
      let back = state_labelled_before now.tables (after s c) bs
      (subst (λ (x : State). AllByRecursion (IsLabelled now.tables) x.tables) is labels) in
      let parts = all_labelled_before now.tables s.tables c.info.schema back in
      subst (Stands blocks mask now s) same (record {
        follow = f.0;
        numbered = num;
        more = stored_by (c ∷ bs);
        revisions = λ id. ap (λ (x : State). stored_all blocks x.revisions id) is ∙ stored_more s (c ∷ bs) id;
        labelled = parts.0;
        created = parts.1;
      })
  stands_at s (c ∷ bs) n (suc at) b is f places here num labels e =
      let there : slice_get blocks c.header.address.sequence ≡ Some c =
      ap (slice_get blocks) (places.0 ∙ omega arith) ∙ here 0 in
      stands_at (after s c) bs (n + 1) at b is f.1 places.1
      (λ k. ap (slice_get blocks) (omega arith) ∙ here (suc k))
      (numbered_next blocks mask s c f.0 there num) labels e

-- ---- what such a block touches

any_same : (p q : Recorded → Bool) (rs : List Recorded) → AllByRecursion (λ r. p r ≡ q r) rs
    → list_any p rs ≡ list_any q rs
any_same p q [] h = refl
any_same p q (r ∷ rs) h = ap₂ (λ (a b : Bool). a || b) h.0 (any_same p q rs h.1)

none_any : {X : Type 0} (xs : List X) → list_any (λ (x : X). false) xs ≡ false
none_any [] = refl
none_any (x ∷ xs) = none_any xs

module _ (blocks : List Block) (mask : ℕ) (now s : State) (b : Block) (h : Stands blocks mask now s b) where
  abbrev TellsKeys : Recorded → Type 0
  TellsKeys r =
      (content_in (latest_of s.revisions (id_of r))
      ≡ content_of (earlier blocks now (id_of r) r.revision.metadata.version))
      × LeavesOwn (after s b) r

  tell_keys : AllByRecursion TellsKeys (revisions_in b)
  tell_keys =
      let Continues : Recorded → Type 0 = λ r. continues r (latest_of s.revisions (id_of r)) ≡ true in
      all_like (λ r. Continues r × LeavesOwn (after s b) r) TellsKeys
      (λ r k. (before_is blocks now s (h.more (id_of r)) r (h.revisions (id_of r)) h.numbered k.0, k.1))
      (revisions_in b)
      (all_both Continues (LeavesOwn (after s b)) (revisions_in b) (goes_of mask s b h.follow).continue_all
      (leave_own mask s b h.follow))

  key_is : (table : TableId) (field : List ℕ) (k : Key)
      → list_any (following.changes_key s (after s b) table field k) (revisions_in b)
      ≡ list_any (revision_touches blocks now (item.IndexValue table field k)) (revisions_in b)
  key_is table field k =
      any_same (following.changes_key s (after s b) table field k)
      (revision_touches blocks now (item.IndexValue table field k)) (revisions_in b)
      (all_like TellsKeys
      (λ r. following.changes_key s (after s b) table field k r
      ≡ revision_touches blocks now (item.IndexValue table field k) r)
      (λ r t. ap₂ (λ (x y : Option Value). is_of table r && (has_key_in field k x || has_key_in field k y)) t.0 t.1)
      (revisions_in b) tell_keys)

  by_item : (i : Item) → touched_by_tables s b i ≡ block_touches blocks now b i
  by_item (item.TableName name) =
      names_are now.tables s.tables s.indexes name b.info.schema (goes_of mask s b h.follow).schema h.labelled h.created
      ∙ sym (or-false (list_any (change_touches now.tables (item.TableName name)) b.info.schema))
      ∙ ap (λ x. list_any (change_touches now.tables (item.TableName name)) b.info.schema || x)
      (sym (none_any (revisions_in b)))
  by_item item.TableList =
      sym (or-false (list_any (change_touches now.tables item.TableList) b.info.schema))
      ∙ ap (λ x. list_any (change_touches now.tables item.TableList) b.info.schema || x) (sym (none_any (revisions_in b)))
  by_item (item.Table table) =
      or_comm (list_any (is_of table) (revisions_in b)) (list_any (redacts_in table) b.info.schema)
  by_item (item.Doc table id) =
      or_comm (list_any (is_of_document table id.raw) (revisions_in b))
      (list_any (redacts_document table id.raw) b.info.schema)
  by_item (item.IndexValue table field k) =
      key_is table field k
      ∙ ap (λ x. x || list_any (revision_touches blocks now (item.IndexValue table field k)) (revisions_in b))
      (sym (none_any b.info.schema))

  touched_is : (i : Item) → touched s b i ≡ block_touches blocks now b i
  touched_is i = following_touches mask s b i h.follow ∙ by_item i

find_same : (p q : Item → Bool) (items : List Item) → ((i : Item) → p i ≡ q i) → find p items ≡ find q items
find_same p q [] h = refl
find_same p q (i ∷ items) h = ap (λ b. cond b (Some i) (find p items)) (h i)
    ∙ ap (λ o. cond (q i) (Some i) o) (find_same p q items h)

-- ---- in an undamaged journal

abbrev strand_in : List Block → ℕ
strand_in [] = 0
strand_in (b ∷ bs) = b.header.address.strand.raw

has_strand : (blocks : List Block) → HasStrand (strand_in blocks) blocks
has_strand [] = tt
has_strand (b ∷ bs) = refl

has_strand_too : (blocks : List Block) → journalled.HasStrand (strand_in blocks) blocks
has_strand_too [] = tt
has_strand_too (b ∷ bs) = refl

-- the blocks stand at their addresses
placed : (before bs : List Block) → UndamagedBehind before bs → ArePlaced (length before) bs
placed before [] u = tt
placed before (b ∷ bs) u =
    let strand = strand_of before b in
    let address = (passes_all before b u.1).address in
    let place = b.header.address.sequence == length before in
    let room = nat_le (length before) (2 ^ 32 - 2) in
    let both = (and_parts (place && room) (b.header.address.strand.raw == strand) address).0 in (
      eqb-true b.header.address.sequence (length before) (and_parts place room both).0,
      subst (λ n. ArePlaced n bs) (length-append before (b ∷ [])) (placed (before ++ b ∷ []) bs u.2),
    )

first_is : (blocks : List Block) (at : ℕ) (b : Block) (items : List Item) → Undamaged blocks
    → slice_get blocks at ≡ Some b
    → find (touched (state (take at blocks)) b) items ≡ find (block_touches blocks (state blocks) b) items
first_is blocks at b items u there =
    let mask : ℕ = strand_in blocks in
    let labels = all_labelled (state blocks).tables (tables_differ mask blocks u (has_strand blocks)) in
    let stands = stands_at blocks mask (state blocks) empty blocks 0 at b refl
    (undamaged_follow mask blocks u (has_strand_too blocks)).0 (placed [] blocks u)
    (λ k. ap (slice_get blocks) (omega arith)) (none_numbered blocks)
    labels there in
    find_same (touched (state (take at blocks)) b) (block_touches blocks (state blocks) b) items
    (touched_is blocks mask (state blocks) (state (take at blocks)) b stands)

-- ---- block by block

-- the first conflict of the blocks from a place on
abbrev pub conflict_at : List Block → ℕ → List Item → Option Named
conflict_at blocks at items = conflict_from at (state (take at blocks)) (drop at blocks) items

one_block : (m : ℕ) (s : State) (bs : List Block) (at : ℕ) (b : Block) (items : List Item) → slice_get bs at ≡ Some b
    → conflict_from m (state_from s (take at bs)) (drop at bs) items
    ≡ named_or m (find (touched (state_from s (take at bs)) b) items)
    (conflict_from (m + 1) (state_from s (take (at + 1) bs)) (drop (at + 1) bs) items)
one_block m s [] at b items e = cc
one_block m s (c ∷ bs) zero b items e =
    let same : c ≡ b = cc in
    ap (λ (x : Block). named_or m (find (touched s x) items) (conflict_from (m + 1) (after s c) bs items)) same
one_block m s (c ∷ bs) (suc at) b items e =
    let more : suc at + 1 ≡ suc (at + 1) = omega arith in
    one_block m (after s c) bs at b items e
    ∙ ap (λ n. named_or m (find (touched (state_from (after s c) (take at bs)) b) items)
    (conflict_from (m + 1) (state_from s (take n (c ∷ bs))) (drop n (c ∷ bs)) items)) (sym more)

conflict_step : (blocks : List Block) (at : ℕ) (b : Block) (items : List Item) → Undamaged blocks
    → slice_get blocks at ≡ Some b
    → conflict_at blocks at items
    ≡ named_or at (find (block_touches blocks (state blocks) b) items) (conflict_at blocks (at + 1) items)
conflict_step blocks at b items u there =
    one_block at empty blocks at b items there
    ∙ ap (λ o. named_or at o (conflict_at blocks (at + 1) items)) (first_is blocks at b items u there)

-- the block touches none of the items
pub conflict_next : (blocks : List Block) (at : ℕ) (b : Block) (items : List Item) (now : State) → Undamaged blocks
    → now ≡ state blocks → slice_get blocks at ≡ Some b → find (block_touches blocks now b) items ≡ None
    → conflict_at blocks at items ≡ conflict_at blocks (at + 1) items
conflict_next blocks at b items now u is there none =
    conflict_step blocks at b items u there
    ∙ ap (λ o. named_or at o (conflict_at blocks (at + 1) items))
    (ap (λ (s : State). find (block_touches blocks s b) items) (sym is) ∙ none)

-- it touches this one first
pub conflict_here : (blocks : List Block) (at : ℕ) (b : Block) (items : List Item) (now : State) (i : Item)
    → Undamaged blocks → now ≡ state blocks → slice_get blocks at ≡ Some b
    → find (block_touches blocks now b) items ≡ Some i
    → conflict_at blocks at items ≡ Some (record { block = at; item = i })
conflict_here blocks at b items now i u is there found =
    conflict_step blocks at b items u there
    ∙ ap (λ o. named_or at o (conflict_at blocks (at + 1) items))
    (ap (λ (s : State). find (block_touches blocks s b) items) (sym is) ∙ found)

-- no block is left
pub conflict_end : (blocks : List Block) (at : ℕ) (items : List Item) → length blocks ≤ at
    → conflict_at blocks at items ≡ None
conflict_end blocks at items past =
    ap (λ (bs : List Block). conflict_from at (state (take at blocks)) bs items) (drop_all at blocks past)

-- ---- the revisions of a block, one by one

no_revision : (ts : List TableId) → recorded_in ts [] ≡ []
no_revision [] = refl
no_revision (t ∷ ts) = refl

-- none is left
pub none_left : (p : Recorded → Bool) (ts : List TableId) (rs : List Revision) (at : ℕ) → length rs ≤ at
    → list_any p (recorded_in (drop at ts) (drop at rs)) ≡ false
none_left p ts rs at past =
    ap (λ (xs : List Revision). list_any p (recorded_in (drop at ts) xs)) (drop_all at rs past)
    ∙ ap (list_any p) (no_revision (drop at ts))

-- ---- the items, one by one

at_place : (p : Item → Bool) (xs : List Item) (i : ℕ) (x : Item) → i < length xs → x ≡ get_or xs i x
    → find p (drop i xs) ≡ cond (p x) (Some x) (find p (drop (i + 1) xs))
at_place p xs i x within is =
    ap (find p) (drop_more xs i x within) ∙ ap (λ (y : Item). find p (y ∷ drop (i + 1) xs)) (sym is)

-- the item is the one
pub found_here : (p : Item → Bool) (xs : List Item) (i : ℕ) (x : Item) → i < length xs → x ≡ get_or xs i x
    → p x ≡ true → find p (drop i xs) ≡ Some x
found_here p xs i x within is holds =
    at_place p xs i x within is ∙ ap (λ b. cond b (Some x) (find p (drop (i + 1) xs))) holds

-- it isn't
pub found_later : (p : Item → Bool) (xs : List Item) (i : ℕ) (x : Item) → i < length xs → x ≡ get_or xs i x
    → p x ≡ false → find p (drop i xs) ≡ find p (drop (i + 1) xs)
found_later p xs i x within is fails =
    at_place p xs i x within is ∙ ap (λ b. cond b (Some x) (find p (drop (i + 1) xs))) fails
