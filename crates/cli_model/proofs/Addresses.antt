-- In an undamaged journal each revision has its block's address.
use Rattle.std.proofs.Common.{◌≡◌, ℕ, zero, suc, true, List, [], ◌∷◌, ◌++◌, length, Some, None, sym, subst, ap₂, arith}
use Rattle.std.specs.Prelude.{slice_get}
use Rattle.std.specs.List.{list_all}
use Rattle.std.proofs.lemmas.Bool.{and_parts, eqb-true}
use Rattle.ql_types.specs.declared.BlockAddress.{BlockAddress}
use Rattle.ql_types.specs.declared.TableId.{TableId}
use Rattle.ledger_model.specs.declared.block.Revision.{Revision}
use Rattle.ledger_model.specs.declared.block.Block.{Block}
use Rattle.ledger_model.specs.State.{State, state, recorded_in}
use Rattle.ledger_model.specs.Whole.{IsWhole}
use Rattle.ledger_model.specs.Follows.{is_of, revision_follows, same_address}
use Rattle.ledger_model.specs.Damages.{UndamagedBehind, Undamaged, damage_behind}
use Rattle.laws_validity.proofs.Journals.{passes_all}

same_address-is : (a b : BlockAddress) → same_address a b ≡ true → a ≡ b
same_address-is a b e =
    let both = and_parts _ _ e in
    ap₂
    (λ (s : ℕ) (n : ℕ). let address : BlockAddress = record { strand = record { raw = s }; sequence = n } in address)
    (eqb-true _ _ both.0) (eqb-true _ _ both.1)

-- what is so of each recorded revision is so of the one at a place
each_of : (s : State) (b : Block) (ts : List TableId) (rs : List Revision) → length ts ≡ length rs
    → list_all (revision_follows s b) (recorded_in ts rs) ≡ true → (k : ℕ) (r : Revision) → slice_get rs k ≡ Some r
    → is_of b.header r ≡ true
each_of s b [] [] same all k r e = cc
each_of s b [] (x ∷ rs) same all k r e = absurd (omega (arith, same))
each_of s b (t ∷ ts) [] same all k r e = absurd (omega (arith, same))
each_of s b (t ∷ ts) (x ∷ rs) same all zero r e =
    let is : x ≡ r = cc in
    let first = and_parts _ _ all in
    let here = and_parts _ _ (and_parts _ _ first.0).0 in
    subst (λ (y : Revision). is_of b.header y ≡ true) is here.0
each_of s b (t ∷ ts) (x ∷ rs) same all (suc k) r e =
    each_of s b ts rs (omega (arith, same)) (and_parts _ _ all).1 k r e

in_block : (front : List Block) (b : Block) → IsWhole b → damage_behind front b ≡ None → (k : ℕ) (r : Revision)
    → slice_get b.revisions k ≡ Some r → r.address ≡ b.header.address
in_block front b whole sound k r e =
    let all = and_parts _ _ (and_parts _ _ (passes_all front b sound).follows_is).0 in
    let is = each_of (state front) b b.info.tables b.revisions whole.tables all.1 k r e in
    same_address-is r.address b.header.address (and_parts _ _ (and_parts _ _ is).0).0

behind : (front bs : List Block) → UndamagedBehind front bs → (n : ℕ) (b : Block) → slice_get bs n ≡ Some b
    → (k : ℕ) (r : Revision)
    → slice_get b.revisions k ≡ Some r → r.address ≡ b.header.address
behind front [] u n b is k r e = cc
behind front (c ∷ cs) u zero b is k r e =
    let same : c ≡ b = cc in
    let there : slice_get c.revisions k ≡ Some r =
    subst (λ (x : Block). slice_get x.revisions k ≡ Some r) (sym same) e in
    subst (λ (x : Block). r.address ≡ x.header.address) same (in_block front c u.0 u.1 k r there)
behind front (c ∷ cs) u (suc n) b is k r e = behind (front ++ c ∷ []) cs u.2 n b is k r e

pub addresses : (blocks : List Block) → Undamaged blocks → (n : ℕ) (b : Block) → slice_get blocks n ≡ Some b
    → (k : ℕ) (r : Revision)
    → slice_get b.revisions k ≡ Some r → r.address ≡ b.header.address
addresses blocks u n b is k r e = behind [] blocks u n b is k r e
