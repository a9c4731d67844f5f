-- A value is read as the whole block whose value it is.
use Rattle.std.proofs.Common.{◌≡◌, ◌&&◌, ◌≤◌, Bool, true, false, Option, Some, None, refl, sym, subst, if◌then◌else◌, IsTrue, arith}
use Rattle.std.specs.Prelude.{nat_le}
use Rattle.std.specs.List.{list_all}
use Rattle.std.proofs.lemmas.Bool.{leb-true}
use Rattle.std.proofs.lemmas.Bool.Decides.{nat_tests}
use Rattle.ion_values.specs.Depth.{depth_of}
use Rattle.ion_values.specs.Within.{within}
use Rattle.ion_values.specs.declared.value.Value.{Value}
use Rattle.ledger_model.specs.declared.block.Block.{Block}
use Rattle.ledger_model.specs.Journal.{block_value}
use Rattle.ledger_model.specs.Whole.{is_shallow, IsWhole}
use Rattle.block_form.specs.ReadBack.{block_in, shallow, whole_in, IsReadAs, ValuesTellBlocks}
use Rattle.value_codec.proofs.Inverse.{took, left, right}
use Rattle.block_form.proofs.OfBlocks.{IsRead, block-gets, block-puts}

read_of_whole : (b : Block) → IsWhole b → IsRead b
read_of_whole b w = record { count = w.count; tables = w.tables; fits = w.fits }

-- the value of a whole block is read as the block
pub whole-puts : (b : Block) → IsWhole b → whole_in (block_value b) ≡ Some b
whole-puts b w =
    let r = block-puts b (read_of_whole b w) in
    let deep : nat_le (depth_of (block_value b)) 256 ≡ true = let h = w.depth in grind (arith, nat_tests, h) in
    let documents = w.documents in
    rw (r, deep, documents) refl

whole-gets : (v : Value) (b : Block) → whole_in v ≡ Some b → (v ≡ block_value b) × (IsTrue (within v) → IsWhole b)
whole-gets v b e =
    let t = took (block_in v) (shallow v) b e in
    let g = block-gets v t.0 t.1 in
    go t.0 g (nat_le (depth_of v) 256 && list_all (λ r. is_shallow r.content) t.0.revisions) refl t.2 where
      go : (c : Block) → (v ≡ block_value c) × IsRead c → (test : Bool) → (nat_le (depth_of v) 256 && list_all (λ r. is_shallow r.content) c.revisions) ≡ test
          → (if test then Some c else None) ≡ Some b → (v ≡ block_value b) × (IsTrue (within v) → IsWhole b)
      go c g true t e =
          let same : c ≡ b = cc in
          let deep : depth_of v ≤ 256 = leb-true (depth_of v) 256 (left _ _ t) in
          subst (λ x. (v ≡ block_value x) × (IsTrue (within v) → IsWhole x)) same (
            g.0,
            λ ranges. record {
              count = g.1.count;
              tables = g.1.tables;
              documents = right (nat_le (depth_of v) 256) _ t;
              depth = subst (λ x. depth_of x ≤ 256) g.0 deep;
              fits = g.1.fits;
              ranges = subst (λ x. within x ≡ true) g.0 ranges;
            },
          )
      go c g false t e = cc

pub whole_in-is : (v : Value) → IsReadAs v (whole_in v)
whole_in-is v = go (whole_in v) refl where
  go : (o : Option Block) → whole_in v ≡ o → IsReadAs v o
  go (Some b) e = whole-gets v b e
  go None e = λ b w is. let h : whole_in v ≡ Some b = subst (λ x. whole_in x ≡ Some b) (sym is) (whole-puts b w) in cc

pub values-tell : ValuesTellBlocks
values-tell a b wa wb same =
    let ea = whole-puts a wa in
    let eb = whole-puts b wb in
    let h : whole_in (block_value a) ≡ Some b = subst (λ x. whole_in x ≡ Some b) (sym same) eb in
    cc
