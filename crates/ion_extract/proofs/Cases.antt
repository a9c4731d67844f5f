-- The three cases of a comparison.
use Rattle.std.proofs.Common.{◌≡◌, ◌≢◌, ◌∙◌, ℕ, true, false, List, refl, sym, ap, true≢false}
use Rattle.sha2.specs.Sha256.{sha256}
use Rattle.ion_values.specs.declared.value.Value.{Value}
use Rattle.ion_values.specs.Equivalent.{is_equivalent}
use Rattle.hash_model.specs.Serialize.{hash_of, serialize}
use Rattle.ion_extract.specs.declared.compare.Compared.TheVariants.{Same, Collision, Differ}
use Rattle.ion_extract.specs.Compared.{IsCollision, IsCompared}
use Rattle.ion_extract.proofs.Structs.{equivalent_serialize_alike}

same_or_not : Same ≡ Differ → ⊥
same_or_not e = cc

different : (a b : List ℕ) → Collision a b ≡ Differ → ⊥
different a b e = cc

collided : (a b : List ℕ) → Collision a b ≡ Same → ⊥
collided a b e = cc

hashes_one : (v w : Value) → is_equivalent v w ≡ true → hash_of v ≡ hash_of w
unfolding hash_of
hashes_one v w e = λ i. record { bytes = sha256 (equivalent_serialize_alike v w e i) }

hashes_apart : (v w : Value) → sha256 (serialize v) ≢ sha256 (serialize w) → hash_of v ≢ hash_of w
unfolding hash_of
hashes_apart v w apart e = apart (ap (λ h. h.bytes) e)

hashes_same : (v w : Value) → sha256 (serialize v) ≡ sha256 (serialize w) → hash_of v ≡ hash_of w
unfolding hash_of
hashes_same v w e = λ i. record { bytes = e i }

pub differ : (v w : Value) → sha256 (serialize v) ≢ sha256 (serialize w) → IsCompared v w Differ
differ v w h =
    let apart = hashes_apart v w h in
    record {
      differ = ((λ e. apart), (λ e. refl));
      same = ((λ e. absurd (same_or_not (sym e))), (λ e. absurd (apart (hashes_one v w e))));
      collision = tt;
    }

pub same : (v w : Value) → is_equivalent v w ≡ true → IsCompared v w Same
same v w h =
    record {
      differ = ((λ e. absurd (same_or_not e)), (λ apart. absurd (apart (hashes_one v w h))));
      same = ((λ e. h), (λ e. refl));
      collision = tt;
    }

pub collision : (v w : Value) (a b : List ℕ) → sha256 (serialize v) ≡ sha256 (serialize w) → is_equivalent v w ≡ false → IsCollision a b
    → IsCompared v w (Collision a b)
collision v w a b h apart both =
    record {
      differ = ((λ e. absurd (different a b e)), (λ n. absurd (n (hashes_same v w h))));
      same = ((λ e. absurd (collided a b e)), (λ e. absurd (true≢false (sym e ∙ apart))));
      collision = both;
    }
