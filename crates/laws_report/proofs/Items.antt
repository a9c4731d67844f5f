-- The text of an item tells it.
use Rattle.std.proofs.Common.{◌≡◌, ◌*◌, ◌+◌, ℕ, List, [], ◌∷◌, ◌++◌, slice_index, codes, refl, ap}
use Rattle.ion_values.specs.declared.value.Key.{Key}
use Rattle.ion_model.specs.Write.{string_text}
use Rattle.ion_text.specs.RoundTrip.{MayFollow}
use Rattle.ledger_model.specs.declared.outcome.Item.{Item}
use Rattle.ledger_model.specs.declared.outcome.Item.TheVariants as item
use Rattle.ledger_model.specs.ItemText.{item_text, key_text, quoted_id}
use Rattle.laws_report.specs.Writable.{IsItem, IsKey, IsNumber, IsText}
use Rattle.laws_report.proofs.Runs.{apart, behind, id_tells, parted, right}
use Rattle.laws_report.proofs.Tokens.{text_tells}
use Rattle.laws_report.proofs.Keys.{key_tells}

docs_tell : (t d v f : ℕ) (r s : List ℕ) → IsNumber t → IsNumber d → IsNumber v → IsNumber f
    → (quoted_id t ++ codes ",id:" ++ quoted_id d) ++ r ≡ (quoted_id v ++ codes ",id:" ++ quoted_id f) ++ s → (t ≡ v) × (d ≡ f) × (r ≡ s)
docs_tell t d v f r s ht hd hv hf e =
    let xs : List (List ℕ) = codes ",id:" ∷ quoted_id d ∷ [] in
    let us : List (List ℕ) = codes ",id:" ∷ quoted_id f ∷ [] in
    let first = id_tells t v (right xs r) (right us s) ht hv (parted (quoted_id t) (quoted_id v) xs us r s e) in
    let second = id_tells d f r s hd hf (ap (behind (codes ",id:")) first.1) in
    (first.0, second.0, second.1)

values_tell : (t v : ℕ) (f g : List ℕ) (a b : Key) (r s : List ℕ) → IsNumber t × IsText f × IsKey a → IsNumber v × IsText g × IsKey b
    → MayFollow r → MayFollow s
    → (quoted_id t ++ codes ",field:" ++ string_text f ++ codes ",value:" ++ key_text a) ++ r
    ≡ (quoted_id v ++ codes ",field:" ++ string_text g ++ codes ",value:" ++ key_text b) ++ s → (t ≡ v) × (f ≡ g) × (a ≡ b) × (r ≡ s)
values_tell t v f g a b r s h k p q e =
    let xs : List (List ℕ) = codes ",value:" ∷ key_text a ∷ [] in
    let us : List (List ℕ) = codes ",value:" ∷ key_text b ∷ [] in
    let ys : List (List ℕ) = codes ",field:" ∷ string_text f ∷ xs in
    let ws : List (List ℕ) = codes ",field:" ∷ string_text g ∷ us in
    let first = id_tells t v (right ys r) (right ws s) h.0 k.0 (parted (quoted_id t) (quoted_id v) ys ws r s e) in
    let second = text_tells f g (right xs r) (right us s) h.1 k.1 (ap (behind (codes ",field:")) first.1) in
    let third = key_tells a b r s h.2 k.2 p q (ap (behind (codes ",value:")) second.1) in
    (first.0, second.0, third.0, third.1)

-- two bytes that differ from kind to kind
abbrev mark : List ℕ → ℕ
mark text = slice_index text 5 * 256 + slice_index text 11

pub item_tells : (a b : Item) (r s : List ℕ) → IsItem a → IsItem b → MayFollow r → MayFollow s → item_text a ++ r ≡ item_text b ++ s → (a ≡ b) × (r ≡ s)
item_tells (item.TableName x) (item.TableName z) r s h k p q e =
    let both = text_tells x z r s h k (ap (behind (codes "kind:table_name,name:")) e) in (ap item.TableName both.0, both.1)
item_tells item.TableList item.TableList r s h k p q e = (refl, ap (behind (codes "kind:table_list")) e)
item_tells (item.Table t) (item.Table v) r s h k p q e =
    let both = id_tells t.raw v.raw r s h k (ap (behind (codes "kind:table,table:")) e) in (λ i. item.Table (record { raw = both.0 i }), both.1)
item_tells (item.Doc t d) (item.Doc v f) r s h k p q e =
    let all = docs_tell t.raw d.raw v.raw f.raw r s h.0 h.1 k.0 k.1 (ap (behind (codes "kind:doc,table:")) e) in
    (λ i. item.Doc (record { raw = all.0 i }) (record { raw = all.1 i }), all.2)
item_tells (item.IndexValue t f a) (item.IndexValue v g b) r s h k p q e =
    let all = values_tell t.raw v.raw f g a b r s h k p q (ap (behind (codes "kind:index_value,table:")) e) in
    (λ i. item.IndexValue (record { raw = all.0 i }) (all.1 i) (all.2 i), all.3)
item_tells a b r s h k p q e = absurd (apart (ap mark e) refl)
