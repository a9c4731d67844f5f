-- The parts of revisions of one hash.
use Rattle.std.proofs.Common.{◌≡◌, ◌∙◌, inl, inr, [], ◌∷◌, Option, Some, None, refl, sym, ap, subst}
use Rattle.std.specs.Prelude.{reverse}
use Rattle.ion_values.specs.declared.value.Value.{Value}
use Rattle.ql_types.specs.declared.Hash32.{Hash32}
use Rattle.hash_model.specs.PairHash.{dot32}
use Rattle.hash_model.specs.Serialize.{hash_of}
use Rattle.ledger_model.specs.declared.block.Content.{Content}
use Rattle.ledger_model.specs.declared.block.Content.TheVariants.{Deleted, Kept, Redacted}
use Rattle.ledger_model.specs.declared.block.Metadata.{Metadata}
use Rattle.ledger_model.specs.Journal.{metadata_value}
use Rattle.ledger_model.specs.Seals.{revision_hash}
use Rattle.tree_descent.specs.Pairs.{IsOnePair}
use Rattle.proof_extract.specs.Extracts.{AreAlike, SameHashes, data_hash, with_metadata}

-- the hash of a revision, by those of its parts
hash_with : Hash32 → Option Hash32 → Hash32
hash_with m None = m
hash_with m (Some kept) = dot32 m kept

by_parts : (c : Content) (m : Metadata) → revision_hash c m ≡ hash_with (hash_of (metadata_value m)) (data_hash c)
unfolding hash_with
by_parts Deleted m = refl
by_parts (Kept v) m = refl
by_parts (Redacted hash) m = refl

-- of a delete
pub deleted_is : (c : Content) (m : Metadata) → data_hash c ≡ None → revision_hash c m ≡ hash_of (metadata_value m)
unfolding hash_with
deleted_is c m e = by_parts c m ∙ ap (hash_with (hash_of (metadata_value m))) e

-- of any other
pub kept_is : (c : Content) (m : Metadata) (kept : Hash32) → data_hash c ≡ Some kept → revision_hash c m ≡ dot32 (hash_of (metadata_value m)) kept
unfolding hash_with
kept_is c m kept e = by_parts c m ∙ ap (hash_with (hash_of (metadata_value m))) e

-- two pairs that are one
pub both_kept : (a b : Content) (m n : Metadata) (x y : Hash32) → data_hash a ≡ Some x → data_hash b ≡ Some y
    → IsOnePair (hash_of (metadata_value m)) x (hash_of (metadata_value n)) y → SameHashes a m b n
both_kept a b m n x y ea eb (inl e) =
    inl (ap (with_metadata (hash_of (metadata_value m))) ea ∙ (λ i. e.0 i ∷ e.1 i ∷ []) ∙ sym (ap (with_metadata (hash_of (metadata_value n))) eb))
both_kept a b m n x y ea eb (inr e) =
    inr (ap (with_metadata (hash_of (metadata_value m))) ea ∙ (λ i. e.0 i ∷ e.1 i ∷ [])
    ∙ sym (ap (λ (o : Option Hash32). reverse (with_metadata (hash_of (metadata_value n)) o)) eb))

-- values that are alike, under other names
pub alike_for : (v w x y : Value) → v ≡ x → w ≡ y → AreAlike v w → AreAlike x y
alike_for v w x y is are alike = subst (AreAlike x) are (subst (λ (z : Value). AreAlike z w) is alike)
