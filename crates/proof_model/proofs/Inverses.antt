-- Readings of digests and proofs are inverse to their writings.
use Rattle.std.proofs.Common.{◌≡◌, ◌∙◌, ℕ, ◌^◌, true, List, [], ◌∷◌, map, Some, refl, ap, subst, codes}
use Rattle.std.specs.List.{list_all}
use Rattle.std.specs.Cmp.Derive.{both_true}
use Rattle.ion_values.specs.declared.value.Value.{Value}
use Rattle.ion_values.specs.declared.value.Field.{Field}
use Rattle.ql_types.specs.declared.Hash32.{Hash32}
use Rattle.ledger_model.specs.declared.block.Header.{Header}
use Rattle.ledger_model.specs.Values.{fields_in, list_in}
use Rattle.ledger_model.specs.Journal.{structure, list, number, moment, id_value, hash_value, address_value, header_value}
use Rattle.ledger_model.specs.Script.{each}
use Rattle.ledger_model.specs.Whole.{id_fits, hash_fits, address_fits, header_fits}
use Rattle.value_codec.specs.ReadParts.{number_in, moment_in, id_in, hash_in, address_in}
use Rattle.value_codec.proofs.Inverse.{Gets, Puts, took, fields-gets, left, right, cons}
use Rattle.value_codec.proofs.SmallParts.{list-gets, list-puts, fields-puts, below, number-gets, number-puts, id-gets, id-puts, hash-gets, hash-puts, moment-gets, moment-puts}
use Rattle.value_codec.proofs.Fields.{taken, always, each-gets, each-puts, address-gets, address-puts}
use Rattle.proof_model.specs.declared.Digest.{Digest}
use Rattle.proof_model.specs.declared.Proof.{Proof}
use Rattle.proof_model.specs.ProofValues.{digest_value, proof_value, digest_fits, proof_fits}
use Rattle.proof_model.specs.ReadProofs.{digest_of, digest_in, header_of, header_in, hashes_in, place_of, proof_of, proof_in}

-- ---- digests

digest_of-is : (fs : List Field) (d : Digest) → digest_of fs ≡ Some d → (structure fs ≡ digest_value d) × (digest_fits d ≡ true)
digest_of-is (f ∷ g ∷ []) d e =
    let a = taken hash_in hash_value hash_fits hash-gets (codes "digest") f _ d e in
    let b = taken address_in address_value address_fits address-gets (codes "digestTipAddress") g _ d a.3 in
    let made : Digest = record { digest = a.0; tip = b.0 } in
    let same : made ≡ d = cc in
    subst (λ x. (structure (f ∷ g ∷ []) ≡ digest_value x) × (digest_fits x ≡ true)) same
    (ap structure (cons a.1 (cons b.1 refl)), both_true a.2 b.2)
digest_of-is [] d e = cc
digest_of-is (f ∷ []) d e = cc
digest_of-is (f ∷ g ∷ h ∷ fs) d e = cc

pub digest-gets : Gets digest_in digest_value digest_fits
digest-gets v d e =
    let t = took (fields_in v) digest_of d e in
    let s = digest_of-is t.0 d t.2 in
    (fields-gets v t.0 t.1 ∙ s.0, s.1)

pub digest-puts : Puts digest_in digest_value digest_fits
digest-puts d fits =
    let a = hash-puts d.digest (left _ _ fits) in
    let b = address-puts d.tip (right _ _ fits) in
    rw (fields-puts _, a, b) refl

-- ---- headers

header_of-is : (fs : List Field) (x : Header) → header_of fs ≡ Some x → (structure fs ≡ header_value x) × (header_fits x ≡ true)
header_of-is (f ∷ g ∷ h ∷ i ∷ []) x e =
    let n = taken (number_in (2 ^ 32)) number (below (2 ^ 32)) (number-gets (2 ^ 32)) (codes "revisionCount") i _ x e in
    let a = taken address_in address_value address_fits address-gets (codes "blockAddress") f _ x n.3 in
    let b = taken id_in id_value id_fits id-gets (codes "transactionId") g _ x a.3 in
    let c = taken moment_in moment always (λ v t is. (moment-gets v t is, refl)) (codes "blockTimestamp") h _ x b.3 in
    let made : Header = record { address = a.0; tx = record { raw = b.0 }; time = c.0; revisions = n.0 } in
    let same : made ≡ x = cc in
    subst (λ y. (structure (f ∷ g ∷ h ∷ i ∷ []) ≡ header_value y) × (header_fits y ≡ true)) same
    (ap structure (cons a.1 (cons b.1 (cons c.1 (cons n.1 refl)))), both_true (both_true a.2 b.2) n.2)
header_of-is [] x e = cc
header_of-is (f ∷ []) x e = cc
header_of-is (f ∷ g ∷ []) x e = cc
header_of-is (f ∷ g ∷ h ∷ []) x e = cc
header_of-is (f ∷ g ∷ h ∷ i ∷ j ∷ fs) x e = cc

header-gets : Gets header_in header_value header_fits
header-gets v x e =
    let t = took (fields_in v) header_of x e in
    let s = header_of-is t.0 x t.2 in
    (fields-gets v t.0 t.1 ∙ s.0, s.1)

header-puts : Puts header_in header_value header_fits
header-puts x fits =
    let a = address-puts x.address (left _ _ (left _ _ fits)) in
    let b = id-puts x.tx.raw (right _ _ (left _ _ fits)) in
    let n = number-puts (2 ^ 32) x.revisions (right _ _ fits) in
    rw (fields-puts _, n, a, b, moment-puts x.time) refl

-- ---- proofs

path_value : List Hash32 → Value
path_value path = list (map hash_value path)

hashes-gets : Gets hashes_in path_value (list_all hash_fits)
unfolding path_value
hashes-gets v path e =
    let t = took (list_in v) (each hash_in) path e in
    let s = each-gets hash_in hash_value hash_fits hash-gets t.0 path t.2 in
    (list-gets v t.0 t.1 ∙ ap list s.0, s.1)

hashes-puts : Puts hashes_in path_value (list_all hash_fits)
unfolding path_value
hashes-puts path fits =
    let s = each-puts hash_in hash_value hash_fits hash-puts path fits in
    rw (list-puts _, s) refl

proof_of-is : (fs : List Field) (p : Proof) → proof_of fs ≡ Some p → (structure fs ≡ proof_value p) × (proof_fits p ≡ true)
unfolding path_value
proof_of-is (f ∷ g ∷ h ∷ []) p e =
    let t = took (place_of f g) _ p e in
    let a = taken header_in header_value header_fits header-gets (codes "header") f _ t.0 t.1 in
    let b = taken (number_in (2 ^ 32)) number (below (2 ^ 32)) (number-gets (2 ^ 32)) (codes "index") g _ t.0 a.3 in
    let c = taken hashes_in path_value (list_all hash_fits) hashes-gets (codes "path") h _ p t.2 in
    let place : (a.0, b.0) ≡ t.0 = cc in
    let made : Proof = record { header = t.0.0; index = t.0.1; path = c.0 } in
    let same : made ≡ p = cc in
    subst (λ x. (structure (f ∷ g ∷ h ∷ []) ≡ proof_value x) × (proof_fits x ≡ true)) same
    (subst (λ (x : Header × ℕ). (structure (f ∷ g ∷ h ∷ []) ≡ proof_value (record { header = x.0; index = x.1; path = c.0 }))
    × (proof_fits (record { header = x.0; index = x.1; path = c.0 }) ≡ true)) place
    (ap structure (cons a.1 (cons b.1 (cons c.1 refl))), both_true (both_true a.2 b.2) c.2))
proof_of-is [] p e = cc
proof_of-is (f ∷ []) p e = cc
proof_of-is (f ∷ g ∷ []) p e = cc
proof_of-is (f ∷ g ∷ h ∷ i ∷ fs) p e = cc

pub proof-gets : Gets proof_in proof_value proof_fits
proof-gets v p e =
    let t = took (fields_in v) proof_of p e in
    let s = proof_of-is t.0 p t.2 in
    (fields-gets v t.0 t.1 ∙ s.0, s.1)

pub proof-puts : Puts proof_in proof_value proof_fits
unfolding path_value
proof-puts p fits =
    let a = header-puts p.header (left _ _ (left _ _ fits)) in
    let b = number-puts (2 ^ 32) p.index (right _ _ (left _ _ fits)) in
    let c = hashes-puts p.path (right _ _ fits) in
    rw (fields-puts _, a, b, c) refl
