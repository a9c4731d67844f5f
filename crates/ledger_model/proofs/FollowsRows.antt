-- Rows on what a block may do behind others.
use Rattle.std.proofs.Common.{◌≡◌, ℕ, true, false, [], ◌∷◌, codes, refl}
use Rattle.ql_types.specs.declared.TableId.{TableId}
use Rattle.ledger_model.specs.declared.block.Schema.TheVariants.{Create, Index, Drop}
use Rattle.ledger_model.specs.Follows.{schema_follows, ids_follow, created_ids}

abbrev table : ℕ → TableId
table raw = record { raw = raw }

-- a name is free again once its table is dropped
again :
    schema_follows [] [] (Create (codes "t") (table 1) ∷ Index (codes "a") (table 1) ∷ Drop (codes "t") (table 1)
    ∷ Create (codes "t") (table 2) ∷ [])
    ≡ true
again = refl

twice : schema_follows [] [] (Create (codes "t") (table 1) ∷ Create (codes "t") (table 2) ∷ []) ≡ false
twice = refl

second_index :
    schema_follows [] [] (Create (codes "t") (table 1) ∷ Index (codes "a") (table 1) ∷ Index (codes "a") (table 1) ∷ [])
    ≡ false
second_index = refl

of_no_table : schema_follows [] [] (Index (codes "a") (table 1) ∷ []) ≡ false
of_no_table = refl

other_id : schema_follows [] [] (Create (codes "t") (table 1) ∷ Drop (codes "t") (table 2) ∷ []) ≡ false
other_id = refl

created :
    created_ids (Create (codes "t") (table 5) ∷ Index (codes "a") (table 5) ∷ Create (codes "u") (table 6) ∷ [])
    ≡ 5 ∷ 6 ∷ []
created = refl

-- the transaction 1 of the mask 0 has the number 2^24, and what it makes the numbers behind it
own : ids_follow 0 (16777217 ∷ 16777219 ∷ 16777218 ∷ []) 16777216 ≡ true
own = refl

of_the_transaction : ids_follow 0 (16777216 ∷ []) 16777216 ≡ false
of_the_transaction = refl

of_another : ids_follow 0 (33554433 ∷ []) 16777216 ≡ false
of_another = refl

equal_ids : ids_follow 0 (16777217 ∷ 16777218 ∷ 16777217 ∷ []) 16777216 ≡ false
equal_ids = refl
