-- What the blocks before tell of a block: the same where only their statements and revisions differ.
use Rattle.std.proofs.Common.{◌≡◌, ◌∙◌, ℕ, Bool, true, ◌||◌, List, [], ◌∷◌, map, length, refl, sym, ap}
use Rattle.std.specs.List.{list_any}
use Rattle.std.specs.Option.{option_map_or}
use Rattle.std.proofs.lemmas.List.{length-map}
use Rattle.ledger_model.specs.declared.block.Block.{Block}
use Rattle.ledger_model.specs.declared.block.Told.TheVariants as told
use Rattle.ledger_model.specs.Damages.{last_block, strand_of}
use Rattle.ledger_model.specs.Follows.{is_redacted_in}
use Rattle.ledger_model.specs.Legal.{last_hash}
use Rattle.ledger_model.specs.State.{Recorded, is_redacted_by}

-- the block without statements and revisions
abbrev pub marked : Block → Block
marked b = record b { info = record b.info { said = told.Said [] }; revisions = [] }

any_marked : (p : Block → Bool) → ((b : Block) → p (marked b) ≡ p b) → (bs : List Block)
    → list_any p (map marked bs) ≡ list_any p bs
any_marked p same [] = refl
any_marked p same (b ∷ bs) =
    ap (λ (x : Bool). x || list_any p (map marked bs)) (same b) ∙ ap (λ (x : Bool). p b || x) (any_marked p same bs)

last_marked : (p : Block → Bool) → ((b : Block) → p (marked b) ≡ p b) → (bs : List Block)
    → option_map_or p (last_block (map marked bs)) true ≡ option_map_or p (last_block bs) true
last_marked p same [] = refl
last_marked p same (b ∷ []) = same b
last_marked p same (b ∷ c ∷ bs) = last_marked p same (c ∷ bs)

hash_marked : (m : ℕ) (bs : List Block) → last_hash m (map marked bs) ≡ last_hash m bs
hash_marked m [] = refl
hash_marked m (b ∷ []) = refl
hash_marked m (b ∷ c ∷ bs) = hash_marked m (c ∷ bs)

strand_marked : (bs : List Block) (b c : Block) → c.header.address.strand.raw ≡ b.header.address.strand.raw
    → strand_of (map marked bs) c ≡ strand_of bs b
strand_marked [] b c e = e
strand_marked (x ∷ xs) b c e = refl

module _ (before shown : List Block) (same : map marked shown ≡ map marked before) where
  pub same_length : length shown ≡ length before
  same_length = sym (length-map shown marked) ∙ ap (λ (bs : List Block). length bs) same ∙ length-map before marked

  pub same_any : (p : Block → Bool) → ((b : Block) → p (marked b) ≡ p b) → list_any p shown ≡ list_any p before
  same_any p h = sym (any_marked p h shown) ∙ ap (λ (bs : List Block). list_any p bs) same ∙ any_marked p h before

  pub same_last : (p : Block → Bool) → ((b : Block) → p (marked b) ≡ p b)
      → option_map_or p (last_block shown) true ≡ option_map_or p (last_block before) true
  same_last p h =
      sym (last_marked p h shown) ∙ ap (λ (bs : List Block). option_map_or p (last_block bs) true) same
      ∙ last_marked p h before

  pub same_hash_before : (m : ℕ) → last_hash m shown ≡ last_hash m before
  same_hash_before m = sym (hash_marked m shown) ∙ ap (λ (bs : List Block). last_hash m bs) same ∙ hash_marked m before

  pub same_strand : (b c : Block) → c.header.address.strand.raw ≡ b.header.address.strand.raw
      → strand_of shown c ≡ strand_of before b
  same_strand b c e =
      sym (strand_marked shown c c refl) ∙ ap (λ (bs : List Block). strand_of bs c) same ∙ strand_marked before b c e

  pub same_redacted : (r : Recorded) → is_redacted_in shown r ≡ is_redacted_in before r
  same_redacted r = same_any (λ (b : Block). is_redacted_by b.info.schema r) (λ b. refl)
