-- Texts that are read from front to back.
use Rattle.std.proofs.Common.{◌≡◌, ℕ, zero, suc, ◌+◌, ◌<◌, add-one, inl, inr, true, false, List, [], ◌∷◌, ◌++◌, Bool, Option, Some, None, option_map, take, drop, length, append_assoc, append-nil, refl, ap, sym, ◌∙◌, arith}
use Rattle.std.specs.List.{prefix_len}
use Rattle.std.proofs.lemmas.Bool.{cases_Bool}
use Rattle.std.proofs.Math.Seq.{drop-cons}
use Rattle.ion_model.specs.Escapes.{Piece, piece}
use Rattle.ion_model.specs.Texts.{before, pieces, with_piece}

one_further : (at : ℕ) (o : Option ℕ) → option_map (λ len. at + len) (option_map suc o) ≡ option_map (λ len. suc at + len) o
one_further at None = refl
one_further at (Some n) = ap Some (omega arith)

-- a byte behind a backslash is passed over
pub hidden_passed :
    (quotes bytes : List ℕ) (at : ℕ) → at < length bytes →
    option_map (λ len. at + 1 + len) (before quotes false (drop (at + 1) bytes)) ≡ option_map (λ len. at + len) (before quotes true (drop at bytes))
hidden_passed quotes bytes at h = rw (drop-cons bytes at 0 h) (rw add-one (sym (one_further at _)))

-- a piece that was read is passed over
pub passed : (front : ℕ → List ℕ → Option Piece) (n : ℕ) (z : List ℕ) → pieces front n z ≡ pieces front 0 (drop n z)
passed front zero z = refl
passed front (suc n) [] = refl
passed front (suc n) (b ∷ z) = passed front n z

one_more : (b : ℕ) (text : List ℕ) (o : Option (List ℕ)) → option_map (λ more. b ∷ [] ++ more) (option_map (λ more. text ++ more) o) ≡ option_map (λ more. b ∷ text ++ more) o
one_more b text None = refl
one_more b text (Some more) = refl

none_read : (o : Option (List ℕ)) → o ≡ option_map (λ more. [] ++ more) o
none_read None = refl
none_read (Some more) = refl

-- the bytes in front that give themselves
pub run_read :
    (front : ℕ → List ℕ → Option Piece) (plain : ℕ → Bool) → ((b : ℕ) (z : List ℕ) → plain b ≡ true → front b z ≡ Some (piece 0 (b ∷ []))) →
    (z : List ℕ) → pieces front 0 z ≡ option_map (λ more. take (prefix_len plain z) z ++ more) (pieces front 0 (drop (prefix_len plain z) z))
run_read front plain each [] = refl
run_read front plain each (b ∷ z) =
    let n = prefix_len plain z in
    elim (cases_Bool (plain b)) [
      | inl does ↦
          let len : prefix_len plain (b ∷ z) ≡ suc n = rw does (omega arith) in
          rw (len, each b z does) (ap (option_map (λ more. b ∷ [] ++ more)) (run_read front plain each z) ∙ one_more b (take n z) (pieces front 0 (drop n z)))
      | inr not ↦ rw not (none_read (pieces front 0 (b ∷ z)))
    ]

-- What was read so far, `out`, stands before what the text z gives, which is `whole` together.
abbrev pub Reads : (ℕ → List ℕ → Option Piece) → List ℕ → List ℕ → Option (List ℕ) → Type 0
Reads front out z whole = option_map (λ more. out ++ more) (pieces front 0 z) ≡ whole

joined_twice : (out text : List ℕ) (o : Option (List ℕ)) → option_map (λ more. (out ++ text) ++ more) o ≡ option_map (λ more. out ++ more) (option_map (λ more. text ++ more) o)
joined_twice out text None = refl
joined_twice out text (Some more) = ap Some (append_assoc out text more)

-- the bytes in front that give themselves are put behind what was read
pub run_done :
    (front : ℕ → List ℕ → Option Piece) (plain : ℕ → Bool) → ((b : ℕ) (z : List ℕ) → plain b ≡ true → front b z ≡ Some (piece 0 (b ∷ []))) →
    (out z run others new : List ℕ) (n : ℕ) (whole : Option (List ℕ)) → Reads front out z whole → n ≡ prefix_len plain z →
    run ≡ take n z → others ≡ drop n z → new ≡ out ++ run → Reads front new others whole
run_done front plain each out z run others new n whole reads e run_is others_is new_is =
    rw (new_is, run_is, others_is, e)
    (joined_twice out (take (prefix_len plain z) z) _ ∙ ap (option_map (λ more. out ++ more)) (sym (run_read front plain each z)) ∙ reads)

-- at the end all was read
pub all_read : (front : ℕ → List ℕ → Option Piece) (out z : List ℕ) (whole : Option (List ℕ)) → Reads front out z whole → length z ≡ 0 → Some out ≡ whole
all_read front out [] whole reads e = ap Some (sym (append-nil out)) ∙ reads
all_read front out (b ∷ z) whole reads e = absurd (omega arith)

-- where no piece stands in front the whole is ill-formed
pub none_in_front :
    (front : ℕ → List ℕ → Option Piece) (out z : List ℕ) (whole : Option (List ℕ)) (b : ℕ) (more : List ℕ) →
    Reads front out z whole → z ≡ b ∷ more → None ≡ front b more → None ≡ whole
none_in_front front out z whole b more reads e none =
    ap (λ o. option_map (λ text. out ++ text) (with_piece (λ n. pieces front n more) o)) none ∙ (rw e at reads)

-- a piece more
pub piece_read :
    (front : ℕ → List ℕ → Option Piece) (out z new rest : List ℕ) (whole : Option (List ℕ)) (b : ℕ) (more : List ℕ) (p : Piece) →
    Reads front out z whole → z ≡ b ∷ more → Some p ≡ front b more → new ≡ out ++ p.gives → rest ≡ drop p.more more → Reads front new rest whole
piece_read front out z new rest whole b more p reads e some new_is rest_is =
    rw (new_is, rest_is)
    (joined_twice out p.gives _
    ∙ ap (λ o. option_map (λ text. out ++ text) (option_map (λ text. p.gives ++ text) o)) (sym (passed front p.more more))
    ∙ ap (λ o. option_map (λ text. out ++ text) (with_piece (λ n. pieces front n more) o)) some
    ∙ (rw e at reads))
