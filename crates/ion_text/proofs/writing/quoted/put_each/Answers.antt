use Rattle.std.proofs.Common.{◌≡◌, ℕ, List, ◌++◌, ◌∷◌, [], encode_utf8, append-nil}
use Rattle.std.specs.List.{flat_map, fold}
use Rattle.std.specs.Str.{encode_utf8_all}
use Rattle.std.proofs.lemmas.Str.{encodes-append}
use Rattle.std.proofs.lemmas.List.Concat.{flat_map-append}
use Rattle.std.proofs.lemmas.List.Sums.{fold-append}
use Rattle.ion_model.specs.Quoted.{escape}
use Rattle.ion_text.proofs.writing.quoted.put_each.Goals as goal

one_more : {S : Type 0} (step : S → ℕ → S) (f : ℕ → List ℕ) (start out new : S) (seen : List ℕ) (c : ℕ)
    → out ≡ fold step start (flat_map f (encode_utf8_all seen))
    → new ≡ fold step out (flat_map f (encode_utf8 c))
    → new ≡ fold step start (flat_map f (encode_utf8_all (seen ++ c ∷ [])))
one_more step f start out new seen c before now =
    rw (encodes-append, flat_map-append, append-nil, fold-append) (cc)

pub loop-character-preserved : goal.loop-character-preserved
loop-character-preserved g c =
    one_more g.S.TextSink.with_byte (escape c.args.quote) _ _ _ c.loop-character.yielded c.in-Some.character c.loop-character.invariant c.in_ok-put_escaped.ensures
