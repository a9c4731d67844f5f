use Rattle.std.proofs.Common.{rules, arith, ◌≡◌, ◌∙◌, ◌<◌, ℕ, ℤ, get_or, length, ap, map, w8, sym}
use Rattle.std.proofs.lemmas.List.{same_lists, get_or-map, length-map}
use Rattle.std.specs.Int.{cast_signed}
use Rattle.pair_hash.proofs.Order.{reverse-below}
use Rattle.pair_hash.proofs.signed_from_last.Goals as goal

pub returns-clause-in_range : goal.returns-clause-in_range
returns-clause-in_range c = reverse-below c.args.bytes.now c.fits-bytes

pub returns-clause-signed : goal.returns-clause-signed
returns-clause-signed c =
    let turned = c.reverse.new.self in
    let long : length c.map.result ≡ length (map (cast_signed w8) turned) =
    c.map.ensures.items.long ∙ sym (length-map turned (cast_signed w8) ∙ c.reverse.ensures.len ∙ c.told-bytes) in
    let each : (k : ℕ) (d : ℤ) → k < 32 → get_or c.map.result k d ≡ cast_signed w8 (get_or turned k 0) =
    λ k d below. let item = c.map.ensures.items.at k 0 d below in search (rules, item) in
    same_lists _ _ long (λ k d below. each k d (omega arith) ∙ sym (get_or-map (cast_signed w8) turned k 0 d (omega arith)))
    ∙ ap (λ bytes. map (cast_signed w8) bytes) c.reverse.ensures.after
