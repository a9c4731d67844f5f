use Rattle.std.proofs.Common.{◌≡◌, ◌<◌, ◌==◌, List, ℕ, false, [], ◌∷◌, length, sym, subst, ◌∙◌, arith}
use Rattle.ion_pieces.specs.Fronts.{EndsWhite}
use Rattle.ion_pieces.proofs.Holding.{ends_behind}
use Rattle.ion_pieces.proofs.pieces.PieceReader.take_white.Goals as goal

some : (z : List ℕ) → false ≡ (length z == 0) → 0 < length z
some [] h = absurd (cc)
some (b ∷ z) h = omega arith

pub take-requires : goal.take-requires
take-requires c =
    let front = c.args.front.now in
    subst EndsWhite (sym (c.deref.ensures.value ∙ c.in_ok-extend_from_slice.ensures.items)) (ends_behind c.args.self.rest.items front (c.requires (some front c.if-is_empty.ensures)))
