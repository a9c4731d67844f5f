-- Each draft beside what its revision has of its content.
use Rattle.std.proofs.Common.{◌≡◌, List, [], ◌∷◌, map, refl, ap}
use Rattle.std.specs.List.{zip}
use Rattle.std.proofs.lemmas.List.{length-map}
use Rattle.std.proofs.lemmas.Slice.Zip.{firsts-zip}
use Rattle.ledger_model.specs.declared.block.Draft.{Draft}
use Rattle.block_form.specs.declared.contents.HashedContent.{HashedContent}
use Rattle.block_form.specs.Hashed.{hashed_content}
use Rattle.ledger_core.specs.NextBlock.{hashed_contents}

pub firsts : (drafts : List Draft) → map (λ (p : Draft × HashedContent). p.0) (zip drafts (hashed_contents drafts)) ≡ drafts
firsts drafts = firsts-zip drafts (hashed_contents drafts) (length-map drafts (λ (d : Draft). hashed_content d.content))

pub parted : {A B : Type 0} (ps : List (A × B)) → map (λ (p : A × B). p.0) (map (λ (p : A × B). (p.0, p.1)) ps) ≡ map (λ (p : A × B). p.0) ps
parted [] = refl
parted (p ∷ ps) = ap (λ qs. p.0 ∷ qs) (parted ps)
