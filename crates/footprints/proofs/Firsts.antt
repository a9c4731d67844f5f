-- The first of several lists of items, one list after another.
use Rattle.std.proofs.Common.{◌≡◌, ◌∙◌, List, [], ◌∷◌, ◌++◌, Option, Some, None, refl, sym, ap, append_assoc}
use Rattle.std.specs.Option.{option_map_or}
use Rattle.ledger_model.specs.declared.outcome.Item.{Item}
use Rattle.ledger_model.specs.declared.outcome.Item.TheVariants as item
use Rattle.ledger_model.specs.Conditions.{Asked}
use Rattle.ledger_model.specs.Footprints.{Schemas, Spot, choices, first_of, items_of}
use Rattle.footprints.specs.declared.rules.Rule.TheVariants as rule
use Rattle.footprints.specs.Rules.{documents_asked, first_documents, keys_asked, keys_or_table}

pub first_front : {A : Type 0} (xs ys : List A) (a : A) → Some a ≡ first_of xs → Some a ≡ first_of (xs ++ ys)
first_front [] ys a is = cc
first_front (x ∷ xs) ys a is = is

pub first_behind : {A : Type 0} (xs ys : List A) (o : Option A) → None ≡ first_of xs → o ≡ first_of ys → o ≡ first_of (xs ++ ys)
first_behind [] ys o none is = is
first_behind (x ∷ xs) ys o none is = cc

regroup : (a b c d e f : List (List Item)) → ((((a ++ b) ++ c) ++ d) ++ e) ++ f ≡ (a ++ (b ++ c)) ++ (d ++ (e ++ f))
regroup a b c d e f = simp append_assoc

module _ (now : Schemas) (at : Spot) (asked : List Asked) where
  abbrev documents : List (List Item)
  documents =
      documents_asked rule.EqualTo at asked ++ (documents_asked rule.OneOf at asked ++ documents_asked rule.SameAs at asked)

  abbrev keys : List (List Item)
  keys =
      keys_asked rule.EqualTo now at asked ++ (keys_asked rule.OneOf now at asked ++ keys_asked rule.SameAs now at asked)

  chosen : choices now at asked ≡ documents ++ keys
  chosen =
      regroup (documents_asked rule.EqualTo at asked) (documents_asked rule.OneOf at asked) (documents_asked rule.SameAs at asked)
      (keys_asked rule.EqualTo now at asked) (keys_asked rule.OneOf now at asked) (keys_asked rule.SameAs now at asked)

  abbrev or_table : Option (List Item) → List Item
  or_table o = option_map_or (λ items. items) o (item.Table at.table ∷ [])

  pub by_documents : (items : List Item) → Some items ≡ first_documents at asked → items ≡ items_of now at asked
  by_documents items is = ap or_table (first_front documents keys items is ∙ ap first_of (sym chosen))

  pub by_keys : (items : List Item) → None ≡ first_documents at asked → items ≡ keys_or_table now at asked → items ≡ items_of now at asked
  by_keys items none is = is ∙ ap or_table (first_behind documents keys (first_of keys) none refl ∙ ap first_of (sym chosen))
