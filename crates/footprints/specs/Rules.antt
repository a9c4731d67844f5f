-- The rules by which items are read, each by what it takes of what is wanted.
use Rattle.std.specs.Prelude.{ℕ, List, ◌∷◌, [], ◌++◌, Option}
use Rattle.std.specs.List.{filter_map}
use Rattle.std.specs.Option.{option_map_or}
use Rattle.pql_model.specs.declared.statement.Statement.{Statement}
use Rattle.pql_model.specs.declared.statement.Statement.TheVariants as statement
use Rattle.ledger_model.specs.declared.outcome.Item.{Item}
use Rattle.ledger_model.specs.declared.outcome.Item.TheVariants as item
use Rattle.ledger_model.specs.Conditions.{Asked, Wanted}
use Rattle.ledger_model.specs.Footprints.{Schemas, Spot, by_id, by_key, document_equal, document_one_of, document_same, first_of, key_equal, key_one_of, key_same, names_read}
use Rattle.footprints.specs.declared.rules.Rule.{Rule}
use Rattle.footprints.specs.declared.rules.Rule.TheVariants as rule

abbrev pub documents_by : Rule → Spot → Wanted → Option (List Item)
documents_by rule.EqualTo at wanted = document_equal at.table wanted
documents_by rule.OneOf at wanted = document_one_of at.table wanted
documents_by rule.SameAs at wanted = document_same at.table at.earlier wanted

abbrev pub keys_by : Rule → Spot → List ℕ → Wanted → Option (List Item)
keys_by rule.EqualTo at field wanted = key_equal at.table field wanted
keys_by rule.OneOf at field wanted = key_one_of at.table field wanted
keys_by rule.SameAs at field wanted = key_same at.table field at.earlier wanted

abbrev pub documents_asked : Rule → Spot → List Asked → List (List Item)
documents_asked r at asked = filter_map (by_id (documents_by r at) at) asked

abbrev pub keys_asked : Rule → Schemas → Spot → List Asked → List (List Item)
keys_asked r now at asked = filter_map (by_key (keys_by r at) now at) asked

-- rule by rule
abbrev pub later_documents : Spot → List Asked → Option (List Item)
later_documents at asked = first_of (documents_asked rule.OneOf at asked ++ documents_asked rule.SameAs at asked)

abbrev pub first_documents : Spot → List Asked → Option (List Item)
first_documents at asked =
    first_of (documents_asked rule.EqualTo at asked
    ++ (documents_asked rule.OneOf at asked ++ documents_asked rule.SameAs at asked))

abbrev pub later_keys : Schemas → Spot → List Asked → Option (List Item)
later_keys now at asked = first_of (keys_asked rule.OneOf now at asked ++ keys_asked rule.SameAs now at asked)

abbrev pub first_keys : Schemas → Spot → List Asked → Option (List Item)
first_keys now at asked =
    first_of (keys_asked rule.EqualTo now at asked
    ++ (keys_asked rule.OneOf now at asked ++ keys_asked rule.SameAs now at asked))

abbrev pub keys_or_table : Schemas → Spot → List Asked → List Item
keys_or_table now at asked = option_map_or (λ items. items) (first_keys now at asked) (item.Table at.table ∷ [])

-- what a statement reads, where these items are read of its sources
abbrev pub footprint_with : Statement → List Item → List Item
footprint_with (statement.Create name) own = item.TableName name ∷ item.TableList ∷ []
footprint_with (statement.Index name field) own = item.TableName name ∷ []
footprint_with (statement.Drop name) own = item.TableName name ∷ []
footprint_with (statement.Insert name e) own = item.TableName name ∷ []
footprint_with (statement.Select select from) own = names_read from.sources ++ own
footprint_with (statement.Update from change) own = names_read from.sources ++ own
footprint_with (statement.From from change) own = names_read from.sources ++ own
footprint_with (statement.Delete from) own = names_read from.sources ++ own
footprint_with (statement.Redact address table document) own = own
