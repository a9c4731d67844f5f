-- What the value of a revision has of its content.
use Rattle.std.proofs.Common.{◌≡◌, [], refl}
use Rattle.std.specs.List.{cons_option}
use Rattle.ledger_model.specs.declared.block.Content.{Content}
use Rattle.ledger_model.specs.declared.block.Content.TheVariants.{Deleted, Kept, Redacted}
use Rattle.ledger_model.specs.Journal.{data_fields}
use Rattle.block_form.specs.Hashed.{data_field}

pub data_fields-is : (c : Content) → cons_option (data_field c) [] ≡ data_fields c
data_fields-is Deleted = refl
data_fields-is (Kept v) = refl
data_fields-is (Redacted hash) = refl
