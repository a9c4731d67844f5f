use Rattle.ion_binary_out.proofs.Unique.{denoted_values_are_unique}
use Rattle.ion_binary_out.proofs.laws.denoted_values_are_unique.Goals as goal

pub returns : goal.returns
returns c = denoted_values_are_unique (record {
  magnitudes = c.magnitude_is_injective.ensures;
  var_uints = c.var_uint_is_prefix_free.ensures;
  decimals = c.decimal_is_injective.ensures;
  timestamps = c.timestamp_is_injective.ensures;
})
