use Rattle.laws_serialization.proofs.Timestamps.{timestamp_is_injective}
use Rattle.laws_serialization.proofs.laws.timestamp_is_injective.Goals as goal

pub returns : goal.returns
returns c = timestamp_is_injective
