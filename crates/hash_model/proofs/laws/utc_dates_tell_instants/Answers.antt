use Rattle.hash_model.proofs.UtcDates.{utc_dates_tell_instants}
use Rattle.hash_model.proofs.laws.utc_dates_tell_instants.Goals as goal

pub returns : goal.returns
returns c = utc_dates_tell_instants
