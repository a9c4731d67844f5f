use Rattle.std.proofs.Common.{◌<◌, ◌^◌, length, arith}
use Rattle.script_form.proofs.Countable.{countable}
use Rattle.test_journal.proofs.scripts.read.Goals as goal

pub read_script-requires : goal.read_script-requires
read_script-requires c =
    let fits : length c.as_bytes.result.now < 2 ^ 32 = omega arith in
    countable (length c.as_bytes.result.now) c.in-Ok.values fits c.in-Ok.ensures.short
