-- How many workers a command has.
use Rattle.std.specs.Prelude.{◌<◌}
use Rattle.cli_args.specs.declared.Command.{Command}
use Rattle.cli_args.specs.declared.Command.TheVariants as command

-- one at least, where it runs sessions
abbrev pub HasWorkers : Command → Type 0
HasWorkers (command.Run options) = 0 < options.workers
HasWorkers (command.Make options) = 0 < options.workers
HasWorkers other = Unit {0}
