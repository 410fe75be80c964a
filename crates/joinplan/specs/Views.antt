-- What the code's structs hold, without where it stands in memory.
use Rattle.joinplan.specs.declared.words.Command.{Command}
use Rattle.joinplan.specs.declared.words.Command.TheVariants as command
use Rattle.joinplan.specs.Words as spec

abbrev pub command_view : Command → spec.Command
command_view (command.Run catalogue statement) = spec.Run catalogue.now statement.now
command_view (command.Explain catalogue statement) = spec.Explain catalogue.now statement.now
command_view (command.Check catalogue) = spec.Check catalogue.now
