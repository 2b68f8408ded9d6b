use Rattle.std.proofs.Common.{length}
use Rattle.commands.proofs.arguments.Flags.+and_all.Given as goal

abbrev pub decreases-and_all : goal.decreases-and_all
decreases-and_all l = length l.words.now
