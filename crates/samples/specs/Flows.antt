-- The flow: two numbers, each joined and taken by itself. Assumes nothing.
use Rattle.std.specs.Prelude.{◌&&◌}
use Rattle.samples.specs.declared.flow.Flow.{Flow}
use Rattle.samples.specs.Kinds.{Kind}
use Rattle.samples.specs.Numbers.{numbers}

abbrev pub joined_flow : Flow → Flow → Flow
joined_flow a b = record { dx = numbers.joined a.dx b.dx; dy = numbers.joined a.dy b.dy }

abbrev pub taken_flow : Flow → Flow → Flow
taken_flow a b = record { dx = numbers.taken a.dx b.dx; dy = numbers.taken a.dy b.dy }

abbrev pub flows : Kind Flow
flows = record {
  nothing = record { dx = numbers.nothing; dy = numbers.nothing };
  joined = joined_flow;
  taken = taken_flow;
  held = λ a. numbers.held a.dx && numbers.held a.dy;
}
