-- The mean step, of numbers and of flows. Assumes nothing.
use Rattle.std.specs.Prelude.{ℤ, pos, ◌+ℤ◌, Some, None, Option}
use Rattle.std.specs.Int.{int_div_euclid}
use Rattle.std.specs.Option.{option_map}
use Rattle.samples.specs.declared.flow.Flow.{Flow}
use Rattle.samples.specs.Steps.{Rule}

-- floor((a + b) / 2)
abbrev pub half : ℤ → ℤ → ℤ
half a b = int_div_euclid (a +ℤ b) (pos 2)

-- floor((a + b + 2) / 4)
abbrev pub quarter : ℤ → ℤ → ℤ
quarter a b = int_div_euclid ((a +ℤ b) +ℤ pos 2) (pos 4)

-- a function of two ends, where a single one counts for both, and nothing comes of none
abbrev pub of_ends : (ℤ → ℤ → ℤ) → Option ℤ → Option ℤ → ℤ
of_ends f (Some a) (Some b) = f a b
of_ends f (Some a) None = f a a
of_ends f None (Some b) = f b b
of_ends f None None = pos 0

abbrev pub means : Rule ℤ
means = record { forecast = of_ends half; correction = of_ends quarter }

-- a rule of numbers on each part of the ends
abbrev pub part_by_part : (Option ℤ → Option ℤ → ℤ) → Option Flow → Option Flow → Flow
part_by_part f a b = record {
  dx = f (option_map (λ e. e.dx) a) (option_map (λ e. e.dx) b);
  dy = f (option_map (λ e. e.dy) a) (option_map (λ e. e.dy) b);
}

abbrev pub flow_means : Rule Flow
flow_means = record { forecast = part_by_part means.forecast; correction = part_by_part means.correction }
