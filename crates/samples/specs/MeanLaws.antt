-- The laws of the mean step, of numbers and of flows. Assumes nothing.
use Rattle.std.specs.Prelude.{◌≡◌, true, ℤ, pos, negsuc, ◌+ℤ◌, Some, None, Option, FitsSigned, refl}
use Rattle.std.proofs.Common.{arith}
use Rattle.std.specs.Int.{w32}
use Rattle.std.specs.Option.{option_map}
use Rattle.std.proofs.lemmas.Int.{ints}
use Rattle.samples.specs.declared.flow.Flow.{Flow}
use Rattle.samples.specs.Steps.{EndHeld, StepLaws}
use Rattle.samples.specs.Numbers.{fits32, numbers}
use Rattle.samples.specs.Flows.{flows}
use Rattle.samples.specs.Means.{half, quarter, of_ends, means, flow_means}
use Rattle.samples.specs.NumberLaws.{sfits_held, held_sfits}
use Rattle.samples.specs.FlowLaws.{held_parts, parts_held}
use Rattle.samples.specs.Floors.{by_two, by_four}

pub half_fits : (a b : ℤ) → FitsSigned w32 a → FitsSigned w32 b → FitsSigned w32 (half a b)
half_fits a b f g = omega (arith, ints, by_two (a +ℤ b))

pub quarter_fits : (a b : ℤ) → FitsSigned w32 a → FitsSigned w32 b → FitsSigned w32 (quarter a b)
quarter_fits a b f g = omega (arith, ints, by_four ((a +ℤ b) +ℤ pos 2))

-- what keeps numbers in range keeps ends in range
ends_held : (f : ℤ → ℤ → ℤ) → ((a b : ℤ) → FitsSigned w32 a → FitsSigned w32 b → FitsSigned w32 (f a b))
    → (a b : Option ℤ) → EndHeld fits32 a → EndHeld fits32 b → fits32 (of_ends f a b) ≡ true
ends_held f h (Some a) (Some b) p q = held_sfits _ (h a b (sfits_held a p) (sfits_held b q))
ends_held f h (Some a) None p q = held_sfits _ (h a a (sfits_held a p) (sfits_held a p))
ends_held f h None (Some b) p q = held_sfits _ (h b b (sfits_held b q) (sfits_held b q))
ends_held f h None None p q = refl

pub mean_lawful : StepLaws numbers means
mean_lawful = record {
  no_forecast = refl;
  no_correction = refl;
  forecast_held = ends_held half half_fits;
  correction_held = ends_held quarter quarter_fits;
}

dx_held : (e : Option Flow) → EndHeld flows.held e → EndHeld fits32 (option_map (λ f. f.dx) e)
dx_held None h = tt
dx_held (Some f) h = (held_parts f h).0

dy_held : (e : Option Flow) → EndHeld flows.held e → EndHeld fits32 (option_map (λ f. f.dy) e)
dy_held None h = tt
dy_held (Some f) h = (held_parts f h).1

pub flow_mean_lawful : StepLaws flows flow_means
flow_mean_lawful =
    let n = mean_lawful in
    record {
      no_forecast = refl;
      no_correction = refl;
      forecast_held = λ a b p q. parts_held (flow_means.forecast a b) (n.forecast_held _ _ (dx_held a p) (dx_held b q)) (n.forecast_held _ _ (dy_held a p) (dy_held b q));
      correction_held = λ a b p q. parts_held (flow_means.correction a b) (n.correction_held _ _ (dx_held a p) (dx_held b q)) (n.correction_held _ _ (dy_held a p) (dy_held b q));
    }

-- worked by computing
between : means.forecast (Some (pos 10)) (Some (pos 40)) ≡ pos 25
between = refl

alone : means.correction (Some (pos 2)) None ≡ pos 1
alone = refl

below_zero : means.correction (Some (negsuc 12)) (Some (negsuc 12)) ≡ negsuc 5
below_zero = refl
