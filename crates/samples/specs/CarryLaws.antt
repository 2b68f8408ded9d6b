-- The laws of the carry step. Assumes nothing.
use Rattle.std.specs.Prelude.{◌≡◌, true, Some, None, Option, refl}
use Rattle.samples.specs.Kinds.{Kind, KindLaws}
use Rattle.samples.specs.Steps.{EndHeld, StepLaws}
use Rattle.samples.specs.Carries.{carried, carries}

carried_held : {K : Type 0} (k : Kind K) → KindLaws k → (a b : Option K) → EndHeld k.held a → EndHeld k.held b → k.held (carried k a b) ≡ true
carried_held k l (Some a) b p q = p
carried_held k l None (Some b) p q = q
carried_held k l None None p q = l.nothing_held

pub carry_lawful : {K : Type 0} (k : Kind K) → KindLaws k → StepLaws k (carries k)
carry_lawful k l = record {
  no_forecast = refl;
  no_correction = refl;
  forecast_held = carried_held k l;
  correction_held = λ a b p q. l.nothing_held;
}
