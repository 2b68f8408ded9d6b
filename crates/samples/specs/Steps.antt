-- What a step of lifting answers from two ends, each present or absent, and the laws of a step. Assumes nothing.
--     forecast       what a sample is expected to be, from the two beside it
--     correction     what a sample is corrected by, from the two beside it
use Rattle.std.specs.Prelude.{◌≡◌, Bool, true, Some, None, Option}
use Rattle.samples.specs.Kinds.{Kind}

pub record Rule (K : Type 0) : Type 0 where
  pub forecast : Option K → Option K → K
  pub correction : Option K → Option K → K

-- an end, if it is present, is a value that the type can hold
abbrev pub EndHeld : {K : Type 0} → (K → Bool) → Option K → Type 0
EndHeld held None = Unit {0}
EndHeld held (Some a) = held a ≡ true

-- With no end a step changes nothing, and from ends that are held it answers what is held.
pub record StepLaws {K : Type 0} (k : Kind K) (s : Rule K) : Type 0 where
  pub no_forecast : s.forecast None None ≡ k.nothing
  pub no_correction : s.correction None None ≡ k.nothing
  pub forecast_held : (a b : Option K) → EndHeld k.held a → EndHeld k.held b → k.held (s.forecast a b) ≡ true
  pub correction_held : (a b : Option K) → EndHeld k.held a → EndHeld k.held b → k.held (s.correction a b) ≡ true
