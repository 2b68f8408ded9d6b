-- A sample kind with a step, by what they mean. Assumes nothing.
use Rattle.samples.specs.Kinds.{Kind, KindLaws}
use Rattle.samples.specs.Steps.{Rule, StepLaws}

pub record Meaning (K : Type 0) : Type 0 where
  pub kind : Kind K
  pub rule : Rule K

abbrev pub meant : {K : Type 0} → Kind K → Rule K → Meaning K
meant k s = record { kind = k; rule = s }

-- the kind and the step keep their meaning
pub record Lawful {K : Type 0} (m : Meaning K) : Type 0 where
  pub kind : KindLaws m.kind
  pub step : StepLaws m.kind m.rule
