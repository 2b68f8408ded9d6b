-- The carry step, of any kind. Assumes nothing.
use Rattle.std.specs.Prelude.{Some, None, Option}
use Rattle.samples.specs.Kinds.{Kind}
use Rattle.samples.specs.Steps.{Rule}

-- the left or upper end, failing that the other, else nothing
abbrev pub carried : {K : Type 0} → Kind K → Option K → Option K → K
carried k (Some a) b = a
carried k None (Some b) = b
carried k None None = k.nothing

abbrev pub carries : {K : Type 0} → Kind K → Rule K
carries k = record { forecast = carried k; correction = λ a b. k.nothing }
