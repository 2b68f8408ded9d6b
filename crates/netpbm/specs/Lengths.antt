-- Whether there are as many as wanted, of samples or bytes. Assumes nothing.
use Rattle.std.specs.Prelude.{◌≡◌, ℕ, ◌<◌, ◌⊎◌, Ok, Err, Result}
use Rattle.netpbm.specs.declared.fault.Fault.{Fault}
use Rattle.netpbm.specs.declared.fault.Fault.TheVariants.{CutShort, LeftOver}

-- too few are cut short, and of too many some are left over
abbrev pub LengthChecked : ℕ → ℕ → Result (Unit {0}) Fault → Type 0
LengthChecked len wanted (Ok u) = len ≡ wanted
LengthChecked len wanted (Err f) = ((len < wanted) × (f ≡ CutShort)) ⊎ ((wanted < len) × (f ≡ LeftOver))
