-- How many bytes each sample takes. Assumes nothing.
use Rattle.std.specs.Prelude.{ℕ, ◌<◌, ◌≤◌}
use Rattle.netpbm.specs.declared.header.Depth.{Depth}
use Rattle.netpbm.specs.declared.header.Depth.TheVariants.{One, Two}

-- one byte where each value up to the maxval fits in it
abbrev pub DepthOf : ℕ → Depth → Type 0
DepthOf m One = m < 256
DepthOf m Two = 256 ≤ m

abbrev pub depth_bytes : Depth → ℕ
depth_bytes One = 1
depth_bytes Two = 2
