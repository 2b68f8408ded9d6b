-- What a raster holds, and the answer of a call that makes one. Assumes nothing.
use Rattle.std.specs.Prelude.{Ok, Err, vec_items, Result}
use Rattle.netpbm.specs.Answers.{Answer, accepted, refused}
use Rattle.netpbm.specs.Faults.{fault_number}
use Rattle.netpbm.specs.Pictures.{Picture}
use Rattle.netpbm.specs.declared.fault.Fault.{Fault}
use Rattle.netpbm.specs.declared.raster.Raster.{Raster}

abbrev pub picture_of : Raster → Picture
picture_of r = record { width = r.width; height = r.height; maxval = r.maxval; samples = vec_items r.samples }

abbrev pub seen_raster : Result Raster Fault → Answer Picture
seen_raster (Ok r) = accepted (picture_of r)
seen_raster (Err f) = refused (fault_number f)
