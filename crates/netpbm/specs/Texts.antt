-- What is shown of each fault. Assumes nothing.
use Rattle.std.specs.Prelude.{ℕ, List, codes}
use Rattle.netpbm.specs.declared.fault.Fault.{Fault}
use Rattle.netpbm.specs.declared.fault.Fault.TheVariants.{NotPgm, CutShort, NoNumber, ZeroSize, BadMaxval, AboveMaxval, LeftOver, NoMemory, NoWindow}

abbrev pub fault_text : Fault → List ℕ
fault_text NotPgm = codes "not a PGM file: it does not begin with P5"
fault_text CutShort = codes "the file ends before the picture is whole"
fault_text NoNumber = codes "the header has something else where a number must stand"
fault_text ZeroSize = codes "the width or the height is 0"
fault_text BadMaxval = codes "the maxval is not between 1 and 65535"
fault_text AboveMaxval = codes "a sample is over the maxval"
fault_text LeftOver = codes "bytes follow the last sample"
fault_text NoMemory = codes "there is not enough memory"
fault_text NoWindow = codes "the window does not lie inside the picture"
