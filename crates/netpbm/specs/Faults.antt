-- The faults by number. Assumes nothing.
use Rattle.std.specs.Prelude.{ℕ}
use Rattle.netpbm.specs.declared.fault.Fault.{Fault}
use Rattle.netpbm.specs.declared.fault.Fault.TheVariants.{NotPgm, CutShort, NoNumber, ZeroSize, BadMaxval, AboveMaxval, LeftOver, NoMemory, NoWindow}

abbrev pub not_pgm : ℕ
not_pgm = 1

abbrev pub cut_short : ℕ
cut_short = 2

abbrev pub no_number : ℕ
no_number = 3

abbrev pub zero_size : ℕ
zero_size = 4

abbrev pub bad_maxval : ℕ
bad_maxval = 5

abbrev pub above_maxval : ℕ
above_maxval = 6

abbrev pub left_over : ℕ
left_over = 7

abbrev pub no_memory : ℕ
no_memory = 8

abbrev pub no_window : ℕ
no_window = 9

abbrev pub fault_number : Fault → ℕ
fault_number NotPgm = not_pgm
fault_number CutShort = cut_short
fault_number NoNumber = no_number
fault_number ZeroSize = zero_size
fault_number BadMaxval = bad_maxval
fault_number AboveMaxval = above_maxval
fault_number LeftOver = left_over
fault_number NoMemory = no_memory
fault_number NoWindow = no_window
