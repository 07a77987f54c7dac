-- The numbers of the environment calls, which stand in a7, and the kinds of checked faults.
use Rattle.std.specs.Prelude.{ℕ}

-- the call that ends the run with the value in a0
abbrev pub exit_call : ℕ
exit_call = 93

-- the call that takes the next byte of the input into a0, or all ones at its end
abbrev pub input_call : ℕ
input_call = 1024

-- the call that appends the lowest byte of a0 to the output
abbrev pub output_call : ℕ
output_call = 1025

-- the call that ends the run with a checked fault, of the kind in a0 and in the line in a1
abbrev pub fault_call : ℕ
fault_call = 1026

-- the kind of the checked fault of an index out of its array
abbrev pub index_fault : ℕ
index_fault = 1

-- the kind of a division by 0
abbrev pub division_fault : ℕ
division_fault = 2

-- the kind of a call of null
abbrev pub null_call_fault : ℕ
null_call_fault = 3

-- the kind of a call past the limit of calls alive
abbrev pub depth_fault : ℕ
depth_fault = 4
