-- The numbers of the registers, by their names in the psABI ("Integer Register Convention").
use Rattle.std.specs.Prelude.{ℕ}

-- zero: it reads as 0
abbrev pub x0 : ℕ
x0 = 0

-- the address that a call returns to
abbrev pub ra : ℕ
ra = 1

-- the stack pointer
abbrev pub sp : ℕ
sp = 2

-- the first temporary
abbrev pub t0 : ℕ
t0 = 5

-- the second temporary
abbrev pub t1 : ℕ
t1 = 6

-- the third temporary
abbrev pub t2 : ℕ
t2 = 7

-- the first saved register, which is also the frame pointer
abbrev pub s0 : ℕ
s0 = 8

-- the second saved register
abbrev pub s1 : ℕ
s1 = 9

-- the first argument and the result, also those of an environment call
abbrev pub a0 : ℕ
a0 = 10

-- the second argument
abbrev pub a1 : ℕ
a1 = 11

-- the third argument
abbrev pub a2 : ℕ
a2 = 12

-- the fourth argument
abbrev pub a3 : ℕ
a3 = 13

-- the fifth argument
abbrev pub a4 : ℕ
a4 = 14

-- the sixth argument
abbrev pub a5 : ℕ
a5 = 15

-- the seventh argument
abbrev pub a6 : ℕ
a6 = 16

-- the eighth argument, and the number of an environment call
abbrev pub a7 : ℕ
a7 = 17
