-- Judging from left to right: a value and the numbers of the names used so far, or the first fault.
use Rattle.std.specs.Prelude.{ℕ, List, ◌++◌, Option, Some, None, Result, Ok, Err}
use Rattle.pw_types.specs.declared.fault.Fault.{Fault}

-- what judging answers: a value with the numbers of the names that were used, or a fault
abbrev pub JudgeResult : Type 0 → Type 0
JudgeResult A = Result (A × List ℕ) Fault

-- a judge, which is given the numbers of the names used so far
abbrev pub Judge : Type 0 → Type 0
Judge A = List ℕ → JudgeResult A

-- what follows a judge, where it found no fault
abbrev pub judge_then : {A B : Type 0} → JudgeResult A → (A → Judge B) → JudgeResult B
judge_then (Ok p) f = f p.0 p.1
judge_then (Err e) f = Err e

-- one judge after another
infixl 10 ◌>>=◌
abbrev pub ◌>>=◌ : {A B : Type 0} → Judge A → (A → Judge B) → Judge B
p >>= f = λ used. judge_then (p used) f

-- judges nothing, and answers this
abbrev pub pure : {A : Type 0} → A → Judge A
pure a = λ used. Ok (a, used)

-- answers this fault
abbrev pub refuse : {A : Type 0} → Fault → Judge A
refuse fault = λ used. Err fault

-- the same after uses of these names
abbrev pub noting : {A : Type 0} → List ℕ → Judge A → Judge A
noting numbers p = λ used. p (used ++ numbers)

-- what a value gives that may be absent
abbrev pub on_option : {A B : Type 0} → Option A → B → (A → B) → B
on_option None b f = b
on_option (Some a) b f = f a
