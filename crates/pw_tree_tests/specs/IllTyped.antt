-- Units that are not well typed, each by one fault.
use Rattle.std.specs.Prelude.{ℕ, zero, suc, ◌^◌, true, false, List, [], ◌∷◌, Some, None}
use Rattle.pw_tree.specs.TypedExpressions.{constant, local, element, binary, call, call_pointer}
use Rattle.pw_tree.specs.TypedExpressions as tree
use Rattle.pw_tree.specs.TypedStatements.{TypedStatement, evaluate, set_local, block, while_loop, for_loop, returns, breaks, absent, present}
use Rattle.pw_tree.specs.TypedStatements as statement
use Rattle.pw_tree.specs.Units.{TypedUnit}
use Rattle.pw_tree.specs.declared.operator.Bin.TheVariants.{Add}
use Rattle.pw_tree.specs.declared.ty.Ty.TheVariants.{Void, Long, Fn}
use Rattle.pw_tree.specs.declared.ty.Ref.TheVariants.{Global, LocalFun, LocalVar}
use Rattle.pw_tree.specs.declared.tunit.Init.TheVariants.{Num}
use Rattle.pw_tree.specs.WellTypedUnits.{IsWellTyped}
use Rattle.pw_tree_tests.specs.Units.{at, at_pointer, static_function, unit_of_function}

-- the unit is not well typed
abbrev pub IsIllTyped : TypedUnit → Type 0
IsIllTyped unit = IsWellTyped unit → ⊥

-- local 0 is set to 5, and called as a pointer
abbrev pub NumberCalled : Type 0
NumberCalled = IsIllTyped (unit_of_function (static_function [] 1
    (set_local 0 (Some (constant (at 1) 5)) ∷ evaluate (call_pointer (at 1) (local (at_pointer 0 1) 0) tree.nil) ∷ [])))

-- while (1) for (; ; break) ;
abbrev pub BreakAsLastPart : Type 0
BreakAsLastPart = IsIllTyped (unit_of_function (static_function [] 0
    (while_loop (constant (at 1) 1) (for_loop absent None (present breaks) (block statement.nil)) ∷ [])))

-- static fn0 p = 0;
abbrev pub NumberForPointer : Type 0
NumberForPointer = IsIllTyped (record {
  functions = [];
  variables = record { name = 112 ∷ []; global = false; ty = Fn 0; count = None; init = Some (Num 0 ∷ []) } ∷ [];
  names = [];
})

-- a function of one parameter, and no local
abbrev pub ParameterWithoutLocal : Type 0
ParameterWithoutLocal = IsIllTyped (unit_of_function (static_function (Long ∷ []) 0 []))

-- local 0 is read, and then set
abbrev pub ReadTooEarly : Type 0
ReadTooEarly = IsIllTyped (unit_of_function (static_function [] 1
    (evaluate (local (at 1) 0) ∷ set_local 0 (Some (constant (at 1) 5)) ∷ [])))

-- an external function calls itself by its number
abbrev pub ExternalByNumber : Type 0
ExternalByNumber = IsIllTyped (record {
  functions = record (static_function [] 0 (evaluate (call (at 1) (LocalFun 0) tree.nil) ∷ [])) { global = true } ∷ [];
  variables = [];
  names = record { name = 102 ∷ []; text = 108 ∷ 40 ∷ 41 ∷ [] } ∷ [];
})

-- a name with the text `l` is called
abbrev pub VariableCalled : Type 0
VariableCalled = IsIllTyped (record {
  functions = static_function [] 0 (evaluate (call (at 1) (Global (120 ∷ [])) tree.nil) ∷ []) ∷ [];
  variables = [];
  names = record { name = 120 ∷ []; text = 108 ∷ [] } ∷ [];
})

-- so many times `return;`
unfoldable pub returns_of : ℕ → List TypedStatement
returns_of zero = []
returns_of (suc n) = returns None ∷ returns_of n

-- 8,193 statements
abbrev pub TooManyPhrases : Type 0
TooManyPhrases = IsIllTyped (unit_of_function (static_function [] 0 (returns_of 8193)))

-- a sum of two constants, and no value that is held
abbrev pub SumHoldsNothing : Type 0
SumHoldsNothing = IsIllTyped (unit_of_function (static_function [] 0
    (evaluate (binary (at 1) Add false (constant (at 1) 1) (constant (at 1) 2)) ∷ [])))

-- the name `x` stands twice among the names
abbrev pub NameTwice : Type 0
NameTwice = IsIllTyped (record {
  functions = [];
  variables = [];
  names = record { name = 120 ∷ []; text = 108 ∷ [] } ∷ record { name = 120 ∷ []; text = 108 ∷ [] } ∷ [];
})

-- two functions have the name `f`
abbrev pub DefinedTwice : Type 0
DefinedTwice = IsIllTyped (record {
  functions = static_function [] 0 [] ∷ static_function [] 0 [] ∷ [];
  variables = [];
  names = [];
})

-- a function with external linkage, and no name
abbrev pub ExternalWithoutName : Type 0
ExternalWithoutName = IsIllTyped (unit_of_function (record (static_function [] 0 []) { global = true }))

-- a pointer to functions of 7 parameters
abbrev pub PointerToSeven : Type 0
PointerToSeven = IsIllTyped (record {
  functions = [];
  variables = record { name = 112 ∷ []; global = false; ty = Fn 7; count = None; init = None } ∷ [];
  names = [];
})

-- a constant of 65 bits
abbrev pub WideConstant : Type 0
WideConstant = IsIllTyped (unit_of_function (static_function [] 0 (evaluate (constant (at 1) (2 ^ 64)) ∷ [])))

-- `break` in no loop
abbrev pub BreakOutsideLoop : Type 0
BreakOutsideLoop = IsIllTyped (unit_of_function (static_function [] 0 (breaks ∷ [])))

-- a local is declared in the last part of a `for`
abbrev pub DeclarationAsLastPart : Type 0
DeclarationAsLastPart = IsIllTyped (unit_of_function (static_function [] 1
    (for_loop absent None (present (set_local 0 None)) (block statement.nil) ∷ [])))

-- static long x = { 1, 2 };
abbrev pub InitialiserTooLong : Type 0
InitialiserTooLong = IsIllTyped (record {
  functions = [];
  variables = record { name = 120 ∷ []; global = false; ty = Long; count = None; init = Some (Num 1 ∷ Num 2 ∷ []) } ∷ [];
  names = [];
})

-- a function that returns void returns 0
abbrev pub ValueFromVoid : Type 0
ValueFromVoid = IsIllTyped (unit_of_function
    (record (static_function [] 0 (returns (Some (constant (at 1) 0)) ∷ [])) { sig = record { result = Void; params = [] } }))

-- an array of 16 elements is read as one of 8
abbrev pub ElementOfAnotherSize : Type 0
ElementOfAnotherSize = IsIllTyped (record {
  functions = static_function [] 0 (evaluate (element (at 1) (LocalVar 0) 8 (constant (at 1) 0)) ∷ []) ∷ [];
  variables = record { name = 116 ∷ []; global = false; ty = Long; count = Some 16; init = None } ∷ [];
  names = [];
})
