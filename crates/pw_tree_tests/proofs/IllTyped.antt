-- None of these units is well typed.
use Rattle.std.proofs.Common.{◌≡◌, ℕ, zero, suc, ◌≤◌, ◌<◌, ◌^◌, true, false, refl, sym, ◌∙◌, ap, arith, Option, Some, None, unwrap_or}
use Rattle.std.specs.List.{IsDistinct}
use Rattle.pw_tree.specs.Held.{held, held_by}
use Rattle.pw_tree.specs.TypedStatements.{typed_statements}
use Rattle.pw_tree.specs.WellTypedExpressions.{number, pointer, Shape, Throughout}
use Rattle.pw_tree.specs.WellTypedStatements.{Everywhere, StatementReads, LeavesLoops, phrases_in, phrases_in_all}
use Rattle.pw_tree.specs.WellTypedUnits.{below}
use Rattle.pw_tree_tests.specs.IllTyped.{NumberCalled, BreakAsLastPart, NumberForPointer, ParameterWithoutLocal, ReadTooEarly, ExternalByNumber, VariableCalled, TooManyPhrases, SumHoldsNothing, NameTwice, DefinedTwice, ExternalWithoutName, PointerToSeven, WideConstant, BreakOutsideLoop, DeclarationAsLastPart, InitialiserTooLong, ValueFromVoid, ElementOfAnotherSize, returns_of}

pub number_called : NumberCalled
unfolding Everywhere Throughout
number_called h =
    let f = h.functions.0.fits in
    let e : Some number ≡ Some (pointer 0) = sym f.0.classes_fit ∙ f.1.0.parts.1 in
    cc

pub break_as_last_part : BreakAsLastPart
unfolding Everywhere
break_as_last_part h = h.functions.0.simple_parts.0.1.0.1

pub number_for_pointer : NumberForPointer
number_for_pointer h =
    let e : pointer 0 ≡ number = h.variables.0.initialiser.1.0.0 in cc

pub parameter_without_local : ParameterWithoutLocal
parameter_without_local h = let e : 1 ≤ 0 = h.functions.0.parameters in omega arith

pub read_too_early : ReadTooEarly
unfolding StatementReads Throughout below
read_too_early h = let e = h.functions.0.reads.0 in cc

pub external_by_number : ExternalByNumber
unfolding Everywhere Throughout
external_by_number h = let c = h.functions.0.fits.0.parts.0 in let e = c.function.names in cc

pub variable_called : VariableCalled
unfolding Everywhere Throughout
variable_called h = let c = h.functions.0.fits.0.parts.0 in let e = c.function.names in cc

counted : (n : ℕ) → phrases_in_all (typed_statements (returns_of n)) ≡ n
unfolding returns_of phrases_in
counted zero = refl
counted (suc n) = omega (arith, counted n)

pub too_many_phrases : TooManyPhrases
too_many_phrases h = let few = h.functions.0.few_phrases in let n = counted 8193 in omega (arith, few, n)

pub sum_holds_nothing : SumHoldsNothing
unfolding held held_by
sum_holds_nothing h = let e : 0 ≡ 1 = h.functions.0.held in omega (arith, e)

pub name_twice : NameTwice
unfolding IsDistinct
name_twice h = let e : true ≡ false = h.names_differ.0.0 in cc

pub defined_twice : DefinedTwice
unfolding IsDistinct
defined_twice h = let e : true ≡ false = h.definitions_differ.0.0 in cc

pub external_without_name : ExternalWithoutName
external_without_name h = let e = h.functions_named.0 refl in cc

pub pointer_to_seven : PointerToSeven
pointer_to_seven h = let few : 7 ≤ 6 = h.variables.0.type in omega (arith, few)

pub wide_constant : WideConstant
unfolding Everywhere Throughout
wide_constant h = let small : 2 ^ 64 < 2 ^ 64 = h.functions.0.numbers.0.expressions.value in omega (arith, small)

pub break_outside_loop : BreakOutsideLoop
unfolding LeavesLoops
break_outside_loop h = let e : false ≡ true = h.functions.0.loops.0 in cc

pub declaration_as_last_part : DeclarationAsLastPart
unfolding Everywhere
declaration_as_last_part h = h.functions.0.simple_parts.0.0.1

pub initialiser_too_long : InitialiserTooLong
initialiser_too_long h = let few : 2 ≤ 1 = h.variables.0.initialiser.0 in omega (arith, few)

pub value_from_void : ValueFromVoid
unfolding Everywhere
value_from_void h = h.functions.0.fits.0.classes_fit.0

-- the size of the array of a shape, or 0
abbrev size_in : Option Shape → ℕ
size_in None = 0
size_in (Some shape) = unwrap_or shape.size 0

pub element_of_another_size : ElementOfAnotherSize
unfolding Everywhere Throughout
element_of_another_size h = let e : 16 ≡ 8 = ap size_in h.functions.0.fits.0.parts.0.0.variable.names in omega (arith, e)
