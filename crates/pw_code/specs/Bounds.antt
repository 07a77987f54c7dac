-- How long code is at most, so that every jump in it is within reach.
use Rattle.std.specs.Prelude.{◌^◌, ◌<◌, ◌≤◌, ⊤}
use Rattle.pw_base.specs.Limits.{function_tokens, parameters, array_elements}
use Rattle.pw_tree.specs.TypedExpressions.{TypedExpression, constant, local, variable, designator, element, unary, binary, conditional, call, call_pointer, input, output}
use Rattle.pw_tree.specs.TypedStatements.{TypedStatement, evaluate, set_local, set_variable, set_element, block, if_else, while_loop, do_loop, for_loop, returns, breaks, continues}
use Rattle.pw_tree.specs.Held.{count}
use Rattle.pw_tree.specs.WellTypedExpressions.{Throughout, expressions_in}
use Rattle.pw_tree.specs.WellTypedStatements.{OfExpressions}

-- What bounds the own words of an expression: a constant has 64 bits, the line of a checked fault 32, an array is within the
-- limit, and so are the arguments of a call.
abbrev pub HasSmallOperands : TypedExpression → Type 0
HasSmallOperands (constant at value) = value < 2 ^ 64
HasSmallOperands (local at i) = ⊤
HasSmallOperands (variable at x) = ⊤
HasSmallOperands (designator at f) = ⊤
HasSmallOperands (element at a array_size i) = (array_size ≤ array_elements) × (at.line < 2 ^ 32)
HasSmallOperands (unary at op e) = ⊤
HasSmallOperands (binary at op unsigned l r) = at.line < 2 ^ 32
HasSmallOperands (conditional at c a b) = ⊤
HasSmallOperands (call at f es) = count es ≤ parameters
HasSmallOperands (call_pointer at e es) = (count es ≤ parameters) × (at.line < 2 ^ 32)
HasSmallOperands (input at) = ⊤
HasSmallOperands (output at e) = ⊤

-- An expression's code is short: its operands are small throughout, and it has no more parts than a function has tokens.
pub record HasShortCode (e : TypedExpression) : Type 0 where
  pub operands : Throughout HasSmallOperands e
  pub few : expressions_in e ≤ function_tokens

-- The array of an assignment to an element is within the limit, and the line of its checked fault has 32 bits.
abbrev pub HasSmallElement : TypedStatement → Type 0
HasSmallElement (set_element a array_size line i e) = (array_size ≤ array_elements) × (line < 2 ^ 32)
HasSmallElement (evaluate e) = ⊤
HasSmallElement (set_local i e) = ⊤
HasSmallElement (set_variable x e) = ⊤
HasSmallElement (block body) = ⊤
HasSmallElement (if_else c a b) = ⊤
HasSmallElement (while_loop c body) = ⊤
HasSmallElement (do_loop body c) = ⊤
HasSmallElement (for_loop first c last body) = ⊤
HasSmallElement (returns e) = ⊤
HasSmallElement breaks = ⊤
HasSmallElement continues = ⊤

-- A statement's own operands are small, and so are those of the expressions that stand right in it.
pub record StatementHasSmallOperands (s : TypedStatement) : Type 0 where
  pub own : HasSmallElement s
  pub expressions : OfExpressions (Throughout HasSmallOperands) s
