-- Laws of the scheme: code has the size that is computed before it, and every jump is within reach.
use Rattle.std.specs.Prelude.{◌≡◌, ℕ, ◌+◌, ◌*◌, ◌^◌, ◌<◌, ◌≤◌, List}
use Rattle.std.specs.List.{AllByRecursion}
use Rattle.pw_tree.specs.TypedExpressions.{TypedExpression}
use Rattle.pw_tree.specs.TypedStatements.{TypedStatement}
use Rattle.pw_tree.specs.Units.{Function, TypedUnit}
use Rattle.pw_tree.specs.WellTypedExpressions.{Class, IsValueClass, IsWellTypedExpression, expressions_in}
use Rattle.pw_tree.specs.WellTypedStatements.{Everywhere, phrases_in}
use Rattle.pw_tree.specs.WellTypedUnits.{IsWellTypedFunction}
use Rattle.pw_code.specs.declared.frame.Frame.{Frame}
use Rattle.pw_code.specs.Items.{size}
use Rattle.pw_code.specs.ExpressionCode.{expression_words, expression_code}
use Rattle.pw_code.specs.StatementCode.{Targets, statement_words, statement_code}
use Rattle.pw_code.specs.FunctionCode.{function_words, function_code}
use Rattle.pw_code.specs.Bounds.{HasShortCode, StatementHasSmallOperands}

-- The code of an expression has the size that is computed for it, whatever the frame and the values held.
abbrev pub ExpressionsHaveTheirSize : Type 0
ExpressionsHaveTheirSize = (frame : Frame) (h : ℕ) (e : TypedExpression) → size (expression_code frame h e) ≡ expression_words e

-- So has the code of a statement, wherever it stands.
abbrev pub StatementsHaveTheirSize : Type 0
StatementsHaveTheirSize =
    (frame : Frame) (targets : Targets) (at : ℕ) (s : TypedStatement) → size (statement_code frame targets at s) ≡ statement_words s

-- And so has the code of a function.
abbrev pub FunctionsHaveTheirSize : Type 0
FunctionsHaveTheirSize = (f : Function) → size (function_code f) ≡ function_words f

-- The code of a well typed expression is short: the locals' classes are those of values.
abbrev pub WellTypedCodeIsShort : Type 0
WellTypedCodeIsShort =
    (unit : TypedUnit) (classes : List Class) (e : TypedExpression) → AllByRecursion IsValueClass classes →
    IsWellTypedExpression unit classes e → HasShortCode e

-- Short code has fewer than 16 words for each expression.
abbrev pub ExpressionsAreShort : Type 0
ExpressionsAreShort = (e : TypedExpression) → HasShortCode e → expression_words e + 1 ≤ 16 * expressions_in e

-- A statement with small operands has at most 16 words for each expression and statement.
abbrev pub StatementsAreShort : Type 0
StatementsAreShort = (s : TypedStatement) → Everywhere StatementHasSmallOperands s → statement_words s ≤ 16 * phrases_in s

-- The code of a well typed function has fewer than 2 ^ 18 words, so that a jump reaches from each to each.
abbrev pub FunctionsAreShort : Type 0
FunctionsAreShort = (unit : TypedUnit) (f : Function) → IsWellTypedFunction unit f → function_words f < 2 ^ 18
