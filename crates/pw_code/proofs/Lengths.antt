-- How many words code has at most.
use Rattle.std.proofs.Common.{◌≡◌, ℕ, ◌+◌, ◌*◌, ◌^◌, ◌<◌, ◌≤◌, Option, Some, None, arith}
use Rattle.pw_base.specs.Limits.{array_elements}
use Rattle.pw_tree.specs.declared.operator.Un.{Un}
use Rattle.pw_tree.specs.declared.operator.Un.TheVariants.{Neg, Plus, Not, Bang}
use Rattle.pw_tree.specs.declared.operator.Bin.{Bin}
use Rattle.pw_tree.specs.declared.operator.Bin.TheVariants.{Mul, Div, Rem, Add, Sub, Shl, Shr, Lt, Gt, Le, Ge, Eq, Ne, And, Xor, Or, AndAnd, OrOr}
use Rattle.pw_tree.specs.TypedExpressions.{TypedExpression, TypedExpressions, constant, local, variable, designator, element, unary, binary, conditional, call, call_pointer, input, output, nil, cons}
use Rattle.pw_tree.specs.TypedStatements as statements
use Rattle.pw_tree.specs.TypedStatements.{TypedStatement, TypedStatements, OptionalTypedStatement}
use Rattle.pw_tree.specs.WellTypedExpressions.{Throughout, ThroughoutAll, expressions_in, expressions_in_all}
use Rattle.pw_tree.specs.WellTypedStatements.{Everywhere, EverywhereIn, EverywhereIf, IfPresent, expressions_in_option, phrases_in, phrases_in_all, phrases_in_maybe}
use Rattle.pw_code.specs.Pieces.{fault_words, check_index_words, unary_words}
use Rattle.pw_code.specs.ExpressionCode.{operator_words, expression_words, arguments_words}
use Rattle.pw_code.specs.StatementCode.{statement_words, statements_words, optional_words, else_words, set_local_words, value_words, condition_words}
use Rattle.pw_code.specs.Bounds.{HasSmallOperands, HasShortCode, StatementHasSmallOperands}
use Rattle.pw_code.proofs.Immediates.{immediate_words_at_most, size_words_at_most, line_words_at_most}

-- ---- pieces

pub fault_words_at_most : (line : ℕ) → line < 2 ^ 32 → fault_words line ≤ 7
fault_words_at_most line h = omega (arith, line_words_at_most line h)

check_index_at_most : (array_size line : ℕ) → array_size ≤ array_elements → line < 2 ^ 32 →
    check_index_words array_size line ≤ 10
check_index_at_most array_size line hs hl =
    let few : array_size < 2 ^ 31 = omega arith in
    omega (arith, size_words_at_most array_size few, fault_words_at_most line hl)

unary_at_most : (op : Un) → unary_words op ≤ 1
unary_at_most Neg = omega arith
unary_at_most Plus = omega arith
unary_at_most Not = omega arith
unary_at_most Bang = omega arith

-- A binary operator has 11 words at most beside its operands.
operator_at_most : (line : ℕ) (op : Bin) (left right : ℕ) → line < 2 ^ 32 →
    operator_words line op left right ≤ left + (right + 11)
operator_at_most line Mul left right h = omega (arith, fault_words_at_most line h)
operator_at_most line Div left right h = omega (arith, fault_words_at_most line h)
operator_at_most line Rem left right h = omega (arith, fault_words_at_most line h)
operator_at_most line Add left right h = omega (arith, fault_words_at_most line h)
operator_at_most line Sub left right h = omega (arith, fault_words_at_most line h)
operator_at_most line Shl left right h = omega (arith, fault_words_at_most line h)
operator_at_most line Shr left right h = omega (arith, fault_words_at_most line h)
operator_at_most line Lt left right h = omega (arith, fault_words_at_most line h)
operator_at_most line Gt left right h = omega (arith, fault_words_at_most line h)
operator_at_most line Le left right h = omega (arith, fault_words_at_most line h)
operator_at_most line Ge left right h = omega (arith, fault_words_at_most line h)
operator_at_most line Eq left right h = omega (arith, fault_words_at_most line h)
operator_at_most line Ne left right h = omega (arith, fault_words_at_most line h)
operator_at_most line And left right h = omega (arith, fault_words_at_most line h)
operator_at_most line Xor left right h = omega (arith, fault_words_at_most line h)
operator_at_most line Or left right h = omega (arith, fault_words_at_most line h)
operator_at_most line AndAnd left right h = omega (arith, fault_words_at_most line h)
operator_at_most line OrOr left right h = omega (arith, fault_words_at_most line h)

-- ---- expressions

mutual
  unfolding Throughout expression_words expressions_in ThroughoutAll arguments_words expressions_in_all

  short : (e : TypedExpression) → Throughout HasSmallOperands e → expression_words e + 1 ≤ 16 * expressions_in e
  short (constant at value) t = omega (arith, immediate_words_at_most value)
  short (local at i) t = omega arith
  short (variable at x) t = omega arith
  short (designator at f) t = omega arith
  short (element at a array_size i) t =
      omega (arith, check_index_at_most array_size at.line t.0.0 t.0.1, short i t.1)
  short (unary at op e) t = omega (arith, unary_at_most op, short e t.1)
  short (binary at op unsigned l r) t =
      omega (arith, operator_at_most at.line op (expression_words l) (expression_words r) t.0, short l t.1, short r t.2)
  short (conditional at c a b) t = omega (arith, short c t.1, short a t.2, short b t.3)
  short (call at f es) t = omega (arith, arguments_are_short es t.1, t.0)
  short (call_pointer at e es) t =
      omega (arith, arguments_are_short es t.2, short e t.1, fault_words_at_most at.line t.0.1, t.0.0)
  short (input at) t = omega arith
  short (output at e) t = omega (arith, short e t.1)

  pub arguments_are_short : (es : TypedExpressions) → ThroughoutAll HasSmallOperands es →
      arguments_words es ≤ 16 * expressions_in_all es
  arguments_are_short nil t = omega arith
  arguments_are_short (cons e es) t = omega (arith, short e t.0, arguments_are_short es t.1)

pub expression_is_short : (e : TypedExpression) → HasShortCode e → expression_words e + 1 ≤ 16 * expressions_in e
expression_is_short e h = short e h.operands

-- ---- statements

short_set_local : (e : Option TypedExpression) → IfPresent (Throughout HasSmallOperands) e →
    set_local_words e ≤ 16 + 16 * expressions_in_option e
short_set_local None t = omega arith
short_set_local (Some e) t = omega (arith, short e t)

short_value : (e : Option TypedExpression) → IfPresent (Throughout HasSmallOperands) e →
    value_words e ≤ 16 * expressions_in_option e
short_value None t = omega arith
short_value (Some e) t = omega (arith, short e t)

short_condition : (c : Option TypedExpression) → IfPresent (Throughout HasSmallOperands) c →
    condition_words c ≤ 2 + 16 * expressions_in_option c
short_condition None t = omega arith
short_condition (Some c) t = omega (arith, short c t)

mutual
  unfolding Everywhere statement_words phrases_in EverywhereIn statements_words phrases_in_all EverywhereIf optional_words phrases_in_maybe else_words

  pub statement_is_short : (s : TypedStatement) → Everywhere StatementHasSmallOperands s → statement_words s ≤ 16 * phrases_in s
  statement_is_short (statements.evaluate e) t = omega (arith, short e t.expressions)
  statement_is_short (statements.set_local i e) t = omega (arith, short_set_local e t.expressions)
  statement_is_short (statements.set_variable x e) t = omega (arith, short e t.expressions)
  statement_is_short (statements.set_element a array_size line i e) t =
      omega (arith, check_index_at_most array_size line t.own.0 t.own.1, short i t.expressions.0, short e t.expressions.1)
  statement_is_short (statements.block body) t = omega (arith, statements_are_short body t.1)
  statement_is_short (statements.if_else c a b) t =
      omega (arith, short c t.0.expressions, statement_is_short a t.1, short_else b t.2)
  statement_is_short (statements.while_loop c body) t = omega (arith, short c t.0.expressions, statement_is_short body t.1)
  statement_is_short (statements.do_loop body c) t = omega (arith, short c t.0.expressions, statement_is_short body t.1)
  statement_is_short (statements.for_loop first c last body) t =
      omega (arith, short_condition c t.0.expressions, short_optional first t.1, short_optional last t.2, statement_is_short body t.3)
  statement_is_short (statements.returns e) t = omega (arith, short_value e t.expressions)
  statement_is_short statements.breaks t = omega arith
  statement_is_short statements.continues t = omega arith

  pub statements_are_short : (ss : TypedStatements) → EverywhereIn StatementHasSmallOperands ss →
      statements_words ss ≤ 16 * phrases_in_all ss
  statements_are_short statements.nil t = omega arith
  statements_are_short (statements.cons s ss) t = omega (arith, statement_is_short s t.0, statements_are_short ss t.1)

  pub short_optional : (s : OptionalTypedStatement) → EverywhereIf StatementHasSmallOperands s →
      optional_words s ≤ 16 * phrases_in_maybe s
  short_optional statements.absent t = omega arith
  short_optional (statements.present s) t = statement_is_short s t

  short_else : (s : OptionalTypedStatement) → EverywhereIf StatementHasSmallOperands s →
      else_words s ≤ 1 + 16 * phrases_in_maybe s
  short_else statements.absent t = omega arith
  short_else (statements.present s) t = omega (arith, statement_is_short s t)
