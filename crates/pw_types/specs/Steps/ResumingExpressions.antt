-- What is still to be done when a part of an expression is judged, by the frames that wait for it.
use Rattle.std.specs.Prelude.{◌≡◌, ℕ, ◌+◌, List, [], ◌∷◌, map, replicate, ⊤, Result, Ok, Err}
use Rattle.pw_tree.specs.declared.ty.Ty.{Ty}
use Rattle.pw_tree.specs.declared.ty.Ty.TheVariants.{Long}
use Rattle.pw_tree.specs.Expressions.{Expression, Expressions, constant, word, unary, binary, conditional, call, index, input, output, nil, cons, expression_of, expressions_of}
use Rattle.pw_tree.specs.TypedExpressions.{typed_expression_of}
use Rattle.pw_types.specs.declared.role.Role.TheVariants.{Value, Callee, Base}
use Rattle.pw_types.specs.declared.fault.Refusal.{Refusal}
use Rattle.pw_types.specs.declared.fault.Refusal.TheVariants as refusals
use Rattle.pw_types.specs.declared.typed.Typed.{Typed}
use Rattle.pw_types.specs.declared.expression_step.Head.{Head}
use Rattle.pw_types.specs.declared.expression_step.Array as rust_array
use Rattle.pw_types.specs.declared.expression_step.CallTarget.{CallTarget}
use Rattle.pw_types.specs.declared.expression_step.CallTarget.TheVariants.{Direct, Through}
use Rattle.pw_types.specs.declared.expression_step.Call.{Call}
use Rattle.pw_types.specs.declared.expression_step.Arguments.{Arguments}
use Rattle.pw_types.specs.declared.expression_step.Parameters.{Parameters}
use Rattle.pw_types.specs.declared.expression_step.Parameters.TheVariants.{Listed, Longs}
use Rattle.pw_types.specs.declared.expression_step.ExpressionFrame.{ExpressionFrame}
use Rattle.pw_types.specs.declared.expression_step.ExpressionFrame.TheVariants.{Operand, Left, Right, Condition, First, Second, Argument, Index, Written}
use Rattle.pw_types.specs.declared.expression_step.ExpressionFrame.TheVariants as frames
use Rattle.pw_types.specs.declared.expression_step.ExpressionStep.{ExpressionStep}
use Rattle.pw_types.specs.declared.expression_step.ExpressionStep.TheVariants.{Part, Instead, Done}
use Rattle.pw_types.specs.Scopes.{Scope}
use Rattle.pw_types.specs.Typed.{Array, array_of, Designated, function_of}
use Rattle.pw_types.specs.Steps.Uses.{uses}
use Rattle.pw_types.specs.Steps.Judging.{JudgeResult, Judge, judge_then, ◌>>=◌, pure, refuse, noting, on_option}
use Rattle.pw_types.specs.Steps.CheckingExpressions.{Valued, Aim, named, through, Calling, Taken, unary_operation_value, binary_operation_value, choice_value, element_value, output_value, taking, none_taken, calling, direct_call, pointer_call, checked, checked_arguments}

-- ---- plain values

-- a typed expression
abbrev pub valued : Typed → Valued
valued t = record { tree = typed_expression_of t.tree; held = t.held }

-- an array
abbrev pub plain_array : rust_array.Array → Array
plain_array a = record { reference = a.reference; ty = a.ty; size = a.size }

-- what is called
abbrev pub aim_of : CallTarget → Aim
aim_of (Direct f ty) = named f ty
aim_of (Through t) = through (valued t)

-- a call
abbrev pub calling_of : Call → Calling
calling_of c = record { head = c.head; aim = aim_of c.target; other_count = c.other_count }

-- arguments that were judged
abbrev pub taken_of : Arguments → Taken
taken_of a = record { trees = map typed_expression_of a.trees; held = a.held }

-- the types of the parameters that are left
abbrev pub listed : Parameters → List Ty
listed (Listed tys) = tys.now
listed (Longs k) = replicate k Long

-- ---- calls

-- a call, from its first argument on
abbrev pub begun : Scope → Head → Aim → List Ty → Expressions → Judge Valued
begun scope h aim params es = checked_arguments scope (calling h aim params es) none_taken params es

-- a call of a function by its name, from its first argument on
abbrev pub direct_call_from : Scope → Head → Designated → Expressions → Judge Valued
direct_call_from scope h d es = direct_call h es (λ c params. checked_arguments scope c none_taken params es) d

-- a call through a pointer, from its first argument on
abbrev pub pointer_call_from : Scope → Head → Expressions → Valued → Judge Valued
pointer_call_from scope h es v = pointer_call h es (λ c params. checked_arguments scope c none_taken params es) v

-- a call, from its callee on
abbrev pub call_from : Scope → Head → Expression → Expressions → Judge Valued
call_from scope h f es = on_option (function_of scope f)
    (checked scope Callee f >>= pointer_call_from scope h es) (λ d. noting (uses scope f) (direct_call_from scope h d es))

-- an element, from its base on
abbrev pub index_from : Scope → Head → Expression → Expression → Judge Valued
index_from scope h b i = on_option (array_of scope b) (checked scope Base b)
    (λ a. noting (uses scope b) (checked scope Value i >>= element_value h a))

-- ---- frames

-- what comes after the part that a frame waits for
abbrev pub resumed : Scope → ExpressionFrame → Valued → Judge Valued
resumed scope (Operand h op) v = unary_operation_value h op v
resumed scope (Left h op r) v = checked scope Value (expression_of r.now) >>= binary_operation_value h op v
resumed scope (Right h op l) v = binary_operation_value h op (valued l) v
resumed scope (Condition h a b) v =
    checked scope Value (expression_of a.now) >>= (λ x. checked scope Value (expression_of b.now) >>= choice_value h v x)
resumed scope (First h c b) v = checked scope Value (expression_of b.now) >>= choice_value h (valued c) v
resumed scope (Second h c a) v = choice_value h (valued c) (valued a) v
resumed scope (frames.Callee h es) v = pointer_call_from scope h (expressions_of es.now) v
resumed scope (Argument c taken params rest) v =
    checked_arguments scope (calling_of c) (taking (taken_of taken) v) (listed params) (expressions_of rest.now)
resumed scope (Index h a) v = element_value h (plain_array a) v
resumed scope (Written h) v = output_value h v

-- the outcome of the whole, where the innermost frame, which is the last, waits for a part of this outcome
unfoldable pub resume : Scope → List ExpressionFrame → JudgeResult Valued → JudgeResult Valued
resume scope [] outcome = outcome
resume scope (f ∷ fs) outcome = judge_then (resume scope fs outcome) (resumed scope f)

-- what a step leads to
abbrev pub continued : Scope → ExpressionStep → Judge Valued
continued scope (Part frame role e) = checked scope role (expression_of e.now) >>= resumed scope frame
continued scope (Instead role e) = checked scope role (expression_of e.now)
continued scope (Done t) = pure (valued t)

-- what judging gives, or the fault
abbrev pub Gives : Judge Valued → Result Typed Refusal → Type 0
Gives p (Ok t) = p ≡ pure (valued t)
Gives p (Err (refusals.Fault f)) = p ≡ refuse f
Gives p (Err refusals.NoMemory) = ⊤

-- the same after the names that were used on the way
abbrev pub GivesWith : Judge Valued → List ℕ → List ℕ → Result Typed Refusal → Type 0
GivesWith p old new (Ok t) = p old ≡ Ok (valued t, new)
GivesWith p old new (Err (refusals.Fault f)) = p old ≡ Err f
GivesWith p old new (Err refusals.NoMemory) = ⊤

-- what a step leads to, or the fault
abbrev pub Continues : Scope → Judge Valued → Result ExpressionStep Refusal → Type 0
Continues scope p (Ok step) = p ≡ continued scope step
Continues scope p (Err (refusals.Fault f)) = p ≡ refuse f
Continues scope p (Err refusals.NoMemory) = ⊤

-- the same in every scope
abbrev pub ContinuesInEach : (Scope → Judge Valued) → Result ExpressionStep Refusal → Type 0
ContinuesInEach p result = (scope : Scope) → Continues scope (p scope) result

-- the same after the names that were used on the way
abbrev pub ContinuesWith : Scope → Judge Valued → List ℕ → List ℕ → Result ExpressionStep Refusal → Type 0
ContinuesWith scope p old new (Ok step) = p old ≡ continued scope step new
ContinuesWith scope p old new (Err (refusals.Fault f)) = p old ≡ Err f
ContinuesWith scope p old new (Err refusals.NoMemory) = ⊤

-- ---- how much is still to be done

unfoldable mutual
  -- of an expression
  pub size : Expression → ℕ
  size (constant at value unsigned) = 1
  size (word at name) = 1
  size (unary at op e) = 2 + size e
  size (binary at op l r) = 3 + (size l + size r)
  size (conditional at c a b) = 4 + (size c + (size a + size b))
  size (call at f es) = 3 + (size f + sizes es)
  size (index at b i) = 2 + (size b + size i)
  size (input at) = 1
  size (output at e) = 2 + size e

  -- of several expressions
  pub sizes : Expressions → ℕ
  sizes nil = 0
  sizes (cons e es) = 2 + (size e + sizes es)

-- of a frame that waits
abbrev pub frame_size : ExpressionFrame → ℕ
frame_size (Operand h op) = 1
frame_size (Left h op r) = 2 + size (expression_of r.now)
frame_size (Right h op l) = 1
frame_size (Condition h a b) = 3 + (size (expression_of a.now) + size (expression_of b.now))
frame_size (First h c b) = 2 + size (expression_of b.now)
frame_size (Second h c a) = 1
frame_size (frames.Callee h es) = 2 + sizes (expressions_of es.now)
frame_size (Argument c taken params rest) = 1 + sizes (expressions_of rest.now)
frame_size (Index h a) = 1
frame_size (Written h) = 1

-- of a step
abbrev pub step_size : ExpressionStep → ℕ
step_size (Part frame role e) = frame_size frame + size (expression_of e.now)
step_size (Instead role e) = size (expression_of e.now)
step_size (Done t) = 0

-- of several frames
unfoldable pub frames_size : List ExpressionFrame → ℕ
frames_size [] = 0
frames_size (f ∷ fs) = frame_size f + frames_size fs
