-- The faults of an expression as the checker meets them: those of its parts in order of text, then its own by ascending rule.
use Rattle.std.specs.Prelude.{List, [], ◌++◌, Option, Some, None}
use Rattle.pw_tree.specs.declared.ty.Ty.{Ty}
use Rattle.pw_tree.specs.Expressions.{Expression, Expressions, constant, word, unary, binary, conditional, call, index, input, output, nil, cons}
use Rattle.pw_types.specs.declared.role.Role.{Role}
use Rattle.pw_types.specs.declared.role.Role.TheVariants.{Value, Callee, Base, Argument, Written}
use Rattle.pw_types.specs.declared.fault.Fault.{Fault}
use Rattle.pw_types.specs.Scopes.{Scope}
use Rattle.pw_types.specs.Typed.{function_of, parameters_of, Designated}
use Rattle.pw_types.specs.Expressions.{own, callee_in, first_parameter, other_parameters}

-- a function's name as a callee is no value that is judged
abbrev pub unless_direct : Option Designated → List Fault → List Fault
unless_direct (Some f) faults = []
unless_direct None faults = faults

unfoldable mutual
  -- the faults of an expression
  pub faults : Scope → Role → Expression → List Fault
  faults scope role (constant at v unsigned) = own scope role (constant at v unsigned)
  faults scope role (word at name) = own scope role (word at name)
  faults scope role (unary at op e) = faults scope Value e ++ own scope role (unary at op e)
  faults scope role (binary at op l r) = faults scope Value l ++ (faults scope Value r ++ own scope role (binary at op l r))
  faults scope role (conditional at c a b) =
      faults scope Value c ++ (faults scope Value a ++ (faults scope Value b ++ own scope role (conditional at c a b)))
  faults scope role (call at f es) =
      unless_direct (function_of scope f) (faults scope Callee f)
      ++ (faults_of_arguments scope (parameters_of (callee_in scope f)) es ++ own scope role (call at f es))
  faults scope role (index at b i) = faults scope Base b ++ (faults scope Value i ++ own scope role (index at b i))
  faults scope role (input at) = own scope role (input at)
  faults scope role (output at e) = faults scope Written e ++ own scope role (output at e)

  -- the faults of arguments, where these parameters are left
  pub faults_of_arguments : Scope → Option (List Ty) → Expressions → List Fault
  faults_of_arguments scope params nil = []
  faults_of_arguments scope params (cons e es) =
      faults scope (Argument (first_parameter params)) e ++ faults_of_arguments scope (other_parameters params) es
