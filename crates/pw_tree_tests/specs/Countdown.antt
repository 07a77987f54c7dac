-- A unit with a loop, a local, a static function and a variable.
use Rattle.std.specs.Prelude.{false, [], ◌∷◌, Some, None}
use Rattle.pw_tree.specs.TypedExpressions.{constant, local, variable, binary, unary, call_pointer}
use Rattle.pw_tree.specs.TypedExpressions as tree
use Rattle.pw_tree.specs.TypedStatements.{set_local, if_else, for_loop, returns, breaks, continues, present}
use Rattle.pw_tree.specs.Units.{TypedUnit}
use Rattle.pw_tree.specs.declared.operator.Un.TheVariants.{Bang}
use Rattle.pw_tree.specs.declared.operator.Bin.TheVariants.{Sub, Gt}
use Rattle.pw_tree.specs.declared.ty.Ty.TheVariants.{Long, Fn}
use Rattle.pw_tree.specs.declared.ty.Ref.TheVariants.{LocalFun, LocalVar}
use Rattle.pw_tree.specs.declared.tunit.Init.TheVariants.{Fun}
use Rattle.pw_tree_tests.specs.Units.{at, at_pointer, static_function}

-- static fn1 p = f;
-- static long f(long n) { for (long i = n; i > 0; i = i - 1) if (!i) break; else continue; return p(n); }
abbrev pub countdown : TypedUnit
countdown = record {
  functions = record (static_function (Long ∷ []) 2 (
      for_loop
      (present (set_local 1 (Some (local (at 2) 0))))
      (Some (binary (at 2) Gt false (local (at 2) 1) (constant (at 2) 0)))
      (present (set_local 1 (Some (binary (at 2) Sub false (local (at 2) 1) (constant (at 2) 1)))))
      (if_else (unary (at 2) Bang (local (at 2) 1)) breaks (present continues))
      ∷ returns (Some (call_pointer (at 2) (variable (at_pointer 1 2) (LocalVar 0)) (tree.cons (local (at 2) 0) tree.nil)))
      ∷ [])) { held = 1 } ∷ [];
  variables = record { name = 112 ∷ []; global = false; ty = Fn 1; count = None; init = Some (Fun (LocalFun 0) ∷ []) } ∷ [];
  names = [];
}
