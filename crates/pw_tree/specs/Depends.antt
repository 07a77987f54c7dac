-- Which functions a function depends on: those that its body names, called or not.
use Rattle.std.specs.Prelude.{◌≡◌, List, [], ◌∷◌, ◌++◌, Option, Some, None, Contains, codes}
use Rattle.pw_tree.specs.TypedExpressions.{TypedExpression, TypedExpressions, constant, local, variable, designator, element, unary, binary, conditional, call, call_pointer, input, output, nil, cons}
use Rattle.pw_tree.specs.TypedStatements.{TypedStatement, TypedStatements, OptionalTypedStatement, evaluate, set_local, set_variable, set_element, block, if_else, while_loop, do_loop, for_loop, returns, breaks, continues, nil, cons, absent, present}
use Rattle.pw_tree.specs.Names.{Project, Definition, function, definition_of, resolved}
use Rattle.pw_tree.specs.Meaning.{called_function}
use Rattle.pw_tree.specs.declared.ty.Ref.{Ref}

-- The names of functions and variables in an expression, in order of text, and in several.
abbrev mutual
  pub names_in : TypedExpression → List Ref
  names_in (constant at value) = []
  names_in (local at i) = []
  names_in (variable at x) = x ∷ []
  names_in (designator at f) = f ∷ []
  names_in (element at x size i) = x ∷ names_in i
  names_in (unary at op e) = names_in e
  names_in (binary at op unsigned l r) = names_in l ++ names_in r
  names_in (conditional at c a b) = names_in c ++ names_in a ++ names_in b
  names_in (call at f es) = f ∷ names_in_all es
  names_in (call_pointer at e es) = names_in e ++ names_in_all es
  names_in (input at) = []
  names_in (output at e) = names_in e

  -- Those of several expressions.
  pub names_in_all : TypedExpressions → List Ref
  names_in_all nil = []
  names_in_all (cons e es) = names_in e ++ names_in_all es

-- The names in an expression that may be absent.
abbrev pub names_in_option : Option TypedExpression → List Ref
names_in_option None = []
names_in_option (Some e) = names_in e

-- The names of functions and variables in a statement, in order of text, in several, and in one that may be absent.
abbrev mutual
  pub names_of : TypedStatement → List Ref
  names_of (evaluate e) = names_in e
  names_of (set_local i e) = names_in_option e
  names_of (set_variable x e) = x ∷ names_in e
  names_of (set_element x size line i e) = x ∷ (names_in i ++ names_in e)
  names_of (block body) = names_of_all body
  names_of (if_else c a b) = names_in c ++ names_of a ++ names_of_maybe b
  names_of (while_loop c body) = names_in c ++ names_of body
  names_of (do_loop body c) = names_of body ++ names_in c
  names_of (for_loop first c last body) =
      names_of_maybe first ++ names_in_option c ++ names_of_maybe last ++ names_of body
  names_of (returns e) = names_in_option e
  names_of breaks = []
  names_of continues = []

  -- Those of several statements.
  pub names_of_all : TypedStatements → List Ref
  names_of_all nil = []
  names_of_all (cons s ss) = names_of s ++ names_of_all ss

  -- Those of a statement that may be absent.
  pub names_of_maybe : OptionalTypedStatement → List Ref
  names_of_maybe absent = []
  names_of_maybe (present s) = names_of s

-- A function of a project: one that is defined, or the program's entry, which no source holds.
pub data Node : Type 0 where
  entry : Node
  defined : Definition → Node

-- A function depends on another where a name in its body resolves to it; the entry depends on `main` alone.
abbrev pub Depends : Project → Node → Definition → Type 0
Depends project entry g = definition_of project (codes "main") ≡ Some (function g)
Depends project (defined f) g =
    (name : Ref) × Contains (names_of_all (called_function project f).body) name × (resolved project f.in_module f.in_unit name ≡ Some (function g))
