-- When a typed statement is well typed: its expressions and assignments, the locals that are known at each place, loops, and the
-- parts of a `for`.
use Rattle.std.specs.Prelude.{◌≡◌, ℕ, suc, ◌+◌, ◌^◌, ◌<◌, ◌≤◌, Bool, true, false, List, [], ◌∷◌, length, Option, Some, None, ⊤, slice_get}
use Rattle.pw_tree.specs.declared.ty.Ty.{Ty}
use Rattle.pw_tree.specs.TypedExpressions.{TypedExpression}
use Rattle.pw_tree.specs.TypedStatements.{TypedStatement, TypedStatements, OptionalTypedStatement, evaluate, set_local, set_variable, set_element, block, if_else, while_loop, do_loop, for_loop, returns, breaks, continues, nil, cons, absent, present}
use Rattle.pw_tree.specs.Units.{TypedUnit}
use Rattle.pw_tree.specs.WellTypedExpressions.{Class, nothing, number, pointer, class_of, class, IsValue, HasClass, HasFittingParts, ReadsKnown, HasSmallNumbers, Throughout, expressions_in}

-- ---- throughout statements

-- of an expression that may be absent
abbrev pub IfPresent : (TypedExpression → Type 0) → Option TypedExpression → Type 0
IfPresent P None = ⊤
IfPresent P (Some e) = P e

-- of the expressions that stand right in a statement
abbrev pub OfExpressions : (TypedExpression → Type 0) → TypedStatement → Type 0
OfExpressions P (evaluate e) = P e
OfExpressions P (set_local i e) = IfPresent P e
OfExpressions P (set_variable x e) = P e
OfExpressions P (set_element a size line i e) = P i × P e
OfExpressions P (block body) = ⊤
OfExpressions P (if_else c a b) = P c
OfExpressions P (while_loop c body) = P c
OfExpressions P (do_loop body c) = P c
OfExpressions P (for_loop first c last body) = IfPresent P c
OfExpressions P (returns e) = IfPresent P e
OfExpressions P breaks = ⊤
OfExpressions P continues = ⊤

unfoldable mutual
  -- this holds of the statement, and of each statement in it
  pub Everywhere : (TypedStatement → Type 0) → TypedStatement → Type 0
  Everywhere P (evaluate e) = P (evaluate e)
  Everywhere P (set_local i e) = P (set_local i e)
  Everywhere P (set_variable x e) = P (set_variable x e)
  Everywhere P (set_element a size line i e) = P (set_element a size line i e)
  Everywhere P (block body) = P (block body) × EverywhereIn P body
  Everywhere P (if_else c a b) = P (if_else c a b) × Everywhere P a × EverywhereIf P b
  Everywhere P (while_loop c body) = P (while_loop c body) × Everywhere P body
  Everywhere P (do_loop body c) = P (do_loop body c) × Everywhere P body
  Everywhere P (for_loop first c last body) =
      P (for_loop first c last body) × EverywhereIf P first × EverywhereIf P last × Everywhere P body
  Everywhere P (returns e) = P (returns e)
  Everywhere P breaks = P breaks
  Everywhere P continues = P continues

  -- in several statements
  pub EverywhereIn : (TypedStatement → Type 0) → TypedStatements → Type 0
  EverywhereIn P nil = ⊤
  EverywhereIn P (cons s ss) = Everywhere P s × EverywhereIn P ss

  -- in a statement that may be absent
  pub EverywhereIf : (TypedStatement → Type 0) → OptionalTypedStatement → Type 0
  EverywhereIf P absent = ⊤
  EverywhereIf P (present s) = Everywhere P s

-- ---- the classes of parts

-- a value where the result is one, and else none
abbrev pub ReturnFits : Class → Option TypedExpression → Type 0
ReturnFits result None = result ≡ nothing
ReturnFits result (Some e) = IsValue result × (class e ≡ result)

-- a condition is a value, where there is one
abbrev pub IsCondition : Option TypedExpression → Type 0
IsCondition None = ⊤
IsCondition (Some e) = IsValue (class e)

-- a local is one of the function's, and is set to a value of its class
abbrev pub LocalFits : List Class → ℕ → Option TypedExpression → Type 0
LocalFits classes i None = i < length classes
LocalFits classes i (Some e) = slice_get classes i ≡ Some (class e)

-- What a statement sets, tests and returns has the class that is asked for.
abbrev pub HasFittingClasses : TypedUnit → Class → List Class → TypedStatement → Type 0
HasFittingClasses unit result classes (evaluate e) = ⊤
HasFittingClasses unit result classes (set_local i e) = LocalFits classes i e
HasFittingClasses unit result classes (set_variable x e) = HasClass unit x None (class e)
HasFittingClasses unit result classes (set_element a size line i e) = HasClass unit a (Some size) (class e) × (class i ≡ number)
HasFittingClasses unit result classes (block body) = ⊤
HasFittingClasses unit result classes (if_else c a b) = IsValue (class c)
HasFittingClasses unit result classes (while_loop c body) = IsValue (class c)
HasFittingClasses unit result classes (do_loop body c) = IsValue (class c)
HasFittingClasses unit result classes (for_loop first c last body) = IsCondition c
HasFittingClasses unit result classes (returns e) = ReturnFits result e
HasFittingClasses unit result classes breaks = ⊤
HasFittingClasses unit result classes continues = ⊤

-- and so have the parts of its expressions
pub record StatementFits (unit : TypedUnit) (result : Class) (classes : List Class) (s : TypedStatement) : Type 0 where
  pub classes_fit : HasFittingClasses unit result classes s
  pub parts : OfExpressions (Throughout (HasFittingParts unit classes)) s

-- ---- the locals that are read

-- those known after a statement of a list, or after the first part of a `for`: one more where it sets or declares a local
abbrev pub known_after : TypedStatement → List ℕ → List ℕ
known_after (set_local i e) known = i ∷ known
known_after s known = known

-- those known after a statement that may be absent
abbrev pub known_after_maybe : OptionalTypedStatement → List ℕ → List ℕ
known_after_maybe absent known = known
known_after_maybe (present s) known = known_after s known

-- only these locals are read in an expression
abbrev pub ExpressionReads : List ℕ → TypedExpression → Type 0
ExpressionReads known e = Throughout (ReadsKnown known) e

unfoldable mutual
  -- Where these locals are known, only known ones are read: those, and one that an earlier item of a list round the place sets,
  -- or the first part of a `for` round it.
  pub StatementReads : List ℕ → TypedStatement → Type 0
  StatementReads known (evaluate e) = ExpressionReads known e
  StatementReads known (set_local i e) = IfPresent (ExpressionReads known) e
  StatementReads known (set_variable x e) = ExpressionReads known e
  StatementReads known (set_element a size line i e) = ExpressionReads known i × ExpressionReads known e
  StatementReads known (block body) = StatementsRead known body
  StatementReads known (if_else c a b) = ExpressionReads known c × StatementReads known a × MaybeReads known b
  StatementReads known (while_loop c body) = ExpressionReads known c × StatementReads known body
  StatementReads known (do_loop body c) = StatementReads known body × ExpressionReads known c
  StatementReads known (for_loop first c last body) =
      MaybeReads known first
      × IfPresent (ExpressionReads (known_after_maybe first known)) c
      × MaybeReads (known_after_maybe first known) last
      × StatementReads (known_after_maybe first known) body
  StatementReads known (returns e) = IfPresent (ExpressionReads known) e
  StatementReads known breaks = ⊤
  StatementReads known continues = ⊤

  -- each statement of a list reads what is known after those before it
  pub StatementsRead : List ℕ → TypedStatements → Type 0
  StatementsRead known nil = ⊤
  StatementsRead known (cons s ss) = StatementReads known s × StatementsRead (known_after s known) ss

  -- of a statement that may be absent
  pub MaybeReads : List ℕ → OptionalTypedStatement → Type 0
  MaybeReads known absent = ⊤
  MaybeReads known (present s) = StatementReads known s

-- ---- loops

unfoldable mutual
  -- `break` and `continue` stand in the body of a loop; `in_loop` says that the statement does
  pub LeavesLoops : Bool → TypedStatement → Type 0
  LeavesLoops in_loop (evaluate e) = ⊤
  LeavesLoops in_loop (set_local i e) = ⊤
  LeavesLoops in_loop (set_variable x e) = ⊤
  LeavesLoops in_loop (set_element a size line i e) = ⊤
  LeavesLoops in_loop (block body) = AllLeaveLoops in_loop body
  LeavesLoops in_loop (if_else c a b) = LeavesLoops in_loop a × MaybeLeavesLoops in_loop b
  LeavesLoops in_loop (while_loop c body) = LeavesLoops true body
  LeavesLoops in_loop (do_loop body c) = LeavesLoops true body
  LeavesLoops in_loop (for_loop first c last body) = LeavesLoops true body
  LeavesLoops in_loop (returns e) = ⊤
  LeavesLoops in_loop breaks = in_loop ≡ true
  LeavesLoops in_loop continues = in_loop ≡ true

  -- of several statements
  pub AllLeaveLoops : Bool → TypedStatements → Type 0
  AllLeaveLoops in_loop nil = ⊤
  AllLeaveLoops in_loop (cons s ss) = LeavesLoops in_loop s × AllLeaveLoops in_loop ss

  -- of a statement that may be absent
  pub MaybeLeavesLoops : Bool → OptionalTypedStatement → Type 0
  MaybeLeavesLoops in_loop absent = ⊤
  MaybeLeavesLoops in_loop (present s) = LeavesLoops in_loop s

-- ---- the parts of a `for`

-- an expression, an assignment, or the declaration of a local
abbrev pub IsSimpleTyped : TypedStatement → Type 0
IsSimpleTyped (evaluate e) = ⊤
IsSimpleTyped (set_local i e) = ⊤
IsSimpleTyped (set_variable x e) = ⊤
IsSimpleTyped (set_element a size line i e) = ⊤
IsSimpleTyped s = ⊥

-- the same, and a local that it sets has a value
abbrev pub IsSimpleTypedLast : TypedStatement → Type 0
IsSimpleTypedLast (set_local i None) = ⊥
IsSimpleTypedLast s = IsSimpleTyped s

-- the first part of a `for` is simple, where there is one
abbrev pub IsTypedFirstPart : OptionalTypedStatement → Type 0
IsTypedFirstPart absent = ⊤
IsTypedFirstPart (present s) = IsSimpleTyped s

-- the last part of a `for` is simple and no declaration, where there is one
abbrev pub IsTypedLastPart : OptionalTypedStatement → Type 0
IsTypedLastPart absent = ⊤
IsTypedLastPart (present s) = IsSimpleTypedLast s

-- the first and the last part of a `for` are simple
abbrev pub HasSimpleParts : TypedStatement → Type 0
HasSimpleParts (for_loop first c last body) = IsTypedFirstPart first × IsTypedLastPart last
HasSimpleParts s = ⊤

-- ---- numbers

-- the line of `[` has 32 bits
abbrev pub HasSmallLine : TypedStatement → Type 0
HasSmallLine (set_element a size line i e) = line < 2 ^ 32
HasSmallLine s = ⊤

-- The numbers of a statement, and of the expressions right in it, are within their limits.
pub record StatementHasSmallNumbers (s : TypedStatement) : Type 0 where
  pub line : HasSmallLine s
  pub expressions : OfExpressions (Throughout HasSmallNumbers) s

-- ---- how many phrases

-- in an expression that may be absent
abbrev pub expressions_in_option : Option TypedExpression → ℕ
expressions_in_option None = 0
expressions_in_option (Some e) = expressions_in e

unfoldable mutual
  -- how many expressions and statements there are in a statement, itself included
  pub phrases_in : TypedStatement → ℕ
  phrases_in (evaluate e) = suc (expressions_in e)
  phrases_in (set_local i e) = suc (expressions_in_option e)
  phrases_in (set_variable x e) = suc (expressions_in e)
  phrases_in (set_element a size line i e) = suc (expressions_in i + expressions_in e)
  phrases_in (block body) = suc (phrases_in_all body)
  phrases_in (if_else c a b) = suc (expressions_in c + (phrases_in a + phrases_in_maybe b))
  phrases_in (while_loop c body) = suc (expressions_in c + phrases_in body)
  phrases_in (do_loop body c) = suc (phrases_in body + expressions_in c)
  phrases_in (for_loop first c last body) =
      suc (phrases_in_maybe first + (expressions_in_option c + (phrases_in_maybe last + phrases_in body)))
  phrases_in (returns e) = suc (expressions_in_option e)
  phrases_in breaks = 1
  phrases_in continues = 1

  -- in several statements
  pub phrases_in_all : TypedStatements → ℕ
  phrases_in_all nil = 0
  phrases_in_all (cons s ss) = phrases_in s + phrases_in_all ss

  -- in a statement that may be absent
  pub phrases_in_maybe : OptionalTypedStatement → ℕ
  phrases_in_maybe absent = 0
  phrases_in_maybe (present s) = phrases_in s
