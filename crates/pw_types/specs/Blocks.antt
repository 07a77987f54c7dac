-- Where a statement stands: what is visible, and how blocks and declarations change it (C17, 6.2.1).
use Rattle.std.specs.Prelude.{ℕ, suc, ◌+◌, Bool, false, true, List, [], ◌∷◌, ◌++◌, length, drop, is_some}
use Rattle.pw_tree.specs.declared.ty.Ty.{Ty}
use Rattle.pw_tree.specs.Statements.{Statement, Statements, OptionalStatement, empty, block, local, set, evaluate, if_else, while_loop, do_loop, for_loop, returns, breaks, continues, nil, cons, absent, present}
use Rattle.pw_types.specs.Scopes.{Scope, local_named}

-- What a function's statements have in common: its result's type and the line of each token of the unit. And whether a loop
-- is round a statement, and whether it is a part of a `for`, which ends without `;`.
pub record Setting : Type 0 where
  pub result : Ty
  pub lines : List ℕ
  pub in_loop : Bool
  pub in_head : Bool

-- a statement in another, in a loop's body, and as a part of a `for`
abbrev pub part : Setting → Setting
part x = record x { in_head = false }

-- a loop's body
abbrev pub body : Setting → Setting
body x = record x { in_loop = true; in_head = false }

-- the first or last part of a `for`
abbrev pub head : Setting → Setting
head x = record x { in_head = true }

-- Where a statement stands: what is visible, where the block's own locals begin among those visible, and how many the
-- function has so far.
pub record Block : Type 0 where
  pub scope : Scope
  pub start : ℕ
  pub count : ℕ

-- a block in another
abbrev pub inner : Block → Block
inner b = record b { start = length b.scope.locals }

-- a local of this name stands in this block
abbrev pub has_own : Block → List ℕ → Bool
has_own b name = is_some (local_named name (drop b.start b.scope.locals))

-- the locals with one more
abbrev pub with_local : List ℕ → Ty → ℕ → Scope → Scope
with_local name ty number scope =
    record scope { locals = scope.locals ++ record { name = name; ty = ty; number = number } ∷ [] }

-- after a local's declaration
abbrev pub declaring : List ℕ → Ty → Block → Block
declaring name ty b = record b { scope = with_local name ty b.count b.scope; count = suc b.count }

unfoldable mutual
  -- how many locals a statement declares
  pub locals_in : Statement → ℕ
  locals_in (empty at) = 0
  locals_in (block at ss) = locals_in_all ss
  locals_in (local at ty name e) = 1
  locals_in (set at name i e) = 0
  locals_in (evaluate at e) = 0
  locals_in (if_else at c a b) = locals_in a + locals_in_maybe b
  locals_in (while_loop at c s) = locals_in s
  locals_in (do_loop at s c) = locals_in s
  locals_in (for_loop at first c last s) = locals_in_maybe first + (locals_in_maybe last + locals_in s)
  locals_in (returns at e) = 0
  locals_in (breaks at) = 0
  locals_in (continues at) = 0

  -- how many those of a list declare
  pub locals_in_all : Statements → ℕ
  locals_in_all nil = 0
  locals_in_all (cons s ss) = locals_in s + locals_in_all ss

  -- how many one declares that may be missing
  pub locals_in_maybe : OptionalStatement → ℕ
  locals_in_maybe absent = 0
  locals_in_maybe (present s) = locals_in s

-- after statements that declare so many locals, none of which is visible any longer
abbrev pub past : ℕ → Block → Block
past n b = record b { count = b.count + n }

-- after a statement: a declaration is visible from here on
abbrev pub after : Statement → Block → Block
after (local at ty name e) b = declaring name ty b
after (empty at) b = b
after (block at ss) b = past (locals_in_all ss) b
after (set at name i e) b = b
after (evaluate at e) b = b
after (if_else at c a d) b = past (locals_in (if_else at c a d)) b
after (while_loop at c s) b = past (locals_in s) b
after (do_loop at s c) b = past (locals_in s) b
after (for_loop at first c last s) b = past (locals_in (for_loop at first c last s)) b
after (returns at e) b = b
after (breaks at) b = b
after (continues at) b = b

-- after a statement that may be missing
abbrev pub after_maybe : OptionalStatement → Block → Block
after_maybe absent b = b
after_maybe (present s) b = after s b
