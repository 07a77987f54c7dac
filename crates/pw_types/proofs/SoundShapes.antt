-- The typed statements of a body without faults: loops are left from within, the parts of a `for` are simple, numbers are small,
-- few values are held, and there are no more phrases than tokens.
use Rattle.std.proofs.Common.{◌≡◌, ℕ, zero, suc, ◌+◌, ◌-◌, ◌^◌, ◌≤◌, ◌<◌, Bool, true, false, List, [], ◌∷◌, Option, Some, None, refl, sym, subst, arith}
use Rattle.std.specs.Prelude.{⊤, slice_index_or, option_map}
use Rattle.std.specs.List.{AllByRecursion}
use Rattle.pw_tree.specs.declared.ty.Ty.{Ty}
use Rattle.pw_tree.specs.Expressions.{Span, Expression}
use Rattle.pw_tree.specs.Statements.{Statement, Statements, OptionalStatement, empty, block, local, set, evaluate, if_else, while_loop, do_loop, for_loop, returns, breaks, continues, nil, cons, absent, present}
use Rattle.pw_tree.specs.TypedStatements.{TypedStatement}
use Rattle.pw_tree.specs.TypedStatements as tree
use Rattle.pw_tree.specs.Held.{held_option, held_by, held_by_all, held_by_maybe}
use Rattle.pw_tree.specs.Placed.{token_after_option, statement_span, token_after_statement, token_after_maybe, set_end, IsOptionPlaced, IsSetPlaced, IsStatementPlaced, AreStatementsPlaced, IsMaybePlaced}
use Rattle.pw_tree.specs.Proper.{IsSimpleStatement, IsSimpleOrDeclaration, IsFirstPart, IsLastPart, IsProper, AreProper, IsMaybeProper, HasNumbers, HasOptionNumbers, HasStatementNumbers, HaveStatementNumbers, HasMaybeNumbers}
use Rattle.pw_tree.specs.WellTypedExpressions.{HasSmallNumbers, Throughout}
use Rattle.pw_tree.specs.WellTypedStatements.{IfPresent, Everywhere, EverywhereIn, EverywhereIf, LeavesLoops, AllLeaveLoops, MaybeLeavesLoops, HasSimpleParts, StatementHasSmallNumbers, expressions_in_option, phrases_in, phrases_in_all, phrases_in_maybe}
use Rattle.pw_tree.specs.WellTypedStatements as typed
use Rattle.pw_types.specs.declared.role.Role.{Role}
use Rattle.pw_types.specs.declared.role.Role.TheVariants.{Value, Assigned}
use Rattle.pw_types.specs.Scopes.{Scope}
use Rattle.pw_types.specs.Blocks.{Setting, part, body, head, Block, inner, after, after_maybe}
use Rattle.pw_types.specs.TypedStatements.{typed_expression, typed_statement, typed_statements, optional_typed_statement}
use Rattle.pw_types.proofs.StandingExpressions.{placed_within}
use Rattle.pw_types.proofs.StandingStatements.{name_after, statement_within}
use Rattle.pw_types.proofs.Fitting.{numbers_small, expression_counted}
use Rattle.pw_types.proofs.SoundStatements.{IsOptionWhole, SoundSet, set_to_local, set_to_variable, set_to_element, Returns, IsSound, AreSound, IsMaybeSound}

-- ---- loops

set_leaves : {x : Setting} {scope : Scope} {at : Span} {name : List ℕ} {i : Option Expression} {e : Expression}
    {t : TypedStatement} (in_loop : Bool) →
    SoundSet x scope at name i e t → LeavesLoops in_loop t
unfolding LeavesLoops
set_leaves in_loop (set_to_local name l e is typed_as few) = tt
set_leaves in_loop (set_to_variable name f ty e is kind typed_as few) = tt
set_leaves in_loop (set_to_element name f ty size i e is kind index numeric value few) = tt

mutual
  unfolding IsSound typed_statement LeavesLoops

  leaves_loops : (x : Setting) (b : Block) (s : Statement) → IsSound x b s → LeavesLoops x.in_loop (typed_statement x b s)
  leaves_loops x b (empty at) h = tt
  leaves_loops x b (block at ss) h = all_leave_loops (part x) (inner b) ss h
  leaves_loops x b (local at ty name e) h = tt
  leaves_loops x b (set at name i e) h = set_leaves x.in_loop h
  leaves_loops x b (evaluate at e) h = tt
  leaves_loops x b (if_else at c a d) h = (leaves_loops (part x) b a h.1, maybe_leaves_loops (part x) (after a b) d h.2)
  leaves_loops x b (while_loop at c s) h = leaves_loops (body x) b s h.1
  leaves_loops x b (do_loop at s c) h = leaves_loops (body x) b s h.0
  leaves_loops x b (for_loop at first c last s) h = leaves_loops (body x) (after_maybe last (after_maybe first (inner b))) s h.3
  leaves_loops x b (returns at e) h = tt
  leaves_loops x b (breaks at) h = h
  leaves_loops x b (continues at) h = h

  pub all_leave_loops : (x : Setting) (b : Block) (ss : Statements) → AreSound x b ss →
      AllLeaveLoops x.in_loop (typed_statements x b ss)
  all_leave_loops x b nil h = tt
  all_leave_loops x b (cons s ss) h = (leaves_loops x b s h.0, all_leave_loops x (after s b) ss h.1)

  maybe_leaves_loops : (x : Setting) (b : Block) (s : OptionalStatement) → IsMaybeSound x b s →
      MaybeLeavesLoops x.in_loop (optional_typed_statement x b s)
  maybe_leaves_loops x b absent h = tt
  maybe_leaves_loops x b (present s) h = leaves_loops x b s h

-- ---- the parts of a `for`

set_simple : {x : Setting} {scope : Scope} {at : Span} {name : List ℕ} {i : Option Expression} {e : Expression} {t : TypedStatement} →
    SoundSet x scope at name i e t → typed.IsSimpleTypedLast t
set_simple (set_to_local name l e is typed_as few) = tt
set_simple (set_to_variable name f ty e is kind typed_as few) = tt
set_simple (set_to_element name f ty size i e is kind index numeric value few) = tt

set_simple_first : {x : Setting} {scope : Scope} {at : Span} {name : List ℕ} {i : Option Expression} {e : Expression} {t : TypedStatement} →
    SoundSet x scope at name i e t → typed.IsSimpleTyped t
set_simple_first (set_to_local name l e is typed_as few) = tt
set_simple_first (set_to_variable name f ty e is kind typed_as few) = tt
set_simple_first (set_to_element name f ty size i e is kind index numeric value few) = tt

set_parts : {x : Setting} {scope : Scope} {at : Span} {name : List ℕ} {i : Option Expression} {e : Expression} {t : TypedStatement} →
    SoundSet x scope at name i e t → Everywhere HasSimpleParts t
unfolding Everywhere
set_parts (set_to_local name l e is typed_as few) = tt
set_parts (set_to_variable name f ty e is kind typed_as few) = tt
set_parts (set_to_element name f ty size i e is kind index numeric value few) = tt

simple_last : (x : Setting) (b : Block) (s : Statement) → IsSimpleStatement s → IsSound x b s →
    typed.IsSimpleTypedLast (typed_statement x b s)
unfolding IsSound typed_statement
simple_last x b (set at name i e) p h = set_simple h
simple_last x b (evaluate at e) p h = tt
simple_last x b (empty at) p h = absurd p
simple_last x b (block at ss) p h = absurd p
simple_last x b (local at ty name e) p h = absurd p
simple_last x b (if_else at c a d) p h = absurd p
simple_last x b (while_loop at c s) p h = absurd p
simple_last x b (do_loop at s c) p h = absurd p
simple_last x b (for_loop at first c last s) p h = absurd p
simple_last x b (returns at e) p h = absurd p
simple_last x b (breaks at) p h = absurd p
simple_last x b (continues at) p h = absurd p

simple_first : (x : Setting) (b : Block) (s : Statement) → IsSimpleOrDeclaration s → IsSound x b s →
    typed.IsSimpleTyped (typed_statement x b s)
unfolding IsSound typed_statement
simple_first x b (local at ty name e) p h = tt
simple_first x b (set at name i e) p h = set_simple_first h
simple_first x b (evaluate at e) p h = tt
simple_first x b (empty at) p h = absurd p
simple_first x b (block at ss) p h = absurd p
simple_first x b (if_else at c a d) p h = absurd p
simple_first x b (while_loop at c s) p h = absurd p
simple_first x b (do_loop at s c) p h = absurd p
simple_first x b (for_loop at first c last s) p h = absurd p
simple_first x b (returns at e) p h = absurd p
simple_first x b (breaks at) p h = absurd p
simple_first x b (continues at) p h = absurd p

first_part : (x : Setting) (b : Block) (s : OptionalStatement) → IsFirstPart s → IsMaybeSound x b s →
    typed.IsTypedFirstPart (optional_typed_statement x b s)
unfolding IsSound typed_statement
first_part x b absent p h = tt
first_part x b (present s) p h = simple_first x b s p h

last_part : (x : Setting) (b : Block) (s : OptionalStatement) → IsLastPart s → IsMaybeSound x b s →
    typed.IsTypedLastPart (optional_typed_statement x b s)
unfolding IsSound typed_statement
last_part x b absent p h = tt
last_part x b (present s) p h = simple_last x b s p h

-- a simple statement has no `for` in it
last_parts : (x : Setting) (b : Block) (s : Statement) → IsSimpleStatement s → IsSound x b s →
    Everywhere HasSimpleParts (typed_statement x b s)
unfolding IsSound typed_statement Everywhere
last_parts x b (set at name i e) p h = set_parts h
last_parts x b (evaluate at e) p h = tt
last_parts x b (empty at) p h = absurd p
last_parts x b (block at ss) p h = absurd p
last_parts x b (local at ty name e) p h = absurd p
last_parts x b (if_else at c a d) p h = absurd p
last_parts x b (while_loop at c s) p h = absurd p
last_parts x b (do_loop at s c) p h = absurd p
last_parts x b (for_loop at first c last s) p h = absurd p
last_parts x b (returns at e) p h = absurd p
last_parts x b (breaks at) p h = absurd p
last_parts x b (continues at) p h = absurd p

maybe_last_parts : (x : Setting) (b : Block) (s : OptionalStatement) → IsLastPart s → IsMaybeSound x b s →
    EverywhereIf HasSimpleParts (optional_typed_statement x b s)
unfolding IsSound typed_statement Everywhere
maybe_last_parts x b absent p h = tt
maybe_last_parts x b (present s) p h = last_parts x b s p h

mutual
  unfolding IsSound typed_statement Everywhere IsProper

  simple_parts : (x : Setting) (b : Block) (s : Statement) → IsProper s → IsSound x b s →
      Everywhere HasSimpleParts (typed_statement x b s)
  simple_parts x b (empty at) p h = (tt, tt)
  simple_parts x b (block at ss) p h = (tt, all_simple_parts (part x) (inner b) ss p h)
  simple_parts x b (local at ty name e) p h = tt
  simple_parts x b (set at name i e) p h = set_parts h
  simple_parts x b (evaluate at e) p h = tt
  simple_parts x b (if_else at c a d) p h = (tt, simple_parts (part x) b a p.2 h.1, maybe_simple_parts (part x) (after a b) d p.3 h.2)
  simple_parts x b (while_loop at c s) p h = (tt, simple_parts (body x) b s p.1 h.1)
  simple_parts x b (do_loop at s c) p h = (tt, simple_parts (body x) b s p.1 h.0)
  simple_parts x b (for_loop at first c last s) p h = (
    (first_part (head x) (inner b) first p.0 h.0, last_part (head x) (after_maybe first (inner b)) last p.1 h.2),
    maybe_simple_parts (head x) (inner b) first p.3 h.0,
    maybe_last_parts (head x) (after_maybe first (inner b)) last p.1 h.2,
    simple_parts (body x) (after_maybe last (after_maybe first (inner b))) s p.4 h.3,
  )
  simple_parts x b (returns at e) p h = tt
  simple_parts x b (breaks at) p h = tt
  simple_parts x b (continues at) p h = tt

  pub all_simple_parts : (x : Setting) (b : Block) (ss : Statements) → AreProper ss → AreSound x b ss →
      EverywhereIn HasSimpleParts (typed_statements x b ss)
  all_simple_parts x b nil p h = tt
  all_simple_parts x b (cons s ss) p h = (simple_parts x b s p.0 h.0, all_simple_parts x (after s b) ss p.1 h.1)

  maybe_simple_parts : (x : Setting) (b : Block) (s : OptionalStatement) → IsMaybeProper s → IsMaybeSound x b s →
      EverywhereIf HasSimpleParts (optional_typed_statement x b s)
  maybe_simple_parts x b absent p h = tt
  maybe_simple_parts x b (present s) p h = simple_parts x b s p h

-- ---- numbers

abbrev pub AreSmallLines : List ℕ → Type 0
AreSmallLines lines = AllByRecursion (λ line. line < 2 ^ 32) lines

small_line : (lines : List ℕ) (k : ℕ) → AreSmallLines lines → slice_index_or lines k 0 < 2 ^ 32
small_line [] k h = omega arith
small_line (line ∷ lines) zero h = h.0
small_line (line ∷ lines) (suc k) h = small_line lines k h.1

option_small : (scope : Scope) (role : Role) (e : Option Expression) → IsOptionWhole scope role e → HasOptionNumbers e →
    IfPresent (Throughout HasSmallNumbers) (option_map (typed_expression scope) e)
option_small scope role None h n = tt
option_small scope role (Some e) h n = numbers_small h.typed_as.sound n

return_small : (result : Ty) (scope : Scope) (e : Option Expression) → Returns result scope e → HasOptionNumbers e →
    IfPresent (Throughout HasSmallNumbers) (option_map (typed_expression scope) e)
return_small result scope None h n = tt
return_small result scope (Some e) h n = numbers_small h.whole.typed_as.sound n

set_small : {x : Setting} {scope : Scope} {at : Span} {name : List ℕ} {i : Option Expression} {e : Expression} {t : TypedStatement} →
    AreSmallLines x.lines → HasOptionNumbers i → HasNumbers e → SoundSet x scope at name i e t → Everywhere StatementHasSmallNumbers t
unfolding Everywhere
set_small lines m n (set_to_local name l e is typed_as few) = record { line = tt; expressions = numbers_small typed_as.sound n }
set_small lines m n (set_to_variable name f ty e is kind typed_as few) = record { line = tt; expressions = numbers_small typed_as.sound n }
set_small {x = x} {at = at} lines m n (set_to_element name f ty size i e is kind index numeric value few) =
    record { line = small_line x.lines (suc at.first) lines; expressions = (numbers_small index.sound m, numbers_small value.sound n) }

mutual
  unfolding IsSound typed_statement Everywhere HasStatementNumbers

  small_numbers : (x : Setting) (b : Block) (s : Statement) → AreSmallLines x.lines → HasStatementNumbers s → IsSound x b s →
      Everywhere StatementHasSmallNumbers (typed_statement x b s)
  small_numbers x b (empty at) l n h = (record { line = tt; expressions = tt }, tt)
  small_numbers x b (block at ss) l n h = (record { line = tt; expressions = tt }, all_small_numbers (part x) (inner b) ss l n h)
  small_numbers x b (local at ty name e) l n h = record { line = tt; expressions = option_small b.scope (Assigned (Some ty)) e h.value n }
  small_numbers x b (set at name i e) l n h = set_small l n.0 n.1 h
  small_numbers x b (evaluate at e) l n h = record { line = tt; expressions = numbers_small h.typed_as.sound n }
  small_numbers x b (if_else at c a d) l n h = (
    record { line = tt; expressions = numbers_small h.0.typed_as.sound n.0 },
    small_numbers (part x) b a l n.1 h.1,
    maybe_small_numbers (part x) (after a b) d l n.2 h.2,
  )
  small_numbers x b (while_loop at c s) l n h =
      (record { line = tt; expressions = numbers_small h.0.typed_as.sound n.0 }, small_numbers (body x) b s l n.1 h.1)
  small_numbers x b (do_loop at s c) l n h =
      (record { line = tt; expressions = numbers_small h.1.typed_as.sound n.1 }, small_numbers (body x) b s l n.0 h.0)
  small_numbers x b (for_loop at first c last s) l n h = (
    record { line = tt; expressions = option_small (after_maybe first (inner b)).scope Value c h.1 n.1 },
    maybe_small_numbers (head x) (inner b) first l n.0 h.0,
    maybe_small_numbers (head x) (after_maybe first (inner b)) last l n.2 h.2,
    small_numbers (body x) (after_maybe last (after_maybe first (inner b))) s l n.3 h.3,
  )
  small_numbers x b (returns at e) l n h = record { line = tt; expressions = return_small x.result b.scope e h n }
  small_numbers x b (breaks at) l n h = record { line = tt; expressions = tt }
  small_numbers x b (continues at) l n h = record { line = tt; expressions = tt }

  pub all_small_numbers : (x : Setting) (b : Block) (ss : Statements) → AreSmallLines x.lines → HaveStatementNumbers ss →
      AreSound x b ss →
      EverywhereIn StatementHasSmallNumbers (typed_statements x b ss)
  all_small_numbers x b nil l n h = tt
  all_small_numbers x b (cons s ss) l n h = (small_numbers x b s l n.0 h.0, all_small_numbers x (after s b) ss l n.1 h.1)

  maybe_small_numbers : (x : Setting) (b : Block) (s : OptionalStatement) → AreSmallLines x.lines → HasMaybeNumbers s →
      IsMaybeSound x b s →
      EverywhereIf StatementHasSmallNumbers (optional_typed_statement x b s)
  maybe_small_numbers x b absent l n h = tt
  maybe_small_numbers x b (present s) l n h = small_numbers x b s l n h

-- ---- values held

option_few : (scope : Scope) (role : Role) (e : Option Expression) → IsOptionWhole scope role e →
    held_option (option_map (typed_expression scope) e) ≤ 100
option_few scope role None h = omega arith
option_few scope role (Some e) h = h.few

return_few : (result : Ty) (scope : Scope) (e : Option Expression) → Returns result scope e →
    held_option (option_map (typed_expression scope) e) ≤ 100
return_few result scope None h = omega arith
return_few result scope (Some e) h = h.whole.few

set_few : {x : Setting} {scope : Scope} {at : Span} {name : List ℕ} {i : Option Expression} {e : Expression} {t : TypedStatement} →
    SoundSet x scope at name i e t → held_by t ≤ 100
unfolding held_by
set_few (set_to_local name l e is typed_as few) = few
set_few (set_to_variable name f ty e is kind typed_as few) = few
set_few (set_to_element name f ty size i e is kind index numeric value few) = few

mutual
  unfolding IsSound typed_statement held_by

  few_held : (x : Setting) (b : Block) (s : Statement) → IsSound x b s → held_by (typed_statement x b s) ≤ 100
  few_held x b (empty at) h = omega arith
  few_held x b (block at ss) h = all_few_held (part x) (inner b) ss h
  few_held x b (local at ty name e) h = option_few b.scope (Assigned (Some ty)) e h.value
  few_held x b (set at name i e) h = set_few h
  few_held x b (evaluate at e) h = h.few
  few_held x b (if_else at c a d) h =
      omega (arith, h.0.few, few_held (part x) b a h.1, maybe_few_held (part x) (after a b) d h.2)
  few_held x b (while_loop at c s) h = omega (arith, h.0.few, few_held (body x) b s h.1)
  few_held x b (do_loop at s c) h = omega (arith, h.1.few, few_held (body x) b s h.0)
  few_held x b (for_loop at first c last s) h =
      omega (
        arith,
        maybe_few_held (head x) (inner b) first h.0,
        option_few (after_maybe first (inner b)).scope Value c h.1,
        maybe_few_held (head x) (after_maybe first (inner b)) last h.2,
        few_held (body x) (after_maybe last (after_maybe first (inner b))) s h.3,
      )
  few_held x b (returns at e) h = return_few x.result b.scope e h
  few_held x b (breaks at) h = omega arith
  few_held x b (continues at) h = omega arith

  pub all_few_held : (x : Setting) (b : Block) (ss : Statements) → AreSound x b ss → held_by_all (typed_statements x b ss) ≤ 100
  all_few_held x b nil h = omega arith
  all_few_held x b (cons s ss) h = omega (arith, few_held x b s h.0, all_few_held x (after s b) ss h.1)

  maybe_few_held : (x : Setting) (b : Block) (s : OptionalStatement) → IsMaybeSound x b s →
      held_by_maybe (optional_typed_statement x b s) ≤ 100
  maybe_few_held x b absent h = omega arith
  maybe_few_held x b (present s) h = few_held x b s h

-- ---- phrases

-- an expression in the head of a `for` has no token beside its own
abbrev extra : Bool → ℕ
extra true = 1
extra false = 0

option_counted : (scope : Scope) (role : Role) (e : Option Expression) (low high : ℕ) → IsOptionWhole scope role e →
    IsOptionPlaced low high e →
    expressions_in_option (option_map (typed_expression scope) e) + low ≤ token_after_option low e
option_counted scope role None low high h p = omega arith
option_counted scope role (Some e) low high h p =
    let w = placed_within e p in omega (arith, expression_counted low high h.typed_as.sound p, w.from)

return_counted : (result : Ty) (scope : Scope) (e : Option Expression) (low high : ℕ) → Returns result scope e →
    IsOptionPlaced low high e →
    expressions_in_option (option_map (typed_expression scope) e) + low ≤ token_after_option low e
return_counted result scope None low high h p = omega arith
return_counted result scope (Some e) low high h p =
    let w = placed_within e p in omega (arith, expression_counted low high h.whole.typed_as.sound p, w.from)

option_within : (e : Option Expression) (low high : ℕ) → low ≤ suc high → IsOptionPlaced low high e →
    token_after_option low e ≤ suc high
option_within None low high l p = l
option_within (Some e) low high l p = let w = placed_within e p in omega (arith, w.to)

option_from : (e : Option Expression) (low high : ℕ) → IsOptionPlaced low high e → low ≤ token_after_option low e
option_from None low high p = omega arith
option_from (Some e) low high p = let w = placed_within e p in omega (arith, w.from, w.some)

maybe_within : (in_head : Bool) (s : OptionalStatement) (low high : ℕ) → low ≤ suc high → IsMaybePlaced in_head low high s →
    token_after_maybe low s ≤ suc high
unfolding IsStatementPlaced
maybe_within in_head absent low high l p = l
maybe_within in_head (present s) low high l p = let w = statement_within in_head s p in omega (arith, w.to)

maybe_from : (in_head : Bool) (s : OptionalStatement) (low high : ℕ) → IsMaybePlaced in_head low high s →
    low ≤ token_after_maybe low s
unfolding IsStatementPlaced
maybe_from in_head absent low high p = omega arith
maybe_from in_head (present s) low high p = let w = statement_within in_head s p in omega (arith, w.from, w.some)

end_within : (in_head : Bool) (at : Span) → set_end in_head at ≤ at.last
end_within true at = omega arith
end_within false at = omega arith

end_extra : (in_head : Bool) (at : Span) → 1 ≤ at.last → suc (set_end in_head at) ≤ at.last + extra in_head
end_extra true at some = omega arith
end_extra false at some = omega arith

set_counted : {x : Setting} {scope : Scope} {at : Span} {name : List ℕ} {i : Option Expression} {e : Expression} {t : TypedStatement} →
    IsSetPlaced (set_end x.in_head at) at i e → SoundSet x scope at name i e t → phrases_in t + at.first ≤ suc at.last
unfolding phrases_in
set_counted {x = x} {at = at} p (set_to_local name l e is typed_as few) =
    let w = placed_within e p in
    omega (arith, expression_counted _ _ typed_as.sound p, w.from, w.to, end_within x.in_head at)
set_counted {x = x} {at = at} p (set_to_variable name f ty e is kind typed_as few) =
    let w = placed_within e p in
    omega (arith, expression_counted _ _ typed_as.sound p, w.from, w.to, end_within x.in_head at)
set_counted {x = x} {at = at} p (set_to_element name f ty size i e is kind index numeric value few) =
    let v = placed_within i p.0 in
    let w = placed_within e p.1 in
    omega (arith, expression_counted _ _ index.sound p.0, expression_counted _ _ value.sound p.1, v.from, v.to, w.from, w.to, end_within x.in_head at)

mutual
  unfolding IsSound typed_statement phrases_in IsStatementPlaced

  counted : (x : Setting) (b : Block) (s : Statement) (low high : ℕ) → 1 ≤ low → IsStatementPlaced x.in_head low high s →
      IsSound x b s →
      phrases_in (typed_statement x b s) + (statement_span s).first ≤ token_after_statement s + extra x.in_head
  counted x b (empty at) low high l p h = omega (arith, p.some)
  counted x b (block at ss) low high l p h =
      omega (arith, all_counted (part x) (inner b) ss _ _ (omega arith) (omega (arith, p.0.some)) refl p.1 h)
  counted x b (local at ty name e) low high l p h =
      omega (
        arith,
        name_after at ty,
        p.1,
        option_counted b.scope (Assigned (Some ty)) e _ _ h.value p.2,
        option_within e _ _ (omega (arith, p.1)) p.2,
      )
  counted x b (set at name i e) low high l p h = omega (arith, set_counted p.1 h)
  counted x b (evaluate at e) low high l p h =
      let w = placed_within e p.1 in
      omega (arith, expression_counted _ _ h.typed_as.sound p.1, w.from, w.to, end_extra x.in_head at (omega (arith, l, p.0.from, p.0.some)))
  counted x b (if_else at c a d) low high l p h =
      let v = placed_within c p.1 in
      let w = statement_within false a p.2 in
      omega (
        arith,
        expression_counted _ _ h.0.typed_as.sound p.1,
        v.from,
        counted (part x) b a _ _ (omega arith) p.2 h.1,
        w.from,
        maybe_counted (part x) (after a b) d _ _ (omega arith) p.3 h.2,
        maybe_within false d _ _ (omega (arith, w.to)) p.3,
      )
  counted x b (while_loop at c s) low high l p h =
      let v = placed_within c p.1 in
      let w = statement_within false s p.2 in
      omega (arith, expression_counted _ _ h.0.typed_as.sound p.1, v.from, counted (body x) b s _ _ (omega arith) p.2 h.1, w.from, w.to)
  counted x b (do_loop at s c) low high l p h =
      let v = statement_within false s p.1 in
      let w = placed_within c p.2 in
      omega (arith, counted (body x) b s _ _ (omega arith) p.1 h.0, v.from, expression_counted _ _ h.1.typed_as.sound p.2, w.from, w.to)
  counted x b (for_loop at first c last s) low high l p h =
      let w = statement_within false s p.4 in
      let p1 : ℕ = token_after_maybe (at.first + 2) first in
      let p2 : ℕ = token_after_option p1 c in
      let p3 : ℕ = token_after_maybe (suc p2) last in
      let n1 : phrases_in_maybe (optional_typed_statement (head x) (inner b) first) + (at.first + 2) ≤ p1 + 1 =
      maybe_counted (head x) (inner b) first _ _ (omega arith) p.1 h.0 in
      let n2 : expressions_in_option (option_map (typed_expression (after_maybe first (inner b)).scope) c) + p1 ≤ p2 =
      option_counted (after_maybe first (inner b)).scope Value c _ _ h.1 p.2 in
      let n3 : phrases_in_maybe (optional_typed_statement (head x) (after_maybe first (inner b)) last) + suc p2 ≤ p3 + 1 =
      maybe_counted (head x) (after_maybe first (inner b)) last _ _ (omega arith) p.3 h.2 in
      let n4 : phrases_in (typed_statement (body x) (after_maybe last (after_maybe first (inner b))) s) + (statement_span s).first ≤ token_after_statement s + 0 =
      counted (body x) (after_maybe last (after_maybe first (inner b))) s _ _ (omega (arith, maybe_from true last (suc p2) _ p.3)) p.4 h.3 in
      omega (arith, n1, n2, n3, n4, w.from, w.to)
  counted x b (returns at e) low high l p h =
      omega (arith, p.0.some, return_counted x.result b.scope e _ _ h p.1, option_within e _ _ (omega (arith, p.0.some)) p.1)
  counted x b (breaks at) low high l p h = omega (arith, p.some)
  counted x b (continues at) low high l p h = omega (arith, p.some)

  pub all_counted : (x : Setting) (b : Block) (ss : Statements) (low high : ℕ) → 1 ≤ low → low ≤ suc high → x.in_head ≡ false →
      AreStatementsPlaced low high ss → AreSound x b ss → phrases_in_all (typed_statements x b ss) + low ≤ suc high
  all_counted x b nil low high l m e p h = omega arith
  all_counted x b (cons s ss) low high l m e p h =
      let w = statement_within false s p.0 in
      let n : phrases_in (typed_statement x b s) + (statement_span s).first ≤ token_after_statement s + 0 =
      subst (λ k. phrases_in (typed_statement x b s) + (statement_span s).first ≤ token_after_statement s + extra k) e
      (counted x b s low high l (subst (λ k. IsStatementPlaced k low high s) (sym e) p.0) h.0) in
      omega (arith, n, all_counted x (after s b) ss _ _ (omega arith) (omega (arith, w.to)) e p.1 h.1, w.from)

  maybe_counted : (x : Setting) (b : Block) (s : OptionalStatement) (low high : ℕ) → 1 ≤ low →
      IsMaybePlaced x.in_head low high s → IsMaybeSound x b s →
      phrases_in_maybe (optional_typed_statement x b s) + low ≤ token_after_maybe low s + extra x.in_head
  maybe_counted x b absent low high l p h = omega arith
  maybe_counted x b (present s) low high l p h =
      let w = statement_within x.in_head s p in
      omega (arith, counted x b s low high l p h, w.from)
