-- Statements as phrases: their faults are those of the list, and they stand where they are placed.
use Rattle.std.proofs.Common.{◌≡◌, ℕ, suc, ◌≤◌, Bool, true, false, List, [], ◌++◌, arith, refl, sym, ◌∙◌, subst, append_assoc, append-nil}
use Rattle.std.specs.Prelude.{Option, Some, None, option_map}
use Rattle.pw_tree.specs.declared.ty.Ty.TheVariants.{Void, Long, Ulong, Fn}
use Rattle.pw_tree.specs.declared.ty.Ty.{Ty}
use Rattle.pw_tree.specs.Expressions.{Span, Expression}
use Rattle.pw_tree.specs.Statements.{Statement, Statements, OptionalStatement, empty, block, local, set, evaluate, if_else, while_loop, do_loop, for_loop, returns, breaks, continues, nil, cons, absent, present}
use Rattle.pw_tree.specs.Placed.{IsWithin, IsPlaced, local_name_at, index_end, statement_span, token_after_maybe, set_end, IsSetPlaced, IsStatementPlaced, AreStatementsPlaced, IsMaybePlaced}
use Rattle.pw_types.specs.declared.rule.Rule.TheVariants as rules
use Rattle.pw_types.specs.declared.role.Role.{Role}
use Rattle.pw_types.specs.declared.role.Role.TheVariants as roles
use Rattle.pw_types.specs.declared.fault.Fault.{Fault}
use Rattle.pw_types.specs.Faults.{broken}
use Rattle.pw_types.specs.Scopes.{Scope, name_meaning}
use Rattle.pw_types.specs.Typed.{array_named}
use Rattle.pw_types.specs.Expressions.{end_of}
use Rattle.pw_types.specs.Steps.ExpressionFaults.{faults}
use Rattle.pw_types.specs.Blocks.{Setting, part, body, head, Block, inner, after, after_maybe}
use Rattle.pw_types.specs.Statements.{has_other_index, set_holds_too_many, set_element_holds_too_many, is_outside_loop, type_of_target, faults_of_array, returns_other}
use Rattle.pw_types.specs.Steps.StatementFaults.{faults_of_option, faults_of_set, faults_by, faults_by_all, faults_by_maybe}
use Rattle.pw_types.specs.Nests.{Nest, Nests, nest, none, more, whole, leaf, assignment, statement, statements, maybe}
use Rattle.pw_types.proofs.OwnFaults.{Rises, ends, rises_broken, rises_name, rises_target, rises_array}
use Rattle.pw_types.proofs.Standing.{Stands, stands, AllStand, no_more, one_more, all_from, stands_from}
use Rattle.pw_types.proofs.Gathering.{flat, gather, both}
use Rattle.pw_types.proofs.StandingExpressions.{placed_within, expression_faults, whole_faults, option_faults, expression_stands, whole_stands, option_stands}

-- ---- their faults

set_faults : (x : Setting) (scope : Scope) (at : Span) (name : List ℕ) (i : Option Expression) (e : Expression) →
    flat (assignment x scope at name i e) ≡ faults_of_set x scope at name i e
unfolding flat
set_faults x scope at name None e =
    both refl (both (expression_faults scope (roles.Assigned (type_of_target (name_meaning scope name))) e) refl)
set_faults x scope at name (Some i) e =
    let target = faults_of_array scope name at.first in
    let index = faults scope roles.Value i in
    let operands = broken rules.Operands (index_end at i) (has_other_index scope name i) in
    let others = faults scope (roles.Assigned (option_map (λ a. a.ty) (array_named scope name))) e
    ++ broken rules.TooDeep (set_end x.in_head at) (set_element_holds_too_many scope name i e) in
    both (both refl (both (expression_faults scope roles.Value i) refl))
    (both (expression_faults scope (roles.Assigned (option_map (λ a. a.ty) (array_named scope name))) e) refl)
    ∙ append_assoc target (index ++ operands) others ∙ both refl (append_assoc index operands others)

last_faults : (n : Nest) (fs : List Fault) → flat n ≡ fs → gather (more n none) [] ≡ fs
unfolding flat
last_faults n fs e = append-nil (flat n) ∙ e

mutual
  unfolding flat statement faults_by

  pub statement_faults : (x : Setting) (b : Block) (s : Statement) → flat (statement x b s) ≡ faults_by x b s
  statement_faults x b (empty at) = refl
  statement_faults x b (block at ss) = statements_faults (part x) (inner b) ss
  statement_faults x b (local at ty name e) =
      both refl (option_faults b.scope (roles.Assigned (Some ty)) e none [] ∙ append-nil (faults_of_option b.scope (roles.Assigned (Some ty)) e))
  statement_faults x b (set at name i e) = set_faults x b.scope at name i e
  statement_faults x b (evaluate at e) = last_faults (whole b.scope roles.Statement e) _ (whole_faults b.scope roles.Statement e)
  statement_faults x b (if_else at c a d) =
      both (whole_faults b.scope roles.Value c)
      (both (statement_faults (part x) b a) (maybe_faults (part x) (after a b) d none [] ∙ append-nil (faults_by_maybe (part x) (after a b) d)))
  statement_faults x b (while_loop at c s) =
      both (whole_faults b.scope roles.Value c) (last_faults (statement (body x) b s) _ (statement_faults (body x) b s))
  statement_faults x b (do_loop at s c) =
      both (statement_faults (body x) b s) (last_faults (whole b.scope roles.Value c) _ (whole_faults b.scope roles.Value c))
  statement_faults x b (for_loop at first c last s) =
      let in_body = after_maybe last (after_maybe first (inner b)) in
      maybe_faults (head x) (inner b) first _ []
      ∙ both refl (option_faults (after_maybe first (inner b)).scope roles.Value c _ []
      ∙ both refl (maybe_faults (head x) (after_maybe first (inner b)) last _ []
      ∙ both refl (last_faults (statement (body x) in_body s) _ (statement_faults (body x) in_body s))))
  statement_faults x b (returns at e) =
      option_faults b.scope roles.Value e none (broken rules.ReturnType at.last (returns_other x.result b.scope e))
  statement_faults x b (breaks at) = refl
  statement_faults x b (continues at) = refl

  pub statements_faults : (x : Setting) (b : Block) (ss : Statements) → gather (statements x b ss) [] ≡ faults_by_all x b ss
  statements_faults x b nil = refl
  statements_faults x b (cons s ss) = both (statement_faults x b s) (statements_faults x (after s b) ss)

  maybe_faults : (x : Setting) (b : Block) (s : OptionalStatement) (ns : Nests) (own : List Fault) →
      gather (maybe x b s ns) own ≡ faults_by_maybe x b s ++ gather ns own
  maybe_faults x b absent ns own = refl
  maybe_faults x b (present s) ns own = both (statement_faults x b s) refl

-- ---- where they stand

pub name_after : (at : Span) (ty : Ty) → at.first ≤ local_name_at at ty
name_after at Void = omega arith
name_after at Long = omega arith
name_after at Ulong = omega arith
name_after at (Fn k) = omega arith

-- a phrase without parts stands at the token of its faults
pub leaf_stands : {at top : ℕ} {own : List Fault} (low : ℕ) → low ≤ at → Rises at 0 top own → Stands low at (leaf own)
leaf_stands {at = at} low h own = stands at h (omega arith) no_more own

-- a phrase that only holds others
pub outer_stands : (low high : ℕ) (ns : Nests) → low ≤ high → AllStand low high ns → Stands low high (nest ns [])
outer_stands low high ns h all = stands high h (omega arith) all (ends {at = high} {low = 0} {high = 0} (omega arith))

set_ends : (in_head : Bool) (at : Span) → set_end in_head at ≤ at.last
set_ends true at = omega arith
set_ends false at = omega arith

set_stands : (x : Setting) (scope : Scope) (at : Span) (name : List ℕ) (i : Option Expression) (e : Expression) (low : ℕ) →
    low ≤ at.first → IsSetPlaced (set_end x.in_head at) at i e → Stands low at.last (assignment x scope at name i e)
set_stands x scope at name None e low h p =
    let e_in = placed_within e p in
    let end = set_ends x.in_head at in
    stands (set_end x.in_head at) (omega arith) end
    (one_more at.first (leaf_stands low h (rises_target scope name at.first)) (omega arith)
    (all_from (suc at.first) (omega arith)
    (one_more (end_of e) (expression_stands scope (roles.Assigned (type_of_target (name_meaning scope name))) e _ _ p) e_in.to no_more)))
    (rises_broken 0 rules.TooDeep (set_end x.in_head at) (set_holds_too_many scope name e) (omega arith))
set_stands x scope at name (Some i) e low h p =
    let i_in = placed_within i p.0 in
    let e_in = placed_within e p.1 in
    let end = set_ends x.in_head at in
    stands (set_end x.in_head at) (omega arith) end
    (one_more (index_end at i)
    (stands (index_end at i) (omega arith) (omega arith)
    (one_more at.first (leaf_stands low h (rises_array scope name at.first)) (omega arith)
    (all_from (suc at.first) (omega arith)
    (one_more (end_of i) (expression_stands scope roles.Value i _ _ p.0) (omega arith) no_more)))
    (rises_broken 0 rules.Operands (index_end at i) (has_other_index scope name i) (omega arith)))
    (omega arith)
    (one_more (end_of e) (expression_stands scope (roles.Assigned (option_map (λ a. a.ty) (array_named scope name))) e _ _ p.1) e_in.to no_more))
    (rises_broken 0 rules.TooDeep (set_end x.in_head at) (set_element_holds_too_many scope name i e) (omega arith))

pub statement_within : {low high : ℕ} (in_head : Bool) (s : Statement) → IsStatementPlaced in_head low high s →
    IsWithin low high (statement_span s)
unfolding IsStatementPlaced
statement_within in_head (empty at) p = p
statement_within in_head (block at ss) p = p.0
statement_within in_head (local at ty name e) p = p.0
statement_within in_head (set at name i e) p = p.0
statement_within in_head (evaluate at e) p = p.0
statement_within in_head (if_else at c a d) p = p.0
statement_within in_head (while_loop at c s) p = p.0
statement_within in_head (do_loop at s c) p = p.0
statement_within in_head (for_loop at first c last s) p = p.0
statement_within in_head (returns at e) p = p.0
statement_within in_head (breaks at) p = p
statement_within in_head (continues at) p = p

whole_before : (scope : Scope) (role : Role) (e : Expression) (low high : ℕ) (ns : Nests) → IsPlaced low high e →
    AllStand (suc (end_of e)) high ns → AllStand low high (more (whole scope role e) ns)
whole_before scope role e low high ns p others =
    one_more (end_of e) (whole_stands scope role e low high p) (placed_within e p).to others

mutual
  unfolding statement IsStatementPlaced

  pub statement_stands : (x : Setting) (b : Block) (s : Statement) (low high : ℕ) → IsStatementPlaced x.in_head low high s →
      Stands low (statement_span s).last (statement x b s)
  statement_stands x b (empty at) low high p = outer_stands low at.last none (omega (arith, p.from, p.some)) no_more
  statement_stands x b (block at ss) low high p =
      outer_stands low at.last _ (omega (arith, p.0.from, p.0.some)) (all_from low (omega (arith, p.0.from)) (statements_stand (part x) (inner b) ss _ _ refl p.1))
  statement_stands x b (local at ty name e) low high p =
      let k = name_after at ty in
      outer_stands low at.last _ (omega (arith, p.0.from, p.0.some))
      (one_more (local_name_at at ty) (leaf_stands low (omega (arith, p.0.from)) (rises_name b name (local_name_at at ty))) p.1
      (option_stands b.scope (roles.Assigned (Some ty)) e _ _ none p.2 no_more))
  statement_stands x b (set at name i e) low high p = set_stands x b.scope at name i e low p.0.from p.1
  statement_stands x b (evaluate at e) low high p =
      let e_in = placed_within e p.1 in
      let end = set_ends x.in_head at in
      outer_stands low at.last _ (omega (arith, p.0.from, p.0.some))
      (one_more (end_of e) (stands_from low p.0.from (whole_stands b.scope roles.Statement e _ _ p.1)) (omega arith) no_more)
  statement_stands x b (if_else at c a d) low high p =
      let a_in = statement_within false a p.2 in
      outer_stands low at.last _ (omega (arith, p.0.from, p.0.some)) (all_from low (omega (arith, p.0.from))
      (whole_before b.scope roles.Value c _ _ _ p.1
      (one_more (statement_span a).last (statement_stands (part x) b a _ _ p.2) a_in.to
      (maybe_stands (part x) (after a b) d _ _ none p.3 no_more))))
  statement_stands x b (while_loop at c s) low high p =
      let s_in = statement_within false s p.2 in
      outer_stands low at.last _ (omega (arith, p.0.from, p.0.some)) (all_from low (omega (arith, p.0.from))
      (whole_before b.scope roles.Value c _ _ _ p.1 (one_more (statement_span s).last (statement_stands (body x) b s _ _ p.2) s_in.to no_more)))
  statement_stands x b (do_loop at s c) low high p =
      let s_in = statement_within false s p.1 in
      outer_stands low at.last _ (omega (arith, p.0.from, p.0.some)) (all_from low (omega (arith, p.0.from))
      (one_more (statement_span s).last (statement_stands (body x) b s _ _ p.1) s_in.to
      (whole_before b.scope roles.Value c _ _ none p.2 no_more)))
  statement_stands x b (for_loop at first c last s) low high p =
      let s_in = statement_within false s p.4 in
      let in_body = after_maybe last (after_maybe first (inner b)) in
      outer_stands low at.last _ (omega (arith, p.0.from, p.0.some)) (all_from low (omega (arith, p.0.from))
      (maybe_stands (head x) (inner b) first _ _ _ p.1
      (option_stands (after_maybe first (inner b)).scope roles.Value c _ _ _ p.2
      (all_from _ (omega arith) (maybe_stands (head x) (after_maybe first (inner b)) last _ _ _ p.3
      (one_more (statement_span s).last (statement_stands (body x) in_body s _ _ p.4) s_in.to no_more))))))
  statement_stands x b (returns at e) low high p =
      stands at.last (omega (arith, p.0.from, p.0.some)) (omega arith)
      (all_from low (omega (arith, p.0.from)) (option_stands b.scope roles.Value e _ _ none p.1 no_more))
      (rises_broken 0 rules.ReturnType at.last (returns_other x.result b.scope e) (omega arith))
  statement_stands x b (breaks at) low high p =
      leaf_stands low (omega (arith, p.from, p.some)) (rises_broken 0 rules.OutsideLoop at.last (is_outside_loop x) (omega arith))
  statement_stands x b (continues at) low high p =
      leaf_stands low (omega (arith, p.from, p.some)) (rises_broken 0 rules.OutsideLoop at.last (is_outside_loop x) (omega arith))

  pub statements_stand : (x : Setting) (b : Block) (ss : Statements) (low high : ℕ) → x.in_head ≡ false →
      AreStatementsPlaced low high ss → AllStand low high (statements x b ss)
  statements_stand x b nil low high e p = no_more
  statements_stand x b (cons s ss) low high e p =
      let s_in = statement_within false s p.0 in
      one_more (statement_span s).last
      (statement_stands x b s low high (subst (λ in_head. IsStatementPlaced in_head low high s) (sym e) p.0)) s_in.to
      (statements_stand x (after s b) ss _ _ e p.1)

  maybe_stands : (x : Setting) (b : Block) (s : OptionalStatement) (low high : ℕ) (ns : Nests) →
      IsMaybePlaced x.in_head low high s →
      AllStand (token_after_maybe low s) high ns → AllStand low high (maybe x b s ns)
  maybe_stands x b absent low high ns p others = others
  maybe_stands x b (present s) low high ns p others =
      one_more (statement_span s).last (statement_stands x b s low high p) (statement_within x.in_head s p).to others
