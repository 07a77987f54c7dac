-- The tree of a statement stands in the statement's tokens.
use Rattle.std.proofs.Common.{◌≡◌, refl, ℕ, suc, ◌+◌, ◌≤◌, Bool, true, false, List, [], ◌∷◌, ◌++◌, length, Option, Some, None, arith}
use Rattle.std.specs.Option.{option_map}
use Rattle.std.proofs.lemmas.List.{length-append}
use Rattle.pw_grammar.specs.declared.sort.Sort.{Sort}
use Rattle.pw_grammar.specs.declared.sort.Sort.TheVariants as s
use Rattle.pw_grammar.specs.Terminals.{sort}
use Rattle.pw_grammar.specs.Expressions.{ExpressionDerivation, spelled}
use Rattle.pw_grammar.specs.Statements.{TypeDerivation, word, unsigned, spelled_type, type_of_keyword, type_or, type_in, LocalDerivation, plain, spelled_local, kind_of_local, SimpleDerivation, assign, assign_element, spelled_simple, kind_of_simple, ForStartDerivation, no_start, local_start, simple_start, spelled_start, spelled_maybe, tree_of_maybe, spelled_step, StatementDerivation, block, declare, simple, if_only, while_do, do_while, for_do, leave, jump, StatementDerivations, spelled_statement, spelled_statements, statement_node, tree_of_start, tree_of_step, jump_of, kind_of, trees_of_statements, after_test, after_head, after_part}
use Rattle.pw_grammar.specs.Statements as phrase
use Rattle.pw_grammar.proofs.PlainNodes.{statement_place, statement-Empty, statement-Block, statement-Local, statement-Set, statement-Eval, statement-If, statement-While, statement-Do, statement-For, statement-Return, statement-Break, statement-Continue}
use Rattle.pw_grammar.proofs.PlacedExpressions.{stands}
use Rattle.pw_grammar.proofs.Lengths.{expression_length, simple_length}
use Rattle.pw_grammar.proofs.PlacedForms.{StatementStands, StatementsStand, OptionStands, MaybeStands, no_option, an_option, no_maybe, a_maybe, by_form, maybe_behind, stands_by, stands_evaluate, stands_set, stands_set_element, stands_local, stands_block, stands_returns, stands_if, stands_while, stands_do, stands_for, none_stand, both_stand}
use Rattle.pw_lex.specs.declared.token.Token.{Token}
use Rattle.pw_tree.specs.Expressions.{Span, expression_of}
use Rattle.pw_tree.specs.Statements.{optional_statement, statement_of, statements_of}
use Rattle.pw_tree.specs.Placed.{local_name_at, set_end, IsStatementPlaced}

-- ---- locals, assignments, and the parts of a `for`

-- the name of a local stands after its type
one_word : (x : Sort) (at : Span) → local_name_at at (type_or (type_of_keyword x)) ≡ at.first + 1
one_word s.Long at = refl
one_word _ at = refl

name_behind : (ty : TypeDerivation) (at : Span) → local_name_at at (type_in ty) ≡ at.first + length (spelled_type ty)
name_behind (word t) at = one_word (sort t) at
name_behind (unsigned u l) at = refl

local_stands : (in_head : Bool) (at : ℕ) (l : LocalDerivation)
    → StatementStands in_head at (length (spelled_local l)) (statement_of (statement_node at (spelled_local l) (kind_of_local at l)))
local_stands in_head at (plain ty x e) = by_form (statement-Local at (spelled_local (plain ty x e)) _ _ None)
    (stands_local in_head at (length (spelled_type ty)) 0 (spelled_local (plain ty x e)) _ _ None (name_behind ty (statement_place at (spelled_local (plain ty x e))))
    (omega (arith, length-append (spelled_type ty) (x ∷ e ∷ []))) (no_option _))
local_stands in_head at (phrase.set ty x q a e) = by_form (statement-Local at (spelled_local (phrase.set ty x q a e)) _ _ (Some _))
    (stands_local in_head at (length (spelled_type ty)) (length (spelled a)) (spelled_local (phrase.set ty x q a e)) _ _ (Some _)
    (name_behind ty (statement_place at (spelled_local (phrase.set ty x q a e))))
    (omega (arith, length-append (spelled_type ty) (x ∷ q ∷ (spelled a ++ e ∷ [])), length-append (spelled a) (e ∷ [])))
    (an_option _ (length (spelled a)) _ _ (omega arith) (stands (suc (suc (at + length (spelled_type ty)))) a)))

-- with its `;`, or without one as a part of a `for`
simple_stands : (in_head : Bool) (at : ℕ) (ts : List Token) (a : SimpleDerivation) →
    suc (set_end in_head (statement_place at ts)) ≡ at + length (spelled_simple a)
    → length (spelled_simple a) ≤ length ts
    → StatementStands in_head at (length ts) (statement_of (statement_node at ts (kind_of_simple at a)))
simple_stands in_head at ts (assign x q a) e h = by_form (statement-Set at ts _ None _)
    (stands_set in_head at (length (spelled a)) ts _ _ (omega (arith, e)) (omega arith) (stands (suc (suc at)) a))
simple_stands in_head at ts (assign_element x o i c q a) e h = by_form (statement-Set at ts _ (Some _) _)
    (stands_set_element in_head at (length (spelled i)) (length (spelled a)) ts _ _ _
    (omega (arith, e, length-append (spelled i) (c ∷ q ∷ spelled a))) (omega arith)
    (stands (suc (suc at)) i) (stands (suc (suc (suc (suc at) + length (spelled i)))) a))
simple_stands in_head at ts (phrase.evaluate a) e h = by_form (statement-Eval at ts _)
    (stands_evaluate in_head at (length (spelled a)) ts _ e (omega (arith, expression_length a)) (stands at a))

part_stands : (at : ℕ) (a : SimpleDerivation)
    → StatementStands true at (length (spelled_simple a)) (statement_of (statement_node at (spelled_simple a) (kind_of_simple at a)))
part_stands at a = simple_stands true at (spelled_simple a) a (omega (arith, simple_length a)) (omega arith)

start_stands : (at : ℕ) (a : ForStartDerivation) →
    MaybeStands true at (length (spelled_start a)) (optional_statement (option_map statement_of (tree_of_start at a)))
start_stands at (no_start e) = no_maybe true at 1
start_stands at (local_start l) = a_maybe true at _ _ _ (omega arith) (local_stands true at l)
start_stands at (simple_start a e) = a_maybe true at (length (spelled_simple a)) _ _ (omega (arith, length-append (spelled_simple a) (e ∷ []))) (part_stands at a)

step_stands : (at : ℕ) (a : Option SimpleDerivation) →
    MaybeStands true at (length (spelled_step a)) (optional_statement (option_map statement_of (tree_of_step at a)))
step_stands at None = no_maybe true at 0
step_stands at (Some a) = a_maybe true at _ _ _ (omega arith) (part_stands at a)

maybe_stands : (at : ℕ) (a : Option ExpressionDerivation) →
    OptionStands at (length (spelled_maybe a)) (option_map expression_of (tree_of_maybe at a))
maybe_stands at None = no_option at
maybe_stands at (Some a) = an_option at _ _ _ (omega arith) (stands at a)

-- ---- every statement

jump_stands : (at : ℕ) (ts : List Token) (x : Sort) → 1 ≤ length ts
    → StatementStands false at (length ts) (statement_of (statement_node at ts (jump_of x)))
unfolding IsStatementPlaced
jump_stands at ts s.Break full = by_form (statement-Break at ts) (stands_by false at ts _ refl full (λ low high w. w))
jump_stands at ts _ full = by_form (statement-Continue at ts) (stands_by false at ts _ refl full (λ low high w. w))

mutual
  unfolding spelled_statement kind_of IsStatementPlaced

  pub statement_stands : (at : ℕ) (y : StatementDerivation)
      → StatementStands false at (length (spelled_statement y)) (statement_of (statement_node at (spelled_statement y) (kind_of at y)))
  statement_stands at (phrase.empty e) = by_form (statement-Empty at (e ∷ [])) (stands_by false at (e ∷ []) _ refl (omega arith) (λ low high w. w))
  statement_stands at (block o body c) = by_form (statement-Block at (spelled_statement (block o body c)) _)
      (stands_block false at (length (spelled_statements body)) (spelled_statement (block o body c)) _
      (omega (arith, length-append (spelled_statements body) (c ∷ []))) (statements_stand (suc at) body))
  statement_stands at (declare l) = local_stands false at l
  statement_stands at (simple a e) = simple_stands false at (spelled_simple a ++ e ∷ []) a
      (omega (arith, simple_length a, length-append (spelled_simple a) (e ∷ []))) (omega (arith, length-append (spelled_simple a) (e ∷ [])))
  statement_stands at (if_only t o a c y) = by_form (statement-If at (spelled_statement (if_only t o a c y)) _ _ None)
      (stands_if false at (length (spelled a)) (length (spelled_statement y)) 0 (spelled_statement (if_only t o a c y)) _ _ _
      (omega (arith, length-append (spelled a) (c ∷ spelled_statement y))) (stands (suc (suc at)) a)
      (statement_stands (after_test at a) y) (no_maybe false _ 0))
  statement_stands at (phrase.if_else t o a c y e n) = by_form (statement-If at (spelled_statement (phrase.if_else t o a c y e n)) _ _ (Some _))
      (stands_if false at (length (spelled a)) (length (spelled_statement y)) (suc (length (spelled_statement n)))
      (spelled_statement (phrase.if_else t o a c y e n)) _ _ _
      (omega (arith, length-append (spelled a) (c ∷ (spelled_statement y ++ e ∷ spelled_statement n)), length-append (spelled_statement y) (e ∷ spelled_statement n)))
      (stands (suc (suc at)) a) (statement_stands (after_test at a) y)
      (maybe_behind (after_test at a + length (spelled_statement y)) _ _ (statement_stands (after_part (after_test at a) y) n)))
  statement_stands at (while_do t o a c y) = by_form (statement-While at (spelled_statement (while_do t o a c y)) _ _)
      (stands_while false at (length (spelled a)) (length (spelled_statement y)) (spelled_statement (while_do t o a c y)) _ _
      (omega (arith, length-append (spelled a) (c ∷ spelled_statement y))) (stands (suc (suc at)) a) (statement_stands (after_test at a) y))
  statement_stands at (do_while t y w o a c e) = by_form (statement-Do at (spelled_statement (do_while t y w o a c e)) _ _)
      (stands_do false at (length (spelled_statement y)) (length (spelled a)) (spelled_statement (do_while t y w o a c e)) _ _
      (omega (arith, length-append (spelled_statement y) (w ∷ o ∷ (spelled a ++ c ∷ e ∷ [])), length-append (spelled a) (c ∷ e ∷ [])))
      (statement_stands (suc at) y) (stands (suc (after_part (suc at) y)) a))
  statement_stands at (for_do t o start a e step c y) = by_form (statement-For at (spelled_statement (for_do t o start a e step c y)) _ _ _ _)
      (stands_for false at (length (spelled_start start)) (length (spelled_maybe a)) (length (spelled_step step)) (length (spelled_statement y))
      (spelled_statement (for_do t o start a e step c y)) _ _ _ _
      (omega (
        arith,
        length-append (spelled_start start) (spelled_maybe a ++ e ∷ (spelled_step step ++ c ∷ spelled_statement y)),
        length-append (spelled_maybe a) (e ∷ (spelled_step step ++ c ∷ spelled_statement y)),
        length-append (spelled_step step) (c ∷ spelled_statement y),
      ))
      (start_stands (suc (suc at)) start) (maybe_stands (suc (suc at) + length (spelled_start start)) a)
      (step_stands (suc (suc (suc at) + length (spelled_start start) + length (spelled_maybe a))) step)
      (statement_stands (after_head at start a step) y))
  statement_stands at (leave t a e) = by_form (statement-Return at (spelled_statement (leave t a e)) _)
      (stands_returns false at (length (spelled_maybe a)) (spelled_statement (leave t a e)) _
      (omega (arith, length-append (spelled_maybe a) (e ∷ []))) (maybe_stands (suc at) a))
  statement_stands at (jump t e) = jump_stands at (t ∷ e ∷ []) (sort t) (omega arith)

  pub statements_stand : (at : ℕ) (ys : StatementDerivations) →
      StatementsStand at (length (spelled_statements ys)) (statements_of (trees_of_statements at ys))
  statements_stand at phrase.nil = none_stand at
  statements_stand at (phrase.cons y ys) = both_stand at (length (spelled_statement y)) (length (spelled_statements ys)) _ _ _
      (length-append (spelled_statement y) (spelled_statements ys)) (statement_stands at y) (statements_stand (at + length (spelled_statement y)) ys)
