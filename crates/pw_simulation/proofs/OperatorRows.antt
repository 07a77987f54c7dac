-- The rows of operators: unary ones, those that neither divide nor jump, and a byte of output.
use Rattle.std.proofs.Common.{◌≡◌, ℕ, Bool, not, List, ◌++◌, refl, sym, ap, subst}
use Rattle.std.specs.Prelude.{nat_eq}
use Rattle.pw_tree.specs.declared.operator.Un.{Un}
use Rattle.pw_tree.specs.declared.operator.Un.TheVariants.{Neg, Plus, Not, Bang}
use Rattle.pw_tree.specs.declared.operator.Bin.{Bin}
use Rattle.pw_tree.specs.Numbers.{truth, unary_result, binary_result}
use Rattle.pw_tree.specs.States.{Value, null, pointer, holds, as_number, State, Locals, Outcome, gives, and_then}
use Rattle.pw_tree.specs.States as values
use Rattle.pw_tree.specs.Evaluation.{unary_value}
use Rattle.pw_tree.specs.WellTypedExpressions.{Class, number, IsValue, OperandFits}
use Rattle.pw_code.specs.Items.{CodePart}
use Rattle.pw_code.specs.Pieces.{unary_code, binary_code}
use Rattle.pw_simulation.specs.World.{World}
use Rattle.pw_simulation.specs.Values.{Represents}
use Rattle.pw_simulation.specs.Sees.{Sees}
use Rattle.pw_simulation.specs.Bodies.{Body, HasFrame, Runs}
use Rattle.pw_simulation.proofs.Operators.{truth_small, unary_computes, unary_small, binary_computes, binary_small, IsPlain}
use Rattle.pw_simulation.proofs.Rows.{code_gives}
use Rattle.pw_simulation.proofs.Sequences.{represents_small, zero_is_false, Follows, part_row, Finishes}

module _ (w : World) (sees : Sees w) (b : Body) (frame : HasFrame w b) (known : List ℕ) (locals : Locals) (n h : ℕ) where
  -- `-`, `+` and `~` of a number
  unary_follows : (op : Un) → ((m : ℕ) → unary_value op (values.number m) ≡ values.number (unary_result op m)) → Follows w sees b frame known locals n h number number (unary_code op) (λ x. gives (unary_value op x))
  unary_follows op is (values.number m) st t r stands_for here =
      code_gives w sees b frame h number (unary_code op) (unary_value op (values.number m)) (unary_result op m) st t r.at here.code_at (unary_computes op m t.x stands_for.0 stands_for.1)
      (subst (λ x. Represents w number x (unary_result op m)) (sym (is m)) (refl, unary_small op m stands_for.1))
  unary_follows op is null st t r stands_for here = absurd stands_for
  unary_follows op is (pointer f) st t r stands_for here = absurd stands_for

  -- `!` of any value
  bang_follows : (c : Class) → IsValue c → Follows w sees b frame known locals n h c number (unary_code Bang) (λ x. gives (unary_value Bang x))
  bang_follows c some x st t r stands_for here =
      code_gives w sees b frame h number (unary_code Bang) (values.number (truth (not (holds x)))) (truth (nat_eq (t.x 10) 0)) st t r.at here.code_at
      (unary_computes Bang (t.x 10) t.x refl (represents_small w sees c x (t.x 10) some stands_for))
      (ap truth (zero_is_false w sees c x (t.x 10) some stands_for), truth_small (not (holds x)))

  pub unary_row : (op : Un) (c : Class) (code : List CodePart) (f : State → Outcome Value) → IsValue c → OperandFits op c → Runs w b known locals n h c code f
      → Runs w b known locals n h number (code ++ unary_code op) (λ st. and_then (f st) (λ x. gives (unary_value op x)))
  unary_row Bang c code f some fits runs = part_row w sees b frame known locals n h c number code (unary_code Bang) f (λ x. gives (unary_value Bang x)) runs (bang_follows c some)
  unary_row Neg c code f some fits runs = part_row w sees b frame known locals n h c number code (unary_code Neg) f (λ x. gives (unary_value Neg x)) runs
      (subst (λ k. Follows w sees b frame known locals n h k number (unary_code Neg) (λ x. gives (unary_value Neg x))) (sym fits) (unary_follows Neg (λ m. refl)))
  unary_row Plus c code f some fits runs = part_row w sees b frame known locals n h c number code (unary_code Plus) f (λ x. gives (unary_value Plus x)) runs
      (subst (λ k. Follows w sees b frame known locals n h k number (unary_code Plus) (λ x. gives (unary_value Plus x))) (sym fits) (unary_follows Plus (λ m. refl)))
  unary_row Not c code f some fits runs = part_row w sees b frame known locals n h c number code (unary_code Not) f (λ x. gives (unary_value Not x)) runs
      (subst (λ k. Follows w sees b frame known locals n h k number (unary_code Not) (λ x. gives (unary_value Not x))) (sym fits) (unary_follows Not (λ m. refl)))

  -- a binary operator on two numbers that neither divides nor jumps
  pub plain_finishes : (line : ℕ) (op : Bin) (unsigned : Bool) → IsPlain op
      → Finishes w sees b frame known locals n h number number number (binary_code line op unsigned) (λ x y. gives (values.number (binary_result op unsigned (as_number x) (as_number y))))
  plain_finishes line op unsigned plain (values.number l) (values.number m) st t r left right here =
      code_gives w sees b frame h number (binary_code line op unsigned) (values.number (binary_result op unsigned l m)) (binary_result op unsigned l m) st t r.at here.code_at
      (binary_computes line op unsigned l m t.x plain left.0 right.0 left.1 right.1) (refl, binary_small op unsigned l m left.1 right.1)
  plain_finishes line op unsigned plain null y st t r left right here = absurd left
  plain_finishes line op unsigned plain (pointer f) y st t r left right here = absurd left
  plain_finishes line op unsigned plain (values.number l) null st t r left right here = absurd right
  plain_finishes line op unsigned plain (values.number l) (pointer f) st t r left right here = absurd right
