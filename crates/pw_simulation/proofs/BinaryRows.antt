-- The row of a binary operator, whichever it is.
use Rattle.std.proofs.Common.{◌≡◌, ℕ, suc, ◌^◌, ◌<◌, Bool, true, List, ◌∷◌, ◌++◌, refl, subst}
use Rattle.pw_tree.specs.declared.operator.Bin.{Bin}
use Rattle.pw_tree.specs.declared.operator.Bin.TheVariants.{Mul, Div, Rem, Add, Sub, Shl, Shr, Lt, Gt, Le, Ge, Eq, Ne, And, Xor, Or, AndAnd, OrOr}
use Rattle.pw_tree.specs.Held.{holds_left}
use Rattle.pw_tree.specs.Names.{Definition}
use Rattle.pw_tree.specs.States.{Value, State, Locals, Outcome, and_then}
use Rattle.pw_tree.specs.Evaluation.{binary_value, operated}
use Rattle.pw_tree.specs.WellTypedExpressions.{Class, number, IsValue, OperandsFit}
use Rattle.pw_isa.specs.declared.instruction.Inst.TheVariants.{Ld}
use Rattle.pw_code.specs.Items.{CodePart, instruction, size}
use Rattle.pw_code.specs.Frames.{held_slot}
use Rattle.pw_code.specs.Pieces.{binary_code, hold}
use Rattle.pw_code.specs.ExpressionCode.{right_slot, operator_code}
use Rattle.pw_simulation.specs.World.{World}
use Rattle.pw_simulation.specs.Sees.{Sees}
use Rattle.pw_simulation.specs.Bodies.{Body, HasFrame, context_of, Runs}
use Rattle.pw_simulation.proofs.Sequences.{Finishes, held_row}
use Rattle.pw_simulation.proofs.OperatorRows.{plain_finishes}
use Rattle.pw_simulation.proofs.CheckRows.{equal_finishes, unequal_finishes, division_finishes, remainder_finishes}
use Rattle.pw_simulation.proofs.ConditionRows.{and_row, or_row}

module _ (w : World) (sees : Sees w) (b : Body) (frame : HasFrame w b) (known : List ℕ) (locals : Locals) (n h : ℕ)
    (calls : Definition → List Value → State → Outcome Value) (turns : ℕ) where
  -- two operands of these classes, of which the first is held
  held_operands : (line : ℕ) (op : Bin) (unsigned : Bool) (c1 c2 k1 k2 : Class) (code1 code2 : List CodePart) (f1 f2 : State → Outcome Value)
      → c1 ≡ k1 → c2 ≡ k2 → h < b.frame.held → IsValue k1 → Runs w b known locals n h c1 code1 f1 → Runs w b known locals n (suc h) c2 code2 f2
      → Finishes w sees b frame known locals n h k1 k2 number (binary_code line op unsigned) (binary_value (context_of w b calls turns) line op unsigned)
      → Runs w b known locals n h number (code1 ++ hold b.frame h ∷ code2 ++ instruction (Ld 5 2 (held_slot b.frame h)) ∷ binary_code line op unsigned)
      (λ st. and_then (f1 st) (λ x st. and_then (f2 st) (binary_value (context_of w b calls turns) line op unsigned x)))
  held_operands line op unsigned c1 c2 k1 k2 code1 code2 f1 f2 e1 e2 few some runs1 runs2 finishes =
      held_row w sees b frame known locals n h k1 k2 number code1 code2 (binary_code line op unsigned) f1 f2 (binary_value (context_of w b calls turns) line op unsigned) few some
      (subst (λ c. Runs w b known locals n h c code1 f1) e1 runs1) (subst (λ c. Runs w b known locals n (suc h) c code2 f2) e2 runs2) finishes

  pub binary_row : (line : ℕ) (op : Bin) (unsigned : Bool) (c1 c2 : Class) (code1 code2 : List CodePart) (n2 : ℕ) (f1 f2 : State → Outcome Value)
      → OperandsFit op c1 c2 → (holds_left op ≡ true → h < b.frame.held) → line < 2 ^ 64 → size code2 ≡ n2
      → Runs w b known locals n h c1 code1 f1 → Runs w b known locals n (right_slot op h) c2 code2 f2
      → Runs w b known locals n h number (operator_code b.frame h line op unsigned code1 code2 n2) (λ st. and_then (f1 st) (λ x. operated (context_of w b calls turns) line op unsigned x f2))
  binary_row line Mul unsigned c1 c2 code1 code2 n2 f1 f2 fits few small e runs1 runs2 =
      held_operands line Mul unsigned c1 c2 number number code1 code2 f1 f2 fits.0 fits.1 (few refl) tt runs1 runs2 (plain_finishes w sees b frame known locals n h line Mul unsigned tt)
  binary_row line Div unsigned c1 c2 code1 code2 n2 f1 f2 fits few small e runs1 runs2 =
      held_operands line Div unsigned c1 c2 number number code1 code2 f1 f2 fits.0 fits.1 (few refl) tt runs1 runs2 (division_finishes w sees b frame known locals n h line unsigned calls turns small)
  binary_row line Rem unsigned c1 c2 code1 code2 n2 f1 f2 fits few small e runs1 runs2 =
      held_operands line Rem unsigned c1 c2 number number code1 code2 f1 f2 fits.0 fits.1 (few refl) tt runs1 runs2 (remainder_finishes w sees b frame known locals n h line unsigned calls turns small)
  binary_row line Add unsigned c1 c2 code1 code2 n2 f1 f2 fits few small e runs1 runs2 =
      held_operands line Add unsigned c1 c2 number number code1 code2 f1 f2 fits.0 fits.1 (few refl) tt runs1 runs2 (plain_finishes w sees b frame known locals n h line Add unsigned tt)
  binary_row line Sub unsigned c1 c2 code1 code2 n2 f1 f2 fits few small e runs1 runs2 =
      held_operands line Sub unsigned c1 c2 number number code1 code2 f1 f2 fits.0 fits.1 (few refl) tt runs1 runs2 (plain_finishes w sees b frame known locals n h line Sub unsigned tt)
  binary_row line Shl unsigned c1 c2 code1 code2 n2 f1 f2 fits few small e runs1 runs2 =
      held_operands line Shl unsigned c1 c2 number number code1 code2 f1 f2 fits.0 fits.1 (few refl) tt runs1 runs2 (plain_finishes w sees b frame known locals n h line Shl unsigned tt)
  binary_row line Shr unsigned c1 c2 code1 code2 n2 f1 f2 fits few small e runs1 runs2 =
      held_operands line Shr unsigned c1 c2 number number code1 code2 f1 f2 fits.0 fits.1 (few refl) tt runs1 runs2 (plain_finishes w sees b frame known locals n h line Shr unsigned tt)
  binary_row line Lt unsigned c1 c2 code1 code2 n2 f1 f2 fits few small e runs1 runs2 =
      held_operands line Lt unsigned c1 c2 number number code1 code2 f1 f2 fits.0 fits.1 (few refl) tt runs1 runs2 (plain_finishes w sees b frame known locals n h line Lt unsigned tt)
  binary_row line Gt unsigned c1 c2 code1 code2 n2 f1 f2 fits few small e runs1 runs2 =
      held_operands line Gt unsigned c1 c2 number number code1 code2 f1 f2 fits.0 fits.1 (few refl) tt runs1 runs2 (plain_finishes w sees b frame known locals n h line Gt unsigned tt)
  binary_row line Le unsigned c1 c2 code1 code2 n2 f1 f2 fits few small e runs1 runs2 =
      held_operands line Le unsigned c1 c2 number number code1 code2 f1 f2 fits.0 fits.1 (few refl) tt runs1 runs2 (plain_finishes w sees b frame known locals n h line Le unsigned tt)
  binary_row line Ge unsigned c1 c2 code1 code2 n2 f1 f2 fits few small e runs1 runs2 =
      held_operands line Ge unsigned c1 c2 number number code1 code2 f1 f2 fits.0 fits.1 (few refl) tt runs1 runs2 (plain_finishes w sees b frame known locals n h line Ge unsigned tt)
  binary_row line And unsigned c1 c2 code1 code2 n2 f1 f2 fits few small e runs1 runs2 =
      held_operands line And unsigned c1 c2 number number code1 code2 f1 f2 fits.0 fits.1 (few refl) tt runs1 runs2 (plain_finishes w sees b frame known locals n h line And unsigned tt)
  binary_row line Xor unsigned c1 c2 code1 code2 n2 f1 f2 fits few small e runs1 runs2 =
      held_operands line Xor unsigned c1 c2 number number code1 code2 f1 f2 fits.0 fits.1 (few refl) tt runs1 runs2 (plain_finishes w sees b frame known locals n h line Xor unsigned tt)
  binary_row line Or unsigned c1 c2 code1 code2 n2 f1 f2 fits few small e runs1 runs2 =
      held_operands line Or unsigned c1 c2 number number code1 code2 f1 f2 fits.0 fits.1 (few refl) tt runs1 runs2 (plain_finishes w sees b frame known locals n h line Or unsigned tt)
  binary_row line Eq unsigned c1 c2 code1 code2 n2 f1 f2 fits few small e runs1 runs2 =
      held_operands line Eq unsigned c1 c2 c1 c1 code1 code2 f1 f2 refl fits.1 (few refl) fits.0 runs1 runs2 (equal_finishes w sees b frame known locals n h line unsigned c1 fits.0)
  binary_row line Ne unsigned c1 c2 code1 code2 n2 f1 f2 fits few small e runs1 runs2 =
      held_operands line Ne unsigned c1 c2 c1 c1 code1 code2 f1 f2 refl fits.1 (few refl) fits.0 runs1 runs2 (unequal_finishes w sees b frame known locals n h line unsigned c1 fits.0)
  binary_row line AndAnd unsigned c1 c2 code1 code2 n2 f1 f2 fits few small e runs1 runs2 = and_row w sees b frame known locals n h c1 c2 code1 code2 n2 f1 f2 fits.0 fits.1 e runs1 runs2
  binary_row line OrOr unsigned c1 c2 code1 code2 n2 f1 f2 fits few small e runs1 runs2 = or_row w sees b frame known locals n h c1 c2 code1 code2 n2 f1 f2 fits.0 fits.1 e runs1 runs2
