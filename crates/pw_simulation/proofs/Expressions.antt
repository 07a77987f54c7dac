-- The law of expressions, a row of the scheme after the other.
use Rattle.std.proofs.Common.{◌≡◌, ℕ, zero, suc, ◌+◌, ◌^◌, ◌<◌, ◌≤◌, max, Bool, true, false, List, [], ◌∷◌, ◌++◌, length, map, Option, Some, None, refl, sym, ◌∙◌, ap, subst, arith, pos}
use Rattle.std.specs.List.{AllByRecursion}
use Rattle.pw_tree.specs.declared.ty.Ty.{Ty}
use Rattle.pw_tree.specs.declared.ty.Ty.TheVariants.{Void, Long, Ulong, Fn}
use Rattle.pw_tree.specs.declared.ty.Ref.{Ref}
use Rattle.pw_tree.specs.declared.operator.Un.{Un}
use Rattle.pw_tree.specs.declared.operator.Un.TheVariants.{Neg, Plus, Not, Bang}
use Rattle.pw_tree.specs.Types.{AreValueTypes}
use Rattle.pw_tree.specs.Held.{held, held_both, holds_left, held_arguments, count}
use Rattle.pw_tree.specs.Depends.{names_in, names_in_all}
use Rattle.pw_tree.specs.Names.{Definition}
use Rattle.pw_tree.specs.TypedExpressions.{TypedExpression, TypedExpressions, constant, local, variable, designator, element, unary, binary, conditional, call, call_pointer, input, output, nil, cons}
use Rattle.pw_tree.specs.States.{Value, State, Locals, Outcome}
use Rattle.pw_tree.specs.Evaluation.{eval, eval_all}
use Rattle.pw_tree.specs.WellTypedExpressions.{Class, nothing, number, class_of, class, IsValue, OperandFits, HasFittingParts, ReadsKnown, HasSmallNumbers, Throughout, ThroughoutAll, ArgumentsFit, AreNumbers}
use Rattle.pw_tree.specs.WellTypedExpressions as classes
use Rattle.pw_code.specs.Items.{CodePart, size}
use Rattle.pw_code.specs.ExpressionCode.{right_slot, expression_words, expression_code, arguments_code}
use Rattle.pw_code.proofs.Exports.{size-expression}
use Rattle.pw_simulation.specs.World.{World}
use Rattle.pw_simulation.specs.Sees.{Sees}
use Rattle.pw_simulation.specs.Bodies.{Body, HasFrame, IsLinked, context_of, Runs}
use Rattle.pw_simulation.specs.Calls.{RunsAll, CallsRun, ExpressionsRun}
use Rattle.pw_simulation.proofs.ReadRows.{constant_row, local_row, variable_row, designator_row}
use Rattle.pw_simulation.proofs.OperatorRows.{unary_row}
use Rattle.pw_simulation.proofs.BinaryRows.{binary_row}
use Rattle.pw_simulation.proofs.ConditionRows.{conditional_row}
use Rattle.pw_simulation.proofs.PortRows.{input_row, output_row}
use Rattle.pw_simulation.proofs.IndexRows.{element_row}
use Rattle.pw_simulation.proofs.ArgumentRows.{no_arguments_row, argument_row}
use Rattle.pw_simulation.proofs.CallRows.{call_row}
use Rattle.pw_simulation.proofs.PointerRows.{numbers, pointer_row}

-- ---- names

pub links_left : (P : Ref → Type 0) (xs ys : List Ref) → AllByRecursion P (xs ++ ys) → AllByRecursion P xs
links_left P [] ys h = tt
links_left P (x ∷ xs) ys h = (h.0, links_left P xs ys h.1)

pub links_right : (P : Ref → Type 0) (xs ys : List Ref) → AllByRecursion P (xs ++ ys) → AllByRecursion P ys
links_right P [] ys h = h
links_right P (x ∷ xs) ys h = links_right P xs ys h.1

-- ---- held values

-- of two operands
record Sides (t : Bool) (h l r most : ℕ) : Type 0 where
  left : h + l ≤ most
  right : Rattle.std.proofs.Common.cond t (suc h) h + r ≤ most
  slot : t ≡ true → h < most

sides : (t : Bool) (h l r most : ℕ) → h + held_both t l r ≤ most → Sides t h l r most
sides true h l r most few = record { left = omega arith; right = omega arith; slot = λ e. omega arith }
sides false h l r most few = record { left = omega arith; right = omega arith; slot = λ e. cc }

-- arguments hold themselves
arguments_held : (m : ℕ) (es : TypedExpressions) → m + count es ≤ held_arguments m es
unfolding held
arguments_held m nil = omega arith
arguments_held m (cons e es) = let rest = arguments_held (suc m) es in omega (arith, rest)

-- ---- classes

operand_is_value : (op : Un) (c : Class) → OperandFits op c → IsValue c
operand_is_value Bang c h = h
operand_is_value Neg c h = subst IsValue (sym h) tt
operand_is_value Plus c h = subst IsValue (sym h) tt
operand_is_value Not c h = subst IsValue (sym h) tt

-- arguments of these classes
abbrev AreOf : List Class → TypedExpressions → Type 0
AreOf [] nil = Unit {0}
AreOf (c ∷ cs) (cons e es) = (class e ≡ c) × IsValue c × AreOf cs es
AreOf [] (cons e es) = ⊥
AreOf (c ∷ cs) nil = ⊥

pub value_class : (ty : Ty) → Rattle.pw_tree.specs.Types.IsValueType ty → IsValue (class_of ty)
value_class Void h = absurd h
value_class Long h = tt
value_class Ulong h = tt
value_class (Fn k) h = tt

arguments_of : (tys : List Ty) (es : TypedExpressions) → AreValueTypes tys → ArgumentsFit tys es → AreOf (map class_of tys) es
unfolding AreValueTypes ArgumentsFit
arguments_of [] nil some fits = tt
arguments_of [] (cons e es) some fits = absurd fits
arguments_of (ty ∷ tys) nil some fits = absurd fits
arguments_of (ty ∷ tys) (cons e es) some fits = (fits.0, value_class ty some.0, arguments_of tys es some.1 fits.1)

as_many : (tys : List Ty) (es : TypedExpressions) → ArgumentsFit tys es → length (map class_of tys) ≡ count es
unfolding ArgumentsFit held
as_many [] nil fits = refl
as_many [] (cons e es) fits = absurd fits
as_many (ty ∷ tys) nil fits = absurd fits
as_many (ty ∷ tys) (cons e es) fits = ap suc (as_many tys es fits.1)

numbers_of : (es : TypedExpressions) → AreNumbers es → AreOf (numbers (count es)) es
unfolding AreNumbers held
numbers_of nil h = tt
numbers_of (cons e es) h = (h.0, tt, numbers_of es h.1)

module _ (w : World) (sees : Sees w) (b : Body) (frame : HasFrame w b) (known : List ℕ) (locals : Locals) (n turns : ℕ)
    (calls : Definition → List Value → State → Outcome Value) (calls_run : CallsRun w calls n) where
  abbrev IsFine : TypedExpression → Type 0
  IsFine e = HasFittingParts b.unit b.classes e

  -- the same of another class
  runs_as : (h : ℕ) (c d : Class) (code : List CodePart) (f : State → Outcome Value) → c ≡ d → Runs w b known locals n h c code f → Runs w b known locals n h d code f
  runs_as h c d code f e r = subst (λ k. Runs w b known locals n h k code f) e r

  mutual
    unfolding expression_code arguments_code held Throughout

    pub expression_runs : (e : TypedExpression) (h : ℕ) → Throughout IsFine e → Throughout (ReadsKnown known) e → Throughout HasSmallNumbers e → h + held e ≤ b.frame.held
        → AllByRecursion (IsLinked w b) (names_in e) → Runs w b known locals n h (class e) (expression_code b.frame h e) (eval (context_of w b calls turns) e locals)
    expression_runs (constant at v) h p k m few links = runs_as h number (class_of at.ty) (expression_code b.frame h (constant at v)) (eval (context_of w b calls turns) (constant at v) locals) (sym p) (constant_row w sees b frame known locals n h v m.value)
    expression_runs (local at i) h p k m few links = local_row w sees b frame known locals n h at.ty i k p
    expression_runs (variable at x) h p k m few links = variable_row w sees b frame known locals n h x (class_of at.ty) (links.0.variable None (class_of at.ty) p)
    expression_runs (designator at f) h p k m few links = designator_row w sees b frame known locals n h f at.ty p.sig (links.0.function p.sig p.function) p.type
    expression_runs (element at a size i) h p k m few links =
        let bound = p.0.0.variable.size in
        let line = m.0.line in
        element_row w sees b frame known locals n h a size at.line (class_of at.ty) calls turns (expression_code b.frame h i) (eval (context_of w b calls turns) i locals)
        (links.0.variable (Some size) (class_of at.ty) p.0.0) (omega (arith, bound.1)) (omega arith)
        (runs_as h (class i) number (expression_code b.frame h i) (eval (context_of w b calls turns) i locals) p.0.1 (expression_runs i h p.1 k.1 m.1 few links.1))
    expression_runs (unary at op e) h p k m few links =
        runs_as h number (class_of at.ty) (expression_code b.frame h (unary at op e)) (eval (context_of w b calls turns) (unary at op e) locals) (sym p.0.0)
        (unary_row w sees b frame known locals n h op (class e) (expression_code b.frame h e) (eval (context_of w b calls turns) e locals) (operand_is_value op (class e) p.0.1) p.0.1
        (expression_runs e h p.1 k.1 m.1 few links))
    expression_runs (binary at op unsigned l r) h p k m few links =
        let both = sides (holds_left op) h (held l) (held r) b.frame.held few in
        let line = m.0.line in
        runs_as h number (class_of at.ty) (expression_code b.frame h (binary at op unsigned l r)) (eval (context_of w b calls turns) (binary at op unsigned l r) locals) (sym p.0.0)
        (binary_row w sees b frame known locals n h calls turns at.line op unsigned (class l) (class r) (expression_code b.frame h l) (expression_code b.frame (right_slot op h) r) (expression_words r)
        (eval (context_of w b calls turns) l locals) (eval (context_of w b calls turns) r locals) p.0.1 both.slot (omega arith) (size-expression b.frame (right_slot op h) r)
        (expression_runs l h p.1 k.1 m.1 both.left (links_left (IsLinked w b) (names_in l) (names_in r) links))
        (expression_runs r (right_slot op h) p.2 k.2 m.2 both.right (links_right (IsLinked w b) (names_in l) (names_in r) links)))
    expression_runs (conditional at c x y) h p k m few links =
        let rest = links_right (IsLinked w b) (names_in c ++ names_in x) (names_in y) links in
        let front = links_left (IsLinked w b) (names_in c ++ names_in x) (names_in y) links in
        conditional_row w sees b frame known locals n h (class c) (class_of at.ty) (expression_code b.frame h c) (expression_code b.frame h x) (expression_code b.frame h y) (expression_words x) (expression_words y)
        (eval (context_of w b calls turns) c locals) (eval (context_of w b calls turns) x locals) (eval (context_of w b calls turns) y locals) p.0.0 (size-expression b.frame h x) (size-expression b.frame h y)
        (expression_runs c h p.1 k.1 m.1 (omega arith) (links_left (IsLinked w b) (names_in c) (names_in x) front))
        (runs_as h (class x) (class_of at.ty) (expression_code b.frame h x) (eval (context_of w b calls turns) x locals) p.0.2 (expression_runs x h p.2 k.2 m.2 (omega arith) (links_right (IsLinked w b) (names_in c) (names_in x) front)))
        (runs_as h (class y) (class_of at.ty) (expression_code b.frame h y) (eval (context_of w b calls turns) y locals) p.0.3 (expression_runs y h p.3 k.3 m.3 (omega arith) rest))
    expression_runs (call at f es) h p k m few links =
        let hold = arguments_held 0 es in
        let same : h + 0 ≡ h = omega arith in
        let arguments = arguments_run es (map class_of p.0.sig.params) h 0 (arguments_of p.0.sig.params es p.0.function.types.params p.0.arguments) p.1 k.1 m.1 few links.1 in
        runs_as h (class_of p.0.sig.result) (class_of at.ty) (expression_code b.frame h (call at f es)) (eval (context_of w b calls turns) (call at f es) locals) (sym p.0.result)
        (call_row w sees b frame known locals n h calls f p.0.sig (count es) (arguments_code b.frame h es) (eval_all (context_of w b calls turns) es locals) calls_run (links.0.function p.0.sig p.0.function)
        (as_many p.0.sig.params es p.0.arguments) (omega (arith, hold))
        (subst (λ g. RunsAll w b known locals n g (map class_of p.0.sig.params) (arguments_code b.frame g es) (eval_all (context_of w b calls turns) es locals)) same arguments))
    expression_runs (call_pointer at e es) h p k m few links =
        let hold = arguments_held 0 es in
        let same : h + 0 ≡ h = omega arith in
        let line = m.0.line in
        let arguments = arguments_run es (numbers (count es)) h 0 (numbers_of es p.0.arguments) p.2 k.2 m.2 (omega arith) (links_right (IsLinked w b) (names_in e) (names_in_all es) links) in
        runs_as h number (class_of at.ty) (expression_code b.frame h (call_pointer at e es)) (eval (context_of w b calls turns) (call_pointer at e es) locals) (sym p.0.result)
        (pointer_row w sees b frame known locals n h calls turns at.line (count es) calls_run (omega arith) (omega (arith, hold)) (arguments_code b.frame h es) (expression_code b.frame (h + count es) e)
        (eval_all (context_of w b calls turns) es locals) (eval (context_of w b calls turns) e locals)
        (subst (λ g. RunsAll w b known locals n g (numbers (count es)) (arguments_code b.frame g es) (eval_all (context_of w b calls turns) es locals)) same arguments)
        (runs_as (h + count es) (class e) (classes.pointer (count es)) (expression_code b.frame (h + count es) e) (eval (context_of w b calls turns) e locals) p.0.callee (expression_runs e (h + count es) p.1 k.1 m.1 (omega arith) (links_left (IsLinked w b) (names_in e) (names_in_all es) links))))
    expression_runs (input at) h p k m few links = runs_as h number (class_of at.ty) (expression_code b.frame h (input at)) (eval (context_of w b calls turns) (input at) locals) (sym p) (input_row w sees b frame known locals n h)
    expression_runs (output at e) h p k m few links =
        runs_as h nothing (class_of at.ty) (expression_code b.frame h (output at e)) (eval (context_of w b calls turns) (output at e) locals) (sym p.0.0)
        (output_row w sees b frame known locals n h (expression_code b.frame h e) (eval (context_of w b calls turns) e locals)
        (runs_as h (class e) number (expression_code b.frame h e) (eval (context_of w b calls turns) e locals) p.0.1 (expression_runs e h p.1 k.1 m.1 few links)))

    arguments_run : (es : TypedExpressions) (cs : List Class) (h i : ℕ) → AreOf cs es → ThroughoutAll IsFine es → ThroughoutAll (ReadsKnown known) es → ThroughoutAll HasSmallNumbers es
        → h + held_arguments i es ≤ b.frame.held → AllByRecursion (IsLinked w b) (names_in_all es)
        → RunsAll w b known locals n (h + i) cs (arguments_code b.frame (h + i) es) (eval_all (context_of w b calls turns) es locals)
    arguments_run nil [] h i are p k m few links = no_arguments_row w sees b frame known locals n (h + i)
    arguments_run nil (c ∷ cs) h i are p k m few links = absurd are
    arguments_run (cons e es) [] h i are p k m few links = absurd are
    arguments_run (cons e es) (c ∷ cs) h i are p k m few links =
        let hold = arguments_held (suc i) es in
        let next : h + suc i ≡ suc (h + i) = omega arith in
        let rest = arguments_run es cs h (suc i) are.2 p.1 k.1 m.1 (omega arith) (links_right (IsLinked w b) (names_in e) (names_in_all es) links) in
        argument_row w sees b frame known locals n (h + i) c cs (expression_code b.frame (h + i) e) (arguments_code b.frame (suc (h + i)) es) (eval (context_of w b calls turns) e locals) (eval_all (context_of w b calls turns) es locals)
        (omega (arith, hold)) are.1 (runs_as (h + i) (class e) c (expression_code b.frame (h + i) e) (eval (context_of w b calls turns) e locals) are.0 (expression_runs e (h + i) p.0 k.0 m.0 (omega arith) (links_left (IsLinked w b) (names_in e) (names_in_all es) links)))
        (subst (λ g. RunsAll w b known locals n g cs (arguments_code b.frame g es) (eval_all (context_of w b calls turns) es locals)) next rest)

pub expressions_run : ExpressionsRun
expressions_run w b known locals n h turns calls e sees frame calls_run is = expression_runs w sees b frame known locals n turns calls calls_run e h is.parts is.reads is.numbers is.held is.links
