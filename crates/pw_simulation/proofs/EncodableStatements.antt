-- The code of a well-typed function has words.
use Rattle.std.proofs.Common.{◌≡◌, ℕ, zero, suc, ◌+◌, ◌^◌, ◌<◌, ◌≤◌, List, [], ◌∷◌, ◌++◌, length, Option, Some, None, refl, sym, subst, arith, lit<}
use Rattle.std.specs.Prelude.{pos, negsuc, ◌-ℤ◌}
use Rattle.std.proofs.lemmas.Int.{ints}
use Rattle.pw_isa.specs.declared.instruction.Inst.TheVariants.{Bne, Beq}
use Rattle.pw_isa.specs.Formats.{FitsField}
use Rattle.pw_isa.specs.Registers.{x0, s1, a0}
use Rattle.pw_isa.specs.EnvironmentCalls.{depth_fault}
use Rattle.pw_tree.specs.TypedExpressions.{TypedExpression}
use Rattle.pw_tree.specs.TypedStatements as statements
use Rattle.pw_tree.specs.TypedStatements.{TypedStatement, TypedStatements, OptionalTypedStatement}
use Rattle.pw_tree.specs.Units.{Function, TypedUnit}
use Rattle.pw_tree.specs.Held.{held, held_option, held_by, held_by_all, held_by_maybe}
use Rattle.pw_tree.specs.WellTypedExpressions.{Class, class, class_of, HasFittingParts, Throughout}
use Rattle.pw_tree.specs.WellTypedStatements.{IfPresent, LocalFits, StatementFits, Everywhere, EverywhereIn, EverywhereIf}
use Rattle.pw_tree.specs.WellTypedUnits.{IsWellTypedFunction}
use Rattle.pw_code.specs.declared.frame.Frame.{Frame}
use Rattle.pw_code.specs.Items.{CodePart, instruction}
use Rattle.pw_code.specs.Frames.{frame_bytes}
use Rattle.pw_code.specs.Pieces.{bytes_of_words, jump, unless_zero, past, fault, check_index, hold}
use Rattle.pw_code.specs.ExpressionCode.{expression_words, expression_code}
use Rattle.pw_code.specs.StatementCode.{Targets, targets_in_loop, statement_words, statements_words, optional_words, else_words, else_jump, set_local_words, value_words, condition_words, set_local_code, value_code, condition_code, statement_code, statements_code, optional_code, else_code}
use Rattle.pw_code.specs.FunctionCode.{frame_of, store_parameters, opens, opens_words, falls_off, closes, function_targets, function_code}
use Rattle.pw_code.specs.Bounds.{HasSmallOperands, StatementHasSmallOperands}
use Rattle.pw_code.proofs.Exports.{small_body, function_is_short}
use Rattle.pw_simulation.specs.Encodable.{CodeHasWords}
use Rattle.pw_simulation.proofs.Joined.{got_below}
use Rattle.pw_simulation.proofs.EncodablePieces.{words_both, words_of_skip, words_of_jump, words_of_unless_zero, words_of_check, words_of_check_index, words_of_hold}
use Rattle.pw_simulation.proofs.EncodableExpressions.{IsSmallFrame, words_of_expression}

-- ---- statements

-- the targets are words of a function
pub record AreNear (targets : Targets) : Type 0 where
  pub for_break : targets.break_to < 2 ^ 18
  pub for_continue : targets.continue_to < 2 ^ 18
  pub for_return : targets.return_to < 2 ^ 18

-- so many words stand at a word of a function, after the first and before the last of them
pub record HasPlace (at words : ℕ) : Type 0 where
  pub from : 4 ≤ at
  pub to : at + words + 5 < 2 ^ 18

module _ (unit : TypedUnit) (result : Class) (classes : List Class) (frame : Frame) (fits : IsSmallFrame frame classes) where
  abbrev Fits : TypedStatement → Type 0
  Fits s = StatementFits unit result classes s

  one : (h : ℕ) (e : TypedExpression) → Throughout (HasFittingParts unit classes) e → Throughout HasSmallOperands e → h + held e ≤ frame.held → expression_words e + 8 < 2 ^ 18
      → CodeHasWords (expression_code frame h e)
  one h e p o few short = words_of_expression unit classes frame fits h e p o few short

  words_of_set_local : (i : ℕ) (e : Option TypedExpression) → LocalFits classes i e → IfPresent (Throughout (HasFittingParts unit classes)) e → IfPresent (Throughout HasSmallOperands) e
      → held_option e ≤ frame.held → set_local_words e + 8 < 2 ^ 18 → CodeHasWords (set_local_code frame i e)
  words_of_set_local i None l p o few short = let small = fits.locals in ((lit< tt, lit< tt, omega arith), tt)
  words_of_set_local i (Some e) l p o few short =
      let below = got_below classes i (class e) l in
      let small = fits.locals in
      words_both (expression_code frame 0 e) _ (one 0 e p o (omega arith) (omega arith)) ((lit< tt, lit< tt, omega arith), tt)

  words_of_value : (e : Option TypedExpression) → IfPresent (Throughout (HasFittingParts unit classes)) e → IfPresent (Throughout HasSmallOperands) e → held_option e ≤ frame.held
      → value_words e + 8 < 2 ^ 18 → CodeHasWords (value_code frame e)
  words_of_value None p o few short = tt
  words_of_value (Some e) p o few short = one 0 e p o (omega arith) short

  words_of_condition : (c : Option TypedExpression) (n : ℕ) → IfPresent (Throughout (HasFittingParts unit classes)) c → IfPresent (Throughout HasSmallOperands) c → held_option c ≤ frame.held
      → condition_words c + 8 < 2 ^ 18 → n + 1 < 2 ^ 18 → CodeHasWords (condition_code frame c n)
  words_of_condition None n p o few short near = tt
  words_of_condition (Some c) n p o few short near = words_both (expression_code frame 0 c) (unless_zero n) (one 0 c p o (omega arith) (omega arith)) (words_of_unless_zero n near)

  in_loop : (end next : ℕ) (targets : Targets) → AreNear targets → end < 2 ^ 18 → next < 2 ^ 18 → AreNear (targets_in_loop end next targets)
  in_loop end next targets near he hn = record { for_break = he; for_continue = hn; for_return = near.for_return }

  mutual
    unfolding Everywhere EverywhereIn EverywhereIf held_by held_by_all held_by_maybe statement_code statement_words statements_code statements_words optional_code optional_words else_code else_words

    words_of_statement : (targets : Targets) (at : ℕ) (s : TypedStatement) → AreNear targets → Everywhere Fits s → Everywhere StatementHasSmallOperands s → held_by s ≤ frame.held
        → HasPlace at (statement_words s) → CodeHasWords (statement_code frame targets at s)
    words_of_statement targets at (statements.evaluate e) near f o few place = let from = place.from in let to = place.to in one 0 e f.parts o.expressions (omega arith) (omega arith)
    words_of_statement targets at (statements.set_local i e) near f o few place =
        let from = place.from in let to = place.to in words_of_set_local i e f.classes_fit f.parts o.expressions few (omega arith)
    words_of_statement targets at (statements.set_variable x e) near f o few place =
        let from = place.from in let to = place.to in
        words_both (expression_code frame 0 e) _ (one 0 e f.parts o.expressions (omega arith) (omega arith)) (lit< tt, ((lit< tt, lit< tt, lit< tt), tt))
    words_of_statement targets at (statements.set_element a array_size line i e) near f o few place =
        let from = place.from in
        let to = place.to in
        let slots = fits.slots in
        let size_is = o.own.0 in
        words_both (expression_code frame 0 i ++ check_index array_size line ++ hold frame 0 ∷ expression_code frame 1 e) _
        (words_both (expression_code frame 0 i ++ check_index array_size line) (hold frame 0 ∷ expression_code frame 1 e)
        (words_both (expression_code frame 0 i) (check_index array_size line) (one 0 i f.parts.0 o.expressions.0 (omega arith) (omega arith)) (words_of_check_index array_size line (omega arith) o.own.1))
        (words_of_hold frame 0 (omega arith), one 1 e f.parts.1 o.expressions.1 (omega arith) (omega arith)))
        ((lit< tt, lit< tt, omega arith), ((lit< tt, lit< tt, lit< tt), (lit< tt, ((lit< tt, lit< tt, lit< tt), ((lit< tt, lit< tt, lit< tt), tt)))))
    words_of_statement targets at (statements.block body) near f o few place = words_of_statements targets at body near f.1 o.1 few place
    words_of_statement targets at (statements.if_else c a b) near f o few place =
        let from = place.from in
        let to = place.to in
        let then_at : ℕ = at + (expression_words c + 2) in
        let jumped = else_jumps b in
        words_both (expression_code frame 0 c ++ unless_zero (statement_words a + else_jump b) ++ statement_code frame targets then_at a) (else_code frame targets (then_at + statement_words a) b)
        (words_both (expression_code frame 0 c ++ unless_zero (statement_words a + else_jump b)) (statement_code frame targets then_at a)
        (words_both (expression_code frame 0 c) (unless_zero (statement_words a + else_jump b)) (one 0 c f.0.parts o.0.expressions (omega arith) (omega arith)) (words_of_unless_zero (statement_words a + else_jump b) (omega arith)))
        (words_of_statement targets then_at a near f.1 o.1 (omega arith) (record { from = omega arith; to = omega arith })))
        (words_of_else targets (then_at + statement_words a) b near f.2 o.2 (omega arith) (record { from = omega arith; to = omega arith }))
    words_of_statement targets at (statements.while_loop c body) near f o few place =
        let from = place.from in
        let to = place.to in
        let body_at : ℕ = at + (expression_words c + 2) in
        let next : ℕ = body_at + statement_words body in
        let inner : Targets = targets_in_loop (next + 1) next targets in
        words_both (expression_code frame 0 c ++ unless_zero (statement_words body + 1) ++ statement_code frame inner body_at body) (jump next at ∷ [])
        (words_both (expression_code frame 0 c ++ unless_zero (statement_words body + 1)) (statement_code frame inner body_at body)
        (words_both (expression_code frame 0 c) (unless_zero (statement_words body + 1)) (one 0 c f.0.parts o.0.expressions (omega arith) (omega arith)) (words_of_unless_zero (statement_words body + 1) (omega arith)))
        (words_of_statement inner body_at body (in_loop (next + 1) next targets near (omega arith) (omega arith)) f.1 o.1 (omega arith) (record { from = omega arith; to = omega arith })))
        (words_of_jump next at (omega arith) (omega arith), tt)
    words_of_statement targets at (statements.do_loop body c) near f o few place =
        let from = place.from in
        let to = place.to in
        let next : ℕ = at + statement_words body in
        let jump_at : ℕ = next + (expression_words c + 1) in
        let inner : Targets = targets_in_loop (jump_at + 1) next targets in
        words_both (statement_code frame inner at body ++ expression_code frame 0 c) (instruction (Beq a0 x0 (pos (bytes_of_words 2))) ∷ jump jump_at at ∷ [])
        (words_both (statement_code frame inner at body) (expression_code frame 0 c)
        (words_of_statement inner at body (in_loop (jump_at + 1) next targets near (omega arith) (omega arith)) f.1 o.1 (omega arith) (record { from = omega arith; to = omega arith }))
        (one 0 c f.0.parts o.0.expressions (omega arith) (omega arith)))
        ((lit< tt, lit< tt, lit< tt, refl), (words_of_jump jump_at at (omega arith) (omega arith), tt))
    words_of_statement targets at (statements.for_loop first c last body) near f o few place =
        let from = place.from in
        let to = place.to in
        let top : ℕ = at + optional_words first in
        let body_at : ℕ = top + condition_words c in
        let next : ℕ = body_at + statement_words body in
        let jump_at : ℕ = next + optional_words last in
        let inner : Targets = targets_in_loop (jump_at + 1) next targets in
        let loop_words : ℕ = statement_words body + (optional_words last + 1) in
        words_both (optional_code frame targets at first ++ condition_code frame c loop_words ++ statement_code frame inner body_at body ++ optional_code frame targets next last) (jump jump_at top ∷ [])
        (words_both (optional_code frame targets at first ++ condition_code frame c loop_words ++ statement_code frame inner body_at body) (optional_code frame targets next last)
        (words_both (optional_code frame targets at first ++ condition_code frame c loop_words) (statement_code frame inner body_at body)
        (words_both (optional_code frame targets at first) (condition_code frame c loop_words)
        (words_of_optional targets at first near f.1 o.1 (omega arith) (record { from = omega arith; to = omega arith }))
        (words_of_condition c loop_words f.0.parts o.0.expressions (omega arith) (omega arith) (omega arith)))
        (words_of_statement inner body_at body (in_loop (jump_at + 1) next targets near (omega arith) (omega arith)) f.3 o.3 (omega arith) (record { from = omega arith; to = omega arith })))
        (words_of_optional targets next last near f.2 o.2 (omega arith) (record { from = omega arith; to = omega arith })))
        (words_of_jump jump_at top (omega arith) (omega arith), tt)
    words_of_statement targets at (statements.returns e) near f o few place =
        let from = place.from in
        let to = place.to in
        words_both (value_code frame e) _ (words_of_value e f.parts o.expressions few (omega arith)) (words_of_jump (at + value_words e) targets.return_to (omega arith) near.for_return, tt)
    words_of_statement targets at statements.breaks near f o few place = let to = place.to in (words_of_jump at targets.break_to (omega arith) near.for_break, tt)
    words_of_statement targets at statements.continues near f o few place = let to = place.to in (words_of_jump at targets.continue_to (omega arith) near.for_continue, tt)

    pub words_of_statements : (targets : Targets) (at : ℕ) (ss : TypedStatements) → AreNear targets → EverywhereIn Fits ss → EverywhereIn StatementHasSmallOperands ss → held_by_all ss ≤ frame.held
        → HasPlace at (statements_words ss) → CodeHasWords (statements_code frame targets at ss)
    words_of_statements targets at statements.nil near f o few place = tt
    words_of_statements targets at (statements.cons s ss) near f o few place =
        let from = place.from in
        let to = place.to in
        words_both (statement_code frame targets at s) (statements_code frame targets (at + statement_words s) ss)
        (words_of_statement targets at s near f.0 o.0 (omega arith) (record { from = from; to = omega arith }))
        (words_of_statements targets (at + statement_words s) ss near f.1 o.1 (omega arith) (record { from = omega arith; to = omega arith }))

    words_of_optional : (targets : Targets) (at : ℕ) (s : OptionalTypedStatement) → AreNear targets → EverywhereIf Fits s → EverywhereIf StatementHasSmallOperands s → held_by_maybe s ≤ frame.held
        → HasPlace at (optional_words s) → CodeHasWords (optional_code frame targets at s)
    words_of_optional targets at statements.absent near f o few place = tt
    words_of_optional targets at (statements.present s) near f o few place = words_of_statement targets at s near f o few place

    words_of_else : (targets : Targets) (at : ℕ) (s : OptionalTypedStatement) → AreNear targets → EverywhereIf Fits s → EverywhereIf StatementHasSmallOperands s → held_by_maybe s ≤ frame.held
        → HasPlace at (else_words s) → CodeHasWords (else_code frame targets at s)
    words_of_else targets at statements.absent near f o few place = tt
    words_of_else targets at (statements.present s) near f o few place =
        let from = place.from in
        let to = place.to in
        (words_of_skip (statement_words s) (omega arith), words_of_statement targets (at + 1) s near f o few (record { from = omega arith; to = omega arith }))

    -- an `else` has the jump before it
    else_jumps : (s : OptionalTypedStatement) → else_jump s ≤ else_words s
    else_jumps statements.absent = omega arith
    else_jumps (statements.present s) = omega arith

-- ---- functions

words_of_parameters : (i n : ℕ) → i + n ≤ 6 → CodeHasWords (store_parameters i n)
unfolding store_parameters
words_of_parameters i zero few = tt
words_of_parameters i (suc n) few = ((lit< tt, omega arith, omega arith), words_of_parameters (suc i) n (omega arith))

negative_fits : (n : ℕ) → n ≤ 2048 → FitsField (2 ^ 11) (pos 0 -ℤ pos n)
negative_fits zero few = let e : pos 0 -ℤ pos 0 ≡ pos 0 = omega (arith, ints) in subst (FitsField (2 ^ 11)) (sym e) (lit< tt)
negative_fits (suc n) few = let e : pos 0 -ℤ pos (suc n) ≡ negsuc n = omega (arith, ints) in subst (FitsField (2 ^ 11)) (sym e) (omega arith)

small_frame : (unit : TypedUnit) (f : Function) (h : IsWellTypedFunction unit f) → IsSmallFrame (frame_of f) h.classes
small_frame unit f h =
    let locals = h.few_locals in
    let held = h.few_held in
    let each = h.are_classes.each in record { slots = omega arith; locals = omega arith }

opens_has_words : (unit : TypedUnit) (f : Function) → IsWellTypedFunction unit f → CodeHasWords (opens f)
opens_has_words unit f h =
    let locals = h.few_locals in
    let held = h.few_held in
    let few = h.signature.few in
    words_both (past (Bne s1 x0) (fault depth_fault f.line)) _ (words_of_check s1 x0 depth_fault f.line (lit< tt) (lit< tt) (lit< tt) h.line)
    ((lit< tt, lit< tt, lit< tt), ((lit< tt, lit< tt, negative_fits (frame_bytes (frame_of f)) (omega arith)), ((lit< tt, lit< tt, omega arith), words_of_parameters 0 (length f.sig.params) (omega arith))))

closes_has_words : (unit : TypedUnit) (f : Function) → IsWellTypedFunction unit f → CodeHasWords (closes f)
closes_has_words unit f h =
    let locals = h.few_locals in
    let held = h.few_held in
    ((lit< tt, lit< tt, omega arith), ((lit< tt, lit< tt, omega arith), ((lit< tt, lit< tt, lit< tt), ((lit< tt, lit< tt, lit< tt), tt))))

pub function_has_words : (unit : TypedUnit) (f : Function) → IsWellTypedFunction unit f → CodeHasWords (function_code f)
function_has_words unit f h =
    let short = function_is_short unit f h in
    let held = h.held in
    let body : List CodePart = statements_code (frame_of f) (function_targets f) (opens_words f) f.body in
    words_both (opens f ++ body) (falls_off ∷ closes f)
    (words_both (opens f) body (opens_has_words unit f h)
    (words_of_statements unit (class_of f.sig.result) h.classes (frame_of f) (small_frame unit f h) (function_targets f) (opens_words f) f.body
    (record { for_break = omega arith; for_continue = omega arith; for_return = omega arith }) h.fits (small_body unit f h) (omega arith) (record { from = omega arith; to = omega arith })))
    ((lit< tt, lit< tt, lit< tt), closes_has_words unit f h)
