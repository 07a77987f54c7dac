-- The code of each form by its parts, and a prefix of it where one of them gives up.
use Rattle.std.proofs.Common.{◌≡◌, suc, ◌+◌, ◌*◌, ◌++◌, ◌≤◌, Ok, [], ◌∷◌, pos, ap, subst, sym, ◌∙◌, arith, add-one, length, drop}
use Rattle.std.specs.Int.RustNames.{FitsSigned}
use Rattle.std.specs.Int.{w32}
use Rattle.std.proofs.lemmas.Int.{to_z-of_z}
use Rattle.pw_isa.specs.declared.instruction.Inst.TheVariants.{Ld, Addi, Ecall}
use Rattle.pw_isa.specs.Registers.{x0, sp, t0, a7}
use Rattle.pw_isa.specs.EnvironmentCalls.{output_call}
use Rattle.pw_tree.specs.TypedExpressions.{typed_expression_of, typed_expressions_of}
use Rattle.pw_tree.specs.WellTypedExpressions.{expressions_in, expressions_in_all}
use Rattle.pw_code.specs.Items.{instruction}
use Rattle.pw_code.specs.Frames.{held_slot}
use Rattle.pw_code.specs.Pieces.{hold, skip, unless_zero, unless_nonzero, truth_code, unary_code, binary_code}
use Rattle.pw_code.specs.ExpressionCode.{expression_words, expression_code, arguments_code}
use Rattle.pw_genexpr.specs.Appends.{AppendsPrefix, Appends}
use Rattle.pw_genexpr.specs.Steps.Emitting.{CanEmit, CanEmitAll, operands_code, element_code, call_code, call_pointer_code}
use Rattle.pw_genexpr.proofs.Appending.{prefix_of_more, prefix_after, appends_after, both_appended, gave_up}
use Rattle.pw_genexpr.proofs.Arguments.{count_of, left_at, fewer_left, none_left}
use Rattle.pw_genexpr.proofs.Trees.{mark, typed_element, typed_unary, typed_output, typed_call, typed_call_pointer}
use Rattle.pw_genexpr.proofs.Whole.{element_whole, call_whole, call_pointer_whole, held_binary}
use Rattle.pw_genexpr.proofs.Emitting.{IsUnderWay, room_for_all, emits_first, emits_others, emits_arguments, emits_pointer_arguments, emits_callee, under_way_argument, under_way_hold, under_way_next, under_way_last}
use Rattle.pw_genexpr.proofs.expression.+emit.Goals as goal

pub emit-returns-in_err-emit-in-Elem : goal.emit-returns-in_err-emit-in-Elem
unfolding expression_code
emit-returns-in_err-emit-in-Elem t c =
    rw (typed_element c.args.e.now c.in-Elem.array c.in-Elem.size c.in-Elem.index c.in-Elem.is, element_whole c.args.frame.now c.args.held (mark c.args.e.now) c.in-Elem.array c.in-Elem.size (typed_expression_of c.in-Elem.index))
    (gave_up _ _ _ _ _ c.from_residual.ensures.1 (prefix_of_more (expression_code c.args.frame.now c.args.held (typed_expression_of c.in-Elem.index)) (element_code c.in-Elem.array c.in-Elem.size c.args.e.now.line) _ _ (subst (λ y. AppendsPrefix (expression_code c.args.frame.now c.args.held (typed_expression_of y)) c.args.to.now.items c.emit.new.to.items) c.get.ensures c.in_err-emit-in-Elem.ensures)))

pub emit-returns-in_ok-emit-in-Elem : goal.emit-returns-in_ok-emit-in-Elem
unfolding expression_code
emit-returns-in_ok-emit-in-Elem t c =
    rw (typed_element c.args.e.now c.in-Elem.array c.in-Elem.size c.in-Elem.index c.in-Elem.is, element_whole c.args.frame.now c.args.held (mark c.args.e.now) c.in-Elem.array c.in-Elem.size (typed_expression_of c.in-Elem.index))
    (appends_after (expression_code c.args.frame.now c.args.held (typed_expression_of c.in-Elem.index)) (element_code c.in-Elem.array c.in-Elem.size c.args.e.now.line) _ _ _ _ (subst (λ y. Appends (expression_code c.args.frame.now c.args.held (typed_expression_of y)) c.args.to.now.items c.emit.new.to.items (Ok tt)) c.get.ensures c.in_ok-emit-in-Elem.ensures) c.put_element.ensures)

pub emit-returns-in_err-emit-in-Unary : goal.emit-returns-in_err-emit-in-Unary
unfolding expression_code
emit-returns-in_err-emit-in-Unary t c =
    rw (typed_unary c.args.e.now c.in-Unary.op c.in-Unary.operand c.in-Unary.is)
    (gave_up _ _ _ _ _ c.from_residual-in_err-emit-in-Unary.ensures.1 (prefix_of_more (expression_code c.args.frame.now c.args.held (typed_expression_of c.in-Unary.operand)) (unary_code c.in-Unary.op) _ _ (subst (λ y. AppendsPrefix (expression_code c.args.frame.now c.args.held (typed_expression_of y)) c.args.to.now.items c.emit-in-Unary.new.to.items) c.get-in-Unary.ensures c.in_err-emit-in-Unary.ensures)))

pub emit-returns-in_ok-emit-in-Unary : goal.emit-returns-in_ok-emit-in-Unary
unfolding expression_code
emit-returns-in_ok-emit-in-Unary t c =
    rw (typed_unary c.args.e.now c.in-Unary.op c.in-Unary.operand c.in-Unary.is)
    (appends_after (expression_code c.args.frame.now c.args.held (typed_expression_of c.in-Unary.operand)) (unary_code c.in-Unary.op) _ _ _ _ (subst (λ y. Appends (expression_code c.args.frame.now c.args.held (typed_expression_of y)) c.args.to.now.items c.emit-in-Unary.new.to.items (Ok tt)) c.get-in-Unary.ensures c.in_ok-emit-in-Unary.ensures) c.put_unary.ensures)

pub emit-returns-in_err-emit-in-Output : goal.emit-returns-in_err-emit-in-Output
unfolding expression_code
emit-returns-in_err-emit-in-Output t c =
    rw (typed_output c.args.e.now c.in-Output.value c.in-Output.is)
    (gave_up _ _ _ _ _ c.from_residual-in_err-emit-in-Output.ensures.1 (prefix_of_more (expression_code c.args.frame.now c.args.held (typed_expression_of c.in-Output.value)) (instruction (Addi a7 x0 (pos output_call)) ∷ instruction Ecall ∷ []) _ _ (subst (λ y. AppendsPrefix (expression_code c.args.frame.now c.args.held (typed_expression_of y)) c.args.to.now.items c.emit-in-Output.new.to.items) c.get-in-Output.ensures c.in_err-emit-in-Output.ensures)))

pub emit-returns-in_ok-emit-in-Output : goal.emit-returns-in_ok-emit-in-Output
unfolding expression_code
emit-returns-in_ok-emit-in-Output t c =
    rw (typed_output c.args.e.now c.in-Output.value c.in-Output.is)
    (appends_after (expression_code c.args.frame.now c.args.held (typed_expression_of c.in-Output.value)) (instruction (Addi a7 x0 (pos output_call)) ∷ instruction Ecall ∷ []) _ _ _ _ (subst (λ y. Appends (expression_code c.args.frame.now c.args.held (typed_expression_of y)) c.args.to.now.items c.emit-in-Output.new.to.items (Ok tt)) c.get-in-Output.ensures c.in_ok-emit-in-Output.ensures) c.put_output.ensures)

pub emit-emit_call-requires : goal.emit-emit_call-requires
unfolding expressions_in
emit-emit_call-requires t c =
    let can = subst (CanEmit c.args.frame.now c.args.held) (typed_call c.args.e.now c.in-Call.function c.in-Call.arguments c.in-Call.is) c.requires in
    let all = emits_arguments c.args.frame.now c.args.held (mark c.args.e.now) c.in-Call.function (typed_expressions_of c.in-Call.arguments) can in (
      omega (arith, ap expressions_in (typed_call c.args.e.now c.in-Call.function c.in-Call.arguments c.in-Call.is), ap (λ es. expressions_in_all (typed_expressions_of es)) c.as_slice.ensures),
      subst (λ es. CanEmitAll c.args.frame.now c.args.held (typed_expressions_of es)) (sym c.as_slice.ensures) all,
    )

pub emit-returns-in-Call : goal.emit-returns-in-Call
emit-returns-in-Call t c =
    rw (typed_call c.args.e.now c.in-Call.function c.in-Call.arguments c.in-Call.is, call_whole c.args.frame.now c.args.held (mark c.args.e.now) c.in-Call.function c.in-Call.arguments)
    (subst (λ es. Appends (arguments_code c.args.frame.now c.args.held (typed_expressions_of es) ++ call_code c.args.frame.now c.args.held (length es) c.in-Call.function) c.args.to.now.items c.emit_call.new.to.items c.emit_call.result)
    c.as_slice.ensures c.emit_call.ensures)

pub emit-emit_call_pointer-requires : goal.emit-emit_call_pointer-requires
unfolding expressions_in
emit-emit_call_pointer-requires t c =
    let can = subst (CanEmit c.args.frame.now c.args.held) (typed_call_pointer c.args.e.now c.in-CallPtr.callee c.in-CallPtr.arguments c.in-CallPtr.is) c.requires in
    let all = emits_pointer_arguments c.args.frame.now c.args.held (mark c.args.e.now) (typed_expression_of c.in-CallPtr.callee) (typed_expressions_of c.in-CallPtr.arguments) can in
    let callee = emits_callee c.args.frame.now c.args.held (length c.in-CallPtr.arguments) (mark c.args.e.now) (typed_expression_of c.in-CallPtr.callee)
    (typed_expressions_of c.in-CallPtr.arguments) (sym (count_of c.in-CallPtr.arguments)) can in (
      omega (
        arith,
        ap expressions_in (typed_call_pointer c.args.e.now c.in-CallPtr.callee c.in-CallPtr.arguments c.in-CallPtr.is),
        ap (λ es. expressions_in_all (typed_expressions_of es)) c.as_slice-in-CallPtr.ensures,
        ap (λ e. expressions_in (typed_expression_of e)) c.get-in-CallPtr.ensures,
      ),
      (
        subst (λ es. CanEmitAll c.args.frame.now c.args.held (typed_expressions_of es)) (sym c.as_slice-in-CallPtr.ensures) all,
        subst (λ es. CanEmit c.args.frame.now (c.args.held + length es) (typed_expression_of c.get-in-CallPtr.result.now)) (sym c.as_slice-in-CallPtr.ensures)
            (subst (λ e. CanEmit c.args.frame.now (c.args.held + length c.in-CallPtr.arguments) (typed_expression_of e)) (sym c.get-in-CallPtr.ensures) callee),
      ),
    )

pub emit-returns-in-CallPtr : goal.emit-returns-in-CallPtr
emit-returns-in-CallPtr t c =
    rw (typed_call_pointer c.args.e.now c.in-CallPtr.callee c.in-CallPtr.arguments c.in-CallPtr.is, call_pointer_whole c.args.frame.now c.args.held (mark c.args.e.now) (typed_expression_of c.in-CallPtr.callee) c.in-CallPtr.arguments)
    (subst (λ es. Appends (arguments_code c.args.frame.now c.args.held (typed_expressions_of es) ++ (expression_code c.args.frame.now (c.args.held + length es) (typed_expression_of c.in-CallPtr.callee)
    ++ call_pointer_code c.args.frame.now c.args.held (length es) c.args.e.now.line)) c.args.to.now.items c.emit_call_pointer.new.to.items c.emit_call_pointer.result) c.as_slice-in-CallPtr.ensures
    (subst (λ e. Appends (arguments_code c.args.frame.now c.args.held (typed_expressions_of c.as_slice-in-CallPtr.result.now)
    ++ (expression_code c.args.frame.now (c.args.held + length c.as_slice-in-CallPtr.result.now) (typed_expression_of e)
    ++ call_pointer_code c.args.frame.now c.args.held (length c.as_slice-in-CallPtr.result.now) c.args.e.now.line)) c.args.to.now.items c.emit_call_pointer.new.to.items c.emit_call_pointer.result)
    c.get-in-CallPtr.ensures c.emit_call_pointer.ensures))

pub emit_and-returns-in_err-emit : goal.emit_and-returns-in_err-emit
emit_and-returns-in_err-emit t c =
    gave_up _ _ _ _ _ c.from_residual.ensures.1
    (prefix_of_more (((expression_code c.args.frame.now c.args.held (typed_expression_of c.args.l.now)) ++ (unless_zero ((expression_words (typed_expression_of c.args.r.now)) + 1))) ++ (expression_code c.args.frame.now c.args.held (typed_expression_of c.args.r.now))) (truth_code ∷ []) _ _ (prefix_of_more ((expression_code c.args.frame.now c.args.held (typed_expression_of c.args.l.now)) ++ (unless_zero ((expression_words (typed_expression_of c.args.r.now)) + 1))) (expression_code c.args.frame.now c.args.held (typed_expression_of c.args.r.now)) _ _ (prefix_of_more (expression_code c.args.frame.now c.args.held (typed_expression_of c.args.l.now)) (unless_zero ((expression_words (typed_expression_of c.args.r.now)) + 1)) _ _ c.in_err-emit.ensures)))

pub emit_and-returns-in_err-put_unless_zero : goal.emit_and-returns-in_err-put_unless_zero
emit_and-returns-in_err-put_unless_zero t c =
    gave_up _ _ _ _ _ c.from_residual-in_err-put_unless_zero.ensures.1
    (prefix_of_more (((expression_code c.args.frame.now c.args.held (typed_expression_of c.args.l.now)) ++ (unless_zero ((expression_words (typed_expression_of c.args.r.now)) + 1))) ++ (expression_code c.args.frame.now c.args.held (typed_expression_of c.args.r.now))) (truth_code ∷ []) _ _ (prefix_of_more ((expression_code c.args.frame.now c.args.held (typed_expression_of c.args.l.now)) ++ (unless_zero ((expression_words (typed_expression_of c.args.r.now)) + 1))) (expression_code c.args.frame.now c.args.held (typed_expression_of c.args.r.now)) _ _ (prefix_after (expression_code c.args.frame.now c.args.held (typed_expression_of c.args.l.now)) (unless_zero ((expression_words (typed_expression_of c.args.r.now)) + 1)) _ _ _ c.in_ok-emit.ensures (subst (λ n. AppendsPrefix (unless_zero (n + 1)) c.emit.new.to.items c.put_unless_zero.new.to.items) c.expression_words.ensures.words c.in_err-put_unless_zero.ensures))))

pub emit_and-returns-in_err-emit-2 : goal.emit_and-returns-in_err-emit-2
emit_and-returns-in_err-emit-2 t c =
    gave_up _ _ _ _ _ c.from_residual-in_err-emit-2.ensures.1
    (prefix_of_more (((expression_code c.args.frame.now c.args.held (typed_expression_of c.args.l.now)) ++ (unless_zero ((expression_words (typed_expression_of c.args.r.now)) + 1))) ++ (expression_code c.args.frame.now c.args.held (typed_expression_of c.args.r.now))) (truth_code ∷ []) _ _ (prefix_after ((expression_code c.args.frame.now c.args.held (typed_expression_of c.args.l.now)) ++ (unless_zero ((expression_words (typed_expression_of c.args.r.now)) + 1))) (expression_code c.args.frame.now c.args.held (typed_expression_of c.args.r.now)) _ _ _ (both_appended (expression_code c.args.frame.now c.args.held (typed_expression_of c.args.l.now)) (unless_zero ((expression_words (typed_expression_of c.args.r.now)) + 1)) _ _ _ c.in_ok-emit.ensures (subst (λ n. Appends (unless_zero (n + 1)) c.emit.new.to.items c.put_unless_zero.new.to.items (Ok tt)) c.expression_words.ensures.words c.in_ok-put_unless_zero.ensures)) c.in_err-emit-2.ensures))

pub emit_and-returns : goal.emit_and-returns
emit_and-returns t c =
    appends_after (((expression_code c.args.frame.now c.args.held (typed_expression_of c.args.l.now)) ++ (unless_zero ((expression_words (typed_expression_of c.args.r.now)) + 1))) ++ (expression_code c.args.frame.now c.args.held (typed_expression_of c.args.r.now))) (truth_code ∷ []) _ _ _ _ (both_appended ((expression_code c.args.frame.now c.args.held (typed_expression_of c.args.l.now)) ++ (unless_zero ((expression_words (typed_expression_of c.args.r.now)) + 1))) (expression_code c.args.frame.now c.args.held (typed_expression_of c.args.r.now)) _ _ _ (both_appended (expression_code c.args.frame.now c.args.held (typed_expression_of c.args.l.now)) (unless_zero ((expression_words (typed_expression_of c.args.r.now)) + 1)) _ _ _ c.in_ok-emit.ensures (subst (λ n. Appends (unless_zero (n + 1)) c.emit.new.to.items c.put_unless_zero.new.to.items (Ok tt)) c.expression_words.ensures.words c.in_ok-put_unless_zero.ensures)) c.in_ok-emit-2.ensures) c.put_instruction.ensures

pub emit_or-returns-in_err-emit : goal.emit_or-returns-in_err-emit
emit_or-returns-in_err-emit t c =
    gave_up _ _ _ _ _ c.from_residual.ensures.1
    (prefix_of_more (((expression_code c.args.frame.now c.args.held (typed_expression_of c.args.l.now)) ++ (truth_code ∷ (unless_nonzero ((expression_words (typed_expression_of c.args.r.now)) + 1)))) ++ (expression_code c.args.frame.now c.args.held (typed_expression_of c.args.r.now))) (truth_code ∷ []) _ _ (prefix_of_more ((expression_code c.args.frame.now c.args.held (typed_expression_of c.args.l.now)) ++ (truth_code ∷ (unless_nonzero ((expression_words (typed_expression_of c.args.r.now)) + 1)))) (expression_code c.args.frame.now c.args.held (typed_expression_of c.args.r.now)) _ _ (prefix_of_more (expression_code c.args.frame.now c.args.held (typed_expression_of c.args.l.now)) (truth_code ∷ (unless_nonzero ((expression_words (typed_expression_of c.args.r.now)) + 1))) _ _ c.in_err-emit.ensures)))

pub emit_or-returns-in_err-put_instruction : goal.emit_or-returns-in_err-put_instruction
emit_or-returns-in_err-put_instruction t c =
    gave_up _ _ _ _ _ c.from_residual-in_err-put_instruction.ensures.1
    (prefix_of_more (((expression_code c.args.frame.now c.args.held (typed_expression_of c.args.l.now)) ++ (truth_code ∷ (unless_nonzero ((expression_words (typed_expression_of c.args.r.now)) + 1)))) ++ (expression_code c.args.frame.now c.args.held (typed_expression_of c.args.r.now))) (truth_code ∷ []) _ _ (prefix_of_more ((expression_code c.args.frame.now c.args.held (typed_expression_of c.args.l.now)) ++ (truth_code ∷ (unless_nonzero ((expression_words (typed_expression_of c.args.r.now)) + 1)))) (expression_code c.args.frame.now c.args.held (typed_expression_of c.args.r.now)) _ _ (prefix_after (expression_code c.args.frame.now c.args.held (typed_expression_of c.args.l.now)) (truth_code ∷ (unless_nonzero ((expression_words (typed_expression_of c.args.r.now)) + 1))) _ _ _ c.in_ok-emit.ensures (prefix_of_more (truth_code ∷ []) (unless_nonzero ((expression_words (typed_expression_of c.args.r.now)) + 1)) _ _ c.in_err-put_instruction.ensures))))

pub emit_or-returns-in_err-put_unless_nonzero : goal.emit_or-returns-in_err-put_unless_nonzero
emit_or-returns-in_err-put_unless_nonzero t c =
    gave_up _ _ _ _ _ c.from_residual-in_err-put_unless_nonzero.ensures.1
    (prefix_of_more (((expression_code c.args.frame.now c.args.held (typed_expression_of c.args.l.now)) ++ (truth_code ∷ (unless_nonzero ((expression_words (typed_expression_of c.args.r.now)) + 1)))) ++ (expression_code c.args.frame.now c.args.held (typed_expression_of c.args.r.now))) (truth_code ∷ []) _ _ (prefix_of_more ((expression_code c.args.frame.now c.args.held (typed_expression_of c.args.l.now)) ++ (truth_code ∷ (unless_nonzero ((expression_words (typed_expression_of c.args.r.now)) + 1)))) (expression_code c.args.frame.now c.args.held (typed_expression_of c.args.r.now)) _ _ (prefix_after (expression_code c.args.frame.now c.args.held (typed_expression_of c.args.l.now)) (truth_code ∷ (unless_nonzero ((expression_words (typed_expression_of c.args.r.now)) + 1))) _ _ _ c.in_ok-emit.ensures (prefix_after (truth_code ∷ []) (unless_nonzero ((expression_words (typed_expression_of c.args.r.now)) + 1)) _ _ _ c.in_ok-put_instruction.ensures (subst (λ n. AppendsPrefix (unless_nonzero (n + 1)) c.put_instruction.new.to.items c.put_unless_nonzero.new.to.items) c.expression_words.ensures.words c.in_err-put_unless_nonzero.ensures)))))

pub emit_or-returns-in_err-emit-2 : goal.emit_or-returns-in_err-emit-2
emit_or-returns-in_err-emit-2 t c =
    gave_up _ _ _ _ _ c.from_residual-in_err-emit-2.ensures.1
    (prefix_of_more (((expression_code c.args.frame.now c.args.held (typed_expression_of c.args.l.now)) ++ (truth_code ∷ (unless_nonzero ((expression_words (typed_expression_of c.args.r.now)) + 1)))) ++ (expression_code c.args.frame.now c.args.held (typed_expression_of c.args.r.now))) (truth_code ∷ []) _ _ (prefix_after ((expression_code c.args.frame.now c.args.held (typed_expression_of c.args.l.now)) ++ (truth_code ∷ (unless_nonzero ((expression_words (typed_expression_of c.args.r.now)) + 1)))) (expression_code c.args.frame.now c.args.held (typed_expression_of c.args.r.now)) _ _ _ (both_appended (expression_code c.args.frame.now c.args.held (typed_expression_of c.args.l.now)) (truth_code ∷ (unless_nonzero ((expression_words (typed_expression_of c.args.r.now)) + 1))) _ _ _ c.in_ok-emit.ensures (both_appended (truth_code ∷ []) (unless_nonzero ((expression_words (typed_expression_of c.args.r.now)) + 1)) _ _ _ c.in_ok-put_instruction.ensures (subst (λ n. Appends (unless_nonzero (n + 1)) c.put_instruction.new.to.items c.put_unless_nonzero.new.to.items (Ok tt)) c.expression_words.ensures.words c.in_ok-put_unless_nonzero.ensures))) c.in_err-emit-2.ensures))

pub emit_or-returns : goal.emit_or-returns
emit_or-returns t c =
    appends_after (((expression_code c.args.frame.now c.args.held (typed_expression_of c.args.l.now)) ++ (truth_code ∷ (unless_nonzero ((expression_words (typed_expression_of c.args.r.now)) + 1)))) ++ (expression_code c.args.frame.now c.args.held (typed_expression_of c.args.r.now))) (truth_code ∷ []) _ _ _ _ (both_appended ((expression_code c.args.frame.now c.args.held (typed_expression_of c.args.l.now)) ++ (truth_code ∷ (unless_nonzero ((expression_words (typed_expression_of c.args.r.now)) + 1)))) (expression_code c.args.frame.now c.args.held (typed_expression_of c.args.r.now)) _ _ _ (both_appended (expression_code c.args.frame.now c.args.held (typed_expression_of c.args.l.now)) (truth_code ∷ (unless_nonzero ((expression_words (typed_expression_of c.args.r.now)) + 1))) _ _ _ c.in_ok-emit.ensures (both_appended (truth_code ∷ []) (unless_nonzero ((expression_words (typed_expression_of c.args.r.now)) + 1)) _ _ _ c.in_ok-put_instruction.ensures (subst (λ n. Appends (unless_nonzero (n + 1)) c.put_instruction.new.to.items c.put_unless_nonzero.new.to.items (Ok tt)) c.expression_words.ensures.words c.in_ok-put_unless_nonzero.ensures))) c.in_ok-emit-2.ensures) c.put_instruction-2.ensures

pub emit_conditional-returns-in_err-emit : goal.emit_conditional-returns-in_err-emit
emit_conditional-returns-in_err-emit t c =
    gave_up _ _ _ _ _ c.from_residual.ensures.1
    (prefix_of_more (((expression_code c.args.frame.now c.args.held (typed_expression_of c.args.c.now)) ++ (unless_zero (expression_words (typed_expression_of c.args.a.now) + 1))) ++ (expression_code c.args.frame.now c.args.held (typed_expression_of c.args.a.now))) (skip (expression_words (typed_expression_of c.args.b.now)) ∷ (expression_code c.args.frame.now c.args.held (typed_expression_of c.args.b.now))) _ _ (prefix_of_more ((expression_code c.args.frame.now c.args.held (typed_expression_of c.args.c.now)) ++ (unless_zero (expression_words (typed_expression_of c.args.a.now) + 1))) (expression_code c.args.frame.now c.args.held (typed_expression_of c.args.a.now)) _ _ (prefix_of_more (expression_code c.args.frame.now c.args.held (typed_expression_of c.args.c.now)) (unless_zero (expression_words (typed_expression_of c.args.a.now) + 1)) _ _ c.in_err-emit.ensures)))

pub emit_conditional-returns-in_err-put_unless_zero : goal.emit_conditional-returns-in_err-put_unless_zero
emit_conditional-returns-in_err-put_unless_zero t c =
    gave_up _ _ _ _ _ c.from_residual-in_err-put_unless_zero.ensures.1
    (prefix_of_more (((expression_code c.args.frame.now c.args.held (typed_expression_of c.args.c.now)) ++ (unless_zero (expression_words (typed_expression_of c.args.a.now) + 1))) ++ (expression_code c.args.frame.now c.args.held (typed_expression_of c.args.a.now))) (skip (expression_words (typed_expression_of c.args.b.now)) ∷ (expression_code c.args.frame.now c.args.held (typed_expression_of c.args.b.now))) _ _ (prefix_of_more ((expression_code c.args.frame.now c.args.held (typed_expression_of c.args.c.now)) ++ (unless_zero (expression_words (typed_expression_of c.args.a.now) + 1))) (expression_code c.args.frame.now c.args.held (typed_expression_of c.args.a.now)) _ _ (prefix_after (expression_code c.args.frame.now c.args.held (typed_expression_of c.args.c.now)) (unless_zero (expression_words (typed_expression_of c.args.a.now) + 1)) _ _ _ c.in_ok-emit.ensures (subst (λ n. AppendsPrefix (unless_zero (n + 1)) c.emit.new.to.items c.put_unless_zero.new.to.items) c.expression_words.ensures.words c.in_err-put_unless_zero.ensures))))

pub emit_conditional-returns-in_err-emit-2 : goal.emit_conditional-returns-in_err-emit-2
emit_conditional-returns-in_err-emit-2 t c =
    gave_up _ _ _ _ _ c.from_residual-in_err-emit-2.ensures.1
    (prefix_of_more (((expression_code c.args.frame.now c.args.held (typed_expression_of c.args.c.now)) ++ (unless_zero (expression_words (typed_expression_of c.args.a.now) + 1))) ++ (expression_code c.args.frame.now c.args.held (typed_expression_of c.args.a.now))) (skip (expression_words (typed_expression_of c.args.b.now)) ∷ (expression_code c.args.frame.now c.args.held (typed_expression_of c.args.b.now))) _ _ (prefix_after ((expression_code c.args.frame.now c.args.held (typed_expression_of c.args.c.now)) ++ (unless_zero (expression_words (typed_expression_of c.args.a.now) + 1))) (expression_code c.args.frame.now c.args.held (typed_expression_of c.args.a.now)) _ _ _ (both_appended (expression_code c.args.frame.now c.args.held (typed_expression_of c.args.c.now)) (unless_zero (expression_words (typed_expression_of c.args.a.now) + 1)) _ _ _ c.in_ok-emit.ensures (subst (λ n. Appends (unless_zero (n + 1)) c.emit.new.to.items c.put_unless_zero.new.to.items (Ok tt)) c.expression_words.ensures.words c.in_ok-put_unless_zero.ensures)) c.in_err-emit-2.ensures))

pub emit_conditional-returns-in_err-put_skip : goal.emit_conditional-returns-in_err-put_skip
emit_conditional-returns-in_err-put_skip t c =
    gave_up _ _ _ _ _ c.from_residual-in_err-put_skip.ensures.1
    (prefix_after (((expression_code c.args.frame.now c.args.held (typed_expression_of c.args.c.now)) ++ (unless_zero (expression_words (typed_expression_of c.args.a.now) + 1))) ++ (expression_code c.args.frame.now c.args.held (typed_expression_of c.args.a.now))) (skip (expression_words (typed_expression_of c.args.b.now)) ∷ (expression_code c.args.frame.now c.args.held (typed_expression_of c.args.b.now))) _ _ _ (both_appended ((expression_code c.args.frame.now c.args.held (typed_expression_of c.args.c.now)) ++ (unless_zero (expression_words (typed_expression_of c.args.a.now) + 1))) (expression_code c.args.frame.now c.args.held (typed_expression_of c.args.a.now)) _ _ _ (both_appended (expression_code c.args.frame.now c.args.held (typed_expression_of c.args.c.now)) (unless_zero (expression_words (typed_expression_of c.args.a.now) + 1)) _ _ _ c.in_ok-emit.ensures (subst (λ n. Appends (unless_zero (n + 1)) c.emit.new.to.items c.put_unless_zero.new.to.items (Ok tt)) c.expression_words.ensures.words c.in_ok-put_unless_zero.ensures)) c.in_ok-emit-2.ensures) (prefix_of_more (skip (expression_words (typed_expression_of c.args.b.now)) ∷ []) (expression_code c.args.frame.now c.args.held (typed_expression_of c.args.b.now)) _ _ (subst (λ n. AppendsPrefix (skip n ∷ []) c.emit-2.new.to.items c.put_skip.new.to.items) c.expression_words-2.ensures.words c.in_err-put_skip.ensures)))

pub emit_conditional-returns : goal.emit_conditional-returns
emit_conditional-returns t c =
    appends_after (((expression_code c.args.frame.now c.args.held (typed_expression_of c.args.c.now)) ++ (unless_zero (expression_words (typed_expression_of c.args.a.now) + 1))) ++ (expression_code c.args.frame.now c.args.held (typed_expression_of c.args.a.now))) (skip (expression_words (typed_expression_of c.args.b.now)) ∷ (expression_code c.args.frame.now c.args.held (typed_expression_of c.args.b.now))) _ _ _ _ (both_appended ((expression_code c.args.frame.now c.args.held (typed_expression_of c.args.c.now)) ++ (unless_zero (expression_words (typed_expression_of c.args.a.now) + 1))) (expression_code c.args.frame.now c.args.held (typed_expression_of c.args.a.now)) _ _ _ (both_appended (expression_code c.args.frame.now c.args.held (typed_expression_of c.args.c.now)) (unless_zero (expression_words (typed_expression_of c.args.a.now) + 1)) _ _ _ c.in_ok-emit.ensures (subst (λ n. Appends (unless_zero (n + 1)) c.emit.new.to.items c.put_unless_zero.new.to.items (Ok tt)) c.expression_words.ensures.words c.in_ok-put_unless_zero.ensures)) c.in_ok-emit-2.ensures) (appends_after (skip (expression_words (typed_expression_of c.args.b.now)) ∷ []) (expression_code c.args.frame.now c.args.held (typed_expression_of c.args.b.now)) _ _ _ _ (subst (λ n. Appends (skip n ∷ []) c.emit-2.new.to.items c.put_skip.new.to.items (Ok tt)) c.expression_words-2.ensures.words c.in_ok-put_skip.ensures) c.emit-3.ensures)

pub emit_operands-returns-in_err-emit : goal.emit_operands-returns-in_err-emit
emit_operands-returns-in_err-emit t c =
    gave_up _ _ _ _ _ c.from_residual.ensures.1
    (prefix_of_more ((expression_code c.args.frame.now c.args.held (typed_expression_of c.args.l.now)) ++ (hold c.args.frame.now c.args.held ∷ (expression_code c.args.frame.now (suc c.args.held) (typed_expression_of c.args.r.now)))) (instruction (Ld t0 sp (held_slot c.args.frame.now c.args.held)) ∷ []) _ _ (prefix_of_more (expression_code c.args.frame.now c.args.held (typed_expression_of c.args.l.now)) (hold c.args.frame.now c.args.held ∷ (expression_code c.args.frame.now (suc c.args.held) (typed_expression_of c.args.r.now))) _ _ c.in_err-emit.ensures))

pub emit_operands-returns-in_err-put_hold : goal.emit_operands-returns-in_err-put_hold
emit_operands-returns-in_err-put_hold t c =
    gave_up _ _ _ _ _ c.from_residual-in_err-put_hold.ensures.1
    (prefix_of_more ((expression_code c.args.frame.now c.args.held (typed_expression_of c.args.l.now)) ++ (hold c.args.frame.now c.args.held ∷ (expression_code c.args.frame.now (suc c.args.held) (typed_expression_of c.args.r.now)))) (instruction (Ld t0 sp (held_slot c.args.frame.now c.args.held)) ∷ []) _ _ (prefix_after (expression_code c.args.frame.now c.args.held (typed_expression_of c.args.l.now)) (hold c.args.frame.now c.args.held ∷ (expression_code c.args.frame.now (suc c.args.held) (typed_expression_of c.args.r.now))) _ _ _ c.in_ok-emit.ensures (prefix_of_more (hold c.args.frame.now c.args.held ∷ []) (expression_code c.args.frame.now (suc c.args.held) (typed_expression_of c.args.r.now)) _ _ c.in_err-put_hold.ensures)))

pub emit_operands-returns-in_err-emit-2 : goal.emit_operands-returns-in_err-emit-2
emit_operands-returns-in_err-emit-2 t c =
    gave_up _ _ _ _ _ c.from_residual-in_err-emit-2.ensures.1
    (prefix_of_more ((expression_code c.args.frame.now c.args.held (typed_expression_of c.args.l.now)) ++ (hold c.args.frame.now c.args.held ∷ (expression_code c.args.frame.now (suc c.args.held) (typed_expression_of c.args.r.now)))) (instruction (Ld t0 sp (held_slot c.args.frame.now c.args.held)) ∷ []) _ _ (prefix_after (expression_code c.args.frame.now c.args.held (typed_expression_of c.args.l.now)) (hold c.args.frame.now c.args.held ∷ (expression_code c.args.frame.now (suc c.args.held) (typed_expression_of c.args.r.now))) _ _ _ c.in_ok-emit.ensures (prefix_after (hold c.args.frame.now c.args.held ∷ []) (expression_code c.args.frame.now (suc c.args.held) (typed_expression_of c.args.r.now)) _ _ _ c.in_ok-put_hold.ensures (subst (λ n. AppendsPrefix (expression_code c.args.frame.now n (typed_expression_of c.args.r.now)) c.put_hold.new.to.items c.emit-2.new.to.items) (add-one c.args.held) c.in_err-emit-2.ensures))))

pub emit_operands-returns : goal.emit_operands-returns
emit_operands-returns t c =
    let slot : FitsSigned w32 c.held_slot.result = record { sfits = c.held_slot.type_inv } in
    appends_after ((expression_code c.args.frame.now c.args.held (typed_expression_of c.args.l.now)) ++ (hold c.args.frame.now c.args.held ∷ (expression_code c.args.frame.now (suc c.args.held) (typed_expression_of c.args.r.now)))) (instruction (Ld t0 sp (held_slot c.args.frame.now c.args.held)) ∷ []) _ _ _ _ (both_appended (expression_code c.args.frame.now c.args.held (typed_expression_of c.args.l.now)) (hold c.args.frame.now c.args.held ∷ (expression_code c.args.frame.now (suc c.args.held) (typed_expression_of c.args.r.now))) _ _ _ c.in_ok-emit.ensures (both_appended (hold c.args.frame.now c.args.held ∷ []) (expression_code c.args.frame.now (suc c.args.held) (typed_expression_of c.args.r.now)) _ _ _ c.in_ok-put_hold.ensures (subst (λ n. Appends (expression_code c.args.frame.now n (typed_expression_of c.args.r.now)) c.put_hold.new.to.items c.emit-2.new.to.items (Ok tt)) (add-one c.args.held) c.in_ok-emit-2.ensures)))
    (subst (λ z. Appends (instruction (Ld t0 sp z) ∷ []) c.emit-2.new.to.items c.put_instruction.new.to.items c.put_instruction.result) c.held_slot.ensures
    (simp to_z-of_z at c.put_instruction.ensures))

pub emit_binary-returns-in_err-emit_operands-in-None : goal.emit_binary-returns-in_err-emit_operands-in-None
emit_binary-returns-in_err-emit_operands-in-None t c =
    rw (held_binary c.args.frame.now c.args.held c.args.line c.args.op c.args.unsigned (typed_expression_of c.args.l.now) (typed_expression_of c.args.r.now) c.in-None.ensures)
    (gave_up _ _ _ _ _ c.from_residual.ensures.1 (prefix_of_more (operands_code c.args.frame.now c.args.held (typed_expression_of c.args.l.now) (typed_expression_of c.args.r.now)) (binary_code c.args.line c.args.op c.args.unsigned) _ _ c.in_err-emit_operands-in-None.ensures))

pub emit_binary-returns-in_ok-emit_operands-in-None : goal.emit_binary-returns-in_ok-emit_operands-in-None
emit_binary-returns-in_ok-emit_operands-in-None t c =
    rw (held_binary c.args.frame.now c.args.held c.args.line c.args.op c.args.unsigned (typed_expression_of c.args.l.now) (typed_expression_of c.args.r.now) c.in-None.ensures)
    (appends_after (operands_code c.args.frame.now c.args.held (typed_expression_of c.args.l.now) (typed_expression_of c.args.r.now)) (binary_code c.args.line c.args.op c.args.unsigned) _ _ _ _ c.in_ok-emit_operands-in-None.ensures c.put_binary.ensures)

pub emit_call-returns-in_err-emit_arguments : goal.emit_call-returns-in_err-emit_arguments
emit_call-returns-in_err-emit_arguments t c =
    gave_up _ _ _ _ _ c.from_residual.ensures.1
    (prefix_of_more (arguments_code c.args.frame.now c.args.held (typed_expressions_of c.args.arguments.now)) (call_code c.args.frame.now c.args.held (length c.args.arguments.now) c.args.function.now) _ _ c.in_err-emit_arguments.ensures)

pub emit_call-overflow_cast-arguments : goal.emit_call-overflow_cast-arguments
emit_call-overflow_cast-arguments t c =
    omega (arith, count_of c.args.arguments.now, c.requires.short.arguments, room_for_all c.args.frame.now c.args.held (typed_expressions_of c.args.arguments.now) c.requires)

pub emit_call-put_call-requires-clause-there : goal.emit_call-put_call-requires-clause-there
emit_call-put_call-requires-clause-there t c =
    omega (arith, count_of c.args.arguments.now, c.requires.short.arguments, room_for_all c.args.frame.now c.args.held (typed_expressions_of c.args.arguments.now) c.requires)

pub emit_call-put_call-requires-clause-few : goal.emit_call-put_call-requires-clause-few
emit_call-put_call-requires-clause-few t c =
    omega (arith, count_of c.args.arguments.now, c.requires.short.arguments, room_for_all c.args.frame.now c.args.held (typed_expressions_of c.args.arguments.now) c.requires)

pub emit_call_pointer-returns-in_err-emit_arguments : goal.emit_call_pointer-returns-in_err-emit_arguments
emit_call_pointer-returns-in_err-emit_arguments t c =
    gave_up _ _ _ _ _ c.from_residual.ensures.1
    (prefix_of_more (arguments_code c.args.frame.now c.args.held (typed_expressions_of c.args.arguments.now)) ((expression_code c.args.frame.now (c.args.held + length c.args.arguments.now) (typed_expression_of c.args.callee.now)) ++ (call_pointer_code c.args.frame.now c.args.held (length c.args.arguments.now) c.args.line)) _ _ c.in_err-emit_arguments.ensures)

pub emit_call_pointer-returns-in_err-emit : goal.emit_call_pointer-returns-in_err-emit
emit_call_pointer-returns-in_err-emit t c =
    gave_up _ _ _ _ _ c.from_residual-in_err-emit.ensures.1
    (prefix_after (arguments_code c.args.frame.now c.args.held (typed_expressions_of c.args.arguments.now)) ((expression_code c.args.frame.now (c.args.held + length c.args.arguments.now) (typed_expression_of c.args.callee.now)) ++ (call_pointer_code c.args.frame.now c.args.held (length c.args.arguments.now) c.args.line)) _ _ _ c.in_ok-emit_arguments.ensures (prefix_of_more (expression_code c.args.frame.now (c.args.held + length c.args.arguments.now) (typed_expression_of c.args.callee.now)) (call_pointer_code c.args.frame.now c.args.held (length c.args.arguments.now) c.args.line) _ _ c.in_err-emit.ensures))

pub emit_call_pointer-put_call_pointer-requires-clause-few : goal.emit_call_pointer-put_call_pointer-requires-clause-few
emit_call_pointer-put_call_pointer-requires-clause-few t c =
    omega (arith, count_of c.args.arguments.now, c.requires.arguments.short.arguments)

pub emit_call_pointer-returns : goal.emit_call_pointer-returns
emit_call_pointer-returns t c =
    appends_after (arguments_code c.args.frame.now c.args.held (typed_expressions_of c.args.arguments.now)) ((expression_code c.args.frame.now (c.args.held + length c.args.arguments.now) (typed_expression_of c.args.callee.now)) ++ (call_pointer_code c.args.frame.now c.args.held (length c.args.arguments.now) c.args.line)) _ _ _ _ c.in_ok-emit_arguments.ensures (appends_after (expression_code c.args.frame.now (c.args.held + length c.args.arguments.now) (typed_expression_of c.args.callee.now)) (call_pointer_code c.args.frame.now c.args.held (length c.args.arguments.now) c.args.line) _ _ _ _ c.in_ok-emit.ensures c.put_call_pointer.ensures)

pub emit_arguments-emit-requires : goal.emit_arguments-emit-requires
unfolding expressions_in_all
emit_arguments-emit-requires t c =
    let left = left_at c.args.arguments.now c.loop-argument.argument-index c.argument-item.result c.loop-argument-test.true c.argument-item.is in (
      omega (arith, ap (λ es. expressions_in_all (typed_expressions_of es)) left, fewer_left c.args.arguments.now c.loop-argument.argument-index),
      emits_first c.args.frame.now c.loop-argument.slot c.argument-item.result (drop (c.loop-argument.argument-index + 1) c.args.arguments.now) (subst (λ es. CanEmitAll c.args.frame.now c.loop-argument.slot (typed_expressions_of es)) left c.loop-argument.invariant.0),
    )

pub emit_arguments-returns-in_err-emit : goal.emit_arguments-returns-in_err-emit
emit_arguments-returns-in_err-emit t c =
    let left = left_at c.args.arguments.now c.loop-argument.argument-index c.argument-item.result c.loop-argument-test.true c.argument-item.is in
    gave_up _ _ _ _ _ c.from_residual.ensures.1
    (under_way_argument c.args.frame.now c.args.held c.loop-argument.slot c.args.arguments.now (drop (c.loop-argument.argument-index + 1) c.args.arguments.now) c.argument-item.result c.args.to.now.items c.loop-argument.to.items c.emit.new.to.items (subst (λ es. IsUnderWay c.args.frame.now c.args.held c.loop-argument.slot c.args.arguments.now es c.args.to.now.items c.loop-argument.to.items) left c.loop-argument.invariant.1) c.in_err-emit.ensures)

pub emit_arguments-put_hold-requires-clause-there : goal.emit_arguments-put_hold-requires-clause-there
emit_arguments-put_hold-requires-clause-there t c =
    let left = left_at c.args.arguments.now c.loop-argument.argument-index c.argument-item.result c.loop-argument-test.true c.argument-item.is in
    let first = emits_first c.args.frame.now c.loop-argument.slot c.argument-item.result (drop (c.loop-argument.argument-index + 1) c.args.arguments.now) (subst (λ es. CanEmitAll c.args.frame.now c.loop-argument.slot (typed_expressions_of es)) left c.loop-argument.invariant.0) in
    omega (arith, first.values)

pub emit_arguments-returns-in_err-put_hold : goal.emit_arguments-returns-in_err-put_hold
emit_arguments-returns-in_err-put_hold t c =
    let left = left_at c.args.arguments.now c.loop-argument.argument-index c.argument-item.result c.loop-argument-test.true c.argument-item.is in
    gave_up _ _ _ _ _ c.from_residual-in_err-put_hold.ensures.1
    (under_way_hold c.args.frame.now c.args.held c.loop-argument.slot c.args.arguments.now (drop (c.loop-argument.argument-index + 1) c.args.arguments.now) c.argument-item.result c.args.to.now.items c.loop-argument.to.items c.emit.new.to.items c.put_hold.new.to.items (subst (λ es. IsUnderWay c.args.frame.now c.args.held c.loop-argument.slot c.args.arguments.now es c.args.to.now.items c.loop-argument.to.items) left c.loop-argument.invariant.1) c.in_ok-emit.ensures c.in_err-put_hold.ensures)

pub emit_arguments-overflow_add-slot : goal.emit_arguments-overflow_add-slot
emit_arguments-overflow_add-slot t c =
    let left = left_at c.args.arguments.now c.loop-argument.argument-index c.argument-item.result c.loop-argument-test.true c.argument-item.is in
    let first = emits_first c.args.frame.now c.loop-argument.slot c.argument-item.result (drop (c.loop-argument.argument-index + 1) c.args.arguments.now) (subst (λ es. CanEmitAll c.args.frame.now c.loop-argument.slot (typed_expressions_of es)) left c.loop-argument.invariant.0) in
    omega (arith, first.values, first.within_limits.few_held)

pub emit_arguments-loop-argument-preserved : goal.emit_arguments-loop-argument-preserved
emit_arguments-loop-argument-preserved t c =
    let left = left_at c.args.arguments.now c.loop-argument.argument-index c.argument-item.result c.loop-argument-test.true c.argument-item.is in (
      emits_others c.args.frame.now c.loop-argument.slot c.argument-item.result (drop (c.loop-argument.argument-index + 1) c.args.arguments.now) (subst (λ es. CanEmitAll c.args.frame.now c.loop-argument.slot (typed_expressions_of es)) left c.loop-argument.invariant.0),
      under_way_next c.args.frame.now c.args.held c.loop-argument.slot c.args.arguments.now (drop (c.loop-argument.argument-index + 1) c.args.arguments.now) c.argument-item.result c.args.to.now.items c.loop-argument.to.items c.emit.new.to.items c.put_hold.new.to.items (subst (λ es. IsUnderWay c.args.frame.now c.args.held c.loop-argument.slot c.args.arguments.now es c.args.to.now.items c.loop-argument.to.items) left c.loop-argument.invariant.1) c.in_ok-emit.ensures c.in_ok-put_hold.ensures,
    )

pub emit_arguments-returns : goal.emit_arguments-returns
emit_arguments-returns t c =
    under_way_last c.args.frame.now c.args.held c.loop-argument.slot c.args.arguments.now (drop c.loop-argument.argument-index c.args.arguments.now) c.args.to.now.items c.loop-argument.to.items (none_left c.args.arguments.now c.loop-argument.argument-index c.loop-argument-test.false) c.loop-argument.invariant.1
