-- The check that gives up leaves its first items.
use Rattle.std.proofs.Common.{◌≡◌, ◌++◌, length, refl, ap, subst, append_assoc}
use Rattle.pw_isa.specs.declared.instruction.Inst.TheVariants.{Bne}
use Rattle.pw_isa.specs.Registers.{x0, s1}
use Rattle.pw_isa.specs.EnvironmentCalls.{depth_fault}
use Rattle.pw_tree.specs.Units.{typed_function_of}
use Rattle.pw_code.specs.Pieces.{past, fault}
use Rattle.pw_code.specs.FunctionCode.{frame_of, store_parameters}
use Rattle.pw_genexpr.specs.Appends.{Appends}
use Rattle.pw_gen.specs.Steps.Functions.{open_frame}
use Rattle.pw_gen.proofs.Appended.{one_failed, second_failed, three_done}
use Rattle.pw_gen.proofs.function.put_opens.Goals as goal

pub returns-in_err-put_check_nonzero : goal.returns-in_err-put_check_nonzero
returns-in_err-put_check_nonzero c =
    let f = typed_function_of c.args.f.now in
    let check = past (Bne s1 x0) (fault depth_fault f.line) in
    one_failed c.args.to.now.items c.from_residual.result check (open_frame (frame_of f) ++ store_parameters 0 (length f.sig.params)) check
    c.put_check_nonzero.new.to.items _ refl c.from_residual.ensures.1 c.in_err-put_check_nonzero.ensures

pub returns-in_err-put_open_frame : goal.returns-in_err-put_open_frame
returns-in_err-put_open_frame c =
    let f = typed_function_of c.args.f.now in
    let check = past (Bne s1 x0) (fault depth_fault f.line) in
    let store = store_parameters 0 (length f.sig.params) in
    subst (λ l. Appends l c.args.to.now.items c.put_open_frame.new.to.items c.from_residual-in_err-put_open_frame.result)
    (append_assoc check (open_frame (frame_of f)) store)
    (second_failed c.args.to.now.items c.from_residual-in_err-put_open_frame.result check (open_frame (frame_of f)) store check
    (open_frame c.args.frame.now) c.put_check_nonzero.new.to.items c.put_open_frame.new.to.items _ refl (ap open_frame c.requires.frame)
    c.in_ok-put_check_nonzero.ensures c.from_residual-in_err-put_open_frame.ensures.1 c.in_err-put_open_frame.ensures)

pub returns : goal.returns
returns c =
    let f = typed_function_of c.args.f.now in
    let check = past (Bne s1 x0) (fault depth_fault f.line) in
    let store = store_parameters 0 (length f.sig.params) in
    subst (λ l. Appends l c.args.to.now.items c.put_parameters.new.to.items c.put_parameters.result)
    (append_assoc check (open_frame (frame_of f)) store)
    (three_done c.args.to.now.items c.put_parameters.result check (open_frame (frame_of f)) store check (open_frame c.args.frame.now)
    (store_parameters 0 c.len.result) c.put_check_nonzero.new.to.items c.put_open_frame.new.to.items c.put_parameters.new.to.items refl
    (ap open_frame c.requires.frame) (ap (store_parameters 0) c.len.ensures) c.in_ok-put_check_nonzero.ensures c.in_ok-put_open_frame.ensures
    c.put_parameters.ensures)
