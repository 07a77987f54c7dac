-- The code of a function, and of a program's entry.
use Rattle.std.specs.Prelude.{ℕ, zero, suc, ◌+◌, ◌-◌, ℤ, pos, negsuc, ◌-ℤ◌, List, [], ◌∷◌, ◌++◌, length, codes}
use Rattle.pw_base.specs.Limits.{calls}
use Rattle.pw_isa.specs.declared.instruction.Inst.TheVariants.{Jalr, Bne, Ld, Sd, Addi, Ecall}
use Rattle.pw_isa.specs.Registers.{x0, ra, sp, t0, s1, a0, a7}
use Rattle.pw_isa.specs.EnvironmentCalls.{exit_call, depth_fault}
use Rattle.pw_tree.specs.declared.ty.Ref.TheVariants.{Global}
use Rattle.pw_tree.specs.Units.{Function}
use Rattle.pw_code.specs.declared.frame.Frame.{Frame}
use Rattle.pw_code.specs.Items.{CodePart, instruction, address}
use Rattle.pw_code.specs.Frames.{local_slot, return_slot, frame_bytes}
use Rattle.pw_code.specs.Pieces.{past, fault, fault_words}
use Rattle.pw_code.specs.StatementCode.{Targets, statements_words, statements_code}

-- A function's frame has a slot for each parameter and local, and for each value that it holds at once.
abbrev pub frame_of : Function → Frame
frame_of f = record { locals = f.locals; held = f.held }

-- The parameters, so many from the number i on, are put into their slots from a0 on.
unfoldable pub store_parameters : (i n : ℕ) → List CodePart
store_parameters i zero = []
store_parameters i (suc n) = instruction (Sd sp (a0 + i) (local_slot i)) ∷ store_parameters (suc i) n

-- s1 is the number of calls that may still be made. Where none may, the run ends, in the line of the function's name; else
-- the call is taken, the frame opened, and the address that the call returns to is kept.
abbrev pub opens : Function → List CodePart
opens f =
    past (Bne s1 x0) (fault depth_fault f.line) ++ instruction (Addi s1 s1 (negsuc 0))
    ∷ instruction (Addi sp sp (pos 0 -ℤ pos (frame_bytes (frame_of f)))) ∷ instruction (Sd sp ra (return_slot (frame_of f)))
    ∷ store_parameters 0 (length f.sig.params)

-- How many words that is.
abbrev pub opens_words : Function → ℕ
opens_words f = 4 + fault_words f.line + length f.sig.params

-- A body that falls off its end returns 0.
abbrev pub falls_off : CodePart
falls_off = instruction (Addi a0 x0 (pos 0))

-- The frame is left, the call given back, and the run goes on after the call.
abbrev pub closes : Function → List CodePart
closes f =
    instruction (Ld ra sp (return_slot (frame_of f))) ∷ instruction (Addi sp sp (pos (frame_bytes (frame_of f))))
    ∷ instruction (Addi s1 s1 (pos 1)) ∷ instruction (Jalr x0 ra (pos 0)) ∷ []

-- `return` jumps to where the frame is left. No `break` or `continue` stands outside a loop.
abbrev pub function_targets : Function → Targets
function_targets f =
    let end : ℕ = opens_words f + (statements_words f.body + 1) in
    record { break_to = end; continue_to = end; return_to = end }

-- The code of a function.
abbrev pub function_code : Function → List CodePart
function_code f =
    opens f ++ statements_code (frame_of f) (function_targets f) (opens_words f) f.body ++ falls_off ∷ closes f

-- How many words that is.
abbrev pub function_words : Function → ℕ
function_words f = opens_words f + (statements_words f.body + 5)

-- The entry of a program: `main` is called, with as many calls as may be alive at once, and what it returns is the exit's value.
abbrev pub entry_code : List CodePart
entry_code =
    instruction (Addi s1 x0 (pos calls)) ∷ address t0 (Global (codes "main")) ∷ instruction (Jalr ra t0 (pos 0))
    ∷ instruction (Addi a7 x0 (pos exit_call)) ∷ instruction Ecall ∷ []
