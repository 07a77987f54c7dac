-- Code that changes nothing but registers: what it leaves, as a function of the registers.
use Rattle.std.proofs.Common.{◌≡◌, ℕ, ◌+◌, ◌*◌, ◌^◌, ◌%◌, ◌<◌, List, [], ◌∷◌, ◌++◌, Option, Some, None, option_and_then, refl, sym, ◌∙◌, ap, subst, arith}
use Rattle.std.specs.Prelude.{bit_and, bit_or, bit_xor}
use Rattle.pw_isa.specs.declared.instruction.Inst.{Inst}
use Rattle.pw_isa.specs.declared.instruction.Inst.TheVariants.{Addi, Sltiu, Xori, Slli, Lui, Addiw, Add, Sub, Sll, Slt, Sltu, Xor, Srl, Sra, Or, And, Mul, Div, Divu, Rem, Remu}
use Rattle.pw_hart.specs.Bits.{bits64}
use Rattle.pw_hart.specs.Integer.{add, sub, sll, slt, sltu, srl, sra}
use Rattle.pw_hart.specs.Word.{addw}
use Rattle.pw_hart.specs.Multiply.{mul, div, divu, rem, remu}
use Rattle.pw_hart.specs.State.{MachineState, Goes, get, set, goes_on}
use Rattle.pw_hart.specs.Exec.{exec, upper}
use Rattle.pw_code.specs.Items.{CodePart, instruction, address, size}
use Rattle.pw_simulation.specs.Straight.{goes_then, carried_out}

-- the registers after an instruction that changes nothing else, but for the program counter
abbrev pub effect : Inst → (ℕ → ℕ) → Option (ℕ → ℕ)
effect (Addi rd rs1 imm) x = Some (set x rd (add (get x rs1) (bits64 imm)))
effect (Sltiu rd rs1 imm) x = Some (set x rd (sltu (get x rs1) (bits64 imm)))
effect (Xori rd rs1 imm) x = Some (set x rd (bit_xor (get x rs1) (bits64 imm)))
effect (Slli rd rs1 count) x = Some (set x rd (sll (get x rs1) count))
effect (Lui rd imm) x = Some (set x rd (upper imm))
effect (Addiw rd rs1 imm) x = Some (set x rd (addw (get x rs1) (bits64 imm)))
effect (Add rd rs1 rs2) x = Some (set x rd (add (get x rs1) (get x rs2)))
effect (Sub rd rs1 rs2) x = Some (set x rd (sub (get x rs1) (get x rs2)))
effect (Sll rd rs1 rs2) x = Some (set x rd (sll (get x rs1) (get x rs2)))
effect (Slt rd rs1 rs2) x = Some (set x rd (slt (get x rs1) (get x rs2)))
effect (Sltu rd rs1 rs2) x = Some (set x rd (sltu (get x rs1) (get x rs2)))
effect (Xor rd rs1 rs2) x = Some (set x rd (bit_xor (get x rs1) (get x rs2)))
effect (Srl rd rs1 rs2) x = Some (set x rd (srl (get x rs1) (get x rs2)))
effect (Sra rd rs1 rs2) x = Some (set x rd (sra (get x rs1) (get x rs2)))
effect (Or rd rs1 rs2) x = Some (set x rd (bit_or (get x rs1) (get x rs2)))
effect (And rd rs1 rs2) x = Some (set x rd (bit_and (get x rs1) (get x rs2)))
effect (Mul rd rs1 rs2) x = Some (set x rd (mul (get x rs1) (get x rs2)))
effect (Div rd rs1 rs2) x = Some (set x rd (div (get x rs1) (get x rs2)))
effect (Divu rd rs1 rs2) x = Some (set x rd (divu (get x rs1) (get x rs2)))
effect (Rem rd rs1 rs2) x = Some (set x rd (rem (get x rs1) (get x rs2)))
effect (Remu rd rs1 rs2) x = Some (set x rd (remu (get x rs1) (get x rs2)))
effect _ x = None

by_value : (s : MachineState) (x y : ℕ → ℕ) → Some x ≡ Some y → goes_on x s ≡ goes_on y s
by_value s x y h = let e : x ≡ y = cc in ap (λ z. goes_on z s) e

-- such an instruction goes on with these registers
pub exec_effect : (i : Inst) (s : MachineState) (x : ℕ → ℕ) → effect i s.x ≡ Some x → exec i s ≡ goes_on x s
exec_effect (Addi rd rs1 imm) s x h = by_value s (set s.x rd (add (get s.x rs1) (bits64 imm))) x h
exec_effect (Sltiu rd rs1 imm) s x h = by_value s (set s.x rd (sltu (get s.x rs1) (bits64 imm))) x h
exec_effect (Xori rd rs1 imm) s x h = by_value s (set s.x rd (bit_xor (get s.x rs1) (bits64 imm))) x h
exec_effect (Slli rd rs1 count) s x h = by_value s (set s.x rd (sll (get s.x rs1) count)) x h
exec_effect (Lui rd imm) s x h = by_value s (set s.x rd (upper imm)) x h
exec_effect (Addiw rd rs1 imm) s x h = by_value s (set s.x rd (addw (get s.x rs1) (bits64 imm))) x h
exec_effect (Add rd rs1 rs2) s x h = by_value s (set s.x rd (add (get s.x rs1) (get s.x rs2))) x h
exec_effect (Sub rd rs1 rs2) s x h = by_value s (set s.x rd (sub (get s.x rs1) (get s.x rs2))) x h
exec_effect (Sll rd rs1 rs2) s x h = by_value s (set s.x rd (sll (get s.x rs1) (get s.x rs2))) x h
exec_effect (Slt rd rs1 rs2) s x h = by_value s (set s.x rd (slt (get s.x rs1) (get s.x rs2))) x h
exec_effect (Sltu rd rs1 rs2) s x h = by_value s (set s.x rd (sltu (get s.x rs1) (get s.x rs2))) x h
exec_effect (Xor rd rs1 rs2) s x h = by_value s (set s.x rd (bit_xor (get s.x rs1) (get s.x rs2))) x h
exec_effect (Srl rd rs1 rs2) s x h = by_value s (set s.x rd (srl (get s.x rs1) (get s.x rs2))) x h
exec_effect (Sra rd rs1 rs2) s x h = by_value s (set s.x rd (sra (get s.x rs1) (get s.x rs2))) x h
exec_effect (Or rd rs1 rs2) s x h = by_value s (set s.x rd (bit_or (get s.x rs1) (get s.x rs2))) x h
exec_effect (And rd rs1 rs2) s x h = by_value s (set s.x rd (bit_and (get s.x rs1) (get s.x rs2))) x h
exec_effect (Mul rd rs1 rs2) s x h = by_value s (set s.x rd (mul (get s.x rs1) (get s.x rs2))) x h
exec_effect (Div rd rs1 rs2) s x h = by_value s (set s.x rd (div (get s.x rs1) (get s.x rs2))) x h
exec_effect (Divu rd rs1 rs2) s x h = by_value s (set s.x rd (divu (get s.x rs1) (get s.x rs2))) x h
exec_effect (Rem rd rs1 rs2) s x h = by_value s (set s.x rd (rem (get s.x rs1) (get s.x rs2))) x h
exec_effect (Remu rd rs1 rs2) s x h = by_value s (set s.x rd (remu (get s.x rs1) (get s.x rs2))) x h
exec_effect _ s x h = cc

-- the registers after some code that is made of such instructions
abbrev pub effects : List CodePart → (ℕ → ℕ) → Option (ℕ → ℕ)
effects [] x = Some x
effects (instruction i ∷ code) x = option_and_then (effects code) (effect i x)
effects (address rd to ∷ code) x = None

-- the first instruction's registers, and then the others'
pub record Begins (i : Inst) (code : List CodePart) (x y : ℕ → ℕ) : Type 0 where
  pub between : ℕ → ℕ
  pub first : effect i x ≡ Some between
  pub others : effects code between ≡ Some y

begins_by : (i : Inst) (code : List CodePart) (x y : ℕ → ℕ) (o : Option (ℕ → ℕ)) → effect i x ≡ o → option_and_then (effects code) o ≡ Some y → Begins i code x y
begins_by i code x y None e h = cc
begins_by i code x y (Some z) e h = record { between = z; first = e; others = h }

pub begins : (i : Inst) (code : List CodePart) (x y : ℕ → ℕ) → effects (instruction i ∷ code) x ≡ Some y → Begins i code x y
begins i code x y h = begins_by i code x y (effect i x) refl h

-- one piece of code after another
pub effects_then : (code more : List CodePart) (x y z : ℕ → ℕ) → effects code x ≡ Some y → effects more y ≡ Some z → effects (code ++ more) x ≡ Some z
effects_then [] more x y z h k = let e : x ≡ y = cc in subst (λ r. effects more r ≡ Some z) (sym e) k
effects_then (instruction i ∷ code) more x y z h k =
    let b = begins i code x y h in
    ap (option_and_then (effects (code ++ more))) b.first ∙ effects_then code more b.between y z b.others k
effects_then (address rd to ∷ code) more x y z h k = cc

-- carried out, the code leaves these registers
pub carried_out_effects : (code : List CodePart) (s : MachineState) (y : ℕ → ℕ) → effects code s.x ≡ Some y → s.pc + 4 * size code < 2 ^ 64 →
    carried_out code s ≡ Goes (record s { x = y; pc = s.pc + 4 * size code })
unfolding size
carried_out_effects [] s y h short =
    let e : s.x ≡ y = cc in
    let here : s.pc ≡ s.pc + 4 * 0 = omega arith in
    ap (λ x. Goes (record s { x = x })) e ∙ ap (λ p. Goes (record s { x = y; pc = p })) here
carried_out_effects (instruction i ∷ code) s y h short =
    let b = begins i code s.x y h in
    let near : (s.pc + 4) % 2 ^ 64 ≡ s.pc + 4 = omega arith in
    let rest : s.pc + 4 + 4 * size code ≡ s.pc + 4 * (1 + size code) = omega arith in
    let goes : exec i s ≡ Goes (record s { x = b.between; pc = s.pc + 4 }) =
    exec_effect i s b.between b.first ∙ ap (λ p. Goes (record s { x = b.between; pc = p })) near in
    ap (goes_then (carried_out code)) goes
    ∙ carried_out_effects code (record s { x = b.between; pc = s.pc + 4 }) y b.others (omega arith)
    ∙ ap (λ p. Goes (record s { x = y; pc = p })) rest
carried_out_effects (address rd to ∷ code) s y h short = cc
