-- Pieces of the code of statements, as they are appended.
use Rattle.std.specs.Prelude.{ℕ, ◌+◌, ◌-◌, ℤ, pos, List, [], ◌∷◌, ◌++◌, length}
use Rattle.pw_isa.specs.declared.instruction.Inst.TheVariants.{Beq, Ld, Sd, Addi, Slli, Add}
use Rattle.pw_isa.specs.Registers.{x0, ra, sp, t0, t1, s1, a0}
use Rattle.pw_tree.specs.declared.ty.Ref.{Ref}
use Rattle.pw_tree.specs.TypedExpressions.{TypedExpression}
use Rattle.pw_code.specs.declared.frame.Frame.{Frame}
use Rattle.pw_code.specs.Items.{CodePart, instruction, address}
use Rattle.pw_code.specs.Frames.{local_slot, held_slot}
use Rattle.pw_code.specs.Pieces.{bytes_of_words, jump, unless_zero, check_index, hold}
use Rattle.pw_code.specs.ExpressionCode.{expression_code}

-- a register is stored into a local's slot
abbrev pub store_local : (i register : ℕ) → List CodePart
store_local i register = instruction (Sd sp register (local_slot i)) ∷ []

-- a0 is stored into a variable
abbrev pub store_variable : Ref → List CodePart
store_variable x = address t0 x ∷ instruction (Sd t0 a0 (pos 0)) ∷ []

-- an index is computed, checked and held
abbrev pub index_code : Frame → (array_size line : ℕ) → TypedExpression → List CodePart
index_code frame array_size line i = expression_code frame 0 i ++ check_index array_size line ++ hold frame 0 ∷ []

-- the index that is held is loaded, as a distance in bytes
abbrev pub load_index : Frame → List CodePart
load_index frame = instruction (Ld t1 sp (held_slot frame 0)) ∷ instruction (Slli t1 t1 3) ∷ []

-- a0 is stored into the element at the distance in t1
abbrev pub store_at : Ref → List CodePart
store_at a = address t0 a ∷ instruction (Add t0 t0 t1) ∷ instruction (Sd t0 a0 (pos 0)) ∷ []

-- a0 is stored into the element whose index is held
abbrev pub store_element : Frame → Ref → List CodePart
store_element frame a = load_index frame ++ store_at a

-- an element of an array is set
abbrev pub set_element_code : Frame → Ref → (array_size line : ℕ) → (i e : TypedExpression) → List CodePart
set_element_code frame a array_size line i e =
    expression_code frame 0 i ++ check_index array_size line ++ hold frame 0 ∷ expression_code frame 1 e ++ store_element frame a

-- so many words run only where a condition holds
abbrev pub only_if : Frame → TypedExpression → (n : ℕ) → List CodePart
only_if frame c n = expression_code frame 0 c ++ unless_zero n

-- a jump is taken where a0 is not zero
abbrev pub jump_if_nonzero : (from to : ℕ) → List CodePart
jump_if_nonzero from to = instruction (Beq a0 x0 (pos (bytes_of_words 2))) ∷ jump from to ∷ []

-- and where a condition holds
abbrev pub repeat_while : Frame → TypedExpression → (from to : ℕ) → List CodePart
repeat_while frame c from to = expression_code frame 0 c ++ jump_if_nonzero from to
