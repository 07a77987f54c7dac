-- The check of the index, its bytes, the array's address, and the load.
use Rattle.std.proofs.Common.{◌≡◌, ◌+◌, ◌*◌, ◌++◌, List, [], ◌∷◌, pos, ◌∙◌}
use Rattle.pw_isa.specs.declared.instruction.Inst.TheVariants.{Slli, Add, Ld}
use Rattle.pw_isa.specs.Registers.{t0, a0}
use Rattle.pw_tree.specs.declared.ty.Ref.{Ref}
use Rattle.pw_code.specs.Items.{CodePart, instruction, address}
use Rattle.pw_code.specs.Pieces.{check_index}
use Rattle.pw_genexpr.proofs.Appending.{prefix_of_more, prefix_after, appends_after, gave_up}
use Rattle.pw_genexpr.proofs.forms.put_element.Goals as goal

load_code : List CodePart
load_code = instruction (Add t0 t0 a0) ∷ instruction (Ld a0 t0 (pos 0)) ∷ []

array_code : Ref → List CodePart
array_code a = address t0 a ∷ instruction (Add t0 t0 a0) ∷ instruction (Ld a0 t0 (pos 0)) ∷ []

bytes_code : Ref → List CodePart
bytes_code a = instruction (Slli a0 a0 3) ∷ address t0 a ∷ instruction (Add t0 t0 a0) ∷ instruction (Ld a0 t0 (pos 0)) ∷ []

pub returns-in_err-put_check_index : goal.returns-in_err-put_check_index
unfolding bytes_code
returns-in_err-put_check_index c =
    gave_up _ _ _ _ _ c.from_residual.ensures.1
    (prefix_of_more (check_index c.args.size c.args.line) (bytes_code c.args.array.now) _ _ c.in_err-put_check_index.ensures)

pub returns-in_err-put_instruction : goal.returns-in_err-put_instruction
unfolding bytes_code array_code
returns-in_err-put_instruction c =
    gave_up _ _ _ _ _ c.from_residual-in_err-put_instruction.ensures.1
    (prefix_after (check_index c.args.size c.args.line) (bytes_code c.args.array.now) _ _ _ c.in_ok-put_check_index.ensures
    (prefix_of_more (instruction (Slli a0 a0 3) ∷ []) (array_code c.args.array.now) _ _ c.in_err-put_instruction.ensures))

pub returns-in_err-put_address : goal.returns-in_err-put_address
unfolding bytes_code array_code load_code
returns-in_err-put_address c =
    gave_up _ _ _ _ _ c.from_residual-in_err-put_address.ensures.1
    (prefix_after (check_index c.args.size c.args.line) (bytes_code c.args.array.now) _ _ _ c.in_ok-put_check_index.ensures
    (prefix_after (instruction (Slli a0 a0 3) ∷ []) (array_code c.args.array.now) _ _ _ c.in_ok-put_instruction.ensures
    (prefix_of_more (address t0 c.args.array.now ∷ []) load_code _ _ c.in_err-put_address.ensures)))

pub returns : goal.returns
unfolding bytes_code array_code load_code
returns c =
    appends_after (check_index c.args.size c.args.line) (bytes_code c.args.array.now) _ _ _ _ c.in_ok-put_check_index.ensures
    (appends_after (instruction (Slli a0 a0 3) ∷ []) (array_code c.args.array.now) _ _ _ _ c.in_ok-put_instruction.ensures
    (appends_after (address t0 c.args.array.now ∷ []) load_code _ _ _ _ c.in_ok-put_address.ensures c.put_instructions.ensures))
