-- Pieces of the code of functions, as they are appended, and what they rest on.
use Rattle.std.specs.Prelude.{ℕ, ◌+◌, pos, negsuc, ◌-ℤ◌, List, [], ◌∷◌}
use Rattle.std.specs.List.{AllByRecursion}
use Rattle.pw_isa.specs.declared.instruction.Inst.TheVariants.{Jalr, Ld, Sd, Addi}
use Rattle.pw_isa.specs.Registers.{x0, ra, sp, s1}
use Rattle.pw_tree.specs.Units.{Function, TypedUnit}
use Rattle.pw_tree.specs.WellTypedUnits.{IsWellTypedFunction}
use Rattle.pw_code.specs.declared.frame.Frame.{Frame}
use Rattle.pw_code.specs.Items.{CodePart, instruction}
use Rattle.pw_code.specs.Frames.{return_slot, frame_bytes}
use Rattle.pw_code.specs.StatementCode.{statements_words}
use Rattle.pw_code.specs.FunctionCode.{frame_of, opens_words, falls_off}
use Rattle.pw_gen.specs.declared.place.Place.{Place}

-- A function is well typed in some unit.
pub record IsOfUnit (f : Function) : Type 0 where
  pub unit : TypedUnit
  pub well_typed : IsWellTypedFunction unit f

-- a call is taken, and its frame opened
abbrev pub open_frame : Frame → List CodePart
open_frame frame =
    instruction (Addi s1 s1 (negsuc 0)) ∷ instruction (Addi sp sp (pos 0 -ℤ pos (frame_bytes frame)))
    ∷ instruction (Sd sp ra (return_slot frame)) ∷ []

-- what stands after the body of a function with this frame
abbrev pub falls_off_and_closes : Frame → List CodePart
falls_off_and_closes frame =
    falls_off ∷ instruction (Ld ra sp (return_slot frame)) ∷ instruction (Addi sp sp (pos (frame_bytes frame)))
    ∷ instruction (Addi s1 s1 (pos 1)) ∷ instruction (Jalr x0 ra (pos 0)) ∷ []

-- where the body of a function stands
abbrev pub place_of : Function → Place
place_of f =
    let end : ℕ = opens_words f + (statements_words f.body + 1) in
    record { frame = frame_of f; targets = record { break_to = end; continue_to = end; return_to = end }; at = opens_words f }

-- Each of the functions is.
abbrev pub AreOfUnit : List Function → Type 0
AreOfUnit fs = AllByRecursion IsOfUnit fs
