-- Code whose instructions all have words: their operands have room in the formats.
use Rattle.std.specs.Prelude.{◌<◌, List}
use Rattle.std.specs.List.{AllByRecursion}
use Rattle.pw_isa.specs.Encoding.{IsEncodable}
use Rattle.pw_tree.specs.Units.{Function, TypedUnit}
use Rattle.pw_tree.specs.WellTypedUnits.{IsWellTypedFunction}
use Rattle.pw_code.specs.Items.{CodePart, instruction, address}
use Rattle.pw_code.specs.FunctionCode.{function_code}

-- The operands of an instruction have room in its format; an address goes into one of 32 registers.
abbrev pub PartHasWords : CodePart → Type 0
PartHasWords (instruction i) = IsEncodable i
PartHasWords (address rd to) = rd < 32

-- Each instruction of some code has a word.
abbrev pub CodeHasWords : List CodePart → Type 0
CodeHasWords code = AllByRecursion PartHasWords code

-- The code of a well-typed function has words.
abbrev pub WellTypedCodeHasWords : Type 0
WellTypedCodeHasWords = (unit : TypedUnit) (f : Function) → IsWellTypedFunction unit f → CodeHasWords (function_code f)
