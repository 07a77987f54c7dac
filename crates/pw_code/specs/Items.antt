-- Code as a list of instructions and references, its size, and the items that spell it.
use Rattle.std.specs.Prelude.{ℕ, ◌+◌, List, [], ◌∷◌, map}
use Rattle.pw_isa.specs.declared.instruction.Inst.{Inst}
use Rattle.pw_isa.specs.Encoding.{word_of}
use Rattle.pw_tree.specs.declared.ty.Ref.{Ref}
use Rattle.pw_code.specs.declared.item.Item.{Item}
use Rattle.pw_code.specs.declared.item.Item.TheVariants.{Word, Addr}

-- A part of code: an instruction, or the pair of them that puts the address of a function or a variable into a register.
pub data CodePart : Type 0 where
  instruction : Inst → CodePart
  address : (rd : ℕ) → Ref → CodePart

-- How many instruction words a part is.
abbrev pub words_of_code_part : CodePart → ℕ
words_of_code_part (instruction i) = 1
words_of_code_part (address rd to) = 2

-- How many instruction words some code is.
unfoldable pub size : List CodePart → ℕ
size [] = 0
size (part ∷ code) = words_of_code_part part + size code

-- The item that spells a part.
abbrev pub item_of : CodePart → Item
item_of (instruction i) = Word (word_of i)
item_of (address rd to) = Addr rd to

-- The items that spell some code.
abbrev pub items : List CodePart → List Item
items code = map item_of code
