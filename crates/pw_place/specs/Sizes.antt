-- How many words and bytes the parts of a module take.
use Rattle.std.specs.Prelude.{ℕ, ◌*◌, List, [], sum_by}
use Rattle.pw_base.specs.declared.kinds.Kind.{Kind}
use Rattle.pw_base.specs.declared.kinds.Kind.TheVariants.{Program, Library}
use Rattle.pw_tree.specs.declared.tunit.TVar.{TVar}
use Rattle.pw_tree.specs.WellTypedUnits.{room}
use Rattle.pw_code.specs.declared.item.Item.{Item}
use Rattle.pw_code.specs.declared.item.Item.TheVariants.{Word, Addr}
use Rattle.pw_code.specs.declared.object.FunCode.{FunCode}
use Rattle.pw_code.specs.Items.{items}
use Rattle.pw_code.specs.Pieces.{bytes_of_words}
use Rattle.pw_code.specs.FunctionCode.{entry_code}

-- An item is one instruction word, or the two that make an address.
abbrev pub item_words : Item → ℕ
item_words (Word w) = 1
item_words (Addr rd to) = 2

-- The bytes of an item, and of code.
abbrev pub item_bytes : Item → ℕ
item_bytes item = bytes_of_words (item_words item)

-- The bytes of a list of items.
abbrev pub code_bytes : List Item → ℕ
code_bytes items = sum_by item_bytes items

-- The bytes of a function.
abbrev pub function_bytes : FunCode → ℕ
function_bytes f = code_bytes f.items

-- A variable has eight bytes for each element.
abbrev pub doubleword_bytes : ℕ
doubleword_bytes = 8

-- The bytes of a variable: eight for each of its elements.
abbrev pub variable_bytes : TVar → ℕ
variable_bytes x = doubleword_bytes * room x.count

-- The entry, which a program alone has.
abbrev pub entry_items : Kind → List Item
entry_items Program = items entry_code
entry_items Library = []
