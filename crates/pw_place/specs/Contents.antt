-- What a module's text and data hold, and which doublewords of the data are addresses.
use Rattle.std.specs.Prelude.{ℕ, ◌+◌, ◌*◌, ℤ, pos, ◌-ℤ◌, List, [], ◌∷◌, ◌++◌, map, flat_map}
use Rattle.std.specs.List.{enumerate_from}
use Rattle.std.specs.Option.{unwrap_or}
use Rattle.pw_base.specs.Field.{field}
use Rattle.pw_base.specs.Limits.{text_offset, data_offset}
use Rattle.pw_base.specs.declared.kinds.Kind.{Kind}
use Rattle.pw_isa.specs.declared.instruction.Inst.{Inst}
use Rattle.pw_isa.specs.declared.instruction.Inst.TheVariants.{Auipc, Ld, Addi}
use Rattle.pw_isa.specs.Encoding.{word_of}
use Rattle.pw_tree.specs.declared.ty.Ref.{Ref}
use Rattle.pw_tree.specs.declared.ty.Ref.TheVariants.{Global, LocalFun, LocalVar}
use Rattle.pw_tree.specs.declared.tunit.TVar.{TVar}
use Rattle.pw_tree.specs.declared.tunit.Init.{Init}
use Rattle.pw_tree.specs.declared.tunit.Init.TheVariants.{Num, Fun}
use Rattle.pw_code.specs.declared.item.Item.{Item}
use Rattle.pw_code.specs.declared.item.Item.TheVariants.{Word, Addr}
use Rattle.pw_code.specs.declared.object.FunCode.{FunCode}
use Rattle.pw_code.specs.declared.object.Object.{Object}
use Rattle.pw_code.specs.LoadImmediate.{upper_immediate, lower}
use Rattle.pw_module.specs.declared.relocation.Reloc.{Reloc}
use Rattle.pw_module.specs.declared.relocation.RelocKind.{RelocKind}
use Rattle.pw_module.specs.declared.relocation.RelocKind.TheVariants.{Sym, Base}
use Rattle.pw_place.specs.Sizes.{item_bytes, doubleword_bytes, entry_items}
use Rattle.pw_place.specs.Places.{variables, function_start, slot_names, variable_start, target, uninitialised_size}
use Rattle.pw_place.specs.Symbols.{external_number, ref_of_variable}

-- ---- the text

-- An external name's address is loaded from its slot, and a static definition's is the target itself.
abbrev pub second_instruction : (rd : ℕ) → Ref → ℤ → Inst
second_instruction rd (Global name) distance = Ld rd rd (lower distance)
second_instruction rd (LocalFun i) distance = Addi rd rd (lower distance)
second_instruction rd (LocalVar i) distance = Addi rd rd (lower distance)

-- The two words of an address, where the first of them stands this far before the target.
abbrev pub address_words : (rd : ℕ) → Ref → ℤ → List ℕ
address_words rd to distance =
    word_of (Auipc rd (upper_immediate distance)) ∷ word_of (second_instruction rd to distance) ∷ []

-- The words of an item of a unit that stands at a place, counted from the module's base.
abbrev pub words_of_item : Kind → List Object → (unit at : ℕ) → Item → List ℕ
words_of_item kind objects unit at (Word w) = w ∷ []
words_of_item kind objects unit at (Addr rd to) =
    address_words rd to (pos (target kind objects unit to) -ℤ pos at)

-- The words of code of a unit, the first of which stands at a place.
unfoldable pub words_of_code : Kind → List Object → (unit at : ℕ) → List Item → List ℕ
words_of_code kind objects unit at [] = []
words_of_code kind objects unit at (item ∷ items) =
    words_of_item kind objects unit at item ++ words_of_code kind objects unit (at + item_bytes item) items

-- The words of a function, which comes with its number.
abbrev pub words_of_function : Kind → List Object → (unit : ℕ) → ℕ × FunCode → List ℕ
words_of_function kind objects unit (i, f) =
    words_of_code kind objects unit (text_offset + function_start kind objects unit i) f.items

-- The words of the functions of a unit, in their order.
abbrev pub words_of_unit : Kind → List Object → ℕ × Object → List ℕ
words_of_unit kind objects (unit, o) = flat_map (words_of_function kind objects unit) (enumerate_from 0 o.funs)

-- The words of the text. The entry refers to an external name alone, so it is read as if it were the first unit's.
abbrev pub text : Kind → List Object → List ℕ
text kind objects =
    words_of_code kind objects 0 text_offset (entry_items kind)
    ++ flat_map (words_of_unit kind objects) (enumerate_from 0 objects)

-- ---- the data

-- The values of a variable's initialiser.
abbrev pub values_of : TVar → List Init
values_of x = unwrap_or x.init []

-- The bytes of an element: a number's, and zeros where a function's address will stand.
abbrev pub element_bytes : Init → List ℕ
element_bytes (Num value) = field 8 value
element_bytes (Fun f) = field 8 0

-- The bytes that a file has of a variable: those of its initialiser's values.
abbrev pub variable_content : TVar → List ℕ
variable_content x = flat_map element_bytes (values_of x)

-- The bytes of the data that a file has: zeros for the slots, then the elements of the initialised variables.
abbrev pub bytes : Kind → List Object → List ℕ
bytes kind objects =
    flat_map (λ name. field 8 0) (slot_names kind objects)
    ++ flat_map variable_content (variables objects)

-- How many bytes of zeros follow them.
abbrev pub zeros : List Object → ℕ
zeros objects = uninitialised_size (variables objects)

-- ---- pointers: the elements of initialisers that name functions

-- A pointer stands in a variable of a unit, so many bytes after the start of the data, and means a function.
pub record Pointer : Type 0 where
  pub unit : ℕ
  pub variable : Ref
  pub at : ℕ
  pub function : Ref

-- The pointers of an element, a variable and a unit, each of which comes with its number.
abbrev pub pointers_in_element : (unit : ℕ) → (variable : Ref) → (start : ℕ) → ℕ × Init → List Pointer
pointers_in_element unit variable start (j, Num value) = []
pointers_in_element unit variable start (j, Fun f) =
    record { unit = unit; variable = variable; at = start + doubleword_bytes * j; function = f } ∷ []

-- The pointers in a list of values of a variable.
abbrev pub pointers_in_values : Kind → List Object → (unit i : ℕ) → TVar → List Init → List Pointer
pointers_in_values kind objects unit i x values =
    flat_map (pointers_in_element unit (ref_of_variable i x) (variable_start kind objects unit i)) (enumerate_from 0 values)

-- The pointers in a variable.
abbrev pub pointers_in_variable : Kind → List Object → (unit : ℕ) → ℕ × TVar → List Pointer
pointers_in_variable kind objects unit (i, x) = pointers_in_values kind objects unit i x (values_of x)

-- The pointers in the variables of a unit, in their order.
abbrev pub pointers_in_unit : Kind → List Object → ℕ × Object → List Pointer
pointers_in_unit kind objects (unit, o) =
    flat_map (pointers_in_variable kind objects unit) (enumerate_from 0 o.vars)

-- All pointers, in order of units, variables and elements, which is also that of their places.
abbrev pub pointers : Kind → List Object → List Pointer
pointers kind objects = flat_map (pointers_in_unit kind objects) (enumerate_from 0 objects)

-- ---- relocations

-- What is put into a pointer: an external function's address by its symbol, and a static one's from the module's base.
abbrev pub relocation_to : Kind → List Object → (unit : ℕ) → Ref → RelocKind
relocation_to kind objects unit (Global name) = Sym (external_number kind objects name)
relocation_to kind objects unit (LocalFun i) = Base (target kind objects unit (LocalFun i))
relocation_to kind objects unit (LocalVar i) = Base (target kind objects unit (LocalVar i))

-- The relocation of a pointer, at its place in the data.
abbrev pub pointer_relocation : Kind → List Object → Pointer → Reloc
pointer_relocation kind objects p =
    record { offset = data_offset + p.at; kind = relocation_to kind objects p.unit p.function }

-- A slot comes with its number.
abbrev pub slot_relocation : Kind → List Object → ℕ × List ℕ → Reloc
slot_relocation kind objects (n, name) =
    record { offset = data_offset + doubleword_bytes * n; kind = Sym (external_number kind objects name) }

-- The relocations of a module, by ascending place: of its slots, then of its pointers.
abbrev pub relocations : Kind → List Object → List Reloc
relocations kind objects =
    map (slot_relocation kind objects) (enumerate_from 0 (slot_names kind objects))
    ++ map (pointer_relocation kind objects) (pointers kind objects)
