-- The image of a project: the bytes of its text, data and stack in memory.
use Rattle.std.specs.Prelude.{ℕ, suc, ◌+◌, ◌-◌, ◌*◌, ◌/◌, ℤ, pos, ◌-ℤ◌, true, false, if◌then◌else◌, List, [], ◌∷◌, ◌++◌, length, map, flat_map, nat_eq}
use Rattle.std.specs.Option.{option_map_or}
use Rattle.pw_base.specs.Bytes.{le_bytes}
use Rattle.pw_base.specs.Limits.{stack_start, stack_bytes}
use Rattle.pw_isa.specs.declared.instruction.Inst.{Inst}
use Rattle.pw_isa.specs.declared.instruction.Inst.TheVariants.{Auipc, Ld, Addi}
use Rattle.pw_isa.specs.Encoding.{word_of}
use Rattle.pw_tree.specs.declared.ty.Ref.{Ref}
use Rattle.pw_tree.specs.declared.ty.Ref.TheVariants.{Global, LocalFun, LocalVar}
use Rattle.pw_tree.specs.declared.tunit.TVar.{TVar}
use Rattle.pw_tree.specs.declared.tunit.Init.{Init}
use Rattle.pw_tree.specs.declared.tunit.Init.TheVariants.{Num, Fun}
use Rattle.pw_tree.specs.Units.{Function, TypedUnit}
use Rattle.pw_tree.specs.Names.{Project, Definition, definition_of, resolved}
use Rattle.pw_mem.specs.Regions.{MappedRegion}
use Rattle.pw_mem.specs.Memory.{Mem, zeros}
use Rattle.pw_mem.specs.Words.{text_bytes}
use Rattle.pw_code.specs.Items.{CodePart, instruction, address}
use Rattle.pw_code.specs.LoadImmediate.{upper, lower}
use Rattle.pw_code.specs.FunctionCode.{function_code, function_words}
use Rattle.pw_code.specs.Objects.{is_initialised, is_uninitialised, filled}
use Rattle.pw_agree.specs.Kept.{Keep}
use Rattle.pw_agree.specs.Placing.{units_of, text_of, data_of, code_before_functions, slots_of, entity_address, target_address, function_address, variables_of_unit, variables_of_units, elements_of}

-- ---- text

-- How far an address is from a place.
abbrev pub distance : (place to : ℕ) → ℤ
distance place to = pos to -ℤ pos place

-- The second instruction of an `address`: it loads what the slot of an external name holds, or adds (psABI, "PC-Relative
-- Symbol Addresses").
abbrev pub with_lower : (rd : ℕ) → Ref → ℤ → Inst
with_lower rd (Global name) low = Ld rd rd low
with_lower rd (LocalFun i) low = Addi rd rd low
with_lower rd (LocalVar i) low = Addi rd rd low

-- The words of code that stands at a place, given the address of each target.
unfoldable pub words_at : (Ref → ℕ) → (place : ℕ) → List CodePart → List ℕ
words_at target place [] = []
words_at target place (instruction i ∷ code) = word_of i ∷ words_at target (place + 4) code
words_at target place (address rd to ∷ code) =
    word_of (Auipc rd (upper (distance place (target to))))
    ∷ word_of (with_lower rd to (lower (distance place (target to)))) ∷ words_at target (place + 8) code

-- The words of a function in the image: those of its code, or as many zeros.
abbrev pub function_image : Project → Keep → Definition → Function → List ℕ
function_image project keep d f =
    if keep d
    then words_at (target_address project d.in_module d.in_unit) (function_address project d) (function_code f)
    else zeros (function_words f)

-- The words of the functions of a unit from number i on.
unfoldable pub functions_image : Project → Keep → (m u i : ℕ) → List Function → List ℕ
functions_image project keep m u i [] = []
functions_image project keep m u i (f ∷ fs) =
    function_image project keep (record { in_module = m; in_unit = u; number = i }) f ++ functions_image project keep m u (suc i) fs

-- The words of the units of a module from number u on.
unfoldable pub units_image : Project → Keep → (m u : ℕ) → List TypedUnit → List ℕ
units_image project keep m u [] = []
units_image project keep m u (unit ∷ units) =
    functions_image project keep m u 0 unit.functions ++ units_image project keep m (suc u) units

-- The words of a module's text. The entry is always kept; it stands in no unit, and names `main` alone.
abbrev pub text_image : Project → Keep → ℕ → List ℕ
text_image project keep m =
    words_at (target_address project m 0) (text_of m) (code_before_functions m) ++ units_image project keep m 0 (units_of project m)

-- ---- data

-- A slot holds the address of what its name means.
abbrev pub slots_image : Project → ℕ → List ℕ
slots_image project m = map (λ name. entity_address project (definition_of project name)) (slots_of project m)

-- An element of an initialiser holds its number, or the address of its function.
abbrev pub element_image : Project → (m u : ℕ) → Init → ℕ
element_image project m u (Num value) = value
element_image project m u (Fun name) = entity_address project (resolved project m u name)

-- The elements of a variable, all of them.
abbrev pub variable_image : Project → (m u : ℕ) → TVar → List ℕ
variable_image project m u x = map (element_image project m u) (option_map_or (λ values. values) (filled x).init [])

-- The elements of the initialised variables of a module, from unit u on.
unfoldable pub variables_image : Project → (m u : ℕ) → List TypedUnit → List ℕ
variables_image project m u [] = []
variables_image project m u (unit ∷ units) =
    flat_map (variable_image project m u) (variables_of_unit is_initialised unit) ++ variables_image project m (suc u) units

-- The doublewords of a module's data: the slots, the initialised variables, and zeros for the others.
abbrev pub data_image : Project → ℕ → List ℕ
data_image project m =
    slots_image project m ++ variables_image project m 0 (units_of project m)
    ++ zeros (elements_of (variables_of_units is_uninitialised (units_of project m)))

-- ---- regions

-- The bytes of doublewords.
abbrev pub doubleword_bytes : List ℕ → List ℕ
doubleword_bytes values = flat_map (le_bytes 8) values

-- Bytes, with zeros after them up to a multiple of 8.
abbrev pub whole_doublewords : List ℕ → List ℕ
whole_doublewords bytes = bytes ++ zeros ((length bytes + 7) / 8 * 8 - length bytes)

-- The region of a text has the bytes of its words; it may be read and executed.
abbrev pub text_region : Project → Keep → ℕ → MappedRegion
text_region project keep m = record {
  start = text_of m;
  bytes = whole_doublewords (text_bytes (text_image project keep m));
  read = true;
  write = false;
  execute = true;
}

-- Data may be read and written.
abbrev pub data_region : Project → ℕ → MappedRegion
data_region project m = record {
  start = data_of m;
  bytes = doubleword_bytes (data_image project m);
  read = true;
  write = true;
  execute = false;
}

-- The stack is zero before the run.
abbrev pub stack_region : MappedRegion
stack_region = record { start = stack_start; bytes = zeros stack_bytes; read = true; write = true; execute = false }

-- A region without bytes is left out.
abbrev pub unless_empty : MappedRegion → List MappedRegion
unless_empty region = if nat_eq (length region.bytes) 0 then [] else region ∷ []

-- The regions of the modules from number m on.
unfoldable pub module_regions : Project → Keep → (m : ℕ) → List (List TypedUnit) → List MappedRegion
module_regions project keep m [] = []
module_regions project keep m (units ∷ modules) =
    unless_empty (text_region project keep m) ++ unless_empty (data_region project m) ++ module_regions project keep (suc m) modules

-- The image of a project, sealed.
abbrev pub image : Project → Keep → Mem
image project keep = record { regions = module_regions project keep 0 project ++ stack_region ∷ []; sealed = true }
