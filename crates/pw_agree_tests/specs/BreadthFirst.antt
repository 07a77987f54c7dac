-- Four modules: the program needs a and b, and both need c. Modules are searched breadth first, so b before c.
use Rattle.std.specs.Prelude.{◌≡◌, List, [], ◌∷◌, ◌++◌, Some, codes}
use Rattle.std.specs.List.{list_any}
use Rattle.pw_tree.specs.declared.ty.Ref.TheVariants.{Global}
use Rattle.pw_tree.specs.TypedExpressions.{constant, call, nil}
use Rattle.pw_tree.specs.Units.{TypedUnit}
use Rattle.pw_tree.specs.Names.{Project, Definition, function, same_definition, resolved}
use Rattle.pw_tree.specs.Depends.{defined}
use Rattle.pw_mem.specs.Memory.{zeros}
use Rattle.pw_agree.specs.LoadOrder.{ProjectModule, project_order, loaded_project}
use Rattle.pw_agree.specs.Kept.{Keep, FindsKept, IsLevel, IsParent}
use Rattle.pw_agree.specs.Placing.{function_address, slots_of}
use Rattle.pw_agree.specs.Image.{text_image, data_image}
use Rattle.pw_agree_tests.specs.Units.{at, external_function, function_named, unit_of_functions, module_of, definition, entry_words, opening_words, closing_words}

-- extern long f(void);
-- long main(void) { return f(); }
abbrev pub program_unit : TypedUnit
program_unit = unit_of_functions
    (external_function (codes "main") 2 (call (at 2) (Global (codes "f")) nil) ∷ [])
    (function_named (codes "f") ∷ function_named (codes "main") ∷ [])

-- long g(void) { return 0; }
abbrev pub a_unit : TypedUnit
a_unit = unit_of_functions (external_function (codes "g") 1 (constant (at 1) 0) ∷ []) (function_named (codes "g") ∷ [])

-- long f(void) { return 11; }
abbrev pub b_unit : TypedUnit
b_unit = unit_of_functions (external_function (codes "f") 1 (constant (at 1) 11) ∷ []) (function_named (codes "f") ∷ [])

-- long f(void) { return 12; }
abbrev pub c_unit : TypedUnit
c_unit = unit_of_functions (external_function (codes "f") 1 (constant (at 1) 12) ∷ []) (function_named (codes "f") ∷ [])

-- the order in which they stand is not the order in which they are loaded
abbrev pub project_modules : List ProjectModule
project_modules =
    module_of (codes "app") (codes "a" ∷ codes "b" ∷ []) program_unit ∷ module_of (codes "c") [] c_unit
    ∷ module_of (codes "b") (codes "c" ∷ []) b_unit ∷ module_of (codes "a") (codes "c" ∷ []) a_unit ∷ []

-- the modules in load order
abbrev pub project : Project
project = (program_unit ∷ []) ∷ (a_unit ∷ []) ∷ (b_unit ∷ []) ∷ (c_unit ∷ []) ∷ []

-- the program's `main`
abbrev pub main : Definition
main = definition 0 0 0

-- a's `g`
abbrev pub a_g : Definition
a_g = definition 1 0 0

-- b's `f`
abbrev pub b_f : Definition
b_f = definition 2 0 0

-- c's `f`
abbrev pub c_f : Definition
c_f = definition 3 0 0

-- `main`, and the `f` that it calls, which is b's
abbrev pub keep : Keep
keep d = list_any (same_definition d) (main ∷ b_f ∷ [])

-- Modules, names and places.
pub record IsPlaced : Type 0 where
  pub order : project_order project_modules ≡ 0 ∷ 3 ∷ 2 ∷ 1 ∷ []
  pub is_loaded : loaded_project project_modules ≡ project
  pub meant : resolved project 0 0 (Global (codes "f")) ≡ Some (function b_f)
  pub main_at : function_address project main ≡ 0x5000018
  pub a_g_at : function_address project a_g ≡ 0x9000000
  pub b_f_at : function_address project b_f ≡ 0xd000000
  pub c_f_at : function_address project c_f ≡ 0x11000000
  pub slots : slots_of project 0 ≡ codes "main" ∷ codes "f" ∷ []

-- What is kept, at which level, and what led to it.
pub record IsKeptSo : Type 0 where
  pub kept : FindsKept project keep
  pub b_f_level : IsLevel project (defined b_f) 2
  pub b_f_parent : IsParent project (defined b_f) 1 (defined main)

-- The words of the texts, and the doublewords of the data.
pub record IsImage : Type 0 where
  pub program_text : text_image project keep 0
      ≡ entry_words ++ opening_words 0x00200593 ++ 0x01000297 ∷ 0xfd02b283 ∷ 0x000280e7 ∷ closing_words
  pub a_text : text_image project keep 1 ≡ zeros 15
  pub b_text : text_image project keep 2 ≡ opening_words 0x00100593 ++ 0x00b00513 ∷ closing_words
  pub c_text : text_image project keep 3 ≡ zeros 15
  pub program_data : data_image project 0 ≡ 0x5000018 ∷ 0xd000000 ∷ []
  pub b_data : data_image project 2 ≡ []

-- What is expected of these modules.
abbrev pub SearchIsBreadthFirst : Type 0
SearchIsBreadthFirst = IsPlaced × IsKeptSo × IsImage
