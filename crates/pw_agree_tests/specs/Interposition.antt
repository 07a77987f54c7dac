-- A program that defines a function which its library defines too: all modules call the program's.
use Rattle.std.specs.Prelude.{◌≡◌, List, [], ◌∷◌, ◌++◌, Some, codes}
use Rattle.std.specs.List.{list_any}
use Rattle.pw_tree.specs.declared.ty.Ref.TheVariants.{Global}
use Rattle.pw_tree.specs.TypedExpressions.{constant, call, nil}
use Rattle.pw_tree.specs.Units.{TypedUnit}
use Rattle.pw_tree.specs.Names.{Project, Definition, function, same_definition, resolved}
use Rattle.pw_tree.specs.Depends.{entry, defined}
use Rattle.pw_mem.specs.Memory.{zeros}
use Rattle.pw_agree.specs.LoadOrder.{ProjectModule, project_order, loaded_project}
use Rattle.pw_agree.specs.Kept.{Keep, FindsKept, IsLevel, IsParent}
use Rattle.pw_agree.specs.Placing.{function_address, slots_of}
use Rattle.pw_agree.specs.Image.{text_image, data_image}
use Rattle.pw_agree_tests.specs.Units.{at, external_function, function_named, unit_of_functions, module_of, definition, entry_words, opening_words, closing_words}

-- long f(void) { return 1; }
-- extern long g(void);
-- long main(void) { return g(); }
abbrev pub program_unit : TypedUnit
program_unit = unit_of_functions
    (external_function (codes "f") 1 (constant (at 1) 1) ∷ external_function (codes "main") 3 (call (at 3) (Global (codes "g")) nil) ∷ [])
    (function_named (codes "f") ∷ function_named (codes "g") ∷ function_named (codes "main") ∷ [])

-- long f(void) { return 2; }
-- long g(void) { return f(); }
abbrev pub library_unit : TypedUnit
library_unit = unit_of_functions
    (external_function (codes "f") 1 (constant (at 1) 2) ∷ external_function (codes "g") 2 (call (at 2) (Global (codes "f")) nil) ∷ [])
    (function_named (codes "f") ∷ function_named (codes "g") ∷ [])

-- the program needs the library
abbrev pub project_modules : List ProjectModule
project_modules = module_of (codes "app") (codes "liba" ∷ []) program_unit ∷ module_of (codes "liba") [] library_unit ∷ []

-- the modules in load order
abbrev pub project : Project
project = (program_unit ∷ []) ∷ (library_unit ∷ []) ∷ []

-- the program's `f`
abbrev pub program_f : Definition
program_f = definition 0 0 0

-- the program's `main`
abbrev pub main : Definition
main = definition 0 0 1

-- the library's `f`
abbrev pub library_f : Definition
library_f = definition 1 0 0

-- the library's `g`
abbrev pub library_g : Definition
library_g = definition 1 0 1

-- the library's own `f` alone is not kept
abbrev pub keep : Keep
keep d = list_any (same_definition d) (program_f ∷ main ∷ library_g ∷ [])

-- Modules, names and places.
pub record IsPlaced : Type 0 where
  pub order : project_order project_modules ≡ 0 ∷ 1 ∷ []
  pub is_loaded : loaded_project project_modules ≡ project
  pub meant_in_library : resolved project 1 0 (Global (codes "f")) ≡ Some (function program_f)
  pub meant_in_program : resolved project 0 0 (Global (codes "g")) ≡ Some (function library_g)
  pub program_f_at : function_address project program_f ≡ 0x5000018
  pub main_at : function_address project main ≡ 0x5000054
  pub library_f_at : function_address project library_f ≡ 0x9000000
  pub library_g_at : function_address project library_g ≡ 0x900003c
  pub program_slots : slots_of project 0 ≡ codes "main" ∷ codes "g" ∷ []
  pub library_slots : slots_of project 1 ≡ codes "f" ∷ []

-- What is kept, at which level, and what led to it.
pub record IsKeptSo : Type 0 where
  pub kept : FindsKept project keep
  pub entry_level : IsLevel project entry 0
  pub main_level : IsLevel project (defined main) 1
  pub main_parent : IsParent project (defined main) 0 entry
  pub library_g_level : IsLevel project (defined library_g) 2
  pub library_g_parent : IsParent project (defined library_g) 1 (defined main)
  pub program_f_level : IsLevel project (defined program_f) 3
  pub program_f_parent : IsParent project (defined program_f) 2 (defined library_g)

-- The words of the texts, and the doublewords of the data.
pub record IsImage : Type 0 where
  pub program_text : text_image project keep 0
      ≡ entry_words
      ++ opening_words 0x00100593 ++ 0x00100513 ∷ closing_words
      ++ opening_words 0x00300593 ++ 0x01000297 ∷ 0xf942b283 ∷ 0x000280e7 ∷ closing_words
  pub library_text : text_image project keep 1
      ≡ zeros 15
      ++ opening_words 0x00200593 ++ 0x01000297 ∷ 0xfa42b283 ∷ 0x000280e7 ∷ closing_words
  pub program_data : data_image project 0 ≡ 0x5000054 ∷ 0x900003c ∷ []
  pub library_data : data_image project 1 ≡ 0x5000018 ∷ []

-- What is expected of these modules.
abbrev pub ProgramInterposes : Type 0
ProgramInterposes = IsPlaced × IsKeptSo × IsImage
