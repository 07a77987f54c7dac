-- A library whose data point to a function that nothing names: it is a root.
use Rattle.std.specs.Prelude.{◌≡◌, true, List, [], ◌∷◌, ◌++◌, Some, None, codes}
use Rattle.std.specs.List.{list_any}
use Rattle.pw_tree.specs.declared.ty.Ty.TheVariants.{Fn}
use Rattle.pw_tree.specs.declared.ty.Ref.TheVariants.{Global, LocalFun}
use Rattle.pw_tree.specs.declared.tunit.Init.TheVariants.{Fun}
use Rattle.pw_tree.specs.TypedExpressions.{constant}
use Rattle.pw_tree.specs.Units.{TypedUnit}
use Rattle.pw_tree.specs.Names.{Project, Definition, object, same_definition, resolved}
use Rattle.pw_tree.specs.Depends.{defined}
use Rattle.pw_agree.specs.LoadOrder.{ProjectModule, project_order, loaded_project}
use Rattle.pw_agree.specs.Kept.{Keep, FindsKept, IsLevel, IsParent}
use Rattle.pw_agree.specs.Placing.{function_address, variable_address, slots_of}
use Rattle.pw_agree.specs.Image.{text_image, data_image}
use Rattle.pw_tree.specs.Depends.{entry}
use Rattle.pw_agree_tests.specs.Units.{at, external_function, static_function, function_named, unit_of_functions, module_of, definition, entry_words, opening_words, closing_words}

-- long main(void) { return 0; }
abbrev pub program_unit : TypedUnit
program_unit = unit_of_functions (external_function (codes "main") 1 (constant (at 1) 0) ∷ []) (function_named (codes "main") ∷ [])

-- static long cb(void) { return 5; }
-- fn0 hook = cb;
abbrev pub library_unit : TypedUnit
library_unit = record {
  functions = static_function (codes "cb") 1 (constant (at 1) 5) ∷ [];
  variables = record { name = codes "hook"; global = true; ty = Fn 0; count = None; init = Some (Fun (LocalFun 0) ∷ []) } ∷ [];
  names = record { name = codes "hook"; text = codes "0" } ∷ [];
}

-- the program needs the library
abbrev pub project_modules : List ProjectModule
project_modules = module_of (codes "app") (codes "liba" ∷ []) program_unit ∷ module_of (codes "liba") [] library_unit ∷ []

-- the modules in load order
abbrev pub project : Project
project = (program_unit ∷ []) ∷ (library_unit ∷ []) ∷ []

-- the program's `main`
abbrev pub main : Definition
main = definition 0 0 0

-- the library's function `cb`
abbrev pub callback : Definition
callback = definition 1 0 0

-- the library's variable `hook`
abbrev pub hook : Definition
hook = definition 1 0 0

-- `main`, and `cb`, which `hook` points to
abbrev pub keep : Keep
keep d = list_any (same_definition d) (main ∷ callback ∷ [])

-- Modules, names and places.
pub record IsPlaced : Type 0 where
  pub order : project_order project_modules ≡ 0 ∷ 1 ∷ []
  pub is_loaded : loaded_project project_modules ≡ project
  pub meant : resolved project 0 0 (Global (codes "hook")) ≡ Some (object hook)
  pub main_at : function_address project main ≡ 0x5000018
  pub callback_at : function_address project callback ≡ 0x9000000
  pub hook_at : variable_address project hook ≡ 0xa000000
  pub program_slots : slots_of project 0 ≡ codes "main" ∷ []
  pub library_slots : slots_of project 1 ≡ []

-- What is kept, at which level, and what led to it.
pub record IsKeptSo : Type 0 where
  pub kept : FindsKept project keep
  pub callback_level : IsLevel project (defined callback) 0
  pub main_level : IsLevel project (defined main) 1
  pub main_parent : IsParent project (defined main) 0 entry

-- The words of the texts, and the doublewords of the data.
pub record IsImage : Type 0 where
  pub program_text : text_image project keep 0 ≡ entry_words ++ opening_words 0x00100593 ++ 0x00000513 ∷ closing_words
  pub library_text : text_image project keep 1 ≡ opening_words 0x00100593 ++ 0x00500513 ∷ closing_words
  pub program_data : data_image project 0 ≡ 0x5000018 ∷ []
  pub library_data : data_image project 1 ≡ 0x9000000 ∷ []

-- What is expected of these modules.
abbrev pub PointerKeeps : Type 0
PointerKeeps = IsPlaced × IsKeptSo × IsImage
