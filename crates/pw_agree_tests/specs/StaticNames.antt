-- Two units of one program, each with a static function of the same name: each calls its own.
use Rattle.std.specs.Prelude.{◌≡◌, List, [], ◌∷◌, ◌++◌, Some, None, codes}
use Rattle.std.specs.List.{list_any}
use Rattle.pw_tree.specs.declared.ty.Ref.TheVariants.{LocalFun}
use Rattle.pw_tree.specs.TypedExpressions.{constant, call, nil}
use Rattle.pw_tree.specs.Units.{TypedUnit}
use Rattle.pw_tree.specs.Names.{Project, Definition, function, same_definition, definition_of, resolved, text_at}
use Rattle.pw_tree.specs.Depends.{defined, Depends}
use Rattle.pw_mem.specs.Memory.{zeros}
use Rattle.pw_agree.specs.LoadOrder.{ProjectModule, project_order, loaded_project}
use Rattle.pw_agree.specs.Kept.{Keep, FindsKept, IsLevel, IsParent}
use Rattle.pw_agree.specs.Placing.{function_address, slots_of}
use Rattle.pw_agree.specs.Image.{text_image, data_image}
use Rattle.pw_agree_tests.specs.Units.{at, external_function, static_function, function_named, unit_of_functions, definition, entry_words, opening_words, closing_words}

-- static long h(void) { return 3; }
-- long main(void) { return h(); }
abbrev pub first_unit : TypedUnit
first_unit = unit_of_functions
    (static_function (codes "h") 1 (constant (at 1) 3) ∷ external_function (codes "main") 2 (call (at 2) (LocalFun 0) nil) ∷ [])
    (function_named (codes "main") ∷ [])

-- static long h(void) { return 4; }
-- long other(void) { return h(); }
abbrev pub second_unit : TypedUnit
second_unit = unit_of_functions
    (static_function (codes "h") 1 (constant (at 1) 4) ∷ external_function (codes "other") 2 (call (at 2) (LocalFun 0) nil) ∷ [])
    (function_named (codes "other") ∷ [])

-- one module of two units
abbrev pub project_modules : List ProjectModule
project_modules = record { name = codes "app"; needs = []; units = first_unit ∷ second_unit ∷ [] } ∷ []

-- the modules in load order
abbrev pub project : Project
project = (first_unit ∷ second_unit ∷ []) ∷ []

-- the first unit's `h`
abbrev pub first_h : Definition
first_h = definition 0 0 0

-- the program's `main`
abbrev pub main : Definition
main = definition 0 0 1

-- the second unit's `h`
abbrev pub second_h : Definition
second_h = definition 0 1 0

-- the second unit's `other`
abbrev pub other : Definition
other = definition 0 1 1

-- `main`, and the `h` that it calls, its own unit's
abbrev pub keep : Keep
keep d = list_any (same_definition d) (first_h ∷ main ∷ [])

-- Names and places.
pub record IsPlaced : Type 0 where
  pub order : project_order project_modules ≡ 0 ∷ []
  pub is_loaded : loaded_project project_modules ≡ project
  pub meant_in_first : resolved project 0 0 (LocalFun 0) ≡ Some (function first_h)
  pub meant_in_second : resolved project 0 1 (LocalFun 0) ≡ Some (function second_h)
  pub static_is_no_external : definition_of project (codes "h") ≡ None
  pub text_of_other : text_at project (function other) ≡ Some (codes "l()")
  pub first_h_at : function_address project first_h ≡ 0x5000018
  pub main_at : function_address project main ≡ 0x5000054
  pub second_h_at : function_address project second_h ≡ 0x5000098
  pub other_at : function_address project other ≡ 0x50000d4
  pub slots : slots_of project 0 ≡ codes "main" ∷ []

-- What depends on what, what is kept, at which level, and what led to it.
pub record IsKeptSo : Type 0 where
  pub main_depends : Depends project (defined main) first_h
  pub other_depends : Depends project (defined other) second_h
  pub main_does_not : Depends project (defined main) second_h → ⊥
  pub kept : FindsKept project keep
  pub main_level : IsLevel project (defined main) 1
  pub first_h_level : IsLevel project (defined first_h) 2
  pub first_h_parent : IsParent project (defined first_h) 1 (defined main)

-- The words of the text, and the doublewords of the data.
pub record IsImage : Type 0 where
  pub text : text_image project keep 0
      ≡ entry_words
      ++ opening_words 0x00100593 ++ 0x00300513 ∷ closing_words
      ++ opening_words 0x00200593 ++ 0x00000297 ∷ 0xfa428293 ∷ 0x000280e7 ∷ closing_words
      ++ zeros 32
  pub slot : data_image project 0 ≡ 0x5000054 ∷ []

-- What is expected of this program.
abbrev pub StaticNamesAreOwn : Type 0
StaticNamesAreOwn = IsPlaced × IsKeptSo × IsImage
