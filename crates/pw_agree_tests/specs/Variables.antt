-- Variables of two modules: static and external ones, with and without an initialiser, and one that both modules define.
use Rattle.std.specs.Prelude.{◌≡◌, true, false, List, [], ◌∷◌, ◌++◌, Some, None, codes}
use Rattle.std.specs.List.{list_any}
use Rattle.pw_tree.specs.declared.operator.Bin.TheVariants.{Add}
use Rattle.pw_tree.specs.declared.ty.Ty.TheVariants.{Long, Fn}
use Rattle.pw_tree.specs.declared.ty.Ref.TheVariants.{Global, LocalVar}
use Rattle.pw_tree.specs.declared.tunit.Init.TheVariants.{Num}
use Rattle.pw_tree.specs.TypedExpressions.{constant, variable, element, binary}
use Rattle.pw_tree.specs.TypedStatements.{set_variable, returns, nil, cons}
use Rattle.pw_tree.specs.Units.{TypedUnit}
use Rattle.pw_tree.specs.Names.{Project, Definition, object, same_definition, resolved}
use Rattle.pw_mem.specs.Memory.{zeros}
use Rattle.pw_agree.specs.LoadOrder.{ProjectModule, loaded_project}
use Rattle.pw_agree.specs.Kept.{Keep, FindsKept}
use Rattle.pw_agree.specs.Placing.{variable_address, slots_of}
use Rattle.pw_agree.specs.Image.{text_image, data_image}
use Rattle.pw_agree_tests.specs.Units.{at, external_function, function_named, module_of, definition, entry_words}

-- long zero;
-- long one = 1;
-- extern long both;
-- static long t[3] = {7};
-- fn0 p;
-- long main(void) { zero = t[1]; return both + one; }
abbrev pub program_unit : TypedUnit
program_unit = record {
  functions = record {
    name = codes "main";
    global = true;
    sig = record { result = Long; params = [] };
    line = 6;
    locals = 0;
    held = 1;
    body =
        cons (set_variable (Global (codes "zero")) (element (at 6) (LocalVar 2) 3 (constant (at 6) 1)))
        (cons (returns (Some (binary (at 6) Add false (variable (at 6) (Global (codes "both"))) (variable (at 6) (Global (codes "one")))))) nil);
  } ∷ [];
  variables =
      record { name = codes "zero"; global = true; ty = Long; count = None; init = None }
      ∷ record { name = codes "one"; global = true; ty = Long; count = None; init = Some (Num 1 ∷ []) }
      ∷ record { name = codes "t"; global = false; ty = Long; count = Some 3; init = Some (Num 7 ∷ []) }
      ∷ record { name = codes "p"; global = true; ty = Fn 0; count = None; init = None } ∷ [];
  names =
      record { name = codes "zero"; text = codes "l" } ∷ record { name = codes "one"; text = codes "l" }
      ∷ record { name = codes "both"; text = codes "l" } ∷ record { name = codes "p"; text = codes "0" }
      ∷ function_named (codes "main") ∷ [];
}

-- long one = 9;
-- long both = 2;
-- long table[2];
-- long f(void) { return one; }
abbrev pub library_unit : TypedUnit
library_unit = record {
  functions = external_function (codes "f") 4 (variable (at 4) (Global (codes "one"))) ∷ [];
  variables =
      record { name = codes "one"; global = true; ty = Long; count = None; init = Some (Num 9 ∷ []) }
      ∷ record { name = codes "both"; global = true; ty = Long; count = None; init = Some (Num 2 ∷ []) }
      ∷ record { name = codes "table"; global = true; ty = Long; count = Some 2; init = None } ∷ [];
  names =
      record { name = codes "one"; text = codes "l" } ∷ record { name = codes "both"; text = codes "l" }
      ∷ record { name = codes "table"; text = codes "l[2]" } ∷ function_named (codes "f") ∷ [];
}

-- the program needs the library
abbrev pub project_modules : List ProjectModule
project_modules = module_of (codes "app") (codes "liba" ∷ []) program_unit ∷ module_of (codes "liba") [] library_unit ∷ []

-- the modules in load order
abbrev pub project : Project
project = (program_unit ∷ []) ∷ (library_unit ∷ []) ∷ []

-- the program's `main`
abbrev pub main : Definition
main = definition 0 0 0

-- the library's function is not kept: a variable that is kept in memory keeps no function
abbrev pub keep : Keep
keep d = list_any (same_definition d) (main ∷ [])

-- Names and places: the initialised variables stand before the others.
pub record IsPlaced : Type 0 where
  pub is_loaded : loaded_project project_modules ≡ project
  pub one_means : resolved project 1 0 (Global (codes "one")) ≡ Some (object (definition 0 0 1))
  pub both_means : resolved project 0 0 (Global (codes "both")) ≡ Some (object (definition 1 0 1))
  pub zero_at : variable_address project (definition 0 0 0) ≡ 0x6000040
  pub one_at : variable_address project (definition 0 0 1) ≡ 0x6000020
  pub t_at : variable_address project (definition 0 0 2) ≡ 0x6000028
  pub p_at : variable_address project (definition 0 0 3) ≡ 0x6000048
  pub library_one_at : variable_address project (definition 1 0 0) ≡ 0xa000008
  pub both_at : variable_address project (definition 1 0 1) ≡ 0xa000010
  pub table_at : variable_address project (definition 1 0 2) ≡ 0xa000018
  pub program_slots : slots_of project 0 ≡ codes "main" ∷ codes "zero" ∷ codes "both" ∷ codes "one" ∷ []
  pub library_slots : slots_of project 1 ≡ codes "one" ∷ []
  pub kept : FindsKept project keep

-- The words of the texts, and the doublewords of the data.
pub record IsImage : Type 0 where
  pub program_text : text_image project keep 0
      ≡ entry_words
      ++ 0x00049a63 ∷ 0x00400513 ∷ 0x00600593 ∷ 0x40200893 ∷ 0x00000073 ∷ 0xfff48493 ∷ 0xff010113 ∷ 0x00113423
      ∷ 0x00100513 ∷ 0x00300313 ∷ 0x00656a63 ∷ 0x00100513 ∷ 0x00600593 ∷ 0x40200893 ∷ 0x00000073 ∷ 0x00351513
      ∷ 0x01000297 ∷ 0xfd028293 ∷ 0x00a282b3 ∷ 0x0002b503 ∷ 0x01000297 ∷ 0xfa02b283 ∷ 0x00a2b023 ∷ 0x01000297
      ∷ 0xf9c2b283 ∷ 0x0002b503 ∷ 0x00a13023 ∷ 0x01000297 ∷ 0xf942b283 ∷ 0x0002b503 ∷ 0x00013283 ∷ 0x00a28533
      ∷ 0x0080006f ∷ 0x00000513 ∷ 0x00813083 ∷ 0x01010113 ∷ 0x00148493 ∷ 0x00008067 ∷ []
  pub library_text : text_image project keep 1 ≡ zeros 17
  pub program_data : data_image project 0 ≡ 0x5000018 ∷ 0x6000040 ∷ 0xa000010 ∷ 0x6000020 ∷ 1 ∷ 7 ∷ 0 ∷ 0 ∷ 0 ∷ 0 ∷ []
  pub library_data : data_image project 1 ≡ 0x6000020 ∷ 9 ∷ 2 ∷ 0 ∷ 0 ∷ []

-- What is expected of these modules.
abbrev pub InitialisedStandFirst : Type 0
InitialisedStandFirst = IsPlaced × IsImage
