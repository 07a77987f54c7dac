-- The first symbol without a definition is that of the first name that a unit does not define.
use Rattle.std.proofs.Common.{◌≡◌, ℕ, ◌+◌, Bool, true, false, not, cond, if◌then◌else◌, List, [], ◌∷◌, ◌++◌, map, Option, Some, None, refl, sym, ap, ◌∙◌, append-nil, bytes_eq}
use Rattle.std.specs.Prelude.{find, option_map, ◌&&◌}
use Rattle.std.specs.Option.{is_none, option_or, option_map_or}
use Rattle.std.specs.List.{AllByRecursion, enumerate_from}
use Rattle.pw_base.specs.declared.kinds.Kind.TheVariants.{Program}
use Rattle.pw_tree.specs.declared.tunit.TVar.{TVar}
use Rattle.pw_tree.specs.declared.tunit.Ext.{Ext}
use Rattle.pw_tree.specs.Units.{TypedUnit}
use Rattle.pw_tree.specs.WellTypedUnits.{IsWellTyped}
use Rattle.pw_tree.specs.Names.{Entity, first_found, definition_of}
use Rattle.pw_code.specs.declared.object.FunCode.{FunCode}
use Rattle.pw_code.specs.Objects.{variables_in_order, function_object}
use Rattle.pw_gen.proofs.Elements.{each_append, each_filter}
use Rattle.pw_module.specs.declared.symbol.Symbol.{Symbol}
use Rattle.pw_module.specs.declared.symbol.SymKind.{SymKind}
use Rattle.pw_module.specs.declared.symbol.SymKind.TheVariants.{Undefined}
use Rattle.pw_place.specs.Names.{external_names}
use Rattle.pw_place.specs.Symbols.{function_symbol, variable_symbol, defined_symbols, static_symbols, external_symbol}
use Rattle.pw_image.specs.OneUnit.{project_of, objects_of}
use Rattle.pw_image.specs.Unbound.{undefined_name_of, first_undefined}
use Rattle.pw_image.specs.Laws.{UndefinedIsUnbound}
use Rattle.pw_image.proofs.Names.{find_in_both}
use Rattle.pw_image.proofs.SymbolAddresses.{kind_address, seek_function, seek_variable, entity_value, among_functions, among_variables, variables_differ, meant_is, names_are}

-- ---- symbols that have a definition

abbrev IsDefined : Symbol → Type 0
IsDefined s = (name : List ℕ) → undefined_name_of s.kind name ≡ None

-- They are passed over.
passed_over : (defined more : List Symbol) → AllByRecursion IsDefined defined →
    first_undefined (map Some (defined ++ more)) ≡ first_undefined (map Some more)
unfolding first_undefined
passed_over [] more h = refl
passed_over (s ∷ defined) more h =
    ap (λ o. option_or o (first_undefined (map Some (defined ++ more)))) (h.0 s.name) ∙ passed_over defined more h.1

-- what a name stands for, where this definition is found
abbrev kind_of_found : Option Symbol → SymKind
kind_of_found found = option_map_or (λ s. s.kind) found Undefined

abbrev name_if : Bool → List ℕ → Option (List ℕ)
name_if unbound name = if unbound then Some name else None

-- A name has none exactly where none of them is found.
name_of_found : (test : Symbol → Bool) (defined : List Symbol) (name : List ℕ) → AllByRecursion IsDefined defined →
    undefined_name_of (kind_of_found (find test defined)) name ≡ name_if (is_none (find test defined)) name
name_of_found test [] name h = refl
name_of_found test (s ∷ defined) name h = by_test (test s) (name_of_found test defined name h.1)
  where
    by_test : (b : Bool) → undefined_name_of (kind_of_found (find test defined)) name ≡ name_if (is_none (find test defined)) name
        → undefined_name_of (kind_of_found (cond b (Some s) (find test defined))) name
        ≡ name_if (is_none (cond b (Some s) (find test defined))) name
    by_test true later = h.0 name
    by_test false later = later

-- ---- what is found on both sides

both_or_none : {A B C : Type 0} (f : A → C) (g : B → C) (a : Option A) (b : Option B) → option_map f a ≡ option_map g b →
    is_none a ≡ is_none b
both_or_none f g None None h = refl
both_or_none f g None (Some y) h = cc
both_or_none f g (Some x) None h = cc
both_or_none f g (Some x) (Some y) h = refl

either_alike : {A B : Type 0} (a c : Option A) (b d : Option B) → is_none a ≡ is_none b → is_none c ≡ is_none d →
    is_none (option_or a c) ≡ is_none (option_or b d)
either_alike None c None d h k = k
either_alike None c (Some y) d h k = cc
either_alike (Some x) c None d h k = cc
either_alike (Some x) c (Some y) d h k = refl

module _ (name : List ℕ) (unit : TypedUnit) (well : IsWellTyped unit) where
  abbrev functions_from : ℕ → List FunCode → List Symbol
  functions_from i fs = map (function_symbol Program (objects_of name unit) 0) (enumerate_from i fs)

  abbrev variables_from : ℕ → List TVar → List Symbol
  variables_from i xs = map (variable_symbol Program (objects_of name unit) 0) (enumerate_from i xs)

  abbrev functions : List Symbol
  functions = functions_from 0 (map (function_object unit.variables) unit.functions)

  abbrev variables : List Symbol
  variables = variables_from 0 (variables_in_order unit.variables)

  functions_defined : (i : ℕ) (fs : List FunCode) → AllByRecursion IsDefined (functions_from i fs)
  functions_defined i [] = tt
  functions_defined i (f ∷ fs) = (λ w. refl, functions_defined (i + 1) fs)

  variables_defined : (i : ℕ) (xs : List TVar) → AllByRecursion IsDefined (variables_from i xs)
  variables_defined i [] = tt
  variables_defined i (x ∷ xs) = (λ w. refl, variables_defined (i + 1) xs)

  all_defined : AllByRecursion IsDefined (defined_symbols Program (objects_of name unit))
  all_defined =
      let of_functions = functions_defined 0 (map (function_object unit.variables) unit.functions) in
      let of_variables = variables_defined 0 (variables_in_order unit.variables) in
      each_append IsDefined (functions ++ variables) [] (each_append IsDefined functions variables of_functions of_variables) tt

  abbrev defines : List ℕ → Symbol → Bool
  defines wanted s = s.global && bytes_eq s.name wanted

  -- A definition of a name is found among the symbols exactly where the name designates one.
  found_alike : (wanted : List ℕ) →
      is_none (find (defines wanted) (defined_symbols Program (objects_of name unit))) ≡ is_none (definition_of (project_of unit) wanted)
  found_alike wanted =
      let function_there : Option Symbol = find (defines wanted) functions in
      let variable_there : Option Symbol = find (defines wanted) variables in
      let function_meant : Option Entity = first_found (seek_function name unit wanted) 0 unit.functions in
      let variable_meant : Option Entity = first_found (seek_variable name unit wanted) 0 unit.variables in
      let value : Entity → ℕ = entity_value name unit wanted in
      ap (λ l. is_none (find (defines wanted) l)) (append-nil (functions ++ variables))
      ∙ ap is_none (find_in_both (defines wanted) functions variables)
      ∙ either_alike function_there variable_there function_meant variable_meant
      (both_or_none kind_address value function_there function_meant (among_functions name unit wanted 0 unit.functions))
      (both_or_none kind_address value variable_there variable_meant (among_variables name unit wanted (variables_differ name unit well)))
      ∙ ap is_none (sym (meant_is name unit wanted))

  abbrev unbound : List ℕ → Bool
  unbound wanted = is_none (definition_of (project_of unit) wanted)

  abbrev symbols_of : List Ext → List Symbol
  symbols_of names = map (external_symbol Program (objects_of name unit)) names

  of_names : (names : List Ext) → first_undefined (map Some (symbols_of names)) ≡ find unbound (map (λ (n : Ext). n.name) names)
  unfolding first_undefined
  of_names [] = refl
  of_names (n ∷ names) =
      ap (λ o. option_or o (first_undefined (map Some (symbols_of names))))
      (name_of_found (defines n.name) (defined_symbols Program (objects_of name unit)) n.name all_defined
      ∙ ap (λ b. name_if b n.name) (found_alike n.name))
      ∙ by_test (unbound n.name) (of_names names)
    where
      by_test : (b : Bool) → first_undefined (map Some (symbols_of names)) ≡ find unbound (map (λ (m : Ext). m.name) names)
          → option_or (name_if b n.name) (first_undefined (map Some (symbols_of names)))
          ≡ cond b (Some n.name) (find unbound (map (λ (m : Ext). m.name) names))
      by_test true later = refl
      by_test false later = later

pub undefined_is_unbound : UndefinedIsUnbound
unfolding first_undefined
undefined_is_unbound name unit well =
    let statics : List Symbol = static_symbols Program (objects_of name unit) in
    passed_over statics (symbols_of name unit well (external_names (objects_of name unit)))
    (each_filter IsDefined (λ (s : Symbol). not s.global) (defined_symbols Program (objects_of name unit)) (all_defined name unit well))
    ∙ ap (λ names. first_undefined (map Some (symbols_of name unit well names))) (names_are name unit well.names_differ)
    ∙ of_names name unit well unit.names
