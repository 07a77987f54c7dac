-- A module has few symbols.
use Rattle.std.proofs.Common.{◌≡◌, ℕ, suc, ◌+◌, ◌<◌, ◌≤◌, ◌^◌, List, [], ◌∷◌, ◌++◌, map, length, Some, refl, ap, arith}
use Rattle.std.specs.Prelude.{not, flat_map}
use Rattle.std.specs.List.{enumerate_from, AllByRecursion}
use Rattle.std.proofs.lemmas.List.{length-append, length-map}
use Rattle.std.proofs.lemmas.List.FromFn.{length-enumerate_from}
use Rattle.std.proofs.lemmas.List.Sums.{sum_by-cons, length-filter, count_by-le-length}
use Rattle.pw_base.specs.declared.kinds.Kind.{Kind}
use Rattle.pw_base.specs.declared.kinds.Kind.TheVariants.{Program, Library}
use Rattle.pw_code.specs.declared.object.Object.{Object}
use Rattle.pw_code.specs.Soundness.{IsSound}
use Rattle.pw_module.specs.declared.symbol.Symbol.{Symbol}
use Rattle.pw_place.specs.Names.{external_names}
use Rattle.pw_place.specs.Symbols.{function_symbol, variable_symbol, unit_symbols, defined_symbols, static_symbols, entry_symbols, external_symbol, symbols}
use Rattle.pw_place.specs.Steps.WithinLimits.{IsWithinLimits}
use Rattle.pw_place.specs.Steps.NumberLists.{definitions_in, all_definitions}
use Rattle.pw_place.proofs.FewDefinitions.{few_definitions}

module _ (kind : Kind) (objects : List Object) where
  symbols_of : (unit : ℕ) (o : Object) → length (unit_symbols kind objects (unit, o)) ≡ definitions_in o
  symbols_of unit o =
      let both = length-append (map (function_symbol kind objects unit) (enumerate_from 0 o.funs)) (map (variable_symbol kind objects unit) (enumerate_from 0 o.vars)) in
      let funs = length-map (enumerate_from 0 o.funs) (function_symbol kind objects unit) in
      let vars = length-map (enumerate_from 0 o.vars) (variable_symbol kind objects unit) in
      omega (arith, both, funs, vars, length-enumerate_from 0 o.funs, length-enumerate_from 0 o.vars)

  symbols_from : (n : ℕ) (os : List Object) → length (flat_map (unit_symbols kind objects) (enumerate_from n os)) ≡ all_definitions os
  symbols_from n [] = refl
  symbols_from n (o ∷ os) =
      let both = length-append (unit_symbols kind objects (n, o)) (flat_map (unit_symbols kind objects) (enumerate_from (n + 1) os)) in
      omega (arith, both, symbols_of n o, symbols_from (n + 1) os, sum_by-cons definitions_in o os)

  few_static : length (static_symbols kind objects) ≤ all_definitions objects
  few_static =
      omega (
        arith,
        length-filter (λ (s : Symbol). not s.global) (defined_symbols kind objects),
        count_by-le-length (λ (s : Symbol). not s.global) (defined_symbols kind objects),
        symbols_from 0 objects,
      )

few_entries : (kind : Kind) → length (entry_symbols kind) ≤ 1
few_entries Program = omega arith
few_entries Library = omega arith

pub few_symbols : (kind : Kind) (objects : List Object) → IsWithinLimits kind objects → AllByRecursion IsSound objects →
    length (symbols kind objects) < 2 ^ 32
few_symbols kind objects limits sound =
    let entry : List Symbol = entry_symbols kind in
    let static : List Symbol = static_symbols kind objects in
    let others : List Symbol = map (external_symbol kind objects) (external_names objects) in
    let all : length (symbols kind objects) ≡ suc (length (entry ++ static ++ others)) =
    ap suc (length-map (entry ++ static ++ others) (λ (s : Symbol). Some s)) in
    omega (
      arith,
      all,
      length-append (entry ++ static) others,
      length-append entry static,
      length-map (external_names objects) (external_symbol kind objects),
      few_entries kind,
      few_static kind objects,
      few_definitions kind objects limits sound,
      limits.names,
    )
