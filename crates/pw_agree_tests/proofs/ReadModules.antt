-- Modules as they are read: order, meanings, what is kept, and faults.
use Rattle.std.proofs.Common.{◌≡◌, [], ◌∷◌, refl, ap, true, false, codes, bytes_eq, lit<, inl, inr}
use Rattle.pw_module.specs.LoadOrder.{path_ends, ends_of_paths, each_number_once}
use Rattle.pw_module.specs.Resolution.{IsUnboundSymbol, DiffersFromBound}
use Rattle.pw_module.specs.Reach.{IsRecordOf, IsEntryRecord, BindsRecord, IsPointerRecord, RecordLeads, IsKeptRecord, root, named}
use Rattle.pw_agree_tests.specs.ReadModules.{four_modules, interposed, faulty, number, function_record, entry_record, BreadthFirst, ProgramIsFirst, AreFaulty, ReadModulesAreSearched}

-- ---- four modules

main_is_named : RecordLeads four_modules (number 0 0) (number 0 1)
unfolding path_ends ends_of_paths each_number_once
main_is_named = record {
  from = entry_record 2;
  recorded = record { module_number = 0; loaded = refl; it = _; there = refl; recorded = refl };
  sym = 2;
  depends = (0, lit< tt, refl);
  means = record {
    module_number = 0;
    loaded = refl;
    definition = _;
    means = refl;
    defined_in = refl;
    f = function_record 2 24 68 (3 ∷ []);
    recorded = record { module_number = 0; loaded = refl; it = _; there = refl; recorded = refl };
    symbol = refl;
  };
}

f_is_named : RecordLeads four_modules (number 0 1) (number 2 0)
unfolding path_ends ends_of_paths each_number_once
f_is_named = record {
  from = function_record 2 24 68 (3 ∷ []);
  recorded = record { module_number = 0; loaded = refl; it = _; there = refl; recorded = refl };
  sym = 3;
  depends = (0, lit< tt, refl);
  means = record {
    module_number = 0;
    loaded = refl;
    definition = _;
    means = refl;
    defined_in = refl;
    f = function_record 1 0 60 [];
    recorded = record { module_number = 2; loaded = refl; it = _; there = refl; recorded = refl };
    symbol = refl;
  };
}

entry_is_first : IsEntryRecord four_modules (number 0 0)
unfolding path_ends ends_of_paths each_number_once
entry_is_first = record {
  first = refl;
  it = _;
  there = refl;
  entry = refl;
  f = entry_record 2;
  recorded = record { module_number = 0; loaded = refl; it = _; there = refl; recorded = refl };
}

breadth_first : BreadthFirst
unfolding path_ends ends_of_paths each_number_once
breadth_first = record {
  order = refl;
  meant = refl;
  in_c = refl;
  is_root = inl entry_is_first;
  main_leads = f_is_named;
  kept = named (named (root (inl entry_is_first)) main_is_named) f_is_named;
}

-- ---- interposition

g_names_f : RecordLeads interposed (number 1 1) (number 0 1)
unfolding path_ends ends_of_paths each_number_once
g_names_f = record {
  from = function_record 3 60 68 (2 ∷ []);
  recorded = record { module_number = 1; loaded = refl; it = _; there = refl; recorded = refl };
  sym = 2;
  depends = (0, lit< tt, refl);
  means = record {
    module_number = 1;
    loaded = refl;
    definition = _;
    means = refl;
    defined_in = refl;
    f = function_record 2 24 60 [];
    recorded = record { module_number = 0; loaded = refl; it = _; there = refl; recorded = refl };
    symbol = refl;
  };
}

hook_is_pointed_to : IsPointerRecord interposed (number 1 2)
unfolding path_ends ends_of_paths each_number_once
hook_is_pointed_to = record {
  place = 1;
  module_number = 1;
  loaded = refl;
  it = _;
  there = refl;
  r = record { var = 1; fun = 1 };
  root = (0, lit< tt, refl);
  means = record {
    module_number = 1;
    loaded = refl;
    definition = _;
    means = refl;
    defined_in = refl;
    f = function_record 1 128 60 [];
    recorded = record { module_number = 1; loaded = refl; it = _; there = refl; recorded = refl };
    symbol = refl;
  };
}

program_is_first : ProgramIsFirst
unfolding path_ends ends_of_paths each_number_once
program_is_first = record {
  order = refl;
  meant = refl;
  static = refl;
  g_leads = g_names_f;
  pointed = inr hook_is_pointed_to;
}

-- ---- faults

are_faulty : AreFaulty
unfolding path_ends ends_of_paths each_number_once
are_faulty = record {
  unbound = record {
    loaded = (0, lit< tt, refl);
    it = _;
    there = refl;
    referred = inr (inl (function_record 2 24 68 (3 ∷ 4 ∷ []), (1, lit< tt, refl), (0, lit< tt, refl)));
    symbol = _;
    is = refl;
    nowhere = refl;
  };
  differs = record {
    loaded = (0, lit< tt, refl);
    it = _;
    there = refl;
    referred = inr (inl (function_record 2 24 68 (3 ∷ 4 ∷ []), (1, lit< tt, refl), (1, lit< tt, refl)));
    symbol = _;
    is = refl;
    definition = _;
    means = refl;
    defining = _;
    definition_is = refl;
    other = λ same. let e : true ≡ false = ap (λ text. bytes_eq text (codes "l()")) same in cc;
  };
}

pub read_modules_are_searched : ReadModulesAreSearched
read_modules_are_searched = (breadth_first, program_is_first, are_faulty)
