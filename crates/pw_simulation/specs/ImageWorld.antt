-- The world of a project's image.
use Rattle.std.specs.Prelude.{ℕ, suc, ◌+◌, ◌-◌, ◌/◌, ◌%◌, nat_eq, nat_le, ◌&&◌, if◌then◌else◌, List, [], ◌∷◌, ◌++◌, map, replicate, sum_by, Option, Some, None, slice_get, option_and_then, bytes_eq}
use Rattle.std.specs.List.{list_any}
use Rattle.pw_base.specs.Limits.{module_span, stack_start, stack_bytes}
use Rattle.pw_isa.specs.declared.instruction.Inst.{Inst}
use Rattle.pw_tree.specs.Units.{Function}
use Rattle.pw_tree.specs.Names.{Project, Definition}
use Rattle.pw_code.specs.Items.{size}
use Rattle.pw_code.specs.FunctionCode.{function_code, function_words, entry_code}
use Rattle.pw_agree.specs.Kept.{Keep}
use Rattle.pw_agree.specs.Placing.{units_of, text_of, code_before_functions, words_of_unit, slots_of, slot_address, target_address, function_address, variable_address}
use Rattle.pw_simulation.specs.World.{World}
use Rattle.pw_simulation.specs.Tables.{instructions_at}

-- ---- the code

-- The instructions of a function, one for each word: those of its code where it is kept, and none where it is not.
abbrev pub function_instructions : Project → Keep → Definition → Function → List (Option Inst)
function_instructions project keep d f =
    if keep d
    then map (λ i. Some i) (instructions_at (target_address project d.in_module d.in_unit) (function_address project d) (function_code f))
    else replicate (function_words f) None

-- What numbered items give, one after another; the first item has this number.
abbrev pub joined : {A B : Type 0} → (ℕ → A → List B) → ℕ → List A → List B
joined part n [] = []
joined part n (x ∷ xs) = part n x ++ joined part (suc n) xs

-- The instructions of a module's text: of the entry, if it has one, and of its functions.
abbrev pub text_instructions : Project → Keep → ℕ → List (Option Inst)
text_instructions project keep m =
    map (λ i. Some i) (instructions_at (target_address project m 0) (text_of m) (code_before_functions m))
    ++ joined
    (λ u unit. joined (λ i f. function_instructions project keep (record { in_module = m; in_unit = u; number = i }) f) 0 unit.functions)
    0 (units_of project m)

-- The instruction at an address of a text that starts at another.
abbrev pub instruction_in : List (Option Inst) → (start at : ℕ) → Option Inst
instruction_in text start at =
    if nat_le start at && nat_eq ((at - start) % 4) 0
    then option_and_then (λ i. i) (slice_get text ((at - start) / 4))
    else None

-- The module in whose span an address lies.
abbrev pub module_of : ℕ → ℕ
module_of at = at / module_span - 1

-- The code of a project: of the entry and of the kept functions alone.
abbrev pub code_of : Project → Keep → ℕ → Option Inst
code_of project keep at = instruction_in (text_instructions project keep (module_of at)) (text_of (module_of at)) at

-- ---- the world

-- The words of all texts: of the entry and of all functions.
abbrev pub words_of_project : Project → ℕ
words_of_project project = size entry_code + sum_by (λ units. sum_by words_of_unit units) project

-- The world of a project of which these functions are kept.
abbrev pub world_of : Project → Keep → World
world_of project keep = record {
  project = project;
  keep = keep;
  code = code_of project keep;
  entry_place = text_of 0;
  function_place = function_address project;
  variable_place = variable_address project;
  has_slot = λ m name. list_any (λ other. bytes_eq other name) (slots_of project m);
  slot_place = slot_address project;
  stack_low = stack_start;
  stack_high = stack_start + stack_bytes;
  words = words_of_project project;
}
