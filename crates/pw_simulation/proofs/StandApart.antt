-- The functions of a project that can be run stand apart, and apart from the entry.
use Rattle.std.proofs.Common.{ℕ, zero, suc, ◌+◌, ◌*◌, ◌≤◌, arith}
use Rattle.pw_tree.specs.Names.{Project, Definition}
use Rattle.pw_code.specs.Items.{size}
use Rattle.pw_code.specs.FunctionCode.{entry_code}
use Rattle.pw_agree.specs.Kept.{Keep}
use Rattle.pw_agree.specs.Placing.{text_of, function_address}
use Rattle.pw_simulation.specs.Moments.{IsInside}
use Rattle.pw_simulation.specs.Programs.{LiesInEntry}
use Rattle.pw_simulation.specs.ImageWorld.{world_of}
use Rattle.pw_simulation.specs.ProjectLaws.{FunctionsStandApart}
use Rattle.pw_simulation.proofs.Extents.{address_is}
use Rattle.pw_simulation.proofs.Elements.{definition_at}
use Rattle.pw_simulation.proofs.Addresses.{one_function}
use Rattle.pw_simulation.proofs.ImageSees.{small_entry_words}

-- the entry stands before each function
entry_first : (project : Project) (m u i : ℕ) → text_of 0 + 4 * size entry_code ≤ function_address project (definition_at m u i)
entry_first project zero u i = omega (arith, address_is project (definition_at 0 u i))
entry_first project (suc m) u i = omega (arith, address_is project (definition_at (suc m) u i), small_entry_words)

not_in_entry : (project : Project) (keep : Keep) (d : Definition) (at : ℕ) → IsInside (world_of project keep) d at → LiesInEntry (world_of project keep) at → ⊥
not_in_entry project keep d at inside entry =
    let from = inside.from in
    let to = entry.1 in
    let first = entry_first project d.in_module d.in_unit d.number in omega arith

pub functions_stand_apart : FunctionsStandApart
functions_stand_apart project keep run = record {
  functions = λ d e at in_d in_e. one_function project run d e in_d.function in_e.function at in_d.there in_e.there (in_d.from, in_d.to) (in_e.from, in_e.to);
  from_entry = λ d at inside entry. not_in_entry project keep d at inside entry;
}
