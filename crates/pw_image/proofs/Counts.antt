-- How many records a unit's object has, and that they are few.
use Rattle.std.proofs.Common.{◌≡◌, suc, ◌*◌, ◌≤◌, List, [], ◌∷◌, ◌++◌, map, length, ap, ◌∙◌, arith, append-nil}
use Rattle.std.specs.Prelude.{sum_by}
use Rattle.std.specs.List.{enumerate_from}
use Rattle.std.proofs.lemmas.List.{length-map}
use Rattle.std.proofs.lemmas.List.FromFn.{length-enumerate_from}
use Rattle.std.proofs.lemmas.List.Sums.{sum_by-cons}
use Rattle.pw_base.specs.declared.kinds.Kind.TheVariants.{Program}
use Rattle.pw_tree.specs.Units.{Function}
use Rattle.pw_module.specs.declared.dep_table.FunRec.{FunRec}
use Rattle.pw_code.specs.declared.object.FunCode.{FunCode}
use Rattle.pw_code.specs.FunctionCode.{function_words}
use Rattle.pw_code.specs.Objects.{function_object}
use Rattle.pw_place.specs.Sizes.{function_bytes}
use Rattle.pw_place.specs.Tables.{function_record}
use Rattle.pw_place.proofs.FaultFree.{fault_free_within}
use Rattle.pw_image.specs.OneUnit.{objects_of}
use Rattle.pw_image.specs.Laws.{RecordsAreAll, FunctionsAreFew}
use Rattle.pw_image.proofs.Functions.{bytes_of_functions}

pub records_are_all : RecordsAreAll
records_are_all name unit =
    let codes : List FunCode = map (function_object unit.variables) unit.functions in
    let rows : List FunRec = map (function_record Program (objects_of name unit) 0) (enumerate_from 0 codes) in
    ap (λ (l : List FunRec). suc (length l)) (append-nil rows)
    ∙ ap suc (length-map (enumerate_from 0 codes) (function_record Program (objects_of name unit) 0)
    ∙ length-enumerate_from 0 codes ∙ length-map unit.functions (function_object unit.variables))

-- Each function has a word at least.
functions_have_words : (fs : List Function) → length fs ≤ sum_by function_words fs
functions_have_words [] = omega arith
functions_have_words (f ∷ fs) = omega (arith, sum_by-cons function_words f fs, functions_have_words fs)

pub functions_are_few : FunctionsAreFew
functions_are_few name unit none =
    let codes : List FunCode = map (function_object unit.variables) unit.functions in
    let limits = fault_free_within Program (objects_of name unit) none in
    let whole : sum_by function_bytes (codes ++ []) ≡ 4 * sum_by function_words unit.functions =
    ap (sum_by function_bytes) (append-nil codes) ∙ bytes_of_functions unit.variables unit.functions in
    omega (arith, limits.text, whole, functions_have_words unit.functions)
