-- Where the functions of a unit's object stand.
use Rattle.std.proofs.Common.{◌≡◌, ℕ, ◌+◌, ◌*◌, List, [], ◌∷◌, map, take, refl, ap, ◌∙◌, arith}
use Rattle.std.specs.Prelude.{sum_by}
use Rattle.std.proofs.lemmas.List.{take-map}
use Rattle.std.proofs.lemmas.List.Sums.{sum_by-cons}
use Rattle.pw_tree.specs.declared.tunit.TVar.{TVar}
use Rattle.pw_tree.specs.Units.{Function}
use Rattle.pw_code.specs.Items.{CodePart, instruction, address, size, items}
use Rattle.pw_code.specs.FunctionCode.{function_code, function_words}
use Rattle.pw_code.specs.declared.item.Item.TheVariants.{Word, Addr}
use Rattle.pw_isa.specs.Encoding.{word_of}
use Rattle.pw_code.specs.Objects.{ref_in_order, item_in_order, function_object}
use Rattle.pw_code.proofs.Exports.{size-function}
use Rattle.pw_place.specs.Sizes.{item_bytes, code_bytes, function_bytes}
use Rattle.pw_agree.specs.Placing.{text_of}
use Rattle.pw_image.specs.Laws.{FunctionsStand}
use Rattle.pw_image.proofs.Lists.{sum_by_map, sum_by_times}

-- Code has four bytes for each word.
pub bytes_of_code : (xs : List TVar) (code : List CodePart) → code_bytes (map (item_in_order xs) (items code)) ≡ 4 * size code
unfolding size
bytes_of_code xs [] = refl
bytes_of_code xs (instruction i ∷ code) =
    sum_by-cons item_bytes (Word (word_of i)) (map (item_in_order xs) (items code)) ∙ ap (λ n. 4 + n) (bytes_of_code xs code) ∙ (let e : 4 + 4 * size code ≡ 4 * (1 + size code) = omega arith in e)
bytes_of_code xs (address rd to ∷ code) =
    sum_by-cons item_bytes (Addr rd (ref_in_order xs to)) (map (item_in_order xs) (items code)) ∙ ap (λ n. 8 + n) (bytes_of_code xs code) ∙ (let e : 8 + 4 * size code ≡ 4 * (2 + size code) = omega arith in e)

-- And so has a function.
pub bytes_of_function : (xs : List TVar) (f : Function) → function_bytes (function_object xs f) ≡ 4 * function_words f
bytes_of_function xs f = bytes_of_code xs (function_code f) ∙ ap (λ n. 4 * n) (size-function f)

pub bytes_of_functions : (xs : List TVar) (fs : List Function) → sum_by function_bytes (map (function_object xs) fs) ≡ 4 * sum_by function_words fs
bytes_of_functions xs fs =
    sum_by_map function_bytes (function_object xs) (λ f. 4 * function_words f) (bytes_of_function xs) fs ∙ sum_by_times 4 function_words fs

regroup : (base n : ℕ) → base + (24 + 4 * n) ≡ base + 4 * (6 + 0 + n)
regroup base n = omega arith

pub functions_stand : FunctionsStand
unfolding size
functions_stand name unit i =
    let base : ℕ = text_of 0 in
    ap (λ l. base + (24 + sum_by function_bytes l)) (take-map (function_object unit.variables) i unit.functions)
    ∙ ap (λ n. base + (24 + n)) (bytes_of_functions unit.variables (take i unit.functions))
    ∙ regroup base (sum_by function_words (take i unit.functions))
