-- Kept code is whole: each multiple of 4 in the entry or in a kept function is the address of an instruction.
use Rattle.std.proofs.Common.{◌≡◌, ℕ, ◌+◌, ◌-◌, ◌*◌, ◌/◌, ◌%◌, ◌<◌, List, length, Some, get_or, inl, inr, ◌∙◌, ap, arith}
use Rattle.std.proofs.lemmas.Option.{slice_get-get_or}
use Rattle.pw_isa.specs.declared.instruction.Inst.{Inst}
use Rattle.pw_isa.specs.declared.instruction.Inst.TheVariants.{Ecall}
use Rattle.pw_tree.specs.declared.ty.Ref.{Ref}
use Rattle.pw_tree.specs.Names.{Project}
use Rattle.pw_code.specs.FunctionCode.{function_code, entry_code}
use Rattle.pw_code.proofs.Exports.{size-function}
use Rattle.pw_agree.specs.Kept.{Keep}
use Rattle.pw_agree.specs.Placing.{text_of, function_address, target_address}
use Rattle.pw_simulation.specs.Moments.{IsCode}
use Rattle.pw_simulation.specs.Tables.{instructions_at}
use Rattle.pw_simulation.specs.Programs.{LiesInKeptFunction, LiesInKeptCode}
use Rattle.pw_simulation.specs.Projects.{CanRun}
use Rattle.pw_simulation.specs.ImageWorld.{code_of, world_of}
use Rattle.pw_simulation.proofs.Tables.{length_of_instructions}
use Rattle.pw_simulation.proofs.Extents.{first_words, words_before_function, address_is}
use Rattle.pw_simulation.proofs.Addresses.{function_module}
use Rattle.pw_simulation.proofs.ImageCode.{first_there, kept_there, code_at}
use Rattle.pw_simulation.proofs.ImageSees.{some_module}

module _ (project : Project) (keep : Keep) where
  -- the instruction of this number in a module's text is at that address
  is_code : (m k at : ℕ) (i : Inst) → at ≡ text_of m + 4 * k → code_of project keep (text_of m + 4 * k) ≡ Some i →
      IsCode (code_of project keep) at
  is_code m k at i place stands = record { inst = i; there = ap (code_of project keep) place ∙ stands }

  whole_entry : CanRun project → (k at : ℕ) → at ≡ text_of 0 + 4 * k →
      k < length (instructions_at (target_address project 0 0) (text_of 0) entry_code) → IsCode (code_of project keep) at
  whole_entry can k at place below =
      let code : List Inst = instructions_at (target_address project 0 0) (text_of 0) entry_code in
      let i : Inst = get_or code k Ecall in
      is_code 0 k at i place
      (code_at project keep can 0 k i (some_module project can) (first_there project keep 0 k i (slice_get-get_or code k Ecall below)))

  whole_function : CanRun project → (at : ℕ) → LiesInKeptFunction (world_of project keep) at → at % 4 ≡ 0 → IsCode (code_of project keep) at
  whole_function can at lies even =
      let d = lies.d in
      let f = lies.inside.function in
      let there = lies.inside.there in
      let from = lies.inside.from in
      let to = lies.inside.to in
      let k : ℕ = (at - function_address project d) / 4 in
      let target : Ref → ℕ = target_address project d.in_module d.in_unit in
      let code : List Inst = instructions_at target (function_address project d) (function_code f) in
      let long = length_of_instructions target (function_address project d) (function_code f) in
      let is = slice_get-get_or code k Ecall (omega (arith, long, size-function f)) in
      let i : Inst = get_or code k Ecall in
      let n : ℕ = first_words d.in_module + words_before_function project d + k in
      is_code d.in_module n at i (omega (arith, address_is project d))
      (code_at project keep can d.in_module n i (function_module project d f there) (kept_there project keep d f there lies.kept k i is))

  pub whole_code : CanRun project → (at : ℕ) → LiesInKeptCode (world_of project keep) at → at % 4 ≡ 0 → IsCode (code_of project keep) at
  whole_code can at (inl lies) even =
      let from = lies.0 in
      let to = lies.1 in
      let long = length_of_instructions (target_address project 0 0) (text_of 0) entry_code in
      whole_entry can ((at - text_of 0) / 4) at (omega arith) (omega (arith, long))
  whole_code can at (inr lies) even = whole_function can at lies even
