-- What is in the text of a project stays there where more functions are kept.
use Rattle.std.proofs.Common.{◌≡◌, ℕ, zero, suc, Bool, true, false, cond, List, [], ◌∷◌, ◌++◌, length, map, Option, Some, None, refl, arith}
use Rattle.std.specs.Prelude.{slice_get, replicate}
use Rattle.pw_isa.specs.declared.instruction.Inst.{Inst}
use Rattle.pw_tree.specs.Units.{Function, TypedUnit}
use Rattle.pw_tree.specs.Names.{Project, Definition}
use Rattle.pw_code.specs.FunctionCode.{function_code, function_words}
use Rattle.pw_code.proofs.Exports.{size-function}
use Rattle.pw_agree.specs.Kept.{Keep}
use Rattle.pw_agree.specs.Placing.{units_of, function_address, target_address}
use Rattle.pw_simulation.specs.Projects.{HoldsKept}
use Rattle.pw_simulation.specs.Tables.{instructions_at}
use Rattle.pw_simulation.specs.ImageWorld.{joined, function_instructions, text_instructions}
use Rattle.pw_simulation.proofs.Joined.{length_of_map}
use Rattle.pw_simulation.proofs.Tables.{length_of_instructions}
use Rattle.pw_simulation.proofs.Elements.{definition_at}
use Rattle.pw_simulation.proofs.ImageCode.{function_part, unit_part, first_part}

-- ---- lists of instructions that have all of others

-- where one has an instruction, so has the other
abbrev Stays : (before after : Option Inst) → Type 0
Stays None after = Unit {0}
Stays (Some i) after = after ≡ Some i

abbrev AllStay : (before after : List (Option Inst)) → Type 0
AllStay [] [] = Unit {0}
AllStay (i ∷ is) (j ∷ js) = Stays i j × AllStay is js
AllStay [] (j ∷ js) = ⊥
AllStay (i ∷ is) [] = ⊥

stay_both : (is js ks ls : List (Option Inst)) → AllStay is js → AllStay ks ls → AllStay (is ++ ks) (js ++ ls)
stay_both [] [] ks ls a b = b
stay_both [] (j ∷ js) ks ls a b = absurd a
stay_both (i ∷ is) [] ks ls a b = absurd a
stay_both (i ∷ is) (j ∷ js) ks ls a b = (a.0, stay_both is js ks ls a.1 b)

stays_at : (is js : List (Option Inst)) → AllStay is js → (k : ℕ) (i : Inst) → slice_get is k ≡ Some (Some i) → slice_get js k ≡ Some (Some i)
stays_at [] js a k i h = cc
stays_at (j ∷ is) [] a k i h = absurd a
stays_at (None ∷ is) (j ∷ js) a zero i h = cc
stays_at (Some k ∷ is) (j ∷ js) a zero i h = let first : j ≡ Some k = a.0 in cc
stays_at (j ∷ is) (l ∷ js) a (suc k) i h = stays_at is js a.1 k i h

stays_itself : (i : Option Inst) → Stays i i
stays_itself None = tt
stays_itself (Some i) = refl

all_stay_themselves : (is : List (Option Inst)) → AllStay is is
all_stay_themselves [] = tt
all_stay_themselves (i ∷ is) = (stays_itself i, all_stay_themselves is)

-- no instructions stay, whatever stands in their place
none_stay : (n : ℕ) (js : List (Option Inst)) → length js ≡ n → AllStay (replicate n None) js
none_stay zero [] h = tt
none_stay zero (j ∷ js) h = absurd (omega arith)
none_stay (suc n) [] h = absurd (omega arith)
none_stay (suc n) (j ∷ js) h = (tt, none_stay n js (omega arith))

-- ---- functions, units and texts

-- a function that is kept in one place is kept in the other
stay_by : (is none : List (Option Inst)) → AllStay none is → (s t : Bool) → (s ≡ true → t ≡ true) → AllStay (cond s is none) (cond t is none)
stay_by is none stay true true more = all_stay_themselves is
stay_by is none stay true false more = let e = more refl in cc
stay_by is none stay false true more = stay
stay_by is none stay false false more = all_stay_themselves none

module _ (project : Project) (keep in_memory : Keep) (holds : HoldsKept keep in_memory) where
  function_stays : (d : Definition) (f : Function) → AllStay (function_instructions project keep d f) (function_instructions project in_memory d f)
  function_stays d f =
      let is : List Inst = instructions_at (target_address project d.in_module d.in_unit) (function_address project d) (function_code f) in
      let long : length (map (λ i. Some i) is) ≡ function_words f = omega (arith, length_of_map (λ (i : Inst). Some i) is, length_of_instructions (target_address project d.in_module d.in_unit) (function_address project d) (function_code f), size-function f) in
      stay_by (map (λ i. Some i) is) (replicate (function_words f) None) (none_stay (function_words f) (map (λ i. Some i) is) long) (keep d) (in_memory d) (holds d)

  functions_stay : (m u i : ℕ) (fs : List Function) → AllStay (joined (function_part project keep m u) i fs) (joined (function_part project in_memory m u) i fs)
  functions_stay m u i [] = tt
  functions_stay m u i (f ∷ fs) =
      stay_both (function_part project keep m u i f) (function_part project in_memory m u i f) (joined (function_part project keep m u) (suc i) fs) (joined (function_part project in_memory m u) (suc i) fs)
      (function_stays (definition_at m u i) f) (functions_stay m u (suc i) fs)

  units_stay : (m u : ℕ) (units : List TypedUnit) → AllStay (joined (unit_part project keep m) u units) (joined (unit_part project in_memory m) u units)
  units_stay m u [] = tt
  units_stay m u (unit ∷ units) =
      stay_both (unit_part project keep m u unit) (unit_part project in_memory m u unit) (joined (unit_part project keep m) (suc u) units) (joined (unit_part project in_memory m) (suc u) units)
      (functions_stay m u 0 unit.functions) (units_stay m (suc u) units)

  -- an instruction of a text stays where it stands
  pub stays_in_text : (m k : ℕ) (i : Inst) → slice_get (text_instructions project keep m) k ≡ Some (Some i) → slice_get (text_instructions project in_memory m) k ≡ Some (Some i)
  stays_in_text m k i h =
      stays_at (text_instructions project keep m) (text_instructions project in_memory m)
      (stay_both (first_part project m) (first_part project m) (joined (unit_part project keep m) 0 (units_of project m)) (joined (unit_part project in_memory m) 0 (units_of project m))
      (all_stay_themselves (first_part project m)) (units_stay m 0 (units_of project m))) k i h
