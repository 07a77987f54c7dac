-- The code of a project's world is that of the entry and of kept functions alone, so its kept functions can be run.
use Rattle.std.proofs.Common.{◌≡◌, ℕ, zero, suc, ◌+◌, ◌*◌, ◌<◌, Bool, true, false, cond, List, [], length, map, take, Option, Some, None, ◌⊎◌, inl, inr, refl, sym, ◌∙◌, ap, arith, lit≤}
use Rattle.std.specs.Prelude.{slice_get, sum_by, replicate}
use Rattle.std.specs.Option.{option_map_or}
use Rattle.pw_isa.specs.declared.instruction.Inst.{Inst}
use Rattle.pw_tree.specs.Units.{Function, TypedUnit}
use Rattle.pw_tree.specs.Names.{Project, Definition, function_at}
use Rattle.pw_tree.specs.WellTypedExpressions.{class_of}
use Rattle.pw_tree.specs.declared.ty.Sig.{Sig}
use Rattle.pw_code.specs.FunctionCode.{function_code, function_words}
use Rattle.pw_agree.specs.Kept.{Keep}
use Rattle.pw_agree.specs.Placing.{units_of, text_of, words_of_unit, function_address, target_address}
use Rattle.pw_simulation.specs.Projects.{CanRun, KeepsEnough}
use Rattle.pw_simulation.specs.ImageWorld.{joined, function_instructions, module_of, code_of, world_of}
use Rattle.pw_simulation.specs.Tables.{instructions_at}
use Rattle.pw_simulation.specs.Programs.{body_of, IsRunnableFunction, LiesInKeptCode, IsRunnable}
use Rattle.pw_simulation.proofs.Joined.{got_below, either_side, joined_from}
use Rattle.pw_simulation.proofs.Extents.{function_is, unit_found, first_words, words_before_function, address_is}
use Rattle.pw_simulation.proofs.Elements.{definition_at}
use Rattle.pw_simulation.proofs.ImageCode.{length_of_function, function_part, unit_part, first_part, length_of_unit, length_of_first, code_is}
use Rattle.pw_simulation.proofs.Links.{typed_function}
use Rattle.pw_simulation.proofs.Enough.{body_is_linked}

-- ---- where an instruction comes from

-- only a kept function has instructions
kept_by : (f : Function) (is : List (Option Inst)) (t : Bool) (k : ℕ) (i : Inst) → slice_get (cond t is (replicate (function_words f) None)) k ≡ Some (Some i) → t ≡ true
kept_by f is true k i h = refl
kept_by f is false k i h = absurd (none (function_words f) k h)
  where
    none : (n k : ℕ) → slice_get (replicate n None) k ≡ Some (Some i) → ⊥
    none zero k h = cc
    none (suc n) zero h = cc
    none (suc n) (suc k) h = none n k h

-- an instruction of a kept function
pub record IsOfFunction (project : Project) (keep : Keep) (m k : ℕ) : Type 0 where
  pub d : Definition
  pub f : Function
  pub there : function_at project d ≡ Some f
  pub kept : keep d ≡ true
  pub inner : ℕ
  pub below : inner < function_words f
  pub place : text_of m + 4 * k ≡ function_address project d + 4 * inner

of_function : (project : Project) (keep : Keep) (m r : ℕ) (i : Inst) → slice_get (joined (unit_part project keep m) 0 (units_of project m)) r ≡ Some (Some i) → IsOfFunction project keep m (first_words m + r)
of_function project keep m r i h =
    let a = joined_from (unit_part project keep m) words_of_unit (length_of_unit project keep m) 0 (units_of project m) r (Some i) h in
    let u_is : 0 + a.number ≡ a.number = omega arith in
    let in_unit : slice_get (unit_part project keep m a.number a.item) a.inner ≡ Some (Some i) = ap (λ u. slice_get (unit_part project keep m u a.item) a.inner) (sym u_is) ∙ a.got in
    let b = joined_from (function_part project keep m a.number) function_words (λ j g. length_of_function project keep (definition_at m a.number j) g) 0 a.item.functions a.inner (Some i) in_unit in
    let i_is : 0 + b.number ≡ b.number = omega arith in
    let d = definition_at m a.number b.number in
    let in_function : slice_get (function_instructions project keep d b.item) b.inner ≡ Some (Some i) = ap (λ j. slice_get (function_instructions project keep (definition_at m a.number j) b.item) b.inner) (sym i_is) ∙ b.got in
    let short = got_below (function_instructions project keep d b.item) b.inner (Some i) in_function in
    let there : function_at project d ≡ Some b.item = ap (Rattle.std.specs.Prelude.option_and_then (λ (v : TypedUnit). slice_get v.functions b.number)) (unit_found project d a.item a.there) ∙ b.there in
    let before : words_before_function project d ≡ sum_by words_of_unit (take a.number (units_of project m)) + sum_by function_words (take b.number a.item.functions) =
    ap (λ o. sum_by words_of_unit (take a.number (units_of project m)) + sum_by function_words (take b.number (option_map_or (λ (v : TypedUnit). v.functions) o []))) a.there in
    let place_a = a.place in
    let place_b = b.place in
    record {
      d = d;
      f = b.item;
      there = there;
      kept = kept_by b.item (map (λ j. Some j) (instructions_at (target_address project m a.number) (function_address project d) (function_code b.item))) (keep d) b.inner i in_function;
      inner = b.inner;
      below = omega (arith, length_of_function project keep d b.item);
      place = omega (arith, address_is project d);
    }

lies_in_function : (project : Project) (keep : Keep) (m k at : ℕ) → at ≡ text_of m + 4 * k → IsOfFunction project keep m k → LiesInKeptCode (world_of project keep) at
lies_in_function project keep m k at is o =
    let place = o.place in
    let below = o.below in
    inr (record { d = o.d; kept = o.kept; inside = record { function = o.f; there = o.there; from = omega arith; to = omega arith } })

no_first : (project : Project) (m k : ℕ) (i : Inst) → slice_get (first_part project (suc m)) k ≡ Some (Some i) → ⊥
no_first project m k i h = cc

lies_by : (project : Project) (keep : Keep) (m k at : ℕ) (i : Inst) → at ≡ text_of m + 4 * k
    → (slice_get (first_part project m) k ≡ Some (Some i)) ⊎ ((r : ℕ) × (k ≡ length (first_part project m) + r) × (slice_get (joined (unit_part project keep m) 0 (units_of project m)) r ≡ Some (Some i)))
    → LiesInKeptCode (world_of project keep) at
lies_by project keep zero k at i is (inl e) =
    let below = got_below (first_part project 0) k (Some i) e in inl (omega arith, omega (arith, length_of_first project 0))
lies_by project keep (suc m) k at i is (inl e) = absurd (no_first project m k i e)
lies_by project keep m k at i is (inr e) =
    let number = e.1 in
    let k_is : k ≡ first_words m + e.0 = omega (arith, length_of_first project m) in
    lies_in_function project keep m (first_words m + e.0) at (is ∙ ap (λ n. text_of m + 4 * n) k_is) (of_function project keep m e.0 i e.2)

pub only_kept : (project : Project) (keep : Keep) (at : ℕ) (i : Inst) → code_of project keep at ≡ Some i → LiesInKeptCode (world_of project keep) at
only_kept project keep at i h =
    let c = code_is project keep at i h in
    let m = module_of at in
    lies_by project keep m c.number at i c.place (either_side (first_part project m) (joined (unit_part project keep m) 0 (units_of project m)) c.number (Some i) c.there)

-- ---- what a run needs

runnable_function : (project : Project) (keep : Keep) → CanRun project → KeepsEnough project keep → (d : Definition) (f : Function) → function_at project d ≡ Some f → keep d ≡ true
    → IsRunnableFunction (world_of project keep) d f
runnable_function project keep run enough d f there kept =
    let it = function_is project d f there in
    let typed = typed_function project run d f it in
    record {
      unit = it.unit;
      typed = typed;
      links = λ stack_pointer calls_left. body_is_linked project keep run enough (body_of d it.unit typed.classes f stack_pointer calls_left) f it.unit_there there kept;
    }

pub project_is_runnable : (project : Project) (keep : Keep) → CanRun project → KeepsEnough project keep → IsRunnable (world_of project keep)
project_is_runnable project keep run enough =
    let main = run.main in
    record {
      functions = λ d f is. runnable_function project keep run enough d f is.there is.kept;
      main = record {
        d = main.place;
        found = main.found;
        function_is = main.body;
        there = main.there;
        result = ap (λ (s : Sig). class_of s.result) main.type;
        parameters = ap (λ (s : Sig). s.params) main.type;
      };
      stack = record { even = refl; room = lit≤ tt };
      nothing_else = λ at is. only_kept project keep at is.inst is.there;
    }
