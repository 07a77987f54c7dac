-- The machine's end against the meaning's: where the machine ends as the meaning does, what is answered of the one is said of the
-- other.
use Rattle.std.proofs.Common.{◌≡◌, ℕ, zero, suc, Some, inl, inr, refl, ap, sym, subst, ◌∙◌}
use Rattle.std.specs.Prelude.{slice_get}
use Rattle.pw_tree.specs.Units.{Function, TypedUnit}
use Rattle.pw_tree.specs.Names.{Definition, function_at}
use Rattle.pw_tree.specs.States.{Fault, checked, spent}
use Rattle.pw_tree.specs.Meaning.{exit, stopped}
use Rattle.pw_tree.specs.Meaning as meant
use Rattle.pw_hart.specs.declared.ends.End.{End}
use Rattle.pw_hart.specs.declared.ends.End.TheVariants as ends
use Rattle.pw_agree.specs.Kept.{Keep}
use Rattle.pw_simulation.specs.World.{World}
use Rattle.pw_simulation.specs.Moments.{IsInside, kind_of}
use Rattle.pw_simulation.specs.Programs.{EndsAs}
use Rattle.pw_simulation.specs.Projects.{CanRun}
use Rattle.pw_simulation.specs.ImageWorld.{world_of}
use Rattle.pw_simulation.proofs.Joined.{got_below}
use Rattle.pw_simulation.proofs.Elements.{definition_at, one_definition}
use Rattle.pw_simulation.proofs.StandApart.{functions_stand_apart}
use Rattle.pw_image.specs.OneUnit.{project_of, own_definition}
use Rattle.pw_build.specs.declared.run.Ended.{Ended}
use Rattle.pw_build.specs.declared.run.Ended.TheVariants.{Exit, Checked, Spent, Trap, Limit, ReadFault, WriteFault}
use Rattle.pw_build.specs.Executed.{IsRowAt, EndsSo}
use Rattle.pw_build.specs.Meant.{FailsCheck, IsEnd}

-- ---- the machine's ends

-- an exit is the meaning's, with its value
exits : (w : World) (means : meant.End) (value : ℕ) → EndsAs w means (ends.Exit value) → means ≡ exit value
exits w (exit v) value e = cc
exits w (stopped (checked fault d line)) value e = let other = e.1 in cc
exits w (stopped spent) value e = cc

-- the end of the counted steps is
spends : (w : World) (means : meant.End) → EndsAs w means ends.Spent → means ≡ stopped spent
spends w (exit v) e = cc
spends w (stopped (checked fault d line)) e = let other = e.1 in cc
spends w (stopped spent) e = refl

-- a failed check is, with its kind and line, in the function in which it is
pub record FailsIn (w : World) (means : meant.End) (kind line pc : ℕ) : Type 0 where
  pub fault : Fault
  pub d : Definition
  pub kind_is : kind ≡ kind_of fault
  pub end_is : means ≡ stopped (checked fault d line)
  pub inside : IsInside w d pc

fails : (w : World) (means : meant.End) (kind line pc : ℕ) → EndsAs w means (ends.Checked kind line pc) → FailsIn w means kind line pc
fails w (exit v) kind line pc e = cc
fails w (stopped (checked fault d at)) kind line pc e =
    let same_kind : kind ≡ kind_of fault = of_kind e.1 in
    let same_line : line ≡ at = of_line e.1 in
    let same_pc : pc ≡ e.0 = of_pc e.1 in
    record {
      fault = fault;
      d = d;
      kind_is = same_kind;
      end_is = ap (λ l. stopped (checked fault d l)) (sym same_line);
      inside = subst (IsInside w d) (sym same_pc) e.2;
    }
  where
    of_kind : {k l p k2 l2 p2 : ℕ} → ends.Checked k l p ≡ ends.Checked k2 l2 p2 → k ≡ k2
    of_kind e = cc

    of_line : {k l p k2 l2 p2 : ℕ} → ends.Checked k l p ≡ ends.Checked k2 l2 p2 → l ≡ l2
    of_line e = cc

    of_pc : {k l p k2 l2 p2 : ℕ} → ends.Checked k l p ≡ ends.Checked k2 l2 p2 → p ≡ p2
    of_pc e = cc
fails w (stopped spent) kind line pc e = cc

-- no trap is, and no limit
never_traps : (w : World) (means : meant.End) (cause pc value : ℕ) → EndsAs w means (ends.Trap cause pc value) → ⊥
never_traps w (exit v) cause pc value e = cc
never_traps w (stopped (checked fault d line)) cause pc value e = let other = e.1 in cc
never_traps w (stopped spent) cause pc value e = cc

never_at_limit : (w : World) (means : meant.End) → EndsAs w means ends.Limit → ⊥
never_at_limit w (exit v) e = cc
never_at_limit w (stopped (checked fault d line)) e = let other = e.1 in cc
never_at_limit w (stopped spent) e = cc

-- ---- the function of a check

-- a function of a project of one unit is the unit's own
own_place : (unit : TypedUnit) (m u i : ℕ) (f : Function) → function_at (project_of unit) (definition_at m u i) ≡ Some f →
    (m ≡ 0) × (u ≡ 0) × (slice_get unit.functions i ≡ Some f)
own_place unit zero zero i f there = (refl, refl, there)
own_place unit zero (suc u) i f there = cc
own_place unit (suc m) u i f there = cc

own_function : (unit : TypedUnit) (d : Definition) (f : Function) → function_at (project_of unit) d ≡ Some f →
    (d ≡ own_definition d.number) × (slice_get unit.functions d.number ≡ Some f)
own_function unit d f there =
    let own = own_place unit d.in_module d.in_unit d.number f there in
    (one_definition d.in_module d.in_unit d.number 0 0 d.number own.0 own.1 refl, own.2)

-- the row in whose code an address is that lies inside a function is that function's
row_of_function : (unit : TypedUnit) (keep : Keep) (d : Definition) (pc row : ℕ) → CanRun (project_of unit) → d ≡ own_definition d.number →
    IsInside (world_of (project_of unit) keep) d pc → IsRowAt unit keep pc row → row ≡ suc d.number
row_of_function unit keep d pc zero can own inside (inl lies) =
    absurd ((functions_stand_apart (project_of unit) keep can).from_entry d pc inside lies)
row_of_function unit keep d pc (suc i) can own inside (inl lies) =
    let same : d ≡ own_definition i = (functions_stand_apart (project_of unit) keep can).functions d (own_definition i) pc inside lies in
    ap (λ (e : Definition). suc e.number) (sym same)
row_of_function unit keep d pc row can own inside (inr none) =
    absurd (none.1 (suc d.number) (subst (λ e. IsInside (world_of (project_of unit) keep) e pc) own inside))

-- a check that fails in a function fails in its row
fails_check : (unit : TypedUnit) (keep : Keep) (means : meant.End) (kind line pc row : ℕ) → CanRun (project_of unit) →
    FailsIn (world_of (project_of unit) keep) means kind line pc → IsRowAt unit keep pc row → FailsCheck unit means kind row line
fails_check unit keep means kind line pc row can f at =
    let own = own_function unit f.d f.inside.function f.inside.there in
    record {
      fault = f.fault;
      kind_is = f.kind_is;
      number = f.d.number;
      there = got_below unit.functions f.d.number f.inside.function own.1;
      row_is = row_of_function unit keep f.d pc row can own.0 f.inside at;
      end_is = f.end_is ∙ ap (λ e. stopped (checked f.fault e line)) own.0;
    }

-- ---- the answer

-- so what is answered of the machine's end is what the meaning's end is
pub end_is_meant : (unit : TypedUnit) (keep : Keep) (steps : ℕ) (means : meant.End) (end : End) (answered : Ended) →
    CanRun (project_of unit) → EndsAs (world_of (project_of unit) keep) means end → EndsSo unit keep steps end answered →
    IsEnd unit means answered
end_is_meant unit keep steps means end (Exit value) can same so =
    exits _ means value (subst (EndsAs (world_of (project_of unit) keep) means) so same)
end_is_meant unit keep steps means end (Checked kind row line) can same so =
    fails_check unit keep means kind line so.0 row can
    (fails _ means kind line so.0 (subst (EndsAs (world_of (project_of unit) keep) means) so.1 same)) so.2
end_is_meant unit keep steps means end Spent can same so =
    spends _ means (subst (EndsAs (world_of (project_of unit) keep) means) so same)
end_is_meant unit keep steps means end (Trap cause pc value) can same so =
    never_traps _ means cause pc value (subst (EndsAs (world_of (project_of unit) keep) means) so same)
end_is_meant unit keep steps means end (Limit limit) can same so =
    never_at_limit _ means (subst (EndsAs (world_of (project_of unit) keep) means) so.0 same)
end_is_meant unit keep steps means end ReadFault can same so = so
end_is_meant unit keep steps means end WriteFault can same so = so
