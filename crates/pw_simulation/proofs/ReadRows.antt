-- The rows that read: a constant, a local, a variable, a function's name, and a byte of the input.
use Rattle.std.proofs.Common.{◌≡◌, ◌≢◌, ℕ, suc, ◌+◌, ◌-◌, ◌*◌, ◌%◌, ◌^◌, ◌<◌, ◌≤◌, Bool, true, false, List, [], ◌∷◌, ◌++◌, Some, refl, sym, ◌∙◌, ap, subst, arith, pos, Option, None}
use Rattle.pw_isa.specs.declared.instruction.Inst.TheVariants.{Ld}
use Rattle.pw_tree.specs.declared.ty.Ty.{Ty}
use Rattle.pw_tree.specs.declared.ty.Ty.TheVariants.{Fn}
use Rattle.pw_tree.specs.declared.ty.Sig.{Sig}
use Rattle.pw_tree.specs.declared.ty.Ref.{Ref}
use Rattle.pw_tree.specs.Types.{pointer_to}
use Rattle.pw_tree.specs.Meaning.{named_in, definition_or_first}
use Rattle.pw_tree.specs.States.{Value, pointer, State, Locals, Outcome, gives, value_or_zero, with_input}
use Rattle.pw_tree.specs.States as values
use Rattle.pw_tree.specs.WellTypedExpressions.{Class, number, class_of, IsKnown}
use Rattle.std.specs.Prelude.{slice_get}
use Rattle.pw_hart.specs.Bits.{bits64}
use Rattle.pw_hart.specs.Integer.{add}
use Rattle.pw_hart.specs.State.{MachineState, get, set}
use Rattle.pw_code.specs.Items.{instruction, address, size}
use Rattle.pw_code.specs.Frames.{local_slot}
use Rattle.pw_code.specs.LoadImmediate.{load_immediate}
use Rattle.pw_simulation.specs.World.{World, entity_place}
use Rattle.pw_simulation.specs.Values.{Represents, PointsTo, IsElement}
use Rattle.pw_simulation.specs.Sees.{Sees}
use Rattle.pw_simulation.specs.Bodies.{Body, HasFrame, MeansVariable, MeansFunction, Runs}
use Rattle.pw_simulation.proofs.Reach.{reaches_then}
use Rattle.pw_simulation.proofs.Steps.{moves_last, moves_load}
use Rattle.pw_simulation.proofs.Meets.{moved_at}
use Rattle.pw_simulation.proofs.Pieces.{address_runs}
use Rattle.pw_simulation.proofs.Rows.{local_represents, offset_is, code_gives, immediate_computes}

-- a function's name has the type of a pointer
pub record IsPointer (sig : Sig) (ty : Ty) : Type 0 where
  pub parameters : ℕ
  pub is : ty ≡ Fn parameters

pub pointer_class : (sig : Sig) (ty : Ty) (t : Bool) (k : ℕ) → Rattle.std.proofs.Common.cond t (Some (Fn k)) None ≡ Some ty → IsPointer sig ty
pointer_class sig ty true k h = record { parameters = k; is = cc }
pointer_class sig ty false k h = cc

module _ (w : World) (sees : Sees w) (b : Body) (frame : HasFrame w b) (known : List ℕ) (locals : Locals) (n h : ℕ) where
  -- a constant
  pub constant_row : (value : ℕ) → value < 2 ^ 64 → Runs w b known locals n h number (load_immediate 10 value) (gives (values.number value))
  constant_row v small st s r here =
      code_gives w sees b frame h number (load_immediate 10 v) (values.number v) v st s r.at here.code_at (immediate_computes w sees b frame v s.x small) (refl, small)

  -- a local
  pub local_row : (ty : Ty) (i : ℕ) → IsKnown known i → slice_get b.classes i ≡ Some (class_of ty)
      → Runs w b known locals n h (class_of ty) (instruction (Ld 10 2 (local_slot i)) ∷ []) (gives (value_or_zero ty (locals i)))
  unfolding size
  local_row ty i is_known is_class st s r here =
      let l = r.carried i (class_of ty) is_known is_class in
      let few = frame.few in
      let below = l.below in
      let t : MachineState = record s { x = set s.x 10 l.word; pc = s.pc + 4 } in
      let go = moves_load w sees.apart s 10 2 (local_slot i) (b.stack_pointer + 8 * i) l.word r.at.ready here.code_at.0
      (offset_is w sees b frame s (8 * i) r.at.stack (omega arith)) l.is in
      record {
        end = t;
        reaches = moves_last w s t go;
        at = moved_at w b.stack_pointer b.calls_left st s (set s.x 10 l.word) (s.pc + 4) r.at refl refl;
        keeps = λ _ _. refl;
        holds = (refl, local_represents w ty (locals i) l.word l.represents);
      }

  -- a variable
  pub variable_row : (name : Ref) (c : Class) → MeansVariable w b name None c
      → Runs w b known locals n h c (address 5 name ∷ instruction (Ld 10 5 (pos 0)) ∷ []) (λ st. gives (st.variables (named_in w.project b.self.in_module b.self.in_unit name) 0) st)
  unfolding size
  variable_row name c means st s r here =
      let brought = address_runs w sees.apart b.self.in_module b.self.in_unit 4 name s r.at.ready here.code_at.0 in
      let s1 : MachineState = record s { x = brought.registers; pc = s.pc + 8 } in
      let is_it : named_in w.project b.self.in_module b.self.in_unit name ≡ means.d = ap definition_or_first means.found in
      let element : IsElement w means.d 0 means.variable = record { there = means.there; below = let room = means.room_is in omega arith } in
      let place = sees.element_places means.d 0 means.variable element in
      let carried = r.at.variables means.d 0 means.variable element in
      let base : brought.registers 5 ≡ w.variable_place means.d = brought.puts.is ∙ ap (entity_place w) means.found in
      let to : add (get brought.registers 5) (bits64 (pos 0)) ≡ w.variable_place means.d + 8 * 0 =
      let below = place.below in let low = frame.low in let high = frame.high in let top = sees.apart.stack_is_low in omega (arith, base) in
      let t : MachineState = record s1 { x = set s1.x 10 carried.word; pc = s1.pc + 4 } in
      let go = moves_load w sees.apart s1 10 5 (pos 0) (w.variable_place means.d + 8 * 0) carried.word r.at.ready here.code_at.1.0 to carried.is in
      record {
        end = t;
        reaches = reaches_then w.code w.words 2 1 s s1 t brought.reaches (moves_last w s1 t go);
        at = moved_at w b.stack_pointer b.calls_left st s t.x t.pc r.at (brought.puts.others 2 two) (brought.puts.others 9 nine);
        keeps = λ _ _. refl;
        holds = (omega arith, subst (λ d. Represents w c (st.variables d 0) carried.word) (sym is_it) (subst (λ k. Represents w k (st.variables means.d 0) carried.word) means.class_is carried.represents));
      }
    where
      two : ◌≢◌ {A = ℕ} 2 5
      two e = cc

      nine : ◌≢◌ {A = ℕ} 9 5
      nine e = cc

  -- a function's name
  pub designator_row : (name : Ref) (ty : Ty) (sig : Sig) → MeansFunction w b name sig → pointer_to sig ≡ Some ty
      → Runs w b known locals n h (class_of ty) (address 10 name ∷ []) (gives (pointer (named_in w.project b.self.in_module b.self.in_unit name)))
  unfolding size
  designator_row name ty sig means is_pointer st s r here =
      let brought = address_runs w sees.apart b.self.in_module b.self.in_unit 9 name s r.at.ready here.code_at.0 in
      let is_it : named_in w.project b.self.in_module b.self.in_unit name ≡ means.d = ap definition_or_first means.found in
      let p : IsPointer sig ty = pointer_class sig ty _ _ is_pointer in
      let points : PointsTo w p.parameters means.d (brought.registers 10) = record {
        is = brought.puts.is ∙ ap (entity_place w) means.found;
        kept = means.kept;
        callee = means.callee;
        there = means.there;
        type = means.pointer_is ∙ is_pointer ∙ ap Some p.is;
      } in
      record {
        end = record s { x = brought.registers; pc = s.pc + 8 };
        reaches = brought.reaches;
        at = moved_at w b.stack_pointer b.calls_left st s brought.registers (s.pc + 8) r.at (brought.puts.others 2 two) (brought.puts.others 9 nine);
        keeps = λ _ _. refl;
        holds = (
          refl,
          subst (λ (q : Ty). Represents w (class_of q) (pointer (named_in w.project b.self.in_module b.self.in_unit name)) (brought.registers 10)) (sym p.is)
              (subst (λ d. PointsTo w p.parameters d (brought.registers 10)) (sym is_it) points),
        );
      }
    where
      two : ◌≢◌ {A = ℕ} 2 10
      two e = cc

      nine : ◌≢◌ {A = ℕ} 9 10
      nine e = cc
