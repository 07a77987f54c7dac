-- The rows of calls: by a function's name, and through a pointer.
use Rattle.std.proofs.Common.{◌≡◌, ◌≢◌, ℕ, suc, ◌+◌, ◌*◌, ◌≤◌, List, [], ◌∷◌, ◌++◌, length, map, refl, sym, ◌∙◌, ap, subst, arith, inl, inr, pos, append_assoc}
use Rattle.pw_isa.specs.declared.instruction.Inst.TheVariants.{Jalr}
use Rattle.pw_tree.specs.declared.ty.Ref.{Ref}
use Rattle.pw_tree.specs.declared.ty.Sig.{Sig}
use Rattle.pw_tree.specs.Meaning.{named_in, definition_or_first}
use Rattle.pw_tree.specs.Names.{Definition}
use Rattle.pw_tree.specs.States.{Value, State, Locals, Outcome, and_then}
use Rattle.pw_tree.specs.WellTypedExpressions.{Class, class_of}
use Rattle.pw_hart.specs.State.{MachineState}
use Rattle.pw_code.specs.Items.{CodePart, instruction, address, size}
use Rattle.pw_code.specs.Pieces.{load_held}
use Rattle.pw_code.proofs.Exports.{size-append, size-load_held}
use Rattle.pw_simulation.specs.World.{World, entity_place}
use Rattle.pw_simulation.specs.Values.{Represents}
use Rattle.pw_simulation.specs.Moments.{Reaches, Meets}
use Rattle.pw_simulation.specs.Sees.{Sees}
use Rattle.pw_simulation.specs.Bodies.{Body, HasFrame, IsUntouched, MeansFunction, Stands, GivesValue, Runs}
use Rattle.pw_simulation.specs.Calls.{AreInRegisters, GivesValues, RunsAll, IsCalling, IsAbove, CallsRun}
use Rattle.pw_simulation.proofs.Reach.{reaches_then}
use Rattle.pw_simulation.proofs.Meets.{moved_at, meets_after, meets_then, meets_as}
use Rattle.pw_simulation.proofs.Pieces.{address_runs}
use Rattle.pw_simulation.proofs.Rows.{stands_prefix, stands_rest}
use Rattle.pw_simulation.proofs.Sequences.{meets_equal}
use Rattle.pw_simulation.proofs.ArgumentRows.{loads_held}

-- registers that hold the same
pub registers_same : (w : World) (rd : ℕ) (cs : List Class) (xs : List Value) (x y : ℕ → ℕ) → ((k : ℕ) → rd ≤ k → y k ≡ x k) → AreInRegisters w rd cs xs x → AreInRegisters w rd cs xs y
registers_same w rd [] [] x y same h = tt
registers_same w rd [] (v ∷ vs) x y same h = absurd h
registers_same w rd (c ∷ cs) [] x y same h = absurd h
registers_same w rd (c ∷ cs) (v ∷ vs) x y same h =
    (subst (λ k. Represents w c v k) (sym (same rd (omega arith))) h.0, registers_same w (suc rd) cs vs x y (λ k below. same k (omega arith)) h.1)

call_tail_words : (name : Ref) → size (address 5 name ∷ instruction (Jalr 1 5 (pos 0)) ∷ []) ≡ 3
unfolding size
call_tail_words name = refl

pair_words : (rd : ℕ) (name : Ref) (p : ℕ) → p + 4 * size (address rd name ∷ []) ≡ p + 8
unfolding size
pair_words rd name p = refl

module _ (w : World) (sees : Sees w) (b : Body) (frame : HasFrame w b) (known : List ℕ) (locals : Locals) (n h : ℕ) where
  -- what a call leaves untouched is more than what an expression must
  pub untouched_above : (at : ℕ) → IsUntouched b h at → IsAbove b.stack_pointer at
  untouched_above at (inl u) = u.0
  untouched_above at (inr u) = omega arith

  -- the held arguments are loaded, the address of the function is brought, and it is called
  pub call_row : (calls : Definition → List Value → State → Outcome Value) (name : Ref) (sig : Sig) (arguments : ℕ) (code : List CodePart) (fs : State → Outcome (List Value))
      → CallsRun w calls n → MeansFunction w b name sig → length (map class_of sig.params) ≡ arguments → h + arguments ≤ b.frame.held
      → RunsAll w b known locals n h (map class_of sig.params) code fs
      → Runs w b known locals n h (class_of sig.result) (code ++ load_held b.frame h 10 arguments ++ address 5 name ∷ instruction (Jalr 1 5 (pos 0)) ∷ [])
      (λ st. and_then (fs st) (calls (named_in w.project b.self.in_module b.self.in_unit name)))
  call_row calls name sig arguments code fs calls_run means count few runs_all st s r here =
      meets_equal w sees b frame known locals n h (size code + (size loads + 3)) (size all_code) end end d (and_then (fs st) next) s (sym all) refl
      (meets_then w (IsUntouched b h) (IsUntouched b h) (IsUntouched b h) b.stack_pointer b.calls_left (size code) (size loads + 3)
      (GivesValues w b h (s.pc + 4 * size code) cs) (GivesValue w d end) (fs st) next s (λ _ k. k) (λ _ k. k)
      (runs_all st s r (stands_prefix w b s.pc code (loads ++ tail) whole))
      (λ xs later t at ends keeps down.
      let there = stands_rest w b s.pc t.pc code (loads ++ tail) (sym ends.0) whole in
      let loads_there : Stands w b t.pc (load_held b.frame h 10 (length cs)) = subst (λ k. Stands w b t.pc (load_held b.frame h 10 k)) (sym count) (stands_prefix w b t.pc loads tail there) in
      let l = loads_held w sees b frame known locals n h 9 cs xs later t at (omega arith) (omega (arith, count)) ends.1 loads_there in
      let u : MachineState = record t { x = l.registers; pc = t.pc + 4 * length cs } in
      let at_u = moved_at w b.stack_pointer b.calls_left later t l.registers u.pc at (l.others 2 (omega arith)) (l.others 9 (omega arith)) in
      let tail_there = stands_rest w b t.pc u.pc loads tail (omega (arith, size-load_held b.frame h 10 arguments, count)) there in
      let brought = address_runs w sees.apart b.self.in_module b.self.in_unit 4 name u at_u.ready tail_there.code_at.0 in
      let v : MachineState = record u { x = brought.registers; pc = u.pc + 8 } in
      let at_v = moved_at w b.stack_pointer b.calls_left later u brought.registers v.pc at_u (brought.puts.others 2 two) (brought.puts.others 9 nine) in
      let calling : IsCalling w b.stack_pointer b.calls_left means.d means.callee xs later v = record {
        function = record { there = means.there; kept = means.kept };
        at = at_v;
        room = frame.room;
        high = let high = frame.high in omega arith;
        even = frame.even;
        here = tail_there.code_at.1.0;
        target = brought.puts.is ∙ ap (entity_place w) means.found;
        arguments_are = subst (λ ks. AreInRegisters w 10 ks xs brought.registers) (sym means.parameters_are)
            (registers_same w 10 cs xs l.registers brought.registers (λ k from. brought.puts.others k (above k from)) l.loaded);
      } in
      let steps_few : later.steps ≤ n = let e1 = at.steps in let e2 = r.at.steps in let f = r.fuel in omega arith in
      let called = calls_run b.stack_pointer b.calls_left means.d means.callee xs later v calling steps_few in
      let is_it : means.d ≡ named_in w.project b.self.in_module b.self.in_unit name = sym (ap definition_or_first means.found) in
      let to : v.pc + 4 ≡ end = let e = ends.0 in omega (arith, all, count, size-load_held b.frame h 10 arguments) in
      let reach : Reaches w.code w.words (length cs + 2) t v = reaches_then w.code w.words (length cs) 2 t u v l.reaches brought.reaches in
      let own : length cs + 2 + 1 ≤ size loads + 3 = omega (arith, count, size-load_held b.frame h 10 arguments) in
      meets_as w (IsUntouched b h) b.stack_pointer b.calls_left (length cs + 2 + 1) (size loads + 3) (GivesValue w (class_of means.callee.sig.result) (v.pc + 4)) (GivesValue w d end) (next xs later) t own
      (λ y z g. (g.0 ∙ to, subst (λ c. Represents w c y (z.x 10)) means.result_is g.1))
      (meets_after w (IsUntouched b h) (IsAbove b.stack_pointer) b.stack_pointer b.calls_left (length cs + 2) 1 (GivesValue w (class_of means.callee.sig.result) (v.pc + 4)) (next xs later) t v untouched_above reach (λ _ _. refl)
      (subst (λ g. Meets w (IsAbove b.stack_pointer) b.stack_pointer b.calls_left 1 (GivesValue w (class_of means.callee.sig.result) (v.pc + 4)) (calls g xs later) v) is_it called))))
    where
      cs : List Class
      cs = map class_of sig.params

      d : Class
      d = class_of sig.result

      loads : List CodePart
      loads = load_held b.frame h 10 arguments

      tail : List CodePart
      tail = address 5 name ∷ instruction (Jalr 1 5 (pos 0)) ∷ []

      all_code : List CodePart
      all_code = code ++ loads ++ tail

      next : List Value → State → Outcome Value
      next = calls (named_in w.project b.self.in_module b.self.in_unit name)

      whole : Stands w b s.pc (code ++ (loads ++ tail))
      whole = subst (λ c. Stands w b s.pc c) (append_assoc code loads tail) here

      all : size all_code ≡ size code + (size loads + 3)
      all = ap size (append_assoc code loads tail) ∙ size-append code (loads ++ tail) ∙ ap (λ k. size code + k) (size-append loads tail ∙ ap (λ k. size loads + k) (call_tail_words name))

      end : ℕ
      end = s.pc + 4 * size all_code

      two : ◌≢◌ {A = ℕ} 2 5
      two e = cc

      nine : ◌≢◌ {A = ℕ} 9 5
      nine e = cc

      above : (k : ℕ) → 10 ≤ k → k ≢ 5
      above k from e = omega (arith, e)
