-- The rows of input and output.
use Rattle.std.proofs.Common.{◌≡◌, ℕ, ◌+◌, ◌%◌, ◌<◌, List, [], ◌∷◌, ◌++◌, refl, sym, ◌∙◌, ap, subst, arith, pos}
use Rattle.std.specs.List.{AllByRecursion}
use Rattle.pw_isa.specs.declared.instruction.Inst.TheVariants.{Addi, Ecall}
use Rattle.pw_tree.specs.States.{Value, null, pointer, as_number, State, Locals, Outcome, gives, and_then, with_input, with_output}
use Rattle.pw_tree.specs.States as values
use Rattle.pw_tree.specs.Evaluation.{next_byte}
use Rattle.pw_tree.specs.WellTypedExpressions.{nothing, number}
use Rattle.pw_hart.specs.Bits.{all_ones}
use Rattle.pw_hart.specs.State.{MachineState, set, Goes}
use Rattle.pw_hart.specs.Exec.{exec, takes_input}
use Rattle.pw_code.specs.Items.{CodePart, instruction, size}
use Rattle.pw_simulation.specs.World.{World}
use Rattle.pw_simulation.specs.Moments.{IsAt, Meets}
use Rattle.pw_simulation.specs.Sees.{Sees}
use Rattle.pw_simulation.specs.Bodies.{Body, HasFrame, IsUntouched, Stands, GivesValue, Runs}
use Rattle.pw_simulation.proofs.Steps.{step_is, following_is, Moves, moves_then, moves_last, moves_on}
use Rattle.pw_simulation.proofs.Meets.{moved_at}
use Rattle.pw_simulation.proofs.Sequences.{Follows, part_row}

module _ (w : World) (sees : Sees w) (b : Body) (frame : HasFrame w b) (known : List ℕ) (locals : Locals) (n h : ℕ) where
  -- the input, by what is left of it
  input_by : (input : List ℕ) (st : State) (s : MachineState) → IsAt w b.stack_pointer b.calls_left st s → Stands w b s.pc (instruction (Addi 17 0 (pos 1024)) ∷ instruction Ecall ∷ []) → s.input ≡ input
      → Meets w (IsUntouched b h) b.stack_pointer b.calls_left 2 (GivesValue w number (s.pc + 8)) (next_byte input st) s
  input_by [] st s at here e =
      let s1 : MachineState = record s { x = set s.x 17 1024; pc = s.pc + 4 } in
      let go1 : Moves w s s1 = moves_on w sees.apart s (Addi 17 0 (pos 1024)) (set s.x 17 1024) at.ready here.code_at.0 refl in
      let s2 : MachineState = record s1 { x = set s1.x 10 all_ones; pc = s1.pc + 4 } in
      let go2 : Moves w s1 s2 = moves_on w sees.apart s1 Ecall (set s1.x 10 all_ones) at.ready here.code_at.1.0 (ap (λ i. takes_input i s1) e) in
      record {
        end = s2;
        reaches = moves_then w 1 s s1 s2 go1 (moves_last w s1 s2 go2);
        at = moved_at w b.stack_pointer b.calls_left st s s2.x s2.pc at refl refl;
        keeps = λ _ _. refl;
        holds = (omega arith, (refl, omega arith));
      }
  input_by (byte ∷ rest) st s at here e =
      let left : st.input ≡ byte ∷ rest = sym at.input ∙ e in
      let small : AllByRecursion (λ k. k < 256) (byte ∷ rest) = subst (λ i. AllByRecursion (λ k. k < 256) i) left at.bytes in
      let s1 : MachineState = record s { x = set s.x 17 1024; pc = s.pc + 4 } in
      let go1 : Moves w s s1 = moves_on w sees.apart s (Addi 17 0 (pos 1024)) (set s.x 17 1024) at.ready here.code_at.0 refl in
      let s2 : MachineState = record s1 { x = set s1.x 10 byte; pc = s1.pc + 4; input = rest } in
      let does : exec Ecall s1 ≡ Goes s2 = ap (λ i. takes_input i s1) e ∙ ap (λ p. Goes (record s1 { x = set s1.x 10 byte; pc = p; input = rest })) (following_is w sees.apart s1 Ecall here.code_at.1.0) in
      let go2 : Moves w s1 s2 = record { here = record { inst = Ecall; there = here.code_at.1.0 }; goes = step_is w s1 Ecall at.ready here.code_at.1.0 ∙ does; same = refl } in
      record {
        end = s2;
        reaches = moves_then w 1 s s1 s2 go1 (moves_last w s1 s2 go2);
        at = record {
          ready = at.ready;
          variables = at.variables;
          stack = at.stack;
          register = at.register;
          calls = at.calls;
          few = at.few;
          steps = at.steps;
          input = refl;
          output = at.output;
          bytes = small.1;
        };
        keeps = λ _ _. refl;
        holds = (omega arith, (refl, let few = small.0 in omega arith));
      }

  pub input_row : Runs w b known locals n h number (instruction (Addi 17 0 (pos 1024)) ∷ instruction Ecall ∷ []) (λ st. next_byte st.input st)
  unfolding size
  input_row st s r here = input_by st.input st s r.at here r.at.input

  output_follows : Follows w sees b frame known locals n h number nothing (instruction (Addi 17 0 (pos 1025)) ∷ instruction Ecall ∷ []) (λ x st. gives (values.number 0) (with_output (as_number x) st))
  unfolding size
  output_follows (values.number m) st s r stands_for here =
      let s1 : MachineState = record s { x = set s.x 17 1025; pc = s.pc + 4 } in
      let go1 : Moves w s s1 = moves_on w sees.apart s (Addi 17 0 (pos 1025)) (set s.x 17 1025) r.at.ready here.code_at.0 refl in
      let s2 : MachineState = record s1 { output = s1.output ++ (s1.x 10 % 256 ∷ []); pc = s1.pc + 4 } in
      let does : exec Ecall s1 ≡ Goes s2 = ap (λ p. Goes (record s1 { output = s1.output ++ (s1.x 10 % 256 ∷ []); pc = p })) (following_is w sees.apart s1 Ecall here.code_at.1.0) in
      let go2 : Moves w s1 s2 = record { here = record { inst = Ecall; there = here.code_at.1.0 }; goes = step_is w s1 Ecall r.at.ready here.code_at.1.0 ∙ does; same = refl } in
      record {
        end = s2;
        reaches = moves_then w 1 s s1 s2 go1 (moves_last w s1 s2 go2);
        at = record {
          ready = r.at.ready;
          variables = r.at.variables;
          stack = r.at.stack;
          register = r.at.register;
          calls = r.at.calls;
          few = r.at.few;
          steps = r.at.steps;
          input = r.at.input;
          output = ap (λ o. o ++ (s1.x 10 % 256 ∷ [])) r.at.output ∙ ap (λ v. st.output ++ (v % 256 ∷ [])) stands_for.0;
          bytes = r.at.bytes;
        };
        keeps = λ _ _. refl;
        holds = (omega arith, tt);
      }
  output_follows null st s r stands_for here = absurd stands_for
  output_follows (pointer f) st s r stands_for here = absurd stands_for

  pub output_row : (code : List CodePart) (f : State → Outcome Value) → Runs w b known locals n h number code f
      → Runs w b known locals n h nothing (code ++ instruction (Addi 17 0 (pos 1025)) ∷ instruction Ecall ∷ []) (λ st. and_then (f st) (λ x st. gives (values.number 0) (with_output (as_number x) st)))
  output_row code f runs = part_row w sees b frame known locals n h number nothing code (instruction (Addi 17 0 (pos 1025)) ∷ instruction Ecall ∷ []) f (λ x st. gives (values.number 0) (with_output (as_number x) st)) runs output_follows
