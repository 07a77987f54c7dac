-- Short pieces of code: register by register, an address, and a checked fault.
use Rattle.std.proofs.Common.{◌≡◌, ◌≢◌, ℕ, suc, ◌+◌, ◌*◌, ◌^◌, ◌<◌, ◌≤◌, true, List, [], ◌∷◌, ◌++◌, Some, refl, ◌∙◌, ap, subst, arith, pos}
use Rattle.pw_isa.specs.declared.instruction.Inst.TheVariants.{Auipc, Addi, Ecall}
use Rattle.pw_isa.specs.Registers.{a0, a1, a7}
use Rattle.pw_tree.specs.declared.ty.Ref.{Ref}
use Rattle.pw_tree.specs.declared.ty.Ref.TheVariants.{Global, LocalFun, LocalVar}
use Rattle.pw_tree.specs.Names.{Definition}
use Rattle.pw_tree.specs.States.{State, Fault, index, division, null_call, depth, checked}
use Rattle.pw_hart.specs.declared.ends.End.TheVariants.{Checked}
use Rattle.pw_hart.specs.Bits.{bits64}
use Rattle.pw_hart.specs.Integer.{add}
use Rattle.pw_hart.specs.State.{MachineState, Ends, set, goes_on}
use Rattle.pw_hart.specs.Exec.{exec, upper, is_fault_kind}
use Rattle.pw_code.specs.Items.{CodePart, instruction, address, size}
use Rattle.pw_code.specs.LoadImmediate.{load_immediate}
use Rattle.pw_code.specs.Pieces.{fault}
use Rattle.pw_code.proofs.Exports.{size-append}
use Rattle.pw_simulation.specs.World.{World, IsApart, reference_place, target_place}
use Rattle.pw_simulation.specs.CodeAt.{Brings, HasAt}
use Rattle.pw_simulation.specs.Memories.{IsReady}
use Rattle.pw_simulation.specs.Straight.{Puts}
use Rattle.pw_simulation.specs.Moments.{IsAt, Reaches, IsInside, kind_of, Halts}
use Rattle.pw_simulation.proofs.Straight.{effects, exec_effect, begins}
use Rattle.pw_simulation.proofs.LoadImmediate.{leaves_immediate, get_set, puts_set, puts_again}
use Rattle.pw_simulation.proofs.Reach.{reaches_here, reaches_then}
use Rattle.pw_simulation.proofs.Placed.{has_prefix, has_rest}
use Rattle.pw_simulation.proofs.Steps.{step_is, Moves, moves_then, moves_last, moves_on, moves_load}

-- the state after code that changes registers alone
abbrev pub after_code : MachineState → List CodePart → (ℕ → ℕ) → MachineState
after_code s code x = record s { x = x; pc = s.pc + 4 * size code }

two_words : size (instruction (Addi a7 0 (pos 1026)) ∷ instruction Ecall ∷ []) ≡ 2
unfolding size
two_words = refl

kinds_are_known : (f : Fault) → is_fault_kind (kind_of f) ≡ true
kinds_are_known index = refl
kinds_are_known division = refl
kinds_are_known null_call = refl
kinds_are_known depth = refl

module _ (w : World) (apart : IsApart w) where
  -- register by register
  pub straight_runs : (m u : ℕ) (code : List CodePart) (s : MachineState) (x : ℕ → ℕ) → IsReady w s.mem → HasAt w m u s.pc code → effects code s.x ≡ Some x
      → Reaches w.code w.words (size code) s (after_code s code x)
  unfolding size
  straight_runs m u [] s x r here h =
      let e : s.x ≡ x = cc in
      let at : s.pc ≡ s.pc + 4 * 0 = omega arith in
      subst (λ y. Reaches w.code w.words 0 s (record s { x = y; pc = s.pc + 4 * 0 })) e
      (subst (λ p. Reaches w.code w.words 0 s (record s { pc = p })) at (reaches_here w.code w.words s))
  straight_runs m u (instruction i ∷ code) s x r here h =
      let b = begins i code s.x x h in
      let t : MachineState = record s { x = b.between; pc = s.pc + 4 } in
      let go : Moves w s t = moves_on w apart s i b.between r here.0 (exec_effect i s b.between b.first) in
      let next : s.pc + 4 + 4 * size code ≡ s.pc + 4 * (1 + size code) = omega arith in
      subst (λ p. Reaches w.code w.words (1 + size code) s (record s { x = x; pc = p })) next
      (moves_then w (size code) s t (after_code t code x) go (straight_runs m u code t x r here.1 b.others))
  straight_runs m u (address rd to ∷ code) s x r here h = cc

  -- where a pair of instructions has brought what a name means
  pub record Brought (m u r : ℕ) (to : Ref) (s : MachineState) : Type 0 where
    pub registers : ℕ → ℕ
    pub puts : Puts (suc r) (reference_place w m u to) s.x registers
    pub reaches : Reaches w.code w.words 2 s (record s { x = registers; pc = s.pc + 8 })

  -- the first instruction of the pair
  first_of_pair : (m u r : ℕ) (to : Ref) (s : MachineState) → IsReady w s.mem → (b : Brings w m u s.pc (suc r) to)
      → Moves w s (record s { x = set s.x (suc r) (add s.pc (upper b.upper_part)); pc = s.pc + 4 })
  first_of_pair m u r to s ready b = moves_on w apart s (Auipc (suc r) b.upper_part) (set s.x (suc r) (add s.pc (upper b.upper_part))) ready b.first refl

  -- the second adds, or loads
  brought_by_sum : (m u r : ℕ) (to : Ref) (s : MachineState) → IsReady w s.mem → (b : Brings w m u s.pc (suc r) to)
      → w.code (s.pc + 4) ≡ Some (Addi (suc r) (suc r) b.lower_part) → target_place w m u to ≡ reference_place w m u to → Brought m u r to s
  brought_by_sum m u r to s ready b second same =
      let high : ℕ = add s.pc (upper b.upper_part) in
      let t : MachineState = record s { x = set s.x (suc r) high; pc = s.pc + 4 } in
      let sum : add (t.x (suc r)) (bits64 b.lower_part) ≡ reference_place w m u to =
      ap (λ v. add v (bits64 b.lower_part)) (get_set s.x r high) ∙ b.there ∙ same in
      let x : ℕ → ℕ = set t.x (suc r) (reference_place w m u to) in
      let go = moves_on w apart t (Addi (suc r) (suc r) b.lower_part) x ready second (ap (λ v. goes_on (set t.x (suc r) v) t) sum) in
      let at : s.pc + 4 + 4 ≡ s.pc + 8 = omega arith in
      record {
        registers = x;
        puts = puts_again s.x t.x r high (reference_place w m u to) (puts_set s.x r high);
        reaches = subst (λ p. Reaches w.code w.words 2 s (record s { x = x; pc = p })) at
            (moves_then w 1 s t (record t { x = x; pc = t.pc + 4 }) (first_of_pair m u r to s ready b) (moves_last w t (record t { x = x; pc = t.pc + 4 }) go));
      }

  brought_by_load : (m u r : ℕ) (name : List ℕ) (s : MachineState) → IsReady w s.mem → (b : Brings w m u s.pc (suc r) (Global name)) → Brought m u r (Global name) s
  brought_by_load m u r name s ready b =
      let high : ℕ = add s.pc (upper b.upper_part) in
      let t : MachineState = record s { x = set s.x (suc r) high; pc = s.pc + 4 } in
      let place : add (t.x (suc r)) (bits64 b.lower_part) ≡ w.slot_place m name =
      ap (λ v. add v (bits64 b.lower_part)) (get_set s.x r high) ∙ b.there in
      let x : ℕ → ℕ = set t.x (suc r) (reference_place w m u (Global name)) in
      let go = moves_load w apart t (suc r) (suc r) b.lower_part (w.slot_place m name) (reference_place w m u (Global name)) ready b.second place (ready.slots m name b.slot) in
      let at : s.pc + 4 + 4 ≡ s.pc + 8 = omega arith in
      record {
        registers = x;
        puts = puts_again s.x t.x r high (reference_place w m u (Global name)) (puts_set s.x r high);
        reaches = subst (λ p. Reaches w.code w.words 2 s (record s { x = x; pc = p })) at
            (moves_then w 1 s t (record t { x = x; pc = t.pc + 4 }) (first_of_pair m u r (Global name) s ready b) (moves_last w t (record t { x = x; pc = t.pc + 4 }) go));
      }

  -- an address: of a slot's definition, or of the unit's own
  pub address_runs : (m u r : ℕ) (to : Ref) (s : MachineState) → IsReady w s.mem → Brings w m u s.pc (suc r) to → Brought m u r to s
  address_runs m u r (Global name) s ready b = brought_by_load m u r name s ready b
  address_runs m u r (LocalFun i) s ready b = brought_by_sum m u r (LocalFun i) s ready b b.second refl
  address_runs m u r (LocalVar i) s ready b = brought_by_sum m u r (LocalVar i) s ready b b.second refl

  -- an environment call of a checked fault
  ends_checked : (t : MachineState) (kind line : ℕ) → t.x 17 ≡ 1026 → t.x 10 ≡ kind → t.x 11 ≡ line → is_fault_kind kind ≡ true → exec Ecall t ≡ Ends (Checked kind line t.pc) t
  ends_checked t kind line number is_kind is_line known = rw (number, is_kind, is_line, known) refl

  -- a checked fault
  pub fault_halts : (m u stack_pointer c : ℕ) (f : Fault) (line : ℕ) (d : Definition) (st : State) (s : MachineState) → line < 2 ^ 64 → IsAt w stack_pointer c st s
      → HasAt w m u s.pc (fault (kind_of f) line) → ((at : ℕ) → s.pc ≤ at → at < s.pc + 4 * size (fault (kind_of f) line) → IsInside w d at)
      → Halts w (size (fault (kind_of f) line)) (checked f d line) st s
  fault_halts m u stack_pointer c f line d st s small a here inside =
      let kind : ℕ = kind_of f in
      let code : List CodePart = instruction (Addi a0 0 (pos kind)) ∷ load_immediate a1 line in
      let tail : List CodePart = instruction (Addi a7 0 (pos 1026)) ∷ instruction Ecall ∷ [] in
      let l = leaves_immediate 10 line (set s.x 10 (add 0 (bits64 (pos kind)))) small in
      let s1 : MachineState = after_code s code l.registers in
      let reach1 : Reaches w.code w.words (size code) s s1 =
      straight_runs m u code s l.registers a.ready (has_prefix w m u s.pc code tail here) l.is in
      let rest : HasAt w m u s1.pc tail = has_rest w m u s.pc code tail here in
      let s2 : MachineState = record s1 { x = set s1.x 17 1026; pc = s1.pc + 4 } in
      let go2 : Moves w s1 s2 = moves_on w apart s1 (Addi 17 0 (pos 1026)) (set s1.x 17 1026) a.ready rest.0 refl in
      let is_kind : s2.x 10 ≡ kind = l.puts.others 10 ten ∙ kind_is f in
      let all : size (code ++ tail) ≡ size code + 2 = size-append code tail ∙ ap (λ n. size code + n) (tail_size tail refl) in
      record {
        last = s2;
        before = size code + 1;
        room = omega (arith, all);
        reaches = reaches_then w.code w.words (size code) 1 s s1 s2 reach1 (moves_last w s1 s2 go2);
        here = record { inst = Ecall; there = rest.1.0 };
        end = Checked kind line s2.pc;
        after = s2;
        ends = step_is w s2 Ecall a.ready rest.1.0 ∙ ends_checked s2 kind line refl is_kind l.puts.is (kinds_are_known f);
        because = (s2.pc, refl, inside s2.pc (omega arith) (omega (arith, all)));
        input = a.input;
        output = a.output;
      }
    where
      kind_is : (f : Fault) → add 0 (bits64 (pos (kind_of f))) ≡ kind_of f
      kind_is index = refl
      kind_is division = refl
      kind_is null_call = refl
      kind_is depth = refl

      ten : ◌≢◌ {A = ℕ} 10 11
      ten e = cc

      tail_size : (tail : List CodePart) → tail ≡ instruction (Addi a7 0 (pos 1026)) ∷ instruction Ecall ∷ [] → size tail ≡ 2
      tail_size tail e = ap size e ∙ two_words
