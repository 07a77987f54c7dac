-- A run that ends in no trap is the same in a memory that differs in text which it cannot read, where it fetches the same code.
use Rattle.std.proofs.Common.{◌≡◌, ℕ, zero, suc, ◌-◌, ◌%◌, Bool, true, false, not, ◌&&◌, ◌||◌, cond, eqb, List, [], ◌∷◌, Option, Some, Result, Ok, Err, refl, sym, ◌∙◌, ap, subst, arith}
use Rattle.std.specs.Prelude.{ℤ, nat_eq, nat_lt, ◌==◌}
use Rattle.std.specs.List.{AllByRecursion}
use Rattle.std.specs.Int.{w8, w16, w32}
use Rattle.std.proofs.lemmas.Bool.Decides.{nat_tests}
use Rattle.pw_base.specs.Bytes.{le_bytes}
use Rattle.pw_isa.specs.declared.instruction.Inst.{Inst}
use Rattle.pw_isa.specs.declared.instruction.Inst.TheVariants.{Jal, Jalr, Beq, Bne, Blt, Bge, Bltu, Bgeu, Lb, Lh, Lw, Ld, Lbu, Lhu, Lwu, Sb, Sh, Sw, Sd, Ecall, Ebreak}
use Rattle.pw_mem.specs.Regions.{written}
use Rattle.pw_mem.specs.Memory.{Mem, with_regions, load, store}
use Rattle.pw_mem.specs.declared.errors.Access.{Access}
use Rattle.pw_mem.specs.declared.errors.Access.TheVariants.{Misaligned, Unmapped, Denied}
use Rattle.pw_mem.proofs.Writes.{stores_write}
use Rattle.pw_hart.specs.declared.ends.End.{End}
use Rattle.pw_hart.specs.declared.ends.End.TheVariants.{Trap}
use Rattle.pw_hart.specs.Bits.{bits64, sign_extend64, zero_extend}
use Rattle.pw_hart.specs.Integer.{add, is_less_signed}
use Rattle.pw_hart.specs.State.{MachineState, Next, Goes, Ends, get, set, following}
use Rattle.pw_hart.specs.Exec.{exec, takes_step, jumps, goes_back, branches_on, branches_if, effective, loaded, loads_from, stored, stores_to, takes_input, calls_environment, is_fault_kind}
use Rattle.pw_hart.specs.Run.{run, step, fetching, then}
use Rattle.pw_simulation.specs.Moments.{IsCode}
use Rattle.pw_simulation.specs.AnyRuns.{RunAlike}
use Rattle.pw_simulation.proofs.AlikeMemories.{AreLike, HasCode, load_same, store_same, written_alike, code_stays}

-- a state with another memory
abbrev pub over : Mem → MachineState → MachineState
over m s = record s { mem = m }

-- an end that is no trap
abbrev pub IsNoTrap : End → Type 0
IsNoTrap end = (cause pc value : ℕ) → end ≡ Trap cause pc value → ⊥

-- two memories with a code, which differ in text that cannot be read
pub record AreAlike (code : ℕ → Option Inst) (m n : Mem) : Type 0 where
  pub here : HasCode code m
  pub there : HasCode code n
  pub like : AreLike m.regions n.regions

-- ---- one instruction

module _ (code : ℕ → Option Inst) where
  -- what an instruction leaves in one memory it leaves in the other, unless it traps
  abbrev IsAlike : (one other : Next) → Type 0
  IsAlike (Goes s) other = (m : Mem) × AreAlike code s.mem m × (other ≡ Goes (over m s))
  IsAlike (Ends end s) other = IsNoTrap end → (m : Mem) × (other ≡ Ends end (over m s))

  by_test : (t : Bool) (a b c d : Next) → IsAlike a c → IsAlike b d → IsAlike (cond t a b) (cond t c d)
  by_test true a b c d h k = h
  by_test false a b c d h k = k

  module _ (n : Mem) where
    alike_takes : (counted : Bool) (left target : ℕ) (x : ℕ → ℕ) (s : MachineState) → AreAlike code s.mem n
        → IsAlike (takes_step counted left target x s) (takes_step counted left target x (over n s))
    alike_takes false left target x s a = (n, a, refl)
    alike_takes true zero target x s a = λ ends_well. (n, refl)
    alike_takes true (suc left) target x s a = (n, a, refl)

    alike_jumps : (counted : Bool) (target : ℕ) (x : ℕ → ℕ) (s : MachineState) → AreAlike code s.mem n → IsAlike (jumps counted target x s) (jumps counted target x (over n s))
    alike_jumps counted target x s a =
        by_test (eqb (target % 4) 0) (takes_step counted s.steps target x s) (Ends (Trap 0 s.pc target) s) (takes_step counted s.steps target x (over n s)) (Ends (Trap 0 s.pc target) (over n s))
        (alike_takes counted s.steps target x s a) (λ ends_well. (n, refl))

    alike_if : (taken : Bool) (imm : ℤ) (s : MachineState) → AreAlike code s.mem n → IsAlike (branches_if taken imm s) (branches_if taken imm (over n s))
    alike_if true imm s a = let target = add s.pc (bits64 imm) in alike_jumps (goes_back target s) target s.x s a
    alike_if false imm s a = (n, a, refl)

    alike_branches : (test : ℕ → ℕ → Bool) (rs1 rs2 : ℕ) (imm : ℤ) (s : MachineState) → AreAlike code s.mem n
        → IsAlike (branches_on test rs1 rs2 imm s) (branches_on test rs1 rs2 imm (over n s))
    alike_branches test rs1 rs2 imm s a = alike_if (test (get s.x rs1) (get s.x rs2)) imm s a

    alike_loaded : (extend : ℕ → ℕ) (rd at : ℕ) (s : MachineState) (one other : Result ℕ Access) → AreAlike code s.mem n → ((v : ℕ) → one ≡ Ok v → other ≡ Ok v)
        → IsAlike (loaded extend rd at s one) (loaded extend rd at (over n s) other)
    alike_loaded extend rd at s (Ok v) other a same = (n, a, ap (loaded extend rd at (over n s)) (same v refl))
    alike_loaded extend rd at s (Err Misaligned) other a same = λ ends_well. absurd (ends_well 4 s.pc at refl)
    alike_loaded extend rd at s (Err Unmapped) other a same = λ ends_well. absurd (ends_well 5 s.pc at refl)
    alike_loaded extend rd at s (Err Denied) other a same = λ ends_well. absurd (ends_well 5 s.pc at refl)

    alike_loads : (extend : ℕ → ℕ) (width rd rs1 : ℕ) (imm : ℤ) (s : MachineState) → AreAlike code s.mem n
        → IsAlike (loads_from extend width rd rs1 imm s) (loads_from extend width rd rs1 imm (over n s))
    alike_loads extend width rd rs1 imm s a =
        let at = effective rs1 imm s in
        alike_loaded extend rd at s (load s.mem at width) (load n at width) a (λ v e. load_same s.mem n at width v a.like e)

    alike_stored : (at width value : ℕ) (s : MachineState) (one : Result Mem Access) → store s.mem at width value ≡ one → AreAlike code s.mem n
        → IsAlike (stored at s one) (stored at (over n s) (store n at width value))
    alike_stored at width value s (Ok m) e a =
        let after : Mem = with_regions n (written n.regions at (le_bytes width value)) in
        let other : store n at width value ≡ Ok after = store_same s.mem n m at width value a.like (a.there.sealed ∙ sym a.here.sealed) e in
        let is = (stores_write s.mem m at width value e).is in
        let alike : AreAlike code m after = record {
          here = code_stays code s.mem m at width value a.here e;
          there = code_stays code n after at width value a.there other;
          like = subst (λ k. AreLike k.regions after.regions) (sym is) (written_alike s.mem.regions n.regions at (le_bytes width value) a.like);
        } in (after, alike, ap (stored at (over n s)) other)
    alike_stored at width value s (Err Misaligned) e a = λ ends_well. absurd (ends_well 6 s.pc at refl)
    alike_stored at width value s (Err Unmapped) e a = λ ends_well. absurd (ends_well 7 s.pc at refl)
    alike_stored at width value s (Err Denied) e a = λ ends_well. absurd (ends_well 7 s.pc at refl)

    alike_stores : (width rs1 rs2 : ℕ) (imm : ℤ) (s : MachineState) → AreAlike code s.mem n → IsAlike (stores_to width rs1 rs2 imm s) (stores_to width rs1 rs2 imm (over n s))
    alike_stores width rs1 rs2 imm s a = alike_stored (effective rs1 imm s) width (get s.x rs2) s (store s.mem (effective rs1 imm s) width (get s.x rs2)) refl a

    alike_input : (input : List ℕ) (s : MachineState) → AreAlike code s.mem n → IsAlike (takes_input input s) (takes_input input (over n s))
    alike_input [] s a = (n, a, refl)
    alike_input (byte ∷ rest) s a = (n, a, refl)

    alike_environment : (number : ℕ) (s : MachineState) → AreAlike code s.mem n → IsAlike (calls_environment number s) (calls_environment number (over n s))
    alike_environment number s a =
        by_test (eqb number 93) _ _ _ _ (λ ends_well. (n, refl)) (by_test (eqb number 1024) _ _ _ _ (alike_input s.input s a)
        (by_test (eqb number 1025) _ _ _ _ (n, a, refl) (by_test (eqb number 1026 && is_fault_kind (get s.x 10)) _ _ _ _ (λ ends_well. (n, refl)) (λ ends_well. (n, refl)))))

    alike_exec : (i : Inst) (s : MachineState) → AreAlike code s.mem n → IsAlike (exec i s) (exec i (over n s))
    alike_exec (Jal rd imm) s a =
        let target = add s.pc (bits64 imm) in alike_jumps (eqb rd 1 || goes_back target s) target (set s.x rd (following s)) s a
    alike_exec (Jalr rd rs1 imm) s a =
        let target = effective rs1 imm s - effective rs1 imm s % 2 in
        alike_jumps (eqb rd 1 || (not (eqb rd 0) && goes_back target s)) target (set s.x rd (following s)) s a
    alike_exec (Beq rs1 rs2 imm) s a = alike_branches nat_eq rs1 rs2 imm s a
    alike_exec (Bne rs1 rs2 imm) s a = alike_branches (λ b c. not (b == c)) rs1 rs2 imm s a
    alike_exec (Blt rs1 rs2 imm) s a = alike_branches is_less_signed rs1 rs2 imm s a
    alike_exec (Bltu rs1 rs2 imm) s a = alike_branches nat_lt rs1 rs2 imm s a
    alike_exec (Bge rs1 rs2 imm) s a = alike_branches (λ b c. not (is_less_signed b c)) rs1 rs2 imm s a
    alike_exec (Bgeu rs1 rs2 imm) s a = alike_branches (λ b c. not (nat_lt b c)) rs1 rs2 imm s a
    alike_exec (Ld rd rs1 imm) s a = alike_loads (λ value. value) 8 rd rs1 imm s a
    alike_exec (Lw rd rs1 imm) s a = alike_loads (sign_extend64 w32) 4 rd rs1 imm s a
    alike_exec (Lwu rd rs1 imm) s a = alike_loads (zero_extend w32) 4 rd rs1 imm s a
    alike_exec (Lh rd rs1 imm) s a = alike_loads (sign_extend64 w16) 2 rd rs1 imm s a
    alike_exec (Lhu rd rs1 imm) s a = alike_loads (zero_extend w16) 2 rd rs1 imm s a
    alike_exec (Lb rd rs1 imm) s a = alike_loads (sign_extend64 w8) 1 rd rs1 imm s a
    alike_exec (Lbu rd rs1 imm) s a = alike_loads (zero_extend w8) 1 rd rs1 imm s a
    alike_exec (Sd rs1 rs2 imm) s a = alike_stores 8 rs1 rs2 imm s a
    alike_exec (Sw rs1 rs2 imm) s a = alike_stores 4 rs1 rs2 imm s a
    alike_exec (Sh rs1 rs2 imm) s a = alike_stores 2 rs1 rs2 imm s a
    alike_exec (Sb rs1 rs2 imm) s a = alike_stores 1 rs1 rs2 imm s a
    alike_exec Ebreak s a = λ ends_well. (n, refl)
    alike_exec Ecall s a = alike_environment (get s.x 17) s a
    alike_exec _ s a = (n, a, refl)

  -- ---- runs

  code_step : (m : Mem) (s : MachineState) (i : Inst) → s.mem ≡ m → HasCode code m → code s.pc ≡ Some i → step s ≡ exec i s
  code_step m s i is has here = let f = has.text s.pc i here in rw (is, f.fetched, f.reads) refl

  module _ (P : ℕ → Type 0) (whole : (at : ℕ) → P at → at % 4 ≡ 0 → IsCode code at) where
    next_alike : (k at : ℕ) → ((u : MachineState) (m : Mem) → AreAlike code u.mem m → AllByRecursion P (run k u).fetched → IsNoTrap (run k u).end → RunAlike (run k u) (run k (over m u)))
        → (one other : Next) → IsAlike one other → AllByRecursion P (then (run k) one).fetched → IsNoTrap (then (run k) one).end
        → RunAlike (fetching at (then (run k) one)) (fetching at (then (run k) other))
    next_alike k at again (Goes u) other a all ends_well =
        let r = again u a.0 a.1 all ends_well in
        subst (λ next. RunAlike (fetching at (run k u)) (fetching at (then (run k) next))) (sym a.2)
        (record { end = r.end; fetched = ap (λ ps. at ∷ ps) r.fetched; output = r.output; input = r.input })
    next_alike k at again (Ends end u) other a all ends_well =
        let e = a ends_well in
        subst (λ next. RunAlike (fetching at (then (run k) (Ends end u))) (fetching at (then (run k) next))) (sym e.1) (record { end = refl; fetched = refl; output = refl; input = refl })

    -- what is fetched in no trap stands at a multiple of 4
    even_by : (k : ℕ) (s : MachineState) → IsNoTrap (run (suc k) s).end → (t : Bool) → eqb (s.pc % 4) 0 ≡ t → s.pc % 4 ≡ 0
    even_by k s ends_well true e = grind (arith, nat_tests)
    even_by k s ends_well false e = absurd (ends_well 1 s.pc s.pc (rw e refl))

    pub run_alike : (k : ℕ) (s : MachineState) (n : Mem) → AreAlike code s.mem n → AllByRecursion P (run k s).fetched → IsNoTrap (run k s).end → RunAlike (run k s) (run k (over n s))
    run_alike zero s n a all ends_well = record { end = refl; fetched = refl; output = refl; input = refl }
    run_alike (suc k) s n a all ends_well =
        let c = whole s.pc all.0 (even_by k s ends_well (eqb (s.pc % 4) 0) refl) in
        let one : step s ≡ exec c.inst s = code_step s.mem s c.inst refl a.here c.there in
        let other : step (over n s) ≡ exec c.inst (over n s) = code_step n (over n s) c.inst refl a.there c.there in
        let alike : IsAlike (step s) (step (over n s)) = subst (λ next. IsAlike next (step (over n s))) (sym one) (subst (λ next. IsAlike (exec c.inst s) next) (sym other) (alike_exec n c.inst s a)) in
        next_alike k s.pc (run_alike k) (step s) (step (over n s)) alike all.1 ends_well
