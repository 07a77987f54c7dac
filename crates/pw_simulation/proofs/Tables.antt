-- A code as a table of instructions from a place on, and that the code of a unit stands where its instructions do.
use Rattle.std.proofs.Common.{◌≡◌, ℕ, suc, ◌+◌, ◌-◌, ◌*◌, ◌%◌, ◌^◌, ◌<◌, ◌≤◌, Bool, true, false, cond, eqb, List, [], ◌∷◌, length, Some, None, refl, sym, ◌∙◌, ap, subst, arith, pos, negsuc}
use Rattle.std.specs.Prelude.{◌-ℤ◌, nat_lt, nat_le}
use Rattle.std.specs.List.{AllByRecursion}
use Rattle.std.proofs.lemmas.Int.{ints}
use Rattle.std.proofs.lemmas.Bool.Decides.{nat_tests}
use Rattle.pw_isa.specs.declared.instruction.Inst.{Inst}
use Rattle.pw_isa.specs.declared.instruction.Inst.TheVariants.{Auipc}
use Rattle.pw_tree.specs.declared.ty.Ref.{Ref}
use Rattle.pw_hart.specs.Bits.{bits64}
use Rattle.pw_hart.specs.Integer.{add}
use Rattle.pw_hart.specs.Exec as machine
use Rattle.pw_code.specs.Items.{CodePart, instruction, address, size}
use Rattle.pw_code.specs.LoadImmediate.{upper, lower}
use Rattle.pw_agree.specs.Image.{distance, with_lower}
use Rattle.pw_simulation.specs.World.{World, target_place}
use Rattle.pw_simulation.specs.CodeAt.{HasSlot, HasAt}
use Rattle.pw_simulation.specs.Tables.{instructions_at, in_table}
use Rattle.pw_simulation.proofs.Numbers.{upper_of_small, upper_of_negsuc, lower_of_pos, lower_of_small, lower_of_negsuc, low_bits}

-- ---- a pair of instructions reaches its target

reaches_pos : (place n : ℕ) → place + n < 2 ^ 63 → add (add place (machine.upper (upper (pos n)))) (bits64 (lower (pos n))) ≡ place + n
reaches_pos place n h = rw (lower_of_pos n, low_bits ((n + 2048) % 4096) (omega arith)) (omega arith)

reaches_back : (place n : ℕ) (t : Bool) → nat_lt n 2048 ≡ t → suc n ≤ place → place < 2 ^ 63 → add (add place (machine.upper (upper (negsuc n)))) (bits64 (lower (negsuc n))) ≡ place - suc n
reaches_back place n true test few h =
    let small : n < 2048 = grind (arith, nat_tests) in
    rw (lower_of_small n small, upper_of_small n small, low_bits (2047 - n) (omega arith)) (omega arith)
reaches_back place n false test few h =
    let great : 2048 ≤ n = grind (arith, nat_tests) in
    rw (lower_of_negsuc n great, upper_of_negsuc n great, low_bits (4095 - (n - 2048) % 4096) (omega arith)) (omega arith)

reaches_by : (place to : ℕ) (t : Bool) → nat_le place to ≡ t → place < 2 ^ 63 → to < 2 ^ 63 → add (add place (machine.upper (upper (distance place to)))) (bits64 (lower (distance place to))) ≡ to
reaches_by place to true test hp ht =
    let from : place ≤ to = grind (arith, nat_tests) in
    let d : pos to -ℤ pos place ≡ pos (to - place) = omega (arith, ints) in
    ap (λ v. add (add place (machine.upper (upper v))) (bits64 (lower v))) d ∙ reaches_pos place (to - place) (omega arith) ∙ omega arith
reaches_by place to false test hp ht =
    let before : to < place = grind (arith, nat_tests) in
    let d : pos to -ℤ pos place ≡ negsuc (place - to - 1) = omega (arith, ints) in
    ap (λ v. add (add place (machine.upper (upper v))) (bits64 (lower v))) d ∙ reaches_back place (place - to - 1) (nat_lt (place - to - 1) 2048) refl (omega arith) hp ∙ omega arith

pub pair_reaches : (place to : ℕ) → place < 2 ^ 63 → to < 2 ^ 63 → add (add place (machine.upper (upper (distance place to)))) (bits64 (lower (distance place to))) ≡ to
pair_reaches place to hp ht = reaches_by place to (nat_le place to) refl hp ht

-- ---- tables

-- where an address of a table is
pub record IsInTable (start count at : ℕ) : Type 0 where
  pub from : start ≤ at
  pub to : at < start + 4 * count
  pub even : at % 4 ≡ start % 4

in_table_by : (start : ℕ) (i : Inst) (is : List Inst) (at : ℕ) (j : Inst) (t : Bool) → eqb at start ≡ t → cond t (Some i) (in_table (start + 4) is at) ≡ Some j
    → ((in_table (start + 4) is at ≡ Some j) → IsInTable (start + 4) (length is) at) → IsInTable start (suc (length is)) at
in_table_by start i is at j true test h rest = let same : at ≡ start = grind (arith, nat_tests) in record { from = omega arith; to = omega arith; even = ap (λ k. k % 4) same }
in_table_by start i is at j false test h rest = let r = rest h in record { from = let f = r.from in omega arith; to = let t = r.to in omega arith; even = let e = r.even in omega arith }

pub where_in_table : (start : ℕ) (is : List Inst) (at : ℕ) (j : Inst) → in_table start is at ≡ Some j → IsInTable start (length is) at
where_in_table start [] at j h = cc
where_in_table start (i ∷ is) at j h = in_table_by start i is at j (eqb at start) refl h (where_in_table (start + 4) is at j)

-- before its beginning and after its end a table has nothing
pub not_in_table : (start : ℕ) (is : List Inst) (at : ℕ) → start + 4 * length is ≤ at → in_table start is at ≡ None
not_in_table start [] at h = refl
not_in_table start (i ∷ is) at h =
    let other : eqb at start ≡ false = grind (arith, nat_tests) in rw other (not_in_table (start + 4) is at (omega arith))

in_rest : (start : ℕ) (i : Inst) (is : List Inst) (at : ℕ) (j : Inst) → in_table (start + 4) is at ≡ Some j → in_table start (i ∷ is) at ≡ Some j
in_rest start i is at j h =
    let r = where_in_table (start + 4) is at j h in
    let from = r.from in
    let other : eqb at start ≡ false = grind (arith, nat_tests) in rw other h

-- ---- code in a world

-- the references of some code, in order
abbrev pub references : List CodePart → List Ref
references [] = []
references (instruction i ∷ code) = references code
references (address rd to ∷ code) = to ∷ references code

-- a reference's target is low, and a name has a slot
pub record IsTarget (w : World) (m u : ℕ) (to : Ref) : Type 0 where
  pub low : target_place w m u to < 2 ^ 63
  pub slot : HasSlot w m to

pub table_has : (w : World) (m u : ℕ) (code : List CodePart) (place : ℕ) → place + 4 * size code < 2 ^ 63 → AllByRecursion (IsTarget w m u) (references code)
    → ((at : ℕ) (i : Inst) → in_table place (instructions_at (target_place w m u) place code) at ≡ Some i → w.code at ≡ Some i) → HasAt w m u place code
unfolding size
table_has w m u [] place low targets stands = tt
table_has w m u (instruction i ∷ code) place low targets stands =
    let here : eqb place place ≡ true = grind (arith, nat_tests) in (
      stands place i (rw here refl),
      table_has w m u code (place + 4) (omega arith) targets (λ at j h. stands at j (in_rest place i (instructions_at (target_place w m u) (place + 4) code) at j h)),
    )
table_has w m u (address rd to ∷ code) place low targets stands =
    let v = distance place (target_place w m u to) in
    let first : Inst = Auipc rd (upper v) in
    let second : Inst = with_lower rd to (lower v) in
    let rest : List Inst = instructions_at (target_place w m u) (place + 8) code in
    let here : eqb place place ≡ true = grind (arith, nat_tests) in
    let next : eqb (place + 4) (place + 4) ≡ true = grind (arith, nat_tests) in
    let twice : place + 4 + 4 ≡ place + 8 = omega arith in (
      record {
        upper_part = upper v;
        lower_part = lower v;
        first = stands place first (rw here refl);
        second = stands (place + 4) second (in_rest place first (second ∷ rest) (place + 4) second (rw next refl));
        there = pair_reaches place (target_place w m u to) (omega arith) targets.0.low;
        slot = targets.0.slot;
      },
      table_has w m u code (place + 8) (omega arith) targets.1
          (λ at j h. stands at j (in_rest place first (second ∷ rest) at j (in_rest (place + 4) second rest at j (subst (λ p. in_table p rest at ≡ Some j) (sym twice) h)))),
    )

length_is : (target : Ref → ℕ) (place : ℕ) (code : List CodePart) → length (instructions_at target place code) ≡ size code
unfolding size
length_is target place [] = refl
length_is target place (instruction i ∷ code) = omega (arith, length_is target (place + 4) code)
length_is target place (address rd to ∷ code) = omega (arith, length_is target (place + 8) code)

pub length_of_instructions : (target : Ref → ℕ) (place : ℕ) (code : List CodePart) → length (instructions_at target place code) ≡ size code
length_of_instructions target place code = length_is target place code
