-- The rows that check: a failed check ends the run at its line, inside the function whose body runs; and equality of any two values.
use Rattle.std.proofs.Common.{◌≡◌, ◌≢◌, ℕ, zero, suc, ◌+◌, ◌*◌, ◌^◌, ◌<◌, ◌≤◌, Bool, true, false, not, List, [], ◌∷◌, ◌++◌, refl, sym, ◌∙◌, ap, arith, pos}
use Rattle.std.specs.Prelude.{nat_eq}
use Rattle.std.proofs.lemmas.Bool.Decides.{nat_tests}
use Rattle.pw_isa.specs.declared.instruction.Inst.{Inst}
use Rattle.pw_isa.specs.declared.instruction.Inst.TheVariants.{Bne}
use Rattle.pw_tree.specs.declared.operator.Bin.{Bin}
use Rattle.pw_tree.specs.declared.operator.Bin.TheVariants as operators
use Rattle.pw_tree.specs.Numbers.{truth, binary_result}
use Rattle.pw_tree.specs.Names.{Definition, same_definition}
use Rattle.pw_tree.specs.States.{Value, null, pointer, same_value, as_number, State, Locals, Fault, division, checked, Outcome, gives, stops}
use Rattle.pw_tree.specs.States as values
use Rattle.pw_tree.specs.Evaluation.{divided}
use Rattle.pw_tree.specs.WellTypedExpressions.{Class, nothing, number, IsValue}
use Rattle.pw_tree.specs.WellTypedExpressions as classes
use Rattle.pw_hart.specs.State.{MachineState}
use Rattle.pw_code.specs.Items.{CodePart, instruction, size}
use Rattle.pw_code.specs.Pieces.{fault, divide, remainder, binary_code}
use Rattle.pw_code.proofs.Exports.{size-append, size-fault, immediate_words_at_most}
use Rattle.pw_agree.proofs.Levels.{same_definition_is}
use Rattle.pw_simulation.specs.World.{World}
use Rattle.pw_simulation.specs.Values.{Represents}
use Rattle.pw_simulation.specs.Moments.{IsAt, kind_of, Halts}
use Rattle.pw_simulation.specs.Sees.{Sees}
use Rattle.pw_simulation.specs.Bodies.{Body, HasFrame, IsUntouched, context_of, Stands, GivesValue}
use Rattle.pw_simulation.proofs.Operators.{Computes, binary_computes, truth_small, divides, takes_remainder, binary_small}
use Rattle.pw_simulation.proofs.Steps.{moves_last, moves_past, moves_into}
use Rattle.pw_simulation.proofs.Meets.{moved_at, halts_as, halts_after, meets_after, meets_as}
use Rattle.pw_simulation.proofs.Pieces.{fault_halts}
use Rattle.pw_simulation.proofs.Rows.{stands_prefix, stands_rest, code_gives}
use Rattle.pw_simulation.proofs.Sequences.{represents_small, one_word, alone, one_more, meets_equal, Finishes}

-- ---- equality

itself : (d : Definition) → same_definition d d ≡ true
itself d = grind (arith, nat_tests)

pointers_same : (w : World) (sees : Sees w) (f g : Definition) → w.keep f ≡ true → w.keep g ≡ true → (t : Bool) → same_definition f g ≡ t
    → nat_eq (w.function_place f) (w.function_place g) ≡ t
pointers_same w sees f g kf kg true e = let same = same_definition_is f g e in rw same (grind (arith, nat_tests))
pointers_same w sees f g kf kg false e =
    let other : w.function_place f ≢ w.function_place g = λ p. let same = sees.functions_differ f g kf kg p in let t : same_definition f g ≡ true = rw same (itself g) in cc in
    grind (arith, nat_tests, other)

-- numbers that stand for values are equal exactly if the values are
pub equal_as_values : (w : World) (sees : Sees w) (c : Class) (x y : Value) (a b : ℕ) → IsValue c → Represents w c x a → Represents w c y b → nat_eq a b ≡ same_value x y
equal_as_values w sees nothing x y a b some h k = absurd some
equal_as_values w sees number (values.number l) (values.number m) a b some h k = rw (h.0, k.0) refl
equal_as_values w sees number (values.number l) null a b some h k = absurd k
equal_as_values w sees number (values.number l) (pointer g) a b some h k = absurd k
equal_as_values w sees number null y a b some h k = absurd h
equal_as_values w sees number (pointer f) y a b some h k = absurd h
equal_as_values w sees (classes.pointer p) (values.number l) y a b some h k = absurd h
equal_as_values w sees (classes.pointer p) null (values.number m) a b some h k = absurd k
equal_as_values w sees (classes.pointer p) null null a b some h k = rw (h, k) refl
equal_as_values w sees (classes.pointer p) null (pointer g) a b some h k =
    let there = (sees.function_places g k.kept).some in let is = k.is in rw h (grind (arith, nat_tests))
equal_as_values w sees (classes.pointer p) (pointer f) (values.number m) a b some h k = absurd k
equal_as_values w sees (classes.pointer p) (pointer f) null a b some h k =
    let there = (sees.function_places f h.kept).some in let is = h.is in rw k (grind (arith, nat_tests))
equal_as_values w sees (classes.pointer p) (pointer f) (pointer g) a b some h k = rw (h.is, k.is) (pointers_same w sees f g h.kept k.kept (same_definition f g) refl)

module _ (w : World) (sees : Sees w) (b : Body) (frame : HasFrame w b) (known : List ℕ) (locals : Locals) (n h : ℕ) where
  pub equal_finishes : (line : ℕ) (unsigned : Bool) (c : Class) → IsValue c
      → Finishes w sees b frame known locals n h c c number (binary_code line operators.Eq unsigned) (λ x y. gives (values.number (truth (same_value x y))))
  equal_finishes line unsigned c some x y st t r left right here =
      code_gives w sees b frame h number (binary_code line operators.Eq unsigned) (values.number (truth (same_value x y))) (truth (nat_eq (t.x 5) (t.x 10))) st t r.at here.code_at
      (binary_computes line operators.Eq unsigned (t.x 5) (t.x 10) t.x tt refl refl (represents_small w sees c x (t.x 5) some left) (represents_small w sees c y (t.x 10) some right))
      (ap truth (equal_as_values w sees c x y (t.x 5) (t.x 10) some left right), truth_small (same_value x y))

  pub unequal_finishes : (line : ℕ) (unsigned : Bool) (c : Class) → IsValue c
      → Finishes w sees b frame known locals n h c c number (binary_code line operators.Ne unsigned) (λ x y. gives (values.number (truth (not (same_value x y)))))
  unequal_finishes line unsigned c some x y st t r left right here =
      code_gives w sees b frame h number (binary_code line operators.Ne unsigned) (values.number (truth (not (same_value x y)))) (truth (not (nat_eq (t.x 5) (t.x 10)))) st t r.at here.code_at
      (binary_computes line operators.Ne unsigned (t.x 5) (t.x 10) t.x tt refl refl (represents_small w sees c x (t.x 5) some left) (represents_small w sees c y (t.x 10) some right))
      (ap (λ t. truth (not t)) (equal_as_values w sees c x y (t.x 5) (t.x 10) some left right), truth_small (not (same_value x y)))

  -- ---- a check that fails

  pub fault_stops : (f : Fault) (line : ℕ) (st : State) (s : MachineState) → line < 2 ^ 64 → IsAt w b.stack_pointer b.calls_left st s → Stands w b s.pc (fault (kind_of f) line)
      → Halts w (size (fault (kind_of f) line)) (checked f b.self line) st s
  fault_stops f line st s small at here =
      fault_halts w sees.apart b.self.in_module b.self.in_unit b.stack_pointer b.calls_left f line b.self st s small at here.code_at
      (λ p from to. record { function = here.body; there = here.there; from = omega (arith, here.from); to = omega (arith, here.to) })

  pub short_fault : (kind line : ℕ) → size (fault kind line) ≤ 11
  short_fault kind line = omega (arith, size-fault kind line, immediate_words_at_most line)

  -- a division, after the test of its divisor
  divided_finishes : (line : ℕ) (op : Bin) (unsigned : Bool) (i : Inst) (calls : _) (turns : ℕ) → line < 2 ^ 64
      → ((l m : ℕ) (x : ℕ → ℕ) → x 5 ≡ l → x 10 ≡ m → m ≢ 0 → Computes (instruction i ∷ []) x (binary_result op unsigned l m))
      → Finishes w sees b frame known locals n h number number number ((instruction (Bne 10 0 (pos (4 * suc (size (fault 2 line))))) ∷ fault 2 line) ++ instruction i ∷ [])
      (λ x y. divided (context_of w b calls turns) line op unsigned (as_number x) (as_number y))
  divided_finishes line op unsigned i calls turns small computes null y st t r left right here = absurd left
  divided_finishes line op unsigned i calls turns small computes (pointer f) y st t r left right here = absurd left
  divided_finishes line op unsigned i calls turns small computes (values.number l) null st t r left right here = absurd right
  divided_finishes line op unsigned i calls turns small computes (values.number l) (pointer f) st t r left right here = absurd right
  divided_finishes line op unsigned i calls turns small computes (values.number l) (values.number zero) st t r left right here =
      let piece = fault 2 line in
      let branch = Bne 10 0 (pos (4 * suc (size piece))) in
      let code : List CodePart = (instruction branch ∷ piece) ++ instruction i ∷ [] in
      let all : size code ≡ 1 + size piece + 1 = size-append (instruction branch ∷ piece) (instruction i ∷ []) ∙ omega (arith, one_more branch piece, alone i) in
      let s1 : MachineState = record t { pc = t.pc + 4 } in
      let go = moves_into w sees.apart t 10 (4 * suc (size piece)) r.at.ready here.code_at.0 right.0 in
      let at1 = moved_at w b.stack_pointer b.calls_left st t t.x (t.pc + 4) r.at refl refl in
      let there = stands_rest w b t.pc (t.pc + 4) (instruction branch ∷ []) (piece ++ instruction i ∷ []) (one_word branch t.pc) here in
      halts_as w (1 + size piece) (size code) _ st t (omega (arith, all))
      (halts_after w 1 (size piece) _ st t s1 (moves_last w t s1 go) (fault_stops division line st s1 small at1 (stands_prefix w b s1.pc piece (instruction i ∷ []) there)))
  divided_finishes line op unsigned i calls turns small computes (values.number l) (values.number (suc m)) st t r left right here =
      let piece = fault 2 line in
      let branch = Bne 10 0 (pos (4 * suc (size piece))) in
      let code : List CodePart = (instruction branch ∷ piece) ++ instruction i ∷ [] in
      let all : size code ≡ 1 + size piece + 1 = size-append (instruction branch ∷ piece) (instruction i ∷ []) ∙ omega (arith, one_more branch piece, alone i) in
      let one : size (instruction i ∷ []) ≡ 1 = alone i in
      let some : suc m ≢ 0 = λ e. let f : suc m ≤ 0 = omega arith in absurd (omega arith) in
      let not_zero : t.x 10 ≢ 0 = λ e. some (sym right.0 ∙ e) in
      let short = short_fault 2 line in
      let s1 : MachineState = record t { pc = t.pc + 4 * suc (size piece) } in
      let go = moves_past w sees.apart t 10 (4 * suc (size piece)) r.at.ready here.code_at.0 not_zero (omega arith) (omega arith) (omega arith) in
      let at1 = moved_at w b.stack_pointer b.calls_left st t t.x s1.pc r.at refl refl in
      let past : t.pc + 4 * size (instruction branch ∷ piece) ≡ s1.pc = ap (λ k. t.pc + 4 * k) (one_more branch piece ∙ omega arith) in
      let there = stands_rest w b t.pc s1.pc (instruction branch ∷ piece) (instruction i ∷ []) past here in
      let value : Value = values.number (binary_result op unsigned l (suc m)) in
      let gives_it = code_gives w sees b frame h number (instruction i ∷ []) value (binary_result op unsigned l (suc m)) st s1 at1 there.code_at
      (computes l (suc m) s1.x left.0 right.0 some) (refl, binary_small op unsigned l (suc m) left.1 right.1) in
      let to : s1.pc + 4 * size (instruction i ∷ []) ≡ t.pc + 4 * size code = omega (arith, all, one) in
      let not_zero_test : nat_eq (suc m) 0 ≡ false = grind (arith, nat_tests) in
      rw not_zero_test (meets_as w (IsUntouched b h) b.stack_pointer b.calls_left (1 + size (instruction i ∷ [])) (size code) (GivesValue w number (t.pc + 4 * size code)) (GivesValue w number (t.pc + 4 * size code)) (gives value st) t
      (omega (arith, all, one)) (λ _ _ g. g)
      (meets_after w (IsUntouched b h) (IsUntouched b h) b.stack_pointer b.calls_left 1 (size (instruction i ∷ [])) (GivesValue w number (t.pc + 4 * size code)) (gives value st) t s1 (λ _ k. k)
      (moves_last w t s1 go) (λ _ _. refl)
      (meets_equal w sees b frame known locals n h (size (instruction i ∷ [])) (size (instruction i ∷ [])) (s1.pc + 4 * size (instruction i ∷ [])) (t.pc + 4 * size code) number (gives value st) s1 refl to gives_it)))

  pub division_finishes : (line : ℕ) (unsigned : Bool) (calls : _) (turns : ℕ) → line < 2 ^ 64
      → Finishes w sees b frame known locals n h number number number (binary_code line operators.Div unsigned) (λ x y. divided (context_of w b calls turns) line operators.Div unsigned (as_number x) (as_number y))
  division_finishes line unsigned calls turns small = divided_finishes line operators.Div unsigned (divide unsigned 10 5 10) calls turns small (divides unsigned)

  pub remainder_finishes : (line : ℕ) (unsigned : Bool) (calls : _) (turns : ℕ) → line < 2 ^ 64
      → Finishes w sees b frame known locals n h number number number (binary_code line operators.Rem unsigned) (λ x y. divided (context_of w b calls turns) line operators.Rem unsigned (as_number x) (as_number y))
  remainder_finishes line unsigned calls turns small = divided_finishes line operators.Rem unsigned (remainder unsigned 10 5 10) calls turns small (takes_remainder unsigned)
