-- The parameters of a function are put into their slots, and so they are known as its body begins.
use Rattle.std.proofs.Common.{◌≡◌, ℕ, zero, suc, ◌+◌, ◌*◌, ◌^◌, ◌<◌, ◌≤◌, ◌≢◌, Bool, true, false, ◌||◌, List, [], ◌∷◌, length, take, map, refl, sym, ◌∙◌, ap, subst, arith, Some, ◌⊎◌, inl, inr}
use Rattle.std.specs.Prelude.{nat_eq, slice_get}
use Rattle.std.specs.List.{AllByRecursion, list_any}
use Rattle.std.proofs.lemmas.Bool.Decides.{nat_tests}
use Rattle.pw_tree.specs.declared.ty.Ty.{Ty}
use Rattle.pw_tree.specs.declared.ty.Ty.TheVariants.{Void, Long, Ulong, Fn}
use Rattle.pw_tree.specs.Types.{IsValueType, AreValueTypes}
use Rattle.pw_tree.specs.Meaning.{locals_at_entry}
use Rattle.pw_tree.specs.States.{Value, State}
use Rattle.pw_tree.specs.WellTypedExpressions.{Class, class_of, IsValue, IsKnown}
use Rattle.pw_tree.specs.WellTypedUnits.{below}
use Rattle.pw_mem.specs.Memory.{Mem}
use Rattle.pw_mem.specs.Words.{put_doubleword}
use Rattle.pw_mem.proofs.Words.{word-put_same}
use Rattle.pw_hart.specs.State.{MachineState, get}
use Rattle.pw_code.specs.Frames.{local_slot}
use Rattle.pw_code.specs.FunctionCode.{store_parameters}
use Rattle.pw_simulation.specs.World.{World, InStack}
use Rattle.pw_simulation.specs.CodeAt.{HasAt}
use Rattle.pw_simulation.specs.Memories.{Keeps}
use Rattle.pw_simulation.specs.Values.{Represents, IsCarried}
use Rattle.pw_simulation.specs.Moments.{IsAt, Reaches}
use Rattle.pw_simulation.specs.Sees.{Sees}
use Rattle.pw_simulation.specs.Bodies.{Body, HasFrame, IsLocalCarried, AreLocalsCarried}
use Rattle.pw_simulation.specs.Calls.{AreInRegisters}
use Rattle.pw_simulation.proofs.Reach.{reaches_here}
use Rattle.pw_simulation.proofs.Placed.{keeps_put}
use Rattle.pw_simulation.proofs.Steps.{moves_then, moves_store}
use Rattle.pw_simulation.proofs.Rows.{offset_is, slot_in, put_at}
use Rattle.pw_simulation.proofs.Sequences.{represents_small}

-- ---- lists

taken_at : {X : Type 0} (xs : List X) (n i : ℕ) → i < n → slice_get (take n xs) i ≡ slice_get xs i
taken_at xs zero i h = absurd (omega (arith, h))
taken_at [] (suc n) i h = refl
taken_at (x ∷ xs) (suc n) zero h = refl
taken_at (x ∷ xs) (suc n) (suc i) h = taken_at xs n i (omega arith)

known_by : (n i : ℕ) (t : Bool) → nat_eq n i ≡ t → t || list_any (λ j. nat_eq j i) (below n) ≡ true
    → (list_any (λ j. nat_eq j i) (below n) ≡ true → i < n) → i < suc n
known_by n i true e h rest = let same : n ≡ i = grind (arith, nat_tests) in omega arith
known_by n i false e h rest = let less = rest h in omega arith

-- the known locals as a body begins are the parameters
pub known_below : (n i : ℕ) → IsKnown (below n) i → i < n
unfolding below
known_below zero i h = cc
known_below (suc n) i h = known_by n i (nat_eq n i) refl h (known_below n i)

-- ---- classes

value_class : (ty : Ty) → IsValueType ty → IsValue (class_of ty)
value_class Void h = absurd h
value_class Long h = tt
value_class Ulong h = tt
value_class (Fn k) h = tt

pub value_classes : (tys : List Ty) → AreValueTypes tys → AllByRecursion IsValue (map class_of tys)
unfolding AreValueTypes
value_classes [] h = tt
value_classes (ty ∷ tys) h = (value_class ty h.0, value_classes tys h.1)

get_argument : (x : ℕ → ℕ) (i : ℕ) → get x (10 + i) ≡ x (10 + i)
get_argument x i = let e : 10 + i ≡ suc (9 + i) = omega arith in rw e refl

-- ---- slots

module _ (w : World) (sees : Sees w) (b : Body) (frame : HasFrame w b) where
  -- The slots of the locals from one on stand for values of these classes, one each.
  abbrev pub AreStored : Mem → (i : ℕ) → List Class → List Value → Type 0
  AreStored m i [] [] = Unit {0}
  AreStored m i (c ∷ cs) (x ∷ xs) = IsCarried w m (b.stack_pointer + 8 * i) c x × AreStored m (suc i) cs xs
  AreStored m i [] (x ∷ xs) = ⊥
  AreStored m i (c ∷ cs) [] = ⊥

  -- Everything but the slots of some locals.
  abbrev pub IsBeside : (i n : ℕ) → ℕ → Type 0
  IsBeside i n at = (at < b.stack_pointer + 8 * i) ⊎ (b.stack_pointer + 8 * (i + n) ≤ at)

  -- The parameters from one on have been stored.
  pub record Stores (i : ℕ) (cs : List Class) (xs : List Value) (st : State) (s : MachineState) : Type 0 where
    pub memory : Mem
    pub reaches : Reaches w.code w.words (length cs) s (record s { mem = memory; pc = s.pc + 4 * length cs })
    pub at : IsAt w b.stack_pointer b.calls_left st (record s { mem = memory; pc = s.pc + 4 * length cs })
    pub keeps : Keeps (IsBeside i (length cs)) s.mem memory
    pub stored : AreStored memory i cs xs

  same_pc : (st : State) (s : MachineState) (p : ℕ) → s.pc ≡ p → IsAt w b.stack_pointer b.calls_left st s → IsAt w b.stack_pointer b.calls_left st (record s { pc = p })
  same_pc st s p e at = subst (λ q. IsAt w b.stack_pointer b.calls_left st (record s { pc = q })) e at

  pub stores_run : (m u i : ℕ) (cs : List Class) (xs : List Value) (st : State) (s : MachineState) → IsAt w b.stack_pointer b.calls_left st s
      → i + length cs ≤ b.frame.locals → AllByRecursion IsValue cs → AreInRegisters w (10 + i) cs xs s.x
      → HasAt w m u s.pc (store_parameters i (length cs)) → Stores i cs xs st s
  unfolding store_parameters
  stores_run m u i [] [] st s at few values h here =
      let same : s.pc ≡ s.pc + 4 * 0 = omega arith in
      record {
        memory = s.mem;
        reaches = subst (λ p. Reaches w.code w.words 0 s (record s { pc = p })) same (reaches_here w.code w.words s);
        at = same_pc st s (s.pc + 4 * 0) same at;
        keeps = λ _ _. refl;
        stored = tt;
      }
  stores_run m u i [] (x ∷ xs) st s at few values h here = absurd h
  stores_run m u i (c ∷ cs) [] st s at few values h here = absurd h
  stores_run m u i (c ∷ cs) (x ∷ xs) st s at few values h here =
      let bound = frame.few in
      let place : ℕ = b.stack_pointer + 8 * i in
      let in_it : InStack w place = slot_in w sees b frame i (omega arith) in
      let was = at.ready.stack place in_it in
      let word : ℕ = get s.x (10 + i) in
      let word_is : word ≡ s.x (10 + i) = get_argument s.x i in
      let small : word < 2 ^ 64 = let few_bits = represents_small w sees c x (s.x (10 + i)) values.0 h.0 in omega arith in
      let t : MachineState = record s { mem = put_doubleword s.mem place word; pc = s.pc + 4 } in
      let go = moves_store w sees.apart s 2 (10 + i) (local_slot i) place was.value at.ready here.0 (offset_is w sees b frame s (8 * i) at.stack (omega arith)) was.is in
      let at_t = put_at w sees b frame st s place word t.pc at in_it small in
      let next_register : suc (10 + i) ≡ 10 + suc i = omega arith in
      let rest = stores_run m u (suc i) cs xs st t at_t (omega arith) values.1 (subst (λ k. AreInRegisters w k cs xs s.x) next_register h.1) here.1 in
      let next : s.pc + 4 + 4 * length cs ≡ s.pc + 4 * suc (length cs) = omega arith in
      let own : 1 + length cs ≡ suc (length cs) = omega arith in
      let end : MachineState = record t { mem = rest.memory; pc = t.pc + 4 * length cs } in
      record {
        memory = rest.memory;
        reaches = subst (λ p. Reaches w.code w.words (suc (length cs)) s (record s { mem = rest.memory; pc = p })) next
            (subst (λ k. Reaches w.code w.words k s end) own (moves_then w (length cs) s t end go rest.reaches));
        at = same_pc st end (s.pc + 4 * suc (length cs)) next rest.at;
        keeps = λ a beside. rest.keeps a (beside_more a beside) ∙ keeps_put w s.mem place word (IsBeside i (suc (length cs))) at.ready in_it (λ p p_beside. apart p p_beside) a beside;
        stored = (
          (record {
            word = word;
            is = rest.keeps place (inl (omega arith)) ∙ word-put_same s.mem place was.value word small was.is;
            represents = subst (λ v. Represents w c x v) (sym word_is) h.0;
          }),
          rest.stored,
        );
      }
    where
      beside_more : (a : ℕ) → IsBeside i (suc (length cs)) a → IsBeside (suc i) (length cs) a
      beside_more a (inl below_it) = inl (omega arith)
      beside_more a (inr above_it) = inr (omega arith)

      apart : (p : ℕ) → IsBeside i (suc (length cs)) p → b.stack_pointer + 8 * i ≢ p
      apart p (inl below_it) = λ e. omega (arith, e, below_it)
      apart p (inr above_it) = λ e. omega (arith, e, above_it)

  -- ---- locals

  -- the value of one of them
  pub record IsStored (m : Mem) (place j : ℕ) (c : Class) (xs : List Value) : Type 0 where
    pub value : Value
    pub there : slice_get xs j ≡ Some value
    pub carried : IsCarried w m place c value

  stored_at : (m : Mem) (i j : ℕ) (cs : List Class) (xs : List Value) (c : Class) → AreStored m i cs xs → slice_get cs j ≡ Some c
      → IsStored m (b.stack_pointer + 8 * (i + j)) j c xs
  stored_at m i j [] xs c h e = cc
  stored_at m i j (k ∷ cs) [] c h e = absurd h
  stored_at m i zero (k ∷ cs) (x ∷ xs) c h e =
      let same : k ≡ c = cc in
      let place : b.stack_pointer + 8 * i ≡ b.stack_pointer + 8 * (i + 0) = omega arith in
      record { value = x; there = refl; carried = subst (λ p. IsCarried w m p c x) place (subst (λ g. IsCarried w m (b.stack_pointer + 8 * i) g x) same h.0) }
  stored_at m i (suc j) (k ∷ cs) (x ∷ xs) c h e =
      let rest = stored_at m (suc i) j cs xs c h.1 e in
      let place : b.stack_pointer + 8 * (suc i + j) ≡ b.stack_pointer + 8 * (i + suc j) = omega arith in
      record { value = rest.value; there = rest.there; carried = subst (λ p. IsCarried w m p c rest.value) place rest.carried }

  -- the parameters are known as the body begins
  pub parameters_carried : (m : Mem) (cs : List Class) (xs : List Value) (n : ℕ) → n ≡ length cs → take n b.classes ≡ cs
      → n ≤ b.frame.locals → AreStored m 0 cs xs
      → AreLocalsCarried w b (below n) (locals_at_entry xs) m
  parameters_carried m cs xs n count first few h i c known is_class =
      let less : i < n = known_below n i known in
      let at : slice_get cs i ≡ Some c = ap (λ ks. slice_get ks i) (sym first) ∙ taken_at b.classes n i less ∙ is_class in
      let one = stored_at m 0 i cs xs c h at in
      let place : b.stack_pointer + 8 * (0 + i) ≡ b.stack_pointer + 8 * i = omega arith in
      let carried = subst (λ p. IsCarried w m p c one.value) place one.carried in
      subst (λ o. IsLocalCarried w b m i c o) (sym one.there) (record { below = omega arith; word = carried.word; is = carried.is; represents = carried.represents })
