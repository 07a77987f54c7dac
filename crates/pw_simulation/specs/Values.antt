-- Values and the numbers that stand for them in registers and in memory.
use Rattle.std.specs.Prelude.{◌≡◌, ℕ, ◌+◌, ◌*◌, ◌^◌, ◌<◌, true, Some, ⊤}
use Rattle.pw_tree.specs.declared.ty.Ty.TheVariants.{Fn}
use Rattle.pw_tree.specs.declared.tunit.TVar.{TVar}
use Rattle.pw_tree.specs.Types.{pointer_to}
use Rattle.pw_tree.specs.Units.{Function}
use Rattle.pw_tree.specs.Names.{Definition, function_at, variable_at}
use Rattle.pw_tree.specs.States.{Value, null, pointer}
use Rattle.pw_tree.specs.States as value
use Rattle.pw_tree.specs.WellTypedExpressions.{Class, nothing, number, class_of}
use Rattle.pw_tree.specs.WellTypedExpressions as class
use Rattle.pw_tree.specs.WellTypedUnits.{room}
use Rattle.pw_mem.specs.Memory.{Mem}
use Rattle.pw_mem.specs.Words.{doubleword}
use Rattle.pw_simulation.specs.World.{World}

-- A number is the address of a kept function of so many parameters, to which a pointer may point.
pub record PointsTo (w : World) (parameters : ℕ) (f : Definition) (v : ℕ) : Type 0 where
  pub is : v ≡ w.function_place f
  pub kept : w.keep f ≡ true
  pub callee : Function
  pub there : function_at w.project f ≡ Some callee
  pub type : pointer_to callee.sig ≡ Some (Fn parameters)

-- A number stands for a value of a class. Nothing is said where there is no value: a register may hold anything.
abbrev pub Represents : World → Class → Value → ℕ → Type 0
Represents w nothing x v = ⊤
Represents w number (value.number n) v = (v ≡ n) × (n < 2 ^ 64)
Represents w number null v = ⊥
Represents w number (pointer f) v = ⊥
Represents w (class.pointer k) (value.number n) v = ⊥
Represents w (class.pointer k) null v = v ≡ 0
Represents w (class.pointer k) (pointer f) v = PointsTo w k f v

-- The doubleword at an address stands for a value.
pub record IsCarried (w : World) (m : Mem) (at : ℕ) (c : Class) (x : Value) : Type 0 where
  pub word : ℕ
  pub is : doubleword m at ≡ Some word
  pub represents : Represents w c x word

-- An element of a variable: its variable is defined, and has it.
pub record IsElement (w : World) (d : Definition) (i : ℕ) (x : TVar) : Type 0 where
  pub there : variable_at w.project d ≡ Some x
  pub below : i < room x.count

-- Each element of each variable stands in memory.
abbrev pub AreCarried : World → (Definition → ℕ → Value) → Mem → Type 0
AreCarried w variables m =
    (d : Definition) (i : ℕ) (x : TVar) → IsElement w d i x → IsCarried w m (w.variable_place d + 8 * i) (class_of x.ty) (variables d i)
