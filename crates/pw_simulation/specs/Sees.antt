-- When a world shows a project: the kept functions stand in it, what is kept is closed, and nothing meets anything else.
use Rattle.std.specs.Prelude.{◌≡◌, ◌≢◌, ℕ, ◌+◌, ◌*◌, ◌%◌, ◌^◌, ◌<◌, ◌≤◌, true, List, Some}
use Rattle.pw_tree.specs.declared.tunit.TVar.{TVar}
use Rattle.pw_tree.specs.Units.{Function}
use Rattle.pw_tree.specs.Names.{Definition, function_at}
use Rattle.pw_tree.specs.Depends.{entry, defined, Depends}
use Rattle.pw_code.specs.FunctionCode.{function_code, function_words, entry_code}
use Rattle.pw_agree.specs.Kept.{IsPointedTo}
use Rattle.pw_simulation.specs.World.{World, IsApart}
use Rattle.pw_simulation.specs.CodeAt.{HasAt}
use Rattle.pw_simulation.specs.Values.{IsElement}

-- Where a function may begin: it is no null pointer, and an instruction may stand there.
pub record IsFunctionPlace (place : ℕ) : Type 0 where
  pub some : 0 < place
  pub low : place < 2 ^ 32
  pub even : place % 4 ≡ 0

-- Where an element of a variable may stand: below the stack, and aligned.
pub record IsElementPlace (w : World) (place : ℕ) : Type 0 where
  pub below : place + 8 ≤ w.stack_low
  pub even : place % 8 ≡ 0

-- Any set of functions will do that has the roots and is closed under dependence.
pub record IsClosed (w : World) : Type 0 where
  pub main : (g : Definition) → Depends w.project entry g → w.keep g ≡ true
  pub pointed : (g : Definition) → IsPointedTo w.project g → w.keep g ≡ true
  pub named : (f g : Definition) → w.keep f ≡ true → Depends w.project (defined f) g → w.keep g ≡ true

-- A function of the world that is kept.
pub record IsKeptFunction (w : World) (d : Definition) (f : Function) : Type 0 where
  pub there : function_at w.project d ≡ Some f
  pub kept : w.keep d ≡ true

-- A world shows a project: its parts stand where the code and the memory of a run need them, and nothing meets anything else.
pub record Sees (w : World) : Type 0 where
  pub apart : IsApart w
  pub closed : IsClosed w
  -- the entry stands at its place, and so does each kept function; each has no more words than all texts
  pub has_entry : HasAt w 0 0 w.entry_place entry_code
  pub functions : (d : Definition) (f : Function) → IsKeptFunction w d f → HasAt w d.in_module d.in_unit (w.function_place d) (function_code f)
  pub few_words : (d : Definition) (f : Function) → IsKeptFunction w d f → function_words f ≤ w.words
  pub function_places : (d : Definition) → w.keep d ≡ true → IsFunctionPlace (w.function_place d)
  pub functions_differ : (d e : Definition) → w.keep d ≡ true → w.keep e ≡ true → w.function_place d ≡ w.function_place e → d ≡ e
  -- elements of variables stand apart, and apart from slots
  pub element_places : (d : Definition) (i : ℕ) (x : TVar) → IsElement w d i x → IsElementPlace w (w.variable_place d + 8 * i)
  pub elements_differ : (d e : Definition) (i j : ℕ) (x y : TVar) → IsElement w d i x → IsElement w e j y →
      w.variable_place d + 8 * i ≡ w.variable_place e + 8 * j → (d ≡ e) × (i ≡ j)
  pub slots_differ : (d : Definition) (i : ℕ) (x : TVar) (k : ℕ) (name : List ℕ) → IsElement w d i x → w.has_slot k name ≡ true →
      w.slot_place k name ≢ w.variable_place d + 8 * i
