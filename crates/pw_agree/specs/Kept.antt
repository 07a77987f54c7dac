-- Which functions of a project are kept, at what level, and which one led to each.
use Rattle.std.specs.Prelude.{◌≡◌, ◌↔◌, ℕ, zero, suc, ◌≤◌, ◌<◌, Bool, true, ⊤, List, Some, Contains}
use Rattle.pw_tree.specs.declared.ty.Ref.{Ref}
use Rattle.pw_tree.specs.declared.tunit.TVar.{TVar}
use Rattle.pw_tree.specs.declared.tunit.Init.{Init}
use Rattle.pw_tree.specs.declared.tunit.Init.TheVariants.{Fun}
use Rattle.pw_tree.specs.Names.{Project, Definition, function, resolved, variable_at}
use Rattle.pw_tree.specs.Depends.{Node, entry, defined, Depends}

-- A name in a variable's initialiser resolves to a function.
pub record IsPointedTo (project : Project) (g : Definition) : Type 0 where
  pub at : Definition
  pub variable : TVar
  pub there : variable_at project at ≡ Some variable
  pub values : List Init
  pub initialised : variable.init ≡ Some values
  pub name : Ref
  pub named : Contains values (Fun name)
  pub means : resolved project at.in_module at.in_unit name ≡ Some (function g)

-- The roots: the entry, and each function that an initialised variable points to.
abbrev pub IsRoot : Project → Node → Type 0
IsRoot project entry = ⊤
IsRoot project (defined g) = IsPointedTo project g

-- A function's body names one, itself or another. Nothing names the entry.
abbrev pub Leads : Project → Node → Node → Type 0
Leads project f entry = ⊥
Leads project f (defined g) = Depends project f g

-- A root is kept, and so is what a kept function depends on; nothing else is.
pub data IsKept (project : Project) : Node → Type 0 where
  root : {n : Node} → IsRoot project n → IsKept project n
  named : {m n : Node} → IsKept project m → Leads project m n → IsKept project n

-- A choice of functions.
abbrev pub Keep : Type 0
Keep = Definition → Bool

-- A test finds exactly the functions that are kept.
abbrev pub FindsKept : Project → Keep → Type 0
FindsKept project keep = (d : Definition) → (keep d ≡ true) ↔ IsKept project (defined d)

-- A way of so many names leads from a root to a function.
abbrev pub HasWay : Project → ℕ → Node → Type 0
HasWay project zero n = IsRoot project n
HasWay project (suc k) n = (m : Node) × HasWay project k m × Leads project m n

-- The level of a kept function is the length of a shortest way to it.
pub record IsLevel (project : Project) (n : Node) (k : ℕ) : Type 0 where
  pub way : HasWay project k n
  pub least : (j : ℕ) → HasWay project j n → k ≤ j

-- One definition stands before another: by load order of modules, then by order of units, then by order of text.
pub data IsBefore (d e : Definition) : Type 0 where
  by_module : d.in_module < e.in_module → IsBefore d e
  by_unit : d.in_module ≡ e.in_module → d.in_unit < e.in_unit → IsBefore d e
  by_number : d.in_module ≡ e.in_module → d.in_unit ≡ e.in_unit → d.number < e.number → IsBefore d e

-- The entry stands before every definition.
abbrev pub NodeIsBefore : Node → Node → Type 0
NodeIsBefore entry entry = ⊥
NodeIsBefore entry (defined d) = ⊤
NodeIsBefore (defined d) entry = ⊥
NodeIsBefore (defined d) (defined e) = IsBefore d e

-- The parent of a function of level k + 1 is the first function of level k that depends on it.
pub record IsParent (project : Project) (n : Node) (k : ℕ) (p : Node) : Type 0 where
  pub own : IsLevel project n (suc k)
  pub level : IsLevel project p k
  pub leads : Leads project p n
  pub first : (q : Node) → IsLevel project q k → Leads project q n → NodeIsBefore q p → ⊥
