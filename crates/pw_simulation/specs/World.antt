-- What a run of a project is made in: which functions are kept, where everything stands, and the code.
use Rattle.std.specs.Prelude.{◌≡◌, ℕ, ◌+◌, ◌%◌, ◌^◌, ◌<◌, ◌≤◌, Bool, true, List, Option, Some, None}
use Rattle.pw_isa.specs.declared.instruction.Inst.{Inst}
use Rattle.pw_tree.specs.declared.ty.Ref.{Ref}
use Rattle.pw_tree.specs.declared.ty.Ref.TheVariants.{Global, LocalFun, LocalVar}
use Rattle.pw_tree.specs.Names.{Project, Definition, Entity, function, object, resolved}
use Rattle.pw_agree.specs.Kept.{Keep}

-- The world of a run. The code is that of the kept functions and of the entry, and nothing else.
pub record World : Type 0 where
  pub project : Project
  pub keep : Keep
  pub code : ℕ → Option Inst
  -- where the program's entry begins, a function, and a variable
  pub entry_place : ℕ
  pub function_place : Definition → ℕ
  pub variable_place : Definition → ℕ
  -- whether a name has a slot in a module, and where
  pub has_slot : ℕ → List ℕ → Bool
  pub slot_place : ℕ → List ℕ → ℕ
  -- the first address of the stack, and the one after its last
  pub stack_low : ℕ
  pub stack_high : ℕ
  -- how many words all texts have
  pub words : ℕ

-- The address of what a name means; of an unbound name, which no project that is run uses, 0.
abbrev pub entity_place : World → Option Entity → ℕ
entity_place w (Some (function d)) = w.function_place d
entity_place w (Some (object d)) = w.variable_place d
entity_place w None = 0

-- The address of what a reference of a unit means.
abbrev pub reference_place : World → (m u : ℕ) → Ref → ℕ
reference_place w m u to = entity_place w (resolved w.project m u to)

-- The address that the pair of instructions of an address computes: a slot's, or the definition's itself.
abbrev pub target_place : World → (m u : ℕ) → Ref → ℕ
target_place w m u (Global name) = w.slot_place m name
target_place w m u (LocalFun i) = w.function_place (record { in_module = m; in_unit = u; number = i })
target_place w m u (LocalVar i) = w.variable_place (record { in_module = m; in_unit = u; number = i })

-- A doubleword of the stack.
pub record InStack (w : World) (at : ℕ) : Type 0 where
  pub from : w.stack_low ≤ at
  pub to : at + 8 ≤ w.stack_high
  pub even : at % 8 ≡ 0

-- The parts of a world do not meet, and no sum of its addresses has a carry.
pub record IsApart (w : World) : Type 0 where
  pub code_low : (at : ℕ) (i : Inst) → w.code at ≡ Some i → at < 2 ^ 32
  pub code_even : (at : ℕ) (i : Inst) → w.code at ≡ Some i → at % 4 ≡ 0
  pub slots_below : (m : ℕ) (name : List ℕ) → w.has_slot m name ≡ true → w.slot_place m name + 8 ≤ w.stack_low
  pub stack_is_low : w.stack_high < 2 ^ 63
  pub stack_is_even : w.stack_low % 16 ≡ 0
