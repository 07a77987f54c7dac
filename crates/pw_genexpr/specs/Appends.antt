-- What a call that appends code leaves.
use Rattle.std.specs.Prelude.{◌≡◌, List, ◌++◌, Result, Ok, Err}
use Rattle.pw_base.specs.declared.no_memory.NoMemory.{NoMemory}
use Rattle.pw_code.specs.declared.item.Item.{Item}
use Rattle.pw_code.specs.Items.{CodePart, items}

-- The old items are followed by a prefix of those that spell some code.
pub record AppendsPrefix (code : List CodePart) (old new : List Item) : Type 0 where
  pub prefix : List Item
  pub more : List Item
  pub whole : items code ≡ prefix ++ more
  pub appended : new ≡ old ++ prefix

-- The items that spell some code are appended, or a prefix of them, out of memory.
abbrev pub Appends : List CodePart → (old new : List Item) → Result (Unit {0}) NoMemory → Type 0
Appends code old new (Ok _) = new ≡ old ++ items code
Appends code old new (Err _) = AppendsPrefix code old new
