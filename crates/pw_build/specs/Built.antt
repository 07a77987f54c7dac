-- What building the image of a unit's program answers, and what it leaves of the memory.
use Rattle.std.specs.Prelude.{◌≡◌, ℕ, List, Some, None, Result, Ok, Err}
use Rattle.pw_base.specs.declared.kinds.Kind.TheVariants.{Program}
use Rattle.pw_tree.specs.Units.{TypedUnit}
use Rattle.pw_mem.specs.States.{MemoryState, NoFetches}
use Rattle.pw_module.specs.declared.kept_row.KeptRow.{KeptRow}
use Rattle.pw_place.specs.Refusals.{link_fault}
use Rattle.pw_agree.specs.Kept.{FindsKept}
use Rattle.pw_agree.specs.Image.{image}
use Rattle.pw_image.specs.OneUnit.{project_of, objects_of}
use Rattle.pw_image.specs.Unbound.{first_unbound}
use Rattle.pw_image.specs.Rows.{AreRows, keep_of}
use Rattle.pw_build.specs.declared.image_error.ImageError.{ImageError}
use Rattle.pw_build.specs.declared.image_error.ImageError.TheVariants.{Link, Unbound, NoMemory}

-- The unit, which is that of a file, is a program without a fault; these are its rows, which keep exactly the functions that the
-- program can reach; and the memory holds the image of its project in which exactly those are there, sealed. No fetch is counted
-- since.
pub record IsBuilt (file : List ℕ) (unit : TypedUnit) (new : MemoryState) (rows : List KeptRow) : Type 0 where
  pub links : link_fault Program (objects_of file unit) ≡ None
  pub bound : first_unbound unit ≡ None
  pub rows_are : AreRows file unit rows
  pub kept : FindsKept (project_of unit) (keep_of rows)
  pub mem : new.mem ≡ image (project_of unit) (keep_of rows)
  pub no_fetch : NoFetches new

-- the image is built; or the first fault of the link, or the first name that the unit uses and does not define; after a refusal
-- the memory is as before
abbrev pub Builds : (file : List ℕ) → TypedUnit → (old new : MemoryState) → Result (List KeptRow) ImageError → Type 0
Builds file unit old new (Ok rows) = IsBuilt file unit new rows
Builds file unit old new (Err (Link fault)) = (link_fault Program (objects_of file unit) ≡ Some fault) × (new ≡ old)
Builds file unit old new (Err (Unbound name)) =
    (link_fault Program (objects_of file unit) ≡ None) × (first_unbound unit ≡ Some name) × (new ≡ old)
Builds file unit old new (Err NoMemory) = new ≡ old
