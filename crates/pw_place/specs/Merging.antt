-- What objects merge into: the parts of a module, or the first fault of the link.
use Rattle.std.specs.Prelude.{◌≡◌, List, Result, Ok, Err, Some, None, ⊤}
use Rattle.pw_base.specs.declared.kinds.Kind.{Kind}
use Rattle.pw_code.specs.declared.object.Object.{Object}
use Rattle.pw_place.specs.Places.{slot_names}
use Rattle.pw_place.specs.Symbols.{symbols}
use Rattle.pw_place.specs.Contents.{text, bytes, zeros, relocations}
use Rattle.pw_place.specs.Tables.{table}
use Rattle.pw_place.specs.Refusals.{link_fault}
use Rattle.pw_place.specs.declared.placed.Placed.{Placed}
use Rattle.pw_place.specs.declared.link_error.LinkError.{LinkError}
use Rattle.pw_place.specs.declared.link_error.LinkError.TheVariants.{TooMany, Duplicate, TypeDiffers, NoMain, MainType, NoMemory}

-- The parts of the module that objects merge into.
abbrev pub placed_of : Kind → List Object → Placed
placed_of kind objects = record {
  text = text kind objects;
  got = slot_names kind objects;
  bytes = bytes kind objects;
  zeros = zeros objects;
  symbols = symbols kind objects;
  relocs = relocations kind objects;
  deps = table kind objects;
}

-- What a merge answers: the module where the link has no fault, or its first fault. Out of memory says nothing.
abbrev pub Merges : Kind → List Object → Result Placed LinkError → Type 0
Merges kind objects (Ok placed) = (link_fault kind objects ≡ None) × (placed ≡ placed_of kind objects)
Merges kind objects (Err NoMemory) = ⊤
Merges kind objects (Err (TooMany what count)) = link_fault kind objects ≡ Some (TooMany what count)
Merges kind objects (Err (Duplicate name)) = link_fault kind objects ≡ Some (Duplicate name)
Merges kind objects (Err (TypeDiffers name first other)) = link_fault kind objects ≡ Some (TypeDiffers name first other)
Merges kind objects (Err NoMain) = link_fault kind objects ≡ Some NoMain
Merges kind objects (Err (MainType text)) = link_fault kind objects ≡ Some (MainType text)
