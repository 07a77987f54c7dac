-- The relocations that are left make of the data so far what all of them make of the data of the start.
use Rattle.std.proofs.Common.{◌≡◌, drop}
use Rattle.pw_image.specs.Relocated.{relocated}
use Rattle.pw_image.proofs.data.relocate.Given as goal

abbrev pub invariant-loop-reloc : goal.invariant-loop-reloc
invariant-loop-reloc l = relocated l.symbols l.data (drop l.reloc-index l.relocs) ≡ relocated l.symbols l.fn.data l.relocs
