-- The first relocation that is left is done, until none is left.
use Rattle.std.proofs.Common.{sym, ◌∙◌}
use Rattle.pw_image.proofs.Relocating.{one_relocated, all_relocated}
use Rattle.pw_image.proofs.data.relocate.Goals as goal

pub returns : goal.returns
returns c =
    sym (all_relocated c.args.symbols.now c.loop-reloc.data c.args.relocs.now c.loop-reloc.reloc-index c.loop-reloc-test.false)
    ∙ c.loop-reloc.invariant

pub loop-reloc-preserved : goal.loop-reloc-preserved
loop-reloc-preserved c =
    one_relocated c.args.symbols.now c.loop-reloc.data c.relocate_one.new.data c.args.relocs.now c.loop-reloc.reloc-index _ _
    c.loop-reloc-test.true c.relocate_one.ensures c.loop-reloc.invariant
