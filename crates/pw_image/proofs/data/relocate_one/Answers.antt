-- The address takes the place of the eight bytes that stand there.
use Rattle.std.proofs.Common.{◌≡◌, ℕ, ◌∙◌, refl}
use Rattle.pw_base.specs.Bytes.{le_bytes}
use Rattle.pw_image.specs.Relocated.{relocation_value}
use Rattle.pw_image.proofs.WordBytes.{eight_bytes}
use Rattle.pw_image.proofs.Relocating.{put_over}
use Rattle.pw_image.proofs.data.relocate_one.Goals as goal

pub returns : goal.returns
returns c =
    let value : ℕ = relocation_value c.args.symbols.now c.args.reloc.now.kind in
    let address : c.copy_from_slice.new.self ≡ le_bytes 8 value =
    c.copy_from_slice.ensures.after ∙ c.to_le_bytes.ensures
    ∙ eight_bytes value c.address_for-address.result c.address_for-address.ensures in
    put_over c.args.data.now c.copy_from_slice.new.self (le_bytes 8 value) _ _ address refl
