-- The relocations lie in the bytes and the zeros behind them.
use Rattle.std.proofs.Common.{◌≡◌, ℕ, ◌+◌, List, ◌++◌, length, sym, ap, ◌∙◌, subst, length-append}
use Rattle.std.specs.List.{All}
use Rattle.pw_mem.specs.Memory.{zeros}
use Rattle.pw_mem.proofs.Zeros.{length_of_zeros}
use Rattle.pw_module.specs.declared.relocation.Reloc.{Reloc}
use Rattle.pw_image.specs.Relocated.{LiesInData}
use Rattle.pw_image.proofs.data.relocated_data.Goals as goal

pub relocate-requires : goal.relocate-requires
relocate-requires c =
    let bytes : List ℕ = c.args.placed.now.bytes in
    let behind : ℕ = c.args.placed.now.zeros in
    let copied : c.in_ok-data.data.items ≡ bytes = c.in_ok-data.ensures.items_if_clones_equal (λ x y same. same) ∙ c.as_slice.ensures in
    let long : length c.deref_mut.result.now ≡ length bytes + behind =
    ap length (c.deref_mut.ensures.value ∙ c.in_ok-put_zeros.ensures ∙ ap (λ (l : List ℕ). l ++ zeros behind) copied)
    ∙ length-append bytes (zeros behind) ∙ ap (λ n. length bytes + n) (length_of_zeros behind) in
    let within : All (LiesInData (length c.deref_mut.result.now)) c.args.placed.now.relocs =
    subst (λ (n : ℕ). All (LiesInData n) c.args.placed.now.relocs) (sym long) c.requires in
    subst (λ (relocs : List Reloc). All (LiesInData (length c.deref_mut.result.now)) relocs) (sym c.as_slice-3.ensures) within
