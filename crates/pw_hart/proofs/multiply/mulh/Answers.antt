-- The casts and the product lose nothing.
use Rattle.std.proofs.Common.{rules, arith, w64}
use Rattle.std.specs.Int.{w128}
use Rattle.std.specs.Int.RustNames.{FitsSigned}
use Rattle.std.proofs.lemmas.Int.{to_z-of_z}
use Rattle.pw_hart.proofs.Products.{product_fits}
use Rattle.pw_hart.proofs.multiply.mulh.Goals as goal

pub returns : goal.returns
returns c =
    let f : FitsSigned w64 c.cast_signed.result = search rules in
    let g : FitsSigned w64 c.cast_signed-2.result = search rules in
    let f' : FitsSigned w128 c.cast_signed.result = record { sfits = omega (arith, f.sfits) } in
    let g' : FitsSigned w128 c.cast_signed-2.result = record { sfits = omega (arith, g.sfits) } in
    let p = product_fits _ _ f g in
    let e = simp to_z-of_z at c.from.ensures in
    let d = simp to_z-of_z at c.from-2.ensures in
    let h = rw (e, d) at c.high.ensures in
    let i = simp to_z-of_z at h in
    rw (c.cast_signed.ensures, c.cast_signed-2.ensures) at i
