-- A number of 32 bits is loaded at once, and another one after its rest.
use Rattle.std.proofs.Common.{◌≡◌, ◌∙◌, sym, true, false, arith, ◌-◌, [], ◌∷◌}
use Rattle.std.specs.Int.RustNames.{FitsSigned}
use Rattle.std.specs.Int.{w32, w64}
use Rattle.std.proofs.lemmas.Int.{to_z-of_z}
use Rattle.std.proofs.lemmas.Result.{err_from_is_err_and}
use Rattle.pw_code.specs.LoadImmediate.{is_within, lower, rest, load_signed}
use Rattle.pw_code.proofs.Exports.{load_at_once, load_after_rest, shorter_rest, has_rest, narrow_fits}
use Rattle.pw_genexpr.proofs.Appending.{appends_after, prefix_of_more}
use Rattle.pw_genexpr.proofs.immediate.+put_signed.Goals as goal

pub returns-then-is_narrow : goal.returns-then-is_narrow
returns-then-is_narrow t c =
    let wide : FitsSigned w64 c.args.value = c.ranges.value in
    let narrow : is_within 31 c.args.value ≡ true = sym (simp to_z-of_z at c.is_narrow.ensures) ∙ c.if-is_narrow.true in
    let small : FitsSigned w32 c.args.value = narrow_fits c.args.value narrow in
    rw (load_at_once c.args.times c.args.rd c.args.value narrow) (simp to_z-of_z at c.put_32_bits.ensures)

pub put_signed-requires : goal.put_signed-requires
put_signed-requires t c =
    let value : FitsSigned w64 c.args.value = c.ranges.value in
    let shorter : FitsSigned w64 c.rest.result = record { sfits = c.rest.type_inv } in
    let wide : is_within 31 c.args.value ≡ false = sym (simp to_z-of_z at c.is_narrow.ensures) ∙ c.if-is_narrow.false in
    let some = has_rest c.args.times c.args.value c.requires.narrow wide in (
      omega arith,
      (
        c.requires.register,
        (
          omega arith,
          simp to_z-of_z (rw (simp to_z-of_z at c.rest.ensures) (shorter_rest c.args.times c.args.value c.requires.few value c.requires.narrow wide)),
        ),
      ),
    )

pub returns-in_err-put_signed : goal.returns-in_err-put_signed
returns-in_err-put_signed t c =
    let p = err_from_is_err_and c.from_residual.result c.from_residual.ensures.1 in
    let value : FitsSigned w64 c.args.value = c.ranges.value in
    let shorter : FitsSigned w64 c.rest.result = record { sfits = c.rest.type_inv } in
    let wide : is_within 31 c.args.value ≡ false = sym (simp to_z-of_z at c.is_narrow.ensures) ∙ c.if-is_narrow.false in
    rw (p.1, load_after_rest c.args.times c.args.rd c.args.value c.requires.narrow wide)
    (prefix_of_more (load_signed (c.args.times - 1) c.args.rd (rest c.args.value)) _ c.args.to.now.items c.put_signed.new.to.items
    (rw (sym (simp to_z-of_z at c.rest.ensures)) (simp to_z-of_z at c.in_err-put_signed.ensures)))

pub returns : goal.returns
returns t c =
    let value : FitsSigned w64 c.args.value = c.ranges.value in
    let shorter : FitsSigned w64 c.rest.result = record { sfits = c.rest.type_inv } in
    let low : FitsSigned w32 c.lower.result = record { sfits = c.lower.type_inv } in
    let wide : is_within 31 c.args.value ≡ false = sym (simp to_z-of_z at c.is_narrow.ensures) ∙ c.if-is_narrow.false in
    rw (load_after_rest c.args.times c.args.rd c.args.value c.requires.narrow wide)
    (appends_after (load_signed (c.args.times - 1) c.args.rd (rest c.args.value)) _ c.args.to.now.items c.put_signed.new.to.items
    c.put_instructions.new.to.items c.put_instructions.result
    (rw (sym (simp to_z-of_z at c.rest.ensures)) (simp to_z-of_z at c.in_ok-put_signed.ensures))
    (rw (sym (simp to_z-of_z at c.lower.ensures)) (simp to_z-of_z at c.put_instructions.ensures)))
