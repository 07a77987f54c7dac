-- The row of one more record is appended.
use Rattle.std.proofs.Common.{◌≡◌, ◌<◌, [], ◌∷◌, ◌++◌, length, get_or, sym, ap, ◌∙◌, subst}
use Rattle.pw_place.proofs.MappedItems.{mapped_step}
use Rattle.pw_image.specs.Reported.{HasSymbol, row_of}
use Rattle.pw_image.proofs.report.rows.Goals as goal

pub row-requires : goal.row-requires
row-requires c =
    let records = c.args.placed.now.deps.funs in
    let r = c.r-item.result in
    let within : c.loop-n.n < length records = subst (λ l. c.loop-n.n < length l) c.as_slice-r-items.ensures c.loop-n-test.true in
    let there : r ≡ get_or records c.loop-n.n r = c.r-item.is ∙ ap (λ l. get_or l c.loop-n.n r) c.as_slice-r-items.ensures in
    subst (HasSymbol c.args.placed.now.symbols) (sym there) (c.requires c.loop-n.n r within)

pub loop-n-preserved : goal.loop-n-preserved
loop-n-preserved c =
    let records = c.args.placed.now.deps.funs in
    let r = c.r-item.result in
    let within : c.loop-n.n < length records = subst (λ l. c.loop-n.n < length l) c.as_slice-r-items.ensures c.loop-n-test.true in
    let there : r ≡ get_or records c.loop-n.n r = c.r-item.is ∙ ap (λ l. get_or l c.loop-n.n r) c.as_slice-r-items.ensures in
    mapped_step (row_of c.args.module.now c.args.placed.now c.args.levels.now) records c.loop-n.n r [] _ _ within there c.loop-n.invariant
    (c.in_ok-push.ensures.ok ∙ ap (λ row. c.loop-n.rows ++ row ∷ []) c.in_ok-row.ensures)
