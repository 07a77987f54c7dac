-- One parent more.
use Rattle.std.proofs.Common.{rules, refl, subst, sym}
use Rattle.std.specs.Prelude.{IsSome}
use Rattle.pw_close.proofs.Ways.{first_climb, more_climb, last_climb, next_up, parent_in_range, parent_read}
use Rattle.pw_close.proofs.way.climbed.Goals as goal

pub index-requires : goal.index-requires
index-requires c =
    let low = parent_in_range c.args.levels.now _ _ c.requires.parents c.loop-edge.invariant.1 in search rules

pub unwrap-at-requires : goal.unwrap-at-requires
unwrap-at-requires c =
    let low = parent_in_range c.args.levels.now _ _ c.requires.parents c.loop-edge.invariant.1 in
    let up = next_up c.args.levels.now _ _ _ c.requires.parents c.loop-edge.invariant.1 c.loop-edge-test.true in
    subst IsSome (sym (parent_read c.args.levels.now _ _ _ low c.index.ensures up.1)) refl

pub loop-edge-init : goal.loop-edge-init
loop-edge-init c = first_climb _ _ _ _ _ c.new-path.ensures.items c.in_ok-append.ensures c.requires.level

pub loop-edge-preserved : goal.loop-edge-preserved
loop-edge-preserved c =
    more_climb _ _ _ _ _ _ _ _ _ c.requires.parents c.loop-edge.invariant c.loop-edge-test.true c.index.ensures c.unwrap-at.ensures c.in_ok-append-2.ensures

pub returns : goal.returns
returns c =
    last_climb _ _ _ _ _ _ _ c.requires.level c.loop-edge.invariant c.loop-edge-test.false c.loop-edge.auto._edge-end c.reverse.ensures.items
