-- The laws, from their proofs.
use Rattle.pw_close.proofs.Ways.{kept_by_ways, kept_have_levels, levels_are_kept, parents_are_lower}
use Rattle.pw_close.proofs.laws.kept_functions_have_levels.Goals as goal

pub returns-clause-ways : goal.returns-clause-ways
returns-clause-ways c = kept_by_ways

pub returns-clause-have : goal.returns-clause-have
returns-clause-have c = kept_have_levels

pub returns-clause-only : goal.returns-clause-only
returns-clause-only c = levels_are_kept

pub returns-clause-lower : goal.returns-clause-lower
returns-clause-lower c = parents_are_lower
