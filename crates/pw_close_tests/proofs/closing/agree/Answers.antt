-- Levels that closing gives have parents, by the law of levels.
use Rattle.pw_close_tests.proofs.closing.agree.Goals as goal

pub path-requires-clause-parents : goal.path-requires-clause-parents
path-requires-clause-parents g c = c.kept_functions_have_levels.ensures.lower _ _ c.in_ok-levels.ensures
