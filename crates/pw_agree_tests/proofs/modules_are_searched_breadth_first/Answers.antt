-- The answer to the goal of `modules_are_searched_breadth_first` in `src/lib.rt`.
use Rattle.pw_agree_tests.proofs.BreadthFirst.{search_is_breadth_first}
use Rattle.pw_agree_tests.proofs.modules_are_searched_breadth_first.Goals as goal

pub returns : goal.returns
returns c = search_is_breadth_first
