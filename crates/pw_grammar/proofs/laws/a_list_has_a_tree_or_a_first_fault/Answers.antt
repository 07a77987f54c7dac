-- The four parts are laws of their own.
use Rattle.pw_grammar.proofs.Known.{one_tree}
use Rattle.pw_grammar.proofs.OneReading.{has_reading, not_both, one_fault}
use Rattle.pw_grammar.proofs.laws.a_list_has_a_tree_or_a_first_fault.Goals as goal

pub returns : goal.returns
returns c = record { has_reading = has_reading; not_both = not_both; one_tree = one_tree; one_fault = one_fault }
