-- The laws as proved over plain texts.
use Rattle.pw_lex.proofs.OneWay.{has_reading, not_both, one_list, one_fault}
use Rattle.pw_lex.proofs.laws.a_text_reads_in_one_way.Goals as goal

pub returns : goal.returns
returns c = record { has_reading = has_reading; not_both = not_both; one_list = one_list; one_fault = one_fault }
