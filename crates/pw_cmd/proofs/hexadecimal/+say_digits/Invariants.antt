-- The number of digits that are left falls with the number.
use Rattle.pw_cmd.proofs.hexadecimal.+say_digits.Given as goal

abbrev pub decreases-say_digits : goal.decreases-say_digits
decreases-say_digits g l = l.number
