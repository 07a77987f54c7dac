use Rattle.pw_gen.proofs.function.+put_parameters.Given as goal

abbrev pub decreases-put_parameters : goal.decreases-put_parameters
decreases-put_parameters l = l.count
