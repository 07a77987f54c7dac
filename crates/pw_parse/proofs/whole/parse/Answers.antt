-- What was read is the tree, or the first fault.
use Rattle.pw_parse.proofs.Wholes.{derives_by, faultless_by, first_by}
use Rattle.pw_parse.proofs.whole.parse.Goals as goal

pub returns-in_ok-lines-in-Ok-clause-tree : goal.returns-in_ok-lines-in-Ok-clause-tree
returns-in_ok-lines-in-Ok-clause-tree c = derives_by c.args.tokens.now c.in-Ok.decls c.in_ok-lines-in-Ok.field-0 c.requires c.in-Ok.ensures c.in_ok-lines-in-Ok.ensures

pub returns-in_ok-lines-in-Ok-clause-no_fault : goal.returns-in_ok-lines-in-Ok-clause-no_fault
returns-in_ok-lines-in-Ok-clause-no_fault c = faultless_by c.args.tokens.now c.in-Ok.decls c.requires c.in-Ok.ensures

pub returns-in-Err-clause-first_fault : goal.returns-in-Err-clause-first_fault
returns-in-Err-clause-first_fault c = first_by c.args.tokens.now c.in-Err.fault c.requires c.in-Err.ensures
