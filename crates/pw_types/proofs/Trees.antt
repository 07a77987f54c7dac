-- The equations of typed trees, for the tactics of code that builds them.
use Rattle.pw_tree.proofs.TreeFolds.{tree_form_of-Num, tree_form_of-Local, tree_form_of-Var, tree_form_of-Fun, tree_form_of-Elem, tree_form_of-Unary, tree_form_of-Binary, tree_form_of-Cond, tree_form_of-Call, tree_form_of-CallPtr, tree_form_of-Input, tree_form_of-Output}

pub ruleset constant = tree_form_of-Num

pub ruleset input = tree_form_of-Input

pub ruleset names = (tree_form_of-Local, tree_form_of-Var, tree_form_of-Fun)

pub ruleset element = tree_form_of-Elem

pub ruleset unary = tree_form_of-Unary

pub ruleset binary = tree_form_of-Binary

pub ruleset choice = tree_form_of-Cond

pub ruleset calls = (tree_form_of-Call, tree_form_of-CallPtr)

pub ruleset output = tree_form_of-Output
