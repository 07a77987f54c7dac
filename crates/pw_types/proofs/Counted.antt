-- How many arguments and parameters a call has.
use Rattle.std.proofs.Common.{◌≡◌, suc, List, [], ◌∷◌, length, refl, ap}
use Rattle.pw_tree.specs.Expressions.{expressions_of}
use Rattle.pw_tree.specs.declared.expr.Expr.{Expr}
use Rattle.pw_types.specs.Expressions.{how_many}

pub how_many_phrases : (es : List Expr) → how_many (expressions_of es) ≡ length es
how_many_phrases [] = refl
how_many_phrases (e ∷ es) = ap suc (how_many_phrases es)
