-- An expression of a level is a chain of operands of the level below.
use Rattle.std.proofs.Common.{◌≡◌, ℕ, suc, ◌+◌, ◌-◌, ◌<◌, ◌≤◌, sym, ap, ◌∙◌, arith}
use Rattle.pw_grammar.specs.Reading.Steps.{Position, Parser, read_then, refuse}
use Rattle.pw_grammar.specs.Reading.Expressions.{level, chain, prefix, choice, expression}
use Rattle.pw_tree.specs.declared.expr.Expr.{Expr}

pub looser : (expr : Parser Expr) (n l : ℕ) (i : Position) → 2 < l
    → level expr n (l - 2) i ≡ read_then (level expr n (l - 1 - 2) i) (chain l (level expr n (l - 1 - 2)) n i.at)
unfolding level
looser expr n l i above =
    let k : ℕ = l - 1 - 2 in
    let one_more : l - 2 ≡ suc k = omega (arith, above) in
    let same : suc k + 2 ≡ l = omega (arith, above) in
    ap (λ m. level expr n m i) one_more ∙ ap (λ m. read_then (level expr n k i) (chain m (level expr n k) n i.at)) same

pub tightest : (expr : Parser Expr) (n l : ℕ) (i : Position) → l ≤ 2 → prefix expr n i ≡ level expr n (l - 2) i
unfolding level
tightest expr n l i below = let none : 0 ≡ l - 2 = omega (arith, below) in ap (λ m. level expr n m i) none

-- an expression is a choice of expressions that nest less deep
pub less_deep : (n : ℕ) (i : Position) → 0 < n → choice (expression (n - 1)) n i ≡ expression n i
unfolding expression
less_deep n i above =
    let one_more : n ≡ suc (n - 1) = omega (arith, above) in
    ap (λ m. choice (expression (n - 1)) m i) one_more ∙ ap (λ m. expression m i) (sym one_more)

pub too_deep : (n : ℕ) (i : Position) → n ≡ 0 → expression n i ≡ refuse i
unfolding expression
too_deep n i none = ap (λ m. expression m i) none
