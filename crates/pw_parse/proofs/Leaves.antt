-- Expressions of one token.
use Rattle.std.proofs.Common.{◌≡◌, ℕ, Bool, true, false, if◌then◌else◌, List, [], ◌∷◌, Ok, ◌∙◌, sym, ap, arith}
use Rattle.std.proofs.lemmas.Grind.{common_steps}
use Rattle.pw_lex.specs.declared.token.Token.{Token}
use Rattle.pw_grammar.specs.declared.sort.Sort.TheVariants.{Name}
use Rattle.pw_grammar.specs.Expressions.{name_in, value_in, is_unsigned_constant}
use Rattle.pw_grammar.specs.Statements.{first_line}
use Rattle.pw_grammar.specs.Reading.Steps.{Position, Parser, take, take_from, name, sees, refuse, either, next_sort, read_then, pure, finish}
use Rattle.pw_grammar.specs.Terminals.{is_same}
use Rattle.pw_grammar.specs.Reading.Expressions.{constant, identifier, primary, primary_by}
use Rattle.pw_tree.specs.declared.expr.Expr.{Expr}
use Rattle.pw_tree.specs.declared.expr.ExprKind.TheVariants as e
use Rattle.pw_parse.specs.Steps.Values.{take_constant}

constant_from : (at : ℕ) (ts : List Token) (j : Position) (v : ℕ × Bool) (line : ℕ)
    → read_then (take_from at ts) (λ t. pure (value_in t.kind, is_unsigned_constant t.kind)) ≡ Ok (v, j) → line ≡ first_line ts
    → read_then (take_from at ts) (λ t. finish at t.line (e.Num (value_in t.kind) (is_unsigned_constant t.kind))) ≡ finish at line (e.Num v.0 v.1) j
unfolding take_from
constant_from at [] j v line h l = cc
constant_from at (t ∷ ts) j v line h l = grind (arith, common_steps)

pub constant_read : (i j : Position) (v : ℕ × Bool) (line : ℕ) → take_constant i ≡ Ok (v, j) → line ≡ first_line i.rest
    → constant i ≡ finish i.at line (e.Num v.0 v.1) j
unfolding constant take
constant_read i j v line h l = constant_from i.at i.rest j v line h l

name_from : (at : ℕ) (ts : List Token) (j : Position) (n : List ℕ) (line : ℕ)
    → read_then (take_from at ts) (λ t. pure (name_in t.kind)) ≡ Ok (n, j) → line ≡ first_line ts
    → read_then (take_from at ts) (λ t. finish at t.line (e.Word (name_in t.kind))) ≡ finish at line (e.Word n) j
unfolding take_from
name_from at [] j n line h l = cc
name_from at (t ∷ ts) j n line h l = grind (arith, common_steps)

name_if : (b : Bool) (i j : Position) (n : List ℕ) (line : ℕ)
    → (if b then read_then (take_from i.at i.rest) (λ t. pure (name_in t.kind)) else refuse i) ≡ Ok (n, j) → line ≡ first_line i.rest
    → (if b then identifier i else refuse i) ≡ finish i.at line (e.Word n) j
unfolding identifier take
name_if true i j n line h l = name_from i.at i.rest j n line h l
name_if false i j n line h l = cc

pub name_read : (i j : Position) (n : List ℕ) (line : ℕ) → name i ≡ Ok (n, j) → line ≡ first_line i.rest
    → either Name identifier refuse i ≡ finish i.at line (e.Word n) j
unfolding name take
name_read i j n line h l = name_if (sees Name i) i j n line h l

pub at_name : (expr : Parser Expr) (i : Position) → next_sort i ≡ Name → either Name identifier refuse i ≡ primary expr i
unfolding primary sees is_same
at_name expr i h = ap (λ x. if is_same x Name then identifier i else refuse i) h ∙ sym (ap (λ x. primary_by expr x i) h)
