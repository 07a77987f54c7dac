-- Which symbols end an expression, and a phrase of a level.
use Rattle.std.proofs.Common.{◌≡◌, ◌≢◌, refl, sym, ◌∙◌, ap, subst, ℕ, suc, ◌<◌, ◌≤◌, Bool, true, false, Option, Some, None, arith}
use Rattle.pw_grammar.specs.declared.sort.Sort.{Sort}
use Rattle.pw_grammar.specs.declared.sort.Sort.TheVariants as s
use Rattle.pw_grammar.specs.Terminals.{binary_of, level_of}
use Rattle.pw_grammar.specs.Expressions.{IsOperator, binary_or}
use Rattle.pw_tree.specs.declared.operator.Bin.{Bin}

abbrev pub no_operator : Option Bin → Bool
no_operator None = true
no_operator (Some op) = false

-- no expression goes on with the symbol
abbrev pub ends_expression : Sort → Bool
ends_expression s.LeftParen = false
ends_expression s.LeftBracket = false
ends_expression s.Question = false
ends_expression x = no_operator (binary_of x)

abbrev pub EndsExpression : Sort → Type 0
EndsExpression x = ends_expression x ≡ true

-- no expression of the level m goes on with the symbol
pub record Stops (m : ℕ) (x : Sort) : Type 0 where
  pub paren : x ≢ s.LeftParen
  pub bracket : x ≢ s.LeftBracket
  pub operator : (op : Bin) → binary_of x ≡ Some op → m < level_of op

-- a symbol that is one of those ends an expression
pub ends_with : (x y : Sort) → x ≡ y → EndsExpression y → EndsExpression x
ends_with x y e h = subst EndsExpression (sym e) h

no_operator_is : (o : Option Bin) → no_operator o ≡ true → o ≡ None
no_operator_is None e = refl
no_operator_is (Some op) e = absurd (let f : false ≡ true = e in cc)

not_binary : (x : Sort) → EndsExpression x → binary_of x ≡ None
not_binary s.LeftParen e = refl
not_binary s.LeftBracket e = refl
not_binary s.Question e = refl
not_binary x e = no_operator_is (binary_of x) e

pub ends_no_question : (x : Sort) → EndsExpression x → x ≢ s.Question
ends_no_question x e = λ q. let f : false ≡ true = subst EndsExpression q e in cc

pub ends_stops : (m : ℕ) (x : Sort) → EndsExpression x → Stops m x
ends_stops m x e = record {
  paren = λ q. let f : false ≡ true = subst EndsExpression q e in cc;
  bracket = λ q. let f : false ≡ true = subst EndsExpression q e in cc;
  operator = λ op f. absurd (let g : None ≡ Some op = sym (not_binary x e) ∙ f in cc);
}

pub stops_less : (m n : ℕ) (x : Sort) → m ≤ n → Stops n x → Stops m x
stops_less m n x h r = record
    { paren = r.paren; bracket = r.bracket; operator = λ op e. let f : n < level_of op = r.operator op e in omega arith }

-- an operator ends what is tighter
pub operator_stops : (m : ℕ) (x : Sort) → IsOperator (suc m) x → Stops m x
operator_stops m x o = record {
  paren = λ q. let f : None ≡ Some o.0 = sym (ap binary_of q) ∙ o.1 in cc;
  bracket = λ q. let f : None ≡ Some o.0 = sym (ap binary_of q) ∙ o.1 in cc;
  operator = λ op e. let f : op ≡ o.0 = ap binary_or (sym e ∙ o.1) in let g : level_of op ≡ suc m = ap level_of f ∙ o.2 in omega (arith, g);
}

pub question_stops : (m : ℕ) (x : Sort) → x ≡ s.Question → Stops m x
question_stops m x q = record {
  paren = λ e. let f : s.Question ≡ s.LeftParen = sym q ∙ e in cc;
  bracket = λ e. let f : s.Question ≡ s.LeftBracket = sym q ∙ e in cc;
  operator = λ op e. absurd (let f : None ≡ Some op = sym (ap binary_of q) ∙ e in cc);
}
