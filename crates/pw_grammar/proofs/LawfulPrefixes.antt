-- The laws of the readers of prefix operators.
use Rattle.std.proofs.Common.{◌≡◌, refl, sym, ◌∙◌, ap, subst, ℕ, zero, suc, ◌+◌, ◌-◌, List, [], ◌∷◌, ◌++◌, length, Ok, Err, Option, Some, None, arith}
use Rattle.std.proofs.lemmas.List.{append-nil, append_assoc, length-append}
use Rattle.std.specs.Bool.{⊤}
use Rattle.pw_grammar.specs.declared.sort.Sort.TheVariants as s
use Rattle.pw_grammar.specs.Terminals.{prefix_of, sort}
use Rattle.pw_grammar.specs.Expressions as g
use Rattle.pw_grammar.specs.Expressions.{ExpressionDerivation, spelled, IsAt, expression_tree, IsPrefixOperator, prefix_or, prefix_operator_in}
use Rattle.pw_grammar.specs.Reading.Steps.{on_option, Position, ReadResult, Parser, read_then, ◌>>=◌, pure, next_sort, skip}
use Rattle.pw_grammar.specs.Reading.Expressions as r
use Rattle.pw_grammar.proofs.Lawful.{Language, GoesOn, Lawful, Within, within, Seq, bind, Pure, lawful_pure, leads_nowhere}
use Rattle.pw_grammar.proofs.Branches.{keeps_pure, lawful_option, keeps_within}
use Rattle.pw_grammar.proofs.Parts.{AnExpression, Here, lawful_from, Then, keeps_then, WithExpression, lawful_with}
use Rattle.pw_grammar.proofs.LawfulExpressions.{lawful_equal}
use Rattle.pw_grammar.proofs.LawfulOperands.{lawful_none, looser, lawful_postfix}
use Rattle.pw_tree.specs.declared.operator.Un.{Un}
use Rattle.pw_tree.specs.declared.expr.Expr.{Expr, roll-Expr}
use Rattle.pw_tree.specs.declared.expr.ExprKind.TheVariants as e
use Rattle.pw_lex.specs.declared.token.Token.{Token}

-- ---- an operator that may come next

-- one reader instead of two, where the first answers an operator and its line
pub then_option : {A U : Type 0} (o : ReadResult ℕ) (op : U) (stop : Parser A) (f : U × ℕ → Parser A)
    → read_then (read_then o (λ line. pure (Some (op, line)))) (λ x. on_option x stop f) ≡ read_then o (λ line. f (op, line))
then_option (Ok p) op stop f = refl
then_option (Err fault) op stop f = refl

-- ---- operators before an operand

ArePrefixes : List Token → Type 0
ArePrefixes [] = ⊤
ArePrefixes (t ∷ ts) = IsPrefixOperator (sort t) × ArePrefixes ts

-- the operators that these tokens are, with their lines
operators_in : List Token → List (Un × ℕ)
operators_in [] = []
operators_in (t ∷ ts) = (prefix_operator_in t, t.line) ∷ operators_in ts

record HasOperators (found value : List (Un × ℕ)) (u : List Token) : Type 0 where
  are : ArePrefixes u
  is : value ≡ found ++ operators_in u

abbrev SomeOperators : List (Un × ℕ) → Language (List (Un × ℕ))
SomeOperators found = λ at a u x. HasOperators found a u

no_operators : (found : List (Un × ℕ)) → HasOperators found found []
unfolding ArePrefixes operators_in
no_operators found = record { are = tt; is = sym (append-nil found) }

operators_go_on : (found : List (Un × ℕ)) (at : ℕ) → GoesOn (SomeOperators found) at []
operators_go_on found at = record { rest = []; value = found; reads = λ x o. no_operators found; starts = λ e x o. o }

one_operator : (found : List (Un × ℕ)) (op : Un)
    → Within (Then (λ x. prefix_of x ≡ Some op) (λ line. SomeOperators (found ++ (op, line) ∷ []))) (SomeOperators found)
unfolding ArePrefixes operators_in
one_operator found op at a u x y = record {
  are = subst ArePrefixes (sym y.splits) ((op, y.sort_is), y.second.are);
  is = y.second.is ∙ (append_assoc found ((op, y.token.line) ∷ []) (operators_in y.behind)
      ∙ ap (λ v. found ++ v) (ap (λ b. (b, y.token.line) ∷ operators_in y.behind) (sym (ap prefix_or y.sort_is)) ∙ ap operators_in (sym y.splits)));
}

end_has_no_prefix : (op : Un) → prefix_of s.End ≡ Some op → ⊥
end_has_no_prefix op e = cc

-- where the next symbol is this operator, or none
operators_at : ℕ → List (Un × ℕ) → Option Un → Parser (List (Un × ℕ))
operators_at m found None = pure found
operators_at m found (Some op) = skip >>= (λ line. r.operators m (found ++ (op, line) ∷ []))

operators_by : (m : ℕ) (found : List (Un × ℕ)) (b : Option Un) (i : Position)
    → read_then (r.prefix_by b i) (λ x. on_option x (pure found) (λ op. r.operators m (found ++ op ∷ []))) ≡ operators_at m found b i
unfolding operators_at
operators_by m found None i = refl
operators_by m found (Some op) i = then_option (skip i) op (pure found) (λ op. r.operators m (found ++ op ∷ []))

operators_are : (m : ℕ) (found : List (Un × ℕ)) (i : Position) →
    r.operators (suc m) found i ≡ operators_at m found (prefix_of (next_sort i)) i
unfolding r.operators r.prefix_operator
operators_are m found i = operators_by m found (prefix_of (next_sort i)) i

lawful_operators : (m : ℕ) (found : List (Un × ℕ)) →
    Lawful m (SomeOperators found) (r.operators m found) (r.operators (suc m) found)
unfolding operators_at r.operators
lawful_operators zero found = lawful_none 0 (SomeOperators found) _ (pure found) _ none_read
  where
    inside : Within (Pure found) (SomeOperators found)
    inside at a u x y = subst (λ v. HasOperators found a v) (sym y.empty) (subst (λ b. HasOperators found b []) (sym y.is) (no_operators found))

    none_read : Lawful 0 (SomeOperators found) (r.operators 0 found) (pure found)
    none_read = within inside (lawful_pure 0 found)
lawful_operators (suc m) found = lawful_equal (suc m) (SomeOperators found) _ _ _ _ (operators_are m found) (operators_are (suc m) found)
    (lawful_option prefix_of (suc m) (SomeOperators found) (operators_at m found) (operators_at (suc m) found)
    (keeps_pure _ (suc m) (SomeOperators found) found (λ at x o. no_operators found))
    (λ op. keeps_within (λ x. prefix_of x ≡ Some op) (suc m) _ _ _ _ (one_operator found op)
    (keeps_then (λ x. prefix_of x ≡ Some op) m _ _ _ (end_has_no_prefix op) (λ line. lawful_operators m (found ++ (op, line) ∷ []))))
    (operators_go_on found))

-- ---- the operand after them

record IsWrapped (first : ℕ) (ops : List (Un × ℕ)) (operand : Expr) (at : ℕ) (a : Expr) (u : List Token) : Type 0 where
  is : a ≡ r.under_operators first (at - 1) ops operand
  empty : u ≡ []

abbrev AWrapped : ℕ → List (Un × ℕ) → Expr → Language Expr
AWrapped first ops operand = λ at a u x. IsWrapped first ops operand at a u

lawful_wrap : (n first : ℕ) (ops : List (Un × ℕ)) (operand : Expr)
    → Lawful n (AWrapped first ops operand) (r.wrap first ops operand) (r.wrap first ops operand)
unfolding r.wrap
lawful_wrap n first ops operand = record {
  settled = λ i short. refl;
  says = λ i. record { tokens = []; leads = leads_nowhere i; reads = record { is = refl; empty = refl } };
  steady = λ k i j same near. record { place = j; is = ap (λ at. Ok (r.under_operators first (at - 1) ops operand, j)) (sym same.at); agree = same };
  can = λ at. record { rest = []; value = _; reads = λ x o. record { is = refl; empty = refl }; starts = λ e x o. o };
}

-- the phrase after these operators
prefixes : List Token → ExpressionDerivation → ExpressionDerivation
prefixes [] c = c
prefixes (t ∷ ts) c = g.prefixed t (prefixes ts c)

prefixes_are : (ts : List Token) (c : ExpressionDerivation) → ArePrefixes ts → IsAt 2 c → IsAt 2 (prefixes ts c)
unfolding ArePrefixes prefixes IsAt
prefixes_are [] c are is = is
prefixes_are (t ∷ ts) c are is = (omega arith, are.0, prefixes_are ts c are.1 is)

prefixes_spell : (ts : List Token) (c : ExpressionDerivation) → spelled (prefixes ts c) ≡ ts ++ spelled c
unfolding prefixes spelled
prefixes_spell [] c = refl
prefixes_spell (t ∷ ts) c = ap (λ v. t ∷ v) (prefixes_spell ts c)

count_prefixes : (at last : ℕ) (t : Token) (ts u v : List Token) → v ≡ ts ++ u → last ≡ at + length ((t ∷ ts) ++ u) - 1 →
    last ≡ at + length (t ∷ v) - 1
count_prefixes at last t ts u v e f = omega (arith, ap length e, f)

prefixes_tree : (ts : List Token) (c : ExpressionDerivation) (at last : ℕ) → last ≡ at + length (ts ++ spelled c) - 1
    → r.under_operators at last (operators_in ts) (expression_tree (at + length ts) c) ≡ expression_tree at (prefixes ts c)
unfolding prefixes operators_in r.under_operators spelled expression_tree
prefixes_tree [] c at last last_is = ap (λ n. expression_tree n c) (omega arith)
prefixes_tree (t ∷ ts) c at last last_is =
    ap (λ l. roll-Expr (record { first = at; last = l; line = t.line; kind = e.Unary (prefix_operator_in t) (r.under_operators (suc at) last (operators_in ts) (expression_tree (at + suc (length ts)) c)) }))
    (count_prefixes at last t ts (spelled c) (spelled (prefixes ts c)) (prefixes_spell ts c) last_is)
    ∙ ap (λ a. roll-Expr (record { first = at; last = at + length (t ∷ spelled (prefixes ts c)) - 1; line = t.line; kind = e.Unary (prefix_operator_in t) a }))
    (ap (λ n. r.under_operators (suc at) last (operators_in ts) (expression_tree n c)) (omega arith) ∙ prefixes_tree ts c (suc at) last (omega (arith, last_is)))

count_operand : (at : ℕ) (u v : List Token) → at + length u + length v - 1 ≡ at + length (u ++ v) - 1
count_operand at u v = omega (arith, length-append u v)

prefix_is : Within (Here (λ first. Seq (SomeOperators []) (λ ops. WithExpression 1 (λ a. AWrapped first ops a)))) (AnExpression 2)
unfolding spelled
prefix_is at a u x y =
    let b = y.second in
    record {
      phrase = prefixes y.front b.phrase;
      is = prefixes_are y.front b.phrase y.first.are (looser 1 2 b.phrase (omega arith) b.is);
      spells = y.splits ∙ (ap (λ v. y.front ++ v) (b.splits ∙ (ap (λ v. spelled b.phrase ++ v) b.second.empty ∙ append-nil (spelled b.phrase)))
          ∙ sym (prefixes_spell y.front b.phrase));
      tree = b.second.is ∙ (ap (λ ops. r.under_operators at (at + length y.front + length (spelled b.phrase) - 1) ops (expression_tree (at + length y.front) b.phrase)) y.first.is
          ∙ prefixes_tree y.front b.phrase at _ (count_operand at y.front (spelled b.phrase)));
    }

pub lawful_prefix : (n : ℕ) (p q : Parser Expr) → Lawful n (AnExpression 13) p q
    → Lawful (suc n) (AnExpression 2) (r.prefix p (suc n)) (r.prefix q (suc (suc n)))
unfolding r.prefix
lawful_prefix n p q l = within prefix_is (lawful_from (suc n) _ _ _ (λ first. bind (suc n) (SomeOperators []) _ _ _ _ _ (λ at a u x y o z. o)
    (lawful_operators (suc n) []) (λ ops. lawful_with (suc n) 1 _ _ _ _ _ (lawful_postfix n p q l) (λ a. lawful_wrap (suc n) first ops a))))
