-- The laws of the readers of binary operators, of choices, and of whole expressions.
use Rattle.std.proofs.Common.{◌≡◌, refl, sym, ◌∙◌, ap, subst, ℕ, zero, suc, ◌+◌, ◌-◌, ◌<◌, ◌≤◌, List, [], ◌∷◌, ◌++◌, length, Err, Bool, true, false, if◌then◌else◌, Option, Some, None, arith}
use Rattle.std.proofs.lemmas.List.{append-nil, append_assoc, length-append}
use Rattle.std.proofs.lemmas.Bool.{eqb-true}
use Rattle.std.specs.Bool.{◌==◌}
use Rattle.pw_grammar.specs.declared.sort.Sort.TheVariants as s
use Rattle.pw_grammar.specs.declared.error.SyntaxError.TheVariants.{At}
use Rattle.pw_grammar.specs.Terminals.{binary_of, level_of, sort, sort_of, is_same}
use Rattle.pw_grammar.specs.Expressions as g
use Rattle.pw_grammar.specs.Expressions.{spelled, IsAt, expression_tree, binary_or}
use Rattle.pw_grammar.specs.Reading.Steps.{on_option, Position, Parser, read_then, ◌>>=◌, pure, refuse, next_sort, sees, skip, finish}
use Rattle.pw_grammar.specs.Reading.Expressions as r
use Rattle.pw_grammar.proofs.Lawful.{Language, GoesOn, Lawful, Within, within, Seq, bind, leads_nowhere}
use Rattle.pw_grammar.proofs.Branches.{keeps, lawful_test, lawful_option, keeps_within, same_sorts}
use Rattle.pw_grammar.proofs.Tokens.{Sample, a_token}
use Rattle.pw_grammar.proofs.Parts.{AnExpression, expression_goes_on, ANode, lawful_finish, Then, lawful_then, keeps_then, WithExpression, lawful_with}
use Rattle.pw_grammar.proofs.LawfulExpressions.{is_no_end, lawful_equal}
use Rattle.pw_grammar.proofs.LawfulOperands.{lawful_fewer, lawful_none, expression_looser, Onward, AnOnward, onward_goes_on, lawful_stays, lawful_onward, same_node}
use Rattle.pw_grammar.proofs.LawfulPrefixes.{then_option, lawful_prefix}
use Rattle.pw_tree.specs.declared.operator.Bin.{Bin}
use Rattle.pw_tree.specs.declared.expr.Expr.{Expr, roll-Expr}
use Rattle.pw_tree.specs.declared.expr.ExprKind.{ExprKind}
use Rattle.pw_tree.specs.declared.expr.ExprKind.TheVariants as e
use Rattle.pw_lex.specs.declared.token.Token.{Token}
use Rattle.pw_lex.specs.declared.token.TokenKind.TheVariants as t

-- ---- a node, and what stands after it

node_then : {B : Type 0} (first line : ℕ) (kind : ExprKind) (M : Expr → Language B)
    → Within (Seq (ANode first line kind) M) (λ at b u x. M (roll-Expr (record { first = first; last = at - 1; line = line; kind = kind })) at b u x)
node_then first line kind M at b u x y = subst (λ a. M a at b u x) y.first.is
    (subst (λ v. M y.value at b v x) (sym (y.splits ∙ ap (λ v. v ++ y.back) y.first.empty))
    (subst (λ n. M y.value n b y.back x) (let z : length y.front ≡ 0 = ap length y.first.empty in omega (arith, z)) y.second))

lawful_node : {B : Type 0} (n first line : ℕ) (kind : ExprKind) (M : Expr → Language B) (f g : Expr → Parser B)
    → ((a : Expr) → Lawful n (M a) (f a) (g a))
    → Lawful n (λ at b u x. M (roll-Expr (record { first = first; last = at - 1; line = line; kind = kind })) at b u x)
    (finish first line kind >>= f) (finish first line kind >>= g)
lawful_node n first line kind M f g l = within (node_then first line kind M)
    (bind n (ANode first line kind) M _ _ f g (λ at a u x y o z. o) (lawful_finish n first line kind) l)

-- ---- operands after a left one

none_some : (op : Bin) → None ≡ Some op → ⊥
none_some op h = cc

same_op : (other op : Bin) → Some other ≡ Some op → other ≡ op
same_op other op h = cc

of_test : (level : ℕ) (other op : Bin) (t : Bool) → (level_of other == level) ≡ t → (if t then Some other else None) ≡ Some op
    → (Some other ≡ Some op) × (level_of op ≡ level)
of_test level other op true f h = (h, subst (λ o. level_of o ≡ level) (same_op other op h) (eqb-true (level_of other) level f))
of_test level other op false f h = absurd (none_some op h)

-- the operator is one of the level
of_level : (level : ℕ) (b : Option Bin) (op : Bin) → r.at_level level b ≡ Some op → (b ≡ Some op) × (level_of op ≡ level)
of_level level None op h = absurd (none_some op h)
of_level level (Some other) op h = of_test level other op (level_of other == level) refl h

count_binary : (first at : ℕ) (u v : List Token) (t : Token) → at ≡ first + length u →
    suc at + length v ≡ first + length (u ++ t ∷ v)
count_binary first at u v t e = omega (arith, e, length-append u (t ∷ v))

-- an operator and its right operand after a phrase, and what stands after those
binary_is : (level tighter first : ℕ) (left : Expr) (op : Bin) → level ≡ suc tighter
    → Within (Then (λ x. r.at_level level (binary_of x) ≡ Some op) (λ line. WithExpression tighter (λ right.
    (λ at b u x. Onward level level first (roll-Expr (record { first = first; last = at - 1; line = line; kind = e.Binary op left right })) at b u))))
    (AnOnward level level first left)
unfolding spelled IsAt expression_tree
binary_is level tighter first left op is_next at a u x y = record {
  onward = λ c is tree at_is.
      let b = y.second in
      let o : (binary_of (sort y.token) ≡ Some op) × (level_of op ≡ level) = of_level level (binary_of (sort y.token)) op y.sort_is in
      let z = b.second.onward (g.binary c y.token b.phrase)
      (tighter, omega arith, subst (λ n. IsAt n c) is_next is, (op, o.0, o.1 ∙ is_next), b.is)
      (same_node first _ _ y.token.line _ _ (count_binary first at (spelled c) (spelled b.phrase) y.token at_is)
      (ap (λ v. e.Binary op v (expression_tree (suc at) b.phrase)) tree
      ∙ (ap (λ n. e.Binary op (expression_tree first c) (expression_tree (suc n) b.phrase)) at_is
      ∙ ap (λ v. e.Binary v (expression_tree first c) (expression_tree (suc (first + length (spelled c))) b.phrase)) (sym (ap binary_or o.0)))))
      (count_binary first at (spelled c) (spelled b.phrase) y.token at_is) in
      record {
        phrase = z.phrase;
        is = z.is;
        spells = ap (λ v. spelled c ++ v) (y.splits ∙ ap (λ v. y.token ∷ v) b.splits)
            ∙ (sym (append_assoc (spelled c) (y.token ∷ spelled b.phrase) b.behind) ∙ z.spells);
        tree = z.tree;
      };
}

end_has_no_operator : (level : ℕ) (op : Bin) → r.at_level level (binary_of s.End) ≡ Some op → ⊥
end_has_no_operator level op e = cc

-- where the next symbol is this operator, or none
chain_at : ℕ → Parser Expr → ℕ → ℕ → Expr → Option Bin → Parser Expr
chain_at level operand m first left None = pure left
chain_at level operand m first left (Some op) = skip >>= (λ line. operand >>= (λ right.
    finish first line (e.Binary op left right) >>= r.chain level operand m first))

chain_by : (level : ℕ) (operand : Parser Expr) (m first : ℕ) (left : Expr) (b : Option Bin) (i : Position)
    → read_then (r.binary_by b i) (λ x. on_option x (pure left) (λ op. operand >>= (λ right.
    finish first op.1 (e.Binary op.0 left right) >>= r.chain level operand m first))) ≡ chain_at level operand m first left b i
unfolding chain_at
chain_by level operand m first left None i = refl
chain_by level operand m first left (Some op) i = then_option (skip i) op (pure left) _

chain_is : (level : ℕ) (operand : Parser Expr) (m first : ℕ) (left : Expr) (i : Position)
    → r.chain level operand (suc m) first left i ≡ chain_at level operand m first left (r.at_level level (binary_of (next_sort i))) i
unfolding r.chain r.binary_operator
chain_is level operand m first left i = chain_by level operand m first left (r.at_level level (binary_of (next_sort i))) i

lawful_chain : (n m level tighter first : ℕ) (p q : Parser Expr) (left : Expr) → level ≡ suc tighter → m ≤ suc n
    → Lawful (suc n) (AnExpression tighter) p q
    → Lawful m (AnOnward level level first left) (r.chain level p m first left) (r.chain level q (suc m) first left)
unfolding chain_at r.chain
lawful_chain n zero level tighter first p q left is_next less l =
    lawful_none 0 (AnOnward level level first left) _ _ _ (lawful_stays 0 level level first left (omega arith))
lawful_chain n (suc m) level tighter first p q left is_next less l =
    lawful_equal (suc m) (AnOnward level level first left) _ _ _ _ (chain_is level p m first left) (chain_is level q (suc m) first left)
    (lawful_option (λ x. r.at_level level (binary_of x)) (suc m) (AnOnward level level first left) (chain_at level p m first left) (chain_at level q (suc m) first left)
    (keeps _ (suc m) (AnOnward level level first left) _ _ (lawful_stays (suc m) level level first left (omega arith)))
    (λ op. keeps_within (λ x. r.at_level level (binary_of x) ≡ Some op) (suc m) _ _ _ _ (binary_is level tighter first left op is_next)
    (keeps_then (λ x. r.at_level level (binary_of x) ≡ Some op) m _ _ _ (end_has_no_operator level op) (λ line.
    lawful_with m tighter _ p q _ _ (lawful_fewer (suc n) m (AnExpression tighter) p q (omega arith) l) (λ right.
    lawful_node m first line (e.Binary op left right) _ _ _ (λ whole. lawful_chain n m level tighter first p q whole is_next (omega arith) l)))))
    (λ at. onward_goes_on level level first left at (omega arith)))

-- an expression of the level k + 2
lawful_level : (n k : ℕ) (p q : Parser Expr) → Lawful n (AnExpression 13) p q
    → Lawful (suc n) (AnExpression (k + 2)) (r.level p (suc n) k) (r.level q (suc (suc n)) k)
unfolding r.level
lawful_level n zero p q l = lawful_prefix n p q l
lawful_level n (suc k) p q l = lawful_onward (suc n) (suc k + 2) (suc k + 2) _ _ _ _
    (within (expression_looser (k + 2) (suc k + 2) (omega arith)) (lawful_level n k p q l))
    (λ first a. lawful_chain n (suc n) (suc k + 2) (k + 2) first _ _ a (omega arith) (omega arith) (lawful_level n k p q l))

-- ---- choices

question : Sample s.Question
unfolding sort_of
question = record { token = a_token (t.Punct 29); sort_is = refl; no_else = λ p. cc; no_end = λ p. cc }

colon : Sample s.Colon
unfolding sort_of
colon = record { token = a_token (t.Punct 30); sort_is = refl; no_else = λ p. cc; no_end = λ p. cc }

count_choice : (first at : ℕ) (u v w : List Token) (q c : Token) → at ≡ first + length u
    → suc (suc at + length v) + length w ≡ first + length (u ++ q ∷ (v ++ c ∷ w))
count_choice first at u v w q c e = omega (arith, e, length-append u (q ∷ (v ++ c ∷ w)), length-append v (c ∷ w))

-- `? a : b` after a phrase
branches_are : (first : ℕ) (test : Expr) → Within (Then (λ x. is_same x s.Question ≡ true) (λ line. WithExpression 13 (λ a.
    Then (λ x. x ≡ s.Colon) (λ o. WithExpression 13 (λ b. ANode first line (e.Cond test a b)))))) (AnOnward 12 13 first test)
unfolding spelled IsAt expression_tree
branches_are first test at value u x y =
    let a = y.second in
    let o = a.second in
    let b = o.second in
    record {
      onward = λ c is tree at_is. record {
        phrase = g.choice c y.token a.phrase o.token b.phrase;
        is = (omega arith, is, same_sorts (sort y.token) s.Question y.sort_is, a.is, o.sort_is, b.is);
        spells = ap (λ v. spelled c ++ v) (y.splits ∙ ap (λ v. y.token ∷ v) (a.splits ∙ ap (λ v. spelled a.phrase ++ v)
            (o.splits ∙ ap (λ v. o.token ∷ v) (b.splits ∙ (ap (λ v. spelled b.phrase ++ v) b.second.empty ∙ append-nil (spelled b.phrase))))));
        tree = b.second.is ∙ same_node first _ _ y.token.line _ _
            (count_choice first at (spelled c) (spelled a.phrase) (spelled b.phrase) y.token o.token at_is)
            (ap (λ v. e.Cond v (expression_tree (suc at) a.phrase) (expression_tree (suc (suc at + length (spelled a.phrase))) b.phrase)) tree
            ∙ ap (λ n. e.Cond (expression_tree first c) (expression_tree (suc n) a.phrase) (expression_tree (suc (suc n + length (spelled a.phrase))) b.phrase)) at_is);
      };
    }

lawful_choice : (n : ℕ) (p q : Parser Expr) → Lawful n (AnExpression 13) p q
    → Lawful (suc n) (AnExpression 13) (r.choice p (suc n)) (r.choice q (suc (suc n)))
unfolding r.choice r.branches sees
lawful_choice n p q l = lawful_onward (suc n) 12 13 _ _ _ _ (lawful_level n 10 p q l)
    (λ first test. lawful_test (λ x. is_same x s.Question) (suc n) (AnOnward 12 13 first test) _ _ _ _
    (keeps_within (λ x. is_same x s.Question ≡ true) (suc n) _ _ _ _ (branches_are first test)
    (keeps_then (λ x. is_same x s.Question ≡ true) n _ _ _ (is_no_end s.Question (λ z. cc)) (λ line. lawful_with n 13 _ p q _ _ l
    (λ a. lawful_then n s.Colon _ _ _ colon (λ o. lawful_with n 13 _ p q _ _ l (λ b. lawful_finish n first line (e.Cond test a b)))))))
    (keeps _ (suc n) (AnOnward 12 13 first test) _ _ (lawful_stays (suc n) 12 13 first test (omega arith)))
    (λ at. onward_goes_on 12 13 first test at (omega arith)))

-- ---- expressions

refuse_stops : {A : Type 0} (L : Language A) → ((at : ℕ) → GoesOn L at []) → (q : Parser A) → Lawful 0 L refuse q
refuse_stops L can q = record {
  settled = λ i short. absurd (let none : length i.rest < 0 = short in omega arith);
  says = λ i. record { tokens = []; place = i; leads = leads_nowhere i; is = refl; goes_on = can i.at };
  steady = λ k i j same m is near. ap (λ at. Err (At at)) (sym same.at);
  can = can;
}

pub lawful_expression : (n : ℕ) → Lawful n (AnExpression 13) (r.expression n) (r.expression (suc n))
unfolding r.expression
lawful_expression zero = refuse_stops (AnExpression 13) (λ at. expression_goes_on 13 at) _
lawful_expression (suc n) = lawful_choice n (r.expression n) (r.expression (suc n)) (lawful_expression n)
