-- The laws of the readers of expressions.
use Rattle.std.proofs.Common.{◌≡◌, ◌≢◌, refl, sym, ◌∙◌, ap, subst, ℕ, suc, ◌+◌, ◌-◌, [], ◌∷◌, ◌++◌, length, inl, inr, true, false, if◌then◌else◌, arith}
use Rattle.std.proofs.lemmas.List.{append-nil, length-append}
use Rattle.pw_grammar.specs.declared.sort.Sort.{Sort}
use Rattle.pw_grammar.specs.declared.sort.Sort.TheVariants as s
use Rattle.pw_grammar.specs.Terminals.{sort, sort_of, is_same}
use Rattle.pw_grammar.specs.Expressions.{identifier, constant, bracketed, input, output, spelled, IsAt, IsConstantSymbol, expression_tree, name_in, value_in, is_unsigned_constant}
use Rattle.pw_grammar.specs.Reading.Steps.{Position, Parser, refuse, next_sort, take}
use Rattle.pw_grammar.specs.Reading.Expressions as r
use Rattle.pw_grammar.proofs.Lawful.{Language, GoesOn, Says, Same, Lawful, Within, Seq, Pure, lawful_pure}
use Rattle.pw_grammar.proofs.Branches.{Keeps, keeps, keeps_refuse, lawful_test, keeps_within, keeps_bind_from, same_sorts}
use Rattle.pw_grammar.proofs.Tokens.{AToken, Sample, a_token, a_token_is_lax, keeps_take, take_shrinks}
use Rattle.pw_grammar.proofs.Parts.{AnExpression, expression_goes_on, ANode, lawful_finish, Here, keeps_from, Then, lawful_then, keeps_then, WithExpression, lawful_with}
use Rattle.pw_tree.specs.declared.expr.Expr.{Expr, roll-Expr}
use Rattle.pw_tree.specs.declared.expr.ExprKind.TheVariants as e
use Rattle.pw_lex.specs.declared.token.TokenKind.TheVariants as t

-- ---- primary expressions

pub paren : Sample s.RightParen
unfolding sort_of
paren = record { token = a_token (t.Punct 1); sort_is = refl; no_else = λ p. cc; no_end = λ p. cc }

pub left_paren : Sample s.LeftParen
unfolding sort_of
left_paren = record { token = a_token (t.Punct 0); sort_is = refl; no_else = λ p. cc; no_end = λ p. cc }

pub is_no_end : (z : Sort) → s.End ≢ z → is_same s.End z ≡ true → ⊥
is_no_end z other e = other (same_sorts s.End z e)

count_output : (at n m : ℕ) → m ≡ n + 1 → suc (suc (suc at) + n) ≡ at + suc (suc m)
count_output at n m e = omega arith

-- `( e )`, once the bracket was seen
bracketed_is : (n : ℕ) →
    Within (Then (λ x. is_same x s.LeftParen ≡ true) (λ o. WithExpression 13 (λ a. Then (λ x. x ≡ s.RightParen) (λ c. Pure a)))) (AnExpression n)
unfolding spelled IsAt expression_tree
bracketed_is n at a u x o =
    let b = o.second in
    let c = b.second in
    record {
      phrase = bracketed o.token b.phrase c.token;
      is = (same_sorts (sort o.token) s.LeftParen o.sort_is, b.is, c.sort_is);
      spells = o.splits ∙ ap (λ v. o.token ∷ v) (b.splits ∙ ap (λ v. spelled b.phrase ++ v) (c.splits ∙ ap (λ v. c.token ∷ v) c.second.empty));
      tree = c.second.is;
    }

lawful_bracketed : (n m : ℕ) (p q : Parser Expr) → Lawful n (AnExpression 13) p q
    → Keeps (λ x. is_same x s.LeftParen ≡ true) (suc n) (AnExpression m) (r.bracketed p) (r.bracketed q)
unfolding r.bracketed
lawful_bracketed n m p q l = keeps_within (λ x. is_same x s.LeftParen ≡ true) (suc n) _ _ _ _ (bracketed_is m)
    (keeps_then (λ x. is_same x s.LeftParen ≡ true) n _ _ _ (is_no_end s.LeftParen (λ z. cc)) (λ o. lawful_with n 13 _ p q _ _ l
    (λ a. lawful_then n s.RightParen _ _ _ paren (λ c. lawful_pure n a))))

-- `__out ( e )`
output_is : (n : ℕ) →
    Within (Here (λ first. Then (λ x. is_same x s.Output ≡ true) (λ line. Then (λ x. x ≡ s.LeftParen) (λ o. WithExpression 13 (λ a.
    Then (λ x. x ≡ s.RightParen) (λ c. ANode first line (e.Output a))))))) (AnExpression n)
unfolding spelled IsAt expression_tree
output_is n at a u x k =
    let o = k.second in
    let b = o.second in
    let c = b.second in
    record {
      phrase = output k.token o.token b.phrase c.token;
      is = (same_sorts (sort k.token) s.Output k.sort_is, o.sort_is, b.is, c.sort_is);
      spells = k.splits ∙ ap (λ v. k.token ∷ v) (o.splits ∙ ap (λ v. o.token ∷ v) (b.splits ∙ ap (λ v. spelled b.phrase ++ v) (c.splits ∙ ap (λ v. c.token ∷ v) c.second.empty)));
      tree = c.second.is ∙ ap (λ n. roll-Expr (record { first = at; last = n - 1; line = k.token.line; kind = e.Output (expression_tree (suc (suc at)) b.phrase) }))
          (count_output at (length (spelled b.phrase)) _ (length-append (spelled b.phrase) (c.token ∷ [])));
    }

lawful_output : (n m : ℕ) (p q : Parser Expr) → Lawful n (AnExpression 13) p q
    → Keeps (λ x. is_same x s.Output ≡ true) (suc n) (AnExpression m) (r.output p) (r.output q)
unfolding r.output
lawful_output n m p q l = keeps_within (λ x. is_same x s.Output ≡ true) (suc n) _ _ _ _ (output_is m)
    (keeps_from (λ x. is_same x s.Output ≡ true) (suc n) _ _ _ (λ first. keeps_then (λ x. is_same x s.Output ≡ true) n _ _ _ (is_no_end s.Output (λ z. cc))
    (λ line. lawful_then n s.LeftParen _ _ _ left_paren (λ o. lawful_with n 13 _ p q _ _ l
    (λ a. lawful_then n s.RightParen _ _ _ paren (λ c. lawful_finish n first line (e.Output a)))))))

-- a name
identifier_is : (m : ℕ) (c : Sort → Type 0) → ((x : Sort) → c x → x ≡ s.Name)
    → Within (Here (λ first. Seq (AToken c) (λ t. ANode first t.line (e.Word (name_in t.kind))))) (AnExpression m)
unfolding spelled IsAt expression_tree
identifier_is m c named at a u x y = record {
  phrase = identifier y.value;
  is = named (sort y.value) y.first.sort_is;
  spells = y.splits ∙ (ap (λ v. y.front ++ v) y.second.empty ∙ (append-nil y.front ∙ y.first.is));
  tree = y.second.is ∙ ap (λ n. roll-Expr (record { first = at; last = n - 1; line = y.value.line; kind = e.Word (name_in y.value.kind) }))
      (ap (λ v. at + length v) y.first.is);
}

lawful_identifier : (n m : ℕ) (c : Sort → Type 0) → ((x : Sort) → c x → x ≡ s.Name) → (c s.End → ⊥)
    → Keeps c (suc n) (AnExpression m) r.identifier r.identifier
unfolding r.identifier
lawful_identifier n m c named ends = keeps_within c (suc n) _ _ _ _ (identifier_is m c named)
    (keeps_from c (suc n) _ _ _ (λ first. keeps_bind_from c (suc n) n (AToken c) _ take take _ _ (a_token_is_lax c)
    (keeps_take c ends (suc n)) (λ t. lawful_finish n first t.line (e.Word (name_in t.kind))) (take_shrinks n)))

-- a number or a character
constant_is : (m : ℕ) (c : Sort → Type 0) → ((x : Sort) → c x → IsConstantSymbol x)
    → Within (Here (λ first. Seq (AToken c) (λ t. ANode first t.line (e.Num (value_in t.kind) (is_unsigned_constant t.kind))))) (AnExpression m)
unfolding spelled IsAt expression_tree
constant_is m c named at a u x y = record {
  phrase = constant y.value;
  is = named (sort y.value) y.first.sort_is;
  spells = y.splits ∙ (ap (λ v. y.front ++ v) y.second.empty ∙ (append-nil y.front ∙ y.first.is));
  tree = y.second.is ∙ ap (λ n. roll-Expr (record { first = at; last = n - 1; line = y.value.line; kind = e.Num (value_in y.value.kind) (is_unsigned_constant y.value.kind) }))
      (ap (λ v. at + length v) y.first.is);
}

lawful_constant : (n m : ℕ) (c : Sort → Type 0) → ((x : Sort) → c x → IsConstantSymbol x) → (c s.End → ⊥)
    → Keeps c (suc n) (AnExpression m) r.constant r.constant
unfolding r.constant
lawful_constant n m c named ends = keeps_within c (suc n) _ _ _ _ (constant_is m c named)
    (keeps_from c (suc n) _ _ _ (λ first. keeps_bind_from c (suc n) n (AToken c) _ take take _ _ (a_token_is_lax c)
    (keeps_take c ends (suc n)) (λ t. lawful_finish n first t.line (e.Num (value_in t.kind) (is_unsigned_constant t.kind))) (take_shrinks n)))

-- `__in ( )`
input_is : (n : ℕ) → Within (Here (λ first. Then (λ x. is_same x s.Input ≡ true) (λ line. Then (λ x. x ≡ s.LeftParen) (λ o.
    Then (λ x. x ≡ s.RightParen) (λ c. ANode first line e.Input))))) (AnExpression n)
unfolding spelled IsAt expression_tree
input_is n at a u x k =
    let o = k.second in
    let c = o.second in
    record {
      phrase = input k.token o.token c.token;
      is = (same_sorts (sort k.token) s.Input k.sort_is, o.sort_is, c.sort_is);
      spells = k.splits ∙ ap (λ v. k.token ∷ v) (o.splits ∙ ap (λ v. o.token ∷ v) (c.splits ∙ ap (λ v. c.token ∷ v) c.second.empty));
      tree = c.second.is ∙ ap (λ n. roll-Expr (record { first = at; last = n - 1; line = k.token.line; kind = e.Input })) (omega arith);
    }

lawful_input : (n m : ℕ) → Keeps (λ x. is_same x s.Input ≡ true) (suc n) (AnExpression m) r.input r.input
unfolding r.input
lawful_input n m = keeps_within (λ x. is_same x s.Input ≡ true) (suc n) _ _ _ _ (input_is m)
    (keeps_from (λ x. is_same x s.Input ≡ true) (suc n) _ _ _ (λ first. keeps_then (λ x. is_same x s.Input ≡ true) n _ _ _ (is_no_end s.Input (λ z. cc))
    (λ line. lawful_then n s.LeftParen _ _ _ left_paren (λ o.
    lawful_then n s.RightParen _ _ _ paren (λ c. lawful_finish n first line e.Input)))))

-- the reader of a primary expression, as one test after another
primary_tests : Parser Expr → Sort → Parser Expr
primary_tests p x = λ i. if is_same x s.Name then r.identifier i else (if is_same x s.Number then r.constant i else
    (if is_same x s.Character then r.constant i else (if is_same x s.LeftParen then r.bracketed p i else
    (if is_same x s.Input then r.input i else (if is_same x s.Output then r.output p i else refuse i)))))

primary_is_tests : (p : Parser Expr) (x : Sort) → r.primary_by p x ≡ primary_tests p x
unfolding is_same primary_tests
primary_is_tests p s.Name = refl
primary_is_tests p s.Number = refl
primary_is_tests p s.Character = refl
primary_is_tests p s.LeftParen = refl
primary_is_tests p s.Input = refl
primary_is_tests p s.Output = refl
primary_is_tests p _ = refl

-- the laws of readers that give the same outcomes
pub lawful_equal : {A : Type 0} (n : ℕ) (L : Language A) (p q p' q' : Parser A) → ((i : Position) → p i ≡ p' i) →
    ((i : Position) → q i ≡ q' i)
    → Lawful n L p' q' → Lawful n L p q
lawful_equal n L p q p' q' left right l = record {
  settled = λ i short. left i ∙ (l.settled i short ∙ sym (right i));
  says = λ i. subst (λ o. Says L i o) (sym (left i)) (l.says i);
  steady = λ k i j same. subst (λ o. Same k o (p j)) (sym (left i)) (subst (λ o. Same k (p' i) o) (sym (left j)) (l.steady k i j same));
  can = l.can;
}

pub lawful_primary : (n m : ℕ) (p q : Parser Expr) → Lawful n (AnExpression 13) p q →
    Lawful (suc n) (AnExpression m) (r.primary p) (r.primary q)
unfolding r.primary primary_tests
lawful_primary n m p q l = lawful_equal (suc n) (AnExpression m) _ _ (λ i. primary_tests p (next_sort i) i) (λ i. primary_tests q (next_sort i) i)
    (λ i. ap (λ f. f i) (primary_is_tests p (next_sort i))) (λ i. ap (λ f. f i) (primary_is_tests q (next_sort i)))
    (lawful_test (λ x. is_same x s.Name) (suc n) L _ _ _ _
    (lawful_identifier n m (λ x. is_same x s.Name ≡ true) (λ x e. same_sorts x s.Name e) (is_no_end s.Name (λ z. cc))) (keeps _ (suc n) L _ _
    (lawful_test (λ x. is_same x s.Number) (suc n) L _ _ _ _
    (lawful_constant n m (λ x. is_same x s.Number ≡ true) (λ x e. inl (same_sorts x s.Number e)) (is_no_end s.Number (λ z. cc))) (keeps _ (suc n) L _ _
    (lawful_test (λ x. is_same x s.Character) (suc n) L _ _ _ _
    (lawful_constant n m (λ x. is_same x s.Character ≡ true) (λ x e. inr (same_sorts x s.Character e)) (is_no_end s.Character (λ z. cc))) (keeps _ (suc n) L _ _
    (lawful_test (λ x. is_same x s.LeftParen) (suc n) L _ _ _ _ (lawful_bracketed n m p q l) (keeps _ (suc n) L _ _
    (lawful_test (λ x. is_same x s.Input) (suc n) L _ _ _ _ (lawful_input n m) (keeps _ (suc n) L _ _
    (lawful_test (λ x. is_same x s.Output) (suc n) L _ _ _ _ (lawful_output n m p q l)
    (keeps_refuse (λ x. is_same x s.Output ≡ false) (suc n) L can) can)) can)) can)) can)) can)) can)
  where
    L : Language Expr
    L = AnExpression m

    can : (at : ℕ) → GoesOn (AnExpression m) at []
    can at = expression_goes_on m at
