-- The laws of the readers of operands: lists of arguments, calls and indices.
use Rattle.std.proofs.Common.{◌≡◌, refl, sym, ◌∙◌, ap, subst, ℕ, zero, suc, ◌+◌, ◌-◌, ◌<◌, ◌≤◌, List, [], ◌∷◌, ◌++◌, length, Ok, Err, true, false, arith}
use Rattle.std.proofs.lemmas.List.{append-nil, append_assoc, length-append}
use Rattle.pw_grammar.specs.declared.sort.Sort.{Sort}
use Rattle.pw_grammar.specs.declared.sort.Sort.TheVariants as s
use Rattle.pw_grammar.specs.Terminals.{sort, sort_of, is_same}
use Rattle.pw_grammar.specs.Expressions as g
use Rattle.pw_grammar.specs.Expressions.{ExpressionDerivation, Arguments, More, spelled, spelled_arguments, spelled_more, IsAt, AreArguments, AreMore, expression_tree, argument_trees, more_argument_trees}
use Rattle.pw_grammar.specs.Reading.Steps.{Position, ReadResult, Parser, read_then, ◌>>=◌, pure, sees, here, skip}
use Rattle.pw_grammar.specs.Reading.Expressions as r
use Rattle.pw_grammar.proofs.Lawful.{Language, GoesOn, Says, Lawful, Within, Lax, within, Seq, bind, Leaves, leaves_fewer, Pure, lawful_pure}
use Rattle.pw_grammar.proofs.Branches.{Keeps, keeps, keeps_pure, lawful_test, keeps_within, keeps_bind_from, same_sorts}
use Rattle.pw_grammar.proofs.Tokens.{Sample, a_token, skip_shrinks}
use Rattle.pw_grammar.proofs.Parts.{IsExpression, AnExpression, ANode, lawful_finish, Here, lawful_from, Then, lawful_then, keeps_then, WithExpression, lawful_with}
use Rattle.pw_grammar.proofs.LawfulExpressions.{paren, is_no_end, lawful_primary}
use Rattle.pw_tree.specs.declared.expr.Expr.{Expr, roll-Expr}
use Rattle.pw_tree.specs.declared.expr.ExprKind.{ExprKind}
use Rattle.pw_tree.specs.declared.expr.ExprKind.TheVariants as e
use Rattle.pw_lex.specs.declared.token.Token.{Token}
use Rattle.pw_lex.specs.declared.token.TokenKind.TheVariants as t

-- ---- fewer turns

pub lawful_fewer : {A : Type 0} (m n : ℕ) (L : Language A) (p q : Parser A) → n ≤ m → Lawful m L p q → Lawful n L p q
lawful_fewer m n L p q less l = record {
  settled = λ i short. l.settled i (let longer : length i.rest < m = omega arith in longer);
  says = l.says;
  steady = l.steady;
  can = l.can;
}

-- no turns are more than the tokens
pub lawful_none : {A : Type 0} (n : ℕ) (L : Language A) (p p' q : Parser A) → Lawful n L p p' → Lawful 0 L p q
lawful_none n L p p' q l = record {
  settled = λ i short. absurd (let none : length i.rest < 0 = short in omega arith);
  says = l.says;
  steady = l.steady;
  can = l.can;
}

leaves_both : {A B : Type 0} (n : ℕ) (M : A → Language B) (f : A → Parser B) → ((a : A) (j : Position) → Says (M a) j (f a j))
    → (o : ReadResult A) → Leaves n o → Leaves n (read_then o f)
leaves_both n M f says (Ok p) left = leaves_fewer (M p.0) p.1 n (f p.0 p.1) (says p.0 p.1) left
leaves_both n M f says (Err e) left = tt

-- a reader that begins with a token, as one of K, and another after it
pub keeps_then_on : {A B : Type 0} (c : Sort → Type 0) (n : ℕ) (M : ℕ → Language A) (K : Language A) (N : A → Language B)
    (f g : ℕ → Parser A) (h h' : A → Parser B) → (c s.End → ⊥) → Lax K → Within (Then c M) K
    → ((line : ℕ) → Lawful n (M line) (f line) (g line)) → ((a : A) → Lawful n (N a) (h a) (h' a))
    → Keeps c (suc n) (Seq K N) ((skip >>= f) >>= h) ((skip >>= g) >>= h')
keeps_then_on c n M K N f g h h' ends lax w l m = keeps_bind_from c (suc n) n K N (skip >>= f) (skip >>= g) h h' lax
    (keeps_within c (suc n) _ _ _ _ w (keeps_then c n M f g ends l)) m
    (λ i short. leaves_both n M f (λ line j. (l line).says j) (skip i) (skip_shrinks n i short))

-- ---- what stands at a level stands at each looser one

pub looser : (m n : ℕ) (c : ExpressionDerivation) → m ≤ n → IsAt m c → IsAt n c
unfolding IsAt
looser m n (g.identifier t) less is = is
looser m n (g.constant t) less is = is
looser m n (g.bracketed o a c) less is = is
looser m n (g.input k o c) less is = is
looser m n (g.output k o a c) less is = is
looser m n (g.call f o xs c) less is = (omega arith, is.1, is.2, is.3, is.4)
looser m n (g.index a o i c) less is = (omega arith, is.1, is.2, is.3, is.4)
looser m n (g.prefixed t a) less is = (omega arith, is.1, is.2)
looser m n (g.binary a t b) less is = (is.0, omega arith, is.2, is.3, is.4)
looser m n (g.choice c q a o b) less is = (omega arith, is.1, is.2, is.3, is.4, is.5)

pub expression_looser : (m n : ℕ) → m ≤ n → Within (AnExpression m) (AnExpression n)
expression_looser m n less at a u x y = record { phrase = y.phrase; is = looser m n y.phrase less y.is; spells = y.spells; tree = y.tree }

-- ---- tokens after an expression that make another of the two

-- after any phrase of level m that begins at `first` and has the tree `left`, they make a phrase of level n
pub record Onward (m n first : ℕ) (left : Expr) (at : ℕ) (a : Expr) (u : List Token) : Type 0 where
  pub onward : (c : ExpressionDerivation) → IsAt m c → left ≡ expression_tree first c → at ≡ first + length (spelled c) →
      IsExpression n first a (spelled c ++ u)

abbrev pub AnOnward : ℕ → ℕ → ℕ → Expr → Language Expr
AnOnward m n first left = λ at a u x. Onward m n first left at a u

pub an_onward_is_lax : (m n first : ℕ) (left : Expr) → Lax (AnOnward m n first left)
an_onward_is_lax m n first left = λ at a u x y r o. r

-- no token
pub onward_stays : (m n first : ℕ) (left : Expr) (at : ℕ) → m ≤ n → Onward m n first left at left []
onward_stays m n first left at less = record
    { onward = λ c is tree at_is. record { phrase = c; is = looser m n c less is; spells = append-nil (spelled c); tree = tree } }

pub onward_goes_on : (m n first : ℕ) (left : Expr) (at : ℕ) → m ≤ n → GoesOn (AnOnward m n first left) at []
onward_goes_on m n first left at less = record
    { rest = []; value = left; reads = λ x o. onward_stays m n first left at less; starts = λ e x o. o }

pub lawful_stays : (k m n first : ℕ) (left : Expr) → m ≤ n → Lawful k (AnOnward m n first left) (pure left) (pure left)
lawful_stays k m n first left less = within inside (lawful_pure k left)
  where
    inside : Within (Pure left) (AnOnward m n first left)
    inside at a u x y = subst (λ v. Onward m n first left at a v) (sym y.empty)
        (subst (λ b. Onward m n first left at b []) (sym y.is) (onward_stays m n first left at less))

-- once more
pub onward_again : (k m n first : ℕ) (left : Expr) →
    Within (Seq (AnOnward k m first left) (λ a. AnOnward m n first a)) (AnOnward k n first left)
onward_again k m n first left at a u x y = record {
  onward = λ c is tree at_is.
      let d = y.first.onward c is tree at_is in
      let z = y.second.onward d.phrase d.is d.tree (count first at (spelled c) y.front (spelled d.phrase) at_is d.spells) in
      record {
        phrase = z.phrase;
        is = z.is;
        spells = ap (λ v. spelled c ++ v) y.splits ∙ (sym (append_assoc (spelled c) y.front y.back) ∙ (ap (λ v. v ++ y.back) d.spells ∙ z.spells));
        tree = z.tree;
      };
}
  where
    count : (first at : ℕ) (u v w : List Token) → at ≡ first + length u → u ++ v ≡ w → at + length v ≡ first + length w
    count first at u v w e f = omega (arith, e, ap length f, length-append u v)

-- an expression, and what stands after it
expression_onward : (m n : ℕ) → Within (Here (λ first. WithExpression m (λ left. AnOnward m n first left))) (AnExpression n)
expression_onward m n at a u x y =
    let z = y.second.onward y.phrase y.is refl refl in
    record { phrase = z.phrase; is = z.is; spells = y.splits ∙ z.spells; tree = z.tree }

pub lawful_onward : (k m n : ℕ) (p q : Parser Expr) (f g : ℕ → Expr → Parser Expr) → Lawful k (AnExpression m) p q
    → ((first : ℕ) (a : Expr) → Lawful k (AnOnward m n first a) (f first a) (g first a))
    → Lawful k (AnExpression n) (here >>= (λ first. p >>= f first)) (here >>= (λ first. q >>= g first))
lawful_onward k m n p q f g l h = within (expression_onward m n)
    (lawful_from k _ _ _ (λ first. lawful_with k m _ p q _ _ l (h first)))

-- ---- arguments

pub record HasMore (found : List Expr) (at : ℕ) (value : List Expr) (u : List Token) : Type 0 where
  pub list : More
  pub are : AreMore list
  pub spells : u ≡ spelled_more list
  pub trees : value ≡ found ++ more_argument_trees at list

-- further arguments after those that were found
abbrev pub SomeMore : List Expr → Language (List Expr)
SomeMore found = λ at a u x. HasMore found at a u

pub record HasArguments (at : ℕ) (value : List Expr) (u : List Token) : Type 0 where
  pub list : Arguments
  pub are : AreArguments list
  pub spells : u ≡ spelled_arguments list
  pub trees : value ≡ argument_trees at list

abbrev pub SomeArguments : Language (List Expr)
SomeArguments = λ at a u x. HasArguments at a u

no_more : (found : List Expr) (at : ℕ) → HasMore found at found []
unfolding spelled_more AreMore more_argument_trees
no_more found at = record { list = g.end; are = tt; spells = refl; trees = sym (append-nil found) }

more_goes_on : (found : List Expr) (at : ℕ) → GoesOn (SomeMore found) at []
more_goes_on found at = record { rest = []; value = found; reads = λ x o. no_more found at; starts = λ e x o. o }

one_more : (found : List Expr) →
    Within (Then (λ x. is_same x s.Comma ≡ true) (λ o. WithExpression 13 (λ a. SomeMore (found ++ a ∷ [])))) (SomeMore found)
unfolding spelled_more AreMore more_argument_trees
one_more found at a u x y =
    let b = y.second in
    let z = b.second in
    record {
      list = g.more y.token b.phrase z.list;
      are = (same_sorts (sort y.token) s.Comma y.sort_is, b.is, z.are);
      spells = y.splits ∙ ap (λ v. y.token ∷ v) (b.splits ∙ ap (λ v. spelled b.phrase ++ v) z.spells);
      trees = z.trees ∙ append_assoc found (expression_tree (suc at) b.phrase ∷ []) _;
    }

lawful_more : (n m : ℕ) (p q : Parser Expr) (found : List Expr) → m ≤ suc n → Lawful n (AnExpression 13) p q
    → Lawful m (SomeMore found) (r.more_arguments p m found) (r.more_arguments q (suc m) found)
unfolding r.more_arguments sees
lawful_more n zero p q found less l = lawful_none 0 (SomeMore found) _ _ _ (within inside (lawful_pure 0 found))
  where
    inside : Within (Pure found) (SomeMore found)
    inside at a u x y = subst (λ v. HasMore found at a v) (sym y.empty) (subst (λ b. HasMore found at b []) (sym y.is) (no_more found at))
lawful_more n (suc m) p q found less l = lawful_test (λ x. is_same x s.Comma) (suc m) (SomeMore found) _ _ _ _
    (keeps_within (λ x. is_same x s.Comma ≡ true) (suc m) _ _ _ _ (one_more found)
    (keeps_then (λ x. is_same x s.Comma ≡ true) m _ _ _ (is_no_end s.Comma (λ z. cc)) (λ o. lawful_with m 13 _ p q _ _
    (lawful_fewer n m (AnExpression 13) p q (omega arith) l) (λ a. lawful_more n m p q (found ++ a ∷ []) (omega arith) l))))
    (keeps_pure (λ x. is_same x s.Comma ≡ false) (suc m) (SomeMore found) found (λ at x o. no_more found at)) (more_goes_on found)

some_are : Within (WithExpression 13 (λ a. SomeMore (a ∷ []))) SomeArguments
unfolding spelled_arguments AreArguments argument_trees
some_are at a u x y =
    let z = y.second in
    record {
      list = g.arguments y.phrase z.list;
      are = (y.is, z.are);
      spells = y.splits ∙ ap (λ v. spelled y.phrase ++ v) z.spells;
      trees = z.trees;
    }

no_arguments : (at : ℕ) → HasArguments at [] []
unfolding spelled_arguments AreArguments argument_trees
no_arguments at = record { list = g.nothing; are = tt; spells = refl; trees = refl }

arguments_go_on : (at : ℕ) → GoesOn SomeArguments at []
arguments_go_on at = record { rest = []; value = []; reads = λ x o. no_arguments at; starts = λ e x o. o }

-- with turns for each token
pub lawful_arguments : (n : ℕ) (p q : Parser Expr) → Lawful n (AnExpression 13) p q
    → Lawful n SomeArguments (r.arguments p (suc n)) (r.arguments q (suc (suc n)))
unfolding r.arguments r.some_arguments sees
lawful_arguments n p q l = lawful_test (λ x. is_same x s.RightParen) n SomeArguments _ _ _ _
    (keeps_pure (λ x. is_same x s.RightParen ≡ true) n SomeArguments [] (λ at x o. no_arguments at))
    (keeps (λ x. is_same x s.RightParen ≡ false) n SomeArguments _ _ (within some_are (lawful_with n 13 _ p q _ _ l
    (λ a. lawful_fewer (suc n) n (SomeMore (a ∷ [])) _ _ (omega arith) (lawful_more n (suc n) p q (a ∷ []) (omega arith) l)))))
    arguments_go_on

-- ---- calls and indices

pub same_node : (first m n line : ℕ) (a b : ExprKind) → m ≡ n → a ≡ b
    → roll-Expr (record { first = first; last = m - 1; line = line; kind = a }) ≡ roll-Expr (record { first = first; last = n - 1; line = line; kind = b })
same_node first m n line a b e f = ap (λ l. roll-Expr (record { first = first; last = l - 1; line = line; kind = a })) e
    ∙ ap (λ k. roll-Expr (record { first = first; last = n - 1; line = line; kind = k })) f

count_suffix : (first at : ℕ) (u v w : List Token) (o c : Token) → at ≡ first + length u → w ≡ v
    → suc (suc at + length w) ≡ first + length (u ++ o ∷ (v ++ c ∷ []))
count_suffix first at u v w o c e f = omega (arith, e, ap length f, length-append u (o ∷ (v ++ c ∷ [])), length-append v (c ∷ []))

-- `( arguments )` after a phrase
call_is : (first : ℕ) (left : Expr) → Within (Then (λ x. is_same x s.LeftParen ≡ true) (λ line. Seq SomeArguments (λ xs.
    Then (λ x. x ≡ s.RightParen) (λ c. ANode first line (e.Call left xs))))) (AnOnward 1 1 first left)
unfolding spelled IsAt expression_tree
call_is first left at a u x y =
    let xs = y.second in
    let c = xs.second in
    record {
      onward = λ f is tree at_is. record {
        phrase = g.call f y.token xs.first.list c.token;
        is = (omega arith, is, same_sorts (sort y.token) s.LeftParen y.sort_is, xs.first.are, c.sort_is);
        spells = ap (λ v. spelled f ++ v) (y.splits ∙ ap (λ v. y.token ∷ v) (xs.splits ∙ (ap (λ v. v ++ xs.back) xs.first.spells
            ∙ ap (λ v. spelled_arguments xs.first.list ++ v) (c.splits ∙ ap (λ v. c.token ∷ v) c.second.empty))));
        tree = c.second.is ∙ same_node first _ _ y.token.line _ _
            (count_suffix first at (spelled f) (spelled_arguments xs.first.list) xs.front y.token c.token at_is xs.first.spells)
            (ap (λ b. e.Call b xs.value) tree ∙ ap (λ v. e.Call (expression_tree first f) v)
            (xs.first.trees ∙ ap (λ n. argument_trees (suc n) xs.first.list) at_is));
      };
    }

-- `[ i ]` after a phrase
index_is : (first : ℕ) (left : Expr) → Within (Then (λ x. is_same x s.LeftBracket ≡ true) (λ line. WithExpression 13 (λ i.
    Then (λ x. x ≡ s.RightBracket) (λ c. ANode first line (e.Index left i))))) (AnOnward 1 1 first left)
unfolding spelled IsAt expression_tree
index_is first left at a u x y =
    let b = y.second in
    let c = b.second in
    record {
      onward = λ f is tree at_is. record {
        phrase = g.index f y.token b.phrase c.token;
        is = (omega arith, is, same_sorts (sort y.token) s.LeftBracket y.sort_is, b.is, c.sort_is);
        spells = ap (λ v. spelled f ++ v) (y.splits ∙ ap (λ v. y.token ∷ v) (b.splits
            ∙ ap (λ v. spelled b.phrase ++ v) (c.splits ∙ ap (λ v. c.token ∷ v) c.second.empty)));
        tree = c.second.is ∙ same_node first _ _ y.token.line _ _
            (count_suffix first at (spelled f) (spelled b.phrase) (spelled b.phrase) y.token c.token at_is refl)
            (ap (λ l. e.Index l (expression_tree (suc at) b.phrase)) tree ∙ ap (λ n. e.Index (expression_tree first f) (expression_tree (suc n) b.phrase)) at_is);
      };
    }

pub bracket : Sample s.RightBracket
unfolding sort_of
bracket = record { token = a_token (t.Punct 5); sort_is = refl; no_else = λ p. cc; no_end = λ p. cc }

-- any calls and indices after a phrase; `k` bounds the arguments, `m` the turns
lawful_suffixes : (n m : ℕ) (p q : Parser Expr) (k k' first : ℕ) (left : Expr) → m ≤ suc n → Lawful n (AnExpression 13) p q
    → Lawful n SomeArguments (r.arguments p k) (r.arguments q k')
    → Lawful m (AnOnward 1 1 first left) (r.suffixes p k m first left) (r.suffixes q k' (suc m) first left)
unfolding r.suffixes r.call r.index sees
lawful_suffixes n zero p q k k' first left less l xs =
    lawful_none 0 (AnOnward 1 1 first left) _ _ _ (lawful_stays 0 1 1 first left (omega arith))
lawful_suffixes n (suc m) p q k k' first left less l xs = lawful_test (λ x. is_same x s.LeftParen) (suc m) L _ _ _ _
    (keeps_within (λ x. is_same x s.LeftParen ≡ true) (suc m) _ _ _ _ (onward_again 1 1 1 first left)
    (keeps_then_on (λ x. is_same x s.LeftParen ≡ true) m _ L _ _ _ _ _ (is_no_end s.LeftParen (λ z. cc)) (an_onward_is_lax 1 1 first left) (call_is first left)
    (λ line. bind m SomeArguments _ _ _ _ _ (λ at a u x y o z. o) (lawful_fewer n m SomeArguments _ _ (omega arith) xs)
    (λ a. lawful_then m s.RightParen _ _ _ paren (λ c. lawful_finish m first line (e.Call left a))))
    (λ a. lawful_suffixes n m p q k k' first a (omega arith) l xs)))
    (keeps (λ x. is_same x s.LeftParen ≡ false) (suc m) L _ _ (lawful_test (λ x. is_same x s.LeftBracket) (suc m) L _ _ _ _
    (keeps_within (λ x. is_same x s.LeftBracket ≡ true) (suc m) _ _ _ _ (onward_again 1 1 1 first left)
    (keeps_then_on (λ x. is_same x s.LeftBracket ≡ true) m _ L _ _ _ _ _ (is_no_end s.LeftBracket (λ z. cc)) (an_onward_is_lax 1 1 first left) (index_is first left)
    (λ line. lawful_with m 13 _ p q _ _ (lawful_fewer n m (AnExpression 13) p q (omega arith) l)
    (λ a. lawful_then m s.RightBracket _ _ _ bracket (λ c. lawful_finish m first line (e.Index left a))))
    (λ a. lawful_suffixes n m p q k k' first a (omega arith) l xs)))
    (keeps (λ x. is_same x s.LeftBracket ≡ false) (suc m) L _ _ (lawful_stays (suc m) 1 1 first left (omega arith)))
    can)) can
  where
    L : Language Expr
    L = AnOnward 1 1 first left

    can : (at : ℕ) → GoesOn (AnOnward 1 1 first left) at []
    can at = onward_goes_on 1 1 first left at (omega arith)

pub lawful_postfix : (n : ℕ) (p q : Parser Expr) → Lawful n (AnExpression 13) p q
    → Lawful (suc n) (AnExpression 1) (r.postfix p (suc n)) (r.postfix q (suc (suc n)))
unfolding r.postfix
lawful_postfix n p q l = lawful_onward (suc n) 1 1 _ _ _ _ (lawful_primary n 1 p q l)
    (λ first a. lawful_suffixes n (suc n) p q (suc n) (suc (suc n)) first a (omega arith) l (lawful_arguments n p q l))
