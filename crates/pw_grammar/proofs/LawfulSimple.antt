-- The laws of the readers of assignments, locals, and the parts of a `for`.
use Rattle.std.proofs.Common.{◌≡◌, ◌≢◌, refl, sym, ◌∙◌, ap, subst, ℕ, suc, ◌+◌, ◌-◌, List, [], ◌∷◌, ◌++◌, length, ◌⊎◌, inl, inr, Ok, false, Option, Some, None, arith}
use Rattle.std.proofs.lemmas.List.{append-nil, append_assoc, length-append}
use Rattle.std.specs.Bool.{⊤}
use Rattle.pw_grammar.specs.declared.sort.Sort.{Sort}
use Rattle.pw_grammar.specs.declared.sort.Sort.TheVariants as s
use Rattle.pw_grammar.specs.Terminals.{sort, is_same}
use Rattle.pw_grammar.specs.Expressions.{ExpressionDerivation, identifier, constant, bracketed, input, output, call, index, prefixed, binary, choice, spelled, IsAt, expression_tree, name_in}
use Rattle.pw_grammar.specs.Statements.{TypeDerivation, word, unsigned, type_of_keyword, spelled_type, IsType, type_in, LocalDerivation, plain, set, spelled_local, IsLocal, kind_of_local, SimpleDerivation, assign, assign_element, evaluate, spelled_simple, IsSimple, kind_of_simple, first_line, statement_node}
use Rattle.pw_grammar.specs.Reading.Steps.{Parser, pure, sees, either, finish_statement}
use Rattle.pw_grammar.specs.Reading.Statements as r
use Rattle.pw_grammar.proofs.Lawful.{Language, sort_before, GoesOn, Lawful, Within, within, Pure, Nothing, lawful_pure, leads_nowhere}
use Rattle.pw_grammar.proofs.Branches.{Keeps, keeps_refuse, keeps_pure, lawful_test, keeps_within, same_sorts}
use Rattle.pw_grammar.proofs.Parts.{AnExpression, Here, lawful_from, Then, lawful_then, keeps_then, WithExpression, lawful_with}
use Rattle.pw_grammar.proofs.Pieces.{Phrased, APhrase, WithPhrase, lawful_with_phrase, WithName, lawful_with_name, keeps_fewer, Lined, lawful_line, Full}
use Rattle.pw_grammar.proofs.LawfulTypes.{Is, no_end, semicolon, long, a_name, a_number, lawful_type}
use Rattle.pw_grammar.proofs.LawfulTargets.{IsTarget, IsWord, IsElement, target_phrase}
use Rattle.pw_tree.specs.declared.ty.Ty.TheVariants.{Long}
use Rattle.pw_tree.specs.declared.expr.Expr.{Expr}
use Rattle.pw_tree.specs.declared.stmt.Stmt.{Stmt, roll-Stmt}
use Rattle.pw_tree.specs.declared.stmt.StmtKind.{StmtKind}
use Rattle.pw_tree.specs.declared.stmt.StmtKind.TheVariants as k
use Rattle.pw_lex.specs.declared.token.Token.{Token}

-- an expression with a token
abbrev pub one : ExpressionDerivation
one = constant a_number.token

-- ---- assignments, and expressions at the beginning of a statement

abbrev pub ASimple : Language StmtKind
ASimple = APhrase IsSimple spelled_simple kind_of_simple

-- `= e` after what may be assigned to, or nothing after an expression
abbrev SetTo : ℕ → Expr → Language StmtKind
SetTo first a at kind u x = (to : List ℕ × Option Expr) × (r.target first a ≡ Some to)
    × Then (Is s.Assign) (λ o. WithExpression 13 (λ b. Pure (k.Set to.0 to.1 b))) at kind u x

abbrev AfterExpression : ℕ → Expr → Language StmtKind
AfterExpression first a at kind u x = Nothing (k.Eval a) kind u ⊎ SetTo first a at kind u x

after_goes_on : (first : ℕ) (a : Expr) (at : ℕ) → GoesOn (AfterExpression first a) at []
after_goes_on first a at = record { rest = []; value = k.Eval a; reads = λ x o. inl (record { is = refl; empty = refl }); starts = λ e x o. o }

lawful_assigned : (n first : ℕ) (a : Expr) (p q : Parser Expr) → Lawful n (AnExpression 13) p q →
    (to : Option (List ℕ × Option Expr)) → r.target first a ≡ to
    → Keeps (Is s.Assign) n (AfterExpression first a) (r.assigned p to) (r.assigned q to)
lawful_assigned n first a p q l None e = keeps_refuse (Is s.Assign) n (AfterExpression first a) (after_goes_on first a)
lawful_assigned n first a p q l (Some to) e =
    keeps_fewer (Is s.Assign) n (AfterExpression first a) _ _ (keeps_within (Is s.Assign) (suc n) _ (AfterExpression first a) _ _
    (λ at kind u x y. inr (to, e, y)) (keeps_then (Is s.Assign) n _ _ _ (no_end s.Assign (λ z. cc))
    (λ o. lawful_with n 13 _ p q _ _ l (λ b. lawful_pure n (k.Set to.0 to.1 b)))))

lawful_after : (n first : ℕ) (a : Expr) (p q : Parser Expr) → Lawful n (AnExpression 13) p q
    → Lawful n (AfterExpression first a) (either s.Assign (r.assigned p (r.target first a)) (pure (k.Eval a))) (either s.Assign (r.assigned q (r.target first a)) (pure (k.Eval a)))
unfolding sees
lawful_after n first a p q l = lawful_test (λ x. is_same x s.Assign) n (AfterExpression first a) _ _ _ _
    (lawful_assigned n first a p q l (r.target first a) refl)
    (keeps_pure (λ x. is_same x s.Assign ≡ false) n (AfterExpression first a) (k.Eval a) (λ at x h. inl (record { is = refl; empty = refl })))
    (after_goes_on first a)

-- after the target's tokens v, which are `= b`
record Sets (to : List ℕ × Option Expr) (at : ℕ) (kind : StmtKind) (v : List Token) : Type 0 where
  token : Token
  right : ExpressionDerivation
  sort_is : sort token ≡ s.Assign
  is : IsAt 13 right
  splits : v ≡ token ∷ spelled right
  kind_is : kind ≡ k.Set to.0 to.1 (expression_tree (suc at) right)

sets : (first : ℕ) (a : Expr) (at : ℕ) (kind : StmtKind) (v : List Token) (x : Sort) (y : SetTo first a at kind v x) →
    Sets y.0 at kind v
sets first a at kind v x y =
    let o = y.2 in
    let b = o.second in
    record {
      token = o.token;
      right = b.phrase;
      sort_is = same_sorts (sort o.token) s.Assign o.sort_is;
      is = b.is;
      splits = o.splits ∙ ap (λ w. o.token ∷ w) (b.splits ∙ (ap (λ w. spelled b.phrase ++ w) b.second.empty ∙ append-nil (spelled b.phrase)));
      kind_is = b.second.is;
    }

word_set : (at : ℕ) (kind : StmtKind) (u v : List Token) (c : ExpressionDerivation) (to : List ℕ × Option Expr) → IsWord c to →
    IsAt 13 c
    → u ≡ spelled c ++ v → Sets to (at + length (spelled c)) kind v → Phrased IsSimple spelled_simple kind_of_simple at kind u
unfolding spelled IsAt
word_set at kind u v c to i is e y = record {
  phrase = assign i.token y.token y.right;
  is = (subst (λ c. IsAt 13 c) i.is is, y.sort_is, y.is);
  spells = subst (λ c. u ≡ spelled c ++ v) i.is e ∙ ap (λ v. i.token ∷ v) y.splits;
  value_is = y.kind_is ∙ (ap (λ to. k.Set to.0 to.1 (expression_tree (suc (at + length (spelled c))) y.right)) i.to_is
      ∙ ap (λ m. k.Set (name_in i.token.kind) None (expression_tree m y.right)) (ap (λ c. suc (at + length (spelled c))) i.is ∙ after_word at));
}
  where
    after_word : (at : ℕ) → suc (at + 1) ≡ suc (suc at)
    after_word at = omega arith

after_element : (at n m : ℕ) → m ≡ n + 1 → suc (at + suc (suc m)) ≡ suc (suc (suc (suc at) + n))
after_element at n m e = omega arith

element_set : (at : ℕ) (kind : StmtKind) (u v : List Token) (c : ExpressionDerivation) (to : List ℕ × Option Expr) →
    IsElement at c to → IsAt 13 c
    → u ≡ spelled c ++ v → Sets to (at + length (spelled c)) kind v → Phrased IsSimple spelled_simple kind_of_simple at kind u
unfolding spelled IsAt
element_set at kind u v c to i is e y =
    let there = subst (λ c. IsAt 13 c) i.is is in
    record {
      phrase = assign_element i.token i.left i.number i.right y.token y.right;
      is = (there.1, there.2, there.3, there.4, y.sort_is, y.is);
      spells = subst (λ c. u ≡ spelled c ++ v) i.is e
          ∙ ap (λ w. i.token ∷ i.left ∷ w) (append_assoc (spelled i.number) (i.right ∷ []) v ∙ ap (λ v. spelled i.number ++ i.right ∷ v) y.splits);
      value_is = y.kind_is ∙ (ap (λ to. k.Set to.0 to.1 (expression_tree (suc (at + length (spelled c))) y.right)) i.to_is
          ∙ ap (λ m. k.Set (name_in i.token.kind) (Some (expression_tree (suc (suc at)) i.number)) (expression_tree m y.right)) (ap (λ c. suc (at + length (spelled c))) i.is
          ∙ after_element at (length (spelled i.number)) _ (length-append (spelled i.number) (i.right ∷ []))));
    }

simple_by : (at : ℕ) (kind : StmtKind) (u v : List Token) (x : Sort) (c : ExpressionDerivation) → IsAt 13 c → u ≡ spelled c ++ v
    → AfterExpression at (expression_tree at c) (at + length (spelled c)) kind v x → Phrased IsSimple spelled_simple kind_of_simple at kind u
simple_by at kind u v x c is e (inl y) = record
    { phrase = evaluate c; is = is; spells = e ∙ (ap (λ v. spelled c ++ v) y.empty ∙ append-nil (spelled c)); value_is = y.is }
simple_by at kind u v x c is e (inr y) = by_target (target_phrase at c y.0 y.1)
  where
    by_target : IsTarget at c y.0 → Phrased IsSimple spelled_simple kind_of_simple at kind u
    by_target (inl i) = word_set at kind u v c y.0 i is e (sets at (expression_tree at c) (at + length (spelled c)) kind v x y)
    by_target (inr i) = element_set at kind u v c y.0 i is e (sets at (expression_tree at c) (at + length (spelled c)) kind v x y)

simple_is : Within (Here (λ first. WithExpression 13 (λ a. AfterExpression first a))) ASimple
simple_is at kind u x y = simple_by at kind u y.behind x y.phrase y.is y.splits y.second

pub lawful_simple : (n : ℕ) (p q : Parser Expr) → Lawful n (AnExpression 13) p q → Lawful n ASimple (r.simple p) (r.simple q)
unfolding r.simple
lawful_simple n p q l = within simple_is (lawful_from n _ _ _ (λ first. lawful_with n 13 _ p q _ _ l (λ a. lawful_after n first a p q l)))

-- ---- the statement of an assignment or an expression, without its semicolon

-- the node of these own tokens, whatever its last token is
pub record IsStatementNode (first line : ℕ) (kind : StmtKind) (at : ℕ) (a : Stmt) (u : List Token) : Type 0 where
  pub is : a ≡ roll-Stmt (record { first = first; last = at - 1; line = line; kind = kind })
  pub empty : u ≡ []

abbrev pub AStatementNode : ℕ → ℕ → StmtKind → Language Stmt
AStatementNode first line kind = λ at a u x. IsStatementNode first line kind at a u

pub lawful_finish_statement : (n first line : ℕ) (kind : StmtKind)
    → Lawful n (AStatementNode first line kind) (finish_statement first line kind) (finish_statement first line kind)
lawful_finish_statement n first line kind = record {
  settled = λ i short. refl;
  says = λ i. record { tokens = []; leads = leads_nowhere i; reads = record { is = refl; empty = refl } };
  steady = λ k i j same near. record
      { place = j; is = ap (λ at. Ok (roll-Stmt (record { first = first; last = at - 1; line = line; kind = kind }), j)) (sym same.at); agree = same };
  can = λ at. record { rest = []; value = _; reads = λ x o. record { is = refl; empty = refl }; starts = λ e x o. o };
}

abbrev pub ASimpleStatement : Language Stmt
ASimpleStatement = APhrase IsSimple spelled_simple (λ at c. statement_node at (spelled_simple c) (kind_of_simple at c))

-- a node that was finished after its own tokens v
pub node_is : (at behind : ℕ) (kind kind' : StmtKind) (a : Stmt) (u v : List Token) → u ≡ v → behind ≡ at + length v →
    kind ≡ kind'
    → a ≡ roll-Stmt (record { first = at; last = behind - 1; line = first_line u; kind = kind }) → a ≡ statement_node at v kind'
node_is at behind kind kind' a u v e f g y =
    y ∙ (ap (λ n. roll-Stmt (record { first = at; last = n - 1; line = first_line u; kind = kind })) f
    ∙ (ap (λ u. roll-Stmt (record { first = at; last = at + length v - 1; line = first_line u; kind = kind })) e
    ∙ ap (λ kind. statement_node at v kind) g))

pub no_tokens : (u v : List Token) (t : Token) → [] ≡ u ++ t ∷ v → ⊥
no_tokens [] v t e = cc
no_tokens (a ∷ u) v t e = cc

pub no_front : (u v : List Token) → [] ≡ u ++ v → [] ≡ u
no_front [] v e = refl
no_front (t ∷ u) v e = absurd cc

-- an expression has a token
pub full_expression : (c : ExpressionDerivation) → [] ≡ spelled c → ⊥
unfolding spelled
full_expression (identifier t) e = cc
full_expression (constant t) e = cc
full_expression (bracketed o a c) e = cc
full_expression (input k o c) e = cc
full_expression (output k o a c) e = cc
full_expression (call f o xs c) e = no_tokens _ _ _ e
full_expression (index a o i c) e = no_tokens _ _ _ e
full_expression (prefixed t a) e = cc
full_expression (binary a t b) e = no_tokens _ _ _ e
full_expression (choice c q a n b) e = no_tokens _ _ _ e

pub full_simple : (c : SimpleDerivation) → [] ≡ spelled_simple c → ⊥
full_simple (assign x q a) e = cc
full_simple (assign_element x o i c q a) e = cc
full_simple (evaluate a) e = full_expression a e

one_is : IsAt 13 one
unfolding IsAt
one_is = inl a_number.sort_is

one_spells : spelled one ≡ a_number.token ∷ []
unfolding spelled
one_spells = refl

pub number_starts : (x : Sort) → sort_before (a_number.token ∷ []) x ≢ s.Else
number_starts x = subst (λ z. z ≢ s.Else) (sym a_number.sort_is) a_number.no_else

abbrev SimpleNode : ℕ → ℕ → Language Stmt
SimpleNode first line = WithPhrase IsSimple spelled_simple kind_of_simple (λ kind. AStatementNode first line kind)

simple_statement_is : Within (Here (λ first. Lined (λ line. SimpleNode first line))) ASimpleStatement
simple_statement_is at a u x y =
    let whole : u ≡ spelled_simple y.phrase = y.splits ∙ (ap (λ v. spelled_simple y.phrase ++ v) y.second.empty ∙ append-nil (spelled_simple y.phrase)) in
    record {
      phrase = y.phrase;
      is = y.is;
      spells = whole;
      value_is = node_is at (at + length (spelled_simple y.phrase)) _ _ a u (spelled_simple y.phrase) whole refl refl y.second.is;
    }

simple_node_is_full : (first line : ℕ) → Full (SimpleNode first line)
simple_node_is_full first line = λ at a x y. full_simple y.phrase (no_front _ _ y.splits)

simple_node_goes_on : (first at : ℕ) → GoesOn (Lined (λ line. SimpleNode first line)) at []
simple_node_goes_on first at = record {
  rest = a_number.token ∷ [];
  value = _;
  reads = λ x o. record {
    phrase = evaluate one;
    behind = [];
    is = one_is;
    splits = sym (ap (λ v. v ++ []) one_spells);
    second = record { is = refl; empty = refl };
  };
  starts = λ e x o. number_starts x;
}

pub lawful_simple_statement : (n : ℕ) (p q : Parser Expr) → Lawful n (AnExpression 13) p q
    → Lawful n ASimpleStatement (r.simple_statement p) (r.simple_statement q)
unfolding r.simple_statement
lawful_simple_statement n p q l = within simple_statement_is (lawful_from n _ _ _ (λ first.
    lawful_line n (λ line. SimpleNode first line) _ _ (λ line. lawful_with_phrase n IsSimple spelled_simple kind_of_simple _ _ _ _ _ (lawful_simple n p q l)
    (λ kind. lawful_finish_statement n first line kind)) (λ line. simple_node_is_full first line) (λ at. simple_node_goes_on first at)))

-- ---- locals

-- `= e`, or nothing
abbrev Value : Type 0
Value = Option (Token × ExpressionDerivation)

abbrev IsValue : Value → Type 0
IsValue None = ⊤
IsValue (Some p) = (sort p.0 ≡ s.Assign) × IsAt 13 p.1

abbrev spelled_value : Value → List Token
spelled_value None = []
spelled_value (Some p) = p.0 ∷ spelled p.1

abbrev tree_of_value : ℕ → Value → Option Expr
tree_of_value at None = None
tree_of_value at (Some p) = Some (expression_tree (suc at) p.1)

abbrev AValue : Language (Option Expr)
AValue = APhrase IsValue spelled_value tree_of_value

value_is : Within (Then (Is s.Assign) (λ o. WithExpression 13 (λ a. Pure (Some a)))) AValue
value_is at a u x y =
    let b = y.second in
    record {
      phrase = Some (y.token, b.phrase);
      is = (same_sorts (sort y.token) s.Assign y.sort_is, b.is);
      spells = y.splits ∙ ap (λ v. y.token ∷ v) (b.splits ∙ (ap (λ v. spelled b.phrase ++ v) b.second.empty ∙ append-nil (spelled b.phrase)));
      value_is = b.second.is;
    }

value_goes_on : (at : ℕ) → GoesOn AValue at []
value_goes_on at = record
    { rest = []; value = None; reads = λ x o. record { phrase = None; is = tt; spells = refl; value_is = refl }; starts = λ e x o. o }

lawful_value : (n : ℕ) (p q : Parser Expr) → Lawful n (AnExpression 13) p q →
    Lawful n AValue (r.maybe_value p) (r.maybe_value q)
unfolding r.maybe_value r.value sees
lawful_value n p q l = lawful_test (λ x. is_same x s.Assign) n AValue _ _ _ _
    (keeps_fewer (Is s.Assign) n AValue _ _ (keeps_within (Is s.Assign) (suc n) _ AValue _ _ value_is
    (keeps_then (Is s.Assign) n _ _ _ (no_end s.Assign (λ z. cc)) (λ o. lawful_with n 13 _ p q _ _ l (λ a. lawful_pure n (Some a))))))
    (keeps_pure (λ x. is_same x s.Assign ≡ false) n AValue None (λ at x h. record { phrase = None; is = tt; spells = refl; value_is = refl }))
    value_goes_on

abbrev pub tree_of_local : ℕ → LocalDerivation → Stmt
tree_of_local at l = statement_node at (spelled_local l) (kind_of_local at l)

abbrev pub ALocal : Language Stmt
ALocal = APhrase IsLocal spelled_local tree_of_local

local_by : (at : ℕ) (a : Stmt) (u : List Token) (ty : TypeDerivation) (x e : Token) (v : Value) → IsType ty → sort x ≡ s.Name →
    IsValue v → sort e ≡ s.Semicolon
    → u ≡ spelled_type ty ++ x ∷ (spelled_value v ++ e ∷ [])
    → a ≡ roll-Stmt (record {
      first = at;
      last = suc (suc (at + length (spelled_type ty)) + length (spelled_value v)) - 1;
      line = first_line u;
      kind = k.Local (type_in ty) (name_in x.kind) (tree_of_value (suc (at + length (spelled_type ty))) v);
    })
    → Phrased IsLocal spelled_local tree_of_local at a u
local_by at a u ty x e None is name_is value_is end_is f y = record {
  phrase = plain ty x e;
  is = (is, name_is, end_is);
  spells = f;
  value_is = node_is at _ _ _ a u (spelled_local (plain ty x e)) f (count at (length (spelled_type ty)) _ (length-append (spelled_type ty) (x ∷ e ∷ []))) refl y;
}
  where
    count : (at n m : ℕ) → m ≡ n + 2 → suc (suc (at + n) + 0) ≡ at + m
    count at n m e = omega arith
local_by at a u ty x e (Some p) is name_is value_is end_is f y = record {
  phrase = set ty x p.0 p.1 e;
  is = (is, name_is, value_is.0, value_is.1, end_is);
  spells = f;
  value_is = node_is at _ _ _ a u (spelled_local (set ty x p.0 p.1 e)) f (count at (length (spelled_type ty)) (length (spelled p.1)) _ _
      (length-append (spelled_type ty) (x ∷ p.0 ∷ (spelled p.1 ++ e ∷ []))) (length-append (spelled p.1) (e ∷ []))) refl y;
}
  where
    count : (at n b m l : ℕ) → m ≡ n + suc (suc l) → l ≡ b + 1 → suc (suc (at + n) + suc b) ≡ at + m
    count at n b m l e f = omega arith

abbrev LocalNode : ℕ → ℕ → Language Stmt
LocalNode first line = WithPhrase IsType spelled_type (λ at p. type_in p) (λ ty. WithName (λ x. WithPhrase IsValue spelled_value tree_of_value (λ a.
    Then (λ x. x ≡ s.Semicolon) (λ e. AStatementNode first line (k.Local ty x a)))))

local_is : Within (Here (λ first. Lined (λ line. LocalNode first line))) ALocal
local_is at a u x y =
    let n = y.second in
    let v = n.second in
    let e = v.second in
    local_by at a u y.phrase n.token e.token v.phrase y.is n.sort_is v.is e.sort_is
    (y.splits ∙ ap (λ w. spelled_type y.phrase ++ w) (n.splits ∙ ap (λ w. n.token ∷ w) (v.splits ∙ ap (λ w. spelled_value v.phrase ++ w)
    (e.splits ∙ ap (λ w. e.token ∷ w) e.second.empty))))
    e.second.is

pub full_type : (c : TypeDerivation) → [] ≡ spelled_type c → ⊥
full_type (word t) e = cc
full_type (unsigned u l) e = cc

local_node_is_full : (first line : ℕ) → Full (LocalNode first line)
local_node_is_full first line = λ at a x y. full_type y.phrase (no_front _ _ y.splits)

local_node_goes_on : (first at : ℕ) → GoesOn (Lined (λ line. LocalNode first line)) at []
local_node_goes_on first at = record {
  rest = long.token ∷ a_name.token ∷ semicolon.token ∷ [];
  value = _;
  reads = λ x o. record {
    phrase = word long.token;
    behind = a_name.token ∷ semicolon.token ∷ [];
    is = (Long, ap type_of_keyword long.sort_is);
    splits = refl;
    second = record {
      token = a_name.token;
      behind = semicolon.token ∷ [];
      sort_is = a_name.sort_is;
      splits = refl;
      second = record {
        phrase = None;
        behind = semicolon.token ∷ [];
        is = tt;
        splits = refl;
        second = record {
          token = semicolon.token;
          behind = [];
          splits = refl;
          sort_is = semicolon.sort_is;
          second = record { is = refl; empty = refl };
        };
      };
    };
  };
  starts = λ e x o. subst (λ z. z ≢ s.Else) (sym long.sort_is) long.no_else;
}

pub lawful_local : (n : ℕ) (p q : Parser Expr) → Lawful n (AnExpression 13) p q → Lawful n ALocal (r.local p) (r.local q)
unfolding r.local
lawful_local n p q l = within local_is (lawful_from n _ _ _ (λ first. lawful_line n (λ line. LocalNode first line) _ _
    (λ line. lawful_with_phrase n IsType spelled_type (λ at p. type_in p) _ _ _ _ _ (lawful_type n)
    (λ ty. lawful_with_name n _ _ _ (λ x. lawful_with_phrase n IsValue spelled_value tree_of_value _ _ _ _ _ (lawful_value n p q l)
    (λ a. lawful_then n s.Semicolon _ _ _ semicolon (λ e. lawful_finish_statement n first line (k.Local ty x a))))))
    (λ line. local_node_is_full first line) (λ at. local_node_goes_on first at)))
