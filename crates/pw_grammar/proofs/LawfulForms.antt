-- The laws of the readers of the forms of statements, each after its first token.
use Rattle.std.proofs.Common.{◌≡◌, ◌≢◌, refl, sym, ◌∙◌, ap, subst, ℕ, suc, ◌+◌, ◌≤◌, List, [], ◌∷◌, ◌++◌, length, ◌⊎◌, Bool, true, false, Option, Some, None}
use Rattle.std.proofs.lemmas.List.{append-nil}
use Rattle.pw_grammar.specs.declared.sort.Sort.{Sort}
use Rattle.pw_grammar.specs.declared.sort.Sort.TheVariants as s
use Rattle.pw_grammar.specs.Terminals.{sort, is_same}
use Rattle.pw_grammar.specs.Expressions.{ExpressionDerivation, spelled, IsAt, expression_tree}
use Rattle.pw_grammar.specs.Statements.{spelled_simple, IsSimple, kind_of_simple, spelled_start, IsStart, tree_of_start, spelled_maybe, IsMaybe, tree_of_maybe, spelled_step, IsStep, tree_of_step, StatementDerivation, empty, block, simple, if_only, if_else, while_do, do_while, for_do, leave, jump, spelled_statement, spelled_statements, open_ended, IsStatement, AreStatements, kind_of, trees_of_statements, tree_of_statement, jump_of, after_test}
use Rattle.pw_grammar.specs.Reading.Steps.{Parser, sees}
use Rattle.pw_grammar.specs.Reading.Statements as r
use Rattle.pw_grammar.proofs.Lawful.{Language, sort_before, GoesOn, Lawful, Within, Lax, within, Seq, bind, Pure, lawful_pure}
use Rattle.pw_grammar.proofs.Branches.{Keeps, keeps_pure, lawful_test, keeps_within, same_sorts, other_sorts}
use Rattle.pw_grammar.proofs.Parts.{AnExpression, Then, lawful_then, keeps_then}
use Rattle.pw_grammar.proofs.Pieces.{WithPhrase, lawful_with_phrase, keeps_fewer}
use Rattle.pw_grammar.proofs.LawfulTypes.{Is, no_end, left_paren, right_paren, right_brace, semicolon, while}
use Rattle.pw_grammar.proofs.LawfulSimple.{lawful_simple}
use Rattle.pw_grammar.proofs.LawfulStarts.{lawful_maybe, lawful_step, lawful_start, Tested, lawful_tested}
use Rattle.pw_grammar.proofs.LawfulLoops.{AStatement, a_statement_is_lax, WithStatement, lawful_with_statement, lawful_elements}
use Rattle.pw_tree.specs.declared.expr.Expr.{Expr}
use Rattle.pw_tree.specs.declared.stmt.Stmt.{Stmt}
use Rattle.pw_tree.specs.declared.stmt.StmtKind.{StmtKind}
use Rattle.pw_tree.specs.declared.stmt.StmtKind.TheVariants as k
use Rattle.pw_lex.specs.declared.token.Token.{Token}

-- ---- the language of the forms of statements

pub record IsForm (at : ℕ) (kind : StmtKind) (u : List Token) (x : Sort) : Type 0 where
  pub phrase : StatementDerivation
  pub is : IsStatement false phrase
  pub spells : u ≡ spelled_statement phrase
  pub kind_is : kind ≡ kind_of at phrase
  pub closed : open_ended phrase ≡ true → x ≢ s.Else

abbrev pub AForm : Language StmtKind
AForm = λ at kind u x. IsForm at kind u x

pub a_form_is_lax : Lax AForm
a_form_is_lax at kind u x y r o = record { phrase = r.phrase; is = r.is; spells = r.spells; kind_is = r.kind_is; closed = λ e. o }

pub form_goes_on : (at : ℕ) → GoesOn AForm at []
unfolding spelled_statement IsStatement open_ended
form_goes_on at = record {
  rest = semicolon.token ∷ [];
  value = kind_of at (empty semicolon.token);
  reads = λ x o. record { phrase = empty semicolon.token; is = semicolon.sort_is; spells = refl; kind_is = refl; closed = λ e. o };
  starts = λ e x o. subst (λ z. z ≢ s.Else) (sym semicolon.sort_is) semicolon.no_else;
}

-- a token of the sort was seen, and the form begins with it
abbrev pub Form : Sort → ℕ → Parser StmtKind → Parser StmtKind → Type 0
Form z n p q = Keeps (Is z) n AForm p q

-- ---- `;`

empty_is : Within (Then (Is s.Semicolon) (λ e. Pure k.Empty)) AForm
unfolding spelled_statement IsStatement open_ended kind_of
empty_is at a u x y = record {
  phrase = empty y.token;
  is = same_sorts (sort y.token) s.Semicolon y.sort_is;
  spells = y.splits ∙ ap (λ v. y.token ∷ v) y.second.empty;
  kind_is = y.second.is;
  closed = λ e. absurd cc;
}

pub lawful_empty : (n : ℕ) → Form s.Semicolon (suc n) r.empty r.empty
unfolding r.empty
lawful_empty n = keeps_within (Is s.Semicolon) (suc n) _ AForm _ _ empty_is
    (keeps_then (Is s.Semicolon) n _ _ _ (no_end s.Semicolon (λ z. cc)) (λ e. lawful_pure n k.Empty))

-- ---- blocks

block_is : Within (Then (Is s.LeftBrace) (λ o. WithPhrase AreStatements spelled_statements (λ at ys. [] ++ trees_of_statements at ys) (λ ys.
    Then (λ x. x ≡ s.RightBrace) (λ c. Pure (k.Block ys))))) AForm
unfolding spelled_statement IsStatement open_ended kind_of
block_is at a u x o =
    let b = o.second in
    let c = b.second in
    record {
      phrase = block o.token b.phrase c.token;
      is = (same_sorts (sort o.token) s.LeftBrace o.sort_is, b.is, c.sort_is);
      spells = o.splits ∙ ap (λ v. o.token ∷ v) (b.splits ∙ ap (λ v. spelled_statements b.phrase ++ v) (c.splits ∙ ap (λ v. c.token ∷ v) c.second.empty));
      kind_is = c.second.is;
      closed = λ e. absurd cc;
    }

pub lawful_block : (m n : ℕ) → n ≤ m → (p q : Parser Expr) (v w : Parser Stmt) → Lawful n (AnExpression 13) p q →
    Lawful n (AStatement false) v w
    → Form s.LeftBrace (suc n) (r.block p v m) (r.block q w (suc m))
unfolding r.block
lawful_block m n small p q v w l h = keeps_within (Is s.LeftBrace) (suc n) _ AForm _ _ block_is
    (keeps_then (Is s.LeftBrace) n _ _ _ (no_end s.LeftBrace (λ z. cc)) (λ o. lawful_with_phrase n AreStatements spelled_statements
    (λ at ys. [] ++ trees_of_statements at ys) _ _ _ _ _ (lawful_elements m n small p q v w l h [])
    (λ ys. lawful_then n s.RightBrace _ _ _ right_brace (λ c. lawful_pure n (k.Block ys)))))

-- ---- conditions

-- `else s`, or nothing where no `else` follows
abbrev IsElse : ℕ → Option Stmt → List Token → Sort → Type 0
IsElse at None u x = (u ≡ []) × (x ≢ s.Else)
IsElse at (Some y) u x = Then (Is s.Else) (λ o. AStatement false) at y u x

abbrev AnElse : Language (Option Stmt)
AnElse = λ at y u x. IsElse at y u x

an_else_is_lax : Lax AnElse
an_else_is_lax at None u x y r o = (r.0, o)
an_else_is_lax at (Some z) u x y r o = record {
  token = r.token;
  behind = r.behind;
  splits = r.splits;
  sort_is = r.sort_is;
  second = a_statement_is_lax false (suc at) z r.behind x y r.second o;
}

else_goes_on : (at : ℕ) → GoesOn AnElse at []
else_goes_on at = record { rest = []; value = None; reads = λ x o. (refl, o); starts = λ e x o. o }

-- what a last statement is before
pub before_end : (v : List Token) (x : Sort) (c : StatementDerivation) → v ≡ [] →
    (open_ended c ≡ true → sort_before v x ≢ s.Else) → open_ended c ≡ true → x ≢ s.Else
before_end v x c e closed is = subst (λ v. sort_before v x ≢ s.Else) e (closed is)

pub last_spells : (u v w : List Token) → u ≡ v ++ w → w ≡ [] → u ≡ v
last_spells u v w e f = e ∙ (ap (λ w. v ++ w) f ∙ append-nil v)

else_is : Within (Then (Is s.Else) (λ o. WithStatement false (λ y. Pure (Some y)))) AnElse
else_is at z u x o =
    let y = o.second in
    subst (λ z. IsElse at z u x) (sym y.second.is) (record {
      token = o.token;
      behind = o.behind;
      splits = o.splits;
      sort_is = o.sort_is;
      second = record {
        phrase = y.phrase;
        is = y.is;
        spells = last_spells _ _ _ y.splits y.second.empty;
        tree = refl;
        closed = before_end y.behind x y.phrase y.second.empty y.closed;
      };
    })

lawful_else : (n : ℕ) (v w : Parser Stmt) → Lawful n (AStatement false) v w → Lawful n AnElse (r.maybe_else v) (r.maybe_else w)
unfolding r.maybe_else r.alternative sees
lawful_else n v w h = lawful_test (λ x. is_same x s.Else) n AnElse _ _ _ _
    (keeps_fewer (Is s.Else) n AnElse _ _ (keeps_within (Is s.Else) (suc n) _ AnElse _ _ else_is
    (keeps_then (Is s.Else) n _ _ _ (no_end s.Else (λ z. cc)) (λ o. lawful_with_statement n false _ v w _ _ h (λ y. lawful_pure n (Some y))))))
    (keeps_pure (λ x. is_same x s.Else ≡ false) n AnElse None (λ at x h. (refl, other_sorts x s.Else h)))
    else_goes_on

not_open : (b : Bool) (x : Sort) → (b ≡ true → x ≢ s.Else) → x ≡ s.Else → b ≡ false
not_open true x closed e = absurd (closed refl e)
not_open false x closed e = refl

record Head (t o : Token) (a : ExpressionDerivation) (c : Token) (y : StatementDerivation) (z : Sort) : Type 0 where
  word_is : sort t ≡ z
  left_is : sort o ≡ s.LeftParen
  test_is : IsAt 13 a
  right_is : sort c ≡ s.RightParen
  body_is : IsStatement false y

conditional_by : (at : ℕ) (kind : StmtKind) (u : List Token) (x : Sort) (t o : Token) (a : ExpressionDerivation) (c : Token)
    (y : StatementDerivation) (n : Option Stmt) (v : List Token)
    → Head t o a c y s.If → u ≡ t ∷ o ∷ (spelled a ++ c ∷ (spelled_statement y ++ v)) → (open_ended y ≡ true → sort_before v x ≢ s.Else)
    → IsElse (after_test at a + length (spelled_statement y)) n v x → kind ≡ k.If (expression_tree (suc (suc at)) a) (tree_of_statement (after_test at a) y) n
    → IsForm at kind u x
unfolding spelled_statement IsStatement open_ended kind_of
conditional_by at kind u x t o a c y None v h e closed z f = record {
  phrase = if_only t o a c y;
  is = (h.word_is, h.left_is, h.test_is, h.right_is, h.body_is);
  spells = e ∙ ap (λ v. t ∷ o ∷ (spelled a ++ c ∷ v)) (last_spells (spelled_statement y ++ v) (spelled_statement y) v refl z.0);
  kind_is = f;
  closed = λ e. z.1;
}
conditional_by at kind u x t o a c y (Some n) v h e closed z f = record {
  phrase = if_else t o a c y z.token z.second.phrase;
  is = (
    h.word_is,
    h.left_is,
    h.test_is,
    h.right_is,
    h.body_is,
    not_open (open_ended y) (sort_before v x) closed (ap (λ v. sort_before v x) z.splits ∙ same_sorts (sort z.token) s.Else z.sort_is),
    same_sorts (sort z.token) s.Else z.sort_is,
    z.second.is,
  );
  spells = e ∙ ap (λ v. t ∷ o ∷ (spelled a ++ c ∷ (spelled_statement y ++ v))) (z.splits ∙ ap (λ v. z.token ∷ v) z.second.spells);
  kind_is = f ∙ ap (λ n. k.If (expression_tree (suc (suc at)) a) (tree_of_statement (after_test at a) y) (Some n)) z.second.tree;
  closed = z.second.closed;
}

conditional_is : Within (Then (Is s.If) (λ o. Tested (λ a. WithStatement false (λ y. Seq AnElse (λ n. Pure (k.If a y n)))))) AForm
conditional_is at kind u x t =
    let a = t.second in
    let y = a.second in
    let n = y.second in
    let same : y.behind ≡ n.front = last_spells y.behind n.front n.back n.splits n.second.empty in
    conditional_by at kind u x t.token a.left a.phrase a.right y.phrase n.value n.front
    (record { word_is = same_sorts (sort t.token) s.If t.sort_is; left_is = a.left_is; test_is = a.is; right_is = a.right_is; body_is = y.is })
    (t.splits ∙ ap (λ v. t.token ∷ v) (a.splits ∙ ap (λ v. a.left ∷ (spelled a.phrase ++ a.right ∷ v)) (y.splits ∙ ap (λ v. spelled_statement y.phrase ++ v) same)))
    (λ e. subst (λ v. sort_before v x ≢ s.Else) same (y.closed e))
    (subst (λ v. AnElse (after_test at a.phrase + length (spelled_statement y.phrase)) n.value n.front (sort_before v x)) n.second.empty n.first)
    n.second.is

pub lawful_conditional : (n : ℕ) (p q : Parser Expr) (v w : Parser Stmt) → Lawful n (AnExpression 13) p q →
    Lawful n (AStatement false) v w
    → Form s.If (suc n) (r.conditional p v) (r.conditional q w)
unfolding r.conditional
lawful_conditional n p q v w l h = keeps_within (Is s.If) (suc n) _ AForm _ _ conditional_is
    (keeps_then (Is s.If) n _ _ _ (no_end s.If (λ z. cc)) (λ o. lawful_tested n _ p q _ _ l (λ a. lawful_with_statement n false _ v w _ _ h
    (λ y. bind n AnElse _ (r.maybe_else v) (r.maybe_else w) _ _ an_else_is_lax (lawful_else n v w h) (λ m. lawful_pure n (k.If a y m))))))

-- ---- loops

while_is : Within (Then (Is s.While) (λ o. Tested (λ a. WithStatement false (λ y. Pure (k.While a y))))) AForm
unfolding spelled_statement IsStatement open_ended kind_of
while_is at kind u x t =
    let a = t.second in
    let y = a.second in
    record {
      phrase = while_do t.token a.left a.phrase a.right y.phrase;
      is = (same_sorts (sort t.token) s.While t.sort_is, a.left_is, a.is, a.right_is, y.is);
      spells = t.splits ∙ ap (λ v. t.token ∷ v) (a.splits ∙ ap (λ v. a.left ∷ (spelled a.phrase ++ a.right ∷ v)) (last_spells _ _ _ y.splits y.second.empty));
      kind_is = y.second.is;
      closed = before_end y.behind x y.phrase y.second.empty y.closed;
    }

pub lawful_while : (n : ℕ) (p q : Parser Expr) (v w : Parser Stmt) → Lawful n (AnExpression 13) p q →
    Lawful n (AStatement false) v w
    → Form s.While (suc n) (r.while_loop p v) (r.while_loop q w)
unfolding r.while_loop
lawful_while n p q v w l h = keeps_within (Is s.While) (suc n) _ AForm _ _ while_is
    (keeps_then (Is s.While) n _ _ _ (no_end s.While (λ z. cc)) (λ o. lawful_tested n _ p q _ _ l (λ a. lawful_with_statement n false _ v w _ _ h
    (λ y. lawful_pure n (k.While a y)))))

do_is : Within (Then (Is s.Do) (λ o. WithStatement false (λ y. Then (λ x. x ≡ s.While) (λ w. Tested (λ a. Then (λ x. x ≡ s.Semicolon) (λ e. Pure (k.Do y a))))))) AForm
unfolding spelled_statement IsStatement open_ended kind_of
do_is at kind u x t =
    let y = t.second in
    let w = y.second in
    let a = w.second in
    let e = a.second in
    record {
      phrase = do_while t.token y.phrase w.token a.left a.phrase a.right e.token;
      is = (same_sorts (sort t.token) s.Do t.sort_is, y.is, w.sort_is, a.left_is, a.is, a.right_is, e.sort_is);
      spells = t.splits ∙ ap (λ v. t.token ∷ v) (y.splits ∙ ap (λ v. spelled_statement y.phrase ++ v) (w.splits ∙ ap (λ v. w.token ∷ v)
          (a.splits ∙ ap (λ v. a.left ∷ (spelled a.phrase ++ a.right ∷ v)) (e.splits ∙ ap (λ v. e.token ∷ v) e.second.empty))));
      kind_is = e.second.is;
      closed = λ e. absurd cc;
    }

pub lawful_do : (n : ℕ) (p q : Parser Expr) (v w : Parser Stmt) → Lawful n (AnExpression 13) p q →
    Lawful n (AStatement false) v w
    → Form s.Do (suc n) (r.do_loop p v) (r.do_loop q w)
unfolding r.do_loop
lawful_do n p q v w l h = keeps_within (Is s.Do) (suc n) _ AForm _ _ do_is
    (keeps_then (Is s.Do) n _ _ _ (no_end s.Do (λ z. cc)) (λ o. lawful_with_statement n false _ v w _ _ h (λ y. lawful_then n s.While _ _ _ while
    (λ m. lawful_tested n _ p q _ _ l (λ a. lawful_then n s.Semicolon _ _ _ semicolon (λ e. lawful_pure n (k.Do y a)))))))

for_is : Within (Then (Is s.For) (λ t. Then (λ x. x ≡ s.LeftParen) (λ o. WithPhrase IsStart spelled_start tree_of_start (λ first.
    WithPhrase IsMaybe spelled_maybe tree_of_maybe (λ a. Then (λ x. x ≡ s.Semicolon) (λ e. WithPhrase IsStep spelled_step tree_of_step (λ last.
    Then (λ x. x ≡ s.RightParen) (λ c. WithStatement false (λ y. Pure (k.For first a last y)))))))))) AForm
unfolding spelled_statement IsStatement open_ended kind_of
for_is at kind u x t =
    let o = t.second in
    let b = o.second in
    let a = b.second in
    let e = a.second in
    let l = e.second in
    let c = l.second in
    let y = c.second in
    record {
      phrase = for_do t.token o.token b.phrase a.phrase e.token l.phrase c.token y.phrase;
      is = (same_sorts (sort t.token) s.For t.sort_is, o.sort_is, b.is, a.is, e.sort_is, l.is, c.sort_is, y.is);
      spells = t.splits ∙ ap (λ v. t.token ∷ v) (o.splits ∙ ap (λ v. o.token ∷ v) (b.splits ∙ ap (λ v. spelled_start b.phrase ++ v)
          (a.splits ∙ ap (λ v. spelled_maybe a.phrase ++ v) (e.splits ∙ ap (λ v. e.token ∷ v) (l.splits ∙ ap (λ v. spelled_step l.phrase ++ v)
          (c.splits ∙ ap (λ v. c.token ∷ v) (last_spells _ _ _ y.splits y.second.empty)))))));
      kind_is = y.second.is;
      closed = before_end y.behind x y.phrase y.second.empty y.closed;
    }

pub lawful_for : (n : ℕ) (p q : Parser Expr) (v w : Parser Stmt) → Lawful n (AnExpression 13) p q →
    Lawful n (AStatement false) v w
    → Form s.For (suc n) (r.for_loop p v) (r.for_loop q w)
unfolding r.for_loop
lawful_for n p q v w l h = keeps_within (Is s.For) (suc n) _ AForm _ _ for_is
    (keeps_then (Is s.For) n _ _ _ (no_end s.For (λ z. cc)) (λ t. lawful_then n s.LeftParen _ _ _ left_paren
    (λ o. lawful_with_phrase n IsStart spelled_start tree_of_start _ _ _ _ _ (lawful_start n p q l)
    (λ first. lawful_with_phrase n IsMaybe spelled_maybe tree_of_maybe _ _ _ _ _ (lawful_maybe n s.Semicolon p q l)
    (λ a. lawful_then n s.Semicolon _ _ _ semicolon
    (λ e. lawful_with_phrase n IsStep spelled_step tree_of_step _ _ _ _ _ (lawful_step n p q l)
    (λ last. lawful_then n s.RightParen _ _ _ right_paren
    (λ c. lawful_with_statement n false _ v w _ _ h (λ y. lawful_pure n (k.For first a last y))))))))))

-- ---- jumps, and assignments and expressions

leave_is : Within (Then (Is s.Return) (λ o. WithPhrase IsMaybe spelled_maybe tree_of_maybe (λ a. Then (λ x. x ≡ s.Semicolon) (λ e. Pure (k.Return a))))) AForm
unfolding spelled_statement IsStatement open_ended kind_of
leave_is at kind u x t =
    let a = t.second in
    let e = a.second in
    record {
      phrase = leave t.token a.phrase e.token;
      is = (same_sorts (sort t.token) s.Return t.sort_is, a.is, e.sort_is);
      spells = t.splits ∙ ap (λ v. t.token ∷ v) (a.splits ∙ ap (λ v. spelled_maybe a.phrase ++ v) (e.splits ∙ ap (λ v. e.token ∷ v) e.second.empty));
      kind_is = e.second.is;
      closed = λ e. absurd cc;
    }

pub lawful_leave : (n : ℕ) (p q : Parser Expr) → Lawful n (AnExpression 13) p q → Form s.Return (suc n) (r.leave p) (r.leave q)
unfolding r.leave
lawful_leave n p q l = keeps_within (Is s.Return) (suc n) _ AForm _ _ leave_is
    (keeps_then (Is s.Return) n _ _ _ (no_end s.Return (λ z. cc)) (λ o. lawful_with_phrase n IsMaybe spelled_maybe tree_of_maybe _ _ _ _ _
    (lawful_maybe n s.Semicolon p q l) (λ a. lawful_then n s.Semicolon _ _ _ semicolon (λ e. lawful_pure n (k.Return a)))))

jump_is : (z : Sort) → (z ≡ s.Break) ⊎ (z ≡ s.Continue) →
    Within (Then (Is z) (λ o. Then (λ x. x ≡ s.Semicolon) (λ e. Pure (jump_of z)))) AForm
unfolding spelled_statement IsStatement open_ended kind_of
jump_is z which at kind u x t =
    let e = t.second in
    let same : sort t.token ≡ z = same_sorts (sort t.token) z t.sort_is in
    record {
      phrase = jump t.token e.token;
      is = (subst (λ z. (z ≡ s.Break) ⊎ (z ≡ s.Continue)) (sym same) which, e.sort_is);
      spells = t.splits ∙ ap (λ v. t.token ∷ v) (e.splits ∙ ap (λ v. e.token ∷ v) e.second.empty);
      kind_is = e.second.is ∙ ap jump_of (sym same);
      closed = λ e. absurd cc;
    }

pub lawful_jump : (n : ℕ) (z : Sort) → (z ≡ s.Break) ⊎ (z ≡ s.Continue) → s.End ≢ z →
    Form z (suc n) (r.jump (jump_of z)) (r.jump (jump_of z))
unfolding r.jump
lawful_jump n z which other = keeps_within (Is z) (suc n) _ AForm _ _ (jump_is z which)
    (keeps_then (Is z) n _ _ _ (no_end z other) (λ o. lawful_then n s.Semicolon _ _ _ semicolon (λ e. lawful_pure n (jump_of z))))

evaluated_is : Within (WithPhrase IsSimple spelled_simple kind_of_simple (λ a. Then (λ x. x ≡ s.Semicolon) (λ e. Pure a))) AForm
unfolding spelled_statement IsStatement open_ended kind_of
evaluated_is at kind u x y =
    let e = y.second in
    record {
      phrase = simple y.phrase e.token;
      is = (y.is, e.sort_is);
      spells = y.splits ∙ ap (λ v. spelled_simple y.phrase ++ v) (e.splits ∙ ap (λ v. e.token ∷ v) e.second.empty);
      kind_is = e.second.is;
      closed = λ e. absurd cc;
    }

pub lawful_evaluated : (n : ℕ) (p q : Parser Expr) → Lawful n (AnExpression 13) p q →
    Lawful n AForm (r.evaluated p) (r.evaluated q)
unfolding r.evaluated
lawful_evaluated n p q l = within evaluated_is (lawful_with_phrase n IsSimple spelled_simple kind_of_simple _ _ _ _ _ (lawful_simple n p q l)
    (λ a. lawful_then n s.Semicolon _ _ _ semicolon (λ e. lawful_pure n a)))
