-- The laws of the reader of statements.
use Rattle.std.proofs.Common.{◌≡◌, ◌≢◌, refl, sym, ◌∙◌, ap, subst, ℕ, zero, suc, ◌+◌, List, [], ◌∷◌, ◌++◌, length, inl, inr, true, false, if◌then◌else◌, arith}
use Rattle.pw_grammar.specs.declared.sort.Sort.{Sort}
use Rattle.pw_grammar.specs.declared.sort.Sort.TheVariants as s
use Rattle.pw_grammar.specs.Terminals.{is_same}
use Rattle.pw_grammar.specs.Statements.{StatementDerivation, empty, spelled_statement, open_ended, IsStatement, kind_of}
use Rattle.pw_grammar.specs.Reading.Steps.{Position, ReadResult, Parser, next_sort}
use Rattle.pw_grammar.specs.Reading.Expressions.{expression}
use Rattle.pw_grammar.specs.Reading.Statements as r
use Rattle.pw_grammar.proofs.Lawful.{Language, sort_before, GoesOn, Lawful, Within, within, Seq, bind}
use Rattle.pw_grammar.proofs.Branches.{keeps, lawful_test}
use Rattle.pw_grammar.proofs.Parts.{AnExpression, Here, lawful_from}
use Rattle.pw_grammar.proofs.Pieces.{fewer_than, lawful_equal, lawful_no_turns, Lined, lawful_line, Full}
use Rattle.pw_grammar.proofs.LawfulTypes.{semicolon}
use Rattle.pw_grammar.proofs.LawfulSimple.{no_front, AStatementNode, lawful_finish_statement, node_is}
use Rattle.pw_grammar.proofs.LawfulLoops.{AStatement, statement_goes_on, full_statement}
use Rattle.pw_grammar.proofs.LawfulForms.{AForm, a_form_is_lax, form_goes_on, Form, lawful_empty, lawful_block, lawful_conditional, lawful_while, lawful_do, lawful_for, lawful_leave, lawful_jump, lawful_evaluated, last_spells, before_end}
use Rattle.pw_tree.specs.declared.expr.Expr.{Expr}
use Rattle.pw_tree.specs.declared.stmt.Stmt.{Stmt}
use Rattle.pw_tree.specs.declared.stmt.StmtKind.{StmtKind}
use Rattle.pw_tree.specs.declared.stmt.StmtKind.TheVariants as k
use Rattle.pw_lex.specs.declared.token.Token.{Token}

-- ---- the form that the first token asks for

-- the same as a test of one sort after another
abbrev form_if : Parser Expr → Parser Stmt → ℕ → Sort → Position → ReadResult StmtKind
form_if p v n x i =
    if is_same x s.Semicolon then r.empty i
    else (if is_same x s.LeftBrace then r.block p v n i
    else (if is_same x s.If then r.conditional p v i
    else (if is_same x s.While then r.while_loop p v i
    else (if is_same x s.Do then r.do_loop p v i
    else (if is_same x s.For then r.for_loop p v i
    else (if is_same x s.Return then r.leave p i
    else (if is_same x s.Break then r.jump k.Break i
    else (if is_same x s.Continue then r.jump k.Continue i
    else r.evaluated p i))))))))

form_by_tests : (p : Parser Expr) (v : Parser Stmt) (n : ℕ) (x : Sort) (i : Position) → r.form_by p v n x i ≡ form_if p v n x i
unfolding is_same
form_by_tests p v n s.Semicolon i = refl
form_by_tests p v n s.LeftBrace i = refl
form_by_tests p v n s.If i = refl
form_by_tests p v n s.While i = refl
form_by_tests p v n s.Do i = refl
form_by_tests p v n s.For i = refl
form_by_tests p v n s.Return i = refl
form_by_tests p v n s.Break i = refl
form_by_tests p v n s.Continue i = refl
form_by_tests p v n _ i = refl

-- one more test before the others
test_form : (z : Sort) (n : ℕ) (a b c d : Parser StmtKind) → Form z n a b → Lawful n AForm c d
    → Lawful n AForm (λ i. if is_same (next_sort i) z then a i else c i) (λ i. if is_same (next_sort i) z then b i else d i)
test_form z n a b c d first others = lawful_test (λ x. is_same x z) n AForm a b c d first
    (keeps (λ x. is_same x z ≡ false) n AForm c d others) form_goes_on

lawful_form_if : (n : ℕ) (p q : Parser Expr) (v w : Parser Stmt) → Lawful (suc n) (AnExpression 13) p q →
    Lawful n (AStatement false) v w
    → Lawful (suc n) AForm (λ i. form_if p v (suc n) (next_sort i) i) (λ i. form_if q w (suc (suc n)) (next_sort i) i)
lawful_form_if n p q v w l h =
    let f = fewer_than n (suc n) {L = AnExpression 13} {p = p} {q = q} (omega arith) l in
    test_form s.Semicolon (suc n) _ _ _ _ (lawful_empty n)
    (test_form s.LeftBrace (suc n) _ _ _ _ (lawful_block (suc n) n (omega arith) p q v w f h)
    (test_form s.If (suc n) _ _ _ _ (lawful_conditional n p q v w f h)
    (test_form s.While (suc n) _ _ _ _ (lawful_while n p q v w f h)
    (test_form s.Do (suc n) _ _ _ _ (lawful_do n p q v w f h)
    (test_form s.For (suc n) _ _ _ _ (lawful_for n p q v w f h)
    (test_form s.Return (suc n) _ _ _ _ (lawful_leave n p q f)
    (test_form s.Break (suc n) _ _ _ _ (lawful_jump n s.Break (inl refl) (λ z. cc))
    (test_form s.Continue (suc n) _ _ _ _ (lawful_jump n s.Continue (inr refl) (λ z. cc))
    (lawful_evaluated (suc n) p q l)))))))))

lawful_form : (n : ℕ) (p q : Parser Expr) (v w : Parser Stmt) → Lawful (suc n) (AnExpression 13) p q →
    Lawful n (AStatement false) v w
    → Lawful (suc n) AForm (r.form p v (suc n)) (r.form q w (suc (suc n)))
unfolding r.form
lawful_form n p q v w l h = lawful_equal (suc n) AForm _ _ _ _
    (λ i. form_by_tests p v (suc n) (next_sort i) i) (λ i. form_by_tests q w (suc (suc n)) (next_sort i) i) (lawful_form_if n p q v w l h)

-- ---- statements

-- a form, and what comes after it
record WithForm {B : Type 0} (M : StmtKind → Language B) (at : ℕ) (b : B) (u : List Token) (x : Sort) : Type 0 where
  phrase : StatementDerivation
  behind : List Token
  is : IsStatement false phrase
  splits : u ≡ spelled_statement phrase ++ behind
  closed : open_ended phrase ≡ true → sort_before behind x ≢ s.Else
  second : M (kind_of at phrase) (at + length (spelled_statement phrase)) b behind x

form_then : {B : Type 0} (M : StmtKind → Language B) → Within (Seq AForm M) (WithForm M)
form_then M at b u x y = record {
  phrase = y.first.phrase;
  behind = y.back;
  is = y.first.is;
  splits = y.splits ∙ ap (λ v. v ++ y.back) y.first.spells;
  closed = y.first.closed;
  second = subst (λ a. M a (at + length (spelled_statement y.first.phrase)) b y.back x) y.first.kind_is
      (subst (λ v. M y.value (at + length v) b y.back x) y.first.spells y.second);
}

abbrev StatementNode : ℕ → ℕ → Language Stmt
StatementNode first line = WithForm (λ kind. AStatementNode first line kind)

whole_is : Within (Here (λ first. Lined (λ line. StatementNode first line))) (AStatement false)
whole_is at a u x y =
    let whole : u ≡ spelled_statement y.phrase = last_spells u (spelled_statement y.phrase) y.behind y.splits y.second.empty in
    record {
      phrase = y.phrase;
      is = y.is;
      spells = whole;
      tree = node_is at (at + length (spelled_statement y.phrase)) _ _ a u (spelled_statement y.phrase) whole refl refl y.second.is;
      closed = before_end y.behind x y.phrase y.second.empty y.closed;
    }

statement_node_is_full : (first line : ℕ) → Full (StatementNode first line)
statement_node_is_full first line = λ at a x y. full_statement y.phrase (no_front _ _ y.splits)

statement_node_goes_on : (first at : ℕ) → GoesOn (Lined (λ line. StatementNode first line)) at []
unfolding spelled_statement IsStatement open_ended
statement_node_goes_on first at = record {
  rest = semicolon.token ∷ [];
  value = _;
  reads = λ x o. record {
    phrase = empty semicolon.token;
    behind = [];
    is = semicolon.sort_is;
    splits = refl;
    closed = λ e. o;
    second = record { is = refl; empty = refl };
  };
  starts = λ e x o. subst (λ z. z ≢ s.Else) (sym semicolon.sort_is) semicolon.no_else;
}

lawful_whole : (n : ℕ) (p q : Parser Expr) (v w : Parser Stmt) → Lawful (suc n) (AnExpression 13) p q →
    Lawful n (AStatement false) v w
    → Lawful (suc n) (AStatement false) (r.whole p v (suc n)) (r.whole q w (suc (suc n)))
unfolding r.whole
lawful_whole n p q v w l h = within whole_is (lawful_from (suc n) _ _ _ (λ first. lawful_line (suc n) (λ line. StatementNode first line) _ _
    (λ line. within (form_then _) (bind (suc n) AForm _ _ _ _ _ a_form_is_lax (lawful_form n p q v w l h) (λ kind. lawful_finish_statement (suc n) first line kind)))
    (λ line. statement_node_is_full first line) (λ at. statement_node_goes_on first at)))

-- The law of the reader of expressions.
abbrev pub Expressions : Type 0
Expressions = (n : ℕ) → Lawful n (AnExpression 13) (expression n) (expression (suc n))

pub lawful_statement : Expressions → (n : ℕ) → Lawful n (AStatement false) (r.statement n) (r.statement (suc n))
unfolding r.statement
lawful_statement l zero = lawful_no_turns (AStatement false) _ (statement_goes_on false)
lawful_statement l (suc n) = lawful_whole n (expression (suc n)) (expression (suc (suc n))) (r.statement n) (r.statement (suc n)) (l (suc n)) (lawful_statement l n)
