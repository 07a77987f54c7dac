-- The language of statements, and the laws of the reader of what stands in a block.
use Rattle.std.proofs.Common.{◌≡◌, ◌≢◌, refl, sym, ◌∙◌, ap, subst, ℕ, zero, suc, ◌+◌, ◌-◌, ◌<◌, ◌≤◌, List, [], ◌∷◌, ◌++◌, length, Bool, true, false, arith}
use Rattle.std.proofs.lemmas.List.{append-nil, append_assoc}
use Rattle.pw_grammar.specs.declared.sort.Sort.{Sort}
use Rattle.pw_grammar.specs.declared.sort.Sort.TheVariants as s
use Rattle.pw_grammar.specs.Terminals.{is_same}
use Rattle.pw_grammar.specs.Statements.{LocalDerivation, plain, set, spelled_local, StatementDerivation, empty, block, declare, simple, if_only, if_else, while_do, do_while, for_do, leave, jump, nil, cons, spelled_statement, spelled_statements, open_ended, IsStatement, AreStatements, kind_of, trees_of_statements, tree_of_statement}
use Rattle.pw_grammar.specs.Reading.Steps.{Parser, ◌>>=◌, sees}
use Rattle.pw_grammar.specs.Reading.Statements as r
use Rattle.pw_grammar.proofs.Lawful.{Language, sort_before, GoesOn, Lawful, Within, Lax, within, Seq, bind, bind_from, Pure, lawful_pure}
use Rattle.pw_grammar.proofs.Branches.{keeps, lawful_test}
use Rattle.pw_grammar.proofs.Parts.{AnExpression}
use Rattle.pw_grammar.proofs.Pieces.{APhrase, fewer_than, Full, full_shrinks}
use Rattle.pw_grammar.proofs.LawfulTypes.{Is, semicolon}
use Rattle.pw_grammar.proofs.LawfulSimple.{full_simple, full_type, no_front, ALocal, lawful_local}
use Rattle.pw_tree.specs.declared.expr.Expr.{Expr}
use Rattle.pw_tree.specs.declared.stmt.Stmt.{Stmt}
use Rattle.pw_lex.specs.declared.token.Token.{Token}

-- ---- the language of statements

-- a statement that ends in an `if` without `else` stands before no `else`
pub record IsStatementAt (declares : Bool) (at : ℕ) (a : Stmt) (u : List Token) (x : Sort) : Type 0 where
  pub phrase : StatementDerivation
  pub is : IsStatement declares phrase
  pub spells : u ≡ spelled_statement phrase
  pub tree : a ≡ tree_of_statement at phrase
  pub closed : open_ended phrase ≡ true → x ≢ s.Else

abbrev pub AStatement : Bool → Language Stmt
AStatement declares = λ at a u x. IsStatementAt declares at a u x

pub a_statement_is_lax : (declares : Bool) → Lax (AStatement declares)
a_statement_is_lax declares at a u x y r o = record
    { phrase = r.phrase; is = r.is; spells = r.spells; tree = r.tree; closed = λ e. o }

-- a statement, and what comes after it
pub record WithStatement {B : Type 0} (declares : Bool) (M : Stmt → Language B) (at : ℕ) (b : B) (u : List Token) (x : Sort) : Type 0 where
  pub phrase : StatementDerivation
  pub behind : List Token
  pub is : IsStatement declares phrase
  pub splits : u ≡ spelled_statement phrase ++ behind
  pub closed : open_ended phrase ≡ true → sort_before behind x ≢ s.Else
  pub second : M (tree_of_statement at phrase) (at + length (spelled_statement phrase)) b behind x

statement_then : {B : Type 0} (declares : Bool) (M : Stmt → Language B) →
    Within (Seq (AStatement declares) M) (WithStatement declares M)
statement_then declares M at b u x y = record {
  phrase = y.first.phrase;
  behind = y.back;
  is = y.first.is;
  splits = y.splits ∙ ap (λ v. v ++ y.back) y.first.spells;
  closed = y.first.closed;
  second = subst (λ a. M a (at + length (spelled_statement y.first.phrase)) b y.back x) y.first.tree
      (subst (λ v. M y.value (at + length v) b y.back x) y.first.spells y.second);
}

pub lawful_with_statement : {B : Type 0} (n : ℕ) (declares : Bool) (M : Stmt → Language B) (p q : Parser Stmt) (f g : Stmt → Parser B)
    → Lawful n (AStatement declares) p q → ((a : Stmt) → Lawful n (M a) (f a) (g a)) → Lawful n (WithStatement declares M) (p >>= f) (q >>= g)
lawful_with_statement n declares M p q f g l k =
    within (statement_then declares M) (bind n (AStatement declares) M p q f g (a_statement_is_lax declares) l k)

-- `;` is a statement
pub statement_goes_on : (declares : Bool) (at : ℕ) → GoesOn (AStatement declares) at []
unfolding spelled_statement IsStatement open_ended
statement_goes_on declares at = record {
  rest = semicolon.token ∷ [];
  value = tree_of_statement at (empty semicolon.token);
  reads = λ x o. record { phrase = empty semicolon.token; is = semicolon.sort_is; spells = refl; tree = refl; closed = λ e. o };
  starts = λ e x o. subst (λ z. z ≢ s.Else) (sym semicolon.sort_is) semicolon.no_else;
}

-- ---- a statement has a token

pub full_local : (c : LocalDerivation) → [] ≡ spelled_local c → ⊥
full_local (plain ty x e) f = full_type ty (no_front _ _ f)
full_local (set ty x q a e) f = full_type ty (no_front _ _ f)

pub full_statement : (c : StatementDerivation) → [] ≡ spelled_statement c → ⊥
unfolding spelled_statement
full_statement (empty e) f = cc
full_statement (block o body c) f = cc
full_statement (declare l) f = full_local l f
full_statement (simple a e) f = full_simple a (no_front _ _ f)
full_statement (if_only t o a c y) f = cc
full_statement (if_else t o a c y e n) f = cc
full_statement (while_do t o a c y) f = cc
full_statement (do_while t y w o a c e) f = cc
full_statement (for_do t o start a e step c y) f = cc
full_statement (leave t a e) f = cc
full_statement (jump t e) f = cc

statement_is_full : (declares : Bool) → Full (AStatement declares)
statement_is_full declares = λ at a x y. full_statement y.phrase y.spells

-- ---- what stands in a block

may_declare : (c : StatementDerivation) → IsStatement false c → IsStatement true c
unfolding IsStatement
may_declare (empty e) i = i
may_declare (block o body c) i = i
may_declare (declare l) i = (refl, i.1)
may_declare (simple a e) i = i
may_declare (if_only t o a c y) i = i
may_declare (if_else t o a c y e n) i = i
may_declare (while_do t o a c y) i = i
may_declare (do_while t y w o a c e) i = i
may_declare (for_do t o start a e step c y) i = i
may_declare (leave t a e) i = i
may_declare (jump t e) i = i

statement_in_block : Within (AStatement false) (AStatement true)
statement_in_block at a u x y = record
    { phrase = y.phrase; is = may_declare y.phrase y.is; spells = y.spells; tree = y.tree; closed = y.closed }

local_in_block : Within ALocal (AStatement true)
unfolding spelled_statement IsStatement open_ended kind_of
local_in_block at a u x y = record
    { phrase = declare y.phrase; is = (refl, y.is); spells = y.spells; tree = y.value_is; closed = λ e. absurd cc }

lawful_element : (n : ℕ) (p q : Parser Expr) (v w : Parser Stmt) → Lawful n (AnExpression 13) p q →
    Lawful n (AStatement false) v w
    → Lawful n (AStatement true) (r.element p v) (r.element q w)
unfolding r.element
lawful_element n p q v w l k = lawful_test r.begins_type n (AStatement true) _ _ _ _
    (keeps (λ x. r.begins_type x ≡ true) n (AStatement true) _ _ (within local_in_block (lawful_local n p q l)))
    (keeps (λ x. r.begins_type x ≡ false) n (AStatement true) _ _ (within statement_in_block k))
    (statement_goes_on true)

-- statements after those that were found
abbrev pub Elements : List Stmt → Language (List Stmt)
Elements found = APhrase AreStatements spelled_statements (λ at ys. found ++ trees_of_statements at ys)

no_more : (found : List Stmt) → Within (Pure found) (Elements found)
unfolding spelled_statements AreStatements trees_of_statements
no_more found at a u x y = record { phrase = nil; is = tt; spells = y.empty; value_is = y.is ∙ sym (append-nil found) }

one_more : (found : List Stmt) → Within (WithStatement true (λ y. Elements (found ++ y ∷ []))) (Elements found)
unfolding spelled_statements AreStatements trees_of_statements
one_more found at a u x y = record {
  phrase = cons y.phrase y.second.phrase;
  is = (y.is, y.second.is);
  spells = y.splits ∙ ap (λ v. spelled_statement y.phrase ++ v) y.second.spells;
  value_is = y.second.value_is ∙ append_assoc found (tree_of_statement at y.phrase ∷ []) _;
}

elements_go_on : (found : List Stmt) (at : ℕ) → GoesOn (Elements found) at []
elements_go_on found at = record
    { rest = []; value = found; reads = λ x o. no_more found at found [] x (record { is = refl; empty = refl }); starts = λ e x o. o }

-- m turns, where fewer than m tokens are left
pub lawful_elements : (m n : ℕ) → n ≤ m → (p q : Parser Expr) (v w : Parser Stmt) → Lawful n (AnExpression 13) p q →
    Lawful n (AStatement false) v w
    → (found : List Stmt) → Lawful n (Elements found) (r.elements p v m found) (r.elements q w (suc m) found)
unfolding r.elements sees
lawful_elements zero n small p q v w l k found =
    let none = within (no_more found) (lawful_pure n found) in
    record {
      settled = λ i short. absurd (let e : length i.rest < n = short in omega arith);
      says = none.says;
      steady = none.steady;
      can = none.can;
    }
lawful_elements (suc m) n small p q v w l k found = lawful_test (λ x. is_same x s.RightBrace) n (Elements found) _ _ _ _
    (keeps (Is s.RightBrace) n (Elements found) _ _ (within (no_more found) (lawful_pure n found)))
    (keeps (λ x. is_same x s.RightBrace ≡ false) n (Elements found) _ _ (within (one_more found) (within (statement_then true _)
    (bind_from n (n - 1) (AStatement true) (λ y. Elements (found ++ y ∷ [])) (r.element p v) (r.element q w) _ _ (a_statement_is_lax true)
    (lawful_element n p q v w l k)
    (λ y. lawful_elements m (n - 1) (omega arith) p q v w (fewer_than (n - 1) n (omega arith) l) (fewer_than (n - 1) n (omega arith) k) (found ++ y ∷ []))
    (full_shrinks n (AStatement true) (r.element p v) (statement_is_full true) (λ i. (lawful_element n p q v w l k).says i))))))
    (elements_go_on found)
