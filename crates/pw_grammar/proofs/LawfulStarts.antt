-- The laws of the readers of what stands in the head of a loop or of a condition.
use Rattle.std.proofs.Common.{◌≡◌, ◌≢◌, refl, sym, ◌∙◌, ap, subst, ℕ, suc, ◌+◌, List, [], ◌∷◌, ◌++◌, length, true, false, if◌then◌else◌, Option, Some, None, arith}
use Rattle.std.proofs.lemmas.List.{append-nil, append_assoc, length-append}
use Rattle.pw_grammar.specs.declared.sort.Sort.{Sort}
use Rattle.pw_grammar.specs.declared.sort.Sort.TheVariants as s
use Rattle.pw_grammar.specs.Terminals.{sort, is_same}
use Rattle.pw_grammar.specs.Expressions.{ExpressionDerivation, spelled, IsAt, expression_tree}
use Rattle.pw_grammar.specs.Statements.{spelled_local, IsLocal, SimpleDerivation, spelled_simple, IsSimple, kind_of_simple, no_start, local_start, simple_start, spelled_start, IsStart, tree_of_start, spelled_maybe, IsMaybe, tree_of_maybe, spelled_step, IsStep, tree_of_step, statement_node}
use Rattle.pw_grammar.specs.Reading.Steps.{Parser, ◌>>=◌, next_sort, sees}
use Rattle.pw_grammar.specs.Reading.Statements as r
use Rattle.pw_grammar.proofs.Lawful.{Language, GoesOn, Lawful, Within, within, Pure, lawful_pure}
use Rattle.pw_grammar.proofs.Branches.{keeps, keeps_pure, lawful_test, keeps_within, same_sorts}
use Rattle.pw_grammar.proofs.Parts.{AnExpression, Then, lawful_then, keeps_then, WithExpression, lawful_with}
use Rattle.pw_grammar.proofs.Pieces.{APhrase, WithPhrase, lawful_with_phrase, keeps_fewer}
use Rattle.pw_grammar.proofs.LawfulTypes.{Is, no_end, left_paren, right_paren, semicolon}
use Rattle.pw_grammar.proofs.LawfulSimple.{lawful_simple_statement, tree_of_local, lawful_local}
use Rattle.pw_tree.specs.declared.expr.Expr.{Expr}
use Rattle.pw_tree.specs.declared.stmt.Stmt.{Stmt}
use Rattle.pw_lex.specs.declared.token.Token.{Token}

abbrev pub tree_of_simple : ℕ → SimpleDerivation → Stmt
tree_of_simple at c = statement_node at (spelled_simple c) (kind_of_simple at c)

-- ---- an expression or nothing, before a token

abbrev pub AMaybe : Language (Option Expr)
AMaybe = APhrase IsMaybe spelled_maybe tree_of_maybe

some_is : Within (WithExpression 13 (λ a. Pure (Some a))) AMaybe
some_is at a u x y = record {
  phrase = Some y.phrase;
  is = y.is;
  spells = y.splits ∙ (ap (λ v. spelled y.phrase ++ v) y.second.empty ∙ append-nil (spelled y.phrase));
  value_is = y.second.is;
}

maybe_goes_on : (at : ℕ) → GoesOn AMaybe at []
maybe_goes_on at = record
    { rest = []; value = None; reads = λ x o. record { phrase = None; is = tt; spells = refl; value_is = refl }; starts = λ e x o. o }

pub lawful_maybe : (n : ℕ) (z : Sort) (p q : Parser Expr) → Lawful n (AnExpression 13) p q →
    Lawful n AMaybe (r.maybe_before z p) (r.maybe_before z q)
unfolding r.maybe_before r.some sees
lawful_maybe n z p q l = lawful_test (λ x. is_same x z) n AMaybe _ _ _ _
    (keeps_pure (Is z) n AMaybe None (λ at x h. record { phrase = None; is = tt; spells = refl; value_is = refl }))
    (keeps (λ x. is_same x z ≡ false) n AMaybe _ _ (within some_is (lawful_with n 13 _ p q _ _ l (λ a. lawful_pure n (Some a)))))
    maybe_goes_on

-- ---- the last part of a `for`

abbrev pub AStep : Language (Option Stmt)
AStep = APhrase IsStep spelled_step tree_of_step

some_step_is : Within (WithPhrase IsSimple spelled_simple tree_of_simple (λ a. Pure (Some a))) AStep
some_step_is at a u x y = record {
  phrase = Some y.phrase;
  is = y.is;
  spells = y.splits ∙ (ap (λ v. spelled_simple y.phrase ++ v) y.second.empty ∙ append-nil (spelled_simple y.phrase));
  value_is = y.second.is;
}

step_goes_on : (at : ℕ) → GoesOn AStep at []
step_goes_on at = record
    { rest = []; value = None; reads = λ x o. record { phrase = None; is = tt; spells = refl; value_is = refl }; starts = λ e x o. o }

pub lawful_step : (n : ℕ) (p q : Parser Expr) → Lawful n (AnExpression 13) p q
    → Lawful n AStep (r.maybe_before s.RightParen (r.simple_statement p)) (r.maybe_before s.RightParen (r.simple_statement q))
unfolding r.maybe_before r.some sees
lawful_step n p q l = lawful_test (λ x. is_same x s.RightParen) n AStep _ _ _ _
    (keeps_pure (Is s.RightParen) n AStep None (λ at x h. record { phrase = None; is = tt; spells = refl; value_is = refl }))
    (keeps (λ x. is_same x s.RightParen ≡ false) n AStep _ _ (within some_step_is
    (lawful_with_phrase n IsSimple spelled_simple tree_of_simple _ _ _ _ _ (lawful_simple_statement n p q l) (λ a. lawful_pure n (Some a)))))
    step_goes_on

-- ---- the first part of a `for`

abbrev pub AStart : Language (Option Stmt)
AStart = APhrase IsStart spelled_start tree_of_start

no_start_is : Within (Then (Is s.Semicolon) (λ e. Pure None)) AStart
no_start_is at a u x y = record {
  phrase = no_start y.token;
  is = same_sorts (sort y.token) s.Semicolon y.sort_is;
  spells = y.splits ∙ ap (λ v. y.token ∷ v) y.second.empty;
  value_is = y.second.is;
}

local_start_is : Within (WithPhrase IsLocal spelled_local tree_of_local (λ a. Pure (Some a))) AStart
local_start_is at a u x y = record {
  phrase = local_start y.phrase;
  is = y.is;
  spells = y.splits ∙ (ap (λ v. spelled_local y.phrase ++ v) y.second.empty ∙ append-nil (spelled_local y.phrase));
  value_is = y.second.is;
}

simple_start_is : Within (WithPhrase IsSimple spelled_simple tree_of_simple (λ a. Then (λ x. x ≡ s.Semicolon) (λ e. Pure (Some a)))) AStart
simple_start_is at a u x y =
    let e = y.second in
    record {
      phrase = simple_start y.phrase e.token;
      is = (y.is, e.sort_is);
      spells = y.splits ∙ ap (λ v. spelled_simple y.phrase ++ v) (e.splits ∙ ap (λ v. e.token ∷ v) e.second.empty);
      value_is = e.second.is;
    }

start_goes_on : (at : ℕ) → GoesOn AStart at []
start_goes_on at = record {
  rest = semicolon.token ∷ [];
  value = None;
  reads = λ x o. record { phrase = no_start semicolon.token; is = semicolon.sort_is; spells = refl; value_is = refl };
  starts = λ e x o. subst (λ z. z ≢ s.Else) (sym semicolon.sort_is) semicolon.no_else;
}

lawful_some_start : (n : ℕ) (p q : Parser Expr) → Lawful n (AnExpression 13) p q
    → Lawful n AStart (λ i. if r.begins_type (next_sort i) then r.some (r.local p) i else r.simple_start p i) (λ i. if r.begins_type (next_sort i) then r.some (r.local q) i else r.simple_start q i)
unfolding r.some r.simple_start
lawful_some_start n p q l = lawful_test r.begins_type n AStart _ _ _ _
    (keeps (λ x. r.begins_type x ≡ true) n AStart _ _ (within local_start_is
    (lawful_with_phrase n IsLocal spelled_local tree_of_local _ _ _ _ _ (lawful_local n p q l) (λ a. lawful_pure n (Some a)))))
    (keeps (λ x. r.begins_type x ≡ false) n AStart _ _ (within simple_start_is
    (lawful_with_phrase n IsSimple spelled_simple tree_of_simple _ _ _ _ _ (lawful_simple_statement n p q l)
    (λ a. lawful_then n s.Semicolon _ _ _ semicolon (λ e. lawful_pure n (Some a))))))
    start_goes_on

pub lawful_start : (n : ℕ) (p q : Parser Expr) → Lawful n (AnExpression 13) p q → Lawful n AStart (r.start p) (r.start q)
unfolding r.start r.no_start sees
lawful_start n p q l = lawful_test (λ x. is_same x s.Semicolon) n AStart _ _ _ _
    (keeps_fewer (Is s.Semicolon) n AStart _ _ (keeps_within (Is s.Semicolon) (suc n) _ AStart _ _ no_start_is
    (keeps_then (Is s.Semicolon) n _ _ _ (no_end s.Semicolon (λ z. cc)) (λ e. lawful_pure n None))))
    (keeps (λ x. is_same x s.Semicolon ≡ false) n AStart _ _ (lawful_some_start n p q l))
    start_goes_on

-- ---- `( e )`

-- a bracket, an expression, a bracket
abbrev Test : Type 0
Test = Token × ExpressionDerivation × Token

abbrev IsTest : Test → Type 0
IsTest t = (sort t.0 ≡ s.LeftParen) × IsAt 13 t.1 × (sort t.2 ≡ s.RightParen)

abbrev spelled_test : Test → List Token
spelled_test t = t.0 ∷ (spelled t.1 ++ t.2 ∷ [])

abbrev tree_of_test : ℕ → Test → Expr
tree_of_test at t = expression_tree (suc at) t.1

abbrev ATest : Language Expr
ATest = APhrase IsTest spelled_test tree_of_test

test_is : Within (Then (λ x. x ≡ s.LeftParen) (λ o. WithExpression 13 (λ a. Then (λ x. x ≡ s.RightParen) (λ c. Pure a)))) ATest
test_is at a u x o =
    let b = o.second in
    let c = b.second in
    record {
      phrase = (o.token, b.phrase, c.token);
      is = (o.sort_is, b.is, c.sort_is);
      spells = o.splits ∙ ap (λ v. o.token ∷ v) (b.splits ∙ ap (λ v. spelled b.phrase ++ v) (c.splits ∙ ap (λ v. c.token ∷ v) c.second.empty));
      value_is = c.second.is;
    }

lawful_test_part : (n : ℕ) (p q : Parser Expr) → Lawful n (AnExpression 13) p q → Lawful n ATest (r.test p) (r.test q)
unfolding r.test
lawful_test_part n p q l = within test_is (lawful_then n s.LeftParen _ _ _ left_paren (λ o. lawful_with n 13 _ p q _ _ l
    (λ a. lawful_then n s.RightParen _ _ _ right_paren (λ c. lawful_pure n a))))

-- `( e )`, and what comes after it
pub record Tested {B : Type 0} (M : Expr → Language B) (at : ℕ) (b : B) (u : List Token) (x : Sort) : Type 0 where
  pub left : Token
  pub phrase : ExpressionDerivation
  pub right : Token
  pub behind : List Token
  pub left_is : sort left ≡ s.LeftParen
  pub is : IsAt 13 phrase
  pub right_is : sort right ≡ s.RightParen
  pub splits : u ≡ left ∷ (spelled phrase ++ right ∷ behind)
  pub second : M (expression_tree (suc at) phrase) (suc (suc at + length (spelled phrase))) b behind x

test_then : {B : Type 0} (M : Expr → Language B) → Within (WithPhrase IsTest spelled_test tree_of_test M) (Tested M)
test_then M at b u x y = record {
  left = y.phrase.0;
  phrase = y.phrase.1;
  right = y.phrase.2;
  behind = y.behind;
  left_is = y.is.0;
  is = y.is.1;
  right_is = y.is.2;
  splits = y.splits ∙ ap (λ v. y.phrase.0 ∷ v) (append_assoc (spelled y.phrase.1) (y.phrase.2 ∷ []) y.behind);
  second = subst (λ n. M (expression_tree (suc at) y.phrase.1) n b y.behind x)
      (count at (length (spelled y.phrase.1)) _ (length-append (spelled y.phrase.1) (y.phrase.2 ∷ []))) y.second;
}
  where
    count : (at n m : ℕ) → m ≡ n + 1 → at + suc m ≡ suc (suc at + n)
    count at n m e = omega arith

pub lawful_tested : {B : Type 0} (n : ℕ) (M : Expr → Language B) (p q : Parser Expr) (f g : Expr → Parser B)
    → Lawful n (AnExpression 13) p q → ((a : Expr) → Lawful n (M a) (f a) (g a)) → Lawful n (Tested M) (r.test p >>= f) (r.test q >>= g)
lawful_tested n M p q f g l k = within (test_then M) (lawful_with_phrase n IsTest spelled_test tree_of_test M _ _ f g (lawful_test_part n p q l) k)
