-- With which sorts expressions and statements begin.
use Rattle.std.proofs.Common.{◌≡◌, refl, sym, ◌∙◌, ap, subst, ℕ, suc, List, ◌++◌, inl, inr, Bool, true, false, ◌||◌, Option, Some, None}
use Rattle.std.proofs.lemmas.List.{append_assoc}
use Rattle.pw_grammar.specs.declared.sort.Sort.{Sort}
use Rattle.pw_grammar.specs.declared.sort.Sort.TheVariants as s
use Rattle.pw_grammar.specs.Terminals.{sort, first_sort, is_same, prefix_of}
use Rattle.pw_grammar.specs.Expressions.{ExpressionDerivation, identifier, constant, bracketed, input, output, call, index, prefixed, binary, choice, spelled, IsAt, IsConstantSymbol}
use Rattle.pw_grammar.specs.Statements.{type_of_keyword, SimpleDerivation, assign, assign_element, evaluate, spelled_simple, IsSimple}
use Rattle.pw_grammar.specs.Reading.Steps.{Parser}
use Rattle.pw_grammar.specs.Reading.Statements as r
use Rattle.pw_grammar.proofs.Branches.{sorts_other}
use Rattle.pw_grammar.proofs.CompleteTokens.{told_apart}
use Rattle.pw_tree.specs.declared.ty.Ty.{Ty}
use Rattle.pw_tree.specs.declared.operator.Un.{Un}
use Rattle.pw_tree.specs.declared.expr.Expr.{Expr}
use Rattle.pw_tree.specs.declared.stmt.Stmt.{Stmt}
use Rattle.pw_lex.specs.declared.token.Token.{Token}

-- an expression begins so
abbrev pub starts_expression : Sort → Bool
starts_expression s.Name = true
starts_expression s.Number = true
starts_expression s.Character = true
starts_expression s.LeftParen = true
starts_expression s.Input = true
starts_expression s.Output = true
starts_expression s.Minus = true
starts_expression s.Plus = true
starts_expression s.Tilde = true
starts_expression s.Bang = true
starts_expression _ = false

prefix_starts : (x : Sort) (op : Un) → prefix_of x ≡ Some op → starts_expression x ≡ true
prefix_starts s.Minus op e = refl
prefix_starts s.Plus op e = refl
prefix_starts s.Tilde op e = refl
prefix_starts s.Bang op e = refl
prefix_starts _ op e = absurd (none e)
  where
    none : None ≡ Some op → ⊥
    none p = cc

constant_starts : (x : Sort) → IsConstantSymbol x → starts_expression x ≡ true
constant_starts x (inl e) = ap starts_expression e
constant_starts x (inr e) = ap starts_expression e

-- so does a list in two parts, if its first part does before the second
front_starts : (f : Sort → Bool) (u v ts : List Token) → f (first_sort (u ++ (v ++ ts))) ≡ true →
    f (first_sort ((u ++ v) ++ ts)) ≡ true
front_starts f u v ts e = subst (λ w. f (first_sort w) ≡ true) (sym (append_assoc u v ts)) e

-- whatever follows
pub phrase_starts : (n : ℕ) (c : ExpressionDerivation) (ts : List Token) → IsAt n c →
    starts_expression (first_sort (spelled c ++ ts)) ≡ true
unfolding spelled IsAt
phrase_starts n (identifier t) ts e = ap starts_expression e
phrase_starts n (constant t) ts e = constant_starts (sort t) e
phrase_starts n (bracketed o a c) ts e = ap starts_expression e.0
phrase_starts n (input k o c) ts e = ap starts_expression e.0
phrase_starts n (output k o a c) ts e = ap starts_expression e.0
phrase_starts n (call f o xs c) ts e = front_starts starts_expression (spelled f) _ ts (phrase_starts 1 f _ e.1)
phrase_starts n (index a o i c) ts e = front_starts starts_expression (spelled a) _ ts (phrase_starts 1 a _ e.1)
phrase_starts n (prefixed t a) ts e = prefix_starts (sort t) e.1.0 e.1.1
phrase_starts n (binary a t b) ts e = front_starts starts_expression (spelled a) _ ts (phrase_starts (suc e.0) a _ e.2)
phrase_starts n (choice c q a m b) ts e = front_starts starts_expression (spelled c) _ ts (phrase_starts 12 c _ e.1)

pub simple_starts : (c : SimpleDerivation) (ts : List Token) → IsSimple c →
    starts_expression (first_sort (spelled_simple c ++ ts)) ≡ true
simple_starts (assign x q a) ts e = ap starts_expression e.0
simple_starts (assign_element x o i c q a) ts e = ap starts_expression e.0
simple_starts (evaluate a) ts e = phrase_starts 13 a ts e

-- a statement begins so
abbrev pub starts_statement : Sort → Bool
starts_statement s.Name = true
starts_statement s.Number = true
starts_statement s.Character = true
starts_statement s.LeftParen = true
starts_statement s.Input = true
starts_statement s.Output = true
starts_statement s.Minus = true
starts_statement s.Plus = true
starts_statement s.Tilde = true
starts_statement s.Bang = true
starts_statement s.Semicolon = true
starts_statement s.LeftBrace = true
starts_statement s.If = true
starts_statement s.While = true
starts_statement s.Do = true
starts_statement s.For = true
starts_statement s.Return = true
starts_statement s.Break = true
starts_statement s.Continue = true
starts_statement _ = false

not_both : {A : Type 0} (b : Bool) → b ≡ true → b ≡ false → A
not_both b e f = cc

pub statement_too : (x : Sort) → starts_expression x ≡ true → starts_statement x ≡ true
statement_too s.Name e = refl
statement_too s.Number e = refl
statement_too s.Character e = refl
statement_too s.LeftParen e = refl
statement_too s.Input e = refl
statement_too s.Output e = refl
statement_too s.Minus e = refl
statement_too s.Plus e = refl
statement_too s.Tilde e = refl
statement_too s.Bang e = refl
statement_too _ e = not_both false e refl

-- no type begins so
no_type : (x : Sort) → starts_statement x ≡ true → type_of_keyword x ≡ None
no_type s.Name e = refl
no_type s.Number e = refl
no_type s.Character e = refl
no_type s.LeftParen e = refl
no_type s.Input e = refl
no_type s.Output e = refl
no_type s.Minus e = refl
no_type s.Plus e = refl
no_type s.Tilde e = refl
no_type s.Bang e = refl
no_type s.Semicolon e = refl
no_type s.LeftBrace e = refl
no_type s.If e = refl
no_type s.While e = refl
no_type s.Do e = refl
no_type s.For e = refl
no_type s.Return e = refl
no_type s.Break e = refl
no_type s.Continue e = refl
no_type _ e = not_both false e refl

pub begins_no_type : (x : Sort) → starts_statement x ≡ true → r.begins_type x ≡ false
unfolding r.begins_type
begins_no_type x e = neither (is_same x s.Unsigned) (type_of_keyword x) (sorts_other x s.Unsigned (told_apart starts_statement e refl)) (no_type x e)
  where
    neither : (b : Bool) (o : Option Ty) → b ≡ false → o ≡ None → (b || r.is_some o) ≡ false
    neither b o p q = ap (λ b. b || r.is_some o) p ∙ ap r.is_some q

-- what begins as an expression is read as one
pub form_of_expression : (expr : Parser Expr) (stmt : Parser Stmt) (n : ℕ) (x : Sort) → starts_expression x ≡ true →
    r.form_by expr stmt n x ≡ r.evaluated expr
form_of_expression expr stmt n s.Name e = refl
form_of_expression expr stmt n s.Number e = refl
form_of_expression expr stmt n s.Character e = refl
form_of_expression expr stmt n s.LeftParen e = refl
form_of_expression expr stmt n s.Input e = refl
form_of_expression expr stmt n s.Output e = refl
form_of_expression expr stmt n s.Minus e = refl
form_of_expression expr stmt n s.Plus e = refl
form_of_expression expr stmt n s.Tilde e = refl
form_of_expression expr stmt n s.Bang e = refl
form_of_expression expr stmt n _ e = not_both false e refl
