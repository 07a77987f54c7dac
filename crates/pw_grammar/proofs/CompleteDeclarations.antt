-- Every declaration is read, and every unit.
use Rattle.std.proofs.Common.{◌≡◌, ◌≢◌, refl, sym, ◌∙◌, ap, subst, ℕ, zero, suc, ◌+◌, ◌-◌, ◌<◌, List, [], ◌∷◌, ◌++◌, length, Ok, true, false, not, ◌&&◌, ◌||◌, if◌then◌else◌, Option, Some, None, inl, inr, arith}
use Rattle.std.proofs.lemmas.List.{append_assoc, append-nil, length-append}
use Rattle.std.specs.List.{list_all}
use Rattle.pw_grammar.specs.declared.sort.Sort.{Sort}
use Rattle.pw_grammar.specs.declared.sort.Sort.TheVariants as s
use Rattle.pw_grammar.specs.Terminals.{sort, first_sort, is_same}
use Rattle.pw_grammar.specs.Expressions.{name_in}
use Rattle.pw_grammar.specs.Statements.{TypeDerivation, word, unsigned, spelled_type, IsType, type_of_keyword, type_in, type_or, StatementDerivations, spelled_statements, trees_of_statements}
use Rattle.pw_grammar.specs.Declarations as dc
use Rattle.pw_grammar.specs.Declarations.{spelled_storage, IsStorage, IsDefining, linkage_of, linkage_by, ResultDerivation, spelled_result, IsResult, result_in, ParametersDerivation, spelled_parameters, AreParameters, parameters_of, VariableDerivation, spelled_variable, IsSizeAndInitialiser, MayHave, DeclarationDerivation, prototype, function, variable, spelled_declaration, IsDeclaration, name_at, after_parameters, tree_of_declaration, UnitDerivation, spelled_unit, IsUnit, trees_of_declarations}
use Rattle.pw_grammar.specs.Reading.Steps.{Position, Parser, ◌>>=◌, pure, refuse, next_sort}
use Rattle.pw_grammar.specs.Reading.Expressions.{expression}
use Rattle.pw_grammar.specs.Reading.Statements as r
use Rattle.pw_grammar.specs.Reading.Declarations as rd
use Rattle.pw_grammar.proofs.Lengths.{declaration_length}
use Rattle.pw_grammar.proofs.CompleteTokens.{spot, then_, counted, done, valued, step_skip, step_expect, step_name, sees_it, sees_other, either_this, either_other, behind, parted, fits, ReadsExpressions}
use Rattle.pw_grammar.proofs.CompleteStatements.{no_other}
use Rattle.pw_grammar.proofs.CompleteBlocks.{ReadsElements, reads_statements}
use Rattle.pw_grammar.proofs.CompleteParameters.{result_no, step_storage, step_result, step_parameters, all_named}
use Rattle.pw_grammar.proofs.CompleteInitials.{may_be, step_variable}
use Rattle.pw_tree.specs.Types.{is_void}
use Rattle.pw_tree.specs.declared.ty.Ty.{Ty}
use Rattle.pw_tree.specs.declared.expr.Expr.{Expr}
use Rattle.pw_tree.specs.declared.stmt.Stmt.{Stmt}
use Rattle.pw_tree.specs.declared.decl.Param.{Param}
use Rattle.pw_tree.specs.declared.decl.Linkage.{Linkage}
use Rattle.pw_tree.specs.declared.decl.DeclKind.{DeclKind}
use Rattle.pw_tree.specs.declared.decl.DeclKind.TheVariants as d
use Rattle.pw_tree.specs.declared.decl.Decl.{Decl}
use Rattle.pw_lex.specs.declared.token.Token.{Token}

-- ---- what comes before a declaration's end

no_type_static : r.begins_type s.Static ≡ false
unfolding r.begins_type is_same
no_type_static = refl

no_type_extern : r.begins_type s.Extern ≡ false
unfolding r.begins_type is_same
no_type_extern = refl

no_type_end : r.begins_type s.End ≡ false
unfolding r.begins_type is_same
no_type_end = refl

-- the declaration with this name and what its reader gives after it
abbrev pub declared : ℕ → Option Token → ResultDerivation → Token → ℕ × DeclKind → ℕ → Decl
declared at g c x p last = record {
  first = at;
  name_at = name_at at g (spelled_result c);
  declarator = p.0;
  last = last;
  line = x.line;
  linkage = linkage_of g;
  name = name_in x.kind;
  kind = p.1;
}

reads_front : (expr : Parser Expr) (stmt : Parser Stmt) (n at : ℕ) (g : Option Token) (c : ResultDerivation) (x : Token)
    (ts : List Token) (p : ℕ × DeclKind) (last m : ℕ) (us : List Token)
    → IsStorage g → IsResult c → sort x ≡ s.Name
    → rd.declarator expr stmt n (linkage_of g) (result_in c) (spot (suc (name_at at g (spelled_result c))) ts) ≡ Ok (p, spot m us) → m ≡ suc last
    → rd.declaration expr stmt n (spot at (spelled_storage g ++ (spelled_result c ++ x ∷ ts))) ≡ Ok (declared at g c x p last, spot m us)
unfolding rd.declaration
reads_front expr stmt n at g c x ts p last m us is_g is_c is_x reads ends =
    then_ _ (step_storage g at (spelled_result c ++ x ∷ ts) is_g (result_no c (x ∷ ts) s.Extern is_c no_type_extern (λ p. cc))
    (result_no c (x ∷ ts) s.Static is_c no_type_static (λ p. cc)))
    (then_ _ (step_result c (at + length (spelled_storage g)) (x ∷ ts) is_c)
    (then_ _ (step_name (name_at at g (spelled_result c)) x ts is_x)
    (then_ _ reads (ap (λ k. pure (declared at g c x p k) (spot m us)) (let same : m - 1 ≡ last = omega arith in same)))))

-- ---- functions

a_function : (expr : Parser Expr) (stmt : Parser Stmt) (n : ℕ) (l : Linkage) (y : Ty) (j : Position) → next_sort j ≡ s.LeftParen
    → rd.declarator expr stmt n l y j ≡ rd.function expr stmt n l y j
unfolding rd.declarator
a_function expr stmt n l y j is = ap (λ b. if b then rd.function expr stmt n l y j else (if is_void y then refuse j else rd.variable n l y j))
    (sees_it s.LeftParen j is)

a_variable : (expr : Parser Expr) (stmt : Parser Stmt) (n : ℕ) (l : Linkage) (y : Ty) (j : Position) →
    next_sort j ≢ s.LeftParen → is_void y ≡ false
    → rd.declarator expr stmt n l y j ≡ rd.variable n l y j
unfolding rd.declarator
a_variable expr stmt n l y j other void =
    ap (λ b. if b then rd.function expr stmt n l y j else (if is_void y then refuse j else rd.variable n l y j)) (sees_other s.LeftParen j other)
    ∙ ap (λ b. if b then refuse j else rd.variable n l y j) void

ends_here : (expr : Parser Expr) (stmt : Parser Stmt) (n : ℕ) (l : Linkage) (y : Ty) (ps : List Param) (j : Position) →
    next_sort j ≡ s.Semicolon
    → rd.function_end expr stmt n l y ps j ≡ rd.prototype y ps j
unfolding rd.function_end
ends_here expr stmt n l y ps j is = ap (λ b. if (b || not (rd.may_define l ps)) then rd.prototype y ps j else rd.body expr stmt n y ps j) (sees_it s.Semicolon j is)

has_body : (expr : Parser Expr) (stmt : Parser Stmt) (n : ℕ) (l : Linkage) (y : Ty) (ps : List Param) (j : Position) →
    next_sort j ≢ s.Semicolon → rd.may_define l ps ≡ true
    → rd.function_end expr stmt n l y ps j ≡ rd.body expr stmt n y ps j
unfolding rd.function_end
has_body expr stmt n l y ps j other may =
    ap (λ b. if (b || not (rd.may_define l ps)) then rd.prototype y ps j else rd.body expr stmt n y ps j) (sees_other s.Semicolon j other)
    ∙ ap (λ b. if not b then rd.prototype y ps j else rd.body expr stmt n y ps j) may

may_it : (l : Linkage) (ps : List Param) → rd.is_extern l ≡ false → list_all rd.is_named ps ≡ true → rd.may_define l ps ≡ true
unfolding rd.may_define
may_it l ps own all = ap (λ b. not b && list_all rd.is_named ps) own ∙ all

-- a type of one word or two is not `void`
no_void : (x : Sort) (y : Ty) → type_of_keyword x ≡ Some y → is_void (type_or (type_of_keyword x)) ≡ false
no_void s.Long y e = refl
no_void s.Fn0 y e = refl
no_void s.Fn1 y e = refl
no_void s.Fn2 y e = refl
no_void s.Fn3 y e = refl
no_void s.Fn4 y e = refl
no_void s.Fn5 y e = refl
no_void s.Fn6 y e = refl
no_void _ y e = absurd (none e)
  where
    none : None ≡ Some y → ⊥
    none p = cc

type_not_void : (c : TypeDerivation) → IsType c → is_void (type_in c) ≡ false
type_not_void (word t) (y, e) = no_void (sort t) y e
type_not_void (unsigned u l) is = refl

reads_function : (expr : Parser Expr) (stmt : Parser Stmt) (n : ℕ) (l : Linkage) (y : Ty) (at : ℕ) (o : Token)
    (ps : ParametersDerivation) (c : Token) (ts : List Token) (kind : DeclKind) (j : Position)
    → AreParameters ps → sort c ≡ s.RightParen → length (spelled_parameters ps ++ c ∷ ts) < n
    → rd.function_end expr stmt n l y (parameters_of (suc at) ps) (spot (suc (suc at + length (spelled_parameters ps))) ts) ≡ Ok (kind, j)
    → rd.function expr stmt n l y (spot at (o ∷ (spelled_parameters ps ++ c ∷ ts))) ≡ Ok ((suc at + length (spelled_parameters ps), kind), j)
unfolding rd.function
reads_function expr stmt n l y at o ps c ts kind j are is_c short reads =
    then_ _ (step_skip at o _)
    (then_ _ (step_parameters n ps (suc at) (c ∷ ts) are is_c short)
    (then_ _ (step_expect s.RightParen (suc at + length (spelled_parameters ps)) c ts is_c)
    (then_ _ reads refl)))

a_prototype : (y : Ty) (ps : List Param) (at : ℕ) (e : Token) (ts : List Token) → sort e ≡ s.Semicolon
    → rd.prototype y ps (spot at (e ∷ ts)) ≡ Ok (d.Proto y ps, spot (suc at) ts)
unfolding rd.prototype
a_prototype y ps at e ts is = then_ _ (step_expect s.Semicolon at e ts is) refl

a_body : (expr : Parser Expr) (stmt : Parser Stmt) (n : ℕ) (y : Ty) (ps : List Param) (at : ℕ) (b : Token)
    (ys : StatementDerivations) (e : Token) (ts : List Token)
    → sort b ≡ s.LeftBrace → sort e ≡ s.RightBrace
    → ReadsElements expr stmt n ys (suc at) (e ∷ ts)
    → rd.body expr stmt n y ps (spot at (b ∷ (spelled_statements ys ++ e ∷ ts)))
    ≡ Ok (d.Fun y ps (trees_of_statements (suc at) ys), spot (suc (suc at + length (spelled_statements ys))) ts)
unfolding rd.body
a_body expr stmt n y ps at b ys e ts is_b is_e elements =
    then_ _ (step_expect s.LeftBrace at b _ is_b) (then_ _ (elements []) (then_ _ (step_expect s.RightBrace (suc at + length (spelled_statements ys)) e ts is_e) refl))

-- ---- declarations

defines : (g : Option Token) → IsDefining g → IsStorage g
defines None is = tt
defines (Some t) is = inr is

own_definition : (g : Option Token) → IsDefining g → rd.is_extern (linkage_of g) ≡ false
own_definition None is = refl
own_definition (Some t) is = ap (λ x. rd.is_extern (linkage_by x)) is

stored : (g : Option Token) (v : VariableDerivation) → MayHave g v → IsStorage g
stored None v is = tt
stored (Some t) v (inl is) = inr is
stored (Some t) v (inr is) = inl is.0

function_parts : (u v : List Token) (x o : Token) (w z ts : List Token) →
    (u ++ (v ++ x ∷ o ∷ (w ++ z))) ++ ts ≡ u ++ (v ++ x ∷ o ∷ (w ++ (z ++ ts)))
function_parts u v x o w z ts =
    append_assoc u (v ++ x ∷ o ∷ (w ++ z)) ts ∙ ap (λ k. u ++ k) (append_assoc v (x ∷ o ∷ (w ++ z)) ts ∙ ap (λ k. v ++ x ∷ o ∷ k) (append_assoc w z ts))

body_parts : (u v : List Token) (x o : Token) (w : List Token) (c b : Token) (z : List Token) (e : Token) (ts : List Token)
    → (u ++ (v ++ x ∷ o ∷ (w ++ c ∷ b ∷ (z ++ e ∷ [])))) ++ ts ≡ u ++ (v ++ x ∷ o ∷ (w ++ c ∷ b ∷ (z ++ e ∷ ts)))
body_parts u v x o w c b z e ts =
    function_parts u v x o w (c ∷ b ∷ (z ++ e ∷ [])) ts ∙ ap (λ k. u ++ (v ++ x ∷ o ∷ (w ++ c ∷ b ∷ k))) (append_assoc z (e ∷ []) ts)

variable_parts : (u v : List Token) (x : Token) (w : List Token) (e : Token) (ts : List Token)
    → (u ++ (v ++ x ∷ (w ++ e ∷ []))) ++ ts ≡ u ++ (v ++ x ∷ (w ++ e ∷ ts))
variable_parts u v x w e ts =
    append_assoc u (v ++ x ∷ (w ++ e ∷ [])) ts ∙ ap (λ k. u ++ k) (append_assoc v (x ∷ (w ++ e ∷ [])) ts ∙ ap (λ k. v ++ x ∷ k) (append_assoc w (e ∷ []) ts))

front_fits : (u v : List Token) (x : Token) (w : List Token) (n : ℕ) → length (u ++ (v ++ x ∷ w)) < n → length w < n
front_fits u v x w n short = omega (arith, length-append u (v ++ x ∷ w), length-append v (x ∷ w))

-- what comes after a variable's name is no bracket
variable_no : (v : VariableDerivation) (e : Token) (ts : List Token) → IsSizeAndInitialiser v → sort e ≡ s.Semicolon →
    first_sort (spelled_variable v ++ e ∷ ts) ≢ s.LeftParen
variable_no dc.scalar e ts is is_e = no_other is_e (λ p. cc)
variable_no (dc.scalar_set q x) e ts is is_e = no_other is.0 (λ p. cc)
variable_no (dc.array o n c) e ts is is_e = no_other is.0 (λ p. cc)
variable_no (dc.array_set o n c q b x xs z) e ts is is_e = no_other is.0.0 (λ p. cc)

pub reads_declaration : ((m : ℕ) → ReadsExpressions m (expression m)) →
    (n : ℕ) (c : DeclarationDerivation) (at : ℕ) (ts : List Token) → IsDeclaration c
    → length (spelled_declaration c ++ ts) < n
    → rd.declaration (expression n) (r.statement n) n (spot at (spelled_declaration c ++ ts))
    ≡ Ok (tree_of_declaration at c, spot (at + length (spelled_declaration c)) ts)
reads_declaration reads n (prototype g y x o ps c e) at ts (is_g, is_y, is_x, is_o, are, is_c, is_e) short =
    let parts : spelled_declaration (prototype g y x o ps c e) ++ ts ≡ spelled_storage g ++ (spelled_result y ++ x ∷ o ∷ (spelled_parameters ps ++ c ∷ e ∷ ts)) =
    function_parts (spelled_storage g) (spelled_result y) x o (spelled_parameters ps) (c ∷ e ∷ []) ts in
    let inner : length (o ∷ (spelled_parameters ps ++ c ∷ e ∷ ts)) < n = front_fits (spelled_storage g) (spelled_result y) x _ n (fits _ _ n parts short) in
    parted (rd.declaration (expression n) (r.statement n) n) at parts
    (counted _ (reads_front (expression n) (r.statement n) n at g y x (o ∷ (spelled_parameters ps ++ c ∷ e ∷ ts)) _
    (suc (after_parameters at g y ps)) _ ts is_g is_y is_x
    (a_function (expression n) (r.statement n) n (linkage_of g) (result_in y)
    (spot (suc (name_at at g (spelled_result y))) (o ∷ (spelled_parameters ps ++ c ∷ e ∷ ts))) is_o
    ∙ reads_function (expression n) (r.statement n) n (linkage_of g) (result_in y) (suc (name_at at g (spelled_result y))) o ps c (e ∷ ts) _ _ are is_c (omega arith)
    (ends_here (expression n) (r.statement n) n (linkage_of g) (result_in y) (parameters_of (suc (suc (name_at at g (spelled_result y)))) ps)
    (spot (suc (after_parameters at g y ps)) (e ∷ ts)) is_e
    ∙ a_prototype (result_in y) (parameters_of (suc (suc (name_at at g (spelled_result y)))) ps) (suc (after_parameters at g y ps)) e ts is_e))
    refl)
    (omega (
      arith,
      length-append (spelled_storage g) (spelled_result y ++ x ∷ o ∷ (spelled_parameters ps ++ c ∷ e ∷ [])),
      length-append (spelled_result y) (x ∷ o ∷ (spelled_parameters ps ++ c ∷ e ∷ [])),
      length-append (spelled_parameters ps) (c ∷ e ∷ []),
    )))
reads_declaration reads n (function g y x o ps c b body e) at ts (is_g, is_y, is_x, is_o, are, names, is_c, is_b, is, is_e) short =
    let parts : spelled_declaration (function g y x o ps c b body e) ++ ts
    ≡ spelled_storage g ++ (spelled_result y ++ x ∷ o ∷ (spelled_parameters ps ++ c ∷ b ∷ (spelled_statements body ++ e ∷ ts))) =
    body_parts (spelled_storage g) (spelled_result y) x o (spelled_parameters ps) c b (spelled_statements body) e ts in
    let inner : length (o ∷ (spelled_parameters ps ++ c ∷ b ∷ (spelled_statements body ++ e ∷ ts))) < n =
    front_fits (spelled_storage g) (spelled_result y) x _ n (fits _ _ n parts short) in
    let deeper : length (spelled_statements body ++ e ∷ ts) < n = omega (arith, length-append (spelled_parameters ps) (c ∷ b ∷ (spelled_statements body ++ e ∷ ts))) in
    parted (rd.declaration (expression n) (r.statement n) n) at parts
    (counted _ (reads_front (expression n) (r.statement n) n at g y x (o ∷ (spelled_parameters ps ++ c ∷ b ∷ (spelled_statements body ++ e ∷ ts))) _
    (suc (suc (after_parameters at g y ps)) + length (spelled_statements body)) _ ts (defines g is_g) is_y is_x
    (a_function (expression n) (r.statement n) n (linkage_of g) (result_in y)
    (spot (suc (name_at at g (spelled_result y))) (o ∷ (spelled_parameters ps ++ c ∷ b ∷ (spelled_statements body ++ e ∷ ts)))) is_o
    ∙ reads_function (expression n) (r.statement n) n (linkage_of g) (result_in y) (suc (name_at at g (spelled_result y))) o ps c
    (b ∷ (spelled_statements body ++ e ∷ ts)) _ _ are is_c (omega arith)
    (has_body (expression n) (r.statement n) n (linkage_of g) (result_in y) (parameters_of (suc (suc (name_at at g (spelled_result y)))) ps)
    (spot (suc (after_parameters at g y ps)) (b ∷ (spelled_statements body ++ e ∷ ts))) (no_other is_b (λ p. cc))
    (may_it (linkage_of g) _ (own_definition g is_g) (all_named ps (suc (suc (name_at at g (spelled_result y)))) names))
    ∙ a_body (expression n) (r.statement n) n (result_in y) (parameters_of (suc (suc (name_at at g (spelled_result y)))) ps)
    (suc (after_parameters at g y ps)) b body e ts is_b is_e
    (reads_statements reads n n n body (suc (suc (after_parameters at g y ps))) (e ∷ ts) is is_e deeper deeper deeper)))
    refl)
    (omega (
      arith,
      length-append (spelled_storage g) (spelled_result y ++ x ∷ o ∷ (spelled_parameters ps ++ c ∷ b ∷ (spelled_statements body ++ e ∷ []))),
      length-append (spelled_result y) (x ∷ o ∷ (spelled_parameters ps ++ c ∷ b ∷ (spelled_statements body ++ e ∷ []))),
      length-append (spelled_parameters ps) (c ∷ b ∷ (spelled_statements body ++ e ∷ [])),
      length-append (spelled_statements body) (e ∷ []),
    )))
reads_declaration reads n (variable g y x v e) at ts (is_y, is_x, is_v, may, is_e) short =
    let parts : spelled_declaration (variable g y x v e) ++ ts ≡ spelled_storage g ++ (spelled_type y ++ x ∷ (spelled_variable v ++ e ∷ ts)) =
    variable_parts (spelled_storage g) (spelled_type y) x (spelled_variable v) e ts in
    parted (rd.declaration (expression n) (r.statement n) n) at parts
    (counted _ (reads_front (expression n) (r.statement n) n at g (dc.value y) x (spelled_variable v ++ e ∷ ts) _
    (suc (name_at at g (spelled_type y)) + length (spelled_variable v)) _ ts (stored g v may) is_y is_x
    (a_variable (expression n) (r.statement n) n (linkage_of g) (type_in y) (spot (suc (name_at at g (spelled_type y))) (spelled_variable v ++ e ∷ ts))
    (variable_no v e ts is_v is_e) (type_not_void y is_y)
    ∙ step_variable n (linkage_of g) (type_in y) v (name_at at g (spelled_type y)) e ts is_v (may_be g v may) is_e
    (front_fits (spelled_storage g) (spelled_type y) x _ n (fits _ _ n parts short)))
    refl)
    (omega (
      arith,
      length-append (spelled_storage g) (spelled_type y ++ x ∷ (spelled_variable v ++ e ∷ [])),
      length-append (spelled_type y) (x ∷ (spelled_variable v ++ e ∷ [])),
      length-append (spelled_variable v) (e ∷ []),
    )))

-- ---- units

front_no_end : (g : Option Token) (c : ResultDerivation) (ts : List Token) → IsStorage g → IsResult c →
    first_sort (spelled_storage g ++ (spelled_result c ++ ts)) ≢ s.End
front_no_end None c ts is_g is = result_no c ts s.End is no_type_end (λ p. cc)
front_no_end (Some t) c ts (inl is_g) is = no_other is_g (λ p. cc)
front_no_end (Some t) c ts (inr is_g) is = no_other is_g (λ p. cc)

declaration_no_end : (c : DeclarationDerivation) (ts : List Token) → IsDeclaration c →
    first_sort (spelled_declaration c ++ ts) ≢ s.End
declaration_no_end (prototype g y x o ps c e) ts is = subst (λ v. first_sort v ≢ s.End)
    (sym (function_parts (spelled_storage g) (spelled_result y) x o (spelled_parameters ps) (c ∷ e ∷ []) ts)) (front_no_end g y _ is.0 is.1)
declaration_no_end (function g y x o ps c b body e) ts is = subst (λ v. first_sort v ≢ s.End)
    (sym (body_parts (spelled_storage g) (spelled_result y) x o (spelled_parameters ps) c b (spelled_statements body) e ts)) (front_no_end g y _ (defines g is.0) is.1)
declaration_no_end (variable g y x v e) ts is = subst (λ u. first_sort u ≢ s.End)
    (sym (variable_parts (spelled_storage g) (spelled_type y) x (spelled_variable v) e ts)) (front_no_end g (dc.value y) _ (stored g v is.3) is.0)

next_declaration : ℕ → ℕ → List Decl → Parser (List Decl)
next_declaration n turns found = do
  c ← rd.declaration (expression n) (r.statement n) n
  rd.declarations (rd.declaration (expression n) (r.statement n) n) turns (found ++ c ∷ [])

unit_fits : (u v : List Token) (n : ℕ) → 0 < length u → length (u ++ v) < suc n → length v < n
unit_fits u v n some short = omega (arith, length-append u v)

reads_declarations : ((m : ℕ) → ReadsExpressions m (expression m)) →
    (n turns : ℕ) (cs : UnitDerivation) (found : List Decl) (at : ℕ) → IsUnit cs
    → length (spelled_unit cs) < n → length (spelled_unit cs) < turns
    → rd.declarations (rd.declaration (expression n) (r.statement n) n) turns found (spot at (spelled_unit cs))
    ≡ Ok (found ++ trees_of_declarations at cs, spot (at + length (spelled_unit cs)) [])
unfolding rd.declarations spelled_unit IsUnit trees_of_declarations next_declaration
reads_declarations reads n zero cs found at is short1 short2 = absurd (omega arith)
reads_declarations reads n (suc turns) [] found at is short1 short2 =
    either_this s.End (pure found) (next_declaration n turns found) (spot at []) refl
    ∙ valued (found ++ []) (done found (at + 0) [] (omega arith)) (sym (append-nil found))
reads_declarations reads n (suc turns) (c ∷ cs) found at is short1 short2 =
    either_other s.End (pure found) (next_declaration n turns found) (spot at (spelled_declaration c ++ spelled_unit cs)) (declaration_no_end c (spelled_unit cs) is.0)
    ∙ then_ _ (reads_declaration reads n c at (spelled_unit cs) is.0 short1)
    (valued _ (counted _ (reads_declarations reads n turns cs (found ++ tree_of_declaration at c ∷ []) (at + length (spelled_declaration c)) is.1
    (behind (spelled_declaration c) (spelled_unit cs) n short1) (unit_fits (spelled_declaration c) (spelled_unit cs) turns (declaration_length c) short2))
    (omega (arith, length-append (spelled_declaration c) (spelled_unit cs))))
    (append_assoc found (tree_of_declaration at c ∷ []) (trees_of_declarations (at + length (spelled_declaration c)) cs)))

-- a whole unit is read, to the end of its tokens
pub reads_unit : ((m : ℕ) → ReadsExpressions m (expression m)) → (n : ℕ) (c : UnitDerivation) → IsUnit c →
    length (spelled_unit c) < n
    → rd.unit n (spot 0 (spelled_unit c)) ≡ Ok (trees_of_declarations 0 c, spot (length (spelled_unit c)) [])
unfolding rd.unit rd.all_declarations
reads_unit reads n c is short =
    then_ _ (reads_declarations reads n n c [] 0 is short short)
    (either_this s.End (pure (trees_of_declarations 0 c)) refuse (spot (0 + length (spelled_unit c)) []) refl
    ∙ done (trees_of_declarations 0 c) (length (spelled_unit c)) [] (omega arith))
