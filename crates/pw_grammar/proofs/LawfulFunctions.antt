-- The laws of the readers of functions, after their names.
use Rattle.std.proofs.Common.{◌≡◌, ◌≢◌, refl, sym, ◌∙◌, ap, subst, ℕ, suc, ◌+◌, ◌-◌, ◌≤◌, List, [], ◌∷◌, ◌++◌, length, Bool, true, false, not, ◌||◌, Option, Some, None, arith}
use Rattle.std.proofs.lemmas.List.{append-nil}
use Rattle.std.proofs.lemmas.Bool.{and_parts, not-true}
use Rattle.std.specs.List.{list_all}
use Rattle.pw_grammar.specs.declared.sort.Sort.TheVariants as s
use Rattle.pw_grammar.specs.Terminals.{sort, is_same}
use Rattle.pw_grammar.specs.Statements.{StatementDerivations, spelled_statements, AreStatements, trees_of_statements}
use Rattle.pw_grammar.specs.Declarations as g
use Rattle.pw_grammar.specs.Reading.Steps.{Parser, next_sort, sees}
use Rattle.pw_grammar.specs.Reading.Statements.{is_some}
use Rattle.pw_grammar.specs.Reading.Declarations as r
use Rattle.pw_grammar.proofs.Lawful.{Language, GoesOn, Lawful, Within, within, Pure, lawful_pure}
use Rattle.pw_grammar.proofs.Branches.{Keeps, keeps, lawful_test, keeps_within, same_sorts}
use Rattle.pw_grammar.proofs.Parts.{AnExpression, Here, lawful_from, Then, lawful_then}
use Rattle.pw_grammar.proofs.Pieces.{Phrased, APhrase, WithPhrase, lawful_with_phrase, fewer_than, keeps_then_fewer}
use Rattle.pw_grammar.proofs.LawfulTypes.{Is, no_end, left_paren, right_paren, left_brace, right_brace, semicolon, void}
use Rattle.pw_grammar.proofs.LawfulLoops.{AStatement, lawful_elements}
use Rattle.pw_grammar.proofs.LawfulParameters.{lawful_parameters}
use Rattle.pw_tree.specs.declared.ty.Ty.{Ty}
use Rattle.pw_tree.specs.declared.expr.Expr.{Expr}
use Rattle.pw_tree.specs.declared.stmt.Stmt.{Stmt}
use Rattle.pw_tree.specs.declared.decl.Param.{Param}
use Rattle.pw_tree.specs.declared.decl.Linkage.{Linkage}
use Rattle.pw_tree.specs.declared.decl.DeclKind.{DeclKind}
use Rattle.pw_tree.specs.declared.decl.DeclKind.TheVariants as d
use Rattle.pw_lex.specs.declared.token.Token.{Token}

-- ---- what comes after the parameters

data End : Type 0 where
  closed : Token → End
  bodied : Token → StatementDerivations → Token → End

abbrev IsEnd : Linkage → List Param → End → Type 0
IsEnd linkage ps (closed e) = sort e ≡ s.Semicolon
IsEnd linkage ps (bodied b body e) = (r.may_define linkage ps ≡ true) × (sort b ≡ s.LeftBrace) × AreStatements body × (sort e ≡ s.RightBrace)

abbrev spelled_end : End → List Token
spelled_end (closed e) = e ∷ []
spelled_end (bodied b body e) = b ∷ (spelled_statements body ++ e ∷ [])

abbrev end_at : Ty → List Param → ℕ → End → DeclKind
end_at ty ps at (closed e) = d.Proto ty ps
end_at ty ps at (bodied b body e) = d.Fun ty ps (trees_of_statements (suc at) body)

abbrev AnEnd : Linkage → Ty → List Param → Language DeclKind
AnEnd linkage ty ps = APhrase (IsEnd linkage ps) spelled_end (end_at ty ps)

closed_is : (linkage : Linkage) (ty : Ty) (ps : List Param) →
    Within (Then (λ x. x ≡ s.Semicolon) (λ e. Pure (d.Proto ty ps))) (AnEnd linkage ty ps)
closed_is linkage ty ps at a u x e = record
    { phrase = closed e.token; is = e.sort_is; spells = e.splits ∙ ap (λ v. e.token ∷ v) e.second.empty; value_is = e.second.is }

bodied_is : (linkage : Linkage) (ty : Ty) (ps : List Param) → r.may_define linkage ps ≡ true
    → Within (Then (λ x. x ≡ s.LeftBrace) (λ o. WithPhrase AreStatements spelled_statements (λ at ys. [] ++ trees_of_statements at ys) (λ ys.
    Then (λ x. x ≡ s.RightBrace) (λ c. Pure (d.Fun ty ps ys))))) (AnEnd linkage ty ps)
bodied_is linkage ty ps may at a u x b =
    let y = b.second in
    let e = y.second in
    record {
      phrase = bodied b.token y.phrase e.token;
      is = (may, b.sort_is, y.is, e.sort_is);
      spells = b.splits ∙ ap (λ v. b.token ∷ v) (y.splits ∙ ap (λ v. spelled_statements y.phrase ++ v) (e.splits ∙ ap (λ v. e.token ∷ v) e.second.empty));
      value_is = e.second.is;
    }

end_goes_on : (linkage : Linkage) (ty : Ty) (ps : List Param) (at : ℕ) → GoesOn (AnEnd linkage ty ps) at []
end_goes_on linkage ty ps at = record {
  rest = semicolon.token ∷ [];
  value = d.Proto ty ps;
  reads = λ x o. record { phrase = closed semicolon.token; is = semicolon.sort_is; spells = refl; value_is = refl };
  starts = λ e x o. subst (λ z. z ≢ s.Else) (sym semicolon.sort_is) semicolon.no_else;
}

lawful_prototype : (n : ℕ) (linkage : Linkage) (ty : Ty) (ps : List Param) →
    Lawful n (AnEnd linkage ty ps) (r.prototype ty ps) (r.prototype ty ps)
unfolding r.prototype
lawful_prototype n linkage ty ps = within (closed_is linkage ty ps) (lawful_then n s.Semicolon _ _ _ semicolon (λ e. lawful_pure n (d.Proto ty ps)))

lawful_body : (m n : ℕ) → n ≤ m → (p q : Parser Expr) (v w : Parser Stmt) → Lawful n (AnExpression 13) p q →
    Lawful n (AStatement false) v w
    → (linkage : Linkage) (ty : Ty) (ps : List Param) → r.may_define linkage ps ≡ true
    → Lawful n (AnEnd linkage ty ps) (r.body p v m ty ps) (r.body q w (suc m) ty ps)
unfolding r.body
lawful_body m n small p q v w l h linkage ty ps may = within (bodied_is linkage ty ps may) (lawful_then n s.LeftBrace _ _ _ left_brace
    (λ o. lawful_with_phrase n AreStatements spelled_statements (λ at ys. [] ++ trees_of_statements at ys) _ _ _ _ _ (lawful_elements m n small p q v w l h [])
    (λ ys. lawful_then n s.RightBrace _ _ _ right_brace (λ c. lawful_pure n (d.Fun ty ps ys)))))

-- where a body is read, there may be one
keeps_body : (m n : ℕ) → n ≤ m → (p q : Parser Expr) (v w : Parser Stmt) → Lawful n (AnExpression 13) p q →
    Lawful n (AStatement false) v w
    → (linkage : Linkage) (ty : Ty) (ps : List Param) (may : Bool) → r.may_define linkage ps ≡ may
    → Keeps (λ x. (is_same x s.Semicolon || not may) ≡ false) n (AnEnd linkage ty ps) (r.body p v m ty ps) (r.body q w (suc m) ty ps)
keeps_body m n small p q v w l h linkage ty ps true may =
    keeps (λ x. (is_same x s.Semicolon || not true) ≡ false) n (AnEnd linkage ty ps) _ _ (lawful_body m n small p q v w l h linkage ty ps may)
keeps_body m n small p q v w l h linkage ty ps false may = record {
  settled = λ i c short. absurd (never (is_same (next_sort i) s.Semicolon) c);
  says = λ i c. absurd (never (is_same (next_sort i) s.Semicolon) c);
  steady = λ k i j c same. absurd (never (is_same (next_sort i) s.Semicolon) c);
}
  where
    never : (b : Bool) → (b || not false) ≡ false → ⊥
    never true e = cc
    never false e = cc

lawful_end : (m n : ℕ) → n ≤ m → (p q : Parser Expr) (v w : Parser Stmt) → Lawful n (AnExpression 13) p q →
    Lawful n (AStatement false) v w
    → (linkage : Linkage) (ty : Ty) (ps : List Param)
    → Lawful n (AnEnd linkage ty ps) (r.function_end p v m linkage ty ps) (r.function_end q w (suc m) linkage ty ps)
unfolding r.function_end sees
lawful_end m n small p q v w l h linkage ty ps = lawful_test (λ x. is_same x s.Semicolon || not (r.may_define linkage ps)) n (AnEnd linkage ty ps) _ _ _ _
    (keeps (λ x. (is_same x s.Semicolon || not (r.may_define linkage ps)) ≡ true) n (AnEnd linkage ty ps) _ _ (lawful_prototype n linkage ty ps))
    (keeps_body m n small p q v w l h linkage ty ps (r.may_define linkage ps) refl)
    (end_goes_on linkage ty ps)

-- ---- what a function may have a body for

name_given : (x : Option Token) → is_some (g.named x) ≡ true → g.has_name x ≡ true
name_given None e = e
name_given (Some t) e = refl

more_have_names : (ps : g.MoreParameters) (at : ℕ) → list_all r.is_named (g.more_parameters_of at ps) ≡ true → g.AllNamed ps
unfolding g.more_parameters_of g.AllNamed
more_have_names g.MoreParameters.end at e = tt
more_have_names (g.MoreParameters.more t p ps) at e =
    let b = and_parts _ _ e in (name_given p.name b.0, more_have_names ps (suc at + length (g.spelled_parameter p)) b.1)

have_names : (at : ℕ) (ps : g.ParametersDerivation) → list_all r.is_named (g.parameters_of at ps) ≡ true → g.AllHaveNames ps
have_names at (g.none t) e = tt
have_names at (g.some p ps) e =
    let b = and_parts _ _ e in (name_given p.name b.0, more_have_names ps (at + length (g.spelled_parameter p)) b.1)

-- a definition: it is not `extern`, and each parameter has a name
record Defines (linkage : Linkage) (ps : g.ParametersDerivation) : Type 0 where
  not_extern : r.is_extern linkage ≡ false
  names : g.AllHaveNames ps

defines : (linkage : Linkage) (at : ℕ) (ps : g.ParametersDerivation) → r.may_define linkage (g.parameters_of at ps) ≡ true →
    Defines linkage ps
unfolding r.may_define
defines linkage at ps e =
    let b = and_parts (not (r.is_extern linkage)) (list_all r.is_named (g.parameters_of at ps)) e in
    record { not_extern = not-true (r.is_extern linkage) b.0; names = have_names at ps b.1 }

-- ---- functions, after the name

pub data FunctionPart : Type 0 where
  prototyped : Token → g.ParametersDerivation → Token → Token → FunctionPart
  defined : Token → g.ParametersDerivation → Token → Token → StatementDerivations → Token → FunctionPart

abbrev pub IsFunction : Linkage → FunctionPart → Type 0
IsFunction linkage (prototyped o ps c e) = (sort o ≡ s.LeftParen) × g.AreParameters ps × (sort c ≡ s.RightParen) × (sort e ≡ s.Semicolon)
IsFunction linkage (defined o ps c b body e) =
    (r.is_extern linkage ≡ false) × (sort o ≡ s.LeftParen) × g.AreParameters ps × g.AllHaveNames ps × (sort c ≡ s.RightParen)
    × (sort b ≡ s.LeftBrace) × AreStatements body × (sort e ≡ s.RightBrace)

abbrev pub spelled_function : FunctionPart → List Token
spelled_function (prototyped o ps c e) = o ∷ (g.spelled_parameters ps ++ c ∷ e ∷ [])
spelled_function (defined o ps c b body e) = o ∷ (g.spelled_parameters ps ++ c ∷ b ∷ (spelled_statements body ++ e ∷ []))

abbrev pub function_at : Ty → ℕ → FunctionPart → ℕ × DeclKind
function_at ty at (prototyped o ps c e) = (suc at + length (g.spelled_parameters ps), d.Proto ty (g.parameters_of (suc at) ps))
function_at ty at (defined o ps c b body e) = (
  suc at + length (g.spelled_parameters ps),
  d.Fun ty (g.parameters_of (suc at) ps) (trees_of_statements (suc (suc (suc at + length (g.spelled_parameters ps)))) body),
)

abbrev pub AFunction : Linkage → Ty → Language (ℕ × DeclKind)
AFunction linkage ty = APhrase (IsFunction linkage) spelled_function (function_at ty)

function_by : (linkage : Linkage) (ty : Ty) (at : ℕ) (a : ℕ × DeclKind) (u : List Token) (o : Token)
    (ps : g.ParametersDerivation) (c : Token) (z : End)
    → sort o ≡ s.LeftParen → g.AreParameters ps → sort c ≡ s.RightParen → IsEnd linkage (g.parameters_of (suc at) ps) z
    → u ≡ o ∷ (g.spelled_parameters ps ++ c ∷ spelled_end z)
    → a ≡ (suc at + length (g.spelled_parameters ps), end_at ty (g.parameters_of (suc at) ps) (suc (suc at + length (g.spelled_parameters ps))) z)
    → Phrased (IsFunction linkage) spelled_function (function_at ty) at a u
function_by linkage ty at a u o ps c (closed e) o_is ps_are c_is z_is f y = record
    { phrase = prototyped o ps c e; is = (o_is, ps_are, c_is, z_is); spells = f; value_is = y }
function_by linkage ty at a u o ps c (bodied b body e) o_is ps_are c_is z_is f y =
    let may = defines linkage (suc at) ps z_is.0 in
    record {
      phrase = defined o ps c b body e;
      is = (may.not_extern, o_is, ps_are, may.names, c_is, z_is.1, z_is.2, z_is.3);
      spells = f;
      value_is = y;
    }

function_is : (linkage : Linkage) (ty : Ty) →
    Within (Then (Is s.LeftParen) (λ o. WithPhrase g.AreParameters g.spelled_parameters g.parameters_of (λ ps. Here (λ at.
    Then (λ x. x ≡ s.RightParen) (λ c. WithPhrase (IsEnd linkage ps) spelled_end (end_at ty ps) (λ kind. Pure (at, kind))))))) (AFunction linkage ty)
function_is linkage ty at a u x o =
    let ps = o.second in
    let c = ps.second in
    let z = c.second in
    function_by linkage ty at a u o.token ps.phrase c.token z.phrase (same_sorts (sort o.token) s.LeftParen o.sort_is) ps.is c.sort_is z.is
    (o.splits ∙ ap (λ v. o.token ∷ v) (ps.splits ∙ ap (λ v. g.spelled_parameters ps.phrase ++ v) (c.splits ∙ ap (λ v. c.token ∷ v)
    (z.splits ∙ (ap (λ v. spelled_end z.phrase ++ v) z.second.empty ∙ append-nil (spelled_end z.phrase))))))
    z.second.is

-- `( void ) ;`
pub function_goes_on : (linkage : Linkage) (ty : Ty) (at : ℕ) → GoesOn (AFunction linkage ty) at []
function_goes_on linkage ty at = record {
  rest = left_paren.token ∷ void.token ∷ right_paren.token ∷ semicolon.token ∷ [];
  value = _;
  reads = λ x o. record {
    phrase = prototyped left_paren.token (g.none void.token) right_paren.token semicolon.token;
    is = (left_paren.sort_is, void.sort_is, right_paren.sort_is, semicolon.sort_is);
    spells = refl;
    value_is = refl;
  };
  starts = λ e x o. subst (λ z. z ≢ s.Else) (sym left_paren.sort_is) left_paren.no_else;
}

pub lawful_function : (m n : ℕ) → n ≤ m → (p q : Parser Expr) (v w : Parser Stmt) → Lawful n (AnExpression 13) p q →
    Lawful n (AStatement false) v w
    → (linkage : Linkage) (ty : Ty)
    → Keeps (Is s.LeftParen) n (AFunction linkage ty) (r.function p v m linkage ty) (r.function q w (suc m) linkage ty)
unfolding r.function
lawful_function m n small p q v w l h linkage ty = keeps_within (Is s.LeftParen) n _ (AFunction linkage ty) _ _ (function_is linkage ty)
    (keeps_then_fewer (Is s.LeftParen) n _ _ _ (no_end s.LeftParen (λ z. cc))
    (λ o. lawful_with_phrase (n - 1) g.AreParameters g.spelled_parameters g.parameters_of _ _ _ _ _ (lawful_parameters m (n - 1) (omega arith))
    (λ ps. lawful_from (n - 1) _ _ _
    (λ at. lawful_then (n - 1) s.RightParen _ _ _ right_paren
    (λ c. lawful_with_phrase (n - 1) (IsEnd linkage ps) spelled_end (end_at ty ps) _ _ _ _ _
    (lawful_end m (n - 1) (omega arith) p q v w (fewer_than (n - 1) n (omega arith) l) (fewer_than (n - 1) n (omega arith) h) linkage ty ps)
    (λ kind. lawful_pure (n - 1) (at, kind)))))))
