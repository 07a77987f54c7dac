-- The laws of the readers of declarations.
use Rattle.std.proofs.Common.{◌≡◌, ◌≢◌, refl, sym, ◌∙◌, ap, subst, ℕ, suc, ◌+◌, ◌-◌, ◌≤◌, List, [], ◌∷◌, ◌++◌, length, inl, inr, Ok, Bool, true, false, if◌then◌else◌, Option, Some, None, arith}
use Rattle.std.proofs.lemmas.Bool.{both_ways}
use Rattle.std.proofs.lemmas.List.{append-nil, length-append}
use Rattle.pw_grammar.specs.declared.sort.Sort.TheVariants as s
use Rattle.pw_grammar.specs.Terminals.{sort, is_same}
use Rattle.pw_grammar.specs.Expressions.{name_in}
use Rattle.pw_grammar.specs.Statements.{spelled_statements, spelled_type, type_in, first_line}
use Rattle.pw_grammar.specs.Declarations as g
use Rattle.pw_grammar.specs.Reading.Steps.{Parser, refuse, sees}
use Rattle.pw_grammar.specs.Reading.Declarations as r
use Rattle.pw_grammar.proofs.Lawful.{Language, goes_on_within, GoesOn, Lawful, Within, within, leads_nowhere}
use Rattle.pw_grammar.proofs.Branches.{Keeps, keeps, keeps_refuse, lawful_test, keeps_within}
use Rattle.pw_grammar.proofs.Parts.{AnExpression, Here, lawful_from}
use Rattle.pw_grammar.proofs.Pieces.{Phrased, APhrase, WithPhrase, lawful_with_phrase, WithName, lawful_with_name, Lined, lawful_line, Full}
use Rattle.pw_grammar.proofs.LawfulTypes.{Is, left_paren, right_paren, semicolon, void, a_name}
use Rattle.pw_grammar.proofs.LawfulLoops.{AStatement}
use Rattle.pw_grammar.proofs.LawfulParameters.{linkage_at, lawful_storage, result_at, lawful_result}
use Rattle.pw_grammar.proofs.LawfulVariables.{Ended, IsEnded, spelled_ended, declared_at, AVariable, lawful_variable}
use Rattle.pw_grammar.proofs.LawfulFunctions.{function_goes_on, FunctionPart, prototyped, defined, IsFunction, spelled_function, function_at, AFunction, lawful_function}
use Rattle.pw_tree.specs.Types.{is_void}
use Rattle.pw_tree.specs.declared.ty.Ty.{Ty}
use Rattle.pw_tree.specs.declared.expr.Expr.{Expr}
use Rattle.pw_tree.specs.declared.stmt.Stmt.{Stmt}
use Rattle.pw_tree.specs.declared.decl.Linkage.{Linkage}
use Rattle.pw_tree.specs.declared.decl.DeclKind.{DeclKind}
use Rattle.pw_tree.specs.declared.decl.Decl.{Decl}
use Rattle.pw_lex.specs.declared.token.Token.{Token}

-- ---- what comes after the name

data Part : Type 0 where
  function : FunctionPart → Part
  variable : Ended → Part

abbrev IsPart : Linkage → Ty → Part → Type 0
IsPart linkage ty (function f) = IsFunction linkage f
IsPart linkage ty (variable v) = (is_void ty ≡ false) × IsEnded linkage v

abbrev spelled_part : Part → List Token
spelled_part (function f) = spelled_function f
spelled_part (variable v) = spelled_ended v

abbrev part_at : Ty → ℕ → Part → ℕ × DeclKind
part_at ty at (function f) = function_at ty at f
part_at ty at (variable v) = declared_at ty at v

abbrev APart : Linkage → Ty → Language (ℕ × DeclKind)
APart linkage ty = APhrase (IsPart linkage ty) spelled_part (part_at ty)

function_is : (linkage : Linkage) (ty : Ty) → Within (AFunction linkage ty) (APart linkage ty)
function_is linkage ty at a u x y = record { phrase = function y.phrase; is = y.is; spells = y.spells; value_is = y.value_is }

variable_is : (linkage : Linkage) (ty : Ty) → is_void ty ≡ false → Within (AVariable linkage ty) (APart linkage ty)
variable_is linkage ty e at a u x y = record { phrase = variable y.phrase; is = (e, y.is); spells = y.spells; value_is = y.value_is }

part_goes_on : (linkage : Linkage) (ty : Ty) (at : ℕ) → GoesOn (APart linkage ty) at []
part_goes_on linkage ty at = goes_on_within (function_is linkage ty) (function_goes_on linkage ty at)

-- a variable, where the type is no `void`
keeps_variable : (m n : ℕ) → n ≤ m → (linkage : Linkage) (ty : Ty) (b : Bool) → is_void ty ≡ b
    → Keeps (λ x. is_same x s.LeftParen ≡ false) n (APart linkage ty) (λ i. if b then refuse i else r.variable m linkage ty i) (λ i. if b then refuse i else r.variable (suc m) linkage ty i)
keeps_variable m n small linkage ty true e = keeps_refuse (λ x. is_same x s.LeftParen ≡ false) n (APart linkage ty) (part_goes_on linkage ty)
keeps_variable m n small linkage ty false e =
    keeps (λ x. is_same x s.LeftParen ≡ false) n (APart linkage ty) _ _ (within (variable_is linkage ty e) (lawful_variable m n small linkage ty))

lawful_part : (m n : ℕ) → n ≤ m → (p q : Parser Expr) (v w : Parser Stmt) → Lawful n (AnExpression 13) p q →
    Lawful n (AStatement false) v w
    → (linkage : Linkage) (ty : Ty) → Lawful n (APart linkage ty) (r.declarator p v m linkage ty) (r.declarator q w (suc m) linkage ty)
unfolding r.declarator sees
lawful_part m n small p q v w l h linkage ty = lawful_test (λ x. is_same x s.LeftParen) n (APart linkage ty) _ _ _ _
    (keeps_within (Is s.LeftParen) n _ (APart linkage ty) _ _ (function_is linkage ty) (lawful_function m n small p q v w l h linkage ty))
    (keeps_variable m n small linkage ty (is_void ty) refl)
    (part_goes_on linkage ty)

-- ---- declarations

record IsDecl (first name_at line : ℕ) (linkage : Linkage) (x : List ℕ) (p : ℕ × DeclKind) (at : ℕ) (a : Decl) (u : List Token) : Type 0 where
  is : a ≡ record { first = first; name_at = name_at; declarator = p.0; last = at - 1; line = line; linkage = linkage; name = x; kind = p.1 }
  empty : u ≡ []

abbrev ADecl : ℕ → ℕ → ℕ → Linkage → List ℕ → ℕ × DeclKind → Language Decl
ADecl first name_at line linkage x p = λ at a u y. IsDecl first name_at line linkage x p at a u

lawful_finish_declaration : (n first name_at line : ℕ) (linkage : Linkage) (x : List ℕ) (p : ℕ × DeclKind)
    → Lawful n (ADecl first name_at line linkage x p) (r.finish_declaration first name_at line linkage x p) (r.finish_declaration first name_at line linkage x p)
lawful_finish_declaration n first name_at line linkage x p = record {
  settled = λ i short. refl;
  says = λ i. record { tokens = []; leads = leads_nowhere i; reads = record { is = refl; empty = refl } };
  steady = λ k i j same near. record {
    place = j;
    is = ap (λ at. Ok (record { first = first; name_at = name_at; declarator = p.0; last = at - 1; line = line; linkage = linkage; name = x; kind = p.1 }, j)) (sym same.at);
    agree = same;
  };
  can = λ at. record { rest = []; value = _; reads = λ x o. record { is = refl; empty = refl }; starts = λ e x o. o };
}

abbrev pub ADeclaration : Language Decl
ADeclaration = APhrase g.IsDeclaration g.spelled_declaration g.tree_of_declaration

-- a declaration with this last token
abbrev with_last : ℕ → ℕ → ℕ → Linkage → List ℕ → ℕ × DeclKind → ℕ → Decl
with_last first name_at line linkage x p last =
    record { first = first; name_at = name_at; declarator = p.0; last = last; line = line; linkage = linkage; name = x; kind = p.1 }

defining : (t : Option Token) → g.IsStorage t → r.is_extern (g.linkage_of t) ≡ false → g.IsDefining t
defining None is e = tt
defining (Some t) (inl is) e = absurd (both_ways (r.is_extern (g.linkage_by (sort t))) e (ap (λ x. r.is_extern (g.linkage_by x)) is))
defining (Some t) (inr is) e = is

may_have : (t : Option Token) (v : g.VariableDerivation) → g.IsStorage t →
    (r.is_extern (g.linkage_of t) ≡ true → g.HasNoValue v) → g.MayHave t v
may_have None v is none = tt
may_have (Some t) v (inl is) none = inr (is, none (ap (λ x. r.is_extern (g.linkage_by x)) is))
may_have (Some t) v (inr is) none = inl is

declaration_by : (at : ℕ) (a : Decl) (u : List Token) (t : Option Token) (z : g.ResultDerivation) (x : Token) (part : Part)
    → g.IsStorage t → g.IsResult z → sort x ≡ s.Name → IsPart (g.linkage_of t) (g.result_in z) part
    → u ≡ g.spelled_storage t ++ (g.spelled_result z ++ x ∷ spelled_part part)
    → a ≡ with_last at (g.name_at at t (g.spelled_result z)) x.line (g.linkage_of t) (name_in x.kind)
    (part_at (g.result_in z) (suc (g.name_at at t (g.spelled_result z))) part)
    (suc (g.name_at at t (g.spelled_result z)) + length (spelled_part part) - 1)
    → Phrased g.IsDeclaration g.spelled_declaration g.tree_of_declaration at a u
declaration_by at a u t z x (function (prototyped o ps c e)) t_is z_is x_is is f y = record {
  phrase = g.prototype t z x o ps c e;
  is = (t_is, z_is, x_is, is.0, is.1, is.2, is.3);
  spells = f;
  value_is = y ∙ ap (λ last. with_last at (g.name_at at t (g.spelled_result z)) x.line (g.linkage_of t) (name_in x.kind)
      (part_at (g.result_in z) (suc (g.name_at at t (g.spelled_result z))) (function (prototyped o ps c e))) last)
      (count (g.name_at at t (g.spelled_result z)) (length (g.spelled_parameters ps)) _ (length-append (g.spelled_parameters ps) (c ∷ e ∷ [])));
}
  where
    count : (n p m : ℕ) → m ≡ p + 2 → suc n + suc m - 1 ≡ suc (suc (suc n) + p)
    count n p m e = omega arith
declaration_by at a u t z x (function (defined o ps c b body e)) t_is z_is x_is is f y = record {
  phrase = g.function t z x o ps c b body e;
  is = (defining t t_is is.0, z_is, x_is, is.1, is.2, is.3, is.4, is.5, is.6, is.7);
  spells = f;
  value_is = y ∙ ap (λ last. with_last at (g.name_at at t (g.spelled_result z)) x.line (g.linkage_of t) (name_in x.kind)
      (part_at (g.result_in z) (suc (g.name_at at t (g.spelled_result z))) (function (defined o ps c b body e))) last)
      (count (g.name_at at t (g.spelled_result z)) (length (g.spelled_parameters ps)) (length (spelled_statements body)) _ _
      (length-append (g.spelled_parameters ps) (c ∷ b ∷ (spelled_statements body ++ e ∷ []))) (length-append (spelled_statements body) (e ∷ [])));
}
  where
    count : (n p l m k : ℕ) → m ≡ p + suc (suc k) → k ≡ l + 1 → suc n + suc m - 1 ≡ suc (suc (suc (suc n) + p)) + l
    count n p l m k e f = omega arith
declaration_by at a u t (g.nothing k) x (variable v) t_is z_is x_is is f y = absurd (never is.0)
  where
    never : true ≡ false → ⊥
    never e = cc
declaration_by at a u t (g.value ty) x (variable v) t_is z_is x_is is f y = record {
  phrase = g.variable t ty x v.0 v.1;
  is = (z_is, x_is, is.1.0, may_have t v.0 t_is is.1.1, is.1.2);
  spells = f;
  value_is = y ∙ (ap (λ last. with_last at (g.name_at at t (spelled_type ty)) x.line (g.linkage_of t) (name_in x.kind)
      (part_at (type_in ty) (suc (g.name_at at t (spelled_type ty))) (variable v)) last)
      (count (g.name_at at t (spelled_type ty)) (length (g.spelled_variable v.0)) _ (length-append (g.spelled_variable v.0) (v.1 ∷ [])))
      ∙ ap (λ d. with_last at (g.name_at at t (spelled_type ty)) x.line (g.linkage_of t) (name_in x.kind)
      (d, (part_at (type_in ty) (suc (g.name_at at t (spelled_type ty))) (variable v)).1) (suc (g.name_at at t (spelled_type ty)) + length (g.spelled_variable v.0)))
      (before (g.name_at at t (spelled_type ty)) (g.extent v.0)));
}
  where
    count : (n p m : ℕ) → m ≡ p + 1 → suc n + m - 1 ≡ suc n + p
    count n p m e = omega arith

    before : (n k : ℕ) → suc n + k - 1 ≡ n + k
    before n k = omega arith

-- the name, and what comes after it
abbrev Behind : ℕ → ℕ → Linkage → Ty → ℕ → Language Decl
Behind first at linkage ty line = WithName (λ x. WithPhrase (IsPart linkage ty) spelled_part (part_at ty) (λ p. ADecl first at line linkage x p))

declaration_is : Within (Here (λ first. WithPhrase g.IsStorage g.spelled_storage linkage_at (λ linkage. WithPhrase g.IsResult g.spelled_result result_at (λ ty.
    Here (λ at. Lined (λ line. Behind first at linkage ty line)))))) ADeclaration
declaration_is at a u x t =
    let z = t.second in
    let n = z.second in
    let p = n.second in
    declaration_by at a u t.phrase z.phrase n.token p.phrase t.is z.is n.sort_is p.is
    (t.splits ∙ ap (λ v. g.spelled_storage t.phrase ++ v) (z.splits ∙ ap (λ v. g.spelled_result z.phrase ++ v) (n.splits ∙ ap (λ v. n.token ∷ v)
    (p.splits ∙ (ap (λ v. spelled_part p.phrase ++ v) p.second.empty ∙ append-nil (spelled_part p.phrase))))))
    (p.second.is ∙ ap (λ u. with_last at (g.name_at at t.phrase (g.spelled_result z.phrase)) (first_line u) (g.linkage_of t.phrase) (name_in n.token.kind)
    (part_at (g.result_in z.phrase) (suc (g.name_at at t.phrase (g.spelled_result z.phrase))) p.phrase)
    (suc (g.name_at at t.phrase (g.spelled_result z.phrase)) + length (spelled_part p.phrase) - 1)) n.splits)

behind_is_full : (first at : ℕ) (linkage : Linkage) (ty : Ty) (line : ℕ) → Full (Behind first at linkage ty line)
behind_is_full first name_at linkage ty line at a x y = no_cons y.token y.behind y.splits
  where
    no_cons : (t : Token) (u : List Token) → [] ≡ t ∷ u → ⊥
    no_cons t u e = cc

behind_goes_on : (first name_at : ℕ) (linkage : Linkage) (ty : Ty) (at : ℕ) →
    GoesOn (Lined (λ line. Behind first name_at linkage ty line)) at []
behind_goes_on first name_at linkage ty at = record {
  rest = a_name.token ∷ left_paren.token ∷ void.token ∷ right_paren.token ∷ semicolon.token ∷ [];
  value = _;
  reads = λ x o. record {
    token = a_name.token;
    behind = left_paren.token ∷ void.token ∷ right_paren.token ∷ semicolon.token ∷ [];
    sort_is = a_name.sort_is;
    splits = refl;
    second = record {
      phrase = function (prototyped left_paren.token (g.none void.token) right_paren.token semicolon.token);
      behind = [];
      is = (left_paren.sort_is, void.sort_is, right_paren.sort_is, semicolon.sort_is);
      splits = refl;
      second = record { is = refl; empty = refl };
    };
  };
  starts = λ e x o. subst (λ z. z ≢ s.Else) (sym a_name.sort_is) a_name.no_else;
}

pub lawful_declaration : (m n : ℕ) → n ≤ m → (p q : Parser Expr) (v w : Parser Stmt) → Lawful n (AnExpression 13) p q →
    Lawful n (AStatement false) v w
    → Lawful n ADeclaration (r.declaration p v m) (r.declaration q w (suc m))
unfolding r.declaration
lawful_declaration m n small p q v w l h = within declaration_is (lawful_from n _ _ _
    (λ first. lawful_with_phrase n g.IsStorage g.spelled_storage linkage_at _ _ _ _ _ (lawful_storage n)
    (λ linkage. lawful_with_phrase n g.IsResult g.spelled_result result_at _ _ _ _ _ (lawful_result n)
    (λ ty. lawful_from n _ _ _
    (λ at. lawful_line n (λ line. Behind first at linkage ty line) _ _
    (λ line. lawful_with_name n _ _ _
    (λ x. lawful_with_phrase n (IsPart linkage ty) spelled_part (part_at ty) _ _ _ _ _ (lawful_part m n small p q v w l h linkage ty)
    (λ d. lawful_finish_declaration n first at line linkage x d)))
    (λ line. behind_is_full first at linkage ty line) (λ a. behind_goes_on first at linkage ty a))))))
