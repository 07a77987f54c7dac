-- The derivations of declarations at file level and of units, and their trees (C17, 6.9).
use Rattle.std.specs.Prelude.{◌≡◌, ℕ, suc, ◌+◌, ◌-◌, ◌%◌, ◌^◌, Bool, true, false, List, [], ◌∷◌, ◌++◌, length, map, ◌⊎◌, Option, Some, None, ⊤}
use Rattle.pw_grammar.specs.declared.sort.Sort.{Sort}
use Rattle.pw_grammar.specs.declared.sort.Sort.TheVariants as s
use Rattle.pw_grammar.specs.Terminals.{sort}
use Rattle.pw_grammar.specs.Expressions.{name_in, value_in, IsConstantSymbol}
use Rattle.pw_grammar.specs.Statements.{TypeDerivation, spelled_type, IsType, type_in, StatementDerivations, spelled_statements, AreStatements, trees_of_statements, first_line}
use Rattle.pw_lex.specs.declared.token.Token.{Token}
use Rattle.pw_tree.specs.declared.ty.Ty.{Ty}
use Rattle.pw_tree.specs.declared.ty.Ty.TheVariants.{Void}
use Rattle.pw_tree.specs.declared.decl.Param.{Param}
use Rattle.pw_tree.specs.declared.decl.InitItem.{InitItem}
use Rattle.pw_tree.specs.declared.decl.InitKind.{InitKind}
use Rattle.pw_tree.specs.declared.decl.InitKind.TheVariants as i
use Rattle.pw_tree.specs.declared.decl.Linkage.{Linkage}
use Rattle.pw_tree.specs.declared.decl.Linkage.TheVariants as linkage
use Rattle.pw_tree.specs.declared.decl.DeclKind.TheVariants as d
use Rattle.pw_tree.specs.declared.decl.Decl.{Decl}
use Rattle.pw_tree.specs.declared.decl.Unit.{Unit}

-- ---- the storage class and the result

-- the token of the storage class, where there is one
abbrev pub spelled_storage : Option Token → List Token
spelled_storage None = []
spelled_storage (Some t) = t ∷ []

-- `extern` or `static`, or none of them
abbrev pub IsStorage : Option Token → Type 0
IsStorage None = ⊤
IsStorage (Some t) = (sort t ≡ s.Extern) ⊎ (sort t ≡ s.Static)

-- `static`, or none: what is defined
abbrev pub IsDefining : Option Token → Type 0
IsDefining None = ⊤
IsDefining (Some t) = sort t ≡ s.Static

-- the linkage that a storage class gives
abbrev pub linkage_by : Sort → Linkage
linkage_by s.Extern = linkage.Extern
linkage_by _ = linkage.Static

-- the linkage of a declaration
abbrev pub linkage_of : Option Token → Linkage
linkage_of None = linkage.Plain
linkage_of (Some t) = linkage_by (sort t)

-- what a function gives
pub data ResultDerivation : Type 0 where
  nothing : Token → ResultDerivation
  value : TypeDerivation → ResultDerivation

-- the tokens of a result
abbrev pub spelled_result : ResultDerivation → List Token
spelled_result (nothing t) = t ∷ []
spelled_result (value ty) = spelled_type ty

-- the derivation is one of a result
abbrev pub IsResult : ResultDerivation → Type 0
IsResult (nothing t) = sort t ≡ s.Void
IsResult (value ty) = IsType ty

-- the type that is derived
abbrev pub result_in : ResultDerivation → Ty
result_in (nothing t) = Void
result_in (value ty) = type_in ty

-- ---- parameters

-- a type, and a name or none
pub record ParameterDerivation : Type 0 where
  pub ty : TypeDerivation
  pub name : Option Token

-- the token of a name, where there is one
abbrev pub spelled_name : Option Token → List Token
spelled_name None = []
spelled_name (Some t) = t ∷ []

-- the tokens of a parameter
abbrev pub spelled_parameter : ParameterDerivation → List Token
spelled_parameter p = spelled_type p.ty ++ spelled_name p.name

-- what stands for a name is one
abbrev pub IsNamed : Option Token → Type 0
IsNamed None = ⊤
IsNamed (Some t) = sort t ≡ s.Name

-- the derivation is one of a parameter
abbrev pub IsParameter : ParameterDerivation → Type 0
IsParameter p = IsType p.ty × IsNamed p.name

-- whether there is a name
abbrev pub has_name : Option Token → Bool
has_name None = false
has_name (Some t) = true

-- the name, where there is one
abbrev pub named : Option Token → Option (List ℕ)
named None = None
named (Some t) = Some (name_in t.kind)

-- further parameters, each after its comma
pub data MoreParameters : Type 0 where
  end : MoreParameters
  more : Token → ParameterDerivation → MoreParameters → MoreParameters

-- `void`, or one or more parameters
pub data ParametersDerivation : Type 0 where
  none : Token → ParametersDerivation
  some : ParameterDerivation → MoreParameters → ParametersDerivation

-- the tokens of further parameters
unfoldable pub spelled_more_parameters : MoreParameters → List Token
spelled_more_parameters end = []
spelled_more_parameters (more t p ps) = t ∷ (spelled_parameter p ++ spelled_more_parameters ps)

-- the tokens of parameters
abbrev pub spelled_parameters : ParametersDerivation → List Token
spelled_parameters (none t) = t ∷ []
spelled_parameters (some p ps) = spelled_parameter p ++ spelled_more_parameters ps

-- each is a parameter after a comma
unfoldable pub AreMoreParameters : MoreParameters → Type 0
AreMoreParameters end = ⊤
AreMoreParameters (more t p ps) = (sort t ≡ s.Comma) × IsParameter p × AreMoreParameters ps

-- the derivation is one of parameters
abbrev pub AreParameters : ParametersDerivation → Type 0
AreParameters (none t) = sort t ≡ s.Void
AreParameters (some p ps) = IsParameter p × AreMoreParameters ps

-- each has a name, as a function's definition asks
unfoldable pub AllNamed : MoreParameters → Type 0
AllNamed end = ⊤
AllNamed (more t p ps) = (has_name p.name ≡ true) × AllNamed ps

-- and so has the first
abbrev pub AllHaveNames : ParametersDerivation → Type 0
AllHaveNames (none t) = ⊤
AllHaveNames (some p ps) = (has_name p.name ≡ true) × AllNamed ps

-- a parameter whose first token has the number `at`
abbrev pub parameter_of : ℕ → ParameterDerivation → Param
parameter_of at p =
    record { ty = type_in p.ty; name = named p.name; first = at; last = at + length (spelled_parameter p) - 1 }

-- further parameters, whose first comma has the number `at`
unfoldable pub more_parameters_of : ℕ → MoreParameters → List Param
more_parameters_of at end = []
more_parameters_of at (more t p ps) =
    parameter_of (suc at) p ∷ more_parameters_of (suc at + length (spelled_parameter p)) ps

-- parameters, whose first token has the number `at`
abbrev pub parameters_of : ℕ → ParametersDerivation → List Param
parameters_of at (none t) = []
parameters_of at (some p ps) = parameter_of at p ∷ more_parameters_of (at + length (spelled_parameter p)) ps

-- ---- initialisers

-- a name, or a constant, maybe after a minus sign
pub data ElementDerivation : Type 0 where
  word : Token → ElementDerivation
  positive : Token → ElementDerivation
  negative : Token → Token → ElementDerivation

-- the tokens of an element
abbrev pub spelled_element : ElementDerivation → List Token
spelled_element (word t) = t ∷ []
spelled_element (positive t) = t ∷ []
spelled_element (negative m t) = m ∷ t ∷ []

-- the derivation is one of an element
abbrev pub IsElement : ElementDerivation → Type 0
IsElement (word t) = sort t ≡ s.Name
IsElement (positive t) = IsConstantSymbol (sort t)
IsElement (negative m t) = (sort m ≡ s.Minus) × IsConstantSymbol (sort t)

-- a number's two's complement
abbrev pub negated : ℕ → ℕ
negated n = (2 ^ 64 - n) % 2 ^ 64

-- what an element holds
abbrev pub kind_of_element : ElementDerivation → InitKind
kind_of_element (word t) = i.Word (name_in t.kind)
kind_of_element (positive t) = i.Num (value_in t.kind)
kind_of_element (negative m t) = i.Num (negated (value_in t.kind))

-- an element whose first token has the number `at`
abbrev pub element_of : ℕ → ElementDerivation → InitItem
element_of at x =
    record { first = at; last = at + length (spelled_element x) - 1; line = first_line (spelled_element x); kind = kind_of_element x }

-- further elements, each after its comma, and maybe a comma at the end
pub data MoreElements : Type 0 where
  end : MoreElements
  comma : Token → MoreElements
  more : Token → ElementDerivation → MoreElements → MoreElements

-- the tokens of further elements
unfoldable pub spelled_more_elements : MoreElements → List Token
spelled_more_elements end = []
spelled_more_elements (comma t) = t ∷ []
spelled_more_elements (more t x xs) = t ∷ (spelled_element x ++ spelled_more_elements xs)

-- each is an element after a comma
unfoldable pub AreMoreElements : MoreElements → Type 0
AreMoreElements end = ⊤
AreMoreElements (comma t) = sort t ≡ s.Comma
AreMoreElements (more t x xs) = (sort t ≡ s.Comma) × IsElement x × AreMoreElements xs

-- further elements, whose first comma has the number `at`
unfoldable pub more_elements_of : ℕ → MoreElements → List InitItem
more_elements_of at end = []
more_elements_of at (comma t) = []
more_elements_of at (more t x xs) = element_of (suc at) x ∷ more_elements_of (suc at + length (spelled_element x)) xs

-- a variable's size, where it is an array, and its initialiser, where it has one
pub data VariableDerivation : Type 0 where
  scalar : VariableDerivation
  scalar_set : Token → ElementDerivation → VariableDerivation
  array : Token → Token → Token → VariableDerivation
  array_set : Token → Token → Token → Token → Token → ElementDerivation → MoreElements → Token → VariableDerivation

-- the tokens of a size and an initialiser
abbrev pub spelled_variable : VariableDerivation → List Token
spelled_variable scalar = []
spelled_variable (scalar_set q x) = q ∷ spelled_element x
spelled_variable (array o n c) = o ∷ n ∷ c ∷ []
spelled_variable (array_set o n c q b x xs e) =
    o ∷ n ∷ c ∷ q ∷ b ∷ (spelled_element x ++ (spelled_more_elements xs ++ e ∷ []))

-- the size of an array
abbrev pub IsExtent : Token → Token → Token → Type 0
IsExtent o n c = (sort o ≡ s.LeftBracket) × (sort n ≡ s.Number) × (sort c ≡ s.RightBracket)

-- the derivation is one of a size and an initialiser
abbrev pub IsSizeAndInitialiser : VariableDerivation → Type 0
IsSizeAndInitialiser scalar = ⊤
IsSizeAndInitialiser (scalar_set q x) = (sort q ≡ s.Assign) × IsElement x
IsSizeAndInitialiser (array o n c) = IsExtent o n c
IsSizeAndInitialiser (array_set o n c q b x xs e) =
    IsExtent o n c × (sort q ≡ s.Assign) × (sort b ≡ s.LeftBrace) × IsElement x × AreMoreElements xs × (sort e ≡ s.RightBrace)

-- a variable that is declared `extern` has no initialiser
abbrev pub HasNoValue : VariableDerivation → Type 0
HasNoValue scalar = ⊤
HasNoValue (scalar_set q x) = ⊥
HasNoValue (array o n c) = ⊤
HasNoValue (array_set o n c q b x xs e) = ⊥

-- where the storage class asks for it, there is no initialiser
abbrev pub MayHave : Option Token → VariableDerivation → Type 0
MayHave None v = ⊤
MayHave (Some t) v = (sort t ≡ s.Static) ⊎ ((sort t ≡ s.Extern) × HasNoValue v)

-- the size of an array, where there is one
abbrev pub count_in : VariableDerivation → Option ℕ
count_in scalar = None
count_in (scalar_set q x) = None
count_in (array o n c) = Some (value_in n.kind)
count_in (array_set o n c q b x xs e) = Some (value_in n.kind)

-- how many tokens a declarator has after its name
abbrev pub extent : VariableDerivation → ℕ
extent scalar = 0
extent (scalar_set q x) = 0
extent (array o n c) = 3
extent (array_set o n c q b x xs e) = 3

-- the elements, where the variable's part begins at `at`
abbrev pub elements_of : ℕ → VariableDerivation → Option (List InitItem)
elements_of at scalar = None
elements_of at (scalar_set q x) = Some (element_of (at + 1) x ∷ [])
elements_of at (array o n c) = None
elements_of at (array_set o n c q b x xs e) =
    Some (element_of (at + 5) x ∷ more_elements_of (at + 5 + length (spelled_element x)) xs)

-- ---- declarations

-- a declaration, by the rule that it is made by
pub data DeclarationDerivation : Type 0 where
  -- result name ( parameters ) ;
  prototype : Option Token → ResultDerivation → Token → Token → ParametersDerivation → Token → Token → DeclarationDerivation
  -- result name ( parameters ) { statements }
  function : Option Token → ResultDerivation → Token → Token → ParametersDerivation → Token → Token → StatementDerivations →
      Token → DeclarationDerivation
  -- type name variable ;
  variable : Option Token → TypeDerivation → Token → VariableDerivation → Token → DeclarationDerivation

-- the tokens of a declaration, in order
abbrev pub spelled_declaration : DeclarationDerivation → List Token
spelled_declaration (prototype g r x o ps c e) =
    spelled_storage g ++ (spelled_result r ++ x ∷ o ∷ (spelled_parameters ps ++ c ∷ e ∷ []))
spelled_declaration (function g r x o ps c b body e) =
    spelled_storage g ++ (spelled_result r ++ x ∷ o ∷ (spelled_parameters ps ++ c ∷ b ∷ (spelled_statements body ++ e ∷ [])))
spelled_declaration (variable g ty x v e) =
    spelled_storage g ++ (spelled_type ty ++ x ∷ (spelled_variable v ++ e ∷ []))

-- the derivation is one of a declaration
abbrev pub IsDeclaration : DeclarationDerivation → Type 0
IsDeclaration (prototype g r x o ps c e) =
    IsStorage g × IsResult r × (sort x ≡ s.Name) × (sort o ≡ s.LeftParen) × AreParameters ps
    × (sort c ≡ s.RightParen) × (sort e ≡ s.Semicolon)
IsDeclaration (function g r x o ps c b body e) =
    IsDefining g × IsResult r × (sort x ≡ s.Name) × (sort o ≡ s.LeftParen) × AreParameters ps × AllHaveNames ps
    × (sort c ≡ s.RightParen) × (sort b ≡ s.LeftBrace) × AreStatements body × (sort e ≡ s.RightBrace)
IsDeclaration (variable g ty x v e) =
    IsType ty × (sort x ≡ s.Name) × IsSizeAndInitialiser v × MayHave g v × (sort e ≡ s.Semicolon)

-- the number of the name's token
abbrev pub name_at : ℕ → Option Token → List Token → ℕ
name_at at g ty = at + length (spelled_storage g) + length ty

-- the number of the token after the parameters
abbrev pub after_parameters : ℕ → Option Token → ResultDerivation → ParametersDerivation → ℕ
after_parameters at g r ps = suc (suc (name_at at g (spelled_result r))) + length (spelled_parameters ps)

-- the tree of a declaration whose first token has the number `at`
abbrev pub tree_of_declaration : ℕ → DeclarationDerivation → Decl
tree_of_declaration at (prototype g r x o ps c e) = record {
  first = at;
  name_at = name_at at g (spelled_result r);
  declarator = after_parameters at g r ps;
  last = suc (after_parameters at g r ps);
  line = x.line;
  linkage = linkage_of g;
  name = name_in x.kind;
  kind = d.Proto (result_in r) (parameters_of (suc (suc (name_at at g (spelled_result r)))) ps);
}
tree_of_declaration at (function g r x o ps c b body e) = record {
  first = at;
  name_at = name_at at g (spelled_result r);
  declarator = after_parameters at g r ps;
  last = suc (suc (after_parameters at g r ps)) + length (spelled_statements body);
  line = x.line;
  linkage = linkage_of g;
  name = name_in x.kind;
  kind = d.Fun (result_in r) (parameters_of (suc (suc (name_at at g (spelled_result r)))) ps)
      (trees_of_statements (suc (suc (after_parameters at g r ps))) body);
}
tree_of_declaration at (variable g ty x v e) = record {
  first = at;
  name_at = name_at at g (spelled_type ty);
  declarator = name_at at g (spelled_type ty) + extent v;
  last = suc (name_at at g (spelled_type ty)) + length (spelled_variable v);
  line = x.line;
  linkage = linkage_of g;
  name = name_in x.kind;
  kind = d.Var (type_in ty) (count_in v) (elements_of (suc (name_at at g (spelled_type ty))) v);
}

-- ---- units

-- declarations one after another
abbrev pub UnitDerivation : Type 0
UnitDerivation = List DeclarationDerivation

-- the tokens of a unit, in order
unfoldable pub spelled_unit : UnitDerivation → List Token
spelled_unit [] = []
spelled_unit (c ∷ cs) = spelled_declaration c ++ spelled_unit cs

-- each is a declaration
unfoldable pub IsUnit : UnitDerivation → Type 0
IsUnit [] = ⊤
IsUnit (c ∷ cs) = IsDeclaration c × IsUnit cs

-- the trees of declarations, whose first token has the number `at`
unfoldable pub trees_of_declarations : ℕ → UnitDerivation → List Decl
trees_of_declarations at [] = []
trees_of_declarations at (c ∷ cs) = tree_of_declaration at c ∷ trees_of_declarations (at + length (spelled_declaration c)) cs

-- the line of each token
abbrev pub lines_of : List Token → List ℕ
lines_of tokens = map (λ t. t.line) tokens

-- the grammar derives this unit from the tokens
pub record Derives (tokens : List Token) (unit : Unit) : Type 0 where
  pub phrase : UnitDerivation
  pub is : IsUnit phrase
  pub spells : spelled_unit phrase ≡ tokens
  pub decls : unit.decls ≡ trees_of_declarations 0 phrase
  pub lines : unit.lines ≡ lines_of tokens
