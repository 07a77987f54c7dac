-- Reading declarations and units from left to right.
use Rattle.std.specs.Prelude.{ℕ, zero, suc, ◌-◌, Bool, true, false, not, ◌||◌, ◌&&◌, if◌then◌else◌, List, [], ◌∷◌, ◌++◌, Option, Some, None, Ok}
use Rattle.std.specs.List.{list_all}
use Rattle.pw_grammar.specs.declared.sort.Sort.TheVariants as s
use Rattle.pw_grammar.specs.Expressions.{value_in}
use Rattle.pw_grammar.specs.Declarations.{negated}
use Rattle.pw_grammar.specs.Reading.Steps.{Parser, ◌>>=◌, pure, refuse, sees, here, line_here, take, skip, expect, name, either}
use Rattle.pw_grammar.specs.Reading.Expressions.{expression}
use Rattle.pw_grammar.specs.Reading.Statements.{type_name, is_some, some, elements, statement}
use Rattle.pw_tree.specs.Types.{is_void}
use Rattle.pw_tree.specs.declared.ty.Ty.{Ty}
use Rattle.pw_tree.specs.declared.ty.Ty.TheVariants as ty
use Rattle.pw_tree.specs.declared.expr.Expr.{Expr}
use Rattle.pw_tree.specs.declared.stmt.Stmt.{Stmt}
use Rattle.pw_tree.specs.declared.decl.Param.{Param}
use Rattle.pw_tree.specs.declared.decl.InitItem.{InitItem}
use Rattle.pw_tree.specs.declared.decl.InitKind.{InitKind}
use Rattle.pw_tree.specs.declared.decl.InitKind.TheVariants as i
use Rattle.pw_tree.specs.declared.decl.Linkage.{Linkage}
use Rattle.pw_tree.specs.declared.decl.Linkage.TheVariants as linkage
use Rattle.pw_tree.specs.declared.decl.DeclKind.{DeclKind}
use Rattle.pw_tree.specs.declared.decl.DeclKind.TheVariants as d
use Rattle.pw_tree.specs.declared.decl.Decl.{Decl}

-- ---- the storage class and the result

-- takes a token, and answers this
unfoldable pub given : {A : Type 0} → A → Parser A
given a = do
  o ← skip
  pure a

-- the storage class: `extern`, `static` or none
unfoldable pub storage : Parser Linkage
storage = either s.Extern (given linkage.Extern) (either s.Static (given linkage.Static) (pure linkage.Plain))

-- a function's result or a variable's type
unfoldable pub result : Parser Ty
result = either s.Void (given ty.Void) type_name

-- ---- parameters

-- a name, if it comes next
unfoldable pub maybe_name : Parser (Option (List ℕ))
maybe_name = either s.Name (some name) (pure None)

-- a parameter that ends with the last token that was taken
abbrev pub finish_parameter : ℕ → Ty → Option (List ℕ) → Parser Param
finish_parameter first ty x = λ i. Ok (record { ty = ty; name = x; first = first; last = i.at - 1 }, i)

-- a parameter, with a name or without
unfoldable pub parameter : Parser Param
parameter = do
  first ← here
  ty ← type_name
  x ← maybe_name
  finish_parameter first ty x

-- further parameters, each after a comma
unfoldable pub more_parameters : ℕ → List Param → Parser (List Param)
more_parameters zero found = pure found
more_parameters (suc n) found = either s.Comma (do
  o ← skip
  p ← parameter
  more_parameters n (found ++ p ∷ [])) (pure found)

-- one parameter or more
unfoldable pub some_parameters : ℕ → Parser (List Param)
some_parameters n = do
  p ← parameter
  more_parameters n (p ∷ [])

-- `void`, or parameters
unfoldable pub parameters : ℕ → Parser (List Param)
parameters n = either s.Void (given []) (some_parameters n)

-- whether the parameter has a name
abbrev pub is_named : Param → Bool
is_named p = is_some p.name

-- ---- functions

-- whether the storage class is `extern`
abbrev pub is_extern : Linkage → Bool
is_extern linkage.Plain = false
is_extern linkage.Extern = true
is_extern linkage.Static = false

-- `;` after the parameters
unfoldable pub prototype : Ty → List Param → Parser DeclKind
prototype ty ps = do
  e ← expect s.Semicolon
  pure (d.Proto ty ps)

-- the body after the parameters
unfoldable pub body : Parser Expr → Parser Stmt → ℕ → Ty → List Param → Parser DeclKind
body expr stmt n ty ps = do
  o ← expect s.LeftBrace
  ys ← elements expr stmt n []
  c ← expect s.RightBrace
  pure (d.Fun ty ps ys)

-- whether a function of this storage class and these parameters may have a body
unfoldable pub may_define : Linkage → List Param → Bool
may_define linkage ps = not (is_extern linkage) && list_all is_named ps

-- a prototype or a body, by what may come
unfoldable pub function_end : Parser Expr → Parser Stmt → ℕ → Linkage → Ty → List Param → Parser DeclKind
function_end expr stmt n linkage ty ps = λ i.
    if sees s.Semicolon i || not (may_define linkage ps) then prototype ty ps i else body expr stmt n ty ps i

-- the form of a declaration, and its declarator's last token
unfoldable pub function : Parser Expr → Parser Stmt → ℕ → Linkage → Ty → Parser (ℕ × DeclKind)
function expr stmt n linkage ty = do
  o ← skip
  ps ← parameters n
  declarator ← here
  c ← expect s.RightParen
  kind ← function_end expr stmt n linkage ty ps
  pure (declarator, kind)

-- ---- initialisers

-- an element that ends with the last token that was taken
abbrev pub finish_element : ℕ → ℕ → InitKind → Parser InitItem
finish_element first line kind = λ i. Ok (record { first = first; last = i.at - 1; line = line; kind = kind }, i)

-- a name as an element
unfoldable pub element_word : Parser InitKind
element_word = do
  x ← name
  pure (i.Word x)

-- a constant's value
unfoldable pub constant_value : Parser ℕ
constant_value = λ i. if sees s.Number i || sees s.Character i then (take >>= (λ t. pure (value_in t.kind))) i else refuse i

-- a constant as an element
unfoldable pub element_positive : Parser InitKind
element_positive = do
  n ← constant_value
  pure (i.Num n)

-- a constant after `-`
unfoldable pub element_negative : Parser InitKind
element_negative = do
  o ← skip
  n ← constant_value
  pure (i.Num (negated n))

-- a name, or a constant with a sign or without
unfoldable pub element_kind : Parser InitKind
element_kind = either s.Name element_word (either s.Minus element_negative element_positive)

-- an element of an initialiser
unfoldable pub initial : Parser InitItem
initial = do
  first ← here
  line ← line_here
  kind ← element_kind
  finish_element first line kind

-- further elements, each after a comma; a last comma may stand before the `}`
unfoldable pub more_initials : ℕ → List InitItem → Parser (List InitItem)
more_initials zero found = pure found
more_initials (suc n) found = either s.Comma (do
  o ← skip
  either s.RightBrace (pure found) (do
    x ← initial
    more_initials n (found ++ x ∷ []))) (pure found)

-- `= e`
unfoldable pub one_initial : Parser (Option (List InitItem))
one_initial = do
  o ← skip
  x ← initial
  pure (Some (x ∷ []))

-- `= { e, .. }`
unfoldable pub listed_initials : ℕ → Parser (Option (List InitItem))
listed_initials n = do
  o ← skip
  b ← expect s.LeftBrace
  x ← initial
  xs ← more_initials n (x ∷ [])
  c ← expect s.RightBrace
  pure (Some xs)

-- ---- variables

-- `[ n ]`
unfoldable pub size : Parser (Option ℕ)
size = do
  o ← skip
  n ← (λ i. if sees s.Number i then (take >>= (λ t. pure (value_in t.kind))) i else refuse i)
  c ← expect s.RightBracket
  pure (Some n)

-- the size of an array, if it comes next
unfoldable pub maybe_size : Parser (Option ℕ)
maybe_size = either s.LeftBracket size (pure None)

-- one element, or for an array a list of them
abbrev pub initials_by : ℕ → Option ℕ → Parser (Option (List InitItem))
initials_by n None = one_initial
initials_by n (Some count) = listed_initials n

-- an initialiser, if it comes next; an `extern` variable has none
unfoldable pub maybe_initials : ℕ → Linkage → Option ℕ → Parser (Option (List InitItem))
maybe_initials n linkage count = λ i.
    if sees s.Assign i && not (is_extern linkage) then initials_by n count i else pure None i

-- the number of the last token that was taken
unfoldable pub last_taken : Parser ℕ
last_taken = λ i. Ok (i.at - 1, i)

-- a variable after its name
unfoldable pub variable : ℕ → Linkage → Ty → Parser (ℕ × DeclKind)
variable n linkage ty = do
  count ← maybe_size
  declarator ← last_taken
  xs ← maybe_initials n linkage count
  e ← expect s.Semicolon
  pure (declarator, d.Var ty count xs)

-- ---- declarations and units

-- what comes after the name
unfoldable pub declarator : Parser Expr → Parser Stmt → ℕ → Linkage → Ty → Parser (ℕ × DeclKind)
declarator expr stmt n linkage ty = λ i.
    if sees s.LeftParen i then function expr stmt n linkage ty i
    else (if is_void ty then refuse i else variable n linkage ty i)

-- a declaration that ends with the last token that was taken
abbrev pub finish_declaration : ℕ → ℕ → ℕ → Linkage → List ℕ → ℕ × DeclKind → Parser Decl
finish_declaration first at line linkage x p = λ i. Ok (
  record
      { first = first; name_at = at; declarator = p.0; last = i.at - 1; line = line; linkage = linkage; name = x; kind = p.1 },
  i,
)

-- a declaration
unfoldable pub declaration : Parser Expr → Parser Stmt → ℕ → Parser Decl
declaration expr stmt n = do
  first ← here
  linkage ← storage
  ty ← result
  at ← here
  line ← line_here
  x ← name
  p ← declarator expr stmt n linkage ty
  finish_declaration first at line linkage x p

-- so many declarations at most, up to the end of the list
unfoldable pub declarations : Parser Decl → ℕ → List Decl → Parser (List Decl)
declarations decl zero found = pure found
declarations decl (suc n) found = either s.End (pure found) (do
  c ← decl
  declarations decl n (found ++ c ∷ []))

-- the declarations up to the end of the list
unfoldable pub all_declarations : Parser Decl → ℕ → Parser (List Decl)
all_declarations decl n = do
  cs ← declarations decl n []
  either s.End (pure cs) refuse

-- the declarations of a whole list of fewer than n tokens
unfoldable pub unit : ℕ → Parser (List Decl)
unit n = all_declarations (declaration (expression n) (statement n) n) n
