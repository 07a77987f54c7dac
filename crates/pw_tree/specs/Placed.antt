-- How the trees of a unit that was read stand in its tokens: the parts of a phrase in order of text, none over another, and
-- within the phrase; and which types stand where.
use Rattle.std.specs.Prelude.{◌≡◌, ℕ, suc, ◌+◌, ◌-◌, ◌^◌, ◌<◌, ◌≤◌, Bool, true, false, if◌then◌else◌, List, [], ◌∷◌, length, Option, Some, None, is_some, ⊤}
use Rattle.pw_tree.specs.declared.ty.Ty.{Ty}
use Rattle.pw_tree.specs.declared.ty.Ty.TheVariants.{Void, Long, Ulong, Fn}
use Rattle.pw_tree.specs.declared.decl.Param.{Param}
use Rattle.pw_tree.specs.declared.decl.InitItem.{InitItem}
use Rattle.pw_tree.specs.Types.{IsResultType, IsValueType}
use Rattle.pw_tree.specs.Expressions.{Span, Expression, Expressions, constant, word, unary, binary, conditional, call, index, input, output}
use Rattle.pw_tree.specs.Expressions as phrase
use Rattle.pw_tree.specs.Statements.{Statement, Statements, OptionalStatement, empty, block, local, set, evaluate, if_else, while_loop, do_loop, for_loop, returns, breaks, continues, nil, cons, absent, present}
use Rattle.pw_tree.specs.Declarations.{Declaration, DeclarationForm, prototype, definition, variable, UntypedUnit}

-- ---- expressions

-- where an expression stands
abbrev pub span_of : Expression → Span
span_of (constant at n unsigned) = at
span_of (word at name) = at
span_of (unary at op e) = at
span_of (binary at op l r) = at
span_of (conditional at c a b) = at
span_of (call at f es) = at
span_of (index at b i) = at
span_of (input at) = at
span_of (output at e) = at

-- a place among the tokens from `low` to `high`
pub record IsWithin (low high : ℕ) (at : Span) : Type 0 where
  pub from : low ≤ at.first
  pub some : at.first ≤ at.last
  pub to : at.last ≤ high

-- the token after an expression
abbrev pub token_after : Expression → ℕ
token_after e = suc (span_of e).last

unfoldable mutual
  -- The expression stands among these tokens, and its parts in order within it, where they leave it a token of its own: its
  -- operator, the bracket that opens arguments or an index, or a keyword.
  pub IsPlaced : ℕ → ℕ → Expression → Type 0
  IsPlaced low high (constant at n unsigned) = IsWithin low high at
  IsPlaced low high (word at name) = IsWithin low high at
  IsPlaced low high (unary at op e) = IsWithin low high at × IsPlaced (suc at.first) at.last e
  IsPlaced low high (binary at op l r) = IsWithin low high at × IsPlaced at.first at.last l × IsPlaced (suc (token_after l)) at.last r
  IsPlaced low high (conditional at c a b) =
      IsWithin low high at × IsPlaced at.first at.last c × IsPlaced (suc (token_after c)) at.last a × IsPlaced (suc (token_after a)) at.last b
  IsPlaced low high (call at f es) =
      IsWithin low high at × IsPlaced at.first at.last f × (token_after f ≤ at.last) × ArePlaced (suc (token_after f)) at.last es
  IsPlaced low high (index at b i) = IsWithin low high at × IsPlaced at.first at.last b × IsPlaced (suc (token_after b)) at.last i
  IsPlaced low high (input at) = IsWithin low high at
  IsPlaced low high (output at e) = IsWithin low high at × IsPlaced (suc at.first) at.last e

  -- each stands after the one before it
  pub ArePlaced : ℕ → ℕ → Expressions → Type 0
  ArePlaced low high phrase.nil = ⊤
  ArePlaced low high (phrase.cons e es) = IsPlaced low high e × ArePlaced (token_after e) high es

-- the same of an expression that may be absent
abbrev pub IsOptionPlaced : ℕ → ℕ → Option Expression → Type 0
IsOptionPlaced low high None = ⊤
IsOptionPlaced low high (Some e) = IsPlaced low high e

-- the token after an expression, where there is one, or else this one
abbrev pub token_after_option : ℕ → Option Expression → ℕ
token_after_option low None = low
token_after_option low (Some e) = token_after e

-- ---- statements

-- the name of a local stands after its type, which has one token, or two
abbrev pub local_name_at : Span → Ty → ℕ
local_name_at at Ulong = at.first + 2
local_name_at at Void = at.first + 1
local_name_at at Long = at.first + 1
local_name_at at (Fn k) = at.first + 1

-- the `]` of `name[i]`: as many brackets stand round the index after it as before it
abbrev pub index_end : Span → Expression → ℕ
index_end at i = (span_of i).last + ((span_of i).first - (at.first + 2)) + 1

-- where a statement stands
abbrev pub statement_span : Statement → Span
statement_span (empty at) = at
statement_span (block at ss) = at
statement_span (local at ty name e) = at
statement_span (set at name i e) = at
statement_span (evaluate at e) = at
statement_span (if_else at c a b) = at
statement_span (while_loop at c s) = at
statement_span (do_loop at s c) = at
statement_span (for_loop at first c last s) = at
statement_span (returns at e) = at
statement_span (breaks at) = at
statement_span (continues at) = at

-- the token after a statement
abbrev pub token_after_statement : Statement → ℕ
token_after_statement s = suc (statement_span s).last

-- the token after a statement, where there is one, or else this one
abbrev pub token_after_maybe : ℕ → OptionalStatement → ℕ
token_after_maybe low absent = low
token_after_maybe low (present s) = token_after_statement s

-- the last token of an assignment: a part of a `for` has no `;` of its own
abbrev pub set_end : Bool → Span → ℕ
set_end in_head at = if in_head then at.last else at.last - 1

-- the value stands after the name, or after the `]` of the index
abbrev pub IsSetPlaced : ℕ → Span → Option Expression → Expression → Type 0
IsSetPlaced end at None e = IsPlaced (at.first + 1) end e
IsSetPlaced end at (Some i) e = IsPlaced (at.first + 2) end i × IsPlaced (suc (index_end at i)) end e

unfoldable mutual
  -- The statement stands among these tokens, and its parts in order within it, where they leave it a token of its own;
  -- `in_head` says that it is a part of a `for`. An expression there has no token beside its own, but the `for` has three: its
  -- keyword, the bracket and the second `;`.
  pub IsStatementPlaced : Bool → ℕ → ℕ → Statement → Type 0
  IsStatementPlaced in_head low high (empty at) = IsWithin low high at
  IsStatementPlaced in_head low high (block at ss) = IsWithin low high at × AreStatementsPlaced (suc at.first) at.last ss
  IsStatementPlaced in_head low high (local at ty name e) =
      IsWithin low high at × (local_name_at at ty ≤ at.last) × IsOptionPlaced (suc (local_name_at at ty)) at.last e
  IsStatementPlaced in_head low high (set at name i e) = IsWithin low high at × IsSetPlaced (set_end in_head at) at i e
  IsStatementPlaced in_head low high (evaluate at e) = IsWithin low high at × IsPlaced at.first (set_end in_head at) e
  IsStatementPlaced in_head low high (if_else at c a b) =
      IsWithin low high at × IsPlaced (suc at.first) at.last c × IsStatementPlaced false (token_after c) at.last a
      × IsMaybePlaced false (token_after_statement a) at.last b
  IsStatementPlaced in_head low high (while_loop at c s) =
      IsWithin low high at × IsPlaced (suc at.first) at.last c × IsStatementPlaced false (token_after c) at.last s
  IsStatementPlaced in_head low high (do_loop at s c) =
      IsWithin low high at × IsStatementPlaced false (suc at.first) at.last s × IsPlaced (token_after_statement s) at.last c
  IsStatementPlaced in_head low high (for_loop at first c last s) =
      IsWithin low high at × IsMaybePlaced true (at.first + 2) at.last first
      × IsOptionPlaced (token_after_maybe (at.first + 2) first) at.last c
      × IsMaybePlaced true (suc (token_after_option (token_after_maybe (at.first + 2) first) c)) at.last last
      × IsStatementPlaced false (token_after_maybe (suc (token_after_option (token_after_maybe (at.first + 2) first) c)) last) at.last s
  IsStatementPlaced in_head low high (returns at e) = IsWithin low high at × IsOptionPlaced (suc at.first) at.last e
  IsStatementPlaced in_head low high (breaks at) = IsWithin low high at
  IsStatementPlaced in_head low high (continues at) = IsWithin low high at

  -- each stands after the one before it
  pub AreStatementsPlaced : ℕ → ℕ → Statements → Type 0
  AreStatementsPlaced low high nil = ⊤
  AreStatementsPlaced low high (cons s ss) =
      IsStatementPlaced false low high s × AreStatementsPlaced (token_after_statement s) high ss

  -- the same of a statement that may be absent
  pub IsMaybePlaced : Bool → ℕ → ℕ → OptionalStatement → Type 0
  IsMaybePlaced in_head low high absent = ⊤
  IsMaybePlaced in_head low high (present s) = IsStatementPlaced in_head low high s

-- ---- declarations

-- parameters stand among these tokens, each after the one before it
unfoldable pub AreParametersPlaced : ℕ → ℕ → List Param → Type 0
AreParametersPlaced low high [] = ⊤
AreParametersPlaced low high (p ∷ ps) =
    (low ≤ p.first) × (p.first ≤ p.last) × (p.last ≤ high) × AreParametersPlaced (suc p.last) high ps

-- and so do the elements of an initialiser
unfoldable pub AreElementsPlaced : ℕ → ℕ → List InitItem → Type 0
AreElementsPlaced low high [] = ⊤
AreElementsPlaced low high (item ∷ items) =
    (low ≤ item.first) × (item.first ≤ item.last) × (item.last ≤ high) × AreElementsPlaced (suc item.last) high items

-- the same of an initialiser that may be absent
abbrev pub IsInitialiserPlaced : ℕ → ℕ → Option (List InitItem) → Type 0
IsInitialiserPlaced low high None = ⊤
IsInitialiserPlaced low high (Some items) = AreElementsPlaced low high items

-- parameters stand between the name and the declarator's end, the rest after it
abbrev pub IsFormPlaced : Declaration → DeclarationForm → Type 0
IsFormPlaced d (prototype result params) = AreParametersPlaced (suc d.name_at) d.declarator params
IsFormPlaced d (definition result params body) =
    AreParametersPlaced (suc d.name_at) d.declarator params × AreStatementsPlaced (suc d.declarator) d.last body
IsFormPlaced d (variable ty size init) = IsInitialiserPlaced (suc d.declarator) d.last init

-- A declaration stands among these tokens: its name in its declarator, and its parts in order.
pub record IsDeclarationPlaced (low high : ℕ) (d : Declaration) : Type 0 where
  pub from : low ≤ d.first
  pub name : d.first ≤ d.name_at
  pub declarator : d.name_at ≤ d.declarator
  pub end : d.declarator ≤ d.last
  pub to : d.last < high
  pub form : IsFormPlaced d d.form

-- each stands after the one before it, and before this token
unfoldable pub AreDeclarationsPlaced : ℕ → ℕ → List Declaration → Type 0
AreDeclarationsPlaced low high [] = ⊤
AreDeclarationsPlaced low high (d ∷ ds) = IsDeclarationPlaced low high d × AreDeclarationsPlaced (suc d.last) high ds

-- ---- types

-- none of the parameters is void
unfoldable pub HaveValueTypes : List Param → Type 0
HaveValueTypes [] = ⊤
HaveValueTypes (p ∷ ps) = IsValueType p.ty × HaveValueTypes ps

-- each has a name
unfoldable pub HaveNames : List Param → Type 0
HaveNames [] = ⊤
HaveNames (p ∷ ps) = (is_some p.name ≡ true) × HaveNames ps

-- a definition's parameters have names (C17, 6.9.1)
abbrev pub HasTypes : DeclarationForm → Type 0
HasTypes (prototype result params) = IsResultType result × HaveValueTypes params
HasTypes (definition result params body) = IsResultType result × HaveValueTypes params × HaveNames params
HasTypes (variable ty size init) = IsValueType ty

-- and so have all declarations
unfoldable pub HaveTypes : List Declaration → Type 0
HaveTypes [] = ⊤
HaveTypes (d ∷ ds) = HasTypes d.form × HaveTypes ds

-- ---- units

-- The unit is one that was read: fewer than 2 to the 32nd tokens, in which it is placed, and types where they may stand.
pub record IsParsed (unit : UntypedUnit) : Type 0 where
  pub few : length unit.lines < 2 ^ 32
  pub placed : AreDeclarationsPlaced 0 (length unit.lines) unit.declarations
  pub types : HaveTypes unit.declarations
