-- The faults of a unit: the phrases of the unit, one within another, each with the faults of its own.
use Rattle.std.specs.Prelude.{ℕ, suc, ◌+◌, ◌-◌, Bool, List, [], ◌∷◌, ◌++◌, length, map, Option, Some, None, option_map, find}
use Rattle.pw_tree.specs.declared.ty.Ty.{Ty}
use Rattle.pw_tree.specs.declared.decl.Param.{Param}
use Rattle.pw_tree.specs.declared.decl.InitItem.{InitItem}
use Rattle.pw_tree.specs.Expressions.{Span, Expression, Expressions, constant, word, unary, binary, conditional, call, index, input, output}
use Rattle.pw_tree.specs.Expressions as phrases
use Rattle.pw_tree.specs.Statements.{Statement, Statements, OptionalStatement, empty, block, local, set, evaluate, if_else, while_loop, do_loop, for_loop, returns, breaks, continues, nil, cons, absent, present}
use Rattle.pw_tree.specs.Placed.{local_name_at, index_end, set_end}
use Rattle.pw_tree.specs.Declarations.{Declaration, DeclarationForm, prototype, definition, variable, UntypedUnit}
use Rattle.pw_types.specs.declared.rule.Rule.TheVariants as rules
use Rattle.pw_types.specs.declared.role.Role.{Role}
use Rattle.pw_types.specs.declared.role.Role.TheVariants as roles
use Rattle.pw_types.specs.declared.names.File.{File}
use Rattle.pw_types.specs.declared.names.Local.{Local}
use Rattle.pw_types.specs.declared.fault.Fault.{Fault}
use Rattle.pw_types.specs.Faults.{broken, broken_by}
use Rattle.pw_types.specs.Reserved.{is_reserved}
use Rattle.pw_types.specs.Scopes.{Scope, file_named, name_meaning}
use Rattle.pw_types.specs.Typed.{Designated, typed, array_named, function_of, parameters_of}
use Rattle.pw_types.specs.Expressions.{end_of, own, callee_in, first_parameter, other_parameters}
use Rattle.pw_types.specs.Blocks.{Setting, part, body, head, Block, inner, after, after_maybe}
use Rattle.pw_types.specs.Statements.{holds_too_many, has_other_index, set_holds_too_many, set_element_holds_too_many, is_outside_loop, faults_of_name, type_of_target, faults_of_target, faults_of_array, returns_other}
use Rattle.pw_tree.specs.WellTypedUnits.{room}
use Rattle.pw_types.specs.Declarations.{Whole, is_parameter_too_many, file_scope, faults_of_parameter_name, local_of, parameters_in, is_definition_of_function, conflicts, is_redefined, is_too_large, elements_of, faults_of_element, outermost, setting, declared_by}
use Rattle.pw_types.specs.Units.{whole_of, files_after, lacks_definition, faults_of_lacking}

-- A phrase: its parts in order of text, and the faults of its own.
mutual
  -- a phrase
  pub data Nest : Type 0 where
    nest : Nests → List Fault → Nest

  -- the parts of a phrase
  pub data Nests : Type 0 where
    none : Nests
    more : Nest → Nests → Nests

-- ---- expressions

-- a function's name as a callee is no part that is judged
abbrev pub unless_named : Option Designated → Nest → Nests → Nests
unless_named None f others = more f others
unless_named (Some g) f others = others

unfoldable mutual
  -- the parts of an expression
  pub parts : Scope → Expression → Nests
  parts scope (constant at v unsigned) = none
  parts scope (word at name) = none
  parts scope (unary at op e) = more (nest (parts scope e) (own scope roles.Value e)) none
  parts scope (binary at op l r) =
      more (nest (parts scope l) (own scope roles.Value l)) (more (nest (parts scope r) (own scope roles.Value r)) none)
  parts scope (conditional at c a b) =
      more (nest (parts scope c) (own scope roles.Value c))
      (more (nest (parts scope a) (own scope roles.Value a)) (more (nest (parts scope b) (own scope roles.Value b)) none))
  parts scope (call at f es) =
      unless_named (function_of scope f) (nest (parts scope f) (own scope roles.Callee f))
      (arguments scope (parameters_of (callee_in scope f)) es)
  parts scope (index at b i) =
      more (nest (parts scope b) (own scope roles.Base b)) (more (nest (parts scope i) (own scope roles.Value i)) none)
  parts scope (input at) = none
  parts scope (output at e) = more (nest (parts scope e) (own scope roles.Written e)) none

  -- the arguments of a call, where these parameters are left
  pub arguments : Scope → Option (List Ty) → Expressions → Nests
  arguments scope params phrases.nil = none
  arguments scope params (phrases.cons e es) =
      more (nest (parts scope e) (own scope (roles.Argument (first_parameter params)) e)) (arguments scope (other_parameters params) es)

-- an expression in its place
abbrev pub expression : Scope → Role → Expression → Nest
expression scope role e = nest (parts scope e) (own scope role e)

-- a statement's whole expression, which may hold too many values
abbrev pub whole : Scope → Role → Expression → Nest
whole scope role e = nest (parts scope e) (own scope role e ++ broken rules.TooDeep (end_of e) (holds_too_many (typed scope e)))

-- an expression that may be missing, before others
abbrev pub option : Scope → Role → Option Expression → Nests → Nests
option scope role None others = others
option scope role (Some e) others = more (whole scope role e) others

-- ---- statements

-- a phrase without parts
abbrev pub leaf : List Fault → Nest
leaf own = nest none own

-- the target, which is a name, or a name with its index, and the value
abbrev pub assignment : Setting → Scope → Span → List ℕ → Option Expression → Expression → Nest
assignment x scope at name None e =
    nest (more (leaf (faults_of_target scope name at.first))
    (more (expression scope (roles.Assigned (type_of_target (name_meaning scope name))) e) none))
    (broken rules.TooDeep (set_end x.in_head at) (set_holds_too_many scope name e))
assignment x scope at name (Some i) e =
    nest (more (nest (more (leaf (faults_of_array scope name at.first)) (more (expression scope roles.Value i) none))
    (broken rules.Operands (index_end at i) (has_other_index scope name i)))
    (more (expression scope (roles.Assigned (option_map (λ a. a.ty) (array_named scope name))) e) none))
    (broken rules.TooDeep (set_end x.in_head at) (set_element_holds_too_many scope name i e))

unfoldable mutual
  -- a statement
  pub statement : Setting → Block → Statement → Nest
  statement x b (empty at) = leaf []
  statement x b (block at ss) = nest (statements (part x) (inner b) ss) []
  statement x b (local at ty name e) =
      nest (more (leaf (faults_of_name b name (local_name_at at ty))) (option b.scope (roles.Assigned (Some ty)) e none)) []
  statement x b (set at name i e) = assignment x b.scope at name i e
  statement x b (evaluate at e) = nest (more (whole b.scope roles.Statement e) none) []
  statement x b (if_else at c a d) =
      nest (more (whole b.scope roles.Value c) (more (statement (part x) b a) (maybe (part x) (after a b) d none))) []
  statement x b (while_loop at c s) = nest (more (whole b.scope roles.Value c) (more (statement (body x) b s) none)) []
  statement x b (do_loop at s c) = nest (more (statement (body x) b s) (more (whole b.scope roles.Value c) none)) []
  statement x b (for_loop at first c last s) =
      nest (maybe (head x) (inner b) first
      (option (after_maybe first (inner b)).scope roles.Value c
      (maybe (head x) (after_maybe first (inner b)) last
      (more (statement (body x) (after_maybe last (after_maybe first (inner b))) s) none)))) []
  statement x b (returns at e) =
      nest (option b.scope roles.Value e none) (broken rules.ReturnType at.last (returns_other x.result b.scope e))
  statement x b (breaks at) = leaf (broken rules.OutsideLoop at.last (is_outside_loop x))
  statement x b (continues at) = leaf (broken rules.OutsideLoop at.last (is_outside_loop x))

  -- statements in a row
  pub statements : Setting → Block → Statements → Nests
  statements x b nil = none
  statements x b (cons s ss) = more (statement x b s) (statements x (after s b) ss)

  -- a statement that may be missing, before others
  pub maybe : Setting → Block → OptionalStatement → Nests → Nests
  maybe x b absent others = others
  maybe x b (present s) others = more (statement x b s) others

-- ---- declarations

-- the parameters of a function, after those that stand before them
unfoldable pub nested_parameters : Bool → List Local → List Param → Nests
nested_parameters is_definition before [] = none
nested_parameters is_definition before (p ∷ ps) =
    more (leaf (faults_of_parameter_name is_definition (length before) before p.last p.name
    ++ broken rules.TooManyParameters p.last (is_parameter_too_many (length before))))
    (nested_parameters is_definition (before ++ local_of (length before) p ∷ []) ps)

-- the elements of an initialiser, from this number on
unfoldable pub elements : Scope → Ty → ℕ → ℕ → List InitItem → Nests
elements scope ty size number [] = none
elements scope ty size number (item ∷ items) =
    more (leaf (faults_of_element scope ty size number item)) (elements scope ty size (suc number) items)

-- an initialiser, where there is one
abbrev pub initialiser : Scope → Ty → Option ℕ → Option (List InitItem) → Nests
initialiser scope ty size None = none
initialiser scope ty size (Some items) = elements scope ty (room size) 0 items

-- what stands after the declarator
abbrev pub form : List ℕ → Scope → DeclarationForm → Nests
form lines scope (prototype result params) = none
form lines scope (definition result params ss) = statements (setting lines result) (outermost scope params) ss
form lines scope (variable ty size items) = initialiser scope ty size items

-- the name and the parameters, within the declarator
abbrev pub declarator : List File → ℕ → Declaration → Nest
declarator files before d =
    nest (more (leaf (broken_by rules.Redeclared d.name_at d.name (is_redefined d (file_named d.name files))
    ++ broken_by rules.Reserved d.name_at d.name (is_reserved d.name)))
    (nested_parameters (is_definition_of_function d.form) [] (parameters_in d.form)))
    (broken_by rules.Conflict d.declarator d.name (conflicts d (file_named d.name files))
    ++ broken rules.ArraySize d.declarator (is_too_large before d))

-- a declaration: its declarator, and then its body or initialiser
abbrev pub declaration : Whole → List File → ℕ → Declaration → Nest
declaration w files before d =
    nest (more (declarator files before d) (form w.lines (file_scope w (declared_by d files)) d.form)) []

-- the declarations of a unit, in order of text
unfoldable pub declarations : Whole → List File → ℕ → List Declaration → Nests
declarations w files before [] = none
declarations w files before (d ∷ ds) =
    more (declaration w files before d) (declarations w (declared_by d files) (before + elements_of d) ds)

-- the outermost phrase
abbrev pub unit : UntypedUnit → Nest
unit u =
    nest (declarations (whole_of u) [] 0 u.declarations)
    (faults_of_lacking (length u.lines - 1) (find lacks_definition (files_after [] u.declarations)))

-- ---- all faults, inner phrases first

-- a fault, and how many phrases its phrase stands within
pub record Nested : Type 0 where
  pub depth : ℕ
  pub fault : Fault

unfoldable mutual
  -- those of the parts in order of text, then the phrase's own
  pub walk : ℕ → Nest → List Nested
  walk depth (nest ns own) = walk_all (suc depth) ns ++ map (λ f. record { depth = depth; fault = f }) own

  -- those of phrases in order of text
  pub walk_all : ℕ → Nests → List Nested
  walk_all depth none = []
  walk_all depth (more n ns) = walk depth n ++ walk_all depth ns

-- All faults of a unit.
abbrev pub faults_of : UntypedUnit → List Fault
faults_of u = map (λ n. n.fault) (walk 0 (unit u))
