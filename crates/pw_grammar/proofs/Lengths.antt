-- Each phrase has a token; and the numbers of tokens that declarations have.
use Rattle.std.proofs.Common.{◌≡◌, suc, ◌+◌, ◌<◌, [], ◌∷◌, ◌++◌, length, Option, arith}
use Rattle.std.proofs.lemmas.List.{length-append}
use Rattle.pw_grammar.specs.Expressions.{ExpressionDerivation, identifier, constant, bracketed, input, output, call, index, prefixed, binary, choice, spelled, spelled_arguments}
use Rattle.pw_grammar.specs.Statements.{TypeDerivation, unsigned, spelled_type, LocalDerivation, plain, set, spelled_local, SimpleDerivation, assign, assign_element, evaluate, spelled_simple, StatementDerivation, empty, block, declare, simple, if_only, if_else, while_do, do_while, for_do, leave, jump, StatementDerivations, spelled_statement, spelled_statements}
use Rattle.pw_grammar.specs.Statements as statement
use Rattle.pw_grammar.specs.Declarations.{spelled_storage, ResultDerivation, nothing, value, spelled_result, ParameterDerivation, spelled_name, spelled_parameter, ParametersDerivation, none, some, spelled_more_parameters, spelled_parameters, ElementDerivation, word, positive, negative, spelled_element, VariableDerivation, spelled_variable, DeclarationDerivation, prototype, function, variable, spelled_declaration}
use Rattle.pw_lex.specs.declared.token.Token.{Token}

-- ---- expressions and statements

pub expression_length : (c : ExpressionDerivation) → 0 < length (spelled c)
unfolding spelled
expression_length (identifier t) = omega arith
expression_length (constant t) = omega arith
expression_length (bracketed o a c) = omega arith
expression_length (input k o c) = omega arith
expression_length (output k o a c) = omega arith
expression_length (call f o xs c) = omega (arith, length-append (spelled f) (o ∷ (spelled_arguments xs ++ c ∷ [])))
expression_length (index a o i c) = omega (arith, length-append (spelled a) (o ∷ (spelled i ++ c ∷ [])))
expression_length (prefixed t a) = omega arith
expression_length (binary a t b) = omega (arith, length-append (spelled a) (t ∷ spelled b))
expression_length (choice c q a m b) = omega (arith, length-append (spelled c) (q ∷ (spelled a ++ m ∷ spelled b)))

pub type_length : (ty : TypeDerivation) → 0 < length (spelled_type ty)
type_length (statement.word t) = omega arith
type_length (unsigned u l) = omega arith

local_length : (l : LocalDerivation) → 0 < length (spelled_local l)
local_length (plain ty x e) = omega (arith, length-append (spelled_type ty) (x ∷ e ∷ []))
local_length (set ty x q a e) = omega (arith, length-append (spelled_type ty) (x ∷ q ∷ (spelled a ++ e ∷ [])))

pub simple_length : (a : SimpleDerivation) → 0 < length (spelled_simple a)
simple_length (assign x q a) = omega arith
simple_length (assign_element x o i c q a) = omega arith
simple_length (evaluate a) = expression_length a

pub statement_length : (y : StatementDerivation) → 0 < length (spelled_statement y)
unfolding spelled_statement
statement_length (empty e) = omega arith
statement_length (block o body c) = omega arith
statement_length (declare l) = local_length l
statement_length (simple a e) = omega (arith, length-append (spelled_simple a) (e ∷ []))
statement_length (if_only t o a c y) = omega arith
statement_length (if_else t o a c y e n) = omega arith
statement_length (while_do t o a c y) = omega arith
statement_length (do_while t y w o a c e) = omega arith
statement_length (for_do t o start a e step c y) = omega arith
statement_length (leave t a e) = omega arith
statement_length (jump t e) = omega arith

-- ---- parts of declarations

pub result_length : (r : ResultDerivation) → 0 < length (spelled_result r)
result_length (nothing t) = omega arith
result_length (value ty) = type_length ty

pub parameter_length : (p : ParameterDerivation) → 0 < length (spelled_parameter p)
parameter_length p = omega (arith, type_length p.ty, length-append (spelled_type p.ty) (spelled_name p.name))

pub parameters_length : (ps : ParametersDerivation) → 0 < length (spelled_parameters ps)
parameters_length (none t) = omega arith
parameters_length (some p ps) = omega (arith, parameter_length p, length-append (spelled_parameter p) (spelled_more_parameters ps))

pub element_length : (x : ElementDerivation) → 0 < length (spelled_element x)
element_length (word t) = omega arith
element_length (positive t) = omega arith
element_length (negative m t) = omega arith

-- ---- declarations

pub prototype_length : (g : Option Token) (r : ResultDerivation) (x o : Token) (ps : ParametersDerivation) (c e : Token)
    → length (spelled_declaration (prototype g r x o ps c e))
    ≡ length (spelled_storage g) + (length (spelled_result r) + suc (suc (length (spelled_parameters ps) + 2)))
prototype_length g r x o ps c e = omega (
  arith,
  length-append (spelled_storage g) (spelled_result r ++ x ∷ o ∷ (spelled_parameters ps ++ c ∷ e ∷ [])),
  length-append (spelled_result r) (x ∷ o ∷ (spelled_parameters ps ++ c ∷ e ∷ [])),
  length-append (spelled_parameters ps) (c ∷ e ∷ []),
)

pub function_length : (g : Option Token) (r : ResultDerivation) (x o : Token) (ps : ParametersDerivation) (c b : Token)
    (body : StatementDerivations) (e : Token)
    → length (spelled_declaration (function g r x o ps c b body e))
    ≡ length (spelled_storage g) + (length (spelled_result r) + suc (suc (length (spelled_parameters ps) + suc (suc (length (spelled_statements body) + 1)))))
function_length g r x o ps c b body e = omega (
  arith,
  length-append (spelled_storage g) (spelled_result r ++ x ∷ o ∷ (spelled_parameters ps ++ c ∷ b ∷ (spelled_statements body ++ e ∷ []))),
  length-append (spelled_result r) (x ∷ o ∷ (spelled_parameters ps ++ c ∷ b ∷ (spelled_statements body ++ e ∷ []))),
  length-append (spelled_parameters ps) (c ∷ b ∷ (spelled_statements body ++ e ∷ [])),
  length-append (spelled_statements body) (e ∷ []),
)

pub variable_length : (g : Option Token) (ty : TypeDerivation) (x : Token) (v : VariableDerivation) (e : Token)
    → length (spelled_declaration (variable g ty x v e))
    ≡ length (spelled_storage g) + (length (spelled_type ty) + suc (length (spelled_variable v) + 1))
variable_length g ty x v e = omega (
  arith,
  length-append (spelled_storage g) (spelled_type ty ++ x ∷ (spelled_variable v ++ e ∷ [])),
  length-append (spelled_type ty) (x ∷ (spelled_variable v ++ e ∷ [])),
  length-append (spelled_variable v) (e ∷ []),
)

pub declaration_length : (c : DeclarationDerivation) → 0 < length (spelled_declaration c)
declaration_length (prototype g r x o ps c e) = omega (arith, prototype_length g r x o ps c e)
declaration_length (function g r x o ps c b body e) = omega (arith, function_length g r x o ps c b body e)
declaration_length (variable g ty x v e) = omega (arith, variable_length g ty x v e)
