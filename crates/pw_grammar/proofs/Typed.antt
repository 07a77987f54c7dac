-- The types in a unit's declarations stand where they may.
use Rattle.std.proofs.Common.{◌≡◌, ℕ, suc, ◌+◌, true, [], ◌∷◌, length, map, Option, Some, None, is_some, refl, arith}
use Rattle.pw_lex.specs.declared.token.Token.{Token}
use Rattle.pw_grammar.specs.declared.sort.Sort.{Sort}
use Rattle.pw_grammar.specs.declared.sort.Sort.TheVariants as s
use Rattle.pw_grammar.specs.Terminals.{sort}
use Rattle.pw_grammar.specs.Statements.{TypeDerivation, unsigned, IsType, type_of_keyword, type_or, type_in}
use Rattle.pw_grammar.specs.Statements as statement
use Rattle.pw_grammar.specs.Declarations.{ResultDerivation, IsResult, result_in, spelled_parameter, MoreParameters, ParametersDerivation, none, some, AreMoreParameters, AreParameters, has_name, named, AllNamed, more_parameters_of, parameters_of, DeclarationDerivation, prototype, function, variable, spelled_declaration, IsDeclaration, tree_of_declaration, UnitDerivation, IsUnit, trees_of_declarations}
use Rattle.pw_grammar.specs.Declarations as phrase
use Rattle.pw_tree.specs.Declarations.{declaration_of}
use Rattle.pw_tree.specs.Placed.{HaveValueTypes, HasTypes, HaveTypes}
use Rattle.pw_tree.specs.Types.{IsValueType}
use Rattle.pw_tree.specs.Types as types
use Rattle.pw_tree.specs.Placed as placed
use Rattle.pw_tree.specs.declared.ty.Ty.{Ty}
use Rattle.pw_tree.specs.declared.ty.Ty.TheVariants as ty

one_word : (x : Sort) (ty : Ty) → type_of_keyword x ≡ Some ty → IsValueType (type_or (type_of_keyword x))
one_word s.Long ty e = tt
one_word s.Fn0 ty e = omega arith
one_word s.Fn1 ty e = omega arith
one_word s.Fn2 ty e = omega arith
one_word s.Fn3 ty e = omega arith
one_word s.Fn4 ty e = omega arith
one_word s.Fn5 ty e = omega arith
one_word s.Fn6 ty e = omega arith
one_word _ ty e = absurd (let f : ◌≡◌ {A = Option Ty} None (Some ty) = e in cc)

pub value_type : (ty : TypeDerivation) → IsType ty → IsValueType (type_in ty)
value_type (statement.word t) is = one_word (sort t) is.0 is.1
value_type (unsigned u l) is = tt

is_a_type : (ty : Ty) → IsValueType ty → types.IsResultType ty
is_a_type ty.Void h = absurd h
is_a_type ty.Long h = tt
is_a_type ty.Ulong h = tt
is_a_type (ty.Fn k) h = h

result_type : (r : ResultDerivation) → IsResult r → types.IsResultType (result_in r)
result_type (phrase.nothing t) is = tt
result_type (phrase.value ty) is = is_a_type (type_in ty) (value_type ty is)

more_parameter_types : (at : ℕ) (ps : MoreParameters) → AreMoreParameters ps → HaveValueTypes (more_parameters_of at ps)
unfolding AreMoreParameters more_parameters_of HaveValueTypes
more_parameter_types at phrase.end is = tt
more_parameter_types at (phrase.more t p ps) is = (value_type p.ty is.1.0, more_parameter_types (suc at + length (spelled_parameter p)) ps is.2)

parameter_types : (at : ℕ) (ps : ParametersDerivation) → AreParameters ps → HaveValueTypes (parameters_of at ps)
unfolding HaveValueTypes
parameter_types at (none t) is = tt
parameter_types at (some p ps) is = (value_type p.ty is.0.0, more_parameter_types _ ps is.1)

has_a_name : (x : Option Token) → has_name x ≡ true → is_some (named x) ≡ true
has_a_name None e = cc
has_a_name (Some t) e = refl

more_parameter_names : (at : ℕ) (ps : MoreParameters) → AllNamed ps → placed.HaveNames (more_parameters_of at ps)
unfolding AllNamed more_parameters_of placed.HaveNames
more_parameter_names at phrase.end is = tt
more_parameter_names at (phrase.more t p ps) is = (has_a_name p.name is.0, more_parameter_names (suc at + length (spelled_parameter p)) ps is.1)

parameter_names : (at : ℕ) (ps : ParametersDerivation) → phrase.AllHaveNames ps → placed.HaveNames (parameters_of at ps)
unfolding placed.HaveNames
parameter_names at (none t) is = tt
parameter_names at (some p ps) is = (has_a_name p.name is.0, more_parameter_names _ ps is.1)

declaration_types : (at : ℕ) (c : DeclarationDerivation) → IsDeclaration c →
    HasTypes (declaration_of (tree_of_declaration at c)).form
declaration_types at (prototype g r x o ps c e) is = (result_type r is.1, parameter_types _ ps is.4)
declaration_types at (function g r x o ps c b body e) is = (result_type r is.1, parameter_types _ ps is.4, parameter_names _ ps is.5)
declaration_types at (variable g ty x v e) is = value_type ty is.0

pub unit_types : (at : ℕ) (cs : UnitDerivation) → IsUnit cs → HaveTypes (map declaration_of (trees_of_declarations at cs))
unfolding IsUnit trees_of_declarations HaveTypes
unit_types at [] is = tt
unit_types at (c ∷ cs) is = (declaration_types at c is.0, unit_types (at + length (spelled_declaration c)) cs is.1)
