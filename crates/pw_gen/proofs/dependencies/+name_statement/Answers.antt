-- The functions of a `for` are those of its parts, in order of text.
use Rattle.std.proofs.Common.{◌≡◌, sym, ap, subst, ◌∙◌}
use Rattle.std.specs.Prelude.{option_map, OnOk}
use Rattle.pw_tree.proofs.CommandFolds.{command_of-For}
use Rattle.pw_tree.specs.TypedExpressions.{typed_expression_of}
use Rattle.pw_tree.specs.TypedStatements.{typed_statement_of, optional_typed_statement}
use Rattle.pw_code.specs.Objects.{functions_in_option, functions_of, functions_of_optional}
use Rattle.pw_gen.specs.Steps.Naming.{joined_all}
use Rattle.pw_gen.proofs.Gathering.{four_joined, on_ok}
use Rattle.pw_gen.proofs.dependencies.+name_statement.Goals as goal

pub name_statement-returns-in_ok-name_optional-in-For-2 : goal.name_statement-returns-in_ok-name_optional-in-For-2
unfolding functions_of
name_statement-returns-in_ok-name_optional-in-For-2 t c =
    let old = c.args.found.now in
    let r = c.name_statement-in-For.result in
    let third = c.name_optional-in-For-2.new.found in
    let new = c.name_statement-in-For.new.found in
    let body = functions_of (typed_statement_of c.in-For.body) in
    subst (λ s. OnOk r (new ≡ joined_all old (functions_of s)))
    (sym (ap typed_statement_of c.in-For.is ∙ command_of-For c.in-For.first c.in-For.c c.in-For.last c.in-For.body))
    (on_ok r (new ≡ joined_all third (functions_of (typed_statement_of c.get-in-For.result.now))) _
    (λ h. four_joined old c.name_optional-in-For.new.found c.name_option.new.found third new
    (functions_of_optional (optional_typed_statement (option_map typed_statement_of c.in-For.first)))
    (functions_in_option (option_map typed_expression_of c.in-For.c))
    (functions_of_optional (optional_typed_statement (option_map typed_statement_of c.in-For.last))) body
    c.in_ok-name_optional-in-For.ensures c.in_ok-name_option-in-For.ensures c.in_ok-name_optional-in-For-2.ensures
    (h ∙ ap (λ x. joined_all third (functions_of (typed_statement_of x))) c.get-in-For.ensures))
    c.name_statement-in-For.ensures)
