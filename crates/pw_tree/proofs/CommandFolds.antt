-- The equations of the plain trees of typed statements, one for each form.
use Rattle.std.proofs.Common.{◌≡◌, ℕ, List, Option, Some, None, sym, ap, ◌∙◌}
use Rattle.std.specs.Option.{option_map}
use Rattle.pw_tree.specs.TypedExpressions.{typed_expression_of}
use Rattle.pw_tree.specs.TypedStatements.{TypedStatement, evaluate, set_local, set_variable, set_element, block, if_else, while_loop, do_loop, for_loop, returns, breaks, continues, optional_typed_statement, typed_statement_form, typed_statement_of, typed_statements_of}
use Rattle.pw_tree.specs.declared.ty.Ref.{Ref}
use Rattle.pw_tree.specs.declared.texpr.TExpr.{TExpr}
use Rattle.pw_tree.specs.declared.tstmt.TStmt.{TStmt, fold-roll-TStmt}
use Rattle.pw_tree.specs.declared.tstmt.TStmt.TheOpen.{TStmt-F}
use Rattle.pw_tree.specs.declared.tstmt.TStmt.TheVariants as kinds
use Rattle.pw_tree.specs.declared.tstmt.TStmt.TheVariants.{rolls-Eval, rolls-SetLocal, rolls-SetVar, rolls-SetElem, rolls-Block, rolls-If, rolls-While, rolls-Do, rolls-For, rolls-Return, rolls-Break, rolls-Continue}

pub command_of-Eval : (e : TExpr) → typed_statement_of (kinds.Eval e) ≡ evaluate (typed_expression_of e)
command_of-Eval e = ap typed_statement_of (sym (rolls-Eval e)) ∙ fold-roll-TStmt TypedStatement typed_statement_form (TStmt-F.Eval e)

pub command_of-SetLocal : (i : ℕ) (value : Option TExpr) →
    typed_statement_of (kinds.SetLocal i value) ≡ set_local i (option_map typed_expression_of value)
command_of-SetLocal i value = ap typed_statement_of (sym (rolls-SetLocal i value)) ∙ fold-roll-TStmt TypedStatement typed_statement_form (TStmt-F.SetLocal i value)

pub command_of-SetVar : (x : Ref) (value : TExpr) → typed_statement_of (kinds.SetVar x value) ≡ set_variable x (typed_expression_of value)
command_of-SetVar x value = ap typed_statement_of (sym (rolls-SetVar x value)) ∙ fold-roll-TStmt TypedStatement typed_statement_form (TStmt-F.SetVar x value)

pub command_of-SetElem : (x : Ref) (size line : ℕ) (i value : TExpr) →
    typed_statement_of (kinds.SetElem x size line i value) ≡ set_element x size line (typed_expression_of i)
    (typed_expression_of value)
command_of-SetElem x size line i value = ap typed_statement_of (sym (rolls-SetElem x size line i value)) ∙ fold-roll-TStmt TypedStatement typed_statement_form (TStmt-F.SetElem x size line i value)

pub command_of-Block : (body : List TStmt) → typed_statement_of (kinds.Block body) ≡ block (typed_statements_of body)
command_of-Block body = ap typed_statement_of (sym (rolls-Block body)) ∙ fold-roll-TStmt TypedStatement typed_statement_form (TStmt-F.Block body)

pub command_of-If : (c : TExpr) (a : TStmt) (b : Option TStmt) →
    typed_statement_of (kinds.If c a b) ≡ if_else (typed_expression_of c) (typed_statement_of a)
    (optional_typed_statement (option_map typed_statement_of b))
command_of-If c a None = ap typed_statement_of (sym (rolls-If c a None)) ∙ fold-roll-TStmt TypedStatement typed_statement_form (TStmt-F.If c a None)
command_of-If c a (Some b) = ap typed_statement_of (sym (rolls-If c a (Some b))) ∙ fold-roll-TStmt TypedStatement typed_statement_form (TStmt-F.If c a (Some b))

pub command_of-While : (c : TExpr) (body : TStmt) →
    typed_statement_of (kinds.While c body) ≡ while_loop (typed_expression_of c) (typed_statement_of body)
command_of-While c body = ap typed_statement_of (sym (rolls-While c body)) ∙ fold-roll-TStmt TypedStatement typed_statement_form (TStmt-F.While c body)

pub command_of-Do : (body : TStmt) (c : TExpr) → typed_statement_of (kinds.Do body c) ≡ do_loop (typed_statement_of body) (typed_expression_of c)
command_of-Do body c = ap typed_statement_of (sym (rolls-Do body c)) ∙ fold-roll-TStmt TypedStatement typed_statement_form (TStmt-F.Do body c)

pub command_of-For : (first : Option TStmt) (c : Option TExpr) (last : Option TStmt) (body : TStmt) →
    typed_statement_of (kinds.For first c last body) ≡ for_loop (optional_typed_statement (option_map typed_statement_of first)) (option_map typed_expression_of c) (optional_typed_statement (option_map typed_statement_of last)) (typed_statement_of body)
command_of-For None c None body = ap typed_statement_of (sym (rolls-For None c None body)) ∙ fold-roll-TStmt TypedStatement typed_statement_form (TStmt-F.For None c None body)
command_of-For None c (Some last) body = ap typed_statement_of (sym (rolls-For None c (Some last) body)) ∙ fold-roll-TStmt TypedStatement typed_statement_form (TStmt-F.For None c (Some last) body)
command_of-For (Some first) c None body = ap typed_statement_of (sym (rolls-For (Some first) c None body)) ∙ fold-roll-TStmt TypedStatement typed_statement_form (TStmt-F.For (Some first) c None body)
command_of-For (Some first) c (Some last) body = ap typed_statement_of (sym (rolls-For (Some first) c (Some last) body)) ∙ fold-roll-TStmt TypedStatement typed_statement_form (TStmt-F.For (Some first) c (Some last) body)

pub command_of-Return : (value : Option TExpr) → typed_statement_of (kinds.Return value) ≡ returns (option_map typed_expression_of value)
command_of-Return value = ap typed_statement_of (sym (rolls-Return value)) ∙ fold-roll-TStmt TypedStatement typed_statement_form (TStmt-F.Return value)

pub command_of-Break : typed_statement_of kinds.Break ≡ breaks
command_of-Break = ap typed_statement_of (sym rolls-Break) ∙ fold-roll-TStmt TypedStatement typed_statement_form TStmt-F.Break

pub command_of-Continue : typed_statement_of kinds.Continue ≡ continues
command_of-Continue = ap typed_statement_of (sym rolls-Continue) ∙ fold-roll-TStmt TypedStatement typed_statement_form TStmt-F.Continue
