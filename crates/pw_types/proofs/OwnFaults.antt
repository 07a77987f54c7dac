-- The faults of one phrase are all at its last token, and ascend by rule.
use Rattle.std.proofs.Common.{◌≡◌, ℕ, ◌≤◌, ◌<◌, Bool, true, false, List, [], ◌∷◌, ◌++◌, arith, refl, nat_le, is_some, is_none}
use Rattle.std.specs.Prelude.{◌||◌, Option, Some, None}
use Rattle.pw_tree.specs.declared.ty.Ty.{Ty}
use Rattle.pw_tree.specs.declared.decl.InitItem.{InitItem}
use Rattle.pw_tree.specs.Expressions.{Expression}
use Rattle.pw_types.specs.declared.rule.Rule.{Rule}
use Rattle.pw_types.specs.declared.rule.Rule.TheVariants as rules
use Rattle.pw_types.specs.declared.role.Role.{Role}
use Rattle.pw_types.specs.declared.names.Local.{Local}
use Rattle.pw_types.specs.declared.names.File.{File}
use Rattle.pw_types.specs.declared.fault.Fault.{Fault}
use Rattle.pw_types.specs.Faults.{broken, broken_by}
use Rattle.pw_types.specs.Reserved.{is_reserved}
use Rattle.pw_types.specs.Scopes.{Scope, local_named, name_meaning}
use Rattle.pw_types.specs.Typed.{array_named, function_named}
use Rattle.pw_types.specs.Expressions.{end_of, word_of, is_missing, is_unknown, is_no_value, has_other_operands, has_other_count, has_other_argument, is_not_callable, is_no_array, needs_index, does_not_fit, own}
use Rattle.pw_types.specs.Blocks.{Block, has_own}
use Rattle.pw_types.specs.Statements.{faults_of_name, faults_of_target, faults_of_array}
use Rattle.pw_types.specs.Declarations.{faults_of_parameter_name, does_not_initialise, is_unknown_name, name_in, faults_of_element}
use Rattle.pw_types.specs.Units.{faults_of_lacking}
use Rattle.pw_types.specs.Laws.{rank}

-- Each is at this token, and its rule comes before the next one's: all after the rule of rank `low`, none after that of `high`.
pub data Rises : ℕ → ℕ → ℕ → List Fault → Type 0 where
  ends : {at low high : ℕ} → low ≤ high → Rises at low high []
  goes : {at low high : ℕ} {f : Fault} {fs : List Fault} → f.at ≡ at → low < rank f.rule → Rises at (rank f.rule) high fs →
      Rises at low high (f ∷ fs)

rises_from : {at low high : ℕ} {fs : List Fault} (lower : ℕ) → lower ≤ low → Rises at low high fs → Rises at lower high fs
rises_from lower k (ends h) = ends (omega arith)
rises_from lower k (goes e h r) = goes e (omega arith) r

pub rises_append : {at low middle high : ℕ} {fs gs : List Fault} → Rises at low middle fs → Rises at middle high gs →
    Rises at low high (fs ++ gs)
rises_append (ends h) d = rises_from _ h d
rises_append (goes e h r) d = goes e h (rises_append r d)

-- ---- rules that are broken, or not

pub rises_broken : (low : ℕ) (rule : Rule) (at : ℕ) (is_broken : Bool) → low < rank rule →
    Rises at low (rank rule) (broken rule at is_broken)
rises_broken low rule at true h = goes refl h (ends (omega arith))
rises_broken low rule at false h = ends (omega arith)

pub rises_broken_by : (low : ℕ) (rule : Rule) (at : ℕ) (name : List ℕ) (is_broken : Bool) → low < rank rule →
    Rises at low (rank rule) (broken_by rule at name is_broken)
rises_broken_by low rule at name true h = goes refl h (ends (omega arith))
rises_broken_by low rule at name false h = ends (omega arith)

-- ---- phrases

pub rises_own : (scope : Scope) (role : Role) (e : Expression) → Rises (end_of e) 0 11 (own scope role e)
unfolding own
rises_own scope role e =
    rises_append (rises_broken_by 0 rules.Unknown (end_of e) (word_of e) (is_unknown scope e) (omega arith))
    (rises_append (rises_broken 1 rules.NotValue (end_of e) (is_no_value scope role e) (omega arith))
    (rises_append (rises_broken 4 rules.Operands (end_of e) (has_other_operands scope e) (omega arith))
    (rises_append (rises_broken 5 rules.ArgCount (end_of e) (has_other_count scope e) (omega arith))
    (rises_append (rises_broken 6 rules.ArgType (end_of e) (has_other_argument scope role e) (omega arith))
    (rises_append (rises_broken 7 rules.NotCallable (end_of e) (is_not_callable scope role e) (omega arith))
    (rises_append (rises_broken 8 rules.NotArray (end_of e) (is_no_array scope role e) (omega arith))
    (rises_append (rises_broken 9 rules.NeedsIndex (end_of e) (needs_index scope role e) (omega arith))
    (rises_broken 10 rules.AssignType (end_of e) (does_not_fit scope role e) (omega arith)))))))))

rises_names : (name : List ℕ) (at : ℕ) (redeclared many : Bool) →
    Rises at 0 18 (broken_by rules.Redeclared at name redeclared ++ (broken rules.TooManyLocals at many ++ broken_by rules.Reserved at name (is_reserved name)))
rises_names name at redeclared many =
    rises_append (rises_broken_by 0 rules.Redeclared at name redeclared (omega arith))
    (rises_append (rises_broken 2 rules.TooManyLocals at many (omega arith))
    (rises_broken_by 16 rules.Reserved at name (is_reserved name) (omega arith)))

pub rises_name : (b : Block) (name : List ℕ) (at : ℕ) → Rises at 0 18 (faults_of_name b name at)
rises_name b name at = rises_names name at (has_own b name) (nat_le 120 b.count)

pub rises_target : (scope : Scope) (name : List ℕ) (at : ℕ) → Rises at 0 11 (faults_of_target scope name at)
rises_target scope name at =
    rises_append (rises_broken_by 0 rules.Unknown at name (is_missing (name_meaning scope name)) (omega arith))
    (rises_append (rises_broken 1 rules.NeedsIndex at (is_some (array_named scope name)) (omega arith))
    (rises_broken 10 rules.AssignType at (is_some (function_named scope name)) (omega arith)))

pub rises_array : (scope : Scope) (name : List ℕ) (at : ℕ) → Rises at 0 9 (faults_of_array scope name at)
rises_array scope name at =
    rises_append (rises_broken_by 0 rules.Unknown at name (is_missing (name_meaning scope name)) (omega arith))
    (rises_broken 1 rules.NotArray at (is_none (array_named scope name)) (omega arith))

pub rises_parameter : (is_definition : Bool) (number : ℕ) (before : List Local) (at : ℕ) (name : Option (List ℕ)) →
    Rises at 0 18 (faults_of_parameter_name is_definition number before at name)
rises_parameter is_definition number before at None = ends (omega arith)
rises_parameter true number before at (Some name) = rises_names name at (is_some (local_named name before)) (nat_le 120 number)
rises_parameter false number before at (Some name) = rises_broken_by 0 rules.Reserved at name (is_reserved name) (omega arith)

pub rises_element : (scope : Scope) (ty : Ty) (size number : ℕ) (item : InitItem) →
    Rises item.last 0 14 (faults_of_element scope ty size number item)
rises_element scope ty size number item =
    rises_append (rises_broken_by 0 rules.Unknown item.last (name_in item.kind) (is_unknown_name scope item.kind) (omega arith))
    (rises_broken 1 rules.Initialiser item.last (does_not_initialise scope ty item.kind || nat_le size number) (omega arith))

pub rises_lacking : (at : ℕ) (f : Option File) → Rises at 0 1 (faults_of_lacking at f)
rises_lacking at None = ends (omega arith)
rises_lacking at (Some f) = rises_broken_by 0 rules.Unknown at f.name true (omega arith)
