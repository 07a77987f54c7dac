-- Expressions without faults with their typed trees, form by form.
use Rattle.std.proofs.Common.{◌≡◌, ℕ, Bool, true, false, List, [], ◌∷◌, replicate, Some, None}
use Rattle.pw_tree.specs.declared.ty.Ty.{Ty}
use Rattle.pw_tree.specs.declared.ty.Ty.TheVariants.{Void, Long, Fn}
use Rattle.pw_tree.specs.declared.ty.Sig.{Sig}
use Rattle.pw_tree.specs.declared.operator.Un.{Un}
use Rattle.pw_tree.specs.declared.operator.Bin.{Bin}
use Rattle.pw_tree.specs.Expressions.{Span, Expression, Expressions, constant, word, unary, binary, conditional, call, index, input, output, nil, cons}
use Rattle.pw_tree.specs.TypedExpressions.{TypedExpression, TypedExpressions, type_of}
use Rattle.pw_tree.specs.TypedExpressions as tree
use Rattle.pw_tree.specs.Types.{is_number, is_void, converts, Operation, unary_type, binary_type, choice_type, pointer_to}
use Rattle.pw_types.specs.declared.names.Kind.TheVariants.{Function, Variable}
use Rattle.pw_types.specs.declared.names.File.{File}
use Rattle.pw_types.specs.declared.names.Local.{Local}
use Rattle.pw_types.specs.Scopes.{Scope, a_local, declared, name_meaning, function_reference, variable_reference}
use Rattle.pw_types.specs.Typed.{mark, constant_type}

-- it has a value
abbrev pub HasValue : TypedExpression → Type 0
HasValue t = is_void (type_of t) ≡ false

abbrev pub IsNumeric : TypedExpression → Type 0
IsNumeric t = is_number (type_of t) ≡ true

-- a name means this file's name
pub record Means (scope : Scope) (name : List ℕ) (f : File) : Type 0 where
  pub is : name_meaning scope name ≡ declared f

mutual
  -- An expression without faults, and its typed tree.
  pub data Sound (scope : Scope) : Expression → TypedExpression → Type 0 where
    sound_constant : (at : Span) (value : ℕ) (unsigned : Bool) →
        Sound scope (constant at value unsigned) (tree.constant (mark (constant_type unsigned) at) value)
    sound_local : (at : Span) (name : List ℕ) (l : Local) → name_meaning scope name ≡ a_local l →
        Sound scope (word at name) (tree.local (mark l.ty at) l.number)
    sound_variable : (at : Span) (name : List ℕ) (f : File) (ty : Ty) → name_meaning scope name ≡ declared f →
        f.kind ≡ Variable ty None →
        Sound scope (word at name) (tree.variable (mark ty at) (variable_reference scope f))
    sound_function : (at : Span) (name : List ℕ) (f : File) (sig : Sig) (ty : Ty) → name_meaning scope name ≡ declared f →
        f.kind ≡ Function sig →
        pointer_to sig ≡ Some ty → Sound scope (word at name) (tree.designator (mark ty at) (function_reference scope f))
    sound_element : (at base : Span) (name : List ℕ) (f : File) (ty : Ty) (size : ℕ) (i : Expression) (t : TypedExpression) →
        name_meaning scope name ≡ declared f → f.kind ≡ Variable ty (Some size) → Sound scope i t → IsNumeric t →
        Sound scope (index at (word base name) i) (tree.element (mark ty at) (variable_reference scope f) size t)
    sound_unary : (at : Span) (op : Un) (ty : Ty) (e : Expression) (t : TypedExpression) → Sound scope e t → HasValue t →
        unary_type op (type_of t) ≡ Some ty → Sound scope (unary at op e) (tree.unary (mark ty at) op t)
    sound_binary : (at : Span) (op : Bin) (o : Operation) (l r : Expression) (t u : TypedExpression) → Sound scope l t →
        Sound scope r u →
        HasValue t → HasValue u → binary_type op (type_of t) (type_of u) ≡ Some o →
        Sound scope (binary at op l r) (tree.binary (mark o.ty at) op o.unsigned t u)
    sound_conditional : (at : Span) (ty : Ty) (c a b : Expression) (t u v : TypedExpression) → Sound scope c t →
        Sound scope a u → Sound scope b v →
        HasValue t → HasValue u → HasValue v → choice_type (type_of u) (type_of v) ≡ Some ty →
        Sound scope (conditional at c a b) (tree.conditional (mark ty at) t u v)
    sound_call : (at callee : Span) (name : List ℕ) (f : File) (sig : Sig) (es : Expressions) (ts : TypedExpressions) →
        name_meaning scope name ≡ declared f → f.kind ≡ Function sig → AllSound scope sig.params es ts →
        Sound scope (call at (word callee name) es) (tree.call (mark sig.result at) (function_reference scope f) ts)
    sound_pointer : (at : Span) (k : ℕ) (f : Expression) (t : TypedExpression) (es : Expressions) (ts : TypedExpressions) →
        Sound scope f t → type_of t ≡ Fn k → AllSound scope (replicate k Long) es ts →
        Sound scope (call at f es) (tree.call_pointer (mark Long at) t ts)
    sound_input : (at : Span) → Sound scope (input at) (tree.input (mark Long at))
    sound_output : (at : Span) (e : Expression) (t : TypedExpression) → Sound scope e t → IsNumeric t →
        Sound scope (output at e) (tree.output (mark Void at) t)

  -- Arguments for these parameters.
  pub data AllSound (scope : Scope) : List Ty → Expressions → TypedExpressions → Type 0 where
    sound_nil : AllSound scope [] nil tree.nil
    sound_cons : (ty : Ty) (tys : List Ty) (e : Expression) (es : Expressions) (t : TypedExpression) (ts : TypedExpressions) →
        Sound scope e t → converts (type_of t) ty ≡ true → AllSound scope tys es ts → AllSound scope (ty ∷ tys) (cons e es) (tree.cons t ts)
