-- What says a kind that has a type's text is the text of a type.
use Rattle.std.proofs.Common.{◌≡◌, ℕ, ◌+◌, ◌≤◌, true, inl, inr, List, [], ◌∷◌, map, Option, Some, None, refl, arith}
use Rattle.std.proofs.lemmas.List.{length-map}
use Rattle.std.specs.Prelude.{decimal}
use Rattle.std.specs.List.{list_all}
use Rattle.std.proofs.lemmas.Bool.Decides.{nat_tests}
use Rattle.pw_base.specs.TypeText.{is_value_letter, is_type_letter, IsTypeText, IsTypeTextOrEmpty}
use Rattle.pw_tree.specs.declared.ty.Ty.{Ty}
use Rattle.pw_tree.specs.declared.ty.Ty.TheVariants.{Void, Long, Ulong, Fn}
use Rattle.pw_tree.specs.declared.ty.Sig.{Sig}
use Rattle.pw_tree.specs.Types.{IsResultType, IsValueType}
use Rattle.pw_tree.specs.TypeTexts.{letter_of, text_of_function, text_of_variable}
use Rattle.pw_types.specs.declared.names.Kind.{Kind}
use Rattle.pw_types.specs.declared.names.Kind.TheVariants.{Function, Variable}
use Rattle.pw_types.specs.Steps.Texts.{HasText}
use Rattle.pw_tree.specs.Types.{AreValueTypes}
use Rattle.pw_types.specs.Units.{text_of_kind}

digit_letter : (k : ℕ) → k ≤ 6 → is_value_letter (48 + k) ≡ true
digit_letter k few = grind (arith, nat_tests)

value_letter : (ty : Ty) → IsValueType ty → is_value_letter (letter_of ty) ≡ true
value_letter Void is = absurd is
value_letter Long is = refl
value_letter Ulong is = refl
value_letter (Fn k) is = digit_letter k is

type_letter : (ty : Ty) → IsResultType ty → is_type_letter (letter_of ty) ≡ true
type_letter Void is = refl
type_letter Long is = refl
type_letter Ulong is = refl
type_letter (Fn k) is = rw (digit_letter k is) (grind (arith, nat_tests))

value_letters : (tys : List Ty) → AreValueTypes tys → list_all is_value_letter (map letter_of tys) ≡ true
unfolding AreValueTypes
value_letters [] are = refl
value_letters (ty ∷ tys) are = rw (value_letter ty are.0, value_letters tys are.1) refl

value_is_type : (ty : Ty) → IsValueType ty → IsResultType ty
value_is_type Void is = absurd is
value_is_type Long is = tt
value_is_type Ulong is = tt
value_is_type (Fn k) is = is

variable_text : (ty : Ty) (size : Option ℕ) → HasText (Variable ty size) → IsTypeText (text_of_variable ty size)
variable_text ty None has =
    inl (record { letter = letter_of ty; spelled = refl; typed = type_letter ty (value_is_type ty has.0) })
variable_text ty (Some size) has =
    inr (inr (record {
      element = letter_of ty;
      digits = decimal size;
      spelled = refl;
      valued = value_letter ty has.0;
      sized = record { size = size; spelled = refl; some = has.1.0; within = has.1.1 };
    }))

function_text : (sig : Sig) → HasText (Function sig) → IsTypeText (text_of_function sig)
function_text sig has =
    inr (inl (record {
      result = letter_of sig.result;
      params = map letter_of sig.params;
      spelled = refl;
      typed = type_letter sig.result has.result;
      valued = value_letters sig.params has.params;
      few = omega (arith, length-map sig.params letter_of, has.few);
    }))

pub kind_text : (kind : Kind) → HasText kind → IsTypeText (text_of_kind kind)
kind_text (Function sig) has = function_text sig has
kind_text (Variable ty size) has = variable_text ty size has

pub typed_text : (kind : Kind) → HasText kind → IsTypeTextOrEmpty (text_of_kind kind)
typed_text kind has = inr (kind_text kind has)
