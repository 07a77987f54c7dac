-- The text of a signature is that of a function's type.
use Rattle.std.proofs.lemmas.List.{length-map}
use Rattle.std.proofs.Common.{◌≡◌, ℕ, ◌+◌, ◌≤◌, Bool, true, List, [], ◌∷◌, map, length, refl, arith, inl, inr}
use Rattle.std.specs.List.{list_all}
use Rattle.std.proofs.lemmas.Bool.{and_from, or_right}
use Rattle.std.proofs.lemmas.Bool.Decides.{nat_tests}
use Rattle.pw_base.specs.Limits.{parameters}
use Rattle.pw_base.specs.TypeText.{is_value_letter, is_type_letter, IsFunctionText, IsTypeTextOrEmpty}
use Rattle.pw_tree.specs.declared.ty.Ty.{Ty}
use Rattle.pw_tree.specs.declared.ty.Ty.TheVariants.{Void, Long, Ulong, Fn}
use Rattle.pw_tree.specs.declared.ty.Sig.{Sig}
use Rattle.pw_tree.specs.Types.{IsResultType, IsValueType, AreValueTypes}
use Rattle.pw_tree.specs.TypeTexts.{letter_of, text_of_function}
use Rattle.pw_tree.specs.WellTypedExpressions.{IsSignature}

digit_letter : (k : ℕ) → k ≤ parameters → is_value_letter (48 + k) ≡ true
digit_letter k h = grind (arith, nat_tests)

value_letter : (ty : Ty) → IsValueType ty → is_value_letter (letter_of ty) ≡ true
value_letter Void h = absurd h
value_letter Long h = refl
value_letter Ulong h = refl
value_letter (Fn k) h = digit_letter k h

type_letter : (ty : Ty) → IsResultType ty → is_type_letter (letter_of ty) ≡ true
type_letter Void h = refl
type_letter Long h = refl
type_letter Ulong h = refl
type_letter (Fn k) h = or_right _ _ (digit_letter k h)

value_letters : (tys : List Ty) → AreValueTypes tys → list_all is_value_letter (map letter_of tys) ≡ true
unfolding AreValueTypes
value_letters [] h = refl
value_letters (ty ∷ tys) h = and_from _ _ (value_letter ty h.0) (value_letters tys h.1)

pub function_text : (sig : Sig) → IsSignature sig → IsFunctionText (text_of_function sig)
function_text sig h = record {
  result = letter_of sig.result;
  params = map letter_of sig.params;
  spelled = refl;
  typed = type_letter sig.result h.result;
  valued = value_letters sig.params h.params;
  few = omega (arith, length-map sig.params letter_of, h.few);
}

pub typed_text : (sig : Sig) → IsSignature sig → IsTypeTextOrEmpty (text_of_function sig)
typed_text sig h = inr (inr (inl (function_text sig h)))
