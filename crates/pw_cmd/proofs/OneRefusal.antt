-- A text is refused for one thing at most, and the text of a program for none.
use Rattle.std.proofs.Common.{◌≡◌, ◌≢◌, ℕ, ◌<◌, ◌≤◌, length, List, Option, Some, None, ap, sym, ◌∙◌, arith}
use Rattle.pw_base.specs.Limits.{source_bytes}
use Rattle.pw_base.specs.declared.kinds.Kind.TheVariants.{Program}
use Rattle.pw_tree.specs.declared.tunit.TUnit.{TUnit}
use Rattle.pw_tree.specs.Units.{unit_of}
use Rattle.pw_front.specs.declared.error.FrontError.{FrontError}
use Rattle.pw_front.specs.declared.error.FrontError.TheVariants as fronts
use Rattle.pw_front.specs.Units.{FaultOf}
use Rattle.pw_front.proofs.OneReading.{one_typed_unit, unit_or_fault}
use Rattle.pw_front.proofs.OneFault.{one_fault}
use Rattle.pw_place.specs.declared.link_error.LinkError.{LinkError}
use Rattle.pw_place.specs.Refusals.{link_fault}
use Rattle.pw_image.specs.OneUnit.{objects_of}
use Rattle.pw_image.specs.Unbound.{first_unbound}
use Rattle.pw_cmd.specs.declared.fault.FrontFault.{FrontFault}
use Rattle.pw_cmd.specs.declared.refusal.FileFault.TheVariants.{TooLong, Source}
use Rattle.pw_cmd.specs.declared.refusal.Refusal.{Refusal}
use Rattle.pw_cmd.specs.declared.refusal.Refusal.TheVariants.{File, Link, Unbound}
use Rattle.pw_cmd.specs.declared.words.Request.{Request}
use Rattle.pw_cmd.specs.Faults.{fault_of}
use Rattle.pw_cmd.specs.Shows.{HasUnit, IsProgram, IsRefused}

pub some_same : {A : Type 0} {x y : A} → Some x ≡ Some y → x ≡ y
some_same e = cc

none_is_not_some : {A : Type 0} {x : A} {o : Option A} → o ≡ None → o ≡ Some x → ⊥
none_is_not_some e f = cc

-- out of memory is no fault of the text
known : (error : FrontError) (fault : FrontFault) → fault_of error ≡ Some fault → error ≢ fronts.NoMemory
known error fault is out = none_is_not_some (ap fault_of out) is

module _ (request : Request) (text : List ℕ) where
  -- the fault that the front end finds
  abbrev HasFault : FrontFault → Type 0
  HasFault fault = (error : FrontError) × FaultOf text error × (fault_of error ≡ Some fault)

  fault_same : (f g : FrontFault) → HasFault f → HasFault g → f ≡ g
  fault_same f g a b =
      let same : a.0 ≡ b.0 = one_fault text a.0 b.0 a.1 b.1 (known a.0 f a.2) (known b.0 g b.2) in
      some_same (sym a.2 ∙ ap fault_of same ∙ b.2)

  fault_or_unit : (f : FrontFault) (unit : TUnit) → HasFault f → HasUnit text unit → ⊥
  fault_or_unit f unit a u = unit_or_fault text unit a.0 u.is_unit (known a.0 f a.2) a.1

  long_or_short : (limit : ℕ) → limit < length text → length text ≤ limit → ⊥
  long_or_short limit long short = omega (arith, long, short)

  unit_same : (u v : TUnit) → HasUnit text u → HasUnit text v → unit_of u ≡ unit_of v
  unit_same u v a b = one_typed_unit text u v a.is_unit b.is_unit

  links_or_not : (f : LinkError) (u v : TUnit) → HasUnit text u → HasUnit text v →
      link_fault Program (objects_of request.file (unit_of u)) ≡ Some f →
      link_fault Program (objects_of request.file (unit_of v)) ≡ None → ⊥
  links_or_not f u v a b x y =
      none_is_not_some y (ap (λ unit. link_fault Program (objects_of request.file unit)) (unit_same v u b a) ∙ x)

  bound_or_not : (name : List ℕ) (u v : TUnit) → HasUnit text u → HasUnit text v → first_unbound (unit_of u) ≡ Some name →
      first_unbound (unit_of v) ≡ None → ⊥
  bound_or_not name u v a b x y = none_is_not_some y (ap first_unbound (unit_same v u b a) ∙ x)

  -- the text is refused for one thing
  pub one_refusal : (a b : Refusal) → IsRefused request text a → IsRefused request text b → a ≡ b
  one_refusal (File n (TooLong l)) (File m (TooLong k)) x y =
      ap (λ n. File n (TooLong l)) (x.0 ∙ sym y.0) ∙ ap (λ l. File m (TooLong l)) (x.1 ∙ sym y.1)
  one_refusal (File n (TooLong l)) (File m (Source g)) x y = absurd (long_or_short source_bytes x.2 y.1)
  one_refusal (File n (TooLong l)) (Link g) x y = absurd (long_or_short source_bytes x.2 y.1.short)
  one_refusal (File n (TooLong l)) (Unbound g) x y = absurd (long_or_short source_bytes x.2 y.1.short)
  one_refusal (File n (Source f)) (File m (TooLong k)) x y = absurd (long_or_short source_bytes y.2 x.1)
  one_refusal (File n (Source f)) (File m (Source g)) x y =
      ap (λ n. File n (Source f)) (x.0 ∙ sym y.0) ∙ ap (λ f. File m (Source f)) (fault_same f g x.2 y.2)
  one_refusal (File n (Source f)) (Link g) x y = absurd (fault_or_unit f y.0 x.2 y.1)
  one_refusal (File n (Source f)) (Unbound g) x y = absurd (fault_or_unit f y.0 x.2 y.1)
  one_refusal (Link f) (File m (TooLong k)) x y = absurd (long_or_short source_bytes y.2 x.1.short)
  one_refusal (Link f) (File m (Source g)) x y = absurd (fault_or_unit g x.0 y.2 x.1)
  one_refusal (Link f) (Link g) x y =
      ap Link (some_same (sym x.2 ∙ ap (λ unit. link_fault Program (objects_of request.file unit)) (unit_same x.0 y.0 x.1 y.1) ∙ y.2))
  one_refusal (Link f) (Unbound g) x y = absurd (links_or_not f x.0 y.0 x.1 y.1 x.2 y.2)
  one_refusal (Unbound f) (File m (TooLong k)) x y = absurd (long_or_short source_bytes y.2 x.1.short)
  one_refusal (Unbound f) (File m (Source g)) x y = absurd (fault_or_unit g x.0 y.2 x.1)
  one_refusal (Unbound f) (Link g) x y = absurd (links_or_not g y.0 x.0 y.1 x.1 y.2 x.2)
  one_refusal (Unbound f) (Unbound g) x y = ap Unbound (some_same (sym x.3 ∙ ap first_unbound (unit_same x.0 y.0 x.1 y.1) ∙ y.3))

  -- a program's text is not
  pub not_refused : (unit : TUnit) (why : Refusal) → IsProgram request text unit → IsRefused request text why → ⊥
  not_refused unit (File n (TooLong l)) p x = long_or_short source_bytes x.2 p.has_unit.short
  not_refused unit (File n (Source f)) p x = fault_or_unit f unit x.2 p.has_unit
  not_refused unit (Link f) p x = links_or_not f x.0 unit x.1 p.has_unit x.2 p.links
  not_refused unit (Unbound f) p x = bound_or_not f x.0 unit x.1 p.has_unit x.3 p.bound
