-- A text has one unit, so it has one typed unit, and no fault beside it.
use Rattle.std.proofs.Common.{◌≡◌, ℕ, List, [], ◌∷◌, Option, Some, refl, sym, ap, subst, ◌∙◌}
use Rattle.pw_base.specs.declared.pos.Pos.{Pos}
use Rattle.pw_lex.specs.declared.error.LexError.{LexError}
use Rattle.pw_lex.specs.Bytes.{Text}
use Rattle.pw_lex.proofs.Exports.{one_list, not_both}
use Rattle.pw_grammar.specs.declared.error.SyntaxError.{SyntaxError}
use Rattle.pw_grammar.specs.Declarations.{Derives}
use Rattle.pw_grammar.proofs.Exports.{one_tree}
use Rattle.pw_grammar.specs.Faults.{IsFaultless}
use Rattle.pw_tree.specs.declared.decl.Unit.{Unit}
use Rattle.pw_tree.specs.declared.tunit.TUnit.{TUnit}
use Rattle.pw_tree.specs.Declarations.{untyped_unit_of}
use Rattle.pw_types.specs.declared.error.TypeError.TheVariants as types
use Rattle.pw_types.specs.declared.fault.Fault.{Fault}
use Rattle.pw_types.specs.declared.rule.Rule.{Rule}
use Rattle.pw_types.specs.Faults.{first_of}
use Rattle.pw_types.specs.Nests.{faults_of}
use Rattle.pw_types.specs.Units.{typed_unit}
use Rattle.pw_front.specs.declared.error.FrontError.TheVariants.{Lex, Syntax, Typing, NoMemory}
use Rattle.pw_front.specs.Units.{IsUnitOf, IsTypedUnitOf, HasLexFault, HasSyntaxFault, HasTypeFault}
use Rattle.pw_front.specs.Laws.{OneTypedUnit, UnitOrFault}

-- a text has one unit
pub one_unit : (text : Text) (a b : Unit) → IsUnitOf text a → IsUnitOf text b → a ≡ b
one_unit text a b is also =
    let same : also.tokens ≡ is.tokens = one_list text also.tokens is.tokens also.has_tokens is.has_tokens in
    one_tree is.tokens a b is.derives (subst (λ ts. Derives ts b) same also.derives)

pub one_typed_unit : OneTypedUnit
one_typed_unit text a b is also =
    is.is_typed.is ∙ ap (λ u. typed_unit (untyped_unit_of u)) (one_unit text is.unit also.unit is.is_unit also.is_unit) ∙ sym also.is_typed.is

pub no_lex_fault : (text : Text) (unit : Unit) (fault : LexError) (line : ℕ) → IsUnitOf text unit →
    HasLexFault text fault line → ⊥
no_lex_fault text unit fault line is h = not_both text is.tokens fault is.has_tokens h.is

pub no_syntax_fault : (text : Text) (unit : Unit) (fault : SyntaxError) (line : ℕ) → IsUnitOf text unit →
    HasSyntaxFault text fault line → ⊥
no_syntax_fault text unit fault line is h =
    let same : is.tokens ≡ h.tokens = one_list text is.tokens h.tokens is.has_tokens h.has_tokens in
    let none : IsFaultless h.tokens = subst (λ ts. IsFaultless ts) same is.no_fault in
    none fault h.is.is

-- a list without elements has no first
none_first : (faults : List Fault) (fault : Fault) → faults ≡ [] → first_of faults ≡ Some fault → ⊥
none_first [] fault none first = cc
none_first (f ∷ fs) fault none first = cc

no_type_fault : (text : Text) (typed : TUnit) (rule : Rule) (at : Pos) (name : Option (List ℕ)) → IsTypedUnitOf text typed →
    HasTypeFault text rule at name → ⊥
no_type_fault text typed rule at name is h =
    let same : is.unit ≡ h.unit = one_unit text is.unit h.unit is.is_unit h.is_unit in
    let none : faults_of (untyped_unit_of h.unit) ≡ [] = subst (λ u. faults_of (untyped_unit_of u) ≡ []) same is.is_typed.no_fault in
    none_first (faults_of (untyped_unit_of h.unit)) h.is.fault none h.is.first

pub unit_or_fault : UnitOrFault
unit_or_fault text unit (Lex fault line) is known h = no_lex_fault text is.unit fault line is.is_unit h
unit_or_fault text unit (Syntax fault line) is known h = no_syntax_fault text is.unit fault line is.is_unit h
unit_or_fault text unit (Typing (types.Broken rule at name)) is known h = no_type_fault text unit rule at name is h
unit_or_fault text unit (Typing types.NoMemory) is known h = h
unit_or_fault text unit NoMemory is known h = known refl
