-- The trees of a unit stand in its tokens, and its types stand where they may.
use Rattle.std.proofs.Common.{◌≡◌, sym, ◌∙◌, ap, subst, ◌<◌, ◌^◌, List, length, map, arith}
use Rattle.std.proofs.lemmas.List.{length-map}
use Rattle.pw_grammar.specs.Declarations.{UnitDerivation, spelled_unit, IsUnit, trees_of_declarations, lines_of}
use Rattle.pw_grammar.specs.Laws.{TreesAreWritten}
use Rattle.pw_grammar.proofs.PlacedDeclarations.{declarations_stand}
use Rattle.pw_grammar.proofs.Typed.{unit_types}
use Rattle.pw_lex.specs.declared.token.Token.{Token}
use Rattle.pw_tree.specs.Declarations.{declaration_of, untyped_unit_of}
use Rattle.pw_tree.specs.Placed.{AreDeclarationsPlaced, HaveTypes, IsParsed}
use Rattle.pw_tree.specs.declared.decl.Unit.{Unit}

written : (cs : UnitDerivation) (unit : Unit) (tokens : List Token) → IsUnit cs → spelled_unit cs ≡ tokens →
    unit.decls ≡ trees_of_declarations 0 cs
    → unit.lines ≡ lines_of tokens → length tokens < 2 ^ 32 → IsParsed (untyped_unit_of unit)
written cs unit tokens is spells decls lines few =
    let n : length unit.lines ≡ length tokens = ap length lines ∙ length-map tokens (λ t. t.line) in
    let m : length (spelled_unit cs) ≡ length tokens = ap length spells in
    record {
      few = omega (arith, n);
      placed = subst (λ ds. AreDeclarationsPlaced 0 (length unit.lines) (map declaration_of ds)) (sym decls)
          (declarations_stand 0 0 (length unit.lines) cs (omega arith) (omega arith));
      types = subst (λ ds. HaveTypes (map declaration_of ds)) (sym decls) (unit_types 0 cs is);
    }

pub trees_are_written : TreesAreWritten
trees_are_written tokens unit d few = written d.phrase unit tokens d.is d.spells d.decls d.lines few
