-- The trees of declarations stand in their tokens.
use Rattle.std.proofs.Common.{◌≡◌, ℕ, suc, ◌+◌, ◌≤◌, [], ◌∷◌, ◌++◌, length, map, arith}
use Rattle.std.proofs.lemmas.List.{length-append}
use Rattle.pw_grammar.specs.Statements.{spelled_type}
use Rattle.pw_grammar.specs.Declarations.{spelled_result, DeclarationDerivation, prototype, function, variable, spelled_declaration, name_at, after_parameters, tree_of_declaration, UnitDerivation, spelled_unit, trees_of_declarations}
use Rattle.pw_grammar.proofs.Lengths.{prototype_length, function_length, variable_length}
use Rattle.pw_grammar.proofs.PlacedParts.{parameters_stand, variable_stands, extent_within}
use Rattle.pw_grammar.proofs.PlacedStatements.{statements_stand}
use Rattle.pw_tree.specs.Declarations.{declaration_of}
use Rattle.pw_tree.specs.Placed.{IsDeclarationPlaced, AreDeclarationsPlaced}

-- a declaration ends with its last token
declaration_ends : (at : ℕ) (c : DeclarationDerivation) →
    suc (tree_of_declaration at c).last ≡ at + length (spelled_declaration c)
declaration_ends at (prototype g r x o ps c e) = omega (arith, prototype_length g r x o ps c e)
declaration_ends at (function g r x o ps c b body e) = omega (arith, function_length g r x o ps c b body e)
declaration_ends at (variable g ty x v e) = omega (arith, variable_length g ty x v e)

declaration_stands : (at low high : ℕ) (c : DeclarationDerivation) → low ≤ at → at + length (spelled_declaration c) ≤ high
    → IsDeclarationPlaced low high (declaration_of (tree_of_declaration at c))
declaration_stands at low high (prototype g r x o ps c e) l h = record {
  from = l;
  name = omega arith;
  declarator = omega arith;
  end = omega arith;
  to = omega (arith, declaration_ends at (prototype g r x o ps c e));
  form = parameters_stand (suc (suc (name_at at g (spelled_result r)))) _ _ ps (omega arith) (omega arith);
}
declaration_stands at low high (function g r x o ps c b body e) l h = record {
  from = l;
  name = omega arith;
  declarator = omega arith;
  end = omega arith;
  to = omega (arith, declaration_ends at (function g r x o ps c b body e));
  form = (
    parameters_stand (suc (suc (name_at at g (spelled_result r)))) _ _ ps (omega arith) (omega arith),
    (statements_stand (suc (suc (after_parameters at g r ps))) body).placed _ _ (omega arith) (omega arith),
  );
}
declaration_stands at low high (variable g ty x v e) l h = record {
  from = l;
  name = omega arith;
  declarator = omega arith;
  end = omega (arith, extent_within v);
  to = omega (arith, declaration_ends at (variable g ty x v e));
  form = variable_stands (suc (name_at at g (spelled_type ty))) _ _ v (omega arith) (omega arith);
}

pub declarations_stand : (at low high : ℕ) (cs : UnitDerivation) → low ≤ at → at + length (spelled_unit cs) ≤ high
    → AreDeclarationsPlaced low high (map declaration_of (trees_of_declarations at cs))
unfolding spelled_unit trees_of_declarations AreDeclarationsPlaced
declarations_stand at low high [] l h = tt
declarations_stand at low high (c ∷ cs) l h =
    let n : length (spelled_declaration c ++ spelled_unit cs) ≡ length (spelled_declaration c) + length (spelled_unit cs) =
    length-append (spelled_declaration c) (spelled_unit cs) in (
      declaration_stands at low high c l (omega arith),
      declarations_stand (at + length (spelled_declaration c)) _ high cs (omega (arith, declaration_ends at c)) (omega arith),
    )
