-- The numbers of an expression's tree are those of its tokens.
use Rattle.std.proofs.Common.{◌≡◌, sym, subst, ℕ, suc, ◌+◌, ◌^◌, ◌<◌, List, [], ◌∷◌, ◌++◌, length, Option, Some, None}
use Rattle.std.specs.Prelude.{⊤}
use Rattle.std.specs.List.{AllByRecursion}
use Rattle.std.specs.Option.{option_map}
use Rattle.pw_grammar.specs.Expressions.{ExpressionDerivation, identifier, constant, bracketed, input, output, call, index, prefixed, binary, choice, Arguments, nothing, arguments, More, end, more, spelled, spelled_arguments, spelled_more, expression_tree, argument_trees, more_argument_trees}
use Rattle.pw_grammar.specs.Statements.{spelled_maybe, tree_of_maybe}
use Rattle.pw_grammar.specs.Laws.{IsSmallToken}
use Rattle.pw_grammar.proofs.PlainNodes.{node-Num, node-Word, node-Unary, node-Binary, node-Cond, node-Call, node-Index, node-Input, node-Output}
use Rattle.pw_lex.specs.declared.token.Token.{Token}
use Rattle.pw_tree.specs.Expressions.{expression_of, expressions_of}
use Rattle.pw_tree.specs.Proper.{HasNumbers, HaveNumbers, HasOptionNumbers}

abbrev pub AreSmall : List Token → Type 0
AreSmall tokens = AllByRecursion IsSmallToken tokens

pub small_left : (xs ys : List Token) → AreSmall (xs ++ ys) → AreSmall xs
small_left [] ys h = tt
small_left (x ∷ xs) ys h = (h.0, small_left xs ys h.1)

pub small_right : (xs ys : List Token) → AreSmall (xs ++ ys) → AreSmall ys
small_right [] ys h = h
small_right (x ∷ xs) ys h = small_right xs ys h.1

mutual
  unfolding spelled expression_tree HasNumbers

  pub numbers : (at : ℕ) (c : ExpressionDerivation) → AreSmall (spelled c) → HasNumbers (expression_of (expression_tree at c))
  numbers at (identifier t) h = subst HasNumbers (sym (node-Word at 1 t _)) h.0.line
  numbers at (constant t) h = subst HasNumbers (sym (node-Num at 1 t _ _)) (h.0.line, h.0.value)
  numbers at (bracketed o a c) h = numbers (suc at) a (small_left (spelled a) (c ∷ []) h.1)
  numbers at (input k o c) h = subst HasNumbers (sym (node-Input at 3 k)) h.0.line
  numbers at (output k o a c) h =
      subst HasNumbers (sym (node-Output at _ k _)) (h.0.line, numbers (suc (suc at)) a (small_left (spelled a) (c ∷ []) h.1.1))
  numbers at (call f o xs c) h =
      let later = small_right (spelled f) (o ∷ (spelled_arguments xs ++ c ∷ [])) h in
      subst HasNumbers (sym (node-Call at _ o _ _)) (
        later.0.line,
        numbers at f (small_left (spelled f) (o ∷ (spelled_arguments xs ++ c ∷ [])) h),
        argument_numbers (suc (at + length (spelled f))) xs (small_left (spelled_arguments xs) (c ∷ []) later.1),
      )
  numbers at (index a o i c) h =
      let later = small_right (spelled a) (o ∷ (spelled i ++ c ∷ [])) h in
      subst HasNumbers (sym (node-Index at _ o _ _)) (
        later.0.line,
        numbers at a (small_left (spelled a) (o ∷ (spelled i ++ c ∷ [])) h),
        numbers (suc (at + length (spelled a))) i (small_left (spelled i) (c ∷ []) later.1),
      )
  numbers at (prefixed t a) h = subst HasNumbers (sym (node-Unary at _ t _ _)) (h.0.line, numbers (suc at) a h.1)
  numbers at (binary a t b) h =
      let later = small_right (spelled a) (t ∷ spelled b) h in
      subst HasNumbers (sym (node-Binary at _ t _ _ _))
      (later.0.line, numbers at a (small_left (spelled a) (t ∷ spelled b) h), numbers (suc (at + length (spelled a))) b later.1)
  numbers at (choice c q a m b) h =
      let later = small_right (spelled c) (q ∷ (spelled a ++ m ∷ spelled b)) h in
      let last = small_right (spelled a) (m ∷ spelled b) later.1 in
      subst HasNumbers (sym (node-Cond at _ q _ _ _)) (
        later.0.line,
        numbers at c (small_left (spelled c) (q ∷ (spelled a ++ m ∷ spelled b)) h),
        numbers (suc (at + length (spelled c))) a (small_left (spelled a) (m ∷ spelled b) later.1),
        numbers (suc (suc (at + length (spelled c)) + length (spelled a))) b last.1,
      )

  argument_numbers : (at : ℕ) (xs : Arguments) → AreSmall (spelled_arguments xs) →
      HaveNumbers (expressions_of (argument_trees at xs))
  argument_numbers at nothing h = tt
  argument_numbers at (arguments a xs) h =
      (numbers at a (small_left (spelled a) (spelled_more xs) h), more_numbers (at + length (spelled a)) xs (small_right (spelled a) (spelled_more xs) h))

  more_numbers : (at : ℕ) (xs : More) → AreSmall (spelled_more xs) → HaveNumbers (expressions_of (more_argument_trees at xs))
  more_numbers at end h = tt
  more_numbers at (more t a xs) h = (
    numbers (suc at) a (small_left (spelled a) (spelled_more xs) h.1),
    more_numbers (suc at + length (spelled a)) xs (small_right (spelled a) (spelled_more xs) h.1),
  )

pub maybe_numbers : (at : ℕ) (a : Option ExpressionDerivation) → AreSmall (spelled_maybe a) →
    HasOptionNumbers (option_map expression_of (tree_of_maybe at a))
maybe_numbers at None h = tt
maybe_numbers at (Some a) h = numbers at a h
