-- The tree of an expression stands in the expression's tokens; and as many brackets stand round it on either side.
use Rattle.std.proofs.Common.{◌≡◌, refl, sym, ap, subst, ℕ, suc, ◌+◌, ◌-◌, ◌≤◌, List, [], ◌∷◌, ◌++◌, length, arith}
use Rattle.std.proofs.lemmas.List.{length-append}
use Rattle.pw_grammar.specs.Expressions.{ExpressionDerivation, identifier, constant, bracketed, input, output, call, index, prefixed, binary, choice, Arguments, nothing, arguments, More, end, more, spelled, spelled_arguments, spelled_more, expression_tree, argument_trees, more_argument_trees}
use Rattle.pw_grammar.proofs.PlainNodes.{place, node-Num, node-Word, node-Unary, node-Binary, node-Cond, node-Call, node-Index, node-Input, node-Output}
use Rattle.pw_lex.specs.declared.token.Token.{Token}
use Rattle.pw_tree.specs.Expressions.{expression_of, expressions_of}
use Rattle.pw_tree.specs.Expressions as tree
use Rattle.pw_tree.specs.Placed.{IsWithin, IsPlaced, ArePlaced, span_of, token_after}
use Rattle.pw_tree.specs.declared.operator.Un.{Un}
use Rattle.pw_tree.specs.declared.operator.Bin.{Bin}

-- the tree stands among these tokens, and wherever these are
pub record Stands (at count : ℕ) (a : tree.Expression) : Type 0 where
  pub from : at ≤ (span_of a).first
  pub some : (span_of a).first ≤ (span_of a).last
  -- as many tokens stand after it as before it
  pub to : suc ((span_of a).last + ((span_of a).first - at)) ≡ at + count
  pub placed : (low high : ℕ) → low ≤ at → at + count ≤ suc high → IsPlaced low high a

-- several trees stand among these tokens, and wherever these are
pub record AllStand (at count : ℕ) (xs : tree.Expressions) : Type 0 where
  pub placed : (low high : ℕ) → low ≤ at → at + count ≤ suc high → ArePlaced low high xs

by_form : {at count : ℕ} {a b : tree.Expression} → a ≡ b → Stands at count b → Stands at count a
by_form {at} {count} e s = subst (λ x. Stands at count x) (sym e) s

-- ---- each form, over the trees of its parts

within : (at count : ℕ) (t : Token) (low high : ℕ) → 1 ≤ count → low ≤ at → at + count ≤ suc high →
    IsWithin low high (place at count t)
within at count t low high full l h = record { from = l; some = omega arith; to = omega arith }

-- a node stands among its tokens if its parts do
stands_by : (at count : ℕ) (t : Token) (a : tree.Expression) → span_of a ≡ place at count t → 1 ≤ count
    → ((low high : ℕ) → IsWithin low high (place at count t) → IsPlaced low high a) → Stands at count a
stands_by at count t a is full parts = record {
  from = subst (λ p. at ≤ p.first) (sym is) (omega arith);
  some = subst (λ p. p.first ≤ p.last) (sym is) (let e : at ≤ at + count - 1 = omega arith in e);
  to = subst (λ p. suc (p.last + (p.first - at)) ≡ at + count) (sym is) (let e : suc (at + count - 1 + (at - at)) ≡ at + count = omega arith in e);
  placed = λ low high l h. parts low high (within at count t low high full l h);
}

stands_around : (at m count : ℕ) (a : tree.Expression) → count ≡ suc (m + 1) → Stands (suc at) m a → Stands at count a
stands_around at m count a e s = record {
  from = let f : suc at ≤ (span_of a).first = s.from in omega arith;
  some = s.some;
  to = omega (arith, e, s.to, s.from);
  placed = λ low high l h. s.placed low high (omega arith) (omega (arith, e));
}

stands_output : (at m count : ℕ) (t : Token) (a : tree.Expression) → count ≡ suc (suc (m + 1)) → Stands (suc (suc at)) m a
    → Stands at count (tree.output (place at count t) a)
unfolding IsPlaced
stands_output at m count t a e s = stands_by at count t _ refl (omega (arith, e))
    (λ low high w. (w, s.placed (suc at) (at + count - 1) (omega arith) (omega (arith, e))))

stands_unary : (at m count : ℕ) (t : Token) (op : Un) (a : tree.Expression) → count ≡ suc m → Stands (suc at) m a
    → Stands at count (tree.unary (place at count t) op a)
unfolding IsPlaced
stands_unary at m count t op a e s = stands_by at count t _ refl (omega (arith, e))
    (λ low high w. (w, s.placed (suc at) (at + count - 1) (omega arith) (omega (arith, e))))

stands_binary : (at m n count : ℕ) (t : Token) (op : Bin) (a b : tree.Expression) → count ≡ m + suc n → Stands at m a
    → Stands (suc (at + m)) n b → Stands at count (tree.binary (place at count t) op a b)
unfolding IsPlaced
stands_binary at m n count t op a b e s r = stands_by at count t _ refl (omega (arith, e))
    (λ low high w. (
      w,
      s.placed at (at + count - 1) (omega arith) (omega (arith, e)),
      r.placed (suc (token_after a)) (at + count - 1) (omega (arith, s.to)) (omega (arith, e)),
    ))

stands_conditional : (at m n k count : ℕ) (t : Token) (c a b : tree.Expression) → count ≡ m + suc (n + suc k) → Stands at m c
    → Stands (suc (at + m)) n a → Stands (suc (suc (at + m) + n)) k b → Stands at count (tree.conditional (place at count t) c a b)
unfolding IsPlaced
stands_conditional at m n k count t c a b e s r q = stands_by at count t _ refl (omega (arith, e))
    (λ low high w. (
      w,
      s.placed at (at + count - 1) (omega arith) (omega (arith, e)),
      r.placed (suc (token_after c)) (at + count - 1) (omega (arith, s.to)) (omega (arith, e)),
      q.placed (suc (token_after a)) (at + count - 1) (omega (arith, r.to)) (omega (arith, e)),
    ))

stands_index : (at m n count : ℕ) (t : Token) (a i : tree.Expression) → count ≡ m + suc (n + 1) → Stands at m a
    → Stands (suc (at + m)) n i → Stands at count (tree.index (place at count t) a i)
unfolding IsPlaced
stands_index at m n count t a i e s r = stands_by at count t _ refl (omega (arith, e))
    (λ low high w. (
      w,
      s.placed at (at + count - 1) (omega arith) (omega (arith, e)),
      r.placed (suc (token_after a)) (at + count - 1) (omega (arith, s.to)) (omega (arith, e)),
    ))

stands_call : (at m n count : ℕ) (t : Token) (f : tree.Expression) (xs : tree.Expressions) → count ≡ m + suc (n + 1) →
    Stands at m f
    → AllStand (suc (at + m)) n xs → Stands at count (tree.call (place at count t) f xs)
unfolding IsPlaced
stands_call at m n count t f xs e s r = stands_by at count t _ refl (omega (arith, e))
    (λ low high w. (
      w,
      s.placed at (at + count - 1) (omega arith) (omega (arith, e)),
      (let b : token_after f ≤ at + count - 1 = omega (arith, s.to, e) in b),
      r.placed (suc (token_after f)) (at + count - 1) (omega (arith, s.to)) (omega (arith, e)),
    ))

stand_none : (at : ℕ) → AllStand at 0 tree.nil
unfolding ArePlaced
stand_none at = record { placed = λ low high l h. tt }

stand_both : (at m n count : ℕ) (a : tree.Expression) (xs : tree.Expressions) → count ≡ m + n → Stands at m a →
    AllStand (at + m) n xs
    → AllStand at count (tree.cons a xs)
unfolding ArePlaced
stand_both at m n count a xs e s r = record {
  placed = λ low high l h. (s.placed low high l (omega (arith, e)), r.placed (token_after a) high (omega (arith, s.to)) (omega (arith, e)));
}

-- what stands after a token
stand_behind : (at m count : ℕ) (xs : tree.Expressions) → count ≡ suc m → AllStand (suc at) m xs → AllStand at count xs
stand_behind at m count xs e s = record { placed = λ low high l h. s.placed low high (omega arith) (omega (arith, e)) }

-- ---- every expression

-- the tokens of three parts, and of what stands between brackets
spelled_three : (u v w : List Token) (q n : Token) → length (u ++ q ∷ (v ++ n ∷ w)) ≡ length u + suc (length v + suc (length w))
spelled_three u v w q n = omega (arith, length-append u (q ∷ (v ++ n ∷ w)), length-append v (n ∷ w))

mutual
  unfolding spelled expression_tree IsPlaced

  pub stands : (at : ℕ) (c : ExpressionDerivation) → Stands at (length (spelled c)) (expression_of (expression_tree at c))
  stands at (identifier t) = by_form (node-Word at 1 t _) (stands_by at 1 t _ refl (omega arith) (λ low high w. w))
  stands at (constant t) = by_form (node-Num at 1 t _ _) (stands_by at 1 t _ refl (omega arith) (λ low high w. w))
  stands at (bracketed o a c) = stands_around at (length (spelled a)) _ _ (ap suc (length-append (spelled a) (c ∷ []))) (stands (suc at) a)
  stands at (input k o c) = by_form (node-Input at 3 k) (stands_by at 3 k _ refl (omega arith) (λ low high w. w))
  stands at (output k o a c) = by_form (node-Output at _ k _)
      (stands_output at (length (spelled a)) _ k _ (omega (arith, length-append (spelled a) (c ∷ []))) (stands (suc (suc at)) a))
  stands at (call f o xs c) = by_form (node-Call at _ o _ _)
      (stands_call at (length (spelled f)) (length (spelled_arguments xs)) _ o _ _ (spelled_three (spelled f) (spelled_arguments xs) [] o c)
      (stands at f) (stand (suc (at + length (spelled f))) xs))
  stands at (index a o i c) = by_form (node-Index at _ o _ _)
      (stands_index at (length (spelled a)) (length (spelled i)) _ o _ _ (spelled_three (spelled a) (spelled i) [] o c)
      (stands at a) (stands (suc (at + length (spelled a))) i))
  stands at (prefixed t a) = by_form (node-Unary at _ t _ _)
      (stands_unary at (length (spelled a)) _ t _ _ refl (stands (suc at) a))
  stands at (binary a t b) = by_form (node-Binary at _ t _ _ _)
      (stands_binary at (length (spelled a)) (length (spelled b)) _ t _ _ _ (length-append (spelled a) (t ∷ spelled b))
      (stands at a) (stands (suc (at + length (spelled a))) b))
  stands at (choice c q a m b) = by_form (node-Cond at _ q _ _ _)
      (stands_conditional at (length (spelled c)) (length (spelled a)) (length (spelled b)) _ q _ _ _
      (spelled_three (spelled c) (spelled a) (spelled b) q m) (stands at c) (stands (suc (at + length (spelled c))) a)
      (stands (suc (suc (at + length (spelled c)) + length (spelled a))) b))

  stand : (at : ℕ) (xs : Arguments) → AllStand at (length (spelled_arguments xs)) (expressions_of (argument_trees at xs))
  stand at nothing = stand_none at
  stand at (arguments a xs) = stand_both at (length (spelled a)) (length (spelled_more xs)) _ _ _
      (length-append (spelled a) (spelled_more xs)) (stands at a) (stand_more (at + length (spelled a)) xs)

  stand_more : (at : ℕ) (xs : More) → AllStand at (length (spelled_more xs)) (expressions_of (more_argument_trees at xs))
  stand_more at end = stand_none at
  stand_more at (more t a xs) = stand_behind at (length (spelled a ++ spelled_more xs)) _ _ refl
      (stand_both (suc at) (length (spelled a)) (length (spelled_more xs)) _ _ _ (length-append (spelled a) (spelled_more xs))
      (stands (suc at) a) (stand_more (suc at + length (spelled a)) xs))
