-- Each expression and each statement leaves the brackets round it as they are.
use Rattle.std.proofs.Common.{◌≡◌, refl, sym, ◌∙◌, ap, subst, ℕ, suc, List, [], ◌∷◌, ◌++◌, ◌⊎◌, inl, inr, Bool, true, false, Option, Some, None}
use Rattle.std.proofs.lemmas.List.{append_assoc}
use Rattle.pw_grammar.specs.declared.sort.Sort.{Sort}
use Rattle.pw_grammar.specs.declared.sort.Sort.TheVariants as s
use Rattle.pw_grammar.specs.Terminals.{sort, prefix_of, binary_of}
use Rattle.pw_grammar.specs.Expressions.{ExpressionDerivation, identifier, constant, bracketed, input, output, call, index, prefixed, binary, choice, Arguments, nothing, arguments, More, end, more, spelled, spelled_arguments, spelled_more, IsAt, AreArguments, AreMore, IsConstantSymbol}
use Rattle.pw_grammar.specs.Statements as y
use Rattle.pw_grammar.specs.Faults.{opens_by, closes_by}
use Rattle.pw_grammar.proofs.Late.{IsPlain, IsInner, inner_nil, inner_token, inner_cons, inner_both, inner_brackets}
use Rattle.pw_lex.specs.declared.token.Token.{Token}
use Rattle.pw_tree.specs.declared.ty.Ty.{Ty}
use Rattle.pw_tree.specs.declared.operator.Un.{Un}
use Rattle.pw_tree.specs.declared.operator.Bin.{Bin}

-- ---- which symbols are no brackets

pub plain_sort : (x z : Sort) → x ≡ z → IsPlain z → IsPlain x
plain_sort x z e p = subst (λ w. IsPlain w) (sym e) p

pub opening_sort : (x z : Sort) → x ≡ z → opens_by z ≡ true → opens_by x ≡ true
opening_sort x z e p = subst (λ w. opens_by w ≡ true) (sym e) p

pub closing_sort : (x z : Sort) → x ≡ z → (opens_by z ≡ false) × (closes_by z ≡ true) →
    (opens_by x ≡ false) × (closes_by x ≡ true)
closing_sort x z e p = subst (λ w. (opens_by w ≡ false) × (closes_by w ≡ true)) (sym e) p

pub plain_constant : (x : Sort) → IsConstantSymbol x → IsPlain x
plain_constant x (inl e) = plain_sort x s.Number e (refl, refl)
plain_constant x (inr e) = plain_sort x s.Character e (refl, refl)

pub nothing_is : {A : Type 0} (a : A) → None ≡ Some a → ⊥
nothing_is a e = cc

pub plain_prefix : (x : Sort) (op : Un) → prefix_of x ≡ Some op → IsPlain x
plain_prefix s.LeftParen op e = absurd (nothing_is op e)
plain_prefix s.RightParen op e = absurd (nothing_is op e)
plain_prefix s.LeftBrace op e = absurd (nothing_is op e)
plain_prefix s.RightBrace op e = absurd (nothing_is op e)
plain_prefix s.LeftBracket op e = absurd (nothing_is op e)
plain_prefix s.RightBracket op e = absurd (nothing_is op e)
plain_prefix _ op e = (refl, refl)

pub plain_operator : (x : Sort) (op : Bin) → binary_of x ≡ Some op → IsPlain x
plain_operator s.LeftParen op e = absurd (nothing_is op e)
plain_operator s.RightParen op e = absurd (nothing_is op e)
plain_operator s.LeftBrace op e = absurd (nothing_is op e)
plain_operator s.RightBrace op e = absurd (nothing_is op e)
plain_operator s.LeftBracket op e = absurd (nothing_is op e)
plain_operator s.RightBracket op e = absurd (nothing_is op e)
plain_operator _ op e = (refl, refl)

pub plain_type : (x : Sort) (ty : Ty) → y.type_of_keyword x ≡ Some ty → IsPlain x
plain_type s.LeftParen ty e = absurd (nothing_is ty e)
plain_type s.RightParen ty e = absurd (nothing_is ty e)
plain_type s.LeftBrace ty e = absurd (nothing_is ty e)
plain_type s.RightBrace ty e = absurd (nothing_is ty e)
plain_type s.LeftBracket ty e = absurd (nothing_is ty e)
plain_type s.RightBracket ty e = absurd (nothing_is ty e)
plain_type _ ty e = (refl, refl)

-- ---- tokens of which one knows the symbol

pub inner_one : (t : Token) (z : Sort) → sort t ≡ z → IsPlain z → IsInner (t ∷ [])
inner_one t z e plain = inner_token t (plain_sort (sort t) z e plain)

pub inner_then : (t : Token) (z : Sort) (u : List Token) → sort t ≡ z → IsPlain z → IsInner u → IsInner (t ∷ u)
inner_then t z u e plain inner = inner_cons t u (plain_sort (sort t) z e plain) inner

pub inner_parens : (o c : Token) (u : List Token) → sort o ≡ s.LeftParen → sort c ≡ s.RightParen → IsInner u →
    IsInner (o ∷ (u ++ c ∷ []))
inner_parens o c u e f inner = inner_brackets o c u (opening_sort (sort o) s.LeftParen e refl) (closing_sort (sort c) s.RightParen f (refl, refl)) inner

pub inner_square : (o c : Token) (u : List Token) → sort o ≡ s.LeftBracket → sort c ≡ s.RightBracket → IsInner u →
    IsInner (o ∷ (u ++ c ∷ []))
inner_square o c u e f inner = inner_brackets o c u (opening_sort (sort o) s.LeftBracket e refl) (closing_sort (sort c) s.RightBracket f (refl, refl)) inner

pub inner_braces : (o c : Token) (u : List Token) → sort o ≡ s.LeftBrace → sort c ≡ s.RightBrace → IsInner u →
    IsInner (o ∷ (u ++ c ∷ []))
inner_braces o c u e f inner = inner_brackets o c u (opening_sort (sort o) s.LeftBrace e refl) (closing_sort (sort c) s.RightBrace f (refl, refl)) inner

-- the same, and more after the closing bracket
inner_and_more : (o c : Token) (u v : List Token) → IsInner (o ∷ (u ++ c ∷ [])) → IsInner v → IsInner (o ∷ (u ++ c ∷ v))
inner_and_more o c u v a b = subst (λ w. IsInner (o ∷ w)) (append_assoc u (c ∷ []) v) (inner_both (o ∷ (u ++ c ∷ [])) v a b)

pub inner_parens_then : (o c : Token) (u v : List Token) → sort o ≡ s.LeftParen → sort c ≡ s.RightParen → IsInner u →
    IsInner v → IsInner (o ∷ (u ++ c ∷ v))
inner_parens_then o c u v e f inner behind = inner_and_more o c u v (inner_parens o c u e f inner) behind

pub inner_square_then : (o c : Token) (u v : List Token) → sort o ≡ s.LeftBracket → sort c ≡ s.RightBracket → IsInner u →
    IsInner v → IsInner (o ∷ (u ++ c ∷ v))
inner_square_then o c u v e f inner behind = inner_and_more o c u v (inner_square o c u e f inner) behind

pub inner_semicolon : (t : Token) → sort t ≡ s.Semicolon → IsInner (t ∷ [])
inner_semicolon t e = inner_one t s.Semicolon e (refl, refl)

-- ---- expressions

mutual
  unfolding spelled IsAt

  pub inner_phrase : (c : ExpressionDerivation) (n : ℕ) → IsAt n c → IsInner (spelled c)
  inner_phrase (identifier t) n i = inner_one t s.Name i (refl, refl)
  inner_phrase (constant t) n i = inner_token t (plain_constant (sort t) i)
  inner_phrase (bracketed o a c) n i = inner_parens o c (spelled a) i.0 i.2 (inner_phrase a 13 i.1)
  inner_phrase (input k o c) n i = inner_then k s.Input (o ∷ c ∷ []) i.0 (refl, refl) (inner_parens o c [] i.1 i.2 inner_nil)
  inner_phrase (output k o a c) n i =
      inner_then k s.Output (o ∷ (spelled a ++ c ∷ [])) i.0 (refl, refl) (inner_parens o c (spelled a) i.1 i.3 (inner_phrase a 13 i.2))
  inner_phrase (call f o xs c) n i =
      inner_both (spelled f) (o ∷ (spelled_arguments xs ++ c ∷ [])) (inner_phrase f 1 i.1)
      (inner_parens o c (spelled_arguments xs) i.2 i.4 (inner_arguments xs i.3))
  inner_phrase (index a o b c) n i =
      inner_both (spelled a) (o ∷ (spelled b ++ c ∷ [])) (inner_phrase a 1 i.1) (inner_square o c (spelled b) i.2 i.4 (inner_phrase b 13 i.3))
  inner_phrase (prefixed t a) n i = inner_cons t (spelled a) (plain_prefix (sort t) i.1.0 i.1.1) (inner_phrase a 2 i.2)
  inner_phrase (binary a t b) n i =
      inner_both (spelled a) (t ∷ spelled b) (inner_phrase a (suc i.0) i.2)
      (inner_cons t (spelled b) (plain_operator (sort t) i.3.0 i.3.1) (inner_phrase b i.0 i.4))
  inner_phrase (choice c q a m b) n i =
      inner_both (spelled c) (q ∷ (spelled a ++ m ∷ spelled b)) (inner_phrase c 12 i.1)
      (inner_then q s.Question (spelled a ++ m ∷ spelled b) i.2 (refl, refl) (inner_both (spelled a) (m ∷ spelled b) (inner_phrase a 13 i.3)
      (inner_then m s.Colon (spelled b) i.4 (refl, refl) (inner_phrase b 13 i.5))))

  pub inner_arguments : (xs : Arguments) → AreArguments xs → IsInner (spelled_arguments xs)
  inner_arguments nothing i = inner_nil
  inner_arguments (arguments a xs) i = inner_both (spelled a) (spelled_more xs) (inner_phrase a 13 i.0) (inner_more xs i.1)

  pub inner_more : (xs : More) → AreMore xs → IsInner (spelled_more xs)
  inner_more end i = inner_nil
  inner_more (more t a xs) i =
      inner_then t s.Comma (spelled a ++ spelled_more xs) i.0 (refl, refl)
      (inner_both (spelled a) (spelled_more xs) (inner_phrase a 13 i.1) (inner_more xs i.2))

-- ---- what statements are made of

pub inner_type : (ty : y.TypeDerivation) → y.IsType ty → IsInner (y.spelled_type ty)
inner_type (y.word t) i = inner_token t (plain_type (sort t) i.0 i.1)
inner_type (y.unsigned u l) i = inner_then u s.Unsigned (l ∷ []) i.0 (refl, refl) (inner_one l s.Long i.1 (refl, refl))

pub inner_local : (l : y.LocalDerivation) → y.IsLocal l → IsInner (y.spelled_local l)
inner_local (y.plain ty x e) i =
    inner_both (y.spelled_type ty) (x ∷ e ∷ []) (inner_type ty i.0) (inner_then x s.Name (e ∷ []) i.1 (refl, refl) (inner_semicolon e i.2))
inner_local (y.set ty x q a e) i =
    inner_both (y.spelled_type ty) (x ∷ q ∷ (spelled a ++ e ∷ [])) (inner_type ty i.0)
    (inner_then x s.Name (q ∷ (spelled a ++ e ∷ [])) i.1 (refl, refl) (inner_then q s.Assign (spelled a ++ e ∷ []) i.2 (refl, refl)
    (inner_both (spelled a) (e ∷ []) (inner_phrase a 13 i.3) (inner_semicolon e i.4))))

pub inner_simple : (a : y.SimpleDerivation) → y.IsSimple a → IsInner (y.spelled_simple a)
inner_simple (y.assign x q a) i =
    inner_then x s.Name (q ∷ spelled a) i.0 (refl, refl) (inner_then q s.Assign (spelled a) i.1 (refl, refl) (inner_phrase a 13 i.2))
inner_simple (y.assign_element x o b c q a) i =
    inner_then x s.Name (o ∷ (spelled b ++ c ∷ q ∷ spelled a)) i.0 (refl, refl)
    (inner_square_then o c (spelled b) (q ∷ spelled a) i.1 i.3 (inner_phrase b 13 i.2) (inner_then q s.Assign (spelled a) i.4 (refl, refl) (inner_phrase a 13 i.5)))
inner_simple (y.evaluate a) i = inner_phrase a 13 i

pub inner_start : (a : y.ForStartDerivation) → y.IsStart a → IsInner (y.spelled_start a)
inner_start (y.no_start e) i = inner_semicolon e i
inner_start (y.local_start l) i = inner_local l i
inner_start (y.simple_start a e) i = inner_both (y.spelled_simple a) (e ∷ []) (inner_simple a i.0) (inner_semicolon e i.1)

pub inner_maybe : (a : Option ExpressionDerivation) → y.IsMaybe a → IsInner (y.spelled_maybe a)
inner_maybe None i = inner_nil
inner_maybe (Some a) i = inner_phrase a 13 i

pub inner_step : (a : Option y.SimpleDerivation) → y.IsStep a → IsInner (y.spelled_step a)
inner_step None i = inner_nil
inner_step (Some a) i = inner_simple a i

-- ---- statements

-- what stands in the brackets of a `for`
inner_head : (t o e c : Token) (u v w z : List Token) → sort t ≡ s.For → sort o ≡ s.LeftParen → IsInner u → IsInner v →
    sort e ≡ s.Semicolon
    → IsInner w → sort c ≡ s.RightParen → IsInner z → IsInner (t ∷ o ∷ (u ++ (v ++ e ∷ (w ++ c ∷ z))))
inner_head t o e c u v w z t_is o_is a b e_is d c_is f =
    subst (λ x. IsInner (t ∷ o ∷ x)) (append_assoc u (v ++ e ∷ w) (c ∷ z) ∙ ap (λ x. u ++ x) (append_assoc v (e ∷ w) (c ∷ z)))
    (inner_then t s.For (o ∷ ((u ++ (v ++ e ∷ w)) ++ c ∷ z)) t_is (refl, refl) (inner_parens_then o c (u ++ (v ++ e ∷ w)) z o_is c_is
    (inner_both u (v ++ e ∷ w) a (inner_both v (e ∷ w) b (inner_then e s.Semicolon w e_is (refl, refl) d))) f))

inner_jump : (t e : Token) → (sort t ≡ s.Break) ⊎ (sort t ≡ s.Continue) → sort e ≡ s.Semicolon → IsInner (t ∷ e ∷ [])
inner_jump t e (inl i) j = inner_then t s.Break (e ∷ []) i (refl, refl) (inner_semicolon e j)
inner_jump t e (inr i) j = inner_then t s.Continue (e ∷ []) i (refl, refl) (inner_semicolon e j)

mutual
  unfolding y.spelled_statement y.IsStatement

  pub inner_statement : (c : y.StatementDerivation) (declares : Bool) → y.IsStatement declares c →
      IsInner (y.spelled_statement c)
  inner_statement (y.empty e) d i = inner_semicolon e i
  inner_statement (y.block o body c) d i = inner_braces o c (y.spelled_statements body) i.0 i.2 (inner_statements body i.1)
  inner_statement (y.declare l) d i = inner_local l i.1
  inner_statement (y.simple a e) d i = inner_both (y.spelled_simple a) (e ∷ []) (inner_simple a i.0) (inner_semicolon e i.1)
  inner_statement (y.if_only t o a c b) d i =
      inner_then t s.If (o ∷ (spelled a ++ c ∷ y.spelled_statement b)) i.0 (refl, refl)
      (inner_parens_then o c (spelled a) (y.spelled_statement b) i.1 i.3 (inner_phrase a 13 i.2) (inner_statement b false i.4))
  inner_statement (y.if_else t o a c b e n) d i =
      inner_then t s.If (o ∷ (spelled a ++ c ∷ (y.spelled_statement b ++ e ∷ y.spelled_statement n))) i.0 (refl, refl)
      (inner_parens_then o c (spelled a) (y.spelled_statement b ++ e ∷ y.spelled_statement n) i.1 i.3 (inner_phrase a 13 i.2)
      (inner_both (y.spelled_statement b) (e ∷ y.spelled_statement n) (inner_statement b false i.4)
      (inner_then e s.Else (y.spelled_statement n) i.6 (refl, refl) (inner_statement n false i.7))))
  inner_statement (y.while_do t o a c b) d i =
      inner_then t s.While (o ∷ (spelled a ++ c ∷ y.spelled_statement b)) i.0 (refl, refl)
      (inner_parens_then o c (spelled a) (y.spelled_statement b) i.1 i.3 (inner_phrase a 13 i.2) (inner_statement b false i.4))
  inner_statement (y.do_while t b w o a c e) d i =
      inner_then t s.Do (y.spelled_statement b ++ w ∷ o ∷ (spelled a ++ c ∷ e ∷ [])) i.0 (refl, refl)
      (inner_both (y.spelled_statement b) (w ∷ o ∷ (spelled a ++ c ∷ e ∷ [])) (inner_statement b false i.1)
      (inner_then w s.While (o ∷ (spelled a ++ c ∷ e ∷ [])) i.2 (refl, refl)
      (inner_parens_then o c (spelled a) (e ∷ []) i.3 i.5 (inner_phrase a 13 i.4) (inner_semicolon e i.6))))
  inner_statement (y.for_do t o start a e step c b) d i =
      inner_head t o e c (y.spelled_start start) (y.spelled_maybe a) (y.spelled_step step) (y.spelled_statement b) i.0 i.1
      (inner_start start i.2) (inner_maybe a i.3) i.4 (inner_step step i.5) i.6 (inner_statement b false i.7)
  inner_statement (y.leave t a e) d i =
      inner_then t s.Return (y.spelled_maybe a ++ e ∷ []) i.0 (refl, refl) (inner_both (y.spelled_maybe a) (e ∷ []) (inner_maybe a i.1) (inner_semicolon e i.2))
  inner_statement (y.jump t e) d i = inner_jump t e i.0 i.1

  pub inner_statements : (ys : y.StatementDerivations) → y.AreStatements ys → IsInner (y.spelled_statements ys)
  inner_statements y.nil i = inner_nil
  inner_statements (y.cons c cs) i =
      inner_both (y.spelled_statement c) (y.spelled_statements cs) (inner_statement c true i.0) (inner_statements cs i.1)
