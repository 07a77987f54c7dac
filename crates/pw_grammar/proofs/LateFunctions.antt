-- The walk outside brackets: over the head of a declaration, over brackets, and over a function's body.
use Rattle.std.proofs.Common.{◌≡◌, refl, sym, ◌∙◌, ap, subst, ℕ, suc, ◌+◌, ◌-◌, ◌<◌, ◌≤◌, List, [], ◌∷◌, ◌++◌, length, ◌⊎◌, inl, inr, Bool, true, false, if◌then◌else◌, ◌&&◌, ◌||◌, ◌==◌, nat_le, Option, Some, None, arith}
use Rattle.std.proofs.lemmas.List.{append_assoc, length-append}
use Rattle.std.proofs.lemmas.Bool.{le-leb, lt-leb}
use Rattle.std.proofs.Math.Nat.{add_assoc}
use Rattle.std.specs.Prelude.{max}
use Rattle.pw_grammar.specs.declared.sort.Sort.{Sort}
use Rattle.pw_grammar.specs.declared.sort.Sort.TheVariants as s
use Rattle.pw_grammar.specs.Terminals.{sort, is_same}
use Rattle.pw_grammar.specs.Expressions.{IsConstantSymbol}
use Rattle.pw_grammar.specs.Statements as y
use Rattle.pw_grammar.specs.Declarations as d
use Rattle.pw_grammar.specs.Faults.{opens_by, closes_by}
use Rattle.pw_grammar.specs.Reading.Limits.{Walk, anew, first_late}
use Rattle.pw_grammar.proofs.Lawful.{near_or_far}
use Rattle.pw_grammar.proofs.Late.{within_brackets, IsInner, inner_nil, inner_token, inner_both}
use Rattle.pw_grammar.proofs.Inner.{nothing_is, plain_constant, inner_one, inner_then, inner_type}
use Rattle.pw_lex.specs.declared.token.Token.{Token}
use Rattle.pw_tree.specs.declared.ty.Ty.{Ty}

-- ---- the walk by the next token's symbol alone

abbrev pub bracket_on : ℕ → Sort → ℕ
bracket_on n x = if opens_by x then suc n else (if closes_by x then n - 1 else n)

abbrev pub inside_on : Walk → Sort → Bool
inside_on w x = w.in_body || (is_same x s.LeftBrace && w.depth == 0 && w.behind_list)

abbrev pub last_on : Walk → Sort → Bool
last_on w x = bracket_on w.depth x == 0 && (is_same x s.Semicolon || (is_same x s.RightBrace && w.in_body))

abbrev pub onward_on : Walk → Sort → Walk
onward_on w x = record {
  at = suc w.at;
  depth = bracket_on w.depth x;
  start = w.start;
  in_body = inside_on w x;
  behind_list = is_same x s.RightParen && bracket_on w.depth x == 0;
}

abbrev pub step_on : Walk → Sort → Walk
step_on w x = if last_on w x then anew (suc w.at) else onward_on w x

abbrev pub late_on : Walk → Sort → Bool
late_on w x = inside_on w x && nat_le (w.start + 8192) w.at

abbrev pub first_on : Walk → Sort → List Token → Option ℕ
first_on w x v = if late_on w x then Some w.at else first_late (step_on w x) v

-- a token whose symbol is known
pub on_sort : (w : Walk) (t : Token) (z : Sort) (v : List Token) → sort t ≡ z → first_late w (t ∷ v) ≡ first_on w z v
unfolding first_late Rattle.pw_grammar.specs.Reading.Limits.step
on_sort w t z v e = ap (λ x. first_on w x v) e

-- ---- outside brackets

-- outside brackets and before a body, after a `)` or not
abbrev pub after : ℕ → ℕ → Bool → Walk
after at start list = record { at = at; depth = 0; start = start; in_body = false; behind_list = list }

-- tokens that leave the walk outside brackets
pub record IsOuter (u : List Token) : Type 0 where
  pub passes : (at start : ℕ) (v : List Token) →
      first_late (after at start false) (u ++ v) ≡ first_late (after (at + length u) start false) v

pub outer_nil : IsOuter []
outer_nil = record { passes = λ at start v. ap (λ m. first_late (after m start false) v) (let e : at ≡ at + 0 = omega arith in e) }

pub outer_both : (u v : List Token) → IsOuter u → IsOuter v → IsOuter (u ++ v)
outer_both u v a b = record {
  passes = λ at start w.
      ap (λ z. first_late (after at start false) z) (append_assoc u v w)
      ∙ (a.passes at start (v ++ w)
      ∙ (b.passes (at + length u) start w
      ∙ ap (λ k. first_late (after k start false) w) (add_assoc at (length u) (length v) ∙ ap (λ k. at + k) (sym (length-append u v)))));
}

-- a symbol that leaves the walk outside brackets
abbrev pub IsOuterSort : Sort → Type 0
IsOuterSort x = (at start : ℕ) (v : List Token) → first_on (after at start false) x v ≡ first_late (after (suc at) start false) v

pub outer_token : (t : Token) → IsOuterSort (sort t) → IsOuter (t ∷ [])
outer_token t o = record {
  passes = λ at start v. on_sort (after at start false) t (sort t) v refl
      ∙ (o at start v ∙ ap (λ k. first_late (after k start false) v) (let e : suc at ≡ at + 1 = omega arith in e));
}

pub outer_one : (t : Token) (z : Sort) → sort t ≡ z → IsOuterSort z → IsOuter (t ∷ [])
outer_one t z e o = outer_token t (subst (λ x. IsOuterSort x) (sym e) o)

pub outer_then : (t : Token) (z : Sort) (u : List Token) → sort t ≡ z → IsOuterSort z → IsOuter u → IsOuter (t ∷ u)
outer_then t z u e o outer = outer_both (t ∷ []) u (outer_one t z e o) outer

outer_name : IsOuterSort s.Name
unfolding is_same
outer_name at start v = refl

outer_assign : IsOuterSort s.Assign
unfolding is_same
outer_assign at start v = refl

outer_minus : IsOuterSort s.Minus
unfolding is_same
outer_minus at start v = refl

outer_void : IsOuterSort s.Void
unfolding is_same
outer_void at start v = refl

outer_extern : IsOuterSort s.Extern
unfolding is_same
outer_extern at start v = refl

outer_static : IsOuterSort s.Static
unfolding is_same
outer_static at start v = refl

outer_long : IsOuterSort s.Long
unfolding is_same
outer_long at start v = refl

outer_unsigned : IsOuterSort s.Unsigned
unfolding is_same
outer_unsigned at start v = refl

outer_number : IsOuterSort s.Number
unfolding is_same
outer_number at start v = refl

outer_character : IsOuterSort s.Character
unfolding is_same
outer_character at start v = refl

outer_type_sort : (x : Sort) (ty : Ty) → y.type_of_keyword x ≡ Some ty → IsOuterSort x
unfolding is_same
outer_type_sort s.LeftParen ty e at start v = absurd (nothing_is ty e)
outer_type_sort s.RightParen ty e at start v = absurd (nothing_is ty e)
outer_type_sort s.LeftBrace ty e at start v = absurd (nothing_is ty e)
outer_type_sort s.RightBrace ty e at start v = absurd (nothing_is ty e)
outer_type_sort s.LeftBracket ty e at start v = absurd (nothing_is ty e)
outer_type_sort s.RightBracket ty e at start v = absurd (nothing_is ty e)
outer_type_sort s.Semicolon ty e at start v = absurd (nothing_is ty e)
outer_type_sort _ ty e at start v = refl

-- ---- brackets, from outside

opens_paren : (at start : ℕ) (v : List Token) →
    first_on (after at start false) s.LeftParen v ≡ first_late (within_brackets (suc at) 0 start false) v
unfolding is_same
opens_paren at start v = refl

opens_square : (at start : ℕ) (v : List Token) →
    first_on (after at start false) s.LeftBracket v ≡ first_late (within_brackets (suc at) 0 start false) v
unfolding is_same
opens_square at start v = refl

opens_brace : (at start : ℕ) (v : List Token) →
    first_on (after at start false) s.LeftBrace v ≡ first_late (within_brackets (suc at) 0 start false) v
unfolding is_same
opens_brace at start v = refl

closes_paren : (at start : ℕ) (v : List Token) →
    first_on (within_brackets at 0 start false) s.RightParen v ≡ first_late (after (suc at) start true) v
unfolding is_same
closes_paren at start v = refl

closes_square : (at start : ℕ) (v : List Token) →
    first_on (within_brackets at 0 start false) s.RightBracket v ≡ first_late (after (suc at) start false) v
unfolding is_same
closes_square at start v = refl

closes_brace : (at start : ℕ) (v : List Token) →
    first_on (within_brackets at 0 start false) s.RightBrace v ≡ first_late (after (suc at) start false) v
unfolding is_same
closes_brace at start v = refl

-- the end of a declaration, and a body's braces
pub ends : (at start : ℕ) (list : Bool) (v : List Token) →
    first_on (after at start list) s.Semicolon v ≡ first_late (anew (suc at)) v
unfolding is_same
ends at start list v = refl

begins_body : (at start : ℕ) (v : List Token) → first_on (after at start true) s.LeftBrace v
    ≡ (if nat_le (start + 8192) at then Some at else first_late (within_brackets (suc at) 0 start true) v)
unfolding is_same
begins_body at start v = refl

ends_body : (at start : ℕ) (v : List Token) → first_on (within_brackets at 0 start true) s.RightBrace v
    ≡ (if nat_le (start + 8192) at then Some at else first_late (anew (suc at)) v)
unfolding is_same
ends_body at start v = refl

-- brackets outside the body, whatever their closing one leaves
brackets_outside : (o c : Token) (a z : Sort) (list : Bool) (u v : List Token) (at start : ℕ) → sort o ≡ a → sort c ≡ z
    → ((at start : ℕ) (v : List Token) → first_on (after at start false) a v ≡ first_late (within_brackets (suc at) 0 start false) v)
    → ((at start : ℕ) (v : List Token) → first_on (within_brackets at 0 start false) z v ≡ first_late (after (suc at) start list) v)
    → IsInner u → first_late (after at start false) (o ∷ (u ++ c ∷ v)) ≡ first_late (after (suc (suc at + length u)) start list) v
brackets_outside o c a z list u v at start e f begins closes inner =
    on_sort (after at start false) o a (u ++ c ∷ v) e
    ∙ (begins at start (u ++ c ∷ v)
    ∙ (inner.passes (suc at) 0 start false (c ∷ v) (inl refl)
    ∙ (on_sort (within_brackets (suc at + length u) 0 start false) c z v f
    ∙ closes (suc at + length u) start v)))

bracket_count : (at : ℕ) (o c : Token) (u : List Token) → suc (suc at + length u) ≡ at + length (o ∷ (u ++ c ∷ []))
bracket_count at o c u = bracket_sum at (length u) (length (u ++ c ∷ [])) (length-append u (c ∷ []))
  where
    bracket_sum : (at n m : ℕ) → m ≡ n + 1 → suc (suc at + n) ≡ at + suc m
    bracket_sum at n m e = omega arith

pub outer_square : (o c : Token) (u : List Token) → sort o ≡ s.LeftBracket → sort c ≡ s.RightBracket → IsInner u →
    IsOuter (o ∷ (u ++ c ∷ []))
outer_square o c u e f inner = record {
  passes = λ at start v.
      ap (λ z. first_late (after at start false) (o ∷ z)) (append_assoc u (c ∷ []) v)
      ∙ (brackets_outside o c s.LeftBracket s.RightBracket false u v at start e f opens_square closes_square inner
      ∙ ap (λ k. first_late (after k start false) v) (bracket_count at o c u));
}

pub outer_braces : (o c : Token) (u : List Token) → sort o ≡ s.LeftBrace → sort c ≡ s.RightBrace → IsInner u →
    IsOuter (o ∷ (u ++ c ∷ []))
outer_braces o c u e f inner = record {
  passes = λ at start v.
      ap (λ z. first_late (after at start false) (o ∷ z)) (append_assoc u (c ∷ []) v)
      ∙ (brackets_outside o c s.LeftBrace s.RightBrace false u v at start e f opens_brace closes_brace inner
      ∙ ap (λ k. first_late (after k start false) v) (bracket_count at o c u));
}

-- ---- parts of declarations

pub outer_type : (ty : y.TypeDerivation) → y.IsType ty → IsOuter (y.spelled_type ty)
outer_type (y.word t) i = outer_token t (outer_type_sort (sort t) i.0 i.1)
outer_type (y.unsigned u l) i = outer_then u s.Unsigned (l ∷ []) i.0 outer_unsigned (outer_one l s.Long i.1 outer_long)

pub outer_result : (r : d.ResultDerivation) → d.IsResult r → IsOuter (d.spelled_result r)
outer_result (d.nothing t) i = outer_one t s.Void i outer_void
outer_result (d.value ty) i = outer_type ty i

extern_or_static : (t : Token) → (sort t ≡ s.Extern) ⊎ (sort t ≡ s.Static) → IsOuter (t ∷ [])
extern_or_static t (inl e) = outer_one t s.Extern e outer_extern
extern_or_static t (inr e) = outer_one t s.Static e outer_static

pub outer_storage : (g : Option Token) → d.IsStorage g → IsOuter (d.spelled_storage g)
outer_storage None i = outer_nil
outer_storage (Some t) i = extern_or_static t i

pub defining_storage : (g : Option Token) → d.IsDefining g → d.IsStorage g
defining_storage None i = i
defining_storage (Some t) i = inr i

valued_storage : (t : Token) (v : d.VariableDerivation) → (sort t ≡ s.Static) ⊎ ((sort t ≡ s.Extern) × d.HasNoValue v) →
    (sort t ≡ s.Extern) ⊎ (sort t ≡ s.Static)
valued_storage t v (inl e) = inr e
valued_storage t v (inr e) = inl e.0

pub variable_storage : (g : Option Token) (v : d.VariableDerivation) → d.MayHave g v → d.IsStorage g
variable_storage None v i = i
variable_storage (Some t) v i = valued_storage t v i

inner_name : (x : Option Token) → d.IsNamed x → IsInner (d.spelled_name x)
inner_name None i = inner_nil
inner_name (Some t) i = inner_one t s.Name i (refl, refl)

pub inner_parameter : (p : d.ParameterDerivation) → d.IsParameter p → IsInner (d.spelled_parameter p)
inner_parameter p i = inner_both (y.spelled_type p.ty) (d.spelled_name p.name) (inner_type p.ty i.0) (inner_name p.name i.1)

inner_more_parameters : (ps : d.MoreParameters) → d.AreMoreParameters ps → IsInner (d.spelled_more_parameters ps)
unfolding d.spelled_more_parameters d.AreMoreParameters
inner_more_parameters d.end i = inner_nil
inner_more_parameters (d.more t p ps) i =
    inner_then t s.Comma (d.spelled_parameter p ++ d.spelled_more_parameters ps) i.0 (refl, refl)
    (inner_both (d.spelled_parameter p) (d.spelled_more_parameters ps) (inner_parameter p i.1) (inner_more_parameters ps i.2))

pub inner_parameters : (ps : d.ParametersDerivation) → d.AreParameters ps → IsInner (d.spelled_parameters ps)
inner_parameters (d.none t) i = inner_one t s.Void i (refl, refl)
inner_parameters (d.some p ps) i =
    inner_both (d.spelled_parameter p) (d.spelled_more_parameters ps) (inner_parameter p i.0) (inner_more_parameters ps i.1)

pub inner_element : (x : d.ElementDerivation) → d.IsElement x → IsInner (d.spelled_element x)
inner_element (d.word t) i = inner_one t s.Name i (refl, refl)
inner_element (d.positive t) i = inner_token t (plain_constant (sort t) i)
inner_element (d.negative m t) i = inner_then m s.Minus (t ∷ []) i.0 (refl, refl) (inner_token t (plain_constant (sort t) i.1))

pub inner_more_elements : (xs : d.MoreElements) → d.AreMoreElements xs → IsInner (d.spelled_more_elements xs)
unfolding d.spelled_more_elements d.AreMoreElements
inner_more_elements d.end i = inner_nil
inner_more_elements (d.comma t) i = inner_one t s.Comma i (refl, refl)
inner_more_elements (d.more t x xs) i =
    inner_then t s.Comma (d.spelled_element x ++ d.spelled_more_elements xs) i.0 (refl, refl)
    (inner_both (d.spelled_element x) (d.spelled_more_elements xs) (inner_element x i.1) (inner_more_elements xs i.2))

outer_constant : (t : Token) → IsConstantSymbol (sort t) → IsOuter (t ∷ [])
outer_constant t (inl e) = outer_one t s.Number e outer_number
outer_constant t (inr e) = outer_one t s.Character e outer_character

outer_element : (x : d.ElementDerivation) → d.IsElement x → IsOuter (d.spelled_element x)
outer_element (d.word t) i = outer_one t s.Name i outer_name
outer_element (d.positive t) i = outer_constant t i
outer_element (d.negative m t) i = outer_then m s.Minus (t ∷ []) i.0 outer_minus (outer_constant t i.1)

outer_extent : (o n c : Token) → d.IsExtent o n c → IsOuter (o ∷ n ∷ c ∷ [])
outer_extent o n c i = outer_square o c (n ∷ []) i.0 i.2 (inner_one n s.Number i.1 (refl, refl))

-- the elements with their braces
outer_elements : (b e : Token) (u v : List Token) → sort b ≡ s.LeftBrace → sort e ≡ s.RightBrace → IsInner u → IsInner v →
    IsOuter (b ∷ (u ++ (v ++ e ∷ [])))
outer_elements b e u v b_is e_is i j =
    subst (λ w. IsOuter (b ∷ w)) (append_assoc u v (e ∷ [])) (outer_braces b e (u ++ v) b_is e_is (inner_both u v i j))

pub outer_variable : (v : d.VariableDerivation) → d.IsSizeAndInitialiser v → IsOuter (d.spelled_variable v)
outer_variable d.scalar i = outer_nil
outer_variable (d.scalar_set q x) i = outer_then q s.Assign (d.spelled_element x) i.0 outer_assign (outer_element x i.1)
outer_variable (d.array o n c) i = outer_extent o n c i
outer_variable (d.array_set o n c q b x xs e) i =
    outer_both (o ∷ n ∷ c ∷ []) (q ∷ b ∷ (d.spelled_element x ++ (d.spelled_more_elements xs ++ e ∷ []))) (outer_extent o n c i.0)
    (outer_then q s.Assign (b ∷ (d.spelled_element x ++ (d.spelled_more_elements xs ++ e ∷ []))) i.1 outer_assign
    (outer_elements b e (d.spelled_element x) (d.spelled_more_elements xs) i.2 i.5 (inner_element x i.3) (inner_more_elements xs i.4)))

-- ---- the head of a function or of a prototype

-- what stands before the parameters' bracket
pub outer_head : (u v : List Token) (x : Token) → IsOuter u → IsOuter v → sort x ≡ s.Name → IsOuter (u ++ (v ++ x ∷ []))
outer_head u v x a b e = outer_both u (v ++ x ∷ []) a (outer_both v (x ∷ []) b (outer_one x s.Name e outer_name))

pub passes_head : (h ps z : List Token) (o c : Token) (at start : ℕ) → IsOuter h → sort o ≡ s.LeftParen → IsInner ps →
    sort c ≡ s.RightParen
    → first_late (after at start false) (h ++ o ∷ (ps ++ c ∷ z)) ≡ first_late (after (at + (length h + length ps + 2)) start true) z
passes_head h ps z o c at start outer o_is inner c_is =
    outer.passes at start (o ∷ (ps ++ c ∷ z))
    ∙ (brackets_outside o c s.LeftParen s.RightParen true ps z (at + length h) start o_is c_is opens_paren closes_paren inner
    ∙ ap (λ k. first_late (after k start true) z) (head_sum at (length h) (length ps)))
  where
    head_sum : (at n m : ℕ) → suc (suc (at + n) + m) ≡ at + (n + m + 2)
    head_sum at n m = omega arith

-- ---- a function's body

not_late : (at start : ℕ) (v w : Option ℕ) → suc at ≤ start + 8192 → (if nat_le (start + 8192) at then v else w) ≡ w
not_late at start v w e = ap (λ b. if b then v else w) (lt-leb (start + 8192) at e)

is_late_now : (at start : ℕ) (v w : Option ℕ) → start + 8192 ≤ at → (if nat_le (start + 8192) at then v else w) ≡ v
is_late_now at start v w e = ap (λ b. if b then v else w) (le-leb (start + 8192) at e)

-- within 8,192 tokens it is passed
pub passes_body : (b e : Token) (body v : List Token) (at start : ℕ) → sort b ≡ s.LeftBrace → IsInner body →
    sort e ≡ s.RightBrace
    → suc (suc at + length body) ≤ start + 8192
    → first_late (after at start true) (b ∷ (body ++ e ∷ v)) ≡ first_late (anew (suc (suc at + length body))) v
passes_body b e body v at start b_is inner e_is short =
    on_sort (after at start true) b s.LeftBrace (body ++ e ∷ v) b_is
    ∙ (begins_body at start (body ++ e ∷ v)
    ∙ (not_late at start (Some at) (first_late (within_brackets (suc at) 0 start true) (body ++ e ∷ v)) (omega arith)
    ∙ (inner.passes (suc at) 0 start true (e ∷ v) (inr (omega arith))
    ∙ (on_sort (within_brackets (suc at + length body) 0 start true) e s.RightBrace v e_is
    ∙ (ends_body (suc at + length body) start v
    ∙ not_late (suc at + length body) start (Some (suc at + length body)) (first_late (anew (suc (suc at + length body))) v) short)))))

-- a body that begins in time and is not over then: its first token after 8,192 others is found
found_behind : (e : Token) (body v : List Token) (at start : ℕ) → IsInner body → sort e ≡ s.RightBrace
    → at ≤ start + 8192 → start + 8192 ≤ at + length body → (at + length body ≤ start + 8192) ⊎ (start + 8192 < at + length body)
    → first_late (within_brackets at 0 start true) (body ++ e ∷ v) ≡ Some (start + 8192)
found_behind e body v at start inner e_is low high (inl near) =
    inner.passes at 0 start true (e ∷ v) (inr near)
    ∙ (on_sort (within_brackets (at + length body) 0 start true) e s.RightBrace v e_is
    ∙ (ends_body (at + length body) start v
    ∙ (is_late_now (at + length body) start (Some (at + length body)) (first_late (anew (suc (at + length body))) v) high
    ∙ ap Some (let z : at + length body ≡ start + 8192 = omega arith in z))))
found_behind e body v at start inner e_is low high (inr far) = inner.finds at 0 start (e ∷ v) low far

found_in_body : (b e : Token) (body v : List Token) (at start : ℕ) → sort b ≡ s.LeftBrace → IsInner body → sort e ≡ s.RightBrace
    → start + 8192 < suc (suc at + length body) → (suc at ≤ start + 8192) ⊎ (start + 8192 < suc at)
    → first_late (after at start true) (b ∷ (body ++ e ∷ v)) ≡ Some (max at (start + 8192))
found_in_body b e body v at start b_is inner e_is long (inl near) =
    on_sort (after at start true) b s.LeftBrace (body ++ e ∷ v) b_is
    ∙ (begins_body at start (body ++ e ∷ v)
    ∙ (not_late at start (Some at) (first_late (within_brackets (suc at) 0 start true) (body ++ e ∷ v)) near
    ∙ (found_behind e body v (suc at) start inner e_is near (omega arith) (near_or_far (suc at + length body) (start + 8192))
    ∙ ap Some (let z : start + 8192 ≡ max at (start + 8192) = omega arith in z))))
found_in_body b e body v at start b_is inner e_is long (inr far) =
    on_sort (after at start true) b s.LeftBrace (body ++ e ∷ v) b_is
    ∙ (begins_body at start (body ++ e ∷ v)
    ∙ (is_late_now at start (Some at) (first_late (within_brackets (suc at) 0 start true) (body ++ e ∷ v)) (omega arith)
    ∙ ap Some (let z : at ≡ max at (start + 8192) = omega arith in z)))

-- else its first token after 8,192 others of the function is found
pub finds_body : (b e : Token) (body v : List Token) (at start : ℕ) → sort b ≡ s.LeftBrace → IsInner body →
    sort e ≡ s.RightBrace
    → start + 8192 < suc (suc at + length body)
    → first_late (after at start true) (b ∷ (body ++ e ∷ v)) ≡ Some (max at (start + 8192))
finds_body b e body v at start b_is inner e_is long = found_in_body b e body v at start b_is inner e_is long (near_or_far (suc at) (start + 8192))
