-- The laws of the readers of variables.
use Rattle.std.proofs.Common.{◌≡◌, ◌≢◌, refl, ◌∙◌, ap, ℕ, suc, ◌+◌, ◌-◌, ◌≤◌, List, [], ◌∷◌, ◌++◌, length, Bool, true, false, not, ◌&&◌, Option, Some, None, arith}
use Rattle.std.proofs.lemmas.List.{append-nil}
use Rattle.std.proofs.lemmas.Bool.{and_parts, not-true, both_ways}
use Rattle.std.specs.Bool.{⊤}
use Rattle.pw_grammar.specs.declared.sort.Sort.{Sort}
use Rattle.pw_grammar.specs.declared.sort.Sort.TheVariants as s
use Rattle.pw_grammar.specs.Terminals.{sort, is_same}
use Rattle.pw_grammar.specs.Declarations as g
use Rattle.pw_grammar.specs.Reading.Steps.{sees}
use Rattle.pw_grammar.specs.Reading.Declarations as r
use Rattle.pw_grammar.proofs.Lawful.{Language, GoesOn, Lawful, Within, within, Pure, lawful_pure}
use Rattle.pw_grammar.proofs.Branches.{Keeps, keeps_pure, lawful_test, keeps_within, same_sorts}
use Rattle.pw_grammar.proofs.Parts.{Here, lawful_from, Then, lawful_then}
use Rattle.pw_grammar.proofs.Pieces.{Phrased, APhrase, WithPhrase, lawful_with_phrase, keeps_then_fewer, OneOf, lawful_one_of}
use Rattle.pw_grammar.proofs.LawfulTypes.{Is, no_end, right_bracket, left_brace, right_brace, semicolon, a_number}
use Rattle.pw_grammar.proofs.LawfulSimple.{number_starts}
use Rattle.pw_grammar.proofs.LawfulInitials.{value_of, lawful_initial, lawful_items}
use Rattle.pw_tree.specs.declared.ty.Ty.{Ty}
use Rattle.pw_tree.specs.declared.decl.InitItem.{InitItem}
use Rattle.pw_tree.specs.declared.decl.Linkage.{Linkage}
use Rattle.pw_tree.specs.declared.decl.DeclKind.{DeclKind}
use Rattle.pw_tree.specs.declared.decl.DeclKind.TheVariants as d
use Rattle.pw_lex.specs.declared.token.Token.{Token}

-- ---- an array's size, or nothing

abbrev Size : Type 0
Size = Option (Token × Token × Token)

abbrev IsSize : Size → Type 0
IsSize None = ⊤
IsSize (Some t) = g.IsExtent t.0 t.1 t.2

abbrev spelled_size : Size → List Token
spelled_size None = []
spelled_size (Some t) = t.0 ∷ t.1 ∷ t.2 ∷ []

abbrev count_at : ℕ → Size → Option ℕ
count_at at None = None
count_at at (Some t) = Some (value_of t.1)

abbrev ASize : Language (Option ℕ)
ASize = APhrase IsSize spelled_size count_at

abbrev ANumber : Language ℕ
ANumber = OneOf (λ x. x ≡ s.Number) value_of

number_goes_on : (at : ℕ) → GoesOn ANumber at []
number_goes_on at = record {
  rest = a_number.token ∷ [];
  value = value_of a_number.token;
  reads = λ x o. record { phrase = a_number.token; is = a_number.sort_is; spells = refl; value_is = refl };
  starts = λ e x o. number_starts x;
}

size_is : Within (Then (Is s.LeftBracket) (λ o. WithPhrase (λ (t : Token). sort t ≡ s.Number) (λ t. t ∷ []) (λ at t. value_of t) (λ n.
    Then (λ x. x ≡ s.RightBracket) (λ c. Pure (Some n))))) ASize
size_is at a u x o =
    let n = o.second in
    let c = n.second in
    record {
      phrase = Some (o.token, n.phrase, c.token);
      is = (same_sorts (sort o.token) s.LeftBracket o.sort_is, n.is, c.sort_is);
      spells = o.splits ∙ ap (λ v. o.token ∷ v) (n.splits ∙ ap (λ v. n.phrase ∷ v) (c.splits ∙ ap (λ v. c.token ∷ v) c.second.empty));
      value_is = c.second.is;
    }

size_goes_on : (at : ℕ) → GoesOn ASize at []
size_goes_on at = record
    { rest = []; value = None; reads = λ x o. record { phrase = None; is = tt; spells = refl; value_is = refl }; starts = λ e x o. o }

lawful_size : (n : ℕ) → Lawful n ASize r.maybe_size r.maybe_size
unfolding r.maybe_size r.size sees
lawful_size n = lawful_test (λ x. is_same x s.LeftBracket) n ASize _ _ _ _
    (keeps_within (Is s.LeftBracket) n _ ASize _ _ size_is (keeps_then_fewer (Is s.LeftBracket) n _ _ _ (no_end s.LeftBracket (λ z. cc))
    (λ o. lawful_with_phrase (n - 1) _ _ _ _ _ _ _ _
    (lawful_one_of (n - 1) (λ x. is_same x s.Number) (λ x. x ≡ s.Number) value_of (λ x e. same_sorts x s.Number e) (no_end s.Number (λ z. cc)) number_goes_on)
    (λ m. lawful_then (n - 1) s.RightBracket _ _ _ right_bracket (λ c. lawful_pure (n - 1) (Some m))))))
    (keeps_pure (λ x. is_same x s.LeftBracket ≡ false) n ASize None (λ at x h. record { phrase = None; is = tt; spells = refl; value_is = refl }))
    size_goes_on

-- ---- an initialiser, or nothing

data Initial : Type 0 where
  absent : Initial
  single : Token → g.ElementDerivation → Initial
  listed : Token → Token → g.ElementDerivation → g.MoreElements → Token → Initial

abbrev IsInitial : Linkage → Option ℕ → Initial → Type 0
IsInitial linkage count absent = ⊤
IsInitial linkage count (single q x) = (r.is_extern linkage ≡ false) × (count ≡ None) × (sort q ≡ s.Assign) × g.IsElement x
IsInitial linkage count (listed q b x xs e) =
    (r.is_extern linkage ≡ false) × (count ≢ None) × (sort q ≡ s.Assign) × (sort b ≡ s.LeftBrace) × g.IsElement x × g.AreMoreElements xs × (sort e ≡ s.RightBrace)

abbrev spelled_initial : Initial → List Token
spelled_initial absent = []
spelled_initial (single q x) = q ∷ g.spelled_element x
spelled_initial (listed q b x xs e) = q ∷ b ∷ (g.spelled_element x ++ (g.spelled_more_elements xs ++ e ∷ []))

abbrev items_at : ℕ → Initial → Option (List InitItem)
items_at at absent = None
items_at at (single q x) = Some (g.element_of (suc at) x ∷ [])
items_at at (listed q b x xs e) =
    Some (g.element_of (suc (suc at)) x ∷ g.more_elements_of (suc (suc at) + length (g.spelled_element x)) xs)

abbrev AnInitial : Linkage → Option ℕ → Language (Option (List InitItem))
AnInitial linkage count = APhrase (IsInitial linkage count) spelled_initial items_at

-- `=` comes, and the storage class lets it
abbrev may_have : Linkage → Sort → Bool
may_have linkage x = is_same x s.Assign && not (r.is_extern linkage)

may_have_is : (linkage : Linkage) (x : Sort) → may_have linkage x ≡ true → (x ≡ s.Assign) × (r.is_extern linkage ≡ false)
may_have_is linkage x e =
    let p = and_parts (is_same x s.Assign) (not (r.is_extern linkage)) e in
    (same_sorts x s.Assign p.0, not-true (r.is_extern linkage) p.1)

single_is : (linkage : Linkage) →
    Within (Then (λ x. may_have linkage x ≡ true) (λ q. WithPhrase g.IsElement g.spelled_element g.element_of (λ x. Pure (Some (x ∷ [])))))
    (AnInitial linkage None)
single_is linkage at a u x q =
    let y = q.second in
    let may = may_have_is linkage (sort q.token) q.sort_is in
    record {
      phrase = single q.token y.phrase;
      is = (may.1, refl, may.0, y.is);
      spells = q.splits ∙ ap (λ v. q.token ∷ v) (y.splits ∙ (ap (λ v. g.spelled_element y.phrase ++ v) y.second.empty ∙ append-nil (g.spelled_element y.phrase)));
      value_is = y.second.is;
    }

listed_is : (linkage : Linkage) (count : ℕ) →
    Within (Then (λ x. may_have linkage x ≡ true) (λ q. Then (λ x. x ≡ s.LeftBrace) (λ b.
    WithPhrase g.IsElement g.spelled_element g.element_of (λ x. WithPhrase g.AreMoreElements g.spelled_more_elements (λ at xs. (x ∷ []) ++ g.more_elements_of at xs) (λ xs.
    Then (λ x. x ≡ s.RightBrace) (λ e. Pure (Some xs))))))) (AnInitial linkage (Some count))
listed_is linkage count at a u x q =
    let b = q.second in
    let y = b.second in
    let ys = y.second in
    let e = ys.second in
    let may = may_have_is linkage (sort q.token) q.sort_is in
    record {
      phrase = listed q.token b.token y.phrase ys.phrase e.token;
      is = (may.1, (λ z. cc), may.0, b.sort_is, y.is, ys.is, e.sort_is);
      spells = q.splits ∙ ap (λ v. q.token ∷ v) (b.splits ∙ ap (λ v. b.token ∷ v) (y.splits ∙ ap (λ v. g.spelled_element y.phrase ++ v)
          (ys.splits ∙ ap (λ v. g.spelled_more_elements ys.phrase ++ v) (e.splits ∙ ap (λ v. e.token ∷ v) e.second.empty))));
      value_is = e.second.is;
    }

end_has_none : (linkage : Linkage) → may_have linkage s.End ≡ true → ⊥
end_has_none linkage e = no_assign (may_have_is linkage s.End e).0
  where
    no_assign : s.End ≡ s.Assign → ⊥
    no_assign e = cc

keeps_initials : (m n : ℕ) → n ≤ m → (linkage : Linkage) (count : Option ℕ)
    → Keeps (λ x. may_have linkage x ≡ true) n (AnInitial linkage count) (r.initials_by m count) (r.initials_by (suc m) count)
unfolding r.one_initial r.listed_initials
keeps_initials m n small linkage None = keeps_within (λ x. may_have linkage x ≡ true) n _ (AnInitial linkage None) _ _ (single_is linkage)
    (keeps_then_fewer (λ x. may_have linkage x ≡ true) n _ _ _ (end_has_none linkage)
    (λ q. lawful_with_phrase (n - 1) g.IsElement g.spelled_element g.element_of _ _ _ _ _ (lawful_initial (n - 1)) (λ x. lawful_pure (n - 1) (Some (x ∷ [])))))
keeps_initials m n small linkage (Some count) = keeps_within (λ x. may_have linkage x ≡ true) n _ (AnInitial linkage (Some count)) _ _ (listed_is linkage count)
    (keeps_then_fewer (λ x. may_have linkage x ≡ true) n _ _ _ (end_has_none linkage)
    (λ q. lawful_then (n - 1) s.LeftBrace _ _ _ left_brace
    (λ b. lawful_with_phrase (n - 1) g.IsElement g.spelled_element g.element_of _ _ _ _ _ (lawful_initial (n - 1))
    (λ x. lawful_with_phrase (n - 1) g.AreMoreElements g.spelled_more_elements (λ at xs. (x ∷ []) ++ g.more_elements_of at xs) _ _ _ _ _
    (lawful_items m (n - 1) (omega arith) (x ∷ []))
    (λ xs. lawful_then (n - 1) s.RightBrace _ _ _ right_brace (λ e. lawful_pure (n - 1) (Some xs)))))))

lawful_initials : (m n : ℕ) → n ≤ m → (linkage : Linkage) (count : Option ℕ)
    → Lawful n (AnInitial linkage count) (r.maybe_initials m linkage count) (r.maybe_initials (suc m) linkage count)
unfolding r.maybe_initials sees
lawful_initials m n small linkage count = lawful_test (may_have linkage) n (AnInitial linkage count) _ _ _ _
    (keeps_initials m n small linkage count)
    (keeps_pure (λ x. may_have linkage x ≡ false) n (AnInitial linkage count) None (λ at x h. record { phrase = absent; is = tt; spells = refl; value_is = refl }))
    (λ at. record { rest = []; value = None; reads = λ x o. record { phrase = absent; is = tt; spells = refl; value_is = refl }; starts = λ e x o. o })

-- ---- variables, after the name

-- what a declarator's last token is, and what it declares
abbrev pub Declared : Type 0
Declared = ℕ × DeclKind

abbrev pub Ended : Type 0
Ended = g.VariableDerivation × Token

abbrev pub IsEnded : Linkage → Ended → Type 0
IsEnded linkage v = g.IsSizeAndInitialiser v.0 × (r.is_extern linkage ≡ true → g.HasNoValue v.0) × (sort v.1 ≡ s.Semicolon)

abbrev pub spelled_ended : Ended → List Token
spelled_ended v = g.spelled_variable v.0 ++ v.1 ∷ []

abbrev pub declared_at : Ty → ℕ → Ended → Declared
declared_at ty at v = (at + g.extent v.0 - 1, d.Var ty (g.count_in v.0) (g.elements_of at v.0))

abbrev pub AVariable : Linkage → Ty → Language Declared
AVariable linkage ty = APhrase (IsEnded linkage) spelled_ended (declared_at ty)

variable_by : (linkage : Linkage) (ty : Ty) (at : ℕ) (a : Declared) (u : List Token) (n : Size) (y : Initial) (e : Token)
    → IsSize n → IsInitial linkage (count_at at n) y → sort e ≡ s.Semicolon → u ≡ spelled_size n ++ (spelled_initial y ++ e ∷ [])
    → a ≡ (at + length (spelled_size n) - 1, d.Var ty (count_at at n) (items_at (at + length (spelled_size n)) y))
    → Phrased (IsEnded linkage) spelled_ended (declared_at ty) at a u
variable_by linkage ty at a u None absent e n_is y_is e_is f z = record
    { phrase = (g.scalar, e); is = (tt, (λ h. tt), e_is); spells = f; value_is = z }
variable_by linkage ty at a u None (single q x) e n_is y_is e_is f z = record {
  phrase = (g.scalar_set q x, e);
  is = ((y_is.2, y_is.3), (λ h. both_ways (r.is_extern linkage) y_is.0 h), e_is);
  spells = f;
  value_is = z ∙ ap (λ n. (at + 0 - 1, d.Var ty None (Some (g.element_of n x ∷ [])))) (let c : suc (at + 0) ≡ at + 1 = omega arith in c);
}
variable_by linkage ty at a u None (listed q b x xs c) e n_is y_is e_is f z = absurd (y_is.1 refl)
variable_by linkage ty at a u (Some t) absent e n_is y_is e_is f z = record
    { phrase = (g.array t.0 t.1 t.2, e); is = (n_is, (λ h. tt), e_is); spells = f; value_is = z }
variable_by linkage ty at a u (Some t) (single q x) e n_is y_is e_is f z = absurd (no_some (value_of t.1) y_is.1)
  where
    no_some : (n : ℕ) → Some n ≡ None → ⊥
    no_some n e = cc
variable_by linkage ty at a u (Some t) (listed q b x xs c) e n_is y_is e_is f z = record {
  phrase = (g.array_set t.0 t.1 t.2 q b x xs c, e);
  is = ((n_is, y_is.2, y_is.3, y_is.4, y_is.5, y_is.6), (λ h. both_ways (r.is_extern linkage) y_is.0 h), e_is);
  spells = f;
  value_is = z ∙ ap (λ n. (at + 3 - 1, d.Var ty (Some (value_of t.1)) (Some (g.element_of n x ∷ g.more_elements_of (n + length (g.spelled_element x)) xs))))
      (let c : suc (suc (at + 3)) ≡ at + 5 = omega arith in c);
}

variable_is : (linkage : Linkage) (ty : Ty) → Within (WithPhrase IsSize spelled_size count_at (λ count. Here (λ at.
    WithPhrase (IsInitial linkage count) spelled_initial items_at (λ xs. Then (λ x. x ≡ s.Semicolon) (λ e. Pure (at - 1, d.Var ty count xs)))))) (AVariable linkage ty)
variable_is linkage ty at a u x n =
    let y = n.second in
    let e = y.second in
    variable_by linkage ty at a u n.phrase y.phrase e.token n.is y.is e.sort_is
    (n.splits ∙ ap (λ v. spelled_size n.phrase ++ v) (y.splits ∙ ap (λ v. spelled_initial y.phrase ++ v) (e.splits ∙ ap (λ v. e.token ∷ v) e.second.empty)))
    e.second.is

pub lawful_variable : (m n : ℕ) → n ≤ m → (linkage : Linkage) (ty : Ty) →
    Lawful n (AVariable linkage ty) (r.variable m linkage ty) (r.variable (suc m) linkage ty)
unfolding r.variable r.last_taken
lawful_variable m n small linkage ty = within (variable_is linkage ty) (lawful_with_phrase n IsSize spelled_size count_at _ _ _ _ _ (lawful_size n)
    (λ count. lawful_from n _ _ _
    (λ at. lawful_with_phrase n (IsInitial linkage count) spelled_initial items_at _ _ _ _ _ (lawful_initials m n small linkage count)
    (λ xs. lawful_then n s.Semicolon _ _ _ semicolon (λ e. lawful_pure n (at - 1, d.Var ty count xs))))))
