-- The laws of the readers of initialisers.
use Rattle.std.proofs.Common.{◌≡◌, refl, sym, ◌∙◌, ap, ℕ, zero, suc, ◌+◌, ◌-◌, ◌<◌, ◌≤◌, List, [], ◌∷◌, ◌++◌, length, inl, inr, Ok, Bool, true, false, ◌||◌, Option, Some, None, arith}
use Rattle.std.proofs.lemmas.List.{append-nil, append_assoc}
use Rattle.std.specs.Bool.{⊤}
use Rattle.pw_grammar.specs.declared.sort.Sort.{Sort}
use Rattle.pw_grammar.specs.declared.sort.Sort.TheVariants as s
use Rattle.pw_grammar.specs.Terminals.{sort, is_same}
use Rattle.pw_grammar.specs.Expressions.{value_in, IsConstantSymbol}
use Rattle.pw_grammar.specs.Statements.{first_line}
use Rattle.pw_grammar.specs.Declarations as g
use Rattle.pw_grammar.specs.Reading.Steps.{sees, either}
use Rattle.pw_grammar.specs.Reading.Declarations as r
use Rattle.pw_grammar.proofs.Lawful.{Language, GoesOn, Lawful, Within, within, Pure, lawful_pure, leads_nowhere}
use Rattle.pw_grammar.proofs.Branches.{keeps, keeps_pure, lawful_test, keeps_within, same_sorts}
use Rattle.pw_grammar.proofs.Parts.{Here, lawful_from, Then}
use Rattle.pw_grammar.proofs.Pieces.{Phrased, APhrase, WithPhrase, lawful_with_phrase, WithName, lawful_with_name, keeps_then_fewer, Lined, lawful_line, OneOf, lawful_one_of}
use Rattle.pw_grammar.proofs.LawfulTypes.{Is, no_end, a_number}
use Rattle.pw_grammar.proofs.LawfulSimple.{no_front, number_starts}
use Rattle.pw_tree.specs.declared.decl.InitItem.{InitItem}
use Rattle.pw_tree.specs.declared.decl.InitKind.{InitKind}
use Rattle.pw_tree.specs.declared.decl.InitKind.TheVariants as i
use Rattle.pw_lex.specs.declared.token.Token.{Token}

-- ---- constants

abbrev pub value_of : Token → ℕ
value_of t = value_in t.kind

abbrev AConstant : Language ℕ
AConstant = OneOf IsConstantSymbol value_of

constant_is : (x : Sort) → (is_same x s.Number || is_same x s.Character) ≡ true → IsConstantSymbol x
constant_is x e = by_test (is_same x s.Number) refl e
  where
    by_test : (b : Bool) → is_same x s.Number ≡ b → (b || is_same x s.Character) ≡ true → IsConstantSymbol x
    by_test true f e = inl (same_sorts x s.Number f)
    by_test false f e = inr (same_sorts x s.Character e)

end_is_no_constant : (is_same s.End s.Number || is_same s.End s.Character) ≡ true → ⊥
unfolding is_same
end_is_no_constant e = cc

constant_goes_on : (at : ℕ) → GoesOn AConstant at []
constant_goes_on at = record {
  rest = a_number.token ∷ [];
  value = value_of a_number.token;
  reads = λ x o. record { phrase = a_number.token; is = inl a_number.sort_is; spells = refl; value_is = refl };
  starts = λ e x o. number_starts x;
}

lawful_constant : (n : ℕ) → Lawful n AConstant r.constant_value r.constant_value
unfolding r.constant_value sees
lawful_constant n = lawful_one_of n (λ x. is_same x s.Number || is_same x s.Character) IsConstantSymbol value_of constant_is end_is_no_constant constant_goes_on

-- ---- elements

abbrev kind_at : ℕ → g.ElementDerivation → InitKind
kind_at at x = g.kind_of_element x

abbrev AKind : Language InitKind
AKind = APhrase g.IsElement g.spelled_element kind_at

word_is : Within (WithName (λ x. Pure (i.Word x))) AKind
word_is at a u x y = record
    { phrase = g.ElementDerivation.word y.token; is = y.sort_is; spells = y.splits ∙ ap (λ v. y.token ∷ v) y.second.empty; value_is = y.second.is }

abbrev WithConstant : (ℕ → Language InitKind) → Language InitKind
WithConstant M = WithPhrase (λ (t : Token). IsConstantSymbol (sort t)) (λ t. t ∷ []) (λ at t. value_of t) M

positive_is : Within (WithConstant (λ n. Pure (i.Num n))) AKind
positive_is at a u x y = record
    { phrase = g.positive y.phrase; is = y.is; spells = y.splits ∙ ap (λ v. y.phrase ∷ v) y.second.empty; value_is = y.second.is }

negative_is : Within (Then (Is s.Minus) (λ o. WithConstant (λ n. Pure (i.Num (g.negated n))))) AKind
negative_is at a u x o =
    let y = o.second in
    record {
      phrase = g.negative o.token y.phrase;
      is = (same_sorts (sort o.token) s.Minus o.sort_is, y.is);
      spells = o.splits ∙ ap (λ v. o.token ∷ v) (y.splits ∙ ap (λ v. y.phrase ∷ v) y.second.empty);
      value_is = y.second.is;
    }

kind_goes_on : (at : ℕ) → GoesOn AKind at []
kind_goes_on at = record {
  rest = a_number.token ∷ [];
  value = _;
  reads = λ x o. record { phrase = g.positive a_number.token; is = inl a_number.sort_is; spells = refl; value_is = refl };
  starts = λ e x o. number_starts x;
}

lawful_signed : (n : ℕ) →
    Lawful n AKind (either s.Minus r.element_negative r.element_positive) (either s.Minus r.element_negative r.element_positive)
unfolding r.element_negative r.element_positive sees
lawful_signed n = lawful_test (λ x. is_same x s.Minus) n AKind _ _ _ _
    (keeps_within (Is s.Minus) n _ AKind _ _ negative_is (keeps_then_fewer (Is s.Minus) n _ _ _ (no_end s.Minus (λ z. cc))
    (λ o. lawful_with_phrase (n - 1) _ _ _ _ _ _ _ _ (lawful_constant (n - 1)) (λ m. lawful_pure (n - 1) (i.Num (g.negated m))))))
    (keeps (λ x. is_same x s.Minus ≡ false) n AKind _ _ (within positive_is
    (lawful_with_phrase n _ _ _ _ _ _ _ _ (lawful_constant n) (λ m. lawful_pure n (i.Num m)))))
    kind_goes_on

lawful_kind : (n : ℕ) → Lawful n AKind r.element_kind r.element_kind
unfolding r.element_kind r.element_word sees
lawful_kind n = lawful_test (λ x. is_same x s.Name) n AKind _ _ _ _
    (keeps (Is s.Name) n AKind _ _ (within word_is (lawful_with_name n _ _ _ (λ x. lawful_pure n (i.Word x)))))
    (keeps (λ x. is_same x s.Name ≡ false) n AKind _ _ (lawful_signed n))
    kind_goes_on

record IsItem (first line : ℕ) (kind : InitKind) (at : ℕ) (a : InitItem) (u : List Token) : Type 0 where
  is : a ≡ record { first = first; last = at - 1; line = line; kind = kind }
  empty : u ≡ []

abbrev AnItem : ℕ → ℕ → InitKind → Language InitItem
AnItem first line kind = λ at a u x. IsItem first line kind at a u

lawful_finish_element : (n first line : ℕ) (kind : InitKind) →
    Lawful n (AnItem first line kind) (r.finish_element first line kind) (r.finish_element first line kind)
lawful_finish_element n first line kind = record {
  settled = λ i short. refl;
  says = λ i. record { tokens = []; leads = leads_nowhere i; reads = record { is = refl; empty = refl } };
  steady = λ k i j same near. record
      { place = j; is = ap (λ at. Ok (record { first = first; last = at - 1; line = line; kind = kind }, j)) (sym same.at); agree = same };
  can = λ at. record { rest = []; value = _; reads = λ x o. record { is = refl; empty = refl }; starts = λ e x o. o };
}

abbrev pub AnElement : Language InitItem
AnElement = APhrase g.IsElement g.spelled_element g.element_of

full_element : (c : g.ElementDerivation) → [] ≡ g.spelled_element c → ⊥
full_element (g.ElementDerivation.word t) e = cc
full_element (g.positive t) e = cc
full_element (g.negative m t) e = cc

abbrev ItemNode : ℕ → ℕ → Language InitItem
ItemNode first line = WithPhrase g.IsElement g.spelled_element kind_at (λ kind. AnItem first line kind)

element_is : Within (Here (λ first. Lined (λ line. ItemNode first line))) AnElement
element_is at a u x y =
    let whole : u ≡ g.spelled_element y.phrase = y.splits ∙ (ap (λ v. g.spelled_element y.phrase ++ v) y.second.empty ∙ append-nil (g.spelled_element y.phrase)) in
    record {
      phrase = y.phrase;
      is = y.is;
      spells = whole;
      value_is = y.second.is ∙ ap (λ u. record
          { first = at; last = at + length (g.spelled_element y.phrase) - 1; line = first_line u; kind = g.kind_of_element y.phrase }) whole;
    }

item_node_goes_on : (first at : ℕ) → GoesOn (Lined (λ line. ItemNode first line)) at []
item_node_goes_on first at = record {
  rest = a_number.token ∷ [];
  value = _;
  reads = λ x o. record
      { phrase = g.positive a_number.token; behind = []; is = inl a_number.sort_is; splits = refl; second = record { is = refl; empty = refl } };
  starts = λ e x o. number_starts x;
}

pub lawful_initial : (n : ℕ) → Lawful n AnElement r.initial r.initial
unfolding r.initial
lawful_initial n = within element_is (lawful_from n _ _ _ (λ first. lawful_line n (λ line. ItemNode first line) _ _
    (λ line. lawful_with_phrase n g.IsElement g.spelled_element kind_at _ _ _ _ _ (lawful_kind n) (λ kind. lawful_finish_element n first line kind))
    (λ line. λ at a x y. full_element y.phrase (no_front _ _ y.splits)) (λ at. item_node_goes_on first at)))

-- ---- further elements

abbrev pub MoreItems : List InitItem → Language (List InitItem)
MoreItems found = APhrase g.AreMoreElements g.spelled_more_elements (λ at xs. found ++ g.more_elements_of at xs)

no_more : (found : List InitItem) → Within (Pure found) (MoreItems found)
unfolding g.spelled_more_elements g.AreMoreElements g.more_elements_of
no_more found at a u x y = record { phrase = g.MoreElements.end; is = tt; spells = y.empty; value_is = y.is ∙ sym (append-nil found) }

-- after a comma: a further element, or nothing
abbrev Next : Type 0
Next = Option (g.ElementDerivation × g.MoreElements)

abbrev IsNext : Next → Type 0
IsNext None = ⊤
IsNext (Some p) = g.IsElement p.0 × g.AreMoreElements p.1

abbrev spelled_next : Next → List Token
spelled_next None = []
spelled_next (Some p) = g.spelled_element p.0 ++ g.spelled_more_elements p.1

abbrev items_of_next : List InitItem → ℕ → Next → List InitItem
items_of_next found at None = found
items_of_next found at (Some p) = found ++ g.element_of at p.0 ∷ g.more_elements_of (at + length (g.spelled_element p.0)) p.1

abbrev ANext : List InitItem → Language (List InitItem)
ANext found = APhrase IsNext spelled_next (items_of_next found)

some_next_is : (found : List InitItem) →
    Within (WithPhrase g.IsElement g.spelled_element g.element_of (λ x. MoreItems (found ++ x ∷ []))) (ANext found)
some_next_is found at a u x y = record {
  phrase = Some (y.phrase, y.second.phrase);
  is = (y.is, y.second.is);
  spells = y.splits ∙ ap (λ v. g.spelled_element y.phrase ++ v) y.second.spells;
  value_is = y.second.value_is ∙ append_assoc found (g.element_of at y.phrase ∷ []) _;
}

next_goes_on : (found : List InitItem) (at : ℕ) → GoesOn (ANext found) at []
next_goes_on found at = record
    { rest = []; value = found; reads = λ x o. record { phrase = None; is = tt; spells = refl; value_is = refl }; starts = λ e x o. o }

comma_by : (found : List InitItem) (at : ℕ) (a : List InitItem) (u : List Token) (o : Token) (next : Next) → sort o ≡ s.Comma →
    IsNext next
    → u ≡ o ∷ spelled_next next → a ≡ items_of_next found (suc at) next
    → Phrased g.AreMoreElements g.spelled_more_elements (λ at xs. found ++ g.more_elements_of at xs) at a u
unfolding g.spelled_more_elements g.AreMoreElements g.more_elements_of
comma_by found at a u o None comma is e f = record { phrase = g.comma o; is = comma; spells = e; value_is = f ∙ sym (append-nil found) }
comma_by found at a u o (Some p) comma is e f = record { phrase = g.MoreElements.more o p.0 p.1; is = (comma, is.0, is.1); spells = e; value_is = f }

comma_is : (found : List InitItem) → Within (Then (Is s.Comma) (λ o. ANext found)) (MoreItems found)
comma_is found at a u x o =
    comma_by found at a u o.token o.second.phrase (same_sorts (sort o.token) s.Comma o.sort_is) o.second.is
    (o.splits ∙ ap (λ v. o.token ∷ v) o.second.spells) o.second.value_is

more_go_on : (found : List InitItem) (at : ℕ) → GoesOn (MoreItems found) at []
more_go_on found at = record
    { rest = []; value = found; reads = λ x o. no_more found at found [] x (record { is = refl; empty = refl }); starts = λ e x o. o }

pub lawful_items : (m n : ℕ) → n ≤ m → (found : List InitItem) →
    Lawful n (MoreItems found) (r.more_initials m found) (r.more_initials (suc m) found)
unfolding r.more_initials sees
lawful_items zero n small found =
    let none = within (no_more found) (lawful_pure n found) in
    record {
      settled = λ i short. absurd (let e : length i.rest < n = short in omega arith);
      says = none.says;
      steady = none.steady;
      can = none.can;
    }
lawful_items (suc m) n small found = lawful_test (λ x. is_same x s.Comma) n (MoreItems found) _ _ _ _
    (keeps_within (Is s.Comma) n _ (MoreItems found) _ _ (comma_is found) (keeps_then_fewer (Is s.Comma) n _ _ _ (no_end s.Comma (λ z. cc))
    (λ o. lawful_test (λ x. is_same x s.RightBrace) (n - 1) (ANext found) _ _ _ _
    (keeps_pure (Is s.RightBrace) (n - 1) (ANext found) found (λ at x h. record { phrase = None; is = tt; spells = refl; value_is = refl }))
    (keeps (λ x. is_same x s.RightBrace ≡ false) (n - 1) (ANext found) _ _ (within (some_next_is found)
    (lawful_with_phrase (n - 1) g.IsElement g.spelled_element g.element_of _ _ _ _ _ (lawful_initial (n - 1))
    (λ x. lawful_items m (n - 1) (omega arith) (found ++ x ∷ [])))))
    (next_goes_on found))))
    (keeps (λ x. is_same x s.Comma ≡ false) n (MoreItems found) _ _ (within (no_more found) (lawful_pure n found)))
    (more_go_on found)
