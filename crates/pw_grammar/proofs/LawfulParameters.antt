-- The laws of the readers of a declaration's storage class, its result and its parameters.
use Rattle.std.proofs.Common.{◌≡◌, ◌≢◌, refl, sym, ◌∙◌, ap, subst, ℕ, zero, suc, ◌+◌, ◌-◌, ◌<◌, ◌≤◌, List, [], ◌∷◌, ◌++◌, length, inl, inr, Ok, false, Option, Some, None, arith}
use Rattle.std.proofs.lemmas.List.{append-nil, append_assoc, length-append}
use Rattle.pw_grammar.specs.declared.sort.Sort.{Sort}
use Rattle.pw_grammar.specs.declared.sort.Sort.TheVariants as s
use Rattle.pw_grammar.specs.Terminals.{sort, is_same}
use Rattle.pw_grammar.specs.Statements.{spelled_type, IsType, type_in}
use Rattle.pw_grammar.specs.Declarations as g
use Rattle.pw_grammar.specs.Reading.Steps.{pure, sees, either}
use Rattle.pw_grammar.specs.Reading.Statements.{some}
use Rattle.pw_grammar.specs.Reading.Declarations as r
use Rattle.pw_grammar.proofs.Lawful.{Language, GoesOn, Lawful, Within, within, Pure, lawful_pure, leads_nowhere}
use Rattle.pw_grammar.proofs.Branches.{Keeps, keeps, keeps_pure, lawful_test, keeps_within, same_sorts}
use Rattle.pw_grammar.proofs.Parts.{Here, lawful_from, Then}
use Rattle.pw_grammar.proofs.Pieces.{APhrase, WithPhrase, lawful_with_phrase, WithName, lawful_with_name, keeps_then_fewer}
use Rattle.pw_grammar.proofs.LawfulTypes.{Is, no_end, void, AType, lawful_type}
use Rattle.pw_tree.specs.declared.ty.Ty.{Ty}
use Rattle.pw_tree.specs.declared.ty.Ty.TheVariants.{Void}
use Rattle.pw_tree.specs.declared.decl.Param.{Param}
use Rattle.pw_tree.specs.declared.decl.Linkage.{Linkage}
use Rattle.pw_tree.specs.declared.decl.Linkage.TheVariants as linkage
use Rattle.pw_lex.specs.declared.token.Token.{Token}

-- ---- a token for a value

given_is : {A : Type 0} (z : Sort) (a : A) {P : Type 0} (C : P → Type 0) (spell : P → List Token) (tree : ℕ → P → A) (make : Token → P)
    → ((t : Token) → sort t ≡ z → C (make t)) → ((t : Token) → spell (make t) ≡ t ∷ []) → ((at : ℕ) (t : Token) → sort t ≡ z → tree at (make t) ≡ a)
    → Within (Then (Is z) (λ o. Pure a)) (APhrase C spell tree)
given_is z a C spell tree make is spells value at b u x y =
    let same : sort y.token ≡ z = same_sorts (sort y.token) z y.sort_is in
    record {
      phrase = make y.token;
      is = is y.token same;
      spells = y.splits ∙ (ap (λ v. y.token ∷ v) y.second.empty ∙ sym (spells y.token));
      value_is = y.second.is ∙ sym (value at y.token same);
    }

pub keeps_given : {A : Type 0} (n : ℕ) (z : Sort) → s.End ≢ z →
    (a : A) {P : Type 0} (C : P → Type 0) (spell : P → List Token) (tree : ℕ → P → A) (make : Token → P)
    → ((t : Token) → sort t ≡ z → C (make t)) → ((t : Token) → spell (make t) ≡ t ∷ []) → ((at : ℕ) (t : Token) → sort t ≡ z → tree at (make t) ≡ a)
    → Keeps (Is z) n (APhrase C spell tree) (r.given a) (r.given a)
unfolding r.given
keeps_given n z other a C spell tree make is spells value = keeps_within (Is z) n _ (APhrase C spell tree) _ _ (given_is z a C spell tree make is spells value)
    (keeps_then_fewer (Is z) n _ _ _ (no_end z other) (λ o. lawful_pure (n - 1) a))

-- ---- the storage class

abbrev pub linkage_at : ℕ → Option Token → Linkage
linkage_at at c = g.linkage_of c

abbrev pub AStorage : Language Linkage
AStorage = APhrase g.IsStorage g.spelled_storage linkage_at

storage_goes_on : (at : ℕ) → GoesOn AStorage at []
storage_goes_on at = record
    { rest = []; value = linkage.Plain; reads = λ x o. record { phrase = None; is = tt; spells = refl; value_is = refl }; starts = λ e x o. o }

lawful_static : (n : ℕ) →
    Lawful n AStorage (either s.Static (r.given linkage.Static) (pure linkage.Plain)) (either s.Static (r.given linkage.Static) (pure linkage.Plain))
unfolding sees
lawful_static n = lawful_test (λ x. is_same x s.Static) n AStorage _ _ _ _
    (keeps_given n s.Static (λ z. cc) linkage.Static g.IsStorage g.spelled_storage linkage_at (λ t. Some t) (λ t e. inr e) (λ t. refl) (λ at t e. ap g.linkage_by e))
    (keeps_pure (λ x. is_same x s.Static ≡ false) n AStorage linkage.Plain (λ at x h. record { phrase = None; is = tt; spells = refl; value_is = refl }))
    storage_goes_on

pub lawful_storage : (n : ℕ) → Lawful n AStorage r.storage r.storage
unfolding r.storage sees
lawful_storage n = lawful_test (λ x. is_same x s.Extern) n AStorage _ _ _ _
    (keeps_given n s.Extern (λ z. cc) linkage.Extern g.IsStorage g.spelled_storage linkage_at (λ t. Some t) (λ t e. inl e) (λ t. refl) (λ at t e. ap g.linkage_by e))
    (keeps (λ x. is_same x s.Extern ≡ false) n AStorage _ _ (lawful_static n))
    storage_goes_on

-- ---- the result

abbrev pub result_at : ℕ → g.ResultDerivation → Ty
result_at at c = g.result_in c

abbrev pub AResult : Language Ty
AResult = APhrase g.IsResult g.spelled_result result_at

result_goes_on : (at : ℕ) → GoesOn AResult at []
result_goes_on at = record {
  rest = void.token ∷ [];
  value = Void;
  reads = λ x o. record { phrase = g.nothing void.token; is = void.sort_is; spells = refl; value_is = refl };
  starts = λ e x o. subst (λ z. z ≢ s.Else) (sym void.sort_is) void.no_else;
}

type_result_is : Within AType AResult
type_result_is at a u x y = record { phrase = g.value y.phrase; is = y.is; spells = y.spells; value_is = y.value_is }

pub lawful_result : (n : ℕ) → Lawful n AResult r.result r.result
unfolding r.result sees
lawful_result n = lawful_test (λ x. is_same x s.Void) n AResult _ _ _ _
    (keeps_given n s.Void (λ z. cc) Void g.IsResult g.spelled_result result_at (λ t. g.nothing t) (λ t e. e) (λ t. refl) (λ at t e. refl))
    (keeps (λ x. is_same x s.Void ≡ false) n AResult _ _ (within type_result_is (lawful_type n)))
    result_goes_on

-- ---- a parameter

abbrev named_at : ℕ → Option Token → Option (List ℕ)
named_at at t = g.named t

abbrev AMaybeName : Language (Option (List ℕ))
AMaybeName = APhrase g.IsNamed g.spelled_name named_at

some_name_is : Within (WithName (λ x. Pure (Some x))) AMaybeName
some_name_is at a u x y = record
    { phrase = Some y.token; is = y.sort_is; spells = y.splits ∙ ap (λ v. y.token ∷ v) y.second.empty; value_is = y.second.is }

maybe_name_goes_on : (at : ℕ) → GoesOn AMaybeName at []
maybe_name_goes_on at = record
    { rest = []; value = None; reads = λ x o. record { phrase = None; is = tt; spells = refl; value_is = refl }; starts = λ e x o. o }

lawful_maybe_name : (n : ℕ) → Lawful n AMaybeName r.maybe_name r.maybe_name
unfolding r.maybe_name some sees
lawful_maybe_name n = lawful_test (λ x. is_same x s.Name) n AMaybeName _ _ _ _
    (keeps (Is s.Name) n AMaybeName _ _ (within some_name_is (lawful_with_name n _ _ _ (λ x. lawful_pure n (Some x)))))
    (keeps_pure (λ x. is_same x s.Name ≡ false) n AMaybeName None (λ at x h. record { phrase = None; is = tt; spells = refl; value_is = refl }))
    maybe_name_goes_on

record IsParam (first : ℕ) (ty : Ty) (x : Option (List ℕ)) (at : ℕ) (a : Param) (u : List Token) : Type 0 where
  is : a ≡ record { ty = ty; name = x; first = first; last = at - 1 }
  empty : u ≡ []

abbrev AParam : ℕ → Ty → Option (List ℕ) → Language Param
AParam first ty x = λ at a u y. IsParam first ty x at a u

lawful_finish_parameter : (n first : ℕ) (ty : Ty) (x : Option (List ℕ)) →
    Lawful n (AParam first ty x) (r.finish_parameter first ty x) (r.finish_parameter first ty x)
lawful_finish_parameter n first ty x = record {
  settled = λ i short. refl;
  says = λ i. record { tokens = []; leads = leads_nowhere i; reads = record { is = refl; empty = refl } };
  steady = λ k i j same near. record
      { place = j; is = ap (λ at. Ok (record { ty = ty; name = x; first = first; last = at - 1 }, j)) (sym same.at); agree = same };
  can = λ at. record { rest = []; value = _; reads = λ x o. record { is = refl; empty = refl }; starts = λ e x o. o };
}

abbrev pub AParameter : Language Param
AParameter = APhrase g.IsParameter g.spelled_parameter g.parameter_of

parameter_is : Within (Here (λ first. WithPhrase IsType spelled_type (λ at p. type_in p) (λ ty. WithPhrase g.IsNamed g.spelled_name named_at (λ x. AParam first ty x)))) AParameter
parameter_is at a u x y =
    let n = y.second in
    record {
      phrase = record { ty = y.phrase; name = n.phrase };
      is = (y.is, n.is);
      spells = y.splits ∙ ap (λ v. spelled_type y.phrase ++ v) (n.splits ∙ (ap (λ v. g.spelled_name n.phrase ++ v) n.second.empty ∙ append-nil (g.spelled_name n.phrase)));
      value_is = n.second.is ∙ ap (λ m. record { ty = type_in y.phrase; name = g.named n.phrase; first = at; last = m - 1 })
          (count at (length (spelled_type y.phrase)) _ _ (length-append (spelled_type y.phrase) (g.spelled_name n.phrase)));
    }
  where
    count : (at n m l : ℕ) → l ≡ n + m → at + n + m ≡ at + l
    count at n m l e = omega arith

lawful_parameter : (n : ℕ) → Lawful n AParameter r.parameter r.parameter
unfolding r.parameter
lawful_parameter n = within parameter_is (lawful_from n _ _ _ (λ first. lawful_with_phrase n IsType spelled_type (λ at p. type_in p) _ _ _ _ _ (lawful_type n)
    (λ ty. lawful_with_phrase n g.IsNamed g.spelled_name named_at _ _ _ _ _ (lawful_maybe_name n) (λ x. lawful_finish_parameter n first ty x))))

-- ---- parameters

abbrev More : List Param → Language (List Param)
More found = APhrase g.AreMoreParameters g.spelled_more_parameters (λ at ps. found ++ g.more_parameters_of at ps)

no_more : (found : List Param) → Within (Pure found) (More found)
unfolding g.spelled_more_parameters g.AreMoreParameters g.more_parameters_of
no_more found at a u x y = record { phrase = g.MoreParameters.end; is = tt; spells = y.empty; value_is = y.is ∙ sym (append-nil found) }

one_more : (found : List Param) →
    Within (Then (Is s.Comma) (λ o. WithPhrase g.IsParameter g.spelled_parameter g.parameter_of (λ p. More (found ++ p ∷ [])))) (More found)
unfolding g.spelled_more_parameters g.AreMoreParameters g.more_parameters_of
one_more found at a u x o =
    let y = o.second in
    record {
      phrase = g.MoreParameters.more o.token y.phrase y.second.phrase;
      is = (same_sorts (sort o.token) s.Comma o.sort_is, y.is, y.second.is);
      spells = o.splits ∙ ap (λ v. o.token ∷ v) (y.splits ∙ ap (λ v. g.spelled_parameter y.phrase ++ v) y.second.spells);
      value_is = y.second.value_is ∙ append_assoc found (g.parameter_of (suc at) y.phrase ∷ []) _;
    }

more_go_on : (found : List Param) (at : ℕ) → GoesOn (More found) at []
more_go_on found at = record
    { rest = []; value = found; reads = λ x o. no_more found at found [] x (record { is = refl; empty = refl }); starts = λ e x o. o }

lawful_more : (m n : ℕ) → n ≤ m → (found : List Param) →
    Lawful n (More found) (r.more_parameters m found) (r.more_parameters (suc m) found)
unfolding r.more_parameters sees
lawful_more zero n small found =
    let none = within (no_more found) (lawful_pure n found) in
    record {
      settled = λ i short. absurd (let e : length i.rest < n = short in omega arith);
      says = none.says;
      steady = none.steady;
      can = none.can;
    }
lawful_more (suc m) n small found = lawful_test (λ x. is_same x s.Comma) n (More found) _ _ _ _
    (keeps_within (Is s.Comma) n _ (More found) _ _ (one_more found) (keeps_then_fewer (Is s.Comma) n _ _ _ (no_end s.Comma (λ z. cc))
    (λ o. lawful_with_phrase (n - 1) g.IsParameter g.spelled_parameter g.parameter_of _ _ _ _ _ (lawful_parameter (n - 1))
    (λ p. lawful_more m (n - 1) (omega arith) (found ++ p ∷ [])))))
    (keeps (λ x. is_same x s.Comma ≡ false) n (More found) _ _ (within (no_more found) (lawful_pure n found)))
    (more_go_on found)

abbrev pub AParameters : Language (List Param)
AParameters = APhrase g.AreParameters g.spelled_parameters g.parameters_of

some_parameters_is : Within (WithPhrase g.IsParameter g.spelled_parameter g.parameter_of (λ p. More (p ∷ []))) AParameters
some_parameters_is at a u x y = record {
  phrase = g.some y.phrase y.second.phrase;
  is = (y.is, y.second.is);
  spells = y.splits ∙ ap (λ v. g.spelled_parameter y.phrase ++ v) y.second.spells;
  value_is = y.second.value_is;
}

pub parameters_go_on : (at : ℕ) → GoesOn AParameters at []
parameters_go_on at = record {
  rest = void.token ∷ [];
  value = [];
  reads = λ x o. record { phrase = g.none void.token; is = void.sort_is; spells = refl; value_is = refl };
  starts = λ e x o. subst (λ z. z ≢ s.Else) (sym void.sort_is) void.no_else;
}

pub lawful_parameters : (m n : ℕ) → n ≤ m → Lawful n AParameters (r.parameters m) (r.parameters (suc m))
unfolding r.parameters r.some_parameters sees
lawful_parameters m n small = lawful_test (λ x. is_same x s.Void) n AParameters _ _ _ _
    (keeps_given n s.Void (λ z. cc) [] g.AreParameters g.spelled_parameters g.parameters_of (λ t. g.none t) (λ t e. e) (λ t. refl) (λ at t e. refl))
    (keeps (λ x. is_same x s.Void ≡ false) n AParameters _ _ (within some_parameters_is
    (lawful_with_phrase n g.IsParameter g.spelled_parameter g.parameter_of _ _ _ _ _ (lawful_parameter n) (λ p. lawful_more m n small (p ∷ [])))))
    parameters_go_on
