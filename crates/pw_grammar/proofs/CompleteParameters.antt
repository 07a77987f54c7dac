-- Storage classes, results and parameters are read.
use Rattle.std.proofs.Common.{◌≡◌, ◌≢◌, refl, sym, ◌∙◌, ap, subst, ℕ, zero, suc, ◌+◌, ◌<◌, List, [], ◌∷◌, ◌++◌, length, Ok, Bool, true, false, ◌&&◌, Option, Some, None, inl, inr, arith}
use Rattle.std.proofs.lemmas.List.{append_assoc, append-nil, length-append}
use Rattle.std.specs.List.{list_all}
use Rattle.pw_grammar.specs.declared.sort.Sort.{Sort}
use Rattle.pw_grammar.specs.declared.sort.Sort.TheVariants as s
use Rattle.pw_grammar.specs.Terminals.{sort, first_sort, is_same}
use Rattle.pw_grammar.specs.Statements.{spelled_type, type_in}
use Rattle.pw_grammar.specs.Declarations as dc
use Rattle.pw_grammar.specs.Declarations.{spelled_storage, IsStorage, linkage_of, linkage_by, ResultDerivation, spelled_result, IsResult, result_in, ParameterDerivation, spelled_parameter, spelled_name, IsParameter, IsNamed, has_name, named, MoreParameters, ParametersDerivation, spelled_more_parameters, spelled_parameters, AreMoreParameters, AreParameters, AllNamed, AllHaveNames, parameter_of, more_parameters_of, parameters_of}
use Rattle.pw_grammar.specs.Reading.Steps.{Parser, ◌>>=◌, pure, skip, name, either}
use Rattle.pw_grammar.specs.Reading.Statements as r
use Rattle.pw_grammar.specs.Reading.Declarations as rd
use Rattle.pw_grammar.proofs.CompleteTokens.{spot, then_, counted, done, valued, step_skip, step_name, either_this, either_other, parted, told_apart}
use Rattle.pw_grammar.proofs.CompleteTypes.{step_type, type_begins}
use Rattle.pw_grammar.proofs.CompleteStatements.{no_other}
use Rattle.pw_tree.specs.declared.ty.Ty.TheVariants as ty
use Rattle.pw_tree.specs.declared.decl.Param.{Param}
use Rattle.pw_tree.specs.declared.decl.Linkage.TheVariants as linkage
use Rattle.pw_lex.specs.declared.token.Token.{Token}

-- ---- storage classes and results

no_type_static : r.begins_type s.Static ≡ false
unfolding r.begins_type is_same
no_type_static = refl

no_type_extern : r.begins_type s.Extern ≡ false
unfolding r.begins_type is_same
no_type_extern = refl

no_type_void : r.begins_type s.Void ≡ false
unfolding r.begins_type is_same
no_type_void = refl

pub step_given : {A : Type 0} (a : A) (at : ℕ) (t : Token) (ts : List Token) →
    rd.given a (spot at (t ∷ ts)) ≡ Ok (a, spot (suc at) ts)
unfolding rd.given
step_given a at t ts = then_ _ (step_skip at t ts) refl

-- a result begins with no such sort
pub result_no : (c : ResultDerivation) (ts : List Token) (x : Sort) → IsResult c → r.begins_type x ≡ false → (s.Void ≡ x → ⊥) →
    first_sort (spelled_result c ++ ts) ≢ x
result_no (dc.nothing t) ts x is other void = no_other is void
result_no (dc.value c) ts x is other void = told_apart r.begins_type (type_begins c ts is) other

pub step_storage : (g : Option Token) (at : ℕ) (ts : List Token) → IsStorage g → first_sort ts ≢ s.Extern →
    first_sort ts ≢ s.Static
    → rd.storage (spot at (spelled_storage g ++ ts)) ≡ Ok (linkage_of g, spot (at + length (spelled_storage g)) ts)
unfolding rd.storage
step_storage None at ts is extern static =
    either_other s.Extern (rd.given linkage.Extern) (either s.Static (rd.given linkage.Static) (pure linkage.Plain)) (spot at ts) extern
    ∙ either_other s.Static (rd.given linkage.Static) (pure linkage.Plain) (spot at ts) static ∙ done linkage.Plain _ ts (omega arith)
step_storage (Some t) at ts (inl is) extern static =
    either_this s.Extern (rd.given linkage.Extern) (either s.Static (rd.given linkage.Static) (pure linkage.Plain)) (spot at (t ∷ ts)) is
    ∙ valued (linkage_by (sort t)) (counted _ (step_given linkage.Extern at t ts) (omega arith)) (sym (ap linkage_by is))
step_storage (Some t) at ts (inr is) extern static =
    either_other s.Extern (rd.given linkage.Extern) (either s.Static (rd.given linkage.Static) (pure linkage.Plain)) (spot at (t ∷ ts)) (no_other is (λ p. cc))
    ∙ either_this s.Static (rd.given linkage.Static) (pure linkage.Plain) (spot at (t ∷ ts)) is
    ∙ valued (linkage_by (sort t)) (counted _ (step_given linkage.Static at t ts) (omega arith)) (sym (ap linkage_by is))

pub step_result : (c : ResultDerivation) (at : ℕ) (ts : List Token) → IsResult c
    → rd.result (spot at (spelled_result c ++ ts)) ≡ Ok (result_in c, spot (at + length (spelled_result c)) ts)
unfolding rd.result
step_result (dc.nothing t) at ts is = either_this s.Void (rd.given ty.Void) r.type_name (spot at (t ∷ ts)) is ∙ counted _ (step_given ty.Void at t ts) (omega arith)
step_result (dc.value c) at ts is =
    either_other s.Void (rd.given ty.Void) r.type_name (spot at (spelled_type c ++ ts)) (told_apart r.begins_type (type_begins c ts is) no_type_void)
    ∙ step_type c at ts is

-- ---- parameters

step_maybe_name : (x : Option Token) (at : ℕ) (ts : List Token) → IsNamed x → first_sort ts ≢ s.Name
    → rd.maybe_name (spot at (spelled_name x ++ ts)) ≡ Ok (named x, spot (at + length (spelled_name x)) ts)
unfolding rd.maybe_name r.some
step_maybe_name None at ts is other = either_other s.Name (r.some name) (pure None) (spot at ts) other ∙ done None _ ts (omega arith)
step_maybe_name (Some t) at ts is other = either_this s.Name (r.some name) (pure None) (spot at (t ∷ ts)) is ∙ then_ _ (step_name at t ts is) (done _ _ ts (omega arith))

-- the node of a parameter, by its last token
parameter_is : (first n : ℕ) (p : ParameterDerivation) (r : List Token) → n ≡ first + length (spelled_parameter p)
    → rd.finish_parameter first (type_in p.ty) (named p.name) (spot n r) ≡ Ok (parameter_of first p, spot (first + length (spelled_parameter p)) r)
parameter_is first n p r counts =
    ap (λ m. rd.finish_parameter first (type_in p.ty) (named p.name) (spot m r)) counts

pub step_parameter : (p : ParameterDerivation) (at : ℕ) (ts : List Token) → IsParameter p → first_sort ts ≢ s.Name
    → rd.parameter (spot at (spelled_parameter p ++ ts)) ≡ Ok (parameter_of at p, spot (at + length (spelled_parameter p)) ts)
unfolding rd.parameter
step_parameter p at ts is other =
    parted rd.parameter at (append_assoc (spelled_type p.ty) (spelled_name p.name) ts)
    (then_ _ (step_type p.ty at (spelled_name p.name ++ ts) is.0)
    (then_ _ (step_maybe_name p.name (at + length (spelled_type p.ty)) ts is.1 other)
    (parameter_is at _ p ts (omega (arith, length-append (spelled_type p.ty) (spelled_name p.name))))))

parameter_begins : (p : ParameterDerivation) (ts : List Token) → IsParameter p →
    r.begins_type (first_sort (spelled_parameter p ++ ts)) ≡ true
parameter_begins p ts is =
    subst (λ v. r.begins_type (first_sort v) ≡ true) (sym (append_assoc (spelled_type p.ty) (spelled_name p.name) ts)) (type_begins p.ty (spelled_name p.name ++ ts) is.0)

-- after further parameters stands no name
more_no : (ps : MoreParameters) (ts : List Token) → AreMoreParameters ps → first_sort ts ≡ s.RightParen →
    first_sort (spelled_more_parameters ps ++ ts) ≢ s.Name
unfolding spelled_more_parameters AreMoreParameters
more_no dc.end ts is end = no_other end (λ p. cc)
more_no (dc.more t p ps) ts is end = no_other is.0 (λ p. cc)

-- a comma, a parameter, and further ones
next_parameter : ℕ → List Param → Parser (List Param)
next_parameter turns found = do
  o ← skip
  p ← rd.parameter
  rd.more_parameters turns (found ++ p ∷ [])

step_more_parameters : (turns : ℕ) (ps : MoreParameters) (found : List Param) (at : ℕ) (ts : List Token) →
    AreMoreParameters ps → first_sort ts ≡ s.RightParen
    → length (spelled_more_parameters ps ++ ts) < turns
    → rd.more_parameters turns found (spot at (spelled_more_parameters ps ++ ts))
    ≡ Ok (found ++ more_parameters_of at ps, spot (at + length (spelled_more_parameters ps)) ts)
unfolding rd.more_parameters spelled_more_parameters AreMoreParameters more_parameters_of next_parameter
step_more_parameters zero ps found at ts is end short = absurd (omega arith)
step_more_parameters (suc turns) dc.end found at ts is end short =
    either_other s.Comma (next_parameter turns found) (pure found) (spot at ts) (no_other end (λ p. cc))
    ∙ valued (found ++ []) (done found (at + 0) ts (omega arith)) (sym (append-nil found))
step_more_parameters (suc turns) (dc.more t p ps) found at ts is end short =
    let parts : (spelled_parameter p ++ spelled_more_parameters ps) ++ ts ≡ spelled_parameter p ++ (spelled_more_parameters ps ++ ts) =
    append_assoc (spelled_parameter p) (spelled_more_parameters ps) ts in
    either_this s.Comma (next_parameter turns found) (pure found) (spot at (t ∷ ((spelled_parameter p ++ spelled_more_parameters ps) ++ ts))) is.0
    ∙ then_ _ (step_skip at t _)
    (parted (rd.parameter >>= (λ p. rd.more_parameters turns (found ++ p ∷ []))) (suc at) parts
    (then_ _ (step_parameter p (suc at) (spelled_more_parameters ps ++ ts) is.1 (more_no ps ts is.2 end))
    (valued _ (counted _ (step_more_parameters turns ps (found ++ parameter_of (suc at) p ∷ []) (suc at + length (spelled_parameter p)) ts is.2 end
    (omega (
      arith,
      length-append (spelled_parameter p ++ spelled_more_parameters ps) ts,
      length-append (spelled_parameter p) (spelled_more_parameters ps),
      length-append (spelled_more_parameters ps) ts,
    )))
    (omega (arith, length-append (spelled_parameter p) (spelled_more_parameters ps))))
    (append_assoc found (parameter_of (suc at) p ∷ []) (more_parameters_of (suc at + length (spelled_parameter p)) ps)))))

pub step_parameters : (n : ℕ) (ps : ParametersDerivation) (at : ℕ) (ts : List Token) → AreParameters ps →
    first_sort ts ≡ s.RightParen → length (spelled_parameters ps ++ ts) < n
    → rd.parameters n (spot at (spelled_parameters ps ++ ts)) ≡ Ok (parameters_of at ps, spot (at + length (spelled_parameters ps)) ts)
unfolding rd.parameters rd.some_parameters
step_parameters n (dc.none t) at ts is end short =
    either_this s.Void (rd.given []) (rd.some_parameters n) (spot at (t ∷ ts)) is ∙ counted _ (step_given [] at t ts) (omega arith)
step_parameters n (dc.some p ps) at ts is end short =
    let parts : (spelled_parameter p ++ spelled_more_parameters ps) ++ ts ≡ spelled_parameter p ++ (spelled_more_parameters ps ++ ts) =
    append_assoc (spelled_parameter p) (spelled_more_parameters ps) ts in
    parted (rd.parameters n) at parts
    (either_other s.Void (rd.given []) (rd.some_parameters n) (spot at (spelled_parameter p ++ (spelled_more_parameters ps ++ ts)))
    (told_apart r.begins_type (parameter_begins p (spelled_more_parameters ps ++ ts) is.0) no_type_void)
    ∙ then_ _ (step_parameter p at (spelled_more_parameters ps ++ ts) is.0 (more_no ps ts is.1 end))
    (counted _ (step_more_parameters n ps (parameter_of at p ∷ []) (at + length (spelled_parameter p)) ts is.1 end
    (omega (
      arith,
      length-append (spelled_parameter p ++ spelled_more_parameters ps) ts,
      length-append (spelled_parameter p) (spelled_more_parameters ps),
      length-append (spelled_more_parameters ps) ts,
    )))
    (omega (arith, length-append (spelled_parameter p) (spelled_more_parameters ps)))))

-- ---- what a function's parameters are, as its body asks

param_named : (p : ParameterDerivation) → has_name p.name ≡ true → (at : ℕ) → rd.is_named (parameter_of at p) ≡ true
param_named p e at = named_some p.name e
  where
    named_some : (x : Option Token) → has_name x ≡ true → r.is_some (named x) ≡ true
    named_some None e = e
    named_some (Some t) e = refl

both_true : {a b : Bool} → a ≡ true → b ≡ true → (a && b) ≡ true
both_true {b = b} e f = ap (λ x. x && b) e ∙ f

more_named : (ps : MoreParameters) (at : ℕ) → AllNamed ps → list_all rd.is_named (more_parameters_of at ps) ≡ true
unfolding AllNamed more_parameters_of
more_named dc.end at is = refl
more_named (dc.more t p ps) at is = both_true (param_named p is.0 (suc at)) (more_named ps (suc at + length (spelled_parameter p)) is.1)

pub all_named : (ps : ParametersDerivation) (at : ℕ) → AllHaveNames ps → list_all rd.is_named (parameters_of at ps) ≡ true
all_named (dc.none t) at is = refl
all_named (dc.some p ps) at is = both_true (param_named p is.0 at) (more_named ps (at + length (spelled_parameter p)) is.1)
