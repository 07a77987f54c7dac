-- The laws of the reader of units.
use Rattle.std.proofs.Common.{◌≡◌, refl, sym, ◌∙◌, ap, ℕ, zero, suc, ◌-◌, ◌<◌, ◌≤◌, List, [], ◌∷◌, ◌++◌, length, Ok, Err, Bool, true, false, not, slice_index_or, if◌then◌else◌, arith}
use Rattle.std.proofs.lemmas.List.{append-nil, append_assoc}
use Rattle.std.specs.List.{list_all}
use Rattle.std.proofs.lemmas.Bool.{and_parts, not-true, both_ways}
use Rattle.pw_grammar.specs.declared.sort.Sort.{Sort}
use Rattle.pw_grammar.specs.declared.sort.Sort.TheVariants as s
use Rattle.pw_grammar.specs.Terminals.{keyword_symbols, punctuator_symbols, sort, sort_of, first_sort, is_same}
use Rattle.pw_grammar.specs.Declarations as g
use Rattle.pw_grammar.specs.Reading.Steps.{Position, ReadResult, Parser, read_then, pure, refuse, sees, either}
use Rattle.pw_grammar.specs.Reading.Expressions.{expression}
use Rattle.pw_grammar.specs.Reading.Statements.{statement}
use Rattle.pw_grammar.specs.Reading.Declarations as r
use Rattle.pw_grammar.proofs.Lawful.{Language, GoesOn, Lawful, Within, within, bind_from, Pure, lawful_pure}
use Rattle.pw_grammar.proofs.Branches.{keeps, keeps_refuse, keeps_pure, lawful_test, same_sorts, sorts_same}
use Rattle.pw_grammar.proofs.Pieces.{APhrase, a_phrase_is_lax, WithPhrase, phrase_then, lawful_with_phrase, fewer_than, Full, full_shrinks}
use Rattle.pw_grammar.proofs.LawfulTypes.{Is}
use Rattle.pw_grammar.proofs.LawfulSimple.{no_tokens}
use Rattle.pw_grammar.proofs.LawfulStatements.{Expressions, lawful_statement}
use Rattle.pw_grammar.proofs.LawfulDeclarations.{ADeclaration, lawful_declaration}
use Rattle.pw_tree.specs.declared.decl.Decl.{Decl}
use Rattle.pw_lex.specs.declared.token.Token.{Token}
use Rattle.pw_lex.specs.declared.token.TokenKind.{TokenKind}
use Rattle.pw_lex.specs.declared.token.TokenKind.TheVariants as t

-- ---- declarations, one after another

-- declarations after those that were found
abbrev Declarations : List Decl → Language (List Decl)
Declarations found = APhrase g.IsUnit g.spelled_unit (λ at cs. found ++ g.trees_of_declarations at cs)

no_back : (u v : List Token) → [] ≡ u ++ v → [] ≡ v
no_back [] v e = e
no_back (t ∷ u) v e = absurd cc

no_name : (u v w : List Token) (t : Token) → [] ≡ u ++ (v ++ t ∷ w) → ⊥
no_name u v w t e = no_tokens v w t (no_back u (v ++ t ∷ w) e)

full_declaration : (c : g.DeclarationDerivation) → [] ≡ g.spelled_declaration c → ⊥
full_declaration (g.prototype t z x o ps c e) f = no_name _ _ _ _ f
full_declaration (g.function t z x o ps c b body e) f = no_name _ _ _ _ f
full_declaration (g.variable t ty x v e) f = no_name _ _ _ _ f

declaration_is_full : Full ADeclaration
declaration_is_full = λ at a x y. full_declaration y.phrase y.spells

no_more : (found : List Decl) → Within (Pure found) (Declarations found)
unfolding g.spelled_unit g.IsUnit g.trees_of_declarations
no_more found at a u x y = record { phrase = []; is = tt; spells = y.empty; value_is = y.is ∙ sym (append-nil found) }

one_more : (found : List Decl) →
    Within (WithPhrase g.IsDeclaration g.spelled_declaration g.tree_of_declaration (λ c. Declarations (found ++ c ∷ []))) (Declarations found)
unfolding g.spelled_unit g.IsUnit g.trees_of_declarations
one_more found at a u x y = record {
  phrase = y.phrase ∷ y.second.phrase;
  is = (y.is, y.second.is);
  spells = y.splits ∙ ap (λ v. g.spelled_declaration y.phrase ++ v) y.second.spells;
  value_is = y.second.value_is ∙ append_assoc found (g.tree_of_declaration at y.phrase ∷ []) _;
}

declarations_go_on : (found : List Decl) (at : ℕ) → GoesOn (Declarations found) at []
declarations_go_on found at = record
    { rest = []; value = found; reads = λ x o. no_more found at found [] x (record { is = refl; empty = refl }); starts = λ e x o. o }

-- m turns, where fewer than m tokens are left
lawful_declarations : (m n : ℕ) → n ≤ m → (p q : Parser Decl) → Lawful n ADeclaration p q → (found : List Decl)
    → Lawful n (Declarations found) (r.declarations p m found) (r.declarations q (suc m) found)
unfolding r.declarations sees
lawful_declarations zero n small p q l found =
    let none = within (no_more found) (lawful_pure n found) in
    record {
      settled = λ i short. absurd (let e : length i.rest < n = short in omega arith);
      says = none.says;
      steady = none.steady;
      can = none.can;
    }
lawful_declarations (suc m) n small p q l found = lawful_test (λ x. is_same x s.End) n (Declarations found) _ _ _ _
    (keeps (Is s.End) n (Declarations found) _ _ (within (no_more found) (lawful_pure n found)))
    (keeps (λ x. is_same x s.End ≡ false) n (Declarations found) _ _ (within (one_more found) (within (phrase_then g.IsDeclaration g.spelled_declaration g.tree_of_declaration _)
    (bind_from n (n - 1) ADeclaration (λ c. Declarations (found ++ c ∷ [])) p q _ _ (a_phrase_is_lax g.IsDeclaration g.spelled_declaration g.tree_of_declaration) l
    (λ c. lawful_declarations m (n - 1) (omega arith) p q (fewer_than (n - 1) n (omega arith) l) (found ++ c ∷ []))
    (full_shrinks n ADeclaration p declaration_is_full (λ i. l.says i))))))
    (declarations_go_on found)

-- ---- units

abbrev pub AUnit : Language (List Decl)
AUnit = APhrase g.IsUnit g.spelled_unit g.trees_of_declarations

unit_is : Within (WithPhrase g.IsUnit g.spelled_unit (λ at cs. [] ++ g.trees_of_declarations at cs) (λ cs. Pure cs)) AUnit
unit_is at a u x y = record {
  phrase = y.phrase;
  is = y.is;
  spells = y.splits ∙ (ap (λ v. g.spelled_unit y.phrase ++ v) y.second.empty ∙ append-nil (g.spelled_unit y.phrase));
  value_is = y.second.is;
}

pure_goes_on : {A : Type 0} (a : A) (at : ℕ) → GoesOn (Pure a) at []
pure_goes_on a at = record { rest = []; value = a; reads = λ x o. record { is = refl; empty = refl }; starts = λ e x o. o }

lawful_at_end : (n : ℕ) (cs : List Decl) → Lawful n (Pure cs) (either s.End (pure cs) refuse) (either s.End (pure cs) refuse)
unfolding sees
lawful_at_end n cs = lawful_test (λ x. is_same x s.End) n (Pure cs) _ _ _ _
    (keeps_pure (Is s.End) n (Pure cs) cs (λ at x h. record { is = refl; empty = refl }))
    (keeps_refuse (λ x. is_same x s.End ≡ false) n (Pure cs) (pure_goes_on cs))
    (pure_goes_on cs)

lawful_all : (m n : ℕ) → n ≤ m → (p q : Parser Decl) → Lawful n ADeclaration p q →
    Lawful n AUnit (r.all_declarations p m) (r.all_declarations q (suc m))
unfolding r.all_declarations
lawful_all m n small p q l = within unit_is (lawful_with_phrase n g.IsUnit g.spelled_unit (λ at cs. [] ++ g.trees_of_declarations at cs) _ _ _ _ _
    (lawful_declarations m n small p q l []) (λ cs. lawful_at_end n cs))

pub lawful_unit : Expressions → (n : ℕ) → Lawful n AUnit (r.unit n) (r.unit (suc n))
unfolding r.unit
lawful_unit l n = lawful_all n n (omega arith) (r.declaration (expression n) (statement n) n) (r.declaration (expression (suc n)) (statement (suc n)) (suc n))
    (lawful_declaration n n (omega arith) (expression n) (expression (suc n)) (statement n) (statement (suc n)) (l n) (lawful_statement l n))

-- ---- a unit ends where the tokens end

abbrev is_no_end : Sort → Bool
is_no_end x = not (is_same x s.End)

number_no_end : (xs : List Sort) (n : ℕ) → list_all is_no_end xs ≡ true → is_no_end (slice_index_or xs n s.Other) ≡ true
unfolding is_same
number_no_end [] n e = refl
number_no_end (x ∷ xs) zero e = (and_parts (is_no_end x) (list_all is_no_end xs) e).0
number_no_end (x ∷ xs) (suc n) e = number_no_end xs n (and_parts (is_no_end x) (list_all is_no_end xs) e).1

kind_no_end : (kind : TokenKind) → is_no_end (sort_of kind) ≡ true
unfolding is_same sort_of
kind_no_end (t.Word name) = refl
kind_no_end (t.Number value u) = refl
kind_no_end (t.Char value) = refl
kind_no_end (t.Keyword number) = number_no_end keyword_symbols number refl
kind_no_end (t.Punct number) = number_no_end punctuator_symbols number refl

-- no token is the end
pub no_token_is_end : (t : Token) → sort t ≡ s.End → ⊥
no_token_is_end t e = both_ways (is_same (sort t) s.End) (not-true (is_same (sort t) s.End) (kind_no_end t.kind)) (sorts_same (sort t) s.End e)

at_end : (ts : List Token) → first_sort ts ≡ s.End → ts ≡ []
at_end [] e = refl
at_end (t ∷ ts) e = absurd (no_token_is_end t e)

abbrev IsAt : {A : Type 0} → ReadResult A → A → Position → Type 0
IsAt o a j = o ≡ Ok (a, j)

abbrev place_or : {A : Type 0} → ReadResult A → Position → Position
place_or (Ok p) i = p.1
place_or (Err e) i = i

same_place : {A : Type 0} (a b : A) (i j : Position) → IsAt (Ok (a, i)) b j → i ≡ j
same_place a b i j e = ap (λ o. place_or o i) e

ended_by : (cs ds : List Decl) (i j : Position) (b : Bool) → sees s.End i ≡ b →
    (if b then pure cs i else refuse i) ≡ Ok (ds, j) → j.rest ≡ []
unfolding sees
ended_by cs ds i j true at_it e =
    ap (λ j. j.rest) (sym (same_place cs ds i j e)) ∙ at_end i.rest (same_sorts (first_sort i.rest) s.End at_it)
ended_by cs ds i j false at_it e = absurd cc

ended_both : (o : ReadResult (List Decl)) (ds : List Decl) (j : Position)
    → read_then o (λ cs. either s.End (pure cs) refuse) ≡ Ok (ds, j) → j.rest ≡ []
ended_both (Ok p) ds j e = ended_by p.0 ds p.1 j (sees s.End p.1) refl e
ended_both (Err f) ds j e = absurd cc

-- what was read as a unit is all of the tokens
pub unit_ends : (n : ℕ) (i j : Position) (ds : List Decl) → r.unit n i ≡ Ok (ds, j) → j.rest ≡ []
unfolding r.unit r.all_declarations
unit_ends n i j ds e = ended_both (r.declarations (r.declaration (expression n) (statement n) n) n [] i) ds j e
