-- The laws of the readers of types, and a token of each sort that a rule asks for.
use Rattle.std.proofs.Common.{◌≡◌, ◌≢◌, refl, sym, ◌∙◌, ap, subst, ℕ, suc, [], ◌∷◌, true, false, Some, None}
use Rattle.pw_grammar.specs.declared.sort.Sort.{Sort}
use Rattle.pw_grammar.specs.declared.sort.Sort.TheVariants as s
use Rattle.pw_grammar.specs.Terminals.{sort, sort_of, is_same}
use Rattle.pw_grammar.specs.Statements.{word, unsigned, type_of_keyword, spelled_type, IsType, type_or, type_in}
use Rattle.pw_grammar.specs.Reading.Steps.{next_sort, sees}
use Rattle.pw_grammar.specs.Reading.Statements as r
use Rattle.pw_grammar.proofs.Lawful.{Language, GoesOn, Lawful, Within, Pure, lawful_pure}
use Rattle.pw_grammar.proofs.Branches.{keeps, keeps_refuse, lawful_test, lawful_option, keeps_within, same_sorts}
use Rattle.pw_grammar.proofs.Tokens.{Sample, a_token}
use Rattle.pw_grammar.proofs.Parts.{Then, lawful_then, keeps_then}
use Rattle.pw_grammar.proofs.Pieces.{APhrase, keeps_fewer}
use Rattle.pw_tree.specs.declared.ty.Ty.{Ty}
use Rattle.pw_tree.specs.declared.ty.Ty.TheVariants.{Long, Ulong}
use Rattle.pw_lex.specs.declared.token.TokenKind.TheVariants as t

-- ---- tokens of a sort

pub left_paren : Sample s.LeftParen
unfolding sort_of
left_paren = record { token = a_token (t.Punct 0); sort_is = refl; no_else = λ p. cc; no_end = λ p. cc }

pub right_paren : Sample s.RightParen
unfolding sort_of
right_paren = record { token = a_token (t.Punct 1); sort_is = refl; no_else = λ p. cc; no_end = λ p. cc }

pub left_brace : Sample s.LeftBrace
unfolding sort_of
left_brace = record { token = a_token (t.Punct 2); sort_is = refl; no_else = λ p. cc; no_end = λ p. cc }

pub right_brace : Sample s.RightBrace
unfolding sort_of
right_brace = record { token = a_token (t.Punct 3); sort_is = refl; no_else = λ p. cc; no_end = λ p. cc }

pub right_bracket : Sample s.RightBracket
unfolding sort_of
right_bracket = record { token = a_token (t.Punct 5); sort_is = refl; no_else = λ p. cc; no_end = λ p. cc }

pub semicolon : Sample s.Semicolon
unfolding sort_of
semicolon = record { token = a_token (t.Punct 6); sort_is = refl; no_else = λ p. cc; no_end = λ p. cc }

pub long : Sample s.Long
unfolding sort_of
long = record { token = a_token (t.Keyword 0); sort_is = refl; no_else = λ p. cc; no_end = λ p. cc }

pub void : Sample s.Void
unfolding sort_of
void = record { token = a_token (t.Keyword 2); sort_is = refl; no_else = λ p. cc; no_end = λ p. cc }

pub while : Sample s.While
unfolding sort_of
while = record { token = a_token (t.Keyword 14); sort_is = refl; no_else = λ p. cc; no_end = λ p. cc }

pub a_name : Sample s.Name
unfolding sort_of
a_name = record { token = a_token (t.Word (95 ∷ [])); sort_is = refl; no_else = λ p. cc; no_end = λ p. cc }

pub a_number : Sample s.Number
unfolding sort_of
a_number = record { token = a_token (t.Number 1 false); sort_is = refl; no_else = λ p. cc; no_end = λ p. cc }

-- the next token is of the sort
abbrev pub Is : Sort → Sort → Type 0
Is z x = is_same x z ≡ true

pub no_end : (z : Sort) → s.End ≢ z → Is z s.End → ⊥
no_end z other e = other (same_sorts s.End z e)

-- ---- types

abbrev pub AType : Language Ty
AType = APhrase IsType spelled_type (λ at p. type_in p)

long_is : (at : ℕ) → GoesOn AType at []
long_is at = record {
  rest = long.token ∷ [];
  value = type_in (word long.token);
  reads = λ x o. record { phrase = word long.token; is = (Long, ap type_of_keyword long.sort_is); spells = refl; value_is = refl };
  starts = λ e x o. subst (λ z. z ≢ s.Else) (sym long.sort_is) long.no_else;
}

unsigned_is : Within (Then (Is s.Unsigned) (λ u. Then (λ x. x ≡ s.Long) (λ l. Pure Ulong))) AType
unsigned_is at a u x y =
    let l = y.second in
    record {
      phrase = unsigned y.token l.token;
      is = (same_sorts (sort y.token) s.Unsigned y.sort_is, l.sort_is);
      spells = y.splits ∙ ap (λ v. y.token ∷ v) (l.splits ∙ ap (λ v. l.token ∷ v) l.second.empty);
      value_is = l.second.is;
    }

word_is : (ty : Ty) → Within (Then (λ x. type_of_keyword x ≡ Some ty) (λ o. Pure ty)) AType
word_is ty at a u x y = record {
  phrase = word y.token;
  is = (ty, y.sort_is);
  spells = y.splits ∙ ap (λ v. y.token ∷ v) y.second.empty;
  value_is = y.second.is ∙ sym (ap type_or y.sort_is);
}

end_is_no_type : (ty : Ty) → type_of_keyword s.End ≡ Some ty → ⊥
end_is_no_type ty e = cc

lawful_word : (n : ℕ) →
    Lawful n AType (λ i. r.type_by (type_of_keyword (next_sort i)) i) (λ i. r.type_by (type_of_keyword (next_sort i)) i)
lawful_word n = lawful_option type_of_keyword n AType r.type_by r.type_by
    (keeps_refuse (λ x. type_of_keyword x ≡ None) n AType long_is)
    (λ ty. keeps_fewer (λ x. type_of_keyword x ≡ Some ty) n AType _ _ (keeps_within (λ x. type_of_keyword x ≡ Some ty) (suc n) _ _ _ _ (word_is ty)
    (keeps_then (λ x. type_of_keyword x ≡ Some ty) n _ _ _ (end_is_no_type ty) (λ o. lawful_pure n ty))))
    long_is

pub lawful_type : (n : ℕ) → Lawful n AType r.type_name r.type_name
unfolding r.type_name sees r.unsigned_long
lawful_type n = lawful_test (λ x. is_same x s.Unsigned) n AType _ _ _ _
    (keeps_fewer (Is s.Unsigned) n AType _ _ (keeps_within (Is s.Unsigned) (suc n) _ _ _ _ unsigned_is
    (keeps_then (Is s.Unsigned) n _ _ _ (no_end s.Unsigned (λ z. cc)) (λ u. lawful_then n s.Long _ _ _ long (λ l. lawful_pure n Ulong)))))
    (keeps (λ x. is_same x s.Unsigned ≡ false) n AType _ _ (lawful_word n)) long_is
