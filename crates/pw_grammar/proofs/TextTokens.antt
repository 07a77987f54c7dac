-- The tokens of a text are small: a line is no greater than the number of bytes, and a constant has at most 64 bits.
use Rattle.std.proofs.Common.{refl, ◌≡◌, ℕ, ◌+◌, ◌^◌, ◌<◌, ◌≤◌, Bool, true, false, ◌||◌, if◌then◌else◌, List, [], ◌∷◌, ◌++◌, length, Option, Some, None, subst, sym, arith, length-append, nat_eq, count_by, inl, inr, ◌∙◌}
use Rattle.std.specs.List.{AllByRecursion}
use Rattle.std.proofs.lemmas.Bool.Decides.{nat_tests}
use Rattle.std.proofs.lemmas.List.Sums.{count_by-le-length}
use Rattle.pw_lex.specs.declared.number.Radix.{Radix}
use Rattle.pw_lex.specs.declared.number.Radix.TheVariants.{Decimal, Hexadecimal}
use Rattle.pw_lex.specs.declared.token.TokenKind.{TokenKind}
use Rattle.pw_lex.specs.declared.token.TokenKind.TheVariants.{Word, Number, Char, Keyword, Punct}
use Rattle.pw_lex.specs.Bytes.{Text, class_of}
use Rattle.pw_lex.specs.Number.{limit}
use Rattle.pw_lex.specs.Character.{is_plain, escaped, IsCharacter, plain, escape}
use Rattle.pw_lex.specs.Fault.{Piece, white, line_comment, block_comment, token, bytes_of}
use Rattle.pw_lex.specs.Text.{Stand, is_newline, spelled, tokens_after}
use Rattle.pw_lex.specs.Token.{IsToken}
use Rattle.pw_grammar.specs.Expressions.{value_in}
use Rattle.pw_grammar.specs.Laws.{IsSmallToken, TokensAreSmall}
use Rattle.std.proofs.lemmas.Bool.{cases_Bool, eqb-true}
use Rattle.pw_lex.specs.declared.bytes.Class.TheVariants.{White}
use Rattle.pw_lex.proofs.Exports.{kind_class, token_begins}

-- ---- lines

newline_white : (byte : ℕ) → is_newline byte ≡ true → class_of byte ≡ White
unfolding class_of
newline_white byte is = rw (eqb-true byte 10 is) refl

not_white : (kind : TokenKind) → White ≡ kind_class kind → ⊥
not_white (Word name) is = cc
not_white (Number value unsigned) is = cc
not_white (Char value) is = cc
not_white (Keyword number) is = cc
not_white (Punct number) is = cc

-- the first byte of a token ends no line
pub token_ends : (bytes : Text) (kind : TokenKind) → IsToken bytes kind → 1 + count_by is_newline bytes ≤ length bytes
token_ends [] kind is = absurd (token_begins [] kind is)
token_ends (byte ∷ bytes) kind is =
    elim (cases_Bool (is_newline byte)) [
      | inl holds ↦ absurd (not_white kind (sym (newline_white byte holds) ∙ token_begins (byte ∷ bytes) kind is))
      | inr fails ↦ (let few = count_by-le-length is_newline bytes in rw fails (omega (arith, few)))
    ]

-- ---- constants

limit_small : (radix : Radix) (has_u : Bool) → limit radix has_u < 2 ^ 64
limit_small Decimal false = omega arith
limit_small Decimal true = omega arith
limit_small Hexadecimal has_u = omega arith

plain_small : (byte : ℕ) → is_plain byte ≡ true → byte ≤ 126
plain_small byte h = grind (arith, nat_tests)

chosen_small : (b : Bool) (x value : ℕ) (o : Option ℕ) → (if b then Some x else o) ≡ Some value → (b ≡ true → x < 256) →
    (o ≡ Some value → value < 256) → value < 256
chosen_small true x value o h small other = let e : x ≡ value = cc in let s : x < 256 = small refl in omega arith
chosen_small false x value o h small other = other h

itself_small : (byte : ℕ) → (nat_eq byte 92 || nat_eq byte 39 || nat_eq byte 34) ≡ true → byte < 256
itself_small byte h = grind (arith, nat_tests)

escaped_small : (byte value : ℕ) → escaped byte ≡ Some value → value < 256
escaped_small byte value h =
    chosen_small (nat_eq byte 110) 10 value _ h (λ _. omega arith) (λ h. chosen_small (nat_eq byte 116) 9 value _ h (λ _. omega arith)
    (λ h. chosen_small (nat_eq byte 114) 13 value _ h (λ _. omega arith) (λ h. chosen_small (nat_eq byte 48) 0 value _ h (λ _. omega arith)
    (λ h. chosen_small (nat_eq byte 92 || nat_eq byte 39 || nat_eq byte 34) byte value None h (itself_small byte) (λ h. cc)))))

character_small : (bytes : Text) (value : ℕ) → IsCharacter bytes value → value < 256
character_small _ _ (plain byte h) = omega (arith, plain_small byte h)
character_small _ _ (escape byte value h) = escaped_small byte value h

value_small : (bytes : Text) (kind : TokenKind) → IsToken bytes kind → value_in kind < 2 ^ 64
value_small bytes (Word name) is = omega arith
value_small bytes (Number value unsigned) is = omega (arith, is.fits, limit_small is.radix is.has_u)
value_small bytes (Char value) is = omega (arith, character_small bytes value is)
value_small bytes (Keyword number) is = omega arith
value_small bytes (Punct number) is = omega arith

-- ---- tokens

tokens_small : (before : Text) (pieces : List Piece) (rest : Text) → Stand pieces rest →
    length before + length (spelled pieces) < 2 ^ 32 →
    AllByRecursion IsSmallToken (tokens_after before pieces)
tokens_small before [] rest stand short = tt
tokens_small before (white byte ∷ pieces) rest stand short =
    tokens_small (before ++ bytes_of (white byte)) pieces rest stand.1
    (omega (arith, length-append before (bytes_of (white byte)), length-append (bytes_of (white byte)) (spelled pieces)))
tokens_small before (line_comment body ∷ pieces) rest stand short =
    tokens_small (before ++ bytes_of (line_comment body)) pieces rest stand.1
    (omega (arith, length-append before (bytes_of (line_comment body)), length-append (bytes_of (line_comment body)) (spelled pieces)))
tokens_small before (block_comment body ∷ pieces) rest stand short =
    tokens_small (before ++ bytes_of (block_comment body)) pieces rest stand.1
    (omega (arith, length-append before (bytes_of (block_comment body)), length-append (bytes_of (block_comment body)) (spelled pieces)))
tokens_small before (token bytes kind ∷ pieces) rest stand short =
    let all = length-append bytes (spelled pieces) in (
      record {
        line = omega (arith, count_by-le-length is_newline before, token_ends bytes kind stand.0.token, all);
        value = value_small bytes kind stand.0.token;
      },
      tokens_small (before ++ bytes) pieces rest stand.1 (omega (arith, length-append before bytes, all)),
    )

pub tokens_are_small : TokensAreSmall
tokens_are_small text tokens has short =
    subst (AllByRecursion IsSmallToken) (sym has.tokens_are)
    (tokens_small [] has.pieces [] has.stand (subst (λ t. 0 + length t < 2 ^ 32) has.text_is (omega arith)))
