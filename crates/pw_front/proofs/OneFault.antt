-- A text has one fault at most: of its tokens, then of its unit, then of the unit's types.
use Rattle.std.proofs.Common.{◌≡◌, ◌≢◌, ℕ, ◌<◌, ◌≤◌, ◌⊎◌, inl, inr, List, Option, Some, refl, sym, ap, subst, ◌∙◌, arith, IfSome, slice_index_or}
use Rattle.pw_base.specs.declared.pos.Pos.{Pos}
use Rattle.pw_lex.specs.declared.error.LexError.{LexError}
use Rattle.pw_lex.specs.declared.error.LexError.TheVariants as lex
use Rattle.pw_lex.specs.Bytes.{Text}
use Rattle.pw_lex.specs.Text.{line_of, place_of}
use Rattle.pw_lex.proofs.Exports.{one_list, one_fault as one_lex_fault, not_both}
use Rattle.pw_grammar.specs.declared.error.SyntaxError.{SyntaxError}
use Rattle.pw_grammar.specs.declared.error.SyntaxError.TheVariants.{At, TooNested, TooLong}
use Rattle.pw_grammar.specs.declared.error.SyntaxError.TheVariants as syntax
use Rattle.pw_grammar.specs.Faults.{IsFirstFault, ComesBefore, token_of}
use Rattle.pw_parse.specs.Whole.{fault_line_of as line_of_token}
use Rattle.pw_tree.specs.Declarations.{untyped_unit_of}
use Rattle.pw_types.specs.declared.error.TypeError.TheVariants as types
use Rattle.pw_types.specs.declared.rule.Rule.{Rule}
use Rattle.pw_types.specs.Checks.{IsFirst}
use Rattle.pw_front.specs.declared.error.FrontError.TheVariants.{Lex, Syntax, Typing, NoMemory}
use Rattle.pw_front.specs.Units.{HasLexFault, HasSyntaxFault, HasTypeFault, end_line_of}
use Rattle.pw_front.specs.Laws.{OneFault}
use Rattle.pw_front.proofs.OneReading.{one_unit, no_lex_fault, no_syntax_fault}

-- ---- faults of bytes

lex_line : (text : Text) (fault : LexError) (l m : ℕ) → fault ≢ lex.NoMemory
    → IfSome (place_of fault) (λ place. l ≡ line_of text place) → IfSome (place_of fault) (λ place. m ≡ line_of text place) → l ≡ m
lex_line text (lex.BadByte place) l m known a b = a ∙ sym b
lex_line text (lex.OpenComment place) l m known a b = a ∙ sym b
lex_line text (lex.BadNumber place) l m known a b = a ∙ sym b
lex_line text (lex.TooWide place) l m known a b = a ∙ sym b
lex_line text (lex.LongName place) l m known a b = a ∙ sym b
lex_line text lex.NoMemory l m known a b = absurd (known refl)

same_lex : (text : Text) (f g : LexError) (l m : ℕ) → HasLexFault text f l → HasLexFault text g m → Lex f l ≡ Lex g m
same_lex text f g l m a b =
    let fault : f ≡ g = one_lex_fault text f g a.is b.is in
    let line : l ≡ m = lex_line text f l m a.known a.line_is
    (subst (λ e. IfSome (place_of e) (λ place. m ≡ line_of text place)) (sym fault) b.line_is) in
    ap (λ e. Lex e l) fault ∙ ap (λ n. Lex g n) line

lex_or_syntax : (text : Text) (f : LexError) (g : SyntaxError) (l m : ℕ) → HasLexFault text f l → HasSyntaxFault text g m → ⊥
lex_or_syntax text f g l m a b = not_both text b.tokens f b.has_tokens a.is

-- ---- faults of tokens

each_way : (t u i j : ℕ) → ((t < u) ⊎ ((t ≡ u) × (i ≤ j))) → ((u < t) ⊎ ((u ≡ t) × (j ≤ i))) → (t ≡ u) × (i ≡ j)
each_way t u i j (inl a) (inl b) = absurd (omega (arith, a, b))
each_way t u i j (inl a) (inr b) = absurd (omega (arith, a, b.0))
each_way t u i j (inr a) (inl b) = absurd (omega (arith, a.0, b))
each_way t u i j (inr a) (inr b) = (a.0, omega (arith, a.1, b.1))

one_first : (f g : SyntaxError) → ComesBefore f g → ComesBefore g f → f ≡ g
one_first (At t) (At u) a b = ap At (each_way t u 0 0 a b).0
one_first (At t) (TooNested u) a b = let e = (each_way t u 0 1 a b).1 in cc
one_first (At t) (TooLong u) a b = let e = (each_way t u 0 2 a b).1 in cc
one_first (At t) syntax.NoMemory a b = let e = (each_way t 0 0 3 a b).1 in cc
one_first (TooNested t) (At u) a b = let e = (each_way t u 1 0 a b).1 in cc
one_first (TooNested t) (TooNested u) a b = ap TooNested (each_way t u 1 1 a b).0
one_first (TooNested t) (TooLong u) a b = let e = (each_way t u 1 2 a b).1 in cc
one_first (TooNested t) syntax.NoMemory a b = let e = (each_way t 0 1 3 a b).1 in cc
one_first (TooLong t) (At u) a b = let e = (each_way t u 2 0 a b).1 in cc
one_first (TooLong t) (TooNested u) a b = let e = (each_way t u 2 1 a b).1 in cc
one_first (TooLong t) (TooLong u) a b = ap TooLong (each_way t u 2 2 a b).0
one_first (TooLong t) syntax.NoMemory a b = let e = (each_way t 0 2 3 a b).1 in cc
one_first syntax.NoMemory (At u) a b = let e = (each_way 0 u 3 0 a b).1 in cc
one_first syntax.NoMemory (TooNested u) a b = let e = (each_way 0 u 3 1 a b).1 in cc
one_first syntax.NoMemory (TooLong u) a b = let e = (each_way 0 u 3 2 a b).1 in cc
one_first syntax.NoMemory syntax.NoMemory a b = refl

same_syntax : (text : Text) (f g : SyntaxError) (l m : ℕ) → HasSyntaxFault text f l → HasSyntaxFault text g m →
    Syntax f l ≡ Syntax g m
same_syntax text f g l m a b =
    let tokens : b.tokens ≡ a.tokens = one_list text b.tokens a.tokens b.has_tokens a.has_tokens in
    let also : IsFirstFault a.tokens g = subst (λ ts. IsFirstFault ts g) tokens b.is in
    let fault : f ≡ g = one_first f g (a.is.first g also.is) (also.first f a.is.is) in
    let line : l ≡ m = a.line_is ∙ ap (λ e. line_of_token a.tokens (end_line_of text) (token_of e)) fault
    ∙ ap (λ ts. line_of_token ts (end_line_of text) (token_of g)) (sym tokens) ∙ sym b.line_is in
    ap (λ e. Syntax e l) fault ∙ ap (λ n. Syntax g n) line

-- ---- faults of types

same_place : (p q : Pos) → p.line ≡ q.line → p.token ≡ q.token → p ≡ q
same_place p q line token =
    ap (λ l. let r : Pos = record { line = l; token = p.token } in r) line ∙ ap (λ t. let r : Pos = record { line = q.line; token = t } in r) token

same_type : (text : Text) (r s : Rule) (p q : Pos) (n m : Option (List ℕ)) → HasTypeFault text r p n → HasTypeFault text s q m
    → Typing (types.Broken r p n) ≡ Typing (types.Broken s q m)
same_type text r s p q n m a b =
    let unit : b.unit ≡ a.unit = one_unit text b.unit a.unit b.is_unit a.is_unit in
    let also : IsFirst (untyped_unit_of a.unit) s q m = subst (λ u. IsFirst (untyped_unit_of u) s q m) unit b.is in
    let some : Some a.is.fault ≡ Some also.fault = sym a.is.first ∙ also.first in
    let fault : a.is.fault ≡ also.fault = cc in
    let rule : r ≡ s = a.is.rule_is ∙ ap (λ f. f.rule) fault ∙ sym also.rule_is in
    let name : n ≡ m = a.is.name_is ∙ ap (λ f. f.name) fault ∙ sym also.name_is in
    let token : p.token ≡ q.token = a.is.token_is ∙ ap (λ f. f.at) fault ∙ sym also.token_is in
    let line : p.line ≡ q.line = a.is.line_is ∙ ap (λ f. slice_index_or (untyped_unit_of a.unit).lines f.at 0) fault ∙ sym also.line_is in
    ap (λ x. Typing (types.Broken x p n)) rule ∙ ap (λ x. Typing (types.Broken s x n)) (same_place p q line token)
    ∙ ap (λ x. Typing (types.Broken s q x)) name

-- ---- all

pub one_fault : OneFault
one_fault text NoMemory b x y known also = absurd (known refl)
one_fault text (Typing types.NoMemory) b x y known also = absurd x
one_fault text a NoMemory x y known also = absurd (also refl)
one_fault text a (Typing types.NoMemory) x y known also = absurd y
one_fault text (Lex f l) (Lex g m) x y known also = same_lex text f g l m x y
one_fault text (Lex f l) (Syntax g m) x y known also = absurd (lex_or_syntax text f g l m x y)
one_fault text (Lex f l) (Typing (types.Broken s q m)) x y known also = absurd (no_lex_fault text y.unit f l y.is_unit x)
one_fault text (Syntax f l) (Lex g m) x y known also = absurd (lex_or_syntax text g f m l y x)
one_fault text (Syntax f l) (Syntax g m) x y known also = same_syntax text f g l m x y
one_fault text (Syntax f l) (Typing (types.Broken s q m)) x y known also = absurd (no_syntax_fault text y.unit f l y.is_unit x)
one_fault text (Typing (types.Broken r p n)) (Lex g m) x y known also = absurd (no_lex_fault text x.unit g m x.is_unit y)
one_fault text (Typing (types.Broken r p n)) (Syntax g m) x y known also = absurd (no_syntax_fault text x.unit g m x.is_unit y)
one_fault text (Typing (types.Broken r p n)) (Typing (types.Broken s q m)) x y known also = same_type text r s p q n m x y
