-- The answers to the goals of `word_of` in `src/sort.rt`.
use Rattle.std.proofs.Common.{◌≡◌, ◌≢◌, ℕ, zero, suc, Bool, true, false, not, ◌&&◌, List, [], ◌∷◌, refl, sym, arith, rules}
use Rattle.std.specs.List.{list_all}
use Rattle.std.proofs.lemmas.Grind.{common_steps}
use Rattle.std.proofs.lemmas.Bool.{false≢true}
use Rattle.pw_grammar.specs.declared.sort.Sort.{Sort}
use Rattle.pw_grammar.specs.declared.sort.Sort.TheVariants as s
use Rattle.pw_grammar.specs.Terminals.{keyword_symbols, punctuator_symbols, numbered, sort_of, is_same}
use Rattle.pw_lex.specs.declared.token.TokenKind.{TokenKind}
use Rattle.pw_lex.specs.declared.token.TokenKind.TheVariants as t
use Rattle.pw_grammar.proofs.sort.word_of.Goals as goal

of_first : (b rest : Bool) → (not b && rest) ≡ true → b ≡ false
of_first false rest h = refl
of_first true rest h = sym h

of_rest : (b rest : Bool) → (not b && rest) ≡ true → rest ≡ true
of_rest false rest h = h
of_rest true rest h = absurd (false≢true h)

-- what fails at each entry of a table fails at each number
fails_at : (p : Sort → Bool) (table : List Sort) (number : ℕ) → p s.Other ≡ false → list_all (λ x. not (p x)) table ≡ true
    → p (numbered table number) ≡ false
fails_at p [] number e h = e
fails_at p (x ∷ table) zero e h = of_first (p x) (list_all (λ x. not (p x)) table) h
fails_at p (x ∷ table) (suc number) e h = fails_at p table number e (of_rest (p x) (list_all (λ x. not (p x)) table) h)

other : (kind : TokenKind) → ((name : List ℕ) → kind ≢ t.Word name) → is_same (sort_of kind) s.Name ≡ false
unfolding sort_of is_same
other (t.Word name) differs = absurd (differs name refl)
other (t.Number value unsigned) differs = refl
other (t.Char value) differs = refl
other (t.Keyword number) differs = fails_at (λ x. is_same x s.Name) keyword_symbols number refl refl
other (t.Punct number) differs = fails_at (λ x. is_same x s.Name) punctuator_symbols number refl refl

pub returns-in-Number : goal.returns-in-Number
returns-in-Number c = other c.args.kind.now (λ name e. first_of (search rules, grind (arith, common_steps)))
