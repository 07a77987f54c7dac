-- Each list of tokens has a tree or a first fault, and never both, and each at most once.
use Rattle.std.proofs.Common.{◌≡◌, suc, ◌<◌, ◌≤◌, ◌⊎◌, inl, inr, List, length, Result, Ok, Err, refl, ap, arith}
use Rattle.pw_grammar.specs.declared.error.SyntaxError.{SyntaxError}
use Rattle.pw_grammar.specs.declared.error.SyntaxError.TheVariants.{At, TooNested, TooLong, NoMemory}
use Rattle.pw_grammar.specs.Declarations.{lines_of}
use Rattle.pw_grammar.specs.Faults.{IsFirstFault, ComesBefore, token_of, rank}
use Rattle.pw_grammar.specs.Laws.{HasTree, HasReading, NotBoth, OneFault}
use Rattle.pw_grammar.specs.Reading.Whole.{parsed, Tells}
use Rattle.pw_grammar.proofs.Known.{reading_tells}
use Rattle.pw_lex.specs.declared.token.Token.{Token}
use Rattle.pw_tree.specs.declared.decl.Decl.{Decl}
use Rattle.pw_tree.specs.declared.decl.Unit.{Unit}

by_answer : (tokens : List Token) (answer : Result (List Decl) SyntaxError) → Tells tokens answer
    → ((unit : Unit) × HasTree tokens unit) ⊎ ((fault : SyntaxError) × IsFirstFault tokens fault)
by_answer tokens (Ok decls) tells = inl (record { decls = decls; lines = lines_of tokens }, tells)
by_answer tokens (Err fault) tells = inr (fault, tells)

-- a list is shorter than one more than its length, which is all that a reader of it asks
pub has_reading : HasReading
has_reading tokens =
    let short : length tokens < suc (length tokens) = omega arith in
    by_answer tokens (parsed (suc (length tokens)) tokens) (reading_tells (suc (length tokens)) tokens short)

pub not_both : NotBoth
not_both tokens unit fault tree first = tree.no_fault fault first.is

-- ---- one first fault

-- faults of which each comes before the other stand at one token, and in one place in the order there
same_token : (a b : SyntaxError) → ComesBefore a b → ComesBefore b a → token_of a ≡ token_of b
same_token a b (inl less) (inl more) = omega arith
same_token a b (inl less) (inr same) = (let e = same.0 in omega arith)
same_token a b (inr same) back = same.0

same_rank : (a b : SyntaxError) → ComesBefore a b → ComesBefore b a → rank a ≡ rank b
same_rank a b (inl less) (inl more) = omega arith
same_rank a b (inl less) (inr same) = (let e = same.0 in omega arith)
same_rank a b (inr same) (inl more) = (let e = same.0 in omega arith)
same_rank a b (inr same) (inr back) = (let low = same.1 in let high = back.1 in omega arith)

same_fault : (a b : SyntaxError) → token_of a ≡ token_of b → rank a ≡ rank b → a ≡ b
same_fault (At t) (At u) token place = ap At token
same_fault (At t) (TooNested u) token place = absurd (omega arith)
same_fault (At t) (TooLong u) token place = absurd (omega arith)
same_fault (At t) NoMemory token place = absurd (omega arith)
same_fault (TooNested t) (At u) token place = absurd (omega arith)
same_fault (TooNested t) (TooNested u) token place = ap TooNested token
same_fault (TooNested t) (TooLong u) token place = absurd (omega arith)
same_fault (TooNested t) NoMemory token place = absurd (omega arith)
same_fault (TooLong t) (At u) token place = absurd (omega arith)
same_fault (TooLong t) (TooNested u) token place = absurd (omega arith)
same_fault (TooLong t) (TooLong u) token place = ap TooLong token
same_fault (TooLong t) NoMemory token place = absurd (omega arith)
same_fault NoMemory (At u) token place = absurd (omega arith)
same_fault NoMemory (TooNested u) token place = absurd (omega arith)
same_fault NoMemory (TooLong u) token place = absurd (omega arith)
same_fault NoMemory NoMemory token place = refl

pub one_fault : OneFault
one_fault tokens fault other first also =
    let before = first.first other also.is in
    let after = also.first fault first.is in
    same_fault fault other (same_token fault other before after) (same_rank fault other before after)
