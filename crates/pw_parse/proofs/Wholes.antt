-- From what is read of a whole list to what is answered.
use Rattle.std.proofs.Common.{◌≡◌, ◌≢◌, sym, subst, ℕ, suc, ◌<◌, ◌^◌, List, length, take, Some, Result, Ok, Err}
use Rattle.pw_grammar.specs.declared.error.SyntaxError.{SyntaxError}
use Rattle.pw_grammar.specs.declared.error.SyntaxError.TheVariants.{NoMemory}
use Rattle.pw_grammar.specs.Declarations.{Derives, lines_of}
use Rattle.pw_grammar.specs.Faults.{IsFaultless, IsFirstFault, token_of}
use Rattle.pw_grammar.specs.Reading.Whole.{first_limit, judged, judged_by, up_to, parsed, Tells}
use Rattle.pw_grammar.specs.Reading.Declarations.{unit}
use Rattle.pw_grammar.proofs.Exports.{reading_tells}
use Rattle.pw_parse.specs.Steps.Answers.{GivesAnswer}
use Rattle.pw_lex.specs.declared.token.Token.{Token}
use Rattle.pw_tree.specs.declared.decl.Decl.{Decl}

-- with a limit, the tokens up to it are read
pub parsed_under : (n : ℕ) (ts us : List Token) (limit : SyntaxError) (r : Result (List Decl) SyntaxError) →
    first_limit ts ≡ Some limit
    → us ≡ take (suc (token_of limit)) ts → GivesAnswer (judged_by limit (unit n (record { at = 0; rest = us }))) r → GivesAnswer (parsed n ts) r
unfolding parsed
parsed_under n ts us limit r is cut a =
    subst (λ l. GivesAnswer (judged l (unit n (record { at = 0; rest = up_to l ts }))) r) (sym is)
    (subst (λ z. GivesAnswer (judged_by limit (unit n (record { at = 0; rest = z }))) r) cut a)

tells_by : (ts : List Token) (r : Result (List Decl) SyntaxError) → length ts < 2 ^ 32 → parsed (2 ^ 32) ts ≡ r → Tells ts r
tells_by ts r short is = subst (λ o. Tells ts o) is (reading_tells (2 ^ 32) ts short)

pub derives_by : (ts : List Token) (decls : List Decl) (lines : List ℕ) → length ts < 2 ^ 32 →
    GivesAnswer (parsed (2 ^ 32) ts) (Ok decls) → lines ≡ lines_of ts
    → Derives ts (record { decls = decls; lines = lines })
derives_by ts decls lines short a l =
    let t = tells_by ts (Ok decls) short a in
    subst (λ ls. Derives ts (record { decls = decls; lines = ls })) (sym l) t.derives

pub faultless_by : (ts : List Token) (decls : List Decl) → length ts < 2 ^ 32 → GivesAnswer (parsed (2 ^ 32) ts) (Ok decls) →
    IsFaultless ts
faultless_by ts decls short a = let t = tells_by ts (Ok decls) short a in t.no_fault

pub first_by : (ts : List Token) (fault : SyntaxError) → length ts < 2 ^ 32 → GivesAnswer (parsed (2 ^ 32) ts) (Err fault) →
    fault ≢ NoMemory → IsFirstFault ts fault
first_by ts fault short a known = tells_by ts (Err fault) short (a known)
