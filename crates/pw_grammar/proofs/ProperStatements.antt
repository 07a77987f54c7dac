-- The trees of statements: a local is declared in a block or by a `for` alone, the parts of a `for` are simple, and numbers are
-- those of the tokens.
use Rattle.std.proofs.Common.{◌≡◌, refl, sym, subst, ℕ, suc, ◌+◌, Bool, true, false, List, [], ◌∷◌, ◌++◌, length, Option, Some, None}
use Rattle.std.specs.Prelude.{⊤}
use Rattle.std.specs.Option.{option_map}
use Rattle.pw_grammar.specs.declared.sort.Sort.{Sort}
use Rattle.pw_grammar.specs.declared.sort.Sort.TheVariants as s
use Rattle.pw_grammar.specs.Terminals.{sort}
use Rattle.pw_grammar.specs.Expressions.{spelled}
use Rattle.pw_grammar.specs.Statements.{spelled_type, LocalDerivation, plain, IsLocal, spelled_local, kind_of_local, SimpleDerivation, assign, assign_element, spelled_simple, kind_of_simple, ForStartDerivation, no_start, local_start, simple_start, IsStart, spelled_start, tree_of_start, spelled_maybe, spelled_step, tree_of_step, StatementDerivation, block, declare, simple, if_only, while_do, do_while, for_do, leave, jump, StatementDerivations, spelled_statement, spelled_statements, IsStatement, AreStatements, statement_node, jump_of, after_test, after_head, after_part, kind_of, trees_of_statements}
use Rattle.pw_grammar.specs.Statements as phrase
use Rattle.pw_grammar.proofs.PlainNodes.{statement-Empty, statement-Block, statement-Local, statement-Set, statement-Eval, statement-If, statement-While, statement-Do, statement-For, statement-Return, statement-Break, statement-Continue}
use Rattle.pw_grammar.proofs.SmallTokens.{AreSmall, small_left, small_right, numbers, maybe_numbers}
use Rattle.pw_grammar.proofs.Typed.{value_type}
use Rattle.pw_lex.specs.declared.token.Token.{Token}
use Rattle.pw_tree.specs.Statements.{Statement, OptionalStatement, optional_statement, statement_of, statements_of}
use Rattle.pw_tree.specs.Proper.{IsNoDeclaration, IsProper, AreProper, IsMaybeProper, HasStatementNumbers, HaveStatementNumbers, HasMaybeNumbers}
use Rattle.pw_tree.specs.Proper as proper
use Rattle.pw_tree.specs.Statements as tree

-- a statement's tree; where it may not declare a local, it does not
pub record Fine (declares : Bool) (x : Statement) : Type 0 where
  pub proper : IsProper x
  pub plain : declares ≡ false → IsNoDeclaration x
  pub numbers : HasStatementNumbers x

-- a part of a `for`, the last or the first
pub record FinePart (x : Statement) : Type 0 where
  pub simple : proper.IsSimpleStatement x
  pub fine : Fine false x

pub record FineFirst (x : OptionalStatement) : Type 0 where
  pub first : proper.IsFirstPart x
  pub proper : IsMaybeProper x
  pub numbers : HasMaybeNumbers x

pub record FineLast (x : OptionalStatement) : Type 0 where
  pub last : proper.IsLastPart x
  pub numbers : HasMaybeNumbers x

by_form : {declares : Bool} {x y : Statement} → x ≡ y → Fine declares y → Fine declares x
by_form {declares} e f = subst (Fine declares) (sym e) f

part_by_form : {x y : Statement} → x ≡ y → FinePart y → FinePart x
part_by_form e f = subst FinePart (sym e) f

-- ---- locals and simple statements

local_fine : (at : ℕ) (l : LocalDerivation) → IsLocal l → AreSmall (spelled_local l) →
    Fine true (statement_of (statement_node at (spelled_local l) (kind_of_local at l)))
unfolding IsProper HasStatementNumbers
local_fine at (plain ty x e) is h = by_form (statement-Local at (spelled_local (plain ty x e)) _ _ None)
    (record { proper = value_type ty is.0; plain = λ c. cc; numbers = tt })
local_fine at (phrase.set ty x q a e) is h = by_form (statement-Local at (spelled_local (phrase.set ty x q a e)) _ _ (Some _))
    (record {
      proper = value_type ty is.0;
      plain = λ c. cc;
      numbers = numbers (suc (suc (at + length (spelled_type ty)))) a
          (small_left (spelled a) (e ∷ []) (small_right (spelled_type ty) (x ∷ q ∷ (spelled a ++ e ∷ [])) h).1.1);
    })

simple_fine : (at : ℕ) (ts : List Token) (a : SimpleDerivation) → AreSmall (spelled_simple a) →
    FinePart (statement_of (statement_node at ts (kind_of_simple at a)))
unfolding IsProper HasStatementNumbers
simple_fine at ts (assign x q a) h = part_by_form (statement-Set at ts _ None _)
    (record { simple = tt; fine = record { proper = tt; plain = λ _. tt; numbers = (tt, numbers (suc (suc at)) a h.1.1) } })
simple_fine at ts (assign_element x o i c q a) h =
    let later = small_right (spelled i) (c ∷ q ∷ spelled a) h.1.1 in
    part_by_form (statement-Set at ts _ (Some _) _)
    (record {
      simple = tt;
      fine = record {
        proper = tt;
        plain = λ _. tt;
        numbers = (numbers (suc (suc at)) i (small_left (spelled i) (c ∷ q ∷ spelled a) h.1.1), numbers (suc (suc (suc (suc at) + length (spelled i)))) a later.1.1);
      };
    })
simple_fine at ts (phrase.evaluate a) h = part_by_form (statement-Eval at ts _)
    (record { simple = tt; fine = record { proper = tt; plain = λ _. tt; numbers = numbers at a h } })

first_of_simple : (x : Statement) → proper.IsSimpleStatement x → proper.IsSimpleOrDeclaration x
first_of_simple (tree.set at name i e) h = tt
first_of_simple (tree.evaluate at e) h = tt
first_of_simple (tree.local at ty name e) h = tt
first_of_simple (tree.empty at) h = h
first_of_simple (tree.block at ss) h = h
first_of_simple (tree.if_else at c a d) h = h
first_of_simple (tree.while_loop at c y) h = h
first_of_simple (tree.do_loop at y c) h = h
first_of_simple (tree.for_loop at first c last y) h = h
first_of_simple (tree.returns at e) h = h
first_of_simple (tree.breaks at) h = h
first_of_simple (tree.continues at) h = h

local_first : (at : ℕ) (ts : List Token) (l : LocalDerivation) →
    proper.IsSimpleOrDeclaration (statement_of (statement_node at ts (kind_of_local at l)))
local_first at ts (plain ty x e) = subst proper.IsSimpleOrDeclaration (sym (statement-Local at ts _ _ None)) tt
local_first at ts (phrase.set ty x q a e) = subst proper.IsSimpleOrDeclaration (sym (statement-Local at ts _ _ (Some _))) tt

start_fine : (at : ℕ) (a : ForStartDerivation) → IsStart a → AreSmall (spelled_start a) →
    FineFirst (optional_statement (option_map statement_of (tree_of_start at a)))
unfolding IsProper HasStatementNumbers
start_fine at (no_start e) is h = record { first = tt; proper = tt; numbers = tt }
start_fine at (local_start l) is h =
    let f = local_fine at l is h in record { first = local_first at (spelled_local l) l; proper = f.proper; numbers = f.numbers }
start_fine at (simple_start a e) is h =
    let f = simple_fine at (spelled_simple a) a (small_left (spelled_simple a) (e ∷ []) h) in
    record { first = first_of_simple _ f.simple; proper = f.fine.proper; numbers = f.fine.numbers }

step_fine : (at : ℕ) (a : Option SimpleDerivation) → AreSmall (spelled_step a) →
    FineLast (optional_statement (option_map statement_of (tree_of_step at a)))
unfolding IsProper HasStatementNumbers
step_fine at None h = record { last = tt; numbers = tt }
step_fine at (Some a) h =
    let f = simple_fine at (spelled_simple a) a h in record { last = f.simple; numbers = f.fine.numbers }

-- ---- every statement

jump_fine : (at : ℕ) (ts : List Token) (x : Sort) (declares : Bool) →
    Fine declares (statement_of (statement_node at ts (jump_of x)))
unfolding IsProper HasStatementNumbers
jump_fine at ts s.Break declares = by_form (statement-Break at ts) (record { proper = tt; plain = λ _. tt; numbers = tt })
jump_fine at ts _ declares = by_form (statement-Continue at ts) (record { proper = tt; plain = λ _. tt; numbers = tt })

as_declared : (declares : Bool) (x : Statement) → declares ≡ true → Fine true x → Fine declares x
as_declared declares x is f = subst (λ d. Fine d x) (sym is) f

as_plain : (declares : Bool) (x : Statement) → Fine false x → Fine declares x
as_plain declares x f = record { proper = f.proper; plain = λ _. f.plain refl; numbers = f.numbers }

mutual
  unfolding spelled_statement kind_of IsStatement IsProper HasStatementNumbers

  pub statement_fine : (declares : Bool) (at : ℕ) (y : StatementDerivation) → IsStatement declares y →
      AreSmall (spelled_statement y) →
      Fine declares (statement_of (statement_node at (spelled_statement y) (kind_of at y)))
  statement_fine declares at (phrase.empty e) is h = by_form (statement-Empty at (e ∷ [])) (record { proper = tt; plain = λ _. tt; numbers = tt })
  statement_fine declares at (block o body c) is h =
      let f = statements_fine (suc at) body is.1 (small_left (spelled_statements body) (c ∷ []) h.1) in
      by_form (statement-Block at (spelled_statement (block o body c)) _) (record { proper = f.0; plain = λ _. tt; numbers = f.1 })
  statement_fine declares at (declare l) is h = as_declared declares _ is.0 (local_fine at l is.1 h)
  statement_fine declares at (simple a e) is h =
      as_plain declares _ (simple_fine at (spelled_simple a ++ e ∷ []) a (small_left (spelled_simple a) (e ∷ []) h)).fine
  statement_fine declares at (if_only t o a c y) is h =
      let later = small_right (spelled a) (c ∷ spelled_statement y) h.1.1 in
      let f = statement_fine false (after_test at a) y is.4 later.1 in
      by_form (statement-If at (spelled_statement (if_only t o a c y)) _ _ None)
      (record {
        proper = (f.plain refl, tt, f.proper, tt);
        plain = λ _. tt;
        numbers = (numbers (suc (suc at)) a (small_left (spelled a) (c ∷ spelled_statement y) h.1.1), f.numbers, tt);
      })
  statement_fine declares at (phrase.if_else t o a c y e n) is h =
      let later = small_right (spelled a) (c ∷ (spelled_statement y ++ e ∷ spelled_statement n)) h.1.1 in
      let last = small_right (spelled_statement y) (e ∷ spelled_statement n) later.1 in
      let f = statement_fine false (after_test at a) y is.4 (small_left (spelled_statement y) (e ∷ spelled_statement n) later.1) in
      let g = statement_fine false (after_part (after_test at a) y) n is.7 last.1 in
      by_form (statement-If at (spelled_statement (phrase.if_else t o a c y e n)) _ _ (Some _))
      (record {
        proper = (f.plain refl, g.plain refl, f.proper, g.proper);
        plain = λ _. tt;
        numbers = (numbers (suc (suc at)) a (small_left (spelled a) (c ∷ (spelled_statement y ++ e ∷ spelled_statement n)) h.1.1), f.numbers, g.numbers);
      })
  statement_fine declares at (while_do t o a c y) is h =
      let later = small_right (spelled a) (c ∷ spelled_statement y) h.1.1 in
      let f = statement_fine false (after_test at a) y is.4 later.1 in
      by_form (statement-While at (spelled_statement (while_do t o a c y)) _ _)
      (record {
        proper = (f.plain refl, f.proper);
        plain = λ _. tt;
        numbers = (numbers (suc (suc at)) a (small_left (spelled a) (c ∷ spelled_statement y) h.1.1), f.numbers);
      })
  statement_fine declares at (do_while t y w o a c e) is h =
      let later = small_right (spelled_statement y) (w ∷ o ∷ (spelled a ++ c ∷ e ∷ [])) h.1 in
      let f = statement_fine false (suc at) y is.1 (small_left (spelled_statement y) (w ∷ o ∷ (spelled a ++ c ∷ e ∷ [])) h.1) in
      by_form (statement-Do at (spelled_statement (do_while t y w o a c e)) _ _)
      (record {
        proper = (f.plain refl, f.proper);
        plain = λ _. tt;
        numbers = (f.numbers, numbers (suc (after_part (suc at) y)) a (small_left (spelled a) (c ∷ e ∷ []) later.1.1));
      })
  statement_fine declares at (for_do t o start a e step c y) is h =
      let second = small_right (spelled_start start) (spelled_maybe a ++ e ∷ (spelled_step step ++ c ∷ spelled_statement y)) h.1.1 in
      let third = small_right (spelled_maybe a) (e ∷ (spelled_step step ++ c ∷ spelled_statement y)) second in
      let last = small_right (spelled_step step) (c ∷ spelled_statement y) third.1 in
      let f = start_fine (suc (suc at)) start is.2 (small_left (spelled_start start) (spelled_maybe a ++ e ∷ (spelled_step step ++ c ∷ spelled_statement y)) h.1.1) in
      let g = step_fine (suc (suc (suc at) + length (spelled_start start) + length (spelled_maybe a))) step
      (small_left (spelled_step step) (c ∷ spelled_statement y) third.1) in
      let k = statement_fine false (after_head at start a step) y is.7 last.1 in
      by_form (statement-For at (spelled_statement (for_do t o start a e step c y)) _ _ _ _)
      (record {
        proper = (f.first, g.last, k.plain refl, f.proper, k.proper);
        plain = λ _. tt;
        numbers = (
          f.numbers,
          maybe_numbers (suc (suc at) + length (spelled_start start)) a
              (small_left (spelled_maybe a) (e ∷ (spelled_step step ++ c ∷ spelled_statement y)) second),
          g.numbers,
          k.numbers,
        );
      })
  statement_fine declares at (leave t a e) is h =
      by_form (statement-Return at (spelled_statement (leave t a e)) _)
      (record { proper = tt; plain = λ _. tt; numbers = maybe_numbers (suc at) a (small_left (spelled_maybe a) (e ∷ []) h.1) })
  statement_fine declares at (jump t e) is h = jump_fine at (t ∷ e ∷ []) (sort t) declares

  pub statements_fine : (at : ℕ) (ys : StatementDerivations) → AreStatements ys → AreSmall (spelled_statements ys) →
      AreProper (statements_of (trees_of_statements at ys)) × HaveStatementNumbers (statements_of (trees_of_statements at ys))
  statements_fine at phrase.nil is h = (tt, tt)
  statements_fine at (phrase.cons y ys) is h =
      let f = statement_fine true at y is.0 (small_left (spelled_statement y) (spelled_statements ys) h) in
      let g = statements_fine (at + length (spelled_statement y)) ys is.1 (small_right (spelled_statement y) (spelled_statements ys) h) in
      ((f.proper, g.0), (f.numbers, g.1))
