-- What a statement declares is not visible after the statement that it stands in.
use Rattle.std.proofs.Common.{◌≡◌, ℕ, ◌+◌, ◌≤◌, List, [], ◌∷◌, ◌++◌, length, take, refl, sym, ap, ◌∙◌, add-zero, add-one, arith}
use Rattle.std.proofs.lemmas.List.{take-append-le, length-append}
use Rattle.std.proofs.Math.Seq.{take-length}
use Rattle.pw_tree.specs.declared.ty.Ty.{Ty}
use Rattle.pw_tree.specs.Statements.{Statement, Statements, OptionalStatement, empty, block, local, set, evaluate, if_else, while_loop, do_loop, for_loop, returns, breaks, continues, nil, cons, absent, present}
use Rattle.pw_types.specs.declared.names.Local.{Local}
use Rattle.pw_types.specs.Scopes.{Scope}
use Rattle.pw_types.specs.Blocks.{Block, inner, declaring, locals_in, locals_in_all, locals_in_maybe, past, after, after_maybe}
use Rattle.pw_types.specs.Steps.CheckingStatements.{leave, after_all}

-- the scope in which the first n locals are visible
abbrev pub first_locals : ℕ → Scope → Scope
first_locals n scope = record scope { locals = take n scope.locals }

-- From a block to another after it: the first n locals stay, and k more are declared.
pub record Keeps (n : ℕ) (b : Block) (k : ℕ) (b' : Block) : Type 0 where
  pub within : n ≤ length b'.scope.locals
  pub scope : first_locals n b'.scope ≡ first_locals n b.scope
  pub count : b'.count ≡ b.count + k

pub stays : (n : ℕ) (b : Block) → n ≤ length b.scope.locals → Keeps n b 0 b
stays n b within = record { within = within; scope = refl; count = sym (add-zero b.count) }

pub passes : (n k : ℕ) (b : Block) → n ≤ length b.scope.locals → Keeps n b k (past k b)
passes n k b within = record { within = within; scope = refl; count = refl }

more_locals : (n : ℕ) (scope : Scope) (l : Local) → n ≤ length scope.locals
    → first_locals n (record scope { locals = scope.locals ++ l ∷ [] }) ≡ first_locals n scope
more_locals n scope l within =
    ap (λ (ls : List Local). let s : Scope = record scope { locals = ls } in s) (take-append-le n scope.locals (l ∷ []) within)

declares : (n : ℕ) (b : Block) (name : List ℕ) (ty : Ty) → n ≤ length b.scope.locals → Keeps n b 1 (declaring name ty b)
declares n b name ty within = record {
  within = omega (arith, length-append b.scope.locals (record { name = name; ty = ty; number = b.count } ∷ []));
  scope = more_locals n b.scope _ within;
  count = sym (add-one b.count);
}

pub then_keeps : (n k m : ℕ) (a b c : Block) → Keeps n a k b → Keeps n b m c → Keeps n a (k + m) c
then_keeps n k m a b c first second = record {
  within = second.within;
  scope = second.scope ∙ first.scope;
  count = omega (arith, first.count, second.count);
}

pub keeps : (n : ℕ) (s : Statement) (b : Block) → n ≤ length b.scope.locals → Keeps n b (locals_in s) (after s b)
unfolding locals_in
keeps n (empty at) b within = stays n b within
keeps n (block at ss) b within = passes n _ b within
keeps n (local at ty name e) b within = declares n b name ty within
keeps n (set at name i e) b within = stays n b within
keeps n (evaluate at e) b within = stays n b within
keeps n (if_else at c a d) b within = passes n _ b within
keeps n (while_loop at c s) b within = passes n _ b within
keeps n (do_loop at s c) b within = passes n _ b within
keeps n (for_loop at first c last s) b within = passes n _ b within
keeps n (returns at e) b within = stays n b within
keeps n (breaks at) b within = stays n b within
keeps n (continues at) b within = stays n b within

pub keeps_maybe : (n : ℕ) (s : OptionalStatement) (b : Block) → n ≤ length b.scope.locals →
    Keeps n b (locals_in_maybe s) (after_maybe s b)
unfolding locals_in_maybe
keeps_maybe n absent b within = stays n b within
keeps_maybe n (present s) b within = keeps n s b within

pub keeps_all : (n : ℕ) (ss : Statements) (b : Block) → n ≤ length b.scope.locals →
    Keeps n b (locals_in_all ss) (after_all ss b)
unfolding locals_in_all after_all
keeps_all n nil b within = stays n b within
keeps_all n (cons s ss) b within =
    let first = keeps n s b within in
    then_keeps n (locals_in s) (locals_in_all ss) b (after s b) (after_all ss (after s b)) first (keeps_all n ss (after s b) first.within)

-- the block round a statement, after it, where n locals were visible
pub left : (b b' : Block) (k : ℕ) → Keeps (length b.scope.locals) b k b' → leave b.start (length b.scope.locals) b' ≡ past k b
left b b' k kept =
    let scope : first_locals (length b.scope.locals) b'.scope ≡ b.scope =
    kept.scope ∙ ap (λ (ls : List Local). let s : Scope = record b.scope { locals = ls } in s) (take-length b.scope.locals) in
    ap (λ (s : Scope). let r : Block = record { scope = s; start = b.start; count = b'.count } in r) scope
    ∙ ap (λ (n : ℕ). let r : Block = record b { count = n } in r) kept.count

-- the same where the statement is a block of its own
pub left_inner : (b b' : Block) (k : ℕ) → Keeps (length b.scope.locals) (inner b) k b' →
    leave b.start (length b.scope.locals) b' ≡ past k b
left_inner b b' k kept = left b b' k (record { within = kept.within; scope = kept.scope; count = kept.count })

-- after no declaration
pub past_none : (b : Block) → past 0 b ≡ b
past_none b = ap (λ (n : ℕ). let r : Block = record b { count = n } in r) (add-zero b.count)
