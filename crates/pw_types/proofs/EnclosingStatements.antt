-- What a statement that holds others comes to: each part in its turn, and then what is left.
use Rattle.std.proofs.Common.{◌≡◌, ℕ, ◌+◌, ◌≤◌, max, List, [], ◌∷◌, ◌++◌, length, Option, Some, option_map, refl, sym, ap, ◌∙◌, append_assoc, arith}
use Rattle.std.proofs.Math.Nat.{max-zero}
use Rattle.std.proofs.lemmas.List.{append-nil}
use Rattle.pw_tree.specs.Expressions.{Span, Expression}
use Rattle.pw_tree.specs.TypedExpressions.{TypedExpression}
use Rattle.pw_tree.specs.Statements.{Statement, Statements, OptionalStatement, block, if_else, while_loop, do_loop, for_loop, nil, cons, absent, present}
use Rattle.pw_tree.specs.TypedStatements.{TypedStatement, TypedStatements}
use Rattle.pw_tree.specs.TypedStatements as tree
use Rattle.pw_types.specs.declared.fault.Fault.{Fault}
use Rattle.pw_types.specs.declared.role.Role.TheVariants as roles
use Rattle.pw_tree.specs.Held.{held, held_option, held_by, held_by_all, held_by_maybe}
use Rattle.pw_types.specs.Steps.Uses.{uses, uses_by, uses_by_all, uses_by_maybe, uses_of_option}
use Rattle.std.specs.Prelude.{unwrap_or}
use Rattle.pw_types.specs.Scopes.{Scope}
use Rattle.pw_types.specs.Typed.{typed}
use Rattle.pw_types.specs.Blocks.{Setting, part, body, head, Block, inner, locals_in, locals_in_all, locals_in_maybe, past, after, after_maybe}
use Rattle.pw_types.specs.Steps.StatementFaults.{faults_of_whole, faults_of_option, faults_by, faults_by_all, faults_by_maybe}
use Rattle.pw_types.specs.TypedStatements.{no_expression, typed_expression, typed_statement, typed_statements, optional_typed_statement}
use Rattle.pw_types.specs.Steps.CheckingStatements.{WalkResult, outcome, judged, leave, after_all, before, rest_of_block, rest_of_if, rest_of_do, rest_of_for, after_first, closed}
use Rattle.pw_types.proofs.LeavingStatements.{then_keeps, keeps, keeps_maybe, keeps_all, left, left_inner, past_none}

-- ---- two outcomes are one

pub same : {f f' : List Fault} {c c' : TypedStatement} {u u' : List ℕ} {h h' : ℕ} {b b' : Block}
    → f ≡ f' → c ≡ c' → u ≡ u' → h ≡ h' → b ≡ b'
    → let x : WalkResult = record { faults = f; typed = c; used = u; held = h; block = b } in
    let y : WalkResult = record { faults = f'; typed = c'; used = u'; held = h'; block = b' } in x ≡ y
same ef ec eu eh eb = cc

pub max_assoc : (a b c : ℕ) → max a (max b c) ≡ max (max a b) c
max_assoc a b c = omega arith

-- what is used and held by two parts, one after the other
pub used_by_both : (u v w : List ℕ) → u ++ (v ++ w) ≡ (u ++ v) ++ w
used_by_both u v w = sym (append_assoc u v w)

-- the block that a statement leaves
abbrev pub out_of : Block → Block → Block
out_of b = leave b.start (length b.scope.locals)

within : (b : Block) → length b.scope.locals ≤ length b.scope.locals
within b = omega arith

-- three parts
used_by_three : (u v w z : List ℕ) → u ++ (v ++ (w ++ z)) ≡ ((u ++ v) ++ w) ++ z
used_by_three u v w z = used_by_both u v (w ++ z) ∙ used_by_both (u ++ v) w z

pub zero-max : (n : ℕ) → max 0 n ≡ n
zero-max n = omega arith

-- ---- blocks

pub block_begins : (x : Setting) (b : Block) (u : List ℕ) (h : ℕ) (at : Span) (s : Statement) (ss : Statements)
    → outcome x b u h (block at (cons s ss)) ≡ rest_of_block x (out_of b) [] ss (outcome (part x) (inner b) u h s)
unfolding faults_by faults_by_all typed_statement typed_statements uses_by uses_by_all held_by held_by_all before after_all
block_begins x b u h at s ss =
    same refl refl (used_by_both u _ _) (max_assoc h _ _)
    (sym (left_inner b _ _ (keeps_all (length b.scope.locals) (cons s ss) (inner b) (within b))))

pub before_snoc : (done : List TypedStatement) (c : TypedStatement) (more : TypedStatements) →
    before done (tree.cons c more) ≡ before (done ++ c ∷ []) more
unfolding before
before_snoc [] c more = refl
before_snoc (d ∷ ds) c more = ap (λ (u : TypedStatements). tree.cons d u) (before_snoc ds c more)

pub before_nothing : (done : List TypedStatement) → before done tree.nil ≡ tree.typed_statements done
unfolding before
before_nothing [] = refl
before_nothing (d ∷ ds) = ap (λ (u : TypedStatements). tree.cons d u) (before_nothing ds)

pub block_goes_on : (x : Setting) (out : Block → Block) (done : List TypedStatement) (s : Statement) (ss : Statements)
    (c : TypedStatement) (b : Block) (u : List ℕ) (h : ℕ)
    → rest_of_block x out done (cons s ss) (judged c b u h) ≡ rest_of_block x out (done ++ c ∷ []) ss (outcome (part x) b u h s)
unfolding faults_by_all typed_statements uses_by_all held_by_all after_all
block_goes_on x out done s ss c b u h =
    same refl (ap (λ (v : TypedStatements). tree.block v) (before_snoc done c _)) (used_by_both u _ _) (max_assoc h _ _) refl

pub block_ends : (x : Setting) (out : Block → Block) (done : List TypedStatement) (c : TypedStatement) (b : Block) (u : List ℕ) (h : ℕ)
    → rest_of_block x out done nil (judged c b u h) ≡ judged (tree.block (tree.typed_statements (done ++ c ∷ []))) (out b) u h
unfolding faults_by_all typed_statements uses_by_all held_by_all after_all
block_ends x out done c b u h =
    same refl (ap (λ (v : TypedStatements). tree.block v) (before_snoc done c tree.nil ∙ before_nothing (done ++ c ∷ []))) (append-nil u) (max-zero h) refl

pub block_of_none : (x : Setting) (b : Block) (u : List ℕ) (h : ℕ) (at : Span) →
    outcome x b u h (block at nil) ≡ judged (tree.block tree.nil) b u h
unfolding faults_by faults_by_all typed_statement typed_statements uses_by uses_by_all held_by held_by_all locals_in_all
block_of_none x b u h at =
    same refl refl (append-nil u) (max-zero h) (past_none b)

-- ---- `if`

same_if : {t v : TypedExpression} {a : TypedStatement} {d : tree.OptionalTypedStatement} → t ≡ v →
    tree.if_else t a d ≡ tree.if_else v a d
same_if {a = a} {d = d} is = ap (λ (w : TypedExpression). tree.if_else w a d) is

same_while : {t v : TypedExpression} {a : TypedStatement} → t ≡ v → tree.while_loop t a ≡ tree.while_loop v a
same_while {a = a} is = ap (λ (w : TypedExpression). tree.while_loop w a) is

same_for : {first last : tree.OptionalTypedStatement} {t v : Option TypedExpression} {a : TypedStatement} → t ≡ v →
    tree.for_loop first t last a ≡ tree.for_loop first v last a
same_for {first = first} {last = last} {a = a} is = ap (λ (w : Option TypedExpression). tree.for_loop first w last a) is

-- what is held by a condition and by what stands after it
held_after : (h n : ℕ) {t v : TypedExpression} → t ≡ v → max h (max (held t) n) ≡ max (max h (held v)) n
held_after h n {v = v} is = ap (λ (w : TypedExpression). max h (max (held w) n)) is ∙ max_assoc h (held v) n

held_after_option : (h n : ℕ) {t v : Option TypedExpression} → t ≡ v →
    max h (max (held_option t) n) ≡ max (max h (held_option v)) n
held_after_option h n {v = v} is = ap (λ (w : Option TypedExpression). max h (max (held_option w) n)) is ∙ max_assoc h (held_option v) n

-- the condition's tree, where it has one
pub tree_is : (scope : Scope) (e : Expression) (t : TypedExpression) → typed scope e ≡ Some t → typed_expression scope e ≡ t
tree_is scope e t is = ap (λ (o : Option TypedExpression). unwrap_or o no_expression) is

pub on_left : {xs ys : List Fault} → xs ≡ [] → xs ++ ys ≡ ys
on_left {ys} none = ap (λ (zs : List Fault). zs ++ ys) none

pub if_begins : (x : Setting) (b : Block) (u : List ℕ) (h : ℕ) (at : Span) (c : Expression) (a : Statement)
    (d : OptionalStatement) (t : TypedExpression)
    → faults_of_whole b.scope roles.Value c ≡ [] → typed_expression b.scope c ≡ t
    → outcome x b u h (if_else at c a d) ≡ rest_of_if x (out_of b) t d (outcome (part x) b (u ++ uses b.scope c) (max h (held t)) a)
unfolding faults_by typed_statement uses_by held_by locals_in
if_begins x b u h at c a d t none is =
    same (on_left none) (same_if is) (used_by_three u _ _ _)
    (held_after h _ is ∙ max_assoc (max h (held t)) _ _)
    (sym (left b _ _ (then_keeps (length b.scope.locals) (locals_in a) (locals_in_maybe d) b (after a b) (after_maybe d (after a b))
    (keeps _ a b (within b)) (keeps_maybe _ d (after a b) (keeps _ a b (within b)).within))))

pub if_ends : (x : Setting) (out : Block → Block) (t : TypedExpression) (a : TypedStatement) (b : Block) (u : List ℕ) (h : ℕ)
    → rest_of_if x out t absent (judged a b u h) ≡ judged (tree.if_else t a tree.absent) (out b) u h
unfolding faults_by_maybe uses_by_maybe optional_typed_statement held_by_maybe
if_ends x out t a b u h = same refl refl (append-nil u) (max-zero h) refl

pub if_goes_on : (x : Setting) (out : Block → Block) (t : TypedExpression) (d : Statement) (a : TypedStatement) (b : Block) (u : List ℕ) (h : ℕ)
    → let w : WalkResult = outcome (part x) b u h d in
    rest_of_if x out t (present d) (judged a b u h) ≡ closed out (tree.if_else t a (tree.present w.typed)) w
unfolding faults_by_maybe uses_by_maybe optional_typed_statement held_by_maybe
if_goes_on x out t d a b u h = refl

-- ---- `while` and `do`

pub while_begins : (x : Setting) (b : Block) (u : List ℕ) (h : ℕ) (at : Span) (c : Expression) (s : Statement) (t : TypedExpression)
    → faults_of_whole b.scope roles.Value c ≡ [] → typed_expression b.scope c ≡ t
    → let w : WalkResult = outcome (body x) b (u ++ uses b.scope c) (max h (held t)) s in
    outcome x b u h (while_loop at c s) ≡ closed (out_of b) (tree.while_loop t w.typed) w
unfolding faults_by typed_statement uses_by held_by locals_in
while_begins x b u h at c s t none is =
    same (on_left none) (same_while is) (used_by_both u _ _)
    (held_after h _ is)
    (sym (left b _ _ (keeps _ s b (within b))))

abbrev do_with : Setting → Block → List ℕ → ℕ → Expression → Statement → Block → WalkResult
do_with x b u h c s end = record {
  faults = faults_by (body x) b s ++ faults_of_whole end.scope roles.Value c;
  typed = tree.do_loop (typed_statement (body x) b s) (typed_expression end.scope c);
  used = (u ++ uses_by b s) ++ uses end.scope c;
  held = max (max h (held_by (typed_statement (body x) b s))) (held (typed_expression end.scope c));
  block = end;
}

pub do_begins : (x : Setting) (b : Block) (u : List ℕ) (h : ℕ) (at : Span) (c : Expression) (s : Statement)
    → outcome x b u h (do_loop at s c) ≡ rest_of_do (out_of b) c (outcome (body x) b u h s)
unfolding faults_by typed_statement uses_by held_by locals_in
do_begins x b u h at c s =
    let whole : outcome x b u h (do_loop at s c) ≡ do_with x b u h c s (past (locals_in s) b) =
    same refl refl (used_by_both u _ _) (max_assoc h _ _) refl in
    whole ∙ ap (do_with x b u h c s) (sym (left b _ _ (keeps _ s b (within b))))

pub do_ends : (out : Block → Block) (c : Expression) (s : TypedStatement) (b : Block) (u : List ℕ) (h : ℕ) (t : TypedExpression)
    → faults_of_whole (out b).scope roles.Value c ≡ [] → typed_expression (out b).scope c ≡ t
    → rest_of_do out c (judged s b u h) ≡ judged (tree.do_loop s t) (out b) (u ++ uses (out b).scope c) (max h (held t))
do_ends out c s b u h t none is =
    same none (ap (λ (v : TypedExpression). tree.do_loop s v) is) refl (ap (λ (v : TypedExpression). max h (held v)) is) refl

-- ---- `for`

for_leaves : (b : Block) (first : OptionalStatement) (last : OptionalStatement) (s : Statement)
    → out_of b (after s (after_maybe last (after_maybe first (inner b)))) ≡ past (locals_in_maybe first + (locals_in_maybe last + locals_in s)) b
for_leaves b first last s =
    let n : ℕ = length b.scope.locals in
    let one = keeps_maybe n first (inner b) (within b) in
    let two = keeps_maybe n last (after_maybe first (inner b)) one.within in
    let three = keeps n s (after_maybe last (after_maybe first (inner b))) two.within in
    left_inner b _ _ (then_keeps n _ _ _ _ _ one (then_keeps n _ _ _ _ _ two three))

pub for_begins : (x : Setting) (b : Block) (u : List ℕ) (h : ℕ) (at : Span) (first : Statement) (c : Option Expression)
    (last : OptionalStatement) (s : Statement)
    → let w : WalkResult = outcome (head x) (inner b) u h first in
    outcome x b u h (for_loop at (present first) c last s) ≡ after_first x (out_of b) (tree.present w.typed) c last s w
unfolding faults_by faults_by_maybe typed_statement optional_typed_statement uses_by uses_by_maybe held_by held_by_maybe locals_in locals_in_maybe
for_begins x b u h at first c last s =
    same refl refl (used_by_both u _ _) (max_assoc h _ _) (sym (for_leaves b (present first) last s))

pub for_begins_bare : (x : Setting) (b : Block) (u : List ℕ) (h : ℕ) (at : Span) (c : Option Expression)
    (last : OptionalStatement) (s : Statement) (old : TypedStatement)
    → outcome x b u h (for_loop at absent c last s) ≡ after_first x (out_of b) tree.absent c last s (judged old (inner b) u h)
unfolding faults_by faults_by_maybe typed_statement optional_typed_statement uses_by uses_by_maybe held_by held_by_maybe locals_in locals_in_maybe
for_begins_bare x b u h at c last s old =
    same refl refl refl (ap (λ (n : ℕ). max h n) (zero-max _)) (sym (for_leaves b absent last s))

pub for_goes_on : (x : Setting) (out : Block → Block) (first : tree.OptionalTypedStatement) (c : Option Expression)
    (last s : Statement) (old : TypedStatement) (b : Block) (u : List ℕ) (h : ℕ) (t : Option TypedExpression)
    → faults_of_option b.scope roles.Value c ≡ [] → option_map (typed_expression b.scope) c ≡ t
    → let w : WalkResult = outcome (head x) b (u ++ uses_of_option b.scope c) (max h (held_option t)) last in
    after_first x out first c (present last) s (judged old b u h) ≡ rest_of_for x out first t (tree.present w.typed) s w
unfolding faults_by_maybe optional_typed_statement uses_by_maybe held_by_maybe
for_goes_on x out first c last s old b u h t none is =
    same (on_left none) (same_for is) (used_by_three u _ _ _)
    (held_after_option h _ is ∙ max_assoc (max h (held_option t)) _ _) refl

pub for_has_no_last : (x : Setting) (out : Block → Block) (first : tree.OptionalTypedStatement) (c : Option Expression)
    (s : Statement) (old : TypedStatement) (b : Block) (u : List ℕ) (h : ℕ) (t : Option TypedExpression)
    → faults_of_option b.scope roles.Value c ≡ [] → option_map (typed_expression b.scope) c ≡ t
    → let w : WalkResult = outcome (body x) b (u ++ uses_of_option b.scope c) (max h (held_option t)) s in
    after_first x out first c absent s (judged old b u h) ≡ closed out (tree.for_loop first t tree.absent w.typed) w
unfolding faults_by_maybe optional_typed_statement uses_by_maybe held_by_maybe
for_has_no_last x out first c s old b u h t none is =
    same (on_left none) (same_for is) (used_by_both u _ _)
    (held_after_option h _ is ∙ ap (λ (n : ℕ). max (max h (held_option t)) n) (zero-max _)) refl

pub for_ends : (x : Setting) (out : Block → Block) (first : tree.OptionalTypedStatement) (t : Option TypedExpression)
    (last : tree.OptionalTypedStatement) (s : Statement) (old : TypedStatement) (b : Block) (u : List ℕ) (h : ℕ)
    → let w : WalkResult = outcome (body x) b u h s in
    rest_of_for x out first t last s (judged old b u h) ≡ closed out (tree.for_loop first t last w.typed) w
for_ends x out first t last s old b u h = refl
