-- The iterations of the reader of statements in one another.
use Rattle.std.proofs.Common.{◌≡◌, refl, sym, ◌∙◌, ap, ℕ, suc, ◌-◌, ◌<◌, List, [], ◌∷◌, ◌++◌, length, length-append, Ok, Err, arith}
use Rattle.pw_grammar.specs.declared.error.SyntaxError.{SyntaxError}
use Rattle.pw_grammar.specs.declared.error.SyntaxError.TheVariants.{At}
use Rattle.pw_grammar.specs.Reading.Steps.{Position, ReadResult, read_then}
use Rattle.pw_grammar.specs.Reading.Expressions.{expression}
use Rattle.pw_grammar.specs.Reading.Statements.{statement}
use Rattle.pw_parse.specs.Steps.Heads.{front, closed}
use Rattle.pw_parse.specs.Steps.Nesting.{close_at, resume, unread}
use Rattle.pw_parse.specs.declared.control_head.Head.{Head}
use Rattle.pw_parse.specs.declared.control_head.Front.{Front}
use Rattle.pw_parse.specs.declared.control_head.Front.TheVariants as f
use Rattle.pw_parse.proofs.Heads.{follow, statement_front, closes}
use Rattle.pw_tree.specs.declared.stmt.Stmt.{Stmt}

-- a fault of the innermost is one of the outermost
pub fault_outward : (n : ℕ) (hs : List Head) (e : SyntaxError) → resume n hs (Err e) ≡ Err e
unfolding resume
fault_outward n [] e = refl
fault_outward n (g ∷ hs) e = ap (λ o. read_then o (close_at n g)) (fault_outward (n - 1) hs e)

-- the last head is the first that its statement goes on to
pub last_head : (n : ℕ) (hs : List Head) (g : Head) (o : ReadResult Stmt)
    → resume n (hs ++ g ∷ []) o ≡ resume n hs (read_then o (close_at (n - length hs) g))
unfolding resume
last_head n [] g o = let e : n ≡ n - 0 = omega arith in ap (λ m. read_then o (close_at m g)) e
last_head n (h ∷ hs) g o =
    let e : n - 1 - length hs ≡ n - length (h ∷ hs) = omega arith in
    ap (λ x. read_then x (close_at n h)) (last_head (n - 1) hs g o
    ∙ ap (λ m. resume (n - 1) hs (read_then o (close_at m g))) e)

-- ---- an iteration inward

-- a statement that is nowhere yet
pub outermost : (n : ℕ) (i : Position) → statement n i ≡ unread n [] i
unfolding resume
outermost n i = let e : n ≡ n - 0 = omega arith in ap (λ m. statement m i) e

pub too_deep : (n : ℕ) (hs : List Head) (i : Position) → n - length hs ≡ 0 → unread n hs i ≡ Err (At i.at)
unfolding statement
too_deep n hs i none = ap (λ m. resume n hs (statement m i)) none ∙ fault_outward n hs (At i.at)

-- the statement at a depth is its front and what follows
pub front_at : (d : ℕ) (i : Position) → 0 < d →
    statement d i ≡ read_then (front (expression d) (statement (d - 1)) d i) (follow (expression d) (statement (d - 1)))
front_at d i some =
    let e : d ≡ suc (d - 1) = omega (arith, some) in
    ap (λ m. statement m i) e ∙ (statement_front (d - 1) i
    ∙ ap (λ m. read_then (front (expression m) (statement (d - 1)) m i) (follow (expression m) (statement (d - 1)))) (sym e))

turned : (n d : ℕ) (hs : List Head) (i : Position) (o : ReadResult Front) → d ≡ n - length hs → 0 < d
    → front (expression d) (statement (d - 1)) d i ≡ o → unread n hs i ≡ resume n hs (read_then o (follow (expression d) (statement (d - 1))))
turned n d hs i o at some is =
    ap (λ m. resume n hs (statement m i)) (sym at) ∙ (ap (λ q. resume n hs q) (front_at d i some)
    ∙ ap (λ q. resume n hs (read_then q (follow (expression d) (statement (d - 1))))) is)

pub front_fault : (n d : ℕ) (hs : List Head) (i : Position) (e : SyntaxError) → d ≡ n - length hs → 0 < d
    → front (expression d) (statement (d - 1)) d i ≡ Err e → unread n hs i ≡ Err e
front_fault n d hs i e at some is = turned n d hs i (Err e) at some is ∙ fault_outward n hs e

deeper : (n d : ℕ) (hs : List Head) (g : Head) (j : Position) → d ≡ n - length hs
    → resume n hs (read_then (statement (d - 1) j) (close_at d g)) ≡ unread n (hs ++ g ∷ []) j
deeper n d hs g j at =
    let e : d - 1 ≡ n - length (hs ++ g ∷ []) = (let l = length-append hs (g ∷ []) in omega (arith, l, at)) in
    ap (λ m. resume n hs (read_then (statement (d - 1) j) (close_at m g))) at
    ∙ (sym (last_head n hs g (statement (d - 1) j)) ∙ ap (λ m. resume n (hs ++ g ∷ []) (statement m j)) e)

pub front_head : (n d : ℕ) (hs : List Head) (i : Position) (g : Head) (j : Position) → d ≡ n - length hs → 0 < d
    → front (expression d) (statement (d - 1)) d i ≡ Ok (f.Head g, j) → unread n hs i ≡ unread n (hs ++ g ∷ []) j
front_head n d hs i g j at some is = turned n d hs i (Ok (f.Head g, j)) at some is ∙ deeper n d hs g j at

pub front_whole : (n d : ℕ) (hs : List Head) (i : Position) (y : Stmt) (j : Position) → d ≡ n - length hs → 0 < d
    → front (expression d) (statement (d - 1)) d i ≡ Ok (f.Whole y, j) → unread n hs i ≡ resume n hs (Ok (y, j))
front_whole n d hs i y j at some is = turned n d hs i (Ok (f.Whole y, j)) at some is

-- ---- an iteration outward

outward : (n d : ℕ) (hs : List Head) (g : Head) (y : Stmt) (i : Position) (o : ReadResult Front) → d ≡ n - length hs
    → closed (expression d) g y i ≡ o → resume n (hs ++ g ∷ []) (Ok (y, i)) ≡ resume n hs (read_then o (follow (expression d) (statement (d - 1))))
outward n d hs g y i o at is =
    last_head n hs g (Ok (y, i)) ∙ (ap (λ m. resume n hs (close_at m g y i)) (sym at)
    ∙ (ap (λ q. resume n hs q) (closes (expression d) (statement (d - 1)) g y i)
    ∙ ap (λ q. resume n hs (read_then q (follow (expression d) (statement (d - 1))))) is))

pub closed_fault : (n d : ℕ) (hs : List Head) (g : Head) (y : Stmt) (i : Position) (e : SyntaxError) → d ≡ n - length hs
    → closed (expression d) g y i ≡ Err e → resume n (hs ++ g ∷ []) (Ok (y, i)) ≡ Err e
closed_fault n d hs g y i e at is = outward n d hs g y i (Err e) at is ∙ fault_outward n hs e

pub closed_whole : (n d : ℕ) (hs : List Head) (g : Head) (y : Stmt) (i : Position) (z : Stmt) (j : Position) → d ≡ n - length hs
    → closed (expression d) g y i ≡ Ok (f.Whole z, j) → resume n (hs ++ g ∷ []) (Ok (y, i)) ≡ resume n hs (Ok (z, j))
closed_whole n d hs g y i z j at is = outward n d hs g y i (Ok (f.Whole z, j)) at is

pub closed_head : (n d : ℕ) (hs : List Head) (g : Head) (y : Stmt) (i : Position) (h : Head) (j : Position) → d ≡ n - length hs
    → closed (expression d) g y i ≡ Ok (f.Head h, j) → resume n (hs ++ g ∷ []) (Ok (y, i)) ≡ unread n (hs ++ h ∷ []) j
closed_head n d hs g y i h j at is = outward n d hs g y i (Ok (f.Head h, j)) at is ∙ deeper n d hs h j at
