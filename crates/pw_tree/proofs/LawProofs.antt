-- The two laws of the meaning.
use Rattle.std.proofs.Common.{◌≡◌, ℕ, ◌+◌, ◌-◌, ◌≤◌, ◌≢◌, List, [], refl, sym, ap, subst, arith}
use Rattle.pw_tree.specs.Laws.{IsPrefix, OutputGrows, EndStays}
use Rattle.pw_tree.specs.Names.{Project}
use Rattle.pw_tree.specs.States.{Value, spent, checked, Outcome, gives, stops}
use Rattle.pw_tree.specs.Meaning.{stopped, run_of, main_definition, initial_state, call_of}
use Rattle.pw_tree.proofs.Growth.{prefix_self}
use Rattle.pw_tree.proofs.Follows.{Follows, follows_call}

output_follows : (k : ℕ) (r r' : Outcome Value) → Follows k r r' → IsPrefix (run_of r).output (run_of r').output
output_follows k (gives v st) r' f = subst (λ q. IsPrefix st.output (run_of q).output) (sym f.same) (prefix_self st.output)
output_follows k (stops (checked fault d line) st) r' f =
    subst (λ q. IsPrefix st.output (run_of q).output) (sym f.same) (prefix_self st.output)
output_follows k (stops spent st) (gives v st') f = f.same
output_follows k (stops spent st) (stops why st') f = f.same

end_follows : (k : ℕ) (r r' : Outcome Value) → Follows k r r' → (run_of r).end ≢ stopped spent → run_of r' ≡ run_of r
end_follows k (gives v st) r' f h = ap run_of f.same
end_follows k (stops (checked fault d line) st) r' f h = ap run_of f.same
end_follows k (stops spent st) r' f h = absurd (h refl)

-- The run with a greater bound follows the one with a smaller bound.
meaning_follows : (project : Project) (input : List ℕ) (m n : ℕ) → m ≤ n →
    Follows (n - m) (call_of project m (main_definition project) [] (initial_state project input m)) (call_of project n (main_definition project) [] (initial_state project input n))
meaning_follows project input m n h =
    let e : m + (n - m) ≡ n = omega arith in
    subst (λ steps. Follows (n - m) (call_of project m (main_definition project) [] (initial_state project input m)) (call_of project n (main_definition project) [] (initial_state project input steps)))
    e (follows_call (n - m) project m n h (main_definition project) [] (initial_state project input m))

pub output_grows : OutputGrows
output_grows project input m n h = output_follows (n - m) _ _ (meaning_follows project input m n h)

pub end_stays : EndStays
end_stays project input m n h = end_follows (n - m) _ _ (meaning_follows project input m n h)
