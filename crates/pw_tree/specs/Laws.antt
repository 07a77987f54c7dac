-- Two laws of the meaning: what a greater bound on the steps can change.
use Rattle.std.specs.Prelude.{◌≡◌, ℕ, ◌≤◌, ◌≢◌, List, ◌++◌}
use Rattle.pw_tree.specs.Names.{Project}
use Rattle.pw_tree.specs.States.{spent}
use Rattle.pw_tree.specs.Meaning.{meaning, stopped}

-- The second list begins with the first.
abbrev pub IsPrefix : List ℕ → List ℕ → Type 0
IsPrefix xs ys = (zs : List ℕ) × (ys ≡ xs ++ zs)

-- The output for a smaller bound is a prefix of the output for a greater one.
abbrev pub OutputGrows : Type 0
OutputGrows = (project : Project) (input : List ℕ) (m n : ℕ) → m ≤ n →
    IsPrefix (meaning project input m).output (meaning project input n).output

-- A run that ends otherwise than spent is the same for every greater bound.
abbrev pub EndStays : Type 0
EndStays = (project : Project) (input : List ℕ) (m n : ℕ) → m ≤ n →
    (meaning project input m).end ≢ stopped spent → meaning project input n ≡ meaning project input m
