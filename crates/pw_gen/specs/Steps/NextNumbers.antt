-- The numbers of the next variables with and without an initialiser.
use Rattle.std.specs.Prelude.{ℕ, ◌+◌, Bool, true, false}
use Rattle.pw_gen.specs.declared.numbers.Next.{Next}

-- after a variable with an initialiser, or one without
abbrev pub next_after : (initialised others : ℕ) → Bool → Next
next_after initialised others true = record { initialised = initialised + 1; others = others }
next_after initialised others false = record { initialised = initialised; others = others + 1 }
