-- What messages say of a fault of types: the rule, and where it is broken.
use Rattle.std.specs.Prelude.{ℕ, List, ◌++◌, codes, decimal}
use Rattle.pw_base.specs.declared.pos.Pos.{Pos}
use Rattle.pw_types.specs.declared.rule.Rule.{Rule}
use Rattle.pw_types.specs.declared.error.TypeError.{TypeError}
use Rattle.pw_types.specs.declared.error.TypeError.TheVariants.{Broken, NoMemory}
use Rattle.pw_types.specs.RuleNames.{name_of}

-- where it is: the line, and the number of the token
abbrev pub at_token : (line token : ℕ) → List ℕ
at_token line token = codes " at line " ++ (decimal line ++ (codes " token " ++ decimal token))

-- the broken rule, and the last token of the phrase that breaks it
abbrev pub rule_message : Rule → Pos → List ℕ
rule_message rule at = codes "type " ++ (name_of rule ++ at_token at.line at.token)

-- why a unit has no typed unit
abbrev pub type_message : TypeError → List ℕ
type_message (Broken rule at _) = rule_message rule at
type_message NoMemory = codes "out of memory"
