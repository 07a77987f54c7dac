-- The names of the rules, as messages give them.
use Rattle.std.specs.Prelude.{ℕ, List, codes}
use Rattle.pw_types.specs.declared.rule.Rule.{Rule}
use Rattle.pw_types.specs.declared.rule.Rule.TheVariants as rules

-- the name of a rule
abbrev pub name_of : Rule → List ℕ
name_of rules.Unknown = codes "Unknown"
name_of rules.Redeclared = codes "Redeclared"
name_of rules.Conflict = codes "Conflict"
name_of rules.NotValue = codes "NotValue"
name_of rules.Operands = codes "Operands"
name_of rules.ArgCount = codes "ArgCount"
name_of rules.ArgType = codes "ArgType"
name_of rules.NotCallable = codes "NotCallable"
name_of rules.NotArray = codes "NotArray"
name_of rules.NeedsIndex = codes "NeedsIndex"
name_of rules.AssignType = codes "AssignType"
name_of rules.ReturnType = codes "ReturnType"
name_of rules.OutsideLoop = codes "OutsideLoop"
name_of rules.Initialiser = codes "Initialiser"
name_of rules.ArraySize = codes "ArraySize"
name_of rules.TooManyLocals = codes "TooManyLocals"
name_of rules.TooDeep = codes "TooDeep"
name_of rules.Reserved = codes "Reserved"
name_of rules.TooManyParameters = codes "TooManyParameters"
