-- What is wrong with a text that has no typed unit, and the words that say it.
use Rattle.std.specs.Prelude.{ℕ, List, Option, Some, None}
use Rattle.pw_types.specs.Messages.{rule_message}
use Rattle.pw_types.specs.declared.error.TypeError.TheVariants as types
use Rattle.pw_front.specs.declared.error.FrontError.{FrontError}
use Rattle.pw_front.specs.declared.error.FrontError.TheVariants as errors
use Rattle.pw_cmd.specs.declared.fault.FrontFault.{FrontFault}
use Rattle.pw_cmd.specs.declared.fault.FrontFault.TheVariants.{Lex, Syntax, Typing}
use Rattle.pw_front.specs.Messages.{lex_message, syntax_message}

-- what is wrong with the text; none where memory ran out
abbrev pub fault_of : FrontError → Option FrontFault
fault_of (errors.Lex fault line) = Some (Lex fault line)
fault_of (errors.Syntax fault line) = Some (Syntax fault line)
fault_of (errors.Typing (types.Broken rule at _)) = Some (Typing rule at)
fault_of (errors.Typing types.NoMemory) = None
fault_of errors.NoMemory = None

-- the fault in words
abbrev pub fault_text : FrontFault → List ℕ
fault_text (Lex fault line) = lex_message fault line
fault_text (Syntax fault line) = syntax_message fault line
fault_text (Typing rule at) = rule_message rule at
