-- The limits of the product, as numbers. Contracts cite these, and the constants of the code are held against them.
use Rattle.std.specs.Prelude.{ℕ}

-- the bytes of a source file or a manifest
abbrev pub source_bytes : ℕ
source_bytes = 1048576

-- the bytes of an object, a shared object or a saved image
abbrev pub file_bytes : ℕ
file_bytes = 67108864

-- the files that a command loads
abbrev pub files : ℕ
files = 1024

-- the bytes of a name
abbrev pub name_bytes : ℕ
name_bytes = 63

-- the tokens of a function
abbrev pub function_tokens : ℕ
function_tokens = 8192

-- the brackets that may be open at once
abbrev pub open_brackets : ℕ
open_brackets = 200

-- the parameters of a function
abbrev pub parameters : ℕ
parameters = 6

-- the parameters and locals of a function
abbrev pub locals : ℕ
locals = 120

-- the values that an expression or an assignment holds at once
abbrev pub held_values : ℕ
held_values = 100

-- the elements of an array
abbrev pub array_elements : ℕ
array_elements = 65536

-- the modules of a project
abbrev pub modules : ℕ
modules = 32

-- the units of a module
abbrev pub module_units : ℕ
module_units = 64

-- the modules that a module needs
abbrev pub module_needs : ℕ
module_needs = 64

-- the elements of the variables of a module, and so of a unit
abbrev pub module_elements : ℕ
module_elements = 262144

-- the external names of a module
abbrev pub module_names : ℕ
module_names = 16384

-- the bytes of text of a module
abbrev pub text_bytes : ℕ
text_bytes = 16777216

-- the calls that may be alive at once, that of `main` included
abbrev pub calls : ℕ
calls = 1000

-- the counted steps of a run where the arguments give none
abbrev pub default_steps : ℕ
default_steps = 1000000

-- the counted steps that the arguments may give at most
abbrev pub given_steps : ℕ
given_steps = 1000000000

-- the functions of a sample project, beside the two of its program
abbrev pub sample_functions : ℕ
sample_functions = 3500

-- ---- addresses

-- the distance between the bases of two modules; the first module has this base
abbrev pub module_span : ℕ
module_span = 67108864

-- where a module's text stands, from its base
abbrev pub text_offset : ℕ
text_offset = 16777216

-- where a module's data stand, from its base
abbrev pub data_offset : ℕ
data_offset = 33554432

-- the first address of the stack
abbrev pub stack_start : ℕ
stack_start = 4294967296

-- the bytes of the stack
abbrev pub stack_bytes : ℕ
stack_bytes = 2097152
