-- The limits of the code are those of the specification, each by its name.
use Rattle.std.specs.Prelude.{◌≡◌}
use Rattle.pw_base.specs.Limits as limit
use Rattle.pw_base.specs.declared.limits.TheConstants.Limits as code

-- each constant of the code is the number that stands in `Limits`
pub record LimitsAgree : Type 0 where
  pub source_bytes : code.SOURCE_BYTES ≡ limit.source_bytes
  pub file_bytes : code.FILE_BYTES ≡ limit.file_bytes
  pub files : code.FILES ≡ limit.files
  pub name_bytes : code.NAME_BYTES ≡ limit.name_bytes
  pub function_tokens : code.FUNCTION_TOKENS ≡ limit.function_tokens
  pub open_brackets : code.OPEN_BRACKETS ≡ limit.open_brackets
  pub parameters : code.PARAMETERS ≡ limit.parameters
  pub locals : code.LOCALS ≡ limit.locals
  pub held_values : code.HELD_VALUES ≡ limit.held_values
  pub array_elements : code.ARRAY_ELEMENTS ≡ limit.array_elements
  pub modules : code.MODULES ≡ limit.modules
  pub module_units : code.MODULE_UNITS ≡ limit.module_units
  pub module_needs : code.MODULE_NEEDS ≡ limit.module_needs
  pub module_elements : code.MODULE_ELEMENTS ≡ limit.module_elements
  pub module_names : code.MODULE_NAMES ≡ limit.module_names
  pub text_bytes : code.TEXT_BYTES ≡ limit.text_bytes
  pub calls : code.CALLS ≡ limit.calls
  pub steps : code.STEPS ≡ limit.default_steps
  pub given_steps : code.GIVEN_STEPS ≡ limit.given_steps
  pub sample_functions : code.SAMPLE_FUNCTIONS ≡ limit.sample_functions
  pub module_span : code.MODULE_SPAN ≡ limit.module_span
  pub text_offset : code.TEXT_OFFSET ≡ limit.text_offset
  pub data_offset : code.DATA_OFFSET ≡ limit.data_offset
  pub stack_start : code.STACK_START ≡ limit.stack_start
  pub stack_bytes : code.STACK_BYTES ≡ limit.stack_bytes
