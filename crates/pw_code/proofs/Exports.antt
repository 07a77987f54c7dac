-- What crates above cite of the proofs here.
pub use Rattle.pw_code.proofs.Sizes.{size-append, size-load_immediate, size-fault, size-check_index, size-load_held, size-expression, size-arguments, size-statement, size-statements, size-optional, size-else, size-function}
pub use Rattle.pw_code.proofs.Immediates.{immediate_words_at_most, signed_words_at_most, size_words_at_most, line_words_at_most, rest_computed, within_all, narrow_fits, has_rest, words_at_once, words_with_rest, shorter_rest, load_at_once, load_after_rest, lower_fits_field, immediate_fits_field, upper_fits_field}
pub use Rattle.pw_code.proofs.Lengths.{fault_words_at_most, expression_is_short, arguments_are_short, statement_is_short, statements_are_short}
pub use Rattle.pw_code.proofs.WellTyped.{well_typed_is_short, small_body, function_is_short}
