-- What the proofs of other crates take from this one.
pub use Rattle.pw_lex.proofs.OneWay.{one_list, one_fault, not_both}
pub use Rattle.pw_lex.proofs.FirstBytes.{kind_class, token_begins}
