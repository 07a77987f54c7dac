-- Bytes are read as a type string exactly where they are one.
use Rattle.std.proofs.Common.{sym, ◌∙◌}
use Rattle.std.proofs.lemmas.Bool.{eqb-true, eq-eqb, false≢true}
use Rattle.pw_deps.proofs.TextTests.{empty_is_no_text, read_text}
use Rattle.pw_deps.proofs.type_texts.type_text.Goals as goal

pub returns-then-is_empty : goal.returns-then-is_empty
returns-then-is_empty c = empty_is_no_text c.args.bytes.now (eqb-true _ _ (sym c.is_empty.ensures ∙ c.if-is_empty.true))

pub returns : goal.returns
returns c = read_text c.args.bytes.now c.read.result (λ empty. false≢true (sym c.if-is_empty.false ∙ c.is_empty.ensures ∙ eq-eqb _ _ empty)) c.read.ensures
