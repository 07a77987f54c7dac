-- An iteration puts the bytes of one word more.
use Rattle.std.proofs.Common.{◌++◌, ◌∙◌, ap, sym, take, get_or}
use Rattle.pw_mem.specs.Words.{text_bytes}
use Rattle.pw_image.proofs.WordBytes.{text_bytes-more, four_bytes}
use Rattle.pw_image.proofs.text.bytes_of.Goals as goal

pub loop-word-preserved : goal.loop-word-preserved
loop-word-preserved c =
    let ws = c.args.words.now in
    let i = c.loop-word.word-index in
    c.in_ok-extend_from_slice.ensures.items ∙ ap (λ items. items ++ c.to_le_bytes.result) c.loop-word.invariant
    ∙ ap (λ bytes. text_bytes (take i ws) ++ bytes) (c.to_le_bytes.ensures ∙ four_bytes (get_or ws i 0))
    ∙ sym (text_bytes-more ws i 0 c.loop-word-test.true)
