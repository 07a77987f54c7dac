-- Each instruction word of the text that an executable region begins with is fetched from its place.
use Rattle.pw_mem.proofs.Text.{fetch_word}
use Rattle.pw_mem.proofs.laws.text_is_fetched.Goals as goal

pub returns : goal.returns
returns c = fetch_word
