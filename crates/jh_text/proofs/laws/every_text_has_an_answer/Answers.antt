-- Each line leaves fewer bytes of the text, and what is left begins with a line or with none.
use Rattle.jh_text.proofs.Headers.{every_answer}
use Rattle.jh_text.proofs.laws.every_text_has_an_answer.Goals as goal

pub returns : goal.returns
returns c = every_answer
