use Rattle.text_lines.proofs.CutLaws.{lines_are}
use Rattle.text_lines.proofs.lines.lines_are_the_text.Goals as goal

pub returns : goal.returns
returns c text = lines_are text
