use Rattle.qlin.proofs.Gcds.{content_divides, content_greatest}
use Rattle.qlin.proofs.laws.content_is_greatest.Goals as goal

pub returns : goal.returns
returns c = record { divides = λ ps. content_divides ps; greatest = λ ps d h. content_greatest ps d h }
