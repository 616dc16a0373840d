use Rattle.lang_rows.proofs.Staying.{run_stays, row_stays, beside_stays}
use Rattle.lang_rows.proofs.law.rows_stay.Goals as goal

pub returns-clause-run : goal.returns-clause-run
returns-clause-run c = λ s top higher ts us p g l ps n ran le e is. run_stays s top higher ts us le e p g l ps n ran is

pub returns-clause-row : goal.returns-clause-row
returns-clause-row c = λ s top higher ts us p r g l ps n row le e is. row_stays s top higher ts us le e p r g l ps n row is

pub returns-clause-beside : goal.returns-clause-beside
returns-clause-beside c = λ s top higher ts us p r g l ps n b le e is. beside_stays s top higher ts us le e p r g l ps n b is
