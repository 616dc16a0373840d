-- Each rule has its lemma.
use Rattle.cert_values.proofs.Ranging.{range_sound, ite_sound}
use Rattle.cert_values.proofs.Tabling.{table_sound}
use Rattle.cert_values.proofs.laws.keep_satisfiable.Goals as goal

pub returns : goal.returns
returns c = record {
  range = λ i items new s e. range_sound items new i s e;
  table = λ i u items new s e. table_sound items new i u s e;
  ite = λ i items new s e. ite_sound items new i s e;
}
