use Rattle.lang_runs.proofs.Reducing.{prim_run}
use Rattle.lang_runs.proofs.Drawing.{prim_tally}
use Rattle.lang_runs.proofs.named.prim.Goals as goal

pub returns : goal.returns
returns c = record {
  run = λ setting ts env n chain v has deep limit pool known allowed. prim_run setting ts c.args.goal has c.args.name c.args.kind env c.args.limit limit n deep pool known chain v c.args.answer c.reduced.result allowed c.reduced.ensures;
  draws = λ old new keeps drawn. prim_tally c.args.goal c.args.name c.args.kind c.args.limit old new c.args.answer c.reduced.result c.reduced.ensures keeps drawn;
}
