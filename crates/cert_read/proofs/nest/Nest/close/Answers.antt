use Rattle.std.proofs.Common.{sym, subst}
use Rattle.tac_cert.specs.Accepts.{most_splits}
use Rattle.cert_read.specs.Nesting.{AreOpen}
use Rattle.cert_read.proofs.Nesting.{false_nests}
use Rattle.cert_read.proofs.nest.Nest.close.Goals as goal

pub put-requires : goal.put-requires
put-requires c =
    let room = c.requires.open.0 in
    record {
      «open» = (
        room,
        subst (λ v. AreOpen most_splits v.items room) (sym c.take_steps-steps.ensures.splits) c.requires.open.1,
        false_nests room c.args.item c.take_steps-steps.result,
      );
    }
