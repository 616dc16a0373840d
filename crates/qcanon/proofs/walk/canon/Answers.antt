use Rattle.qcanon.proofs.walk.canon.Goals as goal

pub canon_with-requires-clause-forms : goal.canon_with-requires-clause-forms
canon_with-requires-clause-forms c = c.new-forms.ensures.right c.args.store.now
