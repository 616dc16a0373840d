use Rattle.qcanon.proofs.list.canon_list.Goals as goal

pub canon_list_with-requires-clause-forms : goal.canon_list_with-requires-clause-forms
canon_list_with-requires-clause-forms c = c.new-forms.ensures.right c.args.store.now
