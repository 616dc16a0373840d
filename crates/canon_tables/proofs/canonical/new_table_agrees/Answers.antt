use Rattle.canon_tables.proofs.canonical.new_table_agrees.Goals as goal

pub table_agrees-requires-clause-forms : goal.table_agrees-requires-clause-forms
table_agrees-requires-clause-forms c = c.new-forms.ensures.right c.args.store.now
