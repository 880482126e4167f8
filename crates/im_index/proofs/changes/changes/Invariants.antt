use Rattle.im_index.proofs.changes.changes.Given as goal

abbrev pub ghosts-changes_counted : goal.ghosts-changes_counted
ghosts-changes_counted a = record { name = a.blank.name; parts = a.blank.parts }
