use Rattle.psi_turnstile.proofs.turnstile.Turnstile.turn.Given as goal

abbrev pub ghosts-note : goal.ghosts-note
ghosts-note g a = record { log = g.B.Kept.entries a.book.now }
