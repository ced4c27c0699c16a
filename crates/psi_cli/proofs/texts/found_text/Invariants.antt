use Rattle.std.proofs.Common.{◌≡◌, map, string_bytes, take}
use Rattle.psi_cli.specs.Texts.{found_text}
use Rattle.psi_cli.proofs.texts.found_text.Given as goal

abbrev pub invariant-loop-one : goal.invariant-loop-one
invariant-loop-one l = string_bytes l.text ≡ found_text (map (λ item. item.items) l.items) (take l.one-index l.found)
